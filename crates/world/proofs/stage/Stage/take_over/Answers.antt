use Rattle.std.proofs.Common.{ap, arith, length}
use Rattle.world.proofs.stage.Stage.take_over.Goals as goal

pub keep_prefixes-requires : goal.keep_prefixes-requires
keep_prefixes-requires c =
    let logs = ap length c.deref_mut.ensures.value in
    let many = c.requires.logs c.if-self-gt0.true in
    let few = c.guests-count.ensures.in_range.count.1 in
    omega (arith, logs, many, few)
