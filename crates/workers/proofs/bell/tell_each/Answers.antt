use Rattle.std.proofs.Common.{◌≡◌, subst, arith}
use Rattle.std.specs.Prelude.{nat_le}
use Rattle.workers.specs.Bell.{TellsBelow}
use Rattle.workers.proofs.bell.tell_each.Goals as goal

pub returns : goal.returns
returns c =
    let over : c.loop-i.i ≡ c.args.until = omega (
      arith,
      c.loop-i-test.false,
      c.loop-i.auto.i-end,
      c.requires.order,
    ) in
    subst (λ n. TellsBelow n (λ i. nat_le c.args.from i) c.args.lines.now c.loop-i.waits
    c.loop-i.lines) over c.loop-i.invariant
