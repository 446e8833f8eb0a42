use Rattle.std.proofs.Common.{ap, length, arith}
use Rattle.machine.proofs.Formatting.{format_keeps}
use Rattle.machine.proofs.opening.format_all.Goals as goal

pub copy_from_slice-requires : goal.copy_from_slice-requires
copy_from_slice-requires c =
    let keeps = format_keeps _ _ _ c.format2.ensures.order in
    let content = ap length c.content.ensures in
    let made = ap length c.new-disk.ensures in
    let long = c.in-Ok.ensures.len in
    omega (arith, keeps, content, made, long)
