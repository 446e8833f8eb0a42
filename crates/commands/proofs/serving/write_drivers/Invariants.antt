use Rattle.std.proofs.Common.{map, take}
use Rattle.commands.proofs.Common.{Appends, guests_lines}
use Rattle.commands.proofs.serving.write_drivers.Given as goal

abbrev pub invariant-loop-guest : goal.invariant-loop-guest
invariant-loop-guest g l = Appends (g.W.Write.contents l.fn.out) (g.W.Write.contents l.out)
    (guests_lines 0 (map (λ e. e.answers.items) (take l.guest l.drivers)))
