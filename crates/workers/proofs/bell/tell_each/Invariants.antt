use Rattle.std.specs.Prelude.{nat_le}
use Rattle.workers.specs.Bell.{TellsBelow}
use Rattle.workers.proofs.bell.tell_each.Given as goal

abbrev pub invariant-loop-i : goal.invariant-loop-i
invariant-loop-i l = TellsBelow l.i (λ i. nat_le l.from i) l.initial.lines l.waits l.lines
