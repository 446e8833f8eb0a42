use Rattle.std.proofs.Common.{◌-◌}
use Rattle.std.specs.Prelude.{◌&&◌, nat_le}
use Rattle.workers.specs.Bell.{TellsBelow, has_moved}
use Rattle.workers.proofs.bell.tell_moved.Given as goal

abbrev pub invariant-loop-i : goal.invariant-loop-i
invariant-loop-i l = TellsBelow l.i (λ i. nat_le 64 i && has_moved l.before l.now (i - 64))
    l.initial.lines l.waits l.lines
