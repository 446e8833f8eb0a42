use Rattle.disk.proofs.Fills.{IsFilled}
use Rattle.disk.proofs.filling.fill.Given as goal

abbrev pub invariant-loop-i : goal.invariant-loop-i
invariant-loop-i l = IsFilled l.bytes l.unsynced l.fn.seen.items l.seen.items l.count l.i
