use Rattle.std.proofs.Common.{◌≡◌}
use Rattle.workers.proofs.backlog.close_each.Given as goal

abbrev pub invariant-loop-due : goal.invariant-loop-due
invariant-loop-due l = l.dues ≡ l.fn.dues
