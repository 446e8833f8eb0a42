use Rattle.std.proofs.Common.{◌≡◌}
use Rattle.workers.proofs.backlog.prepare_each.Given as goal

abbrev pub invariant-loop-job : goal.invariant-loop-job
invariant-loop-job l = l.jobs ≡ l.fn.jobs
