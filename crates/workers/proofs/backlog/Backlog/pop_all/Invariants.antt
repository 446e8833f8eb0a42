use Rattle.std.proofs.Common.{◌≡◌}
use Rattle.workers.specs.Turns.{Flows}
use Rattle.workers.proofs.backlog.Backlog.pop_all.Given as goal

abbrev pub invariant-loop-i : goal.invariant-loop-i
invariant-loop-i g l = (l.self.tally ≡ l.fn.self.tally) × (l.self.dones ≡ l.fn.self.dones)
    × Flows l.fn.self.jobs.items l.i 0 l.self.jobs.items
