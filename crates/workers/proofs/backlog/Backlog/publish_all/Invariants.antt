use Rattle.std.proofs.Common.{◌≡◌}
use Rattle.workers.specs.Turns.{Flows}
use Rattle.workers.proofs.backlog.Backlog.publish_all.Given as goal

abbrev pub invariant-loop-i : goal.invariant-loop-i
invariant-loop-i g l = (l.self.tally ≡ l.fn.self.tally) × (l.self.jobs ≡ l.fn.self.jobs)
    × Flows l.fn.self.dones.items 0 l.i l.self.dones.items
