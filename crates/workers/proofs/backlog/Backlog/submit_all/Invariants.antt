use Rattle.std.proofs.Common.{◌≡◌, ◌+◌}
use Rattle.workers.specs.Turns.{Flows}
use Rattle.workers.proofs.backlog.Backlog.submit_all.Given as goal

abbrev pub invariant-loop-i : goal.invariant-loop-i
invariant-loop-i g l = (l.self.tally.guest ≡ l.fn.self.tally.guest)
    × (l.self.dones ≡ l.fn.self.dones)
    × (l.self.tally.count ≡ l.fn.self.tally.count + l.i)
    × Flows l.fn.self.jobs.items 0 l.i l.self.jobs.items
