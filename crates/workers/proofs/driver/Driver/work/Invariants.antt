use Rattle.std.proofs.Common.{◌≡◌}
use Rattle.workers.specs.Driving.{GoesTo, at}
use Rattle.workers.proofs.driver.Driver.work.Given as goal

abbrev pub invariant-loop : goal.invariant-loop
invariant-loop g l = (l.self.script ≡ l.fn.self.script)
    × GoesTo l.fn.number l.fn.self.script.now (at l.fn.self) (at l.self)
