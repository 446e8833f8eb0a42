use Rattle.std.proofs.Common.{◌≡◌, ◌≤◌, vec_len}
use Rattle.workers.specs.Driving.{GoesTo, at}
use Rattle.workers.proofs.driver.Driver.turn.Given as goal

abbrev pub invariant-loop-i : goal.invariant-loop-i
invariant-loop-i g l = (l.self.script ≡ l.fn.self.script)
    × (vec_len l.fn.self.answers ≤ vec_len l.self.answers) × (l.fn.self.next ≤ l.self.next)
    × (l.i ≡ 0 → (l.self.answers ≡ l.fn.self.answers) × (l.self.next ≡ l.fn.self.next))
    × GoesTo l.fn.number l.fn.self.script.now (at l.fn.self) (at l.self)
