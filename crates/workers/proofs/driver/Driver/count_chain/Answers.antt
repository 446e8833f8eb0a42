use Rattle.std.proofs.Common.{arith}
use Rattle.workers.proofs.Counting.{counted}
use Rattle.workers.proofs.driver.Driver.count_chain.Goals as goal

pub invariant_of-self : goal.invariant_of-self
invariant_of-self c =
    let s = c.args.self.now in
    let more = counted s.script.now s.next c.args.order.now c.requires.here in
    record { within = more.0; counted = omega (arith, s.counted, more.1, c.requires.chain) }
