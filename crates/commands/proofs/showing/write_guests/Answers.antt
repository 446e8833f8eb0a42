use Rattle.std.proofs.Common.{arith}
use Rattle.commands.proofs.Listed.{no_guests, one_guest}
use Rattle.commands.proofs.showing.write_guests.Goals as goal

pub loop-guest-init : goal.loop-guest-init
loop-guest-init g c = no_guests _ _ _

pub loop-guest-preserved : goal.loop-guest-preserved
loop-guest-preserved g c =
    one_guest _ (g.W.Write.contents c.loop-guest.out) _ c.args.as_json c.args.partitions.now
    c.loop-guest.guest
    c.index-partitions-guest.result c.loop-guest.invariant
    c.loop-guest-test.true c.index-partitions-guest.is c.in_ok-write_guest.ensures.printed
    c.write_guest.ensures.whole

pub returns-clause-whole : goal.returns-clause-whole
returns-clause-whole g c k d below =
    c.loop-guest.invariant.whole k d (let past = c.loop-guest-test.false in
    omega (arith, below, past))
