use Rattle.std.proofs.Common.{arith, subst}
use Rattle.world.proofs.Common.{AreFresh}
use Rattle.world.proofs.Keeping.{fresh_more, fresh_none}
use Rattle.world.proofs.stage.new_logs.Goals as goal

pub loop-guest-init : goal.loop-guest-init
loop-guest-init c = fresh_none _ c.in_ok-logs.ensures.items

pub loop-guest-preserved : goal.loop-guest-preserved
loop-guest-preserved c = fresh_more c.loop-guest.guest c.loop-guest.logs.items _ c.new.result
    c.loop-guest.invariant c.new.ensures.accepted c.new.ensures.published c.new.ensures.popped
    c.in_ok-push.ensures.items

pub returns : goal.returns
returns c = (let over = c.loop-guest-test.false in let end = c.loop-guest.auto.guest-end in
    subst (λ n. AreFresh n c.loop-guest.logs.items) (omega (arith, over, end))
    c.loop-guest.invariant)
