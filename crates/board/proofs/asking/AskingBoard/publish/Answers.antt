use Rattle.std.proofs.Common.{◌≡◌, Some, None, refl, sym, subst, ◌∙◌, arith, ap}
use Rattle.board.proofs.Common.{slice_get, slice_set, in_place, IsSound}
use Rattle.board.specs.Asking.{HandsReply, board_of}
use Rattle.board.specs.State.{emptied_at}
use Rattle.std.specs.Option.{option_copied}
use Rattle.board.proofs.AskingSteps.{asked, hands, lent, room_of}
use Rattle.board.proofs.Doing.{full_at}
use Rattle.board.proofs.Moving.{sound_moved}
use Rattle.board.proofs.asking.AskingBoard.publish.Goals as goal

pub invariant_of-self-in-Some-take_done : goal.invariant_of-self-in-Some-take_done
invariant_of-self-in-Some-take_done g c =
    let shows = g.D.Disk.state in
    let makes = g.D.Disk.makes in
    let i = c.self.inside in
    let w = c.what_always_holds.ensures in
    let b = asked i.devices.items i.rest in
    let at = c.from-at.result in
    let below = c.if-at-len.false in
    let long = c.len.ensures in
    let done = c.in-Some-take_done.done in
    let lay : in_place (slice_get i.rest.dones at) ≡ Some done =
    sym c.take_done.ensures.taken ∙ c.in-Some-take_done.is in
    let its = lent i.devices.items at c.index_mut.result.now (omega (arith, below, long))
    c.index_mut.ensures.value in
    let room = room_of i.devices.items at c.index.result.now c.index_mut.result.now
    (in_place (slice_get i.rest.dones at)) c.in-Some.done.now done
    (lent i.devices.items at c.index.result.now (omega (arith, below, long)) c.index.ensures) its
    (subst (λ k. in_place (slice_get i.rest.dones k) ≡ Some c.in-Some.done.now)
    (sym c.from-at.ensures) (sym c.done.ensures ∙ ap option_copied c.in-Some.is)) lay
    (c.lacks.ensures.none c.in_default-lacks.is) in
    let hand = hands shows makes g.met.D.Disk.effect b c.self.invariant w at c.index_mut.result.now
    c.publish.new.self done c.publish.result
    (slice_set i.rest.dones at None) lay its
    c.publish.ensures.publishes c.publish.ensures.fits room refl in
    subst (λ r. IsSound shows (board_of (asked (slice_set i.devices.items at c.publish.new.self)
    r))) (sym (c.take_done.ensures.state ∙ ap (λ ds. record i.rest { dones = ds })
    (ap (emptied_at i.rest.dones at) (full_at (slice_get i.rest.dones at) done (sym lay)))))
    (sound_moved shows makes (board_of b) _ c.self.invariant hand.moves)

pub returns-in-Some-take_done : goal.returns-in-Some-take_done
returns-in-Some-take_done g c =
    let shows = g.D.Disk.state in
    let makes = g.D.Disk.makes in
    let i = c.self.inside in
    let w = c.what_always_holds.ensures in
    let b = asked i.devices.items i.rest in
    let at = c.from-at.result in
    let below = c.if-at-len.false in
    let long = c.len.ensures in
    let done = c.in-Some-take_done.done in
    let ds = slice_set i.devices.items at c.publish.new.self in
    let lay : in_place (slice_get i.rest.dones at) ≡ Some done =
    sym c.take_done.ensures.taken ∙ c.in-Some-take_done.is in
    let its = lent i.devices.items at c.index_mut.result.now (omega (arith, below, long))
    c.index_mut.ensures.value in
    let room = room_of i.devices.items at c.index.result.now c.index_mut.result.now
    (in_place (slice_get i.rest.dones at)) c.in-Some.done.now done
    (lent i.devices.items at c.index.result.now (omega (arith, below, long)) c.index.ensures) its
    (subst (λ k. in_place (slice_get i.rest.dones k) ≡ Some c.in-Some.done.now)
    (sym c.from-at.ensures) (sym c.done.ensures ∙ ap option_copied c.in-Some.is)) lay
    (c.lacks.ensures.none c.in_default-lacks.is) in
    let hand = hands shows makes g.met.D.Disk.effect b c.self.invariant w at c.index_mut.result.now
    c.publish.new.self done c.publish.result
    (slice_set i.rest.dones at None) lay its
    c.publish.ensures.publishes c.publish.ensures.fits room refl in
    subst (λ k. HandsReply shows makes k c.publish.result c.args.self.now
    (asked ds c.take_done.new.self)) c.from-at.ensures
    (subst (λ v. HandsReply shows makes at c.publish.result v (asked ds c.take_done.new.self))
    c.self.view_is
    (subst (λ r. HandsReply shows makes at c.publish.result b (asked ds r))
    (sym (c.take_done.ensures.state ∙ ap (λ dones. record i.rest { dones = dones })
    (ap (emptied_at i.rest.dones at) (full_at (slice_get i.rest.dones at) done (sym lay))))) hand))
