use Rattle.std.proofs.Common.{length, refl, ap, subst, ◌∙◌, Ok, Some, false, true, []}
use Rattle.machine.proofs.Common.{OutboxMakes, outbox_state, stand_of, standing}
use Rattle.board.specs.Asking.{PublishesOf}
use Rattle.machine.proofs.Replies.{handed_count, hands_by, hands_does, noted_reply}
use Rattle.machine.proofs.Popping.{still_by}
use Rattle.machine.proofs.leaving.publish.Goals as goal

pub returns-in-Err-clause-runs : goal.returns-in-Err-clause-runs
returns-in-Err-clause-runs c most =
    let w = c.args.turn.now.looked in
    still_by c.args.guest most true w (stand_of c.void.new.self) c.args.board.now
    c.publish.new.self (ap stand_of c.void.ensures ∙ ap (λ v. standing [] v w) c.requires.begun)
    c.in-Err.ensures.same

pub returns-in-Ok-Some-Wrote-clause-runs : goal.returns-in-Ok-Some-Wrote-clause-runs
returns-in-Ok-Some-Wrote-clause-runs c most =
    let g = c.args.guest in
    let b = c.args.board.now in
    let o = c.in-Ok-Some-Wrote in
    let hands = subst (λ p. PublishesOf outbox_state OutboxMakes g (Ok p) b c.publish.new.self)
    (o.field-0-is ∙ ap Some o.field-0-0-is) o.ensures in
    let t = c.args.turn.now in
    hands_by g most t.looked t.parts _ _ b c.publish.new.self hands
    (ap (λ v. standing v.parts false v.looked) c.turn.view_is)
    (noted_reply g t.parts b hands.device hands.done c.requires.noted hands.lay hands.its)

pub returns-in-Ok-Some-Dropped-clause-runs : goal.returns-in-Ok-Some-Dropped-clause-runs
returns-in-Ok-Some-Dropped-clause-runs c most =
    let g = c.args.guest in
    let b = c.args.board.now in
    let o = c.in-Ok-Some-Dropped in
    let hands = subst (λ p. PublishesOf outbox_state OutboxMakes g (Ok p) b c.publish.new.self)
    (o.field-0-is ∙ ap Some o.field-0-0-is) o.ensures in
    hands_by g most c.args.turn.now.looked [] _ _ b c.publish.new.self hands
    (ap stand_of c.stop.ensures)
    refl

pub returns-in-Ok-Some-Wrote-clause-did : goal.returns-in-Ok-Some-Wrote-clause-did
returns-in-Ok-Some-Wrote-clause-did c is most =
    let g = c.args.guest in
    let b = c.args.board.now in
    let o = c.in-Ok-Some-Wrote in
    let hands = subst (λ p. PublishesOf outbox_state OutboxMakes g (Ok p) b c.publish.new.self)
    (o.field-0-is ∙ ap Some o.field-0-0-is) o.ensures in
    let t = c.args.turn.now in
    hands_does g most t.looked t.parts _ _ b c.publish.new.self hands
    (ap (λ v. standing v.parts false v.looked) c.turn.view_is)
    (noted_reply g t.parts b hands.device hands.done c.requires.noted hands.lay hands.its)

pub returns-in-Ok-Some-Dropped-clause-did : goal.returns-in-Ok-Some-Dropped-clause-did
returns-in-Ok-Some-Dropped-clause-did c is most =
    let g = c.args.guest in
    let b = c.args.board.now in
    let o = c.in-Ok-Some-Dropped in
    let hands = subst (λ p. PublishesOf outbox_state OutboxMakes g (Ok p) b c.publish.new.self)
    (o.field-0-is ∙ ap Some o.field-0-0-is) o.ensures in
    hands_does g most c.args.turn.now.looked [] _ _ b c.publish.new.self hands
    (ap stand_of c.stop.ensures)
    refl

pub returns-in-Err-clause-count : goal.returns-in-Err-clause-count
returns-in-Err-clause-count c = ap (λ b. length b.devices) c.in-Err.ensures.same

pub returns-in-Ok-Some-Wrote-clause-count : goal.returns-in-Ok-Some-Wrote-clause-count
returns-in-Ok-Some-Wrote-clause-count c =
    let o = c.in-Ok-Some-Wrote in
    handed_count c.args.guest _ c.args.board.now c.publish.new.self
    (subst (λ p. PublishesOf outbox_state OutboxMakes c.args.guest (Ok p) c.args.board.now
    c.publish.new.self) (o.field-0-is ∙ ap Some o.field-0-0-is) o.ensures)

pub returns-in-Ok-Some-Dropped-clause-count : goal.returns-in-Ok-Some-Dropped-clause-count
returns-in-Ok-Some-Dropped-clause-count c =
    let o = c.in-Ok-Some-Dropped in
    handed_count c.args.guest _ c.args.board.now c.publish.new.self
    (subst (λ p. PublishesOf outbox_state OutboxMakes c.args.guest (Ok p) c.args.board.now
    c.publish.new.self) (o.field-0-is ∙ ap Some o.field-0-0-is) o.ensures)
