use Rattle.std.proofs.Common.{◌≡◌, ◌∙◌, Some, ap, refl, subst, sym, true}
use Rattle.std.specs.Prelude.{slice_get, slice_set}
use Rattle.flusher.specs.Store.{is_free}
use Rattle.board.specs.State.{in_place}
use Rattle.workers.specs.Keeping.{LetsKey}
use Rattle.workers.proofs.KeeperSteps.{gave, no_book}
use Rattle.workers.proofs.Keeping.{keeps_given}
use Rattle.workers.proofs.flushing.Flusher.give.Goals as goal

pub returns-clause-left : goal.returns-clause-left
returns-clause-left g c =
    let i = c.args.self.now in
    let e = c.give.ensures in
    let intent = c.in-Some.intent.now in
    let own = c.if-not-takes.ensures.own refl in
    let may = c.if-not-takes.ensures.may refl in
    let lets = c.if-not-takes.ensures.lets refl in
    let lies : in_place (slice_get i.keeper.intents c.args.guest) ≡ Some intent =
    sym c.in-Some.ensures in
    let free = subst (λ n. is_free i.keeper.store.guests n ≡ true) own may.free in
    let did = gave no_book no_book i.keeper c.give.new.self c.args.guest
    (is_free i.keeper.store.guests c.args.guest) (in_place
    (slice_get i.keeper.intents c.args.guest))
    intent c.give.result (e.gives no_book) free lies in (
      (λ first keeps. keeps_given g.D.Disk.state g.D.Disk.makes first
          (record { store = i.keeper.store; keys = i.keys.items })
          (record {
            store = c.give.new.self.store;
            keys = slice_set i.keys.items c.from.result (Some c.key.result.now);
          }) intent keeps e.stays.1 e.stays.2 may
          (subst (λ n. LetsKey (slice_get i.keys.items n) intent.group.key) (sym own)
          lets) (e.given intent lies did)
          (ap (λ n. slice_set i.keys.items n (Some c.key.result.now)) (c.from.ensures ∙ sym own)
          ∙ ap (λ key. slice_set i.keys.items intent.guest (Some key)) c.key.ensures) e.held),
      (λ told.
          e.stays.2 ∙ told),
    )
