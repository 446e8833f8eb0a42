-- What was handed on as far as it could be.
use Rattle.std.proofs.Common.{◌≡◌, ◌≢◌, refl, ap, sym, subst, ◌∙◌, ℕ, Bool, true, false, Ok, Err}
use Rattle.std.proofs.Common.{Option, None, Some, Result}
use Rattle.std.specs.Prelude.{slice_get, is_some, if◌then◌else◌}
use Rattle.flusher.proofs.Plans.{nothing_where_empty, round_idle}
use Rattle.flusher.specs.Progress.{Progress, Wrote, Synced, Idle}
use Rattle.flusher.specs.Round.{call_of}
use Rattle.flusher.specs.Store.{is_free, next_call}
use Rattle.flusher.specs.declared.progress.StoreFault.{StoreFault}
use Rattle.board.specs.Steps.{Advances, advance_answer, given_answer}
use Rattle.board.specs.declared.step.Seen.TheVariants.{Nothing}
use Rattle.board.specs.declared.step.Step.TheVariants as step
use Rattle.machine.proofs.Common.{AdvancesUnder, Answer, BoardState, Boards, Fault, GivesWhere}
use Rattle.machine.proofs.Common.{Intent, Makes, Marks, OutboxMakes, OutboxState, Report, SettlesBy}
use Rattle.machine.proofs.Common.{TakesInto, board_of, in_place, outbox_state, put}
use Rattle.rpmb_book.specs.Book.{next_intent, share_moved, with_turn}
use Rattle.rpmb_book.specs.Turn.{Take}
use Rattle.machine.specs.Ending.{HasRoomForNone, IsHandedOn}
use Rattle.machine.specs.Serving.{is_write}

-- 1. A write that comes next is made

idled : (r : Result Progress StoreFault) → advance_answer r ≡ Ok Nothing → r ≡ Ok Idle
idled (Ok Wrote) is = absurd (let no = is in cc)
idled (Ok (Synced marks)) is = absurd (let no = is in cc)
idled (Ok Idle) is = refl
idled (Err e) is = absurd (let no = is in cc)

advanced : (v : Bool) (answer : Answer) (old new : BoardState OutboxState)
    → old.store.broken ≡ v → is_write (next_call v old.store.guests) ≡ true
    → Advances outbox_state OutboxMakes answer old new → answer ≢ Ok Nothing
advanced true answer old new broken write does same = absurd (let no = write in cc)
advanced false answer old new broken write does same =
    let gs = old.store.guests in
    let idle = idled does.progress (sym does.answers ∙ same) in
    let empty = (round_idle OutboxMakes old.store.disk gs does.progress does.store.disk
    does.store.guests does.store.broken (does.round broken)).0 idle in
    let none = ap (λ p. is_write (call_of p)) ((nothing_where_empty gs).1 empty) in
    absurd (let a = none in let b = write in cc)

pub write_made : (answer : Answer) (a b : Boards) → a.rest.report ≡ None
    → is_write (next_call a.rest.store.broken a.rest.store.guests) ≡ true
    → Makes step.Advance answer a b → answer ≢ Ok Nothing
write_made answer a b report write makes =
    advanced a.rest.store.broken answer (board_of a) (board_of b) refl write
    (subst (λ (r : Option Report). AdvancesUnder outbox_state OutboxMakes r answer (board_of a)
    (board_of b)) report makes.steps.does)

-- 2. Where the board is as it was

pub handed_same : (guest : ℕ) (a b : Boards) → board_of b ≡ board_of a
    → IsHandedOn guest a.rest → IsHandedOn guest b.rest
handed_same guest a b same handed = record {
  heard = ap (λ v. v.report) same ∙ handed.heard;
  place = λ i is. ap (λ v. is_free v.store.guests guest) same
      ∙ handed.place i (sym (ap (λ v. in_place (slice_get v.intents guest)) same) ∙ is);
  due = λ is. ap (λ v. next_intent v.book v.shares guest) same
      ∙ handed.due (sym (ap (λ v. slice_get v.intents guest) same) ∙ is);
  room = subst (λ v. HasRoomForNone v) (sym same) handed.room;
}

-- 3. Where none of the steps did anything

settles_none : (r : Option Report) (old new : BoardState OutboxState) → old.report ≡ r
    → SettlesBy r (Ok Nothing) old new → (new ≡ old) × (new.report ≡ None)
settles_none None old new is does = (does.1, ap (λ b. b.report) does.1 ∙ is)
settles_none (Some (Marks marks)) old new is does = absurd (let no = does.0 in cc)
settles_none (Some Fault) old new is does = absurd (let no = does.0 in cc)

module _ (g : ℕ) (old new : BoardState OutboxState) where
  abbrev HasNoneDue : Type 0
  HasNoneDue = slice_get new.intents g ≡ Some None → next_intent new.book new.shares g ≡ None

  takes_none : (place : Option (Option Intent)) → slice_get old.intents g ≡ place
      → TakesInto g place (Ok Nothing) old new → (new ≡ old) × HasNoneDue
  takes_none None is does = (
    does.1,
    λ here. absurd (let e = sym here ∙ ap (λ b. slice_get b.intents g) does.1 ∙ is in cc),
  )
  takes_none (Some (Some i)) is does = (
    does.1,
    λ here. absurd (let e = sym here ∙ ap (λ b. slice_get b.intents g) does.1 ∙ is in cc),
  )
  takes_none (Some None) is does = by (next_intent old.book old.shares g) refl
    where
      by : (o : Option Intent) → next_intent old.book old.shares g ≡ o → (new ≡ old) × HasNoneDue
      by (Some i) next = absurd (let e = does.0 ∙ ap given_answer next in cc)
      by None next =
          let same : new ≡ old = does.1 ∙ ap (λ o. (let b : BoardState OutboxState = record old {
            book = if is_some o then with_turn old.book (Take g) else old.book;
            shares = share_moved old.shares g o;
            intents = put old.intents g o;
          } in b)) next in
          (same, λ here. ap (λ b. next_intent b.book b.shares g) same ∙ next)

  gives_none : (free : Bool) (i : Option Intent) → is_free old.store.guests g ≡ free
      → in_place (slice_get old.intents g) ≡ i → GivesWhere g free i (Ok Nothing) old new
      → (new ≡ old)
      × ((j : Intent) → in_place (slice_get new.intents g) ≡ Some j
      → is_free new.store.guests g ≡ false)
  gives_none false i free is does =
      (does.1, λ j at. ap (λ b. is_free b.store.guests g) does.1 ∙ free)
  gives_none true None free is does = (
    does.1,
    λ j at. absurd (let e = sym at ∙ ap (λ b. in_place (slice_get b.intents g)) does.1 ∙ is in cc),
  )
  gives_none true (Some i) free is does = absurd (let no = does.0 in cc)

pub handed_on : (g : ℕ) (a b d e f : Boards) → Makes step.Settle (Ok Nothing) a b
    → Makes (step.Take g) (Ok Nothing) b d → Makes (step.Give g) (Ok Nothing) d e
    → (e.rest.report ≡ None → (board_of f ≡ board_of e) × HasRoomForNone f.rest)
    → IsHandedOn g f.rest × (board_of f ≡ board_of a)
handed_on g a b d e f settles takes gives writes =
    let told = settles_none _ (board_of a) (board_of b) refl settles.steps.does in
    let took = takes_none g (board_of b) (board_of d) _ refl takes.steps.does in
    let gave = gives_none g (board_of d) (board_of e) _ _ refl refl gives.steps.does in
    let wrote = writes (ap (λ v. v.report) (gave.0 ∙ took.0) ∙ told.1) in
    let none : HasNoneDue g (board_of b) (board_of d) = took.1 in
    let room = subst (λ v. HasRoomForNone v) wrote.0 wrote.1 in (
      handed_same g e f wrote.0 (record {
        heard = ap (λ v. v.report) (gave.0 ∙ took.0) ∙ told.1;
        place = gave.1;
        due = λ here. ap (λ v. next_intent v.book v.shares g) gave.0
            ∙ none (sym (ap (λ v. slice_get v.intents g) gave.0) ∙ here);
        room = room;
      }),
      wrote.0 ∙ gave.0 ∙ took.0 ∙ told.0,
    )
