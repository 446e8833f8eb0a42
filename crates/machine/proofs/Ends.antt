-- Where no reply of a guest may leave.
use Rattle.std.proofs.Common.{◌≡◌, ◌≢◌, refl, ap, sym, ◌∙◌, ℕ, Option, Some, None}
use Rattle.machine.proofs.Common.{slice_get, is_some, get_set_same, Done, BoardState, in_place, put}
use Rattle.machine.proofs.Common.{Answer, CollectsInto}
use Rattle.std.specs.Prelude.{if◌then◌else◌}
use Rattle.rpmb_book.specs.Book.{due_of, with_turn}
use Rattle.rpmb_book.specs.Turn.{Collect}
use Rattle.machine.specs.Serving.{HasNoReply}

-- a collection after which nothing lies in the reply's place
module _ {D : Type 0} (g : ℕ) (old : BoardState D) where
  unchanged : (new : BoardState D) → new ≡ old → in_place (slice_get new.dones g) ≡ None
      → slice_get old.dones g ≢ Some None → HasNoReply g new
  unchanged new is none other =
      record {
        place = none;
        due = λ there.
            absurd (other (sym (ap (λ b. slice_get b.dones g) is) ∙ there));
      }

  pub none_collected : (answer : Answer) (new : BoardState D) (place : Option (Option Done))
      → slice_get old.dones g ≡ place
      → CollectsInto g place answer old new → in_place (slice_get new.dones g) ≡ None
      → HasNoReply g new
  none_collected answer new None was does none = unchanged new does.1 none (λ is. absurd (cc))
  none_collected answer new (Some (Some r)) was does none =
      unchanged new does.1 none (λ is. absurd (cc))
  none_collected answer new (Some None) was does none = by (due_of old.book g) refl
    where
      by : (o : Option Done) → due_of old.book g ≡ o → HasNoReply g new
      by None is = record {
        place = none;
        due = λ there. ap (λ b. due_of b.book g) does.1
            ∙ ap (λ b. due_of b g) (ap (λ o. if is_some o then with_turn old.book (Collect g) else
            old.book) is) ∙ is;
      }
      by (Some r) is =
          let full = ap (λ b. slice_get b.dones g) does.1
          ∙ ap (λ o. slice_get (put old.dones g o) g) is
          ∙ get_set_same old.dones g None (Some r) was in
          absurd (let e = sym none ∙ ap in_place full in cc)

  -- and which changed nothing
  pub collected_same : (answer : Answer) (new : BoardState D) (place : Option (Option Done))
      → slice_get old.dones g ≡ place
      → CollectsInto g place answer old new → in_place (slice_get new.dones g) ≡ None → new ≡ old
  collected_same answer new None was does none = does.1
  collected_same answer new (Some (Some r)) was does none = does.1
  collected_same answer new (Some None) was does none = by (due_of old.book g) refl
    where
      by : (o : Option Done) → due_of old.book g ≡ o → new ≡ old
      by None is = does.1 ∙ ap (λ o. (let b : BoardState D = record old {
        book = if is_some o then with_turn old.book (Collect g) else old.book;
        dones = put old.dones g o;
      } in b)) is
      by (Some r) is =
          let full = ap (λ b. slice_get b.dones g) does.1
          ∙ ap (λ o. slice_get (put old.dones g o) g) is
          ∙ get_set_same old.dones g None (Some r) was in
          absurd (let e = sym none ∙ ap in_place full in cc)
