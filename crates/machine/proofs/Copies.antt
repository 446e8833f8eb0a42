-- Of all that is to be copied out for the guests of a machine their devices have copies.
use Rattle.std.proofs.Common.{◌≡◌, ◌≢◌, ◌∙◌, ℕ, zero, suc, List, [], ◌∷◌, Option, Some, None}
use Rattle.std.proofs.Common.{IfSome}
use Rattle.std.proofs.Common.{map, replicate, refl, ap, sym, subst, ⊎_elim}
use Rattle.flusher.proofs.Guests.{set_cases}
use Rattle.mmio_transport.specs.Asking.{known}
use Rattle.board.proofs.Doing.{set_same}
use Rattle.board.specs.Asking.{knowledge}
use Rattle.machine.proofs.Common.{slice_get, slice_set, AskingState, Boards, Range, Runs, Stand}
use Rattle.machine.specs.Ending.{Begins, left_by}
use Rattle.machine.specs.Machine.{HasCopies}
use Rattle.machine.specs.Serving.{HasParts}
use Rattle.machine.specs.Turn.{AreCopied, TurnState, fresh_turn}
use Rattle.machine.specs.declared.serving.Next.{Next}
use Rattle.machine.specs.declared.serving.Next.TheVariants as next
use Rattle.machine.proofs.Copied.{begins_copied, begins_know, copied_by, copied_of, copied_same}
use Rattle.machine.proofs.Copied.{copied_set, none_copied, runs_copied, runs_know, set_know}

pub copies_of : (turns : List TurnState) (b : Boards) (k : ℕ) (turn : TurnState) → HasCopies turns b
    → slice_get turns k ≡ Some turn → HasParts k turn.parts b
copies_of turns b k turn has its = subst (λ o. IfSome o (λ t. HasParts k t.parts b)) its
    (has.each k)

-- what the devices know is as it was
pub copies_same : (turns : List TurnState) (a b : Boards)
    → map knowledge b.devices ≡ map knowledge a.devices → HasCopies turns a → HasCopies turns b
copies_same turns a b same has =
    record { each = λ k. in_turn k (slice_get turns k) (has.each k) }
  where
    in_turn : (k : ℕ) (o : Option TurnState) → IfSome o (λ t. HasParts k t.parts a)
        → IfSome o (λ t. HasParts k t.parts b)
    in_turn k None has_k = tt
    in_turn k (Some t) has_k = copied_same k t.parts a b (ap (λ ks. slice_get ks k) same) has_k

-- one guest was served, or its device moved
pub copies_set : (turns : List TurnState) (guest : ℕ) (turn' : TurnState) (a b : Boards)
    → ((k : ℕ) → k ≢ guest
    → slice_get (map knowledge b.devices) k ≡ slice_get (map knowledge a.devices) k)
    → HasParts guest turn'.parts b → HasCopies turns a → HasCopies (slice_set turns guest turn') b
copies_set turns guest turn' a b know here has = record { each = λ k. in_turn k _ refl }
  where
    in_turn : (k : ℕ) (o : Option TurnState) → slice_get (slice_set turns guest turn') k ≡ o
        → IfSome o (λ t. HasParts k t.parts b)
    in_turn k None is = tt
    in_turn k (Some t) is = ⊎_elim
        (λ same. subst (λ x. HasParts k x.parts b) (sym same.1)
        (subst (λ n. HasParts n turn'.parts b) (sym same.0) here))
        (λ other. copied_same k t.parts a b (know k other.0) (copies_of turns a k t has other.1))
        (set_cases turns guest k turn' t is)

pub copies_lent : (turns : List TurnState) (guest : ℕ) (turn : TurnState) (a b : Boards)
    (d d' : AskingState) → slice_get turns guest ≡ Some turn → slice_get a.devices guest ≡ Some d
    → b.devices ≡ slice_set a.devices guest d' → d'.held ≡ d.held → HasCopies turns a
    → HasCopies turns b
copies_lent turns guest turn a b d d' at its after held has =
    subst (λ ts. HasCopies ts b) (set_same turns guest turn at)
    (copies_set turns guest turn a b (λ k other. set_know guest k other a b d' after)
    (copied_set guest turn.parts a b d d' its after
    (copied_by (known d) (known d') turn.parts held
    (copied_of guest turn.parts a d its (copies_of turns a guest turn has at)))) has)

-- nothing is to be copied out
pub copies_fresh : (count : ℕ) (b : Boards) → HasCopies (replicate count fresh_turn) b
copies_fresh count b = record { each = λ k. in_turn count k k }
  where
    in_turn : (count k n : ℕ) → IfSome (slice_get (replicate count fresh_turn) k)
        (λ t. HasParts n t.parts b)
    in_turn zero k n = tt
    in_turn (suc count) zero n = none_copied n b
    in_turn (suc count) (suc k) n = in_turn count k n

copied_tail : (part : Range) (ps : List Range) (o : Option AskingState)
    → IfSome o (λ d. AreCopied (known d) (part ∷ ps)) → IfSome o (λ d. AreCopied (known d) ps)
copied_tail part ps None has = tt
copied_tail part ps (Some d) has = has.1

first_in : (part : Range) (ps : List Range) (o : Option AskingState)
    → IfSome o (λ d. AreCopied (known d) (part ∷ ps))
    → IfSome o (λ d. AreCopied (known d) (part ∷ []))
first_in part ps None has = tt
first_in part ps (Some d) has = (has.0, tt)

pub copied_first : (guest : ℕ) (part : Range) (ps : List Range) (b : Boards)
    → HasParts guest (part ∷ ps) b → HasParts guest (part ∷ []) b
copied_first guest part ps b has = first_in part ps (slice_get b.devices guest) has

copied_left : (guest : ℕ) (n : Next) (turn : TurnState) (b : Boards)
    → HasParts guest (left_by (Some n) turn).parts b → HasParts guest turn.parts b
copied_left guest next.Again turn b has = has
copied_left guest (next.Read ask) turn b has = has
copied_left guest (next.Write part) turn b has =
    copied_tail part turn.parts (slice_get b.devices guest) has
copied_left guest next.Call turn b has = has
copied_left guest (next.Rest f) turn b has = has

module _ (guest most : ℕ) (s left : Stand) (old heard new : Boards) (n : Next) (turn : TurnState)
    (begins : Begins guest s old left heard)
    (runs : Runs guest most left heard (left_by (Some n) turn) new) where
  pub served_copied : HasParts guest s.parts old → HasParts guest turn.parts new
  served_copied has =
      copied_left guest n turn new
      (runs_copied guest most left (left_by (Some n) turn) heard new runs
      (begins_copied guest s left old heard begins has))

  pub served_know : (k : ℕ) → k ≢ guest
      → slice_get (map knowledge new.devices) k ≡ slice_get (map knowledge old.devices) k
  served_know k other =
      runs_know guest k other most left (left_by (Some n) turn) heard new runs
      ∙ begins_know guest k other s left old heard begins
