-- A life goes on by the turns of each call, and a fold keeps it.
use Rattle.std.proofs.Common.{◌≡◌, ℕ, ◌+◌, Bool, List, [], ◌∷◌, ◌++◌, Some, length, refl, ap, sym}
use Rattle.std.proofs.Common.{◌∙◌, subst, append-nil, append_assoc, length-append, arith}
use Rattle.rpmb_book.proofs.Common.{not, if◌then◌else◌, slice_get, Job, GuestState, Turn, State}
use Rattle.rpmb_book.proofs.Common.{after_turn, replay, IsLegal, BookView, submit_of, with_turn}
use Rattle.rpmb_book.proofs.Common.{after_submit, folded, roomy, GoesOn, Lives, turn_if}
use Rattle.rpmb_book.specs.Book.{state}
use Rattle.rpmb_book.specs.Life.{Begins}
use Rattle.rpmb_book.proofs.Rolling.{longest}

-- turns after turns
pub replay-append : (s : State) (ts us : List Turn) → replay s (ts ++ us) ≡ replay (replay s ts) us
replay-append s [] us = refl
replay-append s (t ∷ ts) us = replay-append (after_turn s t) ts us

legal-append : (s : State) (ts us : List Turn) → IsLegal s ts → IsLegal (replay s ts) us
    → IsLegal s (ts ++ us)
legal-append s [] us legal more = more
legal-append s (t ∷ ts) us legal more = (legal.0, legal-append (after_turn s t) ts us legal.1 more)

legal-front : (s : State) (ts us : List Turn) → IsLegal s (ts ++ us) → IsLegal s ts
legal-front s [] us legal = tt
legal-front s (t ∷ ts) us legal = (legal.0, legal-front (after_turn s t) ts us legal.1)

pub begins : Begins
begins b none = record { gone = []; all = refl; legal = tt; opening = refl; folded = none }

-- no turn, and one turn more
pub stays : (b : BookView) → GoesOn b [] b
stays b first turns l = record {
  gone = l.gone;
  all = append-nil turns ∙ l.all;
  legal = l.legal;
  opening = l.opening;
  folded = l.folded;
}

one_more : (b : BookView) (t : Turn) → GoesOn b (t ∷ []) (with_turn b t)
one_more b t first turns l = grind (arith, append_assoc)

pub one_if_so : (so : Bool) (b : BookView) (t : Turn)
    → GoesOn b (turn_if so t) (if so then with_turn b t else b)
one_if_so so b t = grind (arith, one_more, stays)

pub one_if_not : (so : Bool) (b : BookView) (t : Turn)
    → GoesOn b (turn_if (not so) t) (if so then b else with_turn b t)
one_if_not so b t = grind (arith, one_more, stays)

-- what a fold lets go is gone then, and no turn is lost
fold_goes_on : (b : BookView) → IsLegal b.opening b.history → GoesOn b [] (folded b)
fold_goes_on b legal first turns l =
    let w = longest b in
    let ts = w.0 in
    let c = folded b in
    let front = legal-front b.opening ts c.history (subst (λ (hs : List Turn). IsLegal b.opening hs)
    w.1.history legal) in
    record {
      gone = l.gone ++ ts;
      all = append-nil turns ∙ l.all ∙ ap (λ (hs : List Turn). l.gone ++ hs) w.1.history
          ∙ sym (append_assoc l.gone ts c.history);
      legal = legal-append first l.gone ts l.legal
          (subst (λ (s : State). IsLegal s ts) l.opening front);
      opening = w.1.opening ∙ ap (λ (s : State). replay s ts) l.opening
          ∙ sym (replay-append first l.gone ts);
      folded = w.1.folded ∙ ap (λ n. n + length ts) l.folded ∙ sym (length-append l.gone ts);
    }

pub room_goes_on : (b : BookView) → IsLegal b.opening b.history → GoesOn b [] (roomy b)
unfolding roomy
room_goes_on b legal = grind (arith, fold_goes_on, stays)

pub submit_goes_on : (b : BookView) (job : Job) → IsLegal b.opening b.history
    → GoesOn b (submit_of b job ∷ []) (after_submit b job)
submit_goes_on b job legal first turns l =
    let t = submit_of b job in
    subst (λ (ts : List Turn). Lives first (ts ++ t ∷ []) (after_submit b job)) (append-nil turns)
    (one_more (roomy b) t first (turns ++ []) (room_goes_on b legal first turns l))

-- where a life leads
pub leads_here : (first : State) (turns : List Turn) (b : BookView) → Lives first turns b
    → state b ≡ replay first turns
leads_here first turns b l = grind (arith, replay-append)

pub all_legal : (first : State) (turns : List Turn) (b : BookView) → Lives first turns b
    → IsLegal b.opening b.history → IsLegal first turns
all_legal first turns b l legal = grind (arith, legal-append)

-- a guest of the book is one after its whole life
pub lived : (g : ℕ) (first : State) (turns : List Turn) (b : BookView) (y : GuestState)
    → Lives first turns b → slice_get (state b).guests g ≡ Some y
    → slice_get (replay first turns).guests g ≡ Some y
lived g first turns b y l last =
    ap (λ (s : State). slice_get s.guests g) (sym (leads_here first turns b l)) ∙ last
