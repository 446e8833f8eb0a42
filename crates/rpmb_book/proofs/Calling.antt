-- Whatever is called on a book that was opened, its life goes on by turns that are right where they
-- stand.
use Rattle.std.proofs.Common.{◌≡◌, suc, Bool, true, false, List, [], ◌∷◌, ◌++◌, Option, Some, None}
use Rattle.std.proofs.Common.{length, ap, sym, ◌∙◌, subst, append-nil, append_assoc, arith, rules}
use Rattle.rpmb_book.proofs.Common.{◌&&◌, not, if◌then◌else◌, is_none, is_some, slice_get}
use Rattle.rpmb_book.proofs.Common.{slice_get_within, Partition, GuestConfig, Job, Tally}
use Rattle.rpmb_book.proofs.Common.{GuestState, first_due, Turn, Take, Settle, Collect, State}
use Rattle.rpmb_book.proofs.Common.{IsRight, move_some, marks_for, replay, IsLegal, fresh_guests}
use Rattle.rpmb_book.proofs.Common.{IsBounded, BookView, guest_of, refusal, submit_of, next_intent}
use Rattle.rpmb_book.proofs.Common.{due_of, after_submit, GoesOn, Lives, turn_if, IsAfter}
use Rattle.rpmb_book.proofs.Common.{answered_jobs, jobs_of}
use Rattle.rpmb_book.specs.Book.{may_settle, due_at}
use Rattle.std.specs.Prelude.{ℕ}
use Rattle.rpmb_book.specs.Book.{state}
use Rattle.rpmb_book.specs.Calls.{Call, ToSubmit, ToTake, ToSettle, ToBreakOff, ToCollect}
use Rattle.rpmb_book.specs.Calls.{after_call, after_calls, turns_of, turns_in, IsFresh, IsLived}
use Rattle.rpmb_book.specs.Calls.{IsToldAsAloneByCalls, IsOutcomeByCalls, IsAfterItsJobsByCalls}
use Rattle.rpmb_book.proofs.AskedLemmas.{after_its_jobs}
use Rattle.rpmb_book.proofs.Bounding.{bounded}
use Rattle.rpmb_book.proofs.IsolationLemmas.{as_alone}
use Rattle.rpmb_book.proofs.Living.{begins, leads_here, lived, one_if_not, one_if_so, stays}
use Rattle.rpmb_book.proofs.Living.{submit_goes_on}
use Rattle.rpmb_book.proofs.Marking.{length-marks_for, moves_for, within_for}
use Rattle.rpmb_book.proofs.OpeningLemmas.{opens}
use Rattle.rpmb_book.proofs.OutcomeLemmas.{of_the_list}
use Rattle.rpmb_book.proofs.Places.{all_at}
use Rattle.rpmb_book.proofs.Replay.{folds, legal-push}
use Rattle.rpmb_book.proofs.Taking.{right_collect, right_take}

some_same : {x y : GuestState} → Some x ≡ Some y → x ≡ y
some_same e = cc

-- each turn of a call is right where it stands
right_submit : (b : BookView) (tally : Tally) (job : Job) → IsBounded (state b)
    → is_none (refusal b tally job) ≡ true → IsRight (state b) (submit_of b job)
right_submit b tally job all is = grind (arith, all_at, slice_get_within)

take_right : (b : BookView) (shares : List ℕ) (n : ℕ) → is_some (next_intent b shares n) ≡ true
    → IsRight (state b) (Take n)
take_right b shares n is = grind (arith, right_take)

due_there : (o : Option GuestState) → is_some (due_at o) ≡ true → (g : GuestState) × (o ≡ Some g)
    × (is_some (first_due g.settled g.held) ≡ true)
due_there o is = grind arith

collect_right : (b : BookView) (n : ℕ) → is_some (due_of b n) ≡ true → IsRight (state b) (Collect n)
collect_right b n is = let d = due_there (guest_of b n) is in right_collect (state b) n d.0 d.1 d.2

settle_right : (b : BookView) (shares ms : List ℕ)
    → (may_settle b shares ms && move_some (state b).guests ms) ≡ true
    → IsRight (state b) (Settle (marks_for (length (state b).guests) ms))
settle_right b shares ms is = grind (arith, length-marks_for, moves_for, within_for)

unless : (b : Bool) → not b ≡ true → b ≡ false
unless b is = grind arith

-- a book that has lived these turns, each right where it stood
record HasLived (first : State) (turns : List Turn) (b : BookView) : Type 0 where
  legal : IsLegal first turns
  lives : Lives first turns b

legal_here : (first : State) (turns : List Turn) (b : BookView) → HasLived first turns b
    → IsLegal b.opening b.history
legal_here first turns b h = grind (arith, folds)

-- at most one right turn more
legal_if : (first : State) (turns : List Turn) (so : Bool) (t : Turn) → IsLegal first turns
    → (so ≡ true → IsRight (replay first turns) t) → IsLegal first (turns ++ turn_if so t)
legal_if first turns so t legal right = grind (arith, append-nil, legal-push)

one_on : (first : State) (turns : List Turn) (b c : BookView) (so : Bool) (t : Turn)
    → HasLived first turns b → (so ≡ true → IsRight (state b) t) → GoesOn b (turn_if so t) c
    → HasLived first (turns ++ turn_if so t) c
one_on first turns b c so t h right goes = grind (arith, leads_here, legal_if)

submit_if : (so : Bool) (b : BookView) (job : Job) → IsLegal b.opening b.history
    → GoesOn b (turn_if so (submit_of b job)) (if so then after_submit b job else b)
submit_if so b job legal = grind (arith, stays, submit_goes_on)

one_call : (first : State) (turns : List Turn) (b : BookView) (c : Call) → IsBounded first
    → HasLived first turns b → HasLived first (turns ++ turns_of b c) (after_call b c)
one_call first turns b (ToSubmit tally job) few h =
    search (rules, arith, bounded, leads_here, legal_here, one_on, right_submit, submit_if, h.lives)
one_call first turns b (ToTake shares n) few h =
    search (rules, arith, one_if_so, one_on, take_right)
one_call first turns b (ToSettle shares ms) few h =
    search (rules, arith, one_if_so, one_on, settle_right)
one_call first turns b ToBreakOff few h = search (rules, arith, one_if_not, one_on, unless)
one_call first turns b (ToCollect n) few h = search (rules, arith, collect_right, one_if_so, one_on)

all_calls : (first : State) (turns : List Turn) (b : BookView) (cs : List Call) → IsBounded first
    → HasLived first turns b → HasLived first (turns ++ turns_in b cs) (after_calls b cs)
all_calls first turns b [] few h = subst (λ (ts : List Turn). HasLived first ts b)
    (sym (append-nil turns)) h
all_calls first turns b (c ∷ cs) few h =
    grind (
      arith,
      append_assoc,
      (all_calls first (turns ++ turns_of b c) (after_call b c) cs few
          (one_call first turns b c few h)),
    )

-- a book that was opened, after all its calls
fresh_lives : (config : List GuestConfig) (partitions : List Partition) (b : BookView)
    (cs : List Call) → IsFresh config partitions b
    → HasLived b.opening (turns_in b cs) (after_calls b cs)
fresh_lives config partitions b cs f =
    let few = subst IsBounded (sym f.opening) (opens config partitions).bounded in
    let lives = subst (λ (ts : List Turn). Lives b.opening ts b) f.history (begins b f.folded) in
    all_calls b.opening [] b cs few (record { legal = tt; lives = lives })

pub lived_by_calls : IsLived
lived_by_calls config partitions b cs f = let h = fresh_lives config partitions b cs f in
    (h.lives, h.legal)

whole_at_first : (config : List GuestConfig) (partitions : List Partition) (b : BookView)
    → IsFresh config partitions b → b.opening.broken ≡ false
whole_at_first config partitions b f = ap (λ (s : State). s.broken) f.opening

pub alone_by_calls : IsToldAsAloneByCalls
alone_by_calls config partitions b cs g x f lasts at = grind (arith, as_alone, fresh_lives)

nothing_stored : (gs : List GuestConfig) (ps : List Partition) (g : ℕ) (x : GuestState)
    → slice_get (fresh_guests gs ps) g ≡ Some x → x.core.last ≡ None
nothing_stored (c ∷ gs) (p ∷ ps) (suc g) x at = nothing_stored gs ps g x at
nothing_stored gs ps g x at = grind arith

pub outcome_by_calls : IsOutcomeByCalls
outcome_by_calls config partitions b cs g x y f at last =
    let h = fresh_lives config partitions b cs f in
    let none = nothing_stored config partitions g x
    (ap (λ (s : State). slice_get s.guests g) (sym f.opening) ∙ at) in
    of_the_list g b.opening x y (turns_in b cs) at none
    (lived g b.opening (turns_in b cs) (after_calls b cs) y h.lives last)

pub after_jobs_by_calls : IsAfterItsJobsByCalls
after_jobs_by_calls config partitions b cs g x y f at last =
    let h = fresh_lives config partitions b cs f in
    let ts = turns_in b cs in
    subst (λ (broken : Bool). IsAfter x y (answered_jobs broken g ts) (jobs_of g ts))
    (whole_at_first config partitions b f)
    (after_its_jobs g b.opening x y ts at (lived g b.opening ts (after_calls b cs) y h.lives last))
