-- Which call comes next, and what it makes of the guests and of the header.
use Rattle.std.proofs.Common.{◌≡◌, ◌↔◌, ◌≤◌, inl, inr, ⊎_elim, Bool, true, false, Option, Some}
use Rattle.std.proofs.Common.{None, Result, Ok, ℕ, List, [], ◌∷◌, length, map, length-set, get_or}
use Rattle.std.proofs.Common.{refl, ap, sym, ◌∙◌, subst, arith}
use Rattle.flusher.proofs.Common.{slice_get, slice_set, position, if◌then◌else◌, ◌||◌, list_any}
use Rattle.flusher.proofs.Common.{common_steps, position-Some, slice_get-get_or, slice_get_within}
use Rattle.flusher.proofs.Common.{get_or_from_slice_get, DiskState, DiskCall, Write, Sync, Effect}
use Rattle.flusher.proofs.Common.{during, Within, Still, Then, Guest, Slot, Turn, First, Second}
use Rattle.flusher.proofs.Common.{Neither, other_side, Plan, WriteOf, SyncAll, Nothing, Progress}
use Rattle.flusher.proofs.Common.{Synced, Idle, with_marks, StoreFault, is_empty, slot_write}
use Rattle.flusher.proofs.Common.{slot_writes, turn_of, write_in, region_of, side_behind}
use Rattle.flusher.proofs.Common.{guest_write, guest_has_write, guest_awaits, guest_after_write}
use Rattle.flusher.proofs.Common.{guest_after_sync, marks_of, plan_at, planned, AllEmpty, Ends}
use Rattle.flusher.proofs.Common.{Round, AllFit}
use Rattle.std.specs.List.{position_or_len}
use Rattle.std.proofs.lemmas.List.{length-map}
use Rattle.std.proofs.lemmas.List.Sums.{fails_before_first}
use Rattle.std.proofs.lemmas.List.Folds.{list_any_at, list_any_none}
use Rattle.flusher.specs.declared.progress.Made.{Made}
use Rattle.flusher.specs.declared.progress.Made.TheVariants as made
use Rattle.flusher.specs.Slot.{slot_awaits}
use Rattle.flusher.specs.Round.{settles, MovedBy, Moves, FrontStays}
use Rattle.flusher.proofs.Guests.{set_cases, map_cases}
use Rattle.flusher.proofs.Held.{not_in}
use Rattle.flusher.proofs.Turns.{side_ok}
use Rattle.flusher.proofs.Writes.{write_fits, within}

-- 1. No call

-- a slot is empty where it neither writes nor waits
empty_of : (slot : Option Slot) → slot_writes slot ≡ false → slot_awaits slot ≡ false
    → is_empty slot ≡ true
empty_of slot w a = grind arith

neither : (a b : Bool) → (a || b) ≡ false → (a ≡ false) × (b ≡ false)
neither a b is = grind arith

empty_guest : (x : Guest) → guest_has_write x ≡ false → guest_awaits x ≡ false
    → (is_empty x.slot ≡ true) × (is_empty x.behind ≡ true)
empty_guest x w a = grind arith

quiet : (x : Guest) → (is_empty x.slot ≡ true) × (is_empty x.behind ≡ true)
    → (guest_has_write x ≡ false) × (guest_awaits x ≡ false)
quiet x is = grind arith

no_write : (xs : List Guest) → position guest_has_write xs ≡ None → (g : ℕ) (x : Guest)
    → slice_get xs g ≡ Some x → guest_has_write x ≡ false
no_write xs none g x at =
    let past : length xs ≤ position_or_len guest_has_write xs = grind (arith, common_steps) in
    let below = slice_get_within xs g x at in
    sym (ap guest_has_write (get_or_from_slice_get xs g x x at))
    ∙ fails_before_first guest_has_write xs g x (omega arith)

no_wait : (xs : List Guest) → list_any guest_awaits xs ≡ false → (g : ℕ) (x : Guest)
    → slice_get xs g ≡ Some x → guest_awaits x ≡ false
no_wait xs none g x at = of (guest_awaits x) refl
  where
    of : (b : Bool) → guest_awaits x ≡ b → guest_awaits x ≡ false
    of false is = is
    of true is = absurd (let found = list_any_at guest_awaits xs g x (slice_get_within xs g x at)
        (ap guest_awaits (get_or_from_slice_get xs g x x at) ∙ is) in cc)

plan_nothing : (o : Option ℕ) (b : Bool) → plan_at o b ≡ Nothing → (o ≡ None) × (b ≡ false)
plan_nothing o b e = grind arith

none_writes : (xs : List Guest) → AllEmpty xs → position guest_has_write xs ≡ None
none_writes [] all = refl
none_writes (y ∷ ys) all = of (position guest_has_write (y ∷ ys)) refl
  where
    of : (o : Option ℕ) → position guest_has_write (y ∷ ys) ≡ o → position guest_has_write (y ∷ ys)
        ≡ None
    of None is = is
    of (Some g) is = absurd (
        let first = position-Some guest_has_write (y ∷ ys) g y is in
        let x = get_or (y ∷ ys) g y in
        let none = (quiet x (all g x (slice_get-get_or (y ∷ ys) g y first.0))).0 in
        cc (first.1, none))

pub nothing_where_empty : (xs : List Guest) → planned xs ≡ Nothing ↔ AllEmpty xs
nothing_where_empty xs = (
  λ is g x at. (let none = plan_nothing _ _ is in
      empty_guest x (no_write xs none.0 g x at) (no_wait xs none.1 g x at)),
  λ all. (
      let waits = list_any_none guest_awaits xs (λ k d lt.
      (quiet (get_or xs k d) (all k (get_or xs k d) (slice_get-get_or xs k d lt))).1) in
      ap (λ (o : Option ℕ). plan_at o (list_any guest_awaits xs)) (none_writes xs all)
      ∙ ap (λ (b : Bool). plan_at None b) waits),
)

-- 2. The guests

module _ {D : Type 0} (makes : D → DiskCall → D → Type 0) (od : D) (old : List Guest)
    (result : Result Progress StoreFault) (nd : D) (new : List Guest) (broken : Bool) where
  moves_write : (n : ℕ) (z : Guest) → slice_get old n ≡ Some z
      → new ≡ slice_set old n (guest_after_write z) → settles result ≡ false
      → (g : ℕ) (x y : Guest) → slice_get old g ≡ Some x → slice_get new g ≡ Some y
      → MovedBy (settles result) x y
  moves_write n z is slots none g x y before after =
      subst (λ (b : Bool). MovedBy b x y) (sym none) (⊎_elim
      (λ e. (let same : z ≡ x = (let f : slice_get old n ≡ Some x = ap (slice_get old) (sym e.0)
      ∙ before in cc) in inr (e.1 ∙ ap guest_after_write same)))
      (λ e. (let same : x ≡ y = (cc) in inl (sym same)))
      (set_cases old n g (guest_after_write z) y (subst (λ (l : List Guest). slice_get l g ≡ Some y)
      slots after)))

  moves_sync : new ≡ map guest_after_sync old → settles result ≡ true
      → (g : ℕ) (x y : Guest) → slice_get old g ≡ Some x → slice_get new g ≡ Some y
      → MovedBy (settles result) x y
  moves_sync slots all g x y before after = grind (arith, map_cases)

  synced_moves : (ok : Bool) → new ≡ (if ok then map guest_after_sync old else old)
      → Ends ok (Synced (marks_of new)) result broken → Moves result old new
  synced_moves ok slots e = grind (arith, length-map, moves_sync)

  moves_by_plan : (p : Plan) → Round makes p od old result nd new broken → Moves result old new
  moves_by_plan p r = grind (arith, length-set, moves_write, synced_moves)

  pub round_moves : Round makes (planned old) od old result nd new broken → Moves result old new
  round_moves = moves_by_plan (planned old)

  idle_plan : (p : Plan) → Round makes p od old result nd new broken
      → result ≡ Ok Idle ↔ p ≡ Nothing
  idle_plan p r = grind arith

  pub round_idle : Round makes (planned old) od old result nd new broken
      → result ≡ Ok Idle ↔ AllEmpty old
  round_idle r = (let one = idle_plan (planned old) r in let two = nothing_where_empty old in
      ((λ is. two.0 (one.0 is)), λ all. one.1 (two.1 all)))

-- what was told is what was made
pub made_idle : (guests : List Guest) (r : Result Made StoreFault) → with_marks guests r ≡ Ok Idle
    → r ≡ Ok made.Idle
made_idle guests r is = grind arith

-- 3. The header

pub at_start : (s : DiskState) → FrontStays s s
at_start s k lt = (refl, λ un. un)

module _ {D : Type 0} (state : D → DiskState) (makes : D → DiskCall → D → Type 0)
    (effect : (old new : D) (call : DiskCall) → makes old call new
    → Effect (state old) call (state new))
    (len : ℕ) (od : D) (old : List Guest) (result : Result Progress StoreFault) (nd : D)
    (new : List Guest) (broken : Bool) (fits : AllFit len old) (known : (state od).faithful
    ≡ true) where
  abbrev AtFront : DiskState → Type 0
  AtFront = FrontStays (state od)

  -- a guest's write goes behind the header
  behind_in : (t : Turn) (g : ℕ) (x : Guest) (at : ℕ) (bytes : List ℕ) → slice_get old g ≡ Some x
      → write_in t x ≡ Some (at, bytes) → 1024 ≤ at
  behind_in First g x at bytes is next = grind (arith, write_fits)
  behind_in Second g x at bytes is next =
      let f = fits.each g x is in
      let from = (within (region_of x) (side_behind x) (side_ok (region_of x) (other_side x.side))
      (slot_write x.behind) (at, bytes) (write_fits (region_of x) (side_behind x) x.behind (
        at,
        bytes,
      ) f.behind_fits next) next).0 in
      omega (arith, f.behind)
  behind_in Neither g x at bytes is next = absurd (cc)

  goes_behind : (g : ℕ) (x : Guest) (at : ℕ) (bytes : List ℕ) → slice_get old g ≡ Some x
      → guest_write x ≡ Some (at, bytes) → 1024 ≤ at
  goes_behind g x at bytes is next = behind_in (turn_of x) g x at bytes is next

  in_write : (at : ℕ) (bytes : List ℕ) (ok : Bool) → 1024 ≤ at
      → AtFront (during (state od) (Write at bytes ok))
  in_write at bytes ok le k lt = (
    refl,
    λ un. not_in at (length bytes) k ((state od).unsynced k) (inl (omega (arith, le, lt)))
        un,
  )

  after_call : (at : ℕ) (bytes : List ℕ) (ok : Bool) → 1024 ≤ at → makes od (Write at bytes ok) nd
      → AtFront (state nd)
  after_call at bytes ok le made k lt = grind arith

  front_by_plan : (p : Plan) → Round makes p od old result nd new broken
      → Within state makes AtFront od nd
  front_by_plan (WriteOf g) r =
      (let w = r.wrote in let le = goes_behind g w.guest w.at w.bytes w.is w.next in
      Then od od nd (Write w.at w.bytes r.ok) (Still od (at_start (state od))) w.call
      (in_write w.at w.bytes r.ok le) (after_call w.at w.bytes r.ok le w.call))
  front_by_plan SyncAll r = (let e = effect od nd (Sync r.ok) r.synced.call in
      Then od od nd (Sync r.ok) (Still od (at_start (state od))) r.synced.call (at_start (state od))
      (λ k lt. (e.seen known k, λ un. e.unsynced known k un)))
  front_by_plan Nothing r = subst (λ (d : D). Within state makes AtFront od d) (sym r.1)
      (Still od (at_start (state od)))

  pub round_front : Round makes (planned old) od old result nd new broken
      → Within state makes AtFront od nd
  round_front = front_by_plan (planned old)
