-- What a whole round keeps, over any disk.
use Rattle.std.proofs.Common.{◌≡◌, Bool, true, false, not, Option, Some, None, Result, Ok, ℕ, List}
use Rattle.std.proofs.Common.{map, refl, ap, sym, ◌∙◌, ⊎_elim, subst}
use Rattle.flusher.proofs.Common.{slice_get, slice_set, if◌then◌else◌, DiskState, DiskCall, Write}
use Rattle.flusher.proofs.Common.{Sync, Effect, during, Within, Still, Then, Writes, Syncs, Guest}
use Rattle.flusher.proofs.Common.{Progress, Wrote, Synced, StoreFault, marks_of, Part, region_of}
use Rattle.flusher.proofs.Common.{guest_write, guest_after_write, guest_after_sync, IsKept}
use Rattle.flusher.proofs.Common.{guest_row, guest_seen, guest_settled, settled_by, IsHeld, Plan}
use Rattle.flusher.proofs.Common.{WriteOf, SyncAll, Nothing, planned, Ends, Round, written_at}
use Rattle.flusher.proofs.Common.{under_way_by, under_way}
use Rattle.flusher.specs.SlotInvariant.{EachStop}
use Rattle.flusher.specs.Round.{parts_after}
use Rattle.flusher.proofs.Guests.{set_cases}
use Rattle.flusher.proofs.Table.{t_range, t_write, t_seen, t_stands, t_moved, t_frame, t_seen_frame}
use Rattle.flusher.proofs.Table.{t_synced, t_synced_seen, region_moved, region_synced}
use Rattle.flusher.proofs.Held.{Touches, touches_written, touches_during}
use Rattle.flusher.proofs.Held as held_of

module _ (parts : ℕ → Part) (xs : List Guest) (s t : DiskState) where
  pub stops : (broken : Bool) → IsHeld parts xs broken s → EachStop parts xs s
  stops = held_of.stops region_of guest_row guest_seen guest_write guest_after_write
      guest_after_sync guest_settled IsKept region_moved region_synced t_frame t_seen_frame t_range
      t_write t_seen t_synced t_synced_seen t_stands t_moved parts xs s t

  pub held_write : (g : ℕ) (x : Guest) (at : ℕ) (bytes : List ℕ) → IsHeld parts xs false s
      → slice_get xs g ≡ Some x → guest_write x ≡ Some (at, bytes) → Touches at bytes s t
      → (ok : Bool) → Writes at bytes ok s t → IsHeld parts (slice_set xs g (guest_after_write x))
      (not ok) t
  held_write = held_of.held_write region_of guest_row guest_seen guest_write guest_after_write
      guest_after_sync guest_settled IsKept region_moved region_synced t_frame t_seen_frame t_range
      t_write t_seen t_synced t_synced_seen t_stands t_moved parts xs s t

  pub stops_before : (g : ℕ) (x : Guest) (at : ℕ) (bytes : List ℕ) → IsHeld parts xs false s
      → slice_get xs g ≡ Some x → guest_write x ≡ Some (at, bytes) → Touches at bytes s t
      → EachStop parts (slice_set xs g (guest_after_write x)) s
  stops_before = held_of.stops_before region_of guest_row guest_seen guest_write guest_after_write
      guest_after_sync guest_settled IsKept region_moved region_synced t_frame t_seen_frame t_range
      t_write t_seen t_synced t_synced_seen t_stands t_moved parts xs s t

  pub stops_written : (g : ℕ) (x : Guest) (at : ℕ) (bytes : List ℕ) → IsHeld parts xs false s
      → slice_get xs g ≡ Some x → guest_write x ≡ Some (at, bytes) → Touches at bytes s t
      → EachStop parts (slice_set xs g (guest_after_write x)) t
  stops_written = held_of.stops_written region_of guest_row guest_seen guest_write guest_after_write
      guest_after_sync guest_settled IsKept region_moved region_synced t_frame t_seen_frame t_range
      t_write t_seen t_synced t_synced_seen t_stands t_moved parts xs s t

  pub stops_synced : (ok : Bool) → Syncs ok s t → s.faithful ≡ true → (broken : Bool)
      → IsHeld parts xs broken s → EachStop parts xs t
  stops_synced = held_of.stops_synced region_of guest_row guest_seen guest_write guest_after_write
      guest_after_sync guest_settled IsKept region_moved region_synced t_frame t_seen_frame t_range
      t_write t_seen t_synced t_synced_seen t_stands t_moved parts xs s t

  pub held_failed : (ok : Bool) → Syncs ok s t → s.faithful ≡ true → IsHeld parts xs false s
      → IsHeld parts xs true t
  held_failed = held_of.held_failed region_of guest_row guest_seen guest_write guest_after_write
      guest_after_sync guest_settled IsKept region_moved region_synced t_frame t_seen_frame t_range
      t_write t_seen t_synced t_synced_seen t_stands t_moved parts xs s t

  pub held_synced : (ok : Bool) → Syncs ok s t → s.faithful ≡ true → ok ≡ true
      → IsHeld parts xs false s → IsHeld (λ g. settled_by guest_settled (slice_get xs g) (parts g))
      (map guest_after_sync xs) false t
  held_synced = held_of.held_synced region_of guest_row guest_seen guest_write guest_after_write
      guest_after_sync guest_settled IsKept region_moved region_synced t_frame t_seen_frame t_range
      t_write t_seen t_synced t_synced_seen t_stands t_moved parts xs s t

module _ {D : Type 0} (state : D → DiskState) (makes : D → DiskCall → D → Type 0)
    (effect : (old new : D) (call : DiskCall) → makes old call new
    → Effect (state old) call (state new))
    (parts : ℕ → Part) (od : D) (old : List Guest) (result : Result Progress StoreFault) (nd : D)
    (new : List Guest) (broken : Bool) where
  ended : (ok : Bool) → Ends ok Wrote result broken → IsHeld parts new (not ok) (state nd)
      → IsHeld (parts_after result old parts) new broken (state nd)
  ended true e held =
      subst (λ (r : Result Progress StoreFault).
      IsHeld (parts_after r old parts) new broken (state nd)) (sym e.0)
      (subst (λ (b : Bool). IsHeld parts new b (state nd)) (sym e.1) held)
  ended false e held =
      subst (λ (r : Result Progress StoreFault).
      IsHeld (parts_after r old parts) new broken (state nd)) (sym e.0)
      (subst (λ (b : Bool). IsHeld parts new b (state nd)) (sym e.1) held)

  synced : (ok : Bool) → makes od (Sync ok) nd
      → new ≡ (if ok then map guest_after_sync old else old)
      → Ends ok (Synced (marks_of new)) result broken → IsHeld parts old false (state od)
      → IsHeld (parts_after result old parts) new broken (state nd)
  synced true call slots e held =
      subst (λ (r : Result Progress StoreFault).
      IsHeld (parts_after r old parts) new broken (state nd)) (sym e.0)
      (subst (λ (b : Bool). IsHeld (parts_after (Ok (Synced (marks_of new))) old parts) new b
      (state nd)) (sym e.1)
      (subst (λ (l : List Guest). IsHeld (parts_after (Ok (Synced (marks_of new))) old parts) l
      false (state nd)) (sym slots) (held_synced parts old (state od) (state nd) true
      (effect od nd (Sync true) call) held.known refl held)))
  synced false call slots e held =
      subst (λ (r : Result Progress StoreFault).
      IsHeld (parts_after r old parts) new broken (state nd)) (sym e.0)
      (subst (λ (b : Bool). IsHeld parts new b (state nd)) (sym e.1)
      (subst (λ (l : List Guest). IsHeld parts l true (state nd)) (sym slots)
      (held_failed parts old (state od) (state nd) false (effect od nd (Sync false) call)
      held.known held)))

  by_plan : (p : Plan) → Round makes p od old result nd new broken
      → IsHeld parts old false (state od) → IsHeld (parts_after result old parts) new broken
      (state nd)
  by_plan (WriteOf g) r held =
      (let w = r.wrote in ended r.ok r.ends
      (subst (λ (l : List Guest). IsHeld parts l (not r.ok) (state nd)) (sym w.slots)
      (held_write parts old (state od) (state nd) g w.guest w.at w.bytes held w.is w.next
      (touches_written w.at w.bytes r.ok (state od) (state nd) held.known
      (effect od nd (Write w.at w.bytes r.ok) w.call)) r.ok
      (effect od nd (Write w.at w.bytes r.ok) w.call))))
  by_plan SyncAll r held = synced r.ok r.synced.call r.synced.slots r.ends held
  by_plan Nothing r held =
      subst (λ (v : Result Progress StoreFault).
      IsHeld (parts_after v old parts) new broken (state nd)) (sym r.0)
      (subst (λ (b : Bool). IsHeld parts new b (state nd)) (sym r.3)
      (subst (λ (l : List Guest). IsHeld parts l false (state nd)) (sym r.2)
      (subst (λ (d : D). IsHeld parts old false (state d)) (sym r.1) held)))

  -- the guests while a write of one of them is under way
  way_of : (g : ℕ) (x : Guest) → slice_get old g ≡ Some x → written_at old g (slice_get old g)
      ≡ slice_set old g (guest_after_write x)
  way_of g x is = ap (written_at old g) is

  stops_by_plan : (p : Plan) → Round makes p od old result nd new broken
      → IsHeld parts old false (state od) → Within state makes (EachStop parts (under_way_by p old))
      od nd
  stops_by_plan (WriteOf g) r held =
      let w = r.wrote in
      let mid = touches_during w.at w.bytes r.ok (state od) in
      subst (λ (l : List Guest). Within state makes (EachStop parts l) od nd)
      (sym (way_of g w.guest w.is))
      (Then od od nd (Write w.at w.bytes r.ok)
      (Still od (stops_before parts old (state od) (during (state od) (Write w.at w.bytes r.ok))
      g w.guest w.at w.bytes held w.is w.next mid)) w.call
      (stops_written parts old (state od) (during (state od) (Write w.at w.bytes r.ok)) g w.guest
      w.at w.bytes held w.is w.next mid)
      (stops_written parts old (state od) (state nd) g w.guest w.at w.bytes held w.is w.next
      (touches_written w.at w.bytes r.ok (state od) (state nd) held.known
      (effect od nd (Write w.at w.bytes r.ok) w.call))))
  stops_by_plan SyncAll r held =
      Then od od nd (Sync r.ok) (Still od (stops parts old (state od) (state od) false held))
      r.synced.call (stops parts old (state od) (state od) false held)
      (stops_synced parts old (state od) (state nd) r.ok (effect od nd (Sync r.ok) r.synced.call)
      held.known false held)
  stops_by_plan Nothing r held = subst (λ (d : D). Within state makes (EachStop parts old) od d)
      (sym r.1) (Still od (stops parts old (state od) (state od) false held))

  pub round_held : Round makes (planned old) od old result nd new broken
      → IsHeld parts old false (state od) → IsHeld (parts_after result old parts) new broken
      (state nd)
  round_held = by_plan (planned old)

  pub round_stops : Round makes (planned old) od old result nd new broken
      → IsHeld parts old false (state od) → Within state makes (EachStop parts (under_way old)) od
      nd
  unfolding under_way
  round_stops = stops_by_plan (planned old)

module _ (parts : ℕ → Part) (broken : Bool) (xs : List Guest) (s : DiskState)
    (held : IsHeld parts xs broken s) where
  -- A store that is broken makes no call; what stands is told of the guests as if it made it.
  way_stands : (p : Plan) → EachStop parts (under_way_by p xs) s
  way_stands (WriteOf g) = of (slice_get xs g) refl
    where
      of : (o : Option Guest) → slice_get xs g ≡ o → EachStop parts (written_at xs g o) s
      of None at = stops parts xs s s broken held
      of (Some x) at = λ h y here c left. ⊎_elim
          (λ e. subst (λ (v : Guest). IsKept (parts h) v c) (sym e.1)
          (t_moved (parts h) x c (held.rows h x (ap (slice_get xs) e.0 ∙ at) c left)))
          (λ e. stops parts xs s s broken held h y e.1 c left)
          (set_cases xs g h (guest_after_write x) y here)
  way_stands SyncAll = stops parts xs s s broken held
  way_stands Nothing = stops parts xs s s broken held

  pub broken_stops : EachStop parts (under_way xs) s
  unfolding under_way
  broken_stops = way_stands (planned xs)
