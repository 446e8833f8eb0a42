-- What the threads of a serve leave of the image.
use Rattle.std.proofs.Common.{◌≡◌, ◌⊎◌, inl, inr, ◌∙◌, ℕ, ◌<◌, ◌≤◌, ◌%◌, Bool, true, false, List}
use Rattle.std.proofs.Common.{[], ◌++◌, Option, Some, None, Result, Ok, Err, length, take, drop}
use Rattle.std.proofs.Common.{append-nil, refl, ap, ap₂, sym, subst, arith}
use Rattle.commands.proofs.Common.{OnOk, slice_get, length-map, get_or_from_slice_get}
use Rattle.commands.proofs.Common.{slice_get_cases, sequence, GuestConfig, DiskCall, DiskState}
use Rattle.commands.proofs.Common.{HasRisen, Still, Within, within_end, capacities_of, region_at}
use Rattle.commands.proofs.Common.{part_of, Guest, mark_of, Untouched, Begins, bases_of, BoardState}
use Rattle.commands.proofs.Common.{AreOf, Fault}
use Rattle.std.specs.Prelude.{position, IfSome}
use Rattle.std.proofs.lemmas.List.{take-append-drop}
use Rattle.std.proofs.Math.Nat.{mod-eq_of_lt}
use Rattle.rpmb_frame.specs.Partition.{Partition}
use Rattle.std.specs.List.{list_any}
use Rattle.rpmb_frame.specs.Partition.{empty_partition}
use Rattle.disk.proofs.Ways.{within_weaker}
use Rattle.intent_slots.specs.Payload.{Intent}
use Rattle.intent_slots.specs.Recovered as recovered
use Rattle.intent_slots.specs.Recovered.{Part}
use Rattle.flusher.specs.declared.progress.Call.TheVariants as call
use Rattle.flusher.specs.Pair.{guest_awaits, guest_has_write, opening_of, or_else, region_of}
use Rattle.flusher.specs.Round.{AllEmpty, call_of, plan_at}
use Rattle.flusher.specs.Slot.{is_empty, opening_in}
use Rattle.flusher.specs.SlotInvariant.{BeforeOrAfter, sequence_of_part}
use Rattle.flusher.specs.Store.{StoreState}
use Rattle.flusher.specs.declared.slot.Slot.{Slot}
use Rattle.flusher.proofs.Kept.{stops}
use Rattle.flusher.proofs.Plans.{nothing_where_empty}
use Rattle.recovery.specs.Opening.{part_or, parts_of}
use Rattle.rpmb_book.specs.Book.{BookView, state}
use Rattle.workers.specs.Following.{IsAtRest}
use Rattle.workers.specs.Keeping.{AreNext, HasKeys, IsInTurn, Keeps, KeepsGuests, LeavesWhole}
use Rattle.workers.specs.Keeping.{Reaches, after_all, to_keep}
use Rattle.workers.proofs.Following.{first_nothing}
use Rattle.flusher.specs.Pair.{listed, pending_intents}
use Rattle.flusher.specs.Slot.{pending_of}
use Rattle.commands.specs.ServedImage.{HoldsSome, LeavesAll, LeavesSome, ServeKeeps, ServeMoments}
use Rattle.commands.specs.ServedImage.{ServesImage}
use Rattle.commands.specs.declared.fault.Fault.TheVariants as fault
use Rattle.commands.specs.Ending.{IsOfReading}
use Rattle.commands.specs.Fault.{fault_of_image}
use Rattle.recovery.specs.declared.fault.OpenFault.{OpenFault}
use Rattle.recovery.specs.declared.fault.OpenFault.TheVariants as image

there : {X : Type 0} (xs : List X) (n : ℕ) → n < length xs → (y : X) × (slice_get xs n ≡ Some y)
there xs n inside = elim (slice_get_cases xs n).1 [
  | inl found ↦ (found.0, found.2)
  | inr past ↦ (let beyond = past.0 in absurd (omega (arith, beyond, inside)))
]

pub few_guests : (n m : ℕ) → n ≡ m → m ≤ 64 → n % 65536 ≡ m
few_guests n m same few = mod-eq_of_lt (omega (arith, same, few)) ∙ same

-- 1. A store at rest has nothing under way

called_none : (write : Option ℕ) (waits : Bool) → call_of (plan_at write waits) ≡ call.None
    → (write ≡ None) × (waits ≡ false)
called_none (Some g) waits is = absurd (cc)
called_none None true is = absurd (cc)
called_none None false is = (refl, refl)

rests_empty : (broken : Bool) (guests : List Guest) → broken ≡ false → IsAtRest broken guests
    → AllEmpty guests
rests_empty true guests whole rests = absurd (cc)
rests_empty false guests whole rests =
    (let none = called_none (position guest_has_write guests) (list_any guest_awaits guests) rests
    in (nothing_where_empty guests).0 (ap₂ plan_at none.0 none.1))

empty_opening : (slot behind : Option Slot) → is_empty slot ≡ true → is_empty behind ≡ true
    → or_else (opening_in slot) (opening_in behind) ≡ None
empty_opening None None first second = refl
empty_opening None (Some s) first second = absurd (cc)
empty_opening (Some s) behind first second = absurd (cc)

empty_pending : (slot behind : Option Slot) → is_empty slot ≡ true → is_empty behind ≡ true
    → listed (pending_of slot) ++ listed (pending_of behind) ≡ []
empty_pending None None first second = refl
empty_pending None (Some s) first second = absurd (cc)
empty_pending (Some s) behind first second = absurd (cc)

-- 2. What is left of an image that was opened and served

module _ {D : Type 0} (shows : D → DiskState) (makes : D → DiskCall → D → Type 0)
    (board : List GuestConfig) (disk : D) (b : BoardState D) (life : ℕ)
    (begins : Begins shows life board b) (untouched : Within shows makes (Untouched (shows disk))
    disk b.store.disk) (unfailed : (shows b.store.disk).failures ≡ (shows disk).failures)
    (s : StoreState D) (kept : KeepsGuests shows makes (length board) b.book b.store s) where
  abbrev keys : List (Option (List ℕ))
  keys = kept.0

  keeps : Keeps shows makes (record { store = b.store; keys = keys })
      (record { store = s; keys = kept.2.0 })
  keeps = kept.2.1

  abbrev parts : ℕ → Part
  parts = parts_of begins.partitions

  many : length begins.partitions ≡ length board
  unfolding capacities_of
  many = begins.begun.all_partitions ∙ length-map board (λ g. g.capacity)

  known_there : (shows disk).faithful ≡ true → (shows b.store.disk).faithful ≡ true
  known_there known = (within_end shows makes (Untouched (shows disk)) disk b.store.disk
      untouched).faithful ∙ known

  reached : (shows disk).faithful ≡ true
      → Reaches shows makes parts (record { store = b.store; keys = keys })
      (record { store = s; keys = kept.2.0 })
  reached known = keeps.reaches parts (begins.linked.kept (known_there known))

  -- the guest and its partition
  record IsFirst (g : ℕ) : Type 0 where
    pub held : Guest
    pub at : slice_get b.store.guests g ≡ Some held
    pub region : region_of held ≡ region_at (capacities_of board) g
    pub part : parts g ≡ part_of (bases_of begins.partitions g)
    pub mark : sequence (bases_of begins.partitions g) ≤ mark_of held
    pub nothing : pending_intents held ≡ []

  first : (g : ℕ) → g < length board → IsFirst g
  first g below =
      let all = begins.linked.held in
      let as_many = many in
      let x = there b.store.guests g (omega (arith, below, all)) in
      let p = there begins.partitions g (omega (arith, below, as_many)) in
      let one = begins.begun.each g x.0 p.0 (ap (λ v. slice_get v.store.guests g) (sym begins.is)
      ∙ x.1) p.1 in
      let base : bases_of begins.partitions g ≡ p.0 =
      get_or_from_slice_get begins.partitions g p.0 (empty_partition 0) p.1 in
      let mark = one.mark in
      let sequences = ap sequence base in
      record {
        held = x.0;
        at = x.1;
        region = one.region;
        part = ap part_or p.1
            ∙ ap part_of (sym base);
        mark = omega (arith, mark, sequences);
        nothing =
            first_nothing x.0 one.slot one.behind;
      }

  -- what each guest is to keep
  abbrev kept_of : Option Guest → List Intent → List Intent
  kept_of None given = given
  kept_of (Some x) given = to_keep x given

  abbrev all_given : (ℕ → List Intent) → ℕ → List Intent
  all_given given g = kept_of (slice_get b.store.guests g) (given g)

  its_given : (given : ℕ → List Intent) (g : ℕ) (x : IsFirst g) → to_keep x.held (given g)
      ≡ all_given given g
  its_given given g x = ap (λ o. kept_of o (given g)) (sym x.at)

  holds_some : (given : ℕ → List Intent) (moment : DiskState)
      → LeavesWhole b.store.guests parts given moment
      → LeavesSome board begins.partitions (all_given given) moment
  holds_some given moment whole g below c left =
      let x = first g below in
      let w = whole g x.held x.at c left in
      let mark = x.mark in
      let enough = w.2.enough in
      let is = w.2.is ∙ ap (λ v. after_all v (take w.2.count (to_keep x.held (given g)))) x.part in
      let same = ap sequence_of_part is in
      subst (λ l. HoldsSome board begins.partitions g l c) (its_given given g x) (record {
        count = w.2.count;
        within = w.2.within;
        stands = subst (λ (v : Part). recovered.Stands (region_at (capacities_of board) g) c v) is
            (subst (λ r. recovered.Stands r c w.0) x.region w.1);
        enough = omega (arith, mark, enough, same);
      })

  key_known : (keys : List (Option (List ℕ))) → HasKeys (length board) b.book keys → (g : ℕ)
      → g < length board → slice_get keys g ≡ Some (parts g).key
  key_known keys has g below =
      let many_there = begins.linked.many in
      let u = there (state b.book).guests g (omega (arith, below, many_there)) in
      let tied = begins.linked.each g u.0 u.1 in
      has g u.0 below u.1 ∙ ap (λ (q : Partition). Some q.key) tied.link.partition
      ∙ ap (λ (q : Part). Some q.key) (sym (first g below).part)

  in_turn : (r : ℕ → List Intent) (keys now : List (Option (List ℕ)))
      → ((g : ℕ) (x : Guest) → slice_get b.store.guests g ≡ Some x
      → IsInTurn g (parts g) x (pending_intents x) (slice_get keys g)
      → IsInTurn g (parts g) x (to_keep x (r g)) (slice_get now g))
      → HasKeys (length board) b.book keys → (g : ℕ) → g < length board
      → AreNext g (region_at (capacities_of board) g).size
      (part_of (bases_of begins.partitions g)) (all_given r g)
  in_turn r keys now turn has g below =
      let x = first g below in
      let begun : IsInTurn g (parts g) x.held (pending_intents x.held) (slice_get keys g) =
      record {
        each = subst (AreNext g (region_of x.held).size (parts g)) (sym x.nothing) tt;
        key = key_known keys has g below
            ∙ ap (λ l. Some (after_all (parts g) l).key) (sym x.nothing);
      } in
      let t = turn g x.held x.at begun in
      subst (AreNext g (region_at (capacities_of board) g).size
      (part_of (bases_of begins.partitions g))) (its_given r g x)
      (subst (λ (q : Part). AreNext g (region_at (capacities_of board) g).size q
      (to_keep x.held (r g))) x.part
      (subst (λ e. AreNext g e.size (parts g) (to_keep x.held (r g))) x.region t.each))

  risen : s.broken ≡ true → HasRisen (shows disk).failures (shows s.disk).failures
  risen broken = subst (λ n. HasRisen n (shows s.disk).failures) unfailed (by (keeps.cause broken))
    where
      by : (b.store.broken ≡ true) ⊎ HasRisen (shows b.store.disk).failures (shows s.disk).failures
          → HasRisen (shows b.store.disk).failures (shows s.disk).failures
      by (inl was) = absurd (let no : b.store.broken ≡ false = ap (λ v. v.store.broken) begins.is
          ∙ begins.whole in cc)
      by (inr rose) = rose

  all_kept : (r : Reaches shows makes parts (record { store = b.store; keys = keys })
      (record { store = s; keys = kept.2.0 })) → s.broken ≡ false → IsAtRest s.broken s.guests
      → LeavesAll board begins.partitions (all_given r.given) (shows s.disk)
  all_kept r whole rests g below c may =
      let x = first g below in
      let all = begins.linked.held in
      let as_many = keeps.many in
      let y = there s.guests g (omega (arith, below, all, as_many)) in
      let a = r.ahead g x.held y.0 x.at y.1 in
      let empty = rests_empty s.broken s.guests whole rests g y.0 y.1 in
      let none : opening_of y.0 ≡ None = empty_opening y.0.slot y.0.behind empty.0 empty.1 in
      let k = stops r.settled s.guests (shows s.disk) (shows s.disk) s.broken r.held g y.0 y.1 c may
      in
      let settled : k.part ≡ r.settled g = subst (λ o. BeforeOrAfter (r.settled g) o k.part) none
      k.may in
      let rest : drop a.count (to_keep x.held (r.given g)) ≡ [] = sym a.left
      ∙ empty_pending y.0.slot y.0.behind empty.0 empty.1 in
      let whole_list : take a.count (to_keep x.held (r.given g)) ≡ to_keep x.held (r.given g) =
      sym (append-nil (take a.count (to_keep x.held (r.given g))))
      ∙ ap (λ l. take a.count (to_keep x.held (r.given g)) ++ l) (sym rest)
      ∙ take-append-drop a.count (to_keep x.held (r.given g)) in
      let is : k.part ≡ after_all (part_of (bases_of begins.partitions g)) (all_given r.given g) =
      settled ∙ a.is ∙ ap (after_all (parts g)) whole_list
      ∙ ap (λ v. after_all v (to_keep x.held (r.given g))) x.part
      ∙ ap (after_all (part_of (bases_of begins.partitions g))) (its_given r.given g x) in
      subst (λ (v : Part). recovered.Stands (region_at (capacities_of board) g) c v) is
      (subst (λ v. recovered.Stands v c k.part) (a.region ∙ x.region) k.stands)

  pub serves_image : AreOf board (shows disk) begins.partitions → IsAtRest s.broken s.guests
      → (failed : Bool) → s.broken ≡ failed → ServesImage shows makes board disk failed s.disk
  serves_image of_image rests failed told = record {
    partitions = begins.partitions;
    of_image = of_image;
    opened = b.store.disk;
    untouched = untouched;
    len = keeps.len ∙ (within_end shows makes (Untouched (shows disk)) disk b.store.disk
        untouched).len;
    faithful = keeps.faithful
        ∙ (within_end shows makes (Untouched (shows disk)) disk b.store.disk untouched).faithful;
    front = λ known. keeps.front (known_there known);
    serves = λ known. (let r = reached known in record {
      given = all_given r.given;
      in_turn = in_turn r.given keys kept.2.0 r.in_turn kept.1;
      moments = within_weaker shows makes (LeavesWhole b.store.guests parts r.given)
          (LeavesSome board begins.partitions (all_given r.given)) b.store.disk s.disk
          (holds_some r.given) r.moments;
      rests = λ is. all_kept r (told ∙ is) rests;
    });
    cause = λ is. risen (told ∙ is);
  }

-- of a board that was just opened neither book nor store has broken
pub told_of : {D : Type 0} (shows : D → DiskState) (board : List GuestConfig) (b : BoardState D)
    (book : BookView) (store : StoreState D) (life : ℕ) → Begins shows life board b → book ≡ b.book
    → store ≡ b.store
    → (state book).broken ≡ store.broken
told_of shows board b book store life begins is at =
    ap (λ v. (state v).broken) is ∙ ap (λ v. (state v.book).broken) begins.is
    ∙ sym (ap (λ v. v.broken) at ∙ ap (λ v. v.store.broken) begins.is ∙ begins.whole)

-- 3. By how it ended

module _ {D : Type 0} (shows : D → DiskState) (makes : D → DiskCall → D → Type 0)
    (board : List GuestConfig) (disk : D) where
  pub told_keeps : (r : Result (Unit {0}) Fault) (back : Option D) (d : D) (failed : Bool)
      → back ≡ Some d → OnOk r (failed ≡ false) → (r ≡ Err fault.DiskFault → failed ≡ true)
      → ServesImage shows makes board disk failed d → ServeKeeps shows makes board disk r back
  told_keeps (Ok done) back d failed is whole cause served =
      subst (λ o. IfSome o (ServesImage shows makes board disk false)) (sym is)
      (subst (λ v. ServesImage shows makes board disk v d) whole served)
  told_keeps (Err f) back d failed is whole cause served =
      subst (λ o. IfSome o (ServeMoments shows makes board disk f)) (sym is)
      (inr (failed, (λ e. cause (ap Err e)), served))

  -- the image wasn't opened
  pub unserved_keeps : (e : OpenFault) (f : Fault) (back : D) → f ≡ fault_of_image e
      → Within shows makes (Untouched (shows disk)) disk back
      → (e ≡ image.DiskFault → HasRisen (shows disk).failures (shows back).failures)
      → ServeKeeps shows makes board disk (Err f) (Some back)
  unserved_keeps e f back is way cause =
      inl (record { untouched = way; cause = λ told. cause (of_disk e (sym is ∙ told)) })
    where
      of_disk : (e : OpenFault) → fault_of_image e ≡ fault.DiskFault → e ≡ image.DiskFault
      of_disk image.DiskFault told = refl
      of_disk image.NoMemory told = absurd (cc)
      of_disk image.NotFormatted told = absurd (cc)
      of_disk image.OtherConfig told = absurd (cc)

  pub uncalled_keeps : (f : Fault) → (f ≡ fault.DiskFault → ⊥)
      → ServeKeeps shows makes board disk (Err f) (Some disk)
  uncalled_keeps f other = inl (record {
    untouched = Still disk (record {
      len = refl;
      faithful = refl;
      later = omega arith;
      seen =
          λ known k. refl;
      unsynced = λ known k old. old;
    });
    cause = λ told. absurd (other told);
  })

-- a fault of reading is no disk's
pub reading_is_no_call : (f : Fault) → IsOfReading f → f ≡ fault.DiskFault → ⊥
reading_is_no_call f of is = subst IsOfReading is of
