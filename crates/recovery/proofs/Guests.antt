-- All guests of an opening.
use Rattle.std.proofs.Common.{◌≡◌, ◌≢◌, ⊎_elim, ℕ, suc, ◌+◌, ◌<◌, ◌≤◌, true, false, Option, Some}
use Rattle.std.proofs.Common.{None, List, [], ◌∷◌, ◌++◌, length, map, refl, ap, sym, subst, ◌∙◌}
use Rattle.std.proofs.Common.{arith}
use Rattle.recovery.proofs.Common.{Result, Ok, Err, OnOk, slice_get, slice_get_within, Partition}
use Rattle.recovery.proofs.Common.{sequence_of, Content, DiskState, MayLeave, HasCapacities, Region}
use Rattle.recovery.proofs.Common.{region_at, image_length, end_of, Part, Stands, StandsIn}
use Rattle.recovery.proofs.Common.{is_paired, lies_inside, overlaps_never, Guest, same_content}
use Rattle.recovery.proofs.Common.{OpenFault, Untouched, IsBegun, EachBegun, AllBegun, HasFront}
use Rattle.recovery.proofs.Common.{HasPart, IsImage, AnswersFault, parts_of, NoMagic, OtherLength}
use Rattle.recovery.proofs.Common.{TellsVersionFault, Gives, IsFound, AllFound, FindsFault}
use Rattle.std.specs.Prelude.{if◌then◌else◌}
use Rattle.std.proofs.lemmas.Option.{slice_get_cases}
use Rattle.intent_slots.specs.Layout.{AreApart}
use Rattle.intent_slots.specs.Recovered.{part_of}
use Rattle.flusher.specs.declared.slot.Slot.{Slot}
use Rattle.flusher.specs.declared.phase.Phase.{Phase}
use Rattle.flusher.specs.Phase.{is_settled, is_opening}
use Rattle.flusher.specs.Slot.{pending_of, opening_in}
use Rattle.flusher.specs.Pair.{region_of, mark_of, entries_in}
use Rattle.flusher.proofs.Table.{settled_stands}
use Rattle.flusher.specs.Marks.{marks_of}
use Rattle.flusher.specs.SlotInvariant.{PairRow, PairSeen, IsOrdered, IsHeld, guest_row, guest_seen}
use Rattle.flusher.specs.SlotInvariant.{Follows}
use Rattle.flusher.specs.Store.{AllFit, GuestFits}
use Rattle.recovery.specs.declared.fault.OpenFault.TheVariants as fault
use Rattle.recovery.specs.Opening.{AllStand, IsAtRest, sequences_of, IsFirst, HasParts}
use Rattle.recovery.specs.Opening.{IsUnformatted, NoFront, NoParts, Answers, part_or}
use Rattle.recovery.specs.Front.{HasNoHeader}
use Rattle.recovery.specs.Reading.{FindsAll, FindsAllFault}
use Rattle.recovery.proofs.Lists.{Each, none_each, each_more}
use Rattle.recovery.proofs.Ways.{gives_on}

-- what ends the reading of one guest ends that of all
pub ends_all : (cs : List ℕ) (c : Content) (g : ℕ) (f : OpenFault) → g < length cs
    → FindsFault cs g c f → FindsAllFault cs c f
ends_all cs c g fault.NotFormatted lt none = λ each. none (each g lt)
ends_all cs c g fault.OtherConfig lt never = never
ends_all cs c g fault.DiskFault lt any = tt
ends_all cs c g fault.NoMemory lt never = never

pub none_found : (c : Content) (xs : List Guest) (ps : List Partition) → xs ≡ [] → AllFound c xs ps
none_found c xs ps is = record { each = none_each (λ g x p. IsFound c x p) xs ps is }

module _ (P : ℕ → Guest → Partition → Type 0) (xs new : List Guest) (ps next : List Partition)
    (x : Guest) (p : Partition) (n : ℕ)
    (count : length xs ≡ n) (same_count : length ps ≡ n) (pushed : new ≡ xs ++ x ∷ [])
    (also : next ≡ ps ++ p ∷ []) where
  pair_more : Each P xs ps → P n x p → Each P new next
  pair_more all last = subst (λ l. Each P l next) (sym pushed)
      (subst (λ l. Each P (xs ++ x ∷ []) l) (sym also)
      (each_more P xs ps x p (count ∙ sym same_count) all (subst (λ m. P m x p) (sym count) last)))

pub begun_more : (cs : List ℕ) (xs new : List Guest) (ps next : List Partition) (x : Guest)
    (p : Partition) (n : ℕ) → length xs ≡ n → length ps ≡ n
    → new ≡ xs ++ x ∷ [] → next ≡ ps ++ p ∷ [] → EachBegun cs xs ps → IsBegun cs n x p
    → EachBegun cs new next
begun_more cs xs new ps next x p n count same_count pushed also all last =
    pair_more (IsBegun cs) xs new ps next x p n count same_count pushed also all last

pub found_more : (c : Content) (xs new : List Guest) (ps next : List Partition) (x : Guest)
    (p : Partition) (n : ℕ) → length xs ≡ n → length ps ≡ n
    → new ≡ xs ++ x ∷ [] → next ≡ ps ++ p ∷ [] → AllFound c xs ps → IsFound c x p
    → AllFound c new next
found_more c xs new ps next x p n count same_count pushed also all last = record {
  each = pair_more (λ g y q. IsFound c y q) xs new ps next x p n count same_count pushed also
      all.each last;
}

-- 2. What was found stands there

-- what was found behind a shut or an open gate stands there
begun_stands : (p : Part) (x : Guest) (c : Content) → PairRow p x c → IsOrdered x → IsFirst x.slot
    → IsFirst x.behind → x.paired ≡ is_paired c → Stands (region_of x) c p
begun_stands p x c r o first behind version = subst (λ v. StandsIn v (region_of x) c p) version
    (settled_stands p x c r o (quiet x.slot first) (quiet x.behind behind))
  where
    quiet : (slot : Option Slot) → IsFirst slot → opening_in slot ≡ None
    quiet None is = refl
    quiet (Some s) is = ap (λ f. if is_opening f then Some s.intent.group else None) is

follows : (slot : Option Slot) (n : ℕ) → IsFirst slot → Follows n (pending_of slot)
follows None n first = tt
follows (Some s) n first =
    subst (λ (f : Phase). Follows n (if is_settled f then None else Some s.intent)) (sym first) tt

-- the element at an index of a list that is as long
there : {X Y : Type 0} (xs : List X) (ys : List Y) (g : ℕ) (x : X) → length xs ≡ length ys
    → slice_get xs g ≡ Some x → (y : Y) × (slice_get ys g ≡ Some y)
there xs ys g x same at = ⊎_elim
    (λ here. (here.0, here.2))
    (λ past. absurd (let short = slice_get_within xs g x at in let e = past.0 in
    omega (arith, short, e, same)))
    (slice_get_cases ys g).1

module _ (cs : List ℕ) (xs : List Guest) (ps : List Partition) (all : AllBegun cs xs ps) where
  partition_there : (g : ℕ) (x : Guest) → slice_get xs g ≡ Some x → (p : Partition)
      × (slice_get ps g ≡ Some p)
  partition_there g x at = there xs ps g x (all.all_guests ∙ sym all.all_partitions) at

  begun_there : (g : ℕ) (x : Guest) → slice_get xs g ≡ Some x → (p : Partition)
      × (slice_get ps g ≡ Some p) × IsBegun cs g x p
  begun_there g x at = (let p = partition_there g x at in (p.0, p.1, all.each g x p.0 at p.1))

  pub all_stand : (c : Content) → AllFound c xs ps → AllStand c xs ps
  all_stand c found g x p at here =
      let b = all.each g x p at here in
      let f = found.each g x p at here in
      begun_stands (part_of p) x c f.row b.ordered b.slot b.behind f.version

  pub has_each : (c : Content) → AllFound c xs ps → (g : ℕ) → g < length cs → HasPart cs c g
  has_each c found g lt =
      let x = at_place xs g (omega (arith, lt, all.all_guests)) in
      let p = partition_there g x.0 x.1 in
      record {
        part = part_of p.0;
        stands = subst (λ (v : Region). Stands v c (part_of p.0))
            (all.each g x.0 p.0 x.1 p.1).region (all_stand c found g x.0 p.0 x.1 p.1);
      }
    where
      at_place : {X : Type 0} (ys : List X) (g : ℕ) → g < length ys → (y : X)
          × (slice_get ys g ≡ Some y)
      at_place ys g lt = ⊎_elim (λ here. (here.0, here.2)) (λ past.
          absurd (let e = past.0 in omega (arith, lt, e))) (slice_get_cases ys g).1

  pub all_fit : (len : ℕ) → image_length cs ≤ len → AllFit len xs
  all_fit len room = record { each = λ g x at. fits g x at (begun_there g x at) }
    where
      fits : (g : ℕ) (x : Guest) → slice_get xs g ≡ Some x → (p : Partition)
          × (slice_get ps g ≡ Some p) × IsBegun cs g x p → GuestFits len g x
      fits g x at (p, here, b) = record {
        behind = (let lt = slice_get_within xs g x at in let inside =
            (lies_inside cs g (omega (arith, lt, all.all_guests))).0 in
            subst (λ (v : Region). 1024 ≤ v.base) (sym b.region) inside);
        own = b.number;
        behind_own = b.number_behind;
        behind_fits = b.fits_behind;
        besides = b.ordered.besides;
        room = (let lt = slice_get_within xs g x at in let inside =
            (lies_inside cs g (omega (arith, lt, all.all_guests))).1 in
            subst (λ (v : Region). end_of v ≤ len) (sym b.region) (omega (arith, inside, room)));
        slot_fits = b.fits;
        mark = b.small;
      }

  -- every stop leaves what reads gave
  pub all_held : (s t : DiskState) → s.faithful ≡ true → Untouched s t
      → ((k : ℕ) → t.unsynced k ≡ false) → image_length cs ≤ t.len → AllFound s.seen xs ps
      → IsHeld (parts_of ps) xs false t
  all_held s t known u synced room found = record {
    known = u.faithful ∙ known;
    fits = λ g x at. ((all_fit t.len room).each g x at).room;
    apart = λ g h x y other at here. apart g h x y other at here;
    rows = λ g x at c left. row g x at c left (partition_there g x at);
    seen_rows = λ whole g x at. seen g x at (partition_there g x at);
  }
    where
      apart : (g h : ℕ) (x y : Guest) → g ≢ h → slice_get xs g ≡ Some x → slice_get xs h ≡ Some y
          → AreApart (region_of x) (region_of y)
      apart g h x y other at here =
          let a = begun_there g x at in
          let b = begun_there h y here in
          let lt = slice_get_within xs g x at in
          let less = slice_get_within xs h y here in
          subst (λ (v : Region). AreApart v (region_of y)) (sym a.2.region)
          (subst (λ (v : Region). AreApart (region_at cs g) v) (sym b.2.region)
          (overlaps_never cs g h (omega (arith, lt, all.all_guests))
          (omega (arith, less, all.all_guests)) other))

      row : (g : ℕ) (x : Guest) → slice_get xs g ≡ Some x → (c : Content) → MayLeave t c
          → (p : Partition) × (slice_get ps g ≡ Some p) → guest_row (parts_of ps g) x c
      row g x at c left (p, here) =
          let b = all.each g x p at here in
          subst (λ (o : Option Partition). guest_row (part_or o) x c) (sym here) (
            subst (PairRow (part_of p) x)
                (same_content s.seen c (λ k. sym (left k (synced k) ∙ u.seen known k)))
                (found.each g x p at here).row,
            record {
              mark = b.mark;
              follows = follows x.slot x.mark b.slot;
              next_follows =
                  follows x.behind (x.mark + length (entries_in (pending_of x.slot))) b.behind;
              ordered = b.ordered;
            },
            record {
              behind = ((all_fit t.len room).each g x at).behind;
              version = subst (λ (d : Content). x.paired ≡ is_paired d)
                  (same_content s.seen c (λ k. sym (left k (synced k) ∙ u.seen known k)))
                  (found.each g x p at here).version;
            },
          )

      seen : (g : ℕ) (x : Guest) → slice_get xs g ≡ Some x → (p : Partition)
          × (slice_get ps g ≡ Some p) → guest_seen (parts_of ps g) x t.seen
      seen g x at (p, here) = subst (λ (o : Option Partition). guest_seen (part_or o) x t.seen)
          (sym here)
          (subst (PairSeen (part_of p) x) (same_content s.seen t.seen (λ k. sym (u.seen known k)))
          (found.each g x p at here).seen)

-- what two lists of the same length have in common at each index
same_maps : {X Y : Type 0} (f : X → ℕ) (h : Y → ℕ) (xs : List X) (ys : List Y)
    → length xs ≡ length ys
    → ((g : ℕ) (x : X) (y : Y) → slice_get xs g ≡ Some x → slice_get ys g ≡ Some y → f x ≡ h y)
    → map f xs ≡ map h ys
same_maps f h [] [] same each = refl
same_maps f h [] (y ∷ ys) same each = absurd (omega (arith, same))
same_maps f h (x ∷ xs) [] same each = absurd (omega (arith, same))
same_maps f h (x ∷ xs) (y ∷ ys) same each =
    ap (λ (n : ℕ). n ∷ map f xs) (each 0 x y refl refl)
    ∙ ap (λ (l : List ℕ). h y ∷ l) (same_maps f h xs ys (omega (arith, same)) (λ g v w at there.
    each (suc g) v w at there))

pub all_marked : (cs : List ℕ) (xs : List Guest) (ps : List Partition) → AllBegun cs xs ps
    → marks_of xs ≡ sequences_of ps
unfolding marks_of
all_marked cs xs ps all = same_maps mark_of (λ p. sequence_of p.key p.counter) xs ps (all.all_guests
    ∙ sym all.all_partitions) (λ g x p at here. (all.each g x p at here).mark)

-- Once nothing is unsynced, what reads gave before the sync is all that a stop leaves.
pub all_rest : (cs : List ℕ) (s t : DiskState) → s.faithful ≡ true → Untouched s t
    → ((k : ℕ) → t.unsynced k ≡ false) → IsImage cs s.len s.seen → IsAtRest cs t
all_rest cs s t known u synced image = record {
  synced = synced;
  image = λ c left. subst (λ (n : ℕ). IsImage cs n c) (sym u.len)
      (subst (IsImage cs s.len)
      (same_content s.seen c (λ k. sym (left k (synced k) ∙ u.seen known k))) image);
}

-- 3. The outcomes

not_formatted : (cs : List ℕ) (len : ℕ) (c : Content) → HasNoHeader cs len c
    → IsUnformatted cs len c
not_formatted cs len c (NoMagic none) = NoFront none
not_formatted cs len c (OtherLength front header other) =
    NoParts front header (λ (h : HasParts cs len c). other h.long)

pub front_answers : (cs : List ℕ) (len : ℕ) (c : Content) (f : OpenFault)
    → TellsVersionFault cs len c f → AnswersFault cs len c f
front_answers cs len c fault.NotFormatted none = not_formatted cs len c none
front_answers cs len c fault.OtherConfig other = other
front_answers cs len c fault.DiskFault any = tt
front_answers cs len c fault.NoMemory never = tt

pub on_found : (cs : List ℕ) (xs : List Guest) (ps : List Partition) (s t : DiskState)
    (r : Result (Unit {0}) OpenFault) → Untouched s t
    → ((c : Content) → Gives t c → FindsAll cs c xs ps r)
    → OnOk r ((c : Content) → Gives s c → AllFound c xs ps)
on_found cs xs ps s t (Ok done) u finds = λ c gives. finds c (gives_on s t c u gives)
on_found cs xs ps s t (Err f) u finds = tt

pub all_answers : (cs : List ℕ) (len now : ℕ) (c : Content) (xs : List Guest) (ps : List Partition)
    (r : Result (Unit {0}) OpenFault) → now ≡ len
    → HasFront now c → HasCapacities cs c → now ≡ image_length cs → OnOk r (AllBegun cs xs ps)
    → FindsAll cs c xs ps r → Answers cs len c r
all_answers cs len now c xs ps (Ok done) same front header long begun found =
    subst (λ (n : ℕ). IsImage cs n c) same (record {
      front = front;
      header = header;
      parts =
          record { long = long; each = has_each cs xs ps begun c found };
    })
all_answers cs len now c xs ps (Err fault.NotFormatted) same front header long begun none =
    subst (λ (n : ℕ). IsUnformatted cs n c) same (NoParts front header (λ (h : HasParts cs now c).
    none h.each))
all_answers cs len now c xs ps (Err fault.OtherConfig) same front header long begun never =
    absurd never
all_answers cs len now c xs ps (Err fault.DiskFault) same front header long begun any = tt
all_answers cs len now c xs ps (Err fault.NoMemory) same front header long begun never = tt
