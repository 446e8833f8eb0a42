-- What was read for one guest is what the content holds.
use Rattle.std.proofs.Common.{◌≡◌, ◌⊎◌, inl, inr, ⊎_elim, Bool, true, false, Option, Some, None, ℕ}
use Rattle.std.proofs.Common.{◌+◌, ◌*◌, ◌^◌, ◌≤◌, ◌<◌, List, length, drop, get_or, refl, ap, sym}
use Rattle.std.proofs.Common.{◌∙◌, subst, arith}
use Rattle.recovery.proofs.Common.{slice_index, ◌==◌, cases_lt, cases_eq, nat_tests, get_or_past}
use Rattle.recovery.proofs.Common.{Partition, sequence_of, Content, bytes_at, content_of, Region}
use Rattle.recovery.proofs.Common.{region_at, slot_region, other_side, image_length, lies_inside, A}
use Rattle.recovery.proofs.Common.{B, Agree, last_of, Part, HoldsHome, HasPayload}
use Rattle.recovery.proofs.Common.{ByHome, ByPayload, ByNeither, ByOne, ByBoth, StandsIn, is_paired}
use Rattle.recovery.proofs.Common.{redo, blocks_of, get_bytes, payload_short, same_content}
use Rattle.recovery.proofs.Common.{blocks_below, blocks_beyond, IsBegun, HasPart, IsFound, GatesAre}
use Rattle.recovery.proofs.Common.{GatesFit, FindsFault, OpenFault}
use Rattle.intent_slots.specs.Layout.{SlotRegion, blocks_at}
use Rattle.intent_slots.specs.declared.layout.Side.{Side}
use Rattle.intent_slots.proofs.Decoding.{one_group}
use Rattle.intent_slots.specs.Home.{IsHome}
use Rattle.intent_slots.specs.Payload.{Group, Intent, IsPayload, payload_length}
use Rattle.intent_slots.specs.Recovered.{StandsForTwo, redone, after}
use Rattle.intent_slots.proofs.Bytes.{length-bytes_at}
use Rattle.intent_slots.proofs.ReadsBack.{home_own, payload_own}
use Rattle.flusher.specs.Pair.{resting, redoing, redoing_two}
use Rattle.flusher.specs.Phase.{skipped}
use Rattle.flusher.specs.SlotInvariant.{IsWideOpen}
use Rattle.flusher.proofs.Rows.{skip}
use Rattle.recovery.specs.Reading.{GateIs, gates_of, FindsPayloadFault}
use Rattle.recovery.specs.declared.fault.OpenFault.TheVariants as fault
use Rattle.recovery.specs.declared.reading.Gates.TheVariants as gates

-- what was read is what stands there
agree_read : (c : Content) (at n m : ℕ) (xs : List ℕ) → xs ≡ bytes_at c at n → m ≤ n
    → Agree (content_of xs) 0 c at m
agree_read c at n m xs is le k lt = (let z : 0 + k ≡ k = omega arith in
    ap (λ j. content_of xs j) z ∙ ap (λ l. content_of l k) is ∙ get_bytes c at n k (omega arith))

agree_there : (c : Content) (at n m : ℕ) (xs : List ℕ) → xs ≡ bytes_at c at n → m ≤ n
    → Agree c at (content_of xs) 0 m
agree_there c at n m xs is le k lt = sym (agree_read c at n m xs is le k lt)

blocks_read : (region : Region) (c : Content) (blocks : List ℕ)
    → blocks ≡ bytes_at c (blocks_at region) region.size → blocks_of region c ≡ content_of blocks
blocks_read region c blocks is = same_content (blocks_of region c) (content_of blocks) (λ k. ⊎_elim
    (λ lt. blocks_below region c k lt
    ∙ sym (ap (λ l. content_of l k) is ∙ get_bytes c (blocks_at region) region.size k lt))
    (λ past. blocks_beyond region c k past
    ∙ sym (ap (λ l. content_of l k) is ∙ get_or_past (bytes_at c (blocks_at region) region.size)
    k 0 (short k past)))
    (cases_lt k region.size))
  where
    short : (k : ℕ) → region.size ≤ k → length (bytes_at c (blocks_at region) region.size) ≤ k
    short k past = (let n = length-bytes_at c (blocks_at region) region.size in
        omega (arith, n, past))

-- 0. Where the parts stand

pub size_is : (cs : List ℕ) (g capacity : ℕ) → capacity ≡ slice_index cs g → (region_at cs g).size
    ≡ 131072 * capacity
unfolding region_at
size_is cs g capacity is = ap (λ n. 131072 * n) (sym is)

-- a part of a partition lies on the disk
pub part_inside : (cs : List ℕ) (g at n len shift : ℕ) (here : Region) → g < length cs
    → image_length cs ≤ len → here ≡ region_at cs g → at ≡ here.base + shift
    → shift + n ≤ 35328 + here.size → at + n ≤ len
part_inside cs g at n len shift here below room same there le =
    (let e = (lies_inside cs g below).1 in let b = ap (λ (v : Region). v.base) same in let s =
    ap (λ (v : Region). v.size) same in omega (arith, e, b, s, room, there, le))

-- 1. The gates are shut

stands_shut : (paired : Bool) (region : Region) (c : Content) (p : Part)
    → GatesAre paired region gates.Shut c → StandsIn paired region c p → HoldsHome region c p
stands_shut false region c p g (ByHome shut held) = held
stands_shut false region c p g (ByPayload i wide has is) = absurd (g.0 wide)
stands_shut true region c p g (ByNeither a b held) = held
stands_shut true region c p g (ByOne A i wide shut has is) = absurd (g.0 wide)
stands_shut true region c p g (ByOne B i wide shut has is) = absurd (g.1 wide)
stands_shut true region c p g (ByBoth A i j wide too first second follows key is) =
    absurd (g.0 wide)
stands_shut true region c p g (ByBoth B i j wide too first second follows key is) =
    absurd (g.1 wide)

pub no_home : (cs : List ℕ) (g : ℕ) (c : Content) (at : ℕ) (here : Region) (bytes : List ℕ)
    (paired : Bool) → at ≡ here.base → here ≡ region_at cs g → bytes ≡ bytes_at c at 64
    → ((key : Option (List ℕ)) (counter : ℕ) → ¬ IsHome (content_of bytes) 0 key counter)
    → paired ≡ is_paired c → GatesAre paired (region_at cs g) gates.Shut c → ¬ HasPart cs c g
no_home cs g c at here bytes paired told same is refused version shut has =
    none has.part (subst (λ v. StandsIn v (region_at cs g) c has.part) (sym version) has.stands)
  where
    there : at ≡ (region_at cs g).base
    there = told ∙ ap (λ (v : Region). v.base) same

    none : (p : Part) → ¬ StandsIn paired (region_at cs g) c p
    none p stands = (let holds = stands_shut paired (region_at cs g) c p shut stands in
        refused p.key p.counter (home_own p.key p.counter c (content_of bytes) (region_at cs g).base
        0
        (agree_there c (region_at cs g).base 64 64 bytes (is ∙ ap (λ n. bytes_at c n 64) there)
        (omega arith)) holds.home))

pub found_shut : (cs : List ℕ) (g : ℕ) (c : Content) (at blocks_from : ℕ) (bytes blocks : List ℕ)
    (key told_key : Option (List ℕ)) (counter told_counter capacity n : ℕ) (here : Region)
    (p : Partition) (paired : Bool)
    → at ≡ here.base → bytes ≡ bytes_at c at 64 → IsHome (content_of bytes) 0 key counter
    → blocks_from ≡ blocks_at here → blocks ≡ bytes_at c blocks_from (region_at cs g).size
    → told_key ≡ key → told_counter ≡ counter → here ≡ region_at cs g
    → p ≡ record { capacity = capacity; key = told_key; counter = told_counter; blocks = blocks }
    → paired ≡ is_paired c → GatesAre paired (region_at cs g) gates.Shut c
    → IsFound c (resting paired here n) p
found_shut cs g c at blocks_from bytes blocks key told_key counter told_counter capacity n here p
    paired told is home told_blocks bs same_key same_counter same q version shut =
    let region = region_at cs g in
    let there : at ≡ region.base = told ∙ ap (λ (v : Region). v.base) same in
    let bt : blocks_from ≡ blocks_at region = told_blocks ∙ ap (λ (v : Region). blocks_at v) same in
    let part : Part = record { key = told_key; counter = told_counter; blocks = content_of blocks }
    in
    let home' : IsHome c region.base key counter =
    home_own key counter (content_of bytes) c 0 region.base
    (agree_read c region.base 64 64 bytes (is ∙ ap (λ m. bytes_at c m 64) there) (omega arith)) home
    in
    let home'' : IsHome c region.base told_key told_counter =
    subst (λ k. IsHome c region.base k told_counter) (sym same_key)
    (subst (λ m. IsHome c region.base key m) (sym same_counter) home') in
    let holds : HoldsHome region c part =
    record {
      home = home'';
      same_blocks =
          blocks_read region c blocks (bs ∙ ap (λ m. bytes_at c m region.size) bt);
    } in
    subst (λ (v : Region). IsFound c (resting paired v n) p) (sym same)
    (subst (λ (v : Partition). IsFound c (resting paired region n) v) (sym q) (record {
      row = record { between = part; leads = refl; row = (shut.0, holds); behind = shut.1 };
      seen = record {
        between = part;
        leads = refl;
        row = (shut.0, holds);
        seen = tt;
        behind =
            shut.1;
        behind_seen = tt;
      };
      version = version;
    }))

pub begun_shut : (cs : List ℕ) (g : ℕ) (key told_key : Option (List ℕ))
    (counter told_counter capacity n : ℕ) (blocks : List ℕ) (here : Region) (p : Partition)
    (paired : Bool)
    → told_key ≡ key → told_counter ≡ counter → here ≡ region_at cs g → capacity ≡ slice_index cs g
    → p ≡ record { capacity = capacity; key = told_key; counter = told_counter; blocks = blocks }
    → n ≡ sequence_of key counter → told_counter < 2 ^ 32
    → IsBegun cs g (resting paired here n) p
begun_shut cs g key told_key counter told_counter capacity n blocks here p paired same_key
    same_counter same units q mark small = record {
      region = same;
      capacity = ap (λ v. v.capacity) q ∙ units;
      mark = mark ∙ ap (λ k. sequence_of k counter) (sym same_key)
          ∙ ap (λ m. sequence_of told_key m) (sym same_counter)
          ∙ sym (ap (λ v. sequence_of v.key v.counter) q);
      small = subst (λ m. m ≤ 2 ^ 32) (sym mark) (bound key);
      slot = tt;
      side = λ empty. refl;
      behind = tt;
      number = tt;
      number_behind = tt;
      fits = tt;
      fits_behind = tt;
      key = tt;
      key_behind = tt;
      ordered = record {
        chained = tt;
        besides = tt;
        single = λ un.
            record { alone = refl; side = refl };
      };
    }
  where
    bound : (k : Option (List ℕ)) → sequence_of k counter ≤ 2 ^ 32
    bound None = omega arith
    bound (Some k) = omega (arith, small, same_counter)

-- 2. A payload

module _ (cs : List ℕ) (g : ℕ) (c : Content) (at : ℕ) (here : Region) (side : Side) (bytes : List ℕ)
    (told : at ≡ (slot_region here side).payload) (is : bytes ≡ bytes_at c at 16648)
    (same : here ≡ region_at cs g) where
  payload_there : at ≡ (slot_region (region_at cs g) side).payload
  payload_there = told ∙ ap (λ (v : Region). (slot_region v side).payload) same

  pub no_payload : ((i : Group) → ¬ IsPayload here.size (content_of bytes) 0 i) → (i : Group)
      → ¬ HasPayload (region_at cs g) (slot_region (region_at cs g) side) i c
  no_payload refused i payload = (let short = payload_short (region_at cs g).size i payload.fits in
      refused i (subst (λ (v : Region). IsPayload v.size (content_of bytes) 0 i) (sym same)
      (payload_own (region_at cs g).size i c (content_of bytes)
      (slot_region (region_at cs g) side).payload 0
      (agree_there c (slot_region (region_at cs g) side).payload 16648 (payload_length i) bytes (is
      ∙ ap (λ m. bytes_at c m 16648) payload_there) short) payload)))

  pub has_payload : (i : Group) → IsPayload here.size (content_of bytes) 0 i
      → HasPayload (region_at cs g) (slot_region (region_at cs g) side) i c
  has_payload i payload =
      let short = payload_short here.size i payload.fits in
      subst (λ (v : Region). IsPayload v.size c (slot_region (region_at cs g) side).payload i) same
      (payload_own here.size i (content_of bytes) c 0 (slot_region (region_at cs g) side).payload
      (agree_read c (slot_region (region_at cs g) side).payload 16648 (payload_length i) bytes (is
      ∙ ap (λ m. bytes_at c m 16648) payload_there) short) payload)

-- 3. One gate is open

stands_one : (paired : Bool) (region : Region) (side : Side) (c : Content) (p : Part)
    → GatesAre paired region (gates.One side) c → StandsIn paired region c p → (i : Group)
    × HasPayload region (slot_region region side) i c
stands_one false region A c p g (ByHome shut held) = absurd (shut g.0)
stands_one false region A c p g (ByPayload i wide has is) = (i, has)
stands_one false region B c p g stands = absurd (let e = g.2 refl in cc)
stands_one true region A c p g (ByNeither a b held) = absurd (a g.0)
stands_one true region B c p g (ByNeither a b held) = absurd (b g.0)
stands_one true region A c p g (ByOne A i wide shut has is) = (i, has)
stands_one true region B c p g (ByOne B i wide shut has is) = (i, has)
stands_one true region A c p g (ByOne B i wide shut has is) = absurd (shut g.0)
stands_one true region B c p g (ByOne A i wide shut has is) = absurd (shut g.0)
stands_one true region A c p g (ByBoth A i j wide too first second follows key is) =
    absurd (g.1 too)
stands_one true region A c p g (ByBoth B i j wide too first second follows key is) =
    absurd (g.1 wide)
stands_one true region B c p g (ByBoth A i j wide too first second follows key is) =
    absurd (g.1 wide)
stands_one true region B c p g (ByBoth B i j wide too first second follows key is) =
    absurd (g.1 too)

-- a payload that isn't well formed behind the one open gate
pub ends_one : (cs : List ℕ) (g : ℕ) (c : Content) (paired : Bool) (side : Side) (f : OpenFault)
    → paired ≡ is_paired c → GatesAre paired (region_at cs g) (gates.One side) c
    → FindsPayloadFault (region_at cs g) side c f → FindsFault cs g c f
ends_one cs g c paired side fault.NotFormatted version wide none = λ (has : HasPart cs c g). (
    let w = stands_one paired (region_at cs g) side c has.part wide
    (subst (λ v. StandsIn v (region_at cs g) c has.part) (sym version) has.stands) in
    none w.0 w.1)
ends_one cs g c paired side fault.OtherConfig version wide never = absurd never
ends_one cs g c paired side fault.DiskFault version wide any = tt
ends_one cs g c paired side fault.NoMemory version wide never = absurd never

pub found_one : (cs : List ℕ) (g : ℕ) (c : Content) (blocks_from : ℕ)
    (blocks redone_blocks key : List ℕ) (i : Intent) (told_counter capacity : ℕ) (here : Region)
    (p : Partition) (paired : Bool) (side : Side)
    → blocks_from ≡ blocks_at here → blocks ≡ bytes_at c blocks_from (region_at cs g).size
    → content_of redone_blocks ≡ redo i.group.entries (content_of blocks)
    → key ≡ i.group.key → told_counter ≡ last_of i.group → here ≡ region_at cs g
    → p ≡ record {
      capacity = capacity;
      key = Some key;
      counter = told_counter;
      blocks =
          redone_blocks;
    }
    → paired ≡ is_paired c → GatesAre paired (region_at cs g) (gates.One side) c
    → HasPayload (region_at cs g) (slot_region (region_at cs g) side) i.group c
    → IsFound c (redoing paired here side i) p
found_one cs g c blocks_from blocks redone_blocks key i told_counter capacity here p paired side
    told_blocks bs again same_key same_counter same q version wide has =
    let region = region_at cs g in
    let bt : blocks_from ≡ blocks_at region = told_blocks ∙ ap (λ (v : Region). blocks_at v) same in
    let part : Part = record {
      key = Some key;
      counter = told_counter;
      blocks =
          content_of redone_blocks;
    } in
    let read : blocks_of region c ≡ content_of blocks =
    blocks_read region c blocks (bs ∙ ap (λ m. bytes_at c m region.size) bt) in
    let whole : redo i.group.entries (blocks_of region c) ≡ content_of redone_blocks =
    ap (redo i.group.entries) read ∙ sym again in
    let stood : redone region c i.group ≡ part =
    ap (λ (d : Content). record {
      key = Some i.group.key;
      counter = last_of i.group;
      blocks =
          d;
    }) whole
    ∙ ap (λ (l : List ℕ). record {
      key = Some l;
      counter = last_of i.group;
      blocks =
          content_of redone_blocks;
    }) (sym same_key)
    ∙ ap (λ (m : ℕ). record { key = Some key; counter = m; blocks = content_of redone_blocks })
    (sym same_counter) in
    let seen : redo (drop (skipped i.group.entries) i.group.entries) (blocks_of region c)
    ≡ content_of redone_blocks = sym (skip i.group.entries (blocks_of region c)) ∙ whole in
    subst (λ (v : Region). IsFound c (redoing paired v side i) p) (sym same)
    (subst (λ (v : Partition). IsFound c (redoing paired region side i) v) (sym q) (record {
      row = record { between = part; leads = refl; row = (wide.0, stood, has); behind = wide.1 };
      seen = record {
        between = part;
        leads = refl;
        row = (wide.0, stood, has);
        seen = seen;
        behind = wide.1;
        behind_seen = tt;
      };
      version = version;
    }))

-- 4. Both gates are open

-- what the two payloads are to each other
abbrev NextTo : Group → Group → Type 0
NextTo i j = (j.first ≡ last_of i + 1) × (j.key ≡ i.key)

record Both (region : Region) (c : Content) : Type 0 where
  first : Group
  second : Group
  has : HasPayload region (slot_region region A) first c
  also : HasPayload region (slot_region region B) second c
  next : NextTo first second ⊎ NextTo second first

stands_both : (region : Region) (c : Content) (p : Part) → GatesAre true region gates.Both c
    → StandsForTwo region c p → Both region c
stands_both region c p g (ByNeither a b held) = absurd (a g.0)
stands_both region c p g (ByOne A i wide shut has is) = absurd (shut g.1)
stands_both region c p g (ByOne B i wide shut has is) = absurd (shut g.0)
stands_both region c p g (ByBoth A i j wide too first second follows key is) =
    record { first = i; second = j; has = first; also = second; next = inl (follows, key) }
stands_both region c p g (ByBoth B i j wide too first second follows key is) =
    record { first = j; second = i; has = second; also = first; next = inr (follows, key) }

module _ (cs : List ℕ) (g : ℕ) (c : Content) (version : true ≡ is_paired c)
    (wide : GatesAre true (region_at cs g) gates.Both c) where
  both_of : HasPart cs c g → Both (region_at cs g) c
  both_of has = stands_both (region_at cs g) c has.part wide
      (subst (λ v. StandsIn v (region_at cs g) c has.part) (sym version) has.stands)

  pub ends_first : (f : OpenFault) → FindsPayloadFault (region_at cs g) A c f → FindsFault cs g c f
  ends_first fault.NotFormatted none = λ (has : HasPart cs c g).
      (let b = both_of has in none b.first b.has)
  ends_first fault.OtherConfig never = absurd never
  ends_first fault.DiskFault any = tt
  ends_first fault.NoMemory never = absurd never

  pub ends_second : (f : OpenFault) → FindsPayloadFault (region_at cs g) B c f → FindsFault cs g c f
  ends_second fault.NotFormatted none = λ (has : HasPart cs c g).
      (let b = both_of has in none b.second b.also)
  ends_second fault.OtherConfig never = absurd never
  ends_second fault.DiskFault any = tt
  ends_second fault.NoMemory never = absurd never

  -- payloads that don't follow each other
  pub ends_apart : (i j : Group) → HasPayload (region_at cs g) (slot_region (region_at cs g) A) i c
      → HasPayload (region_at cs g) (slot_region (region_at cs g) B) j c
      → ¬ NextTo i j → ¬ NextTo j i → ¬ HasPart cs c g
  ends_apart i j first second one two has =
      let b = both_of has in
      let e : b.first ≡ i = one_group (region_at cs g).size b.first i c
      (slot_region (region_at cs g) A).payload b.has first in
      let f : b.second ≡ j = one_group (region_at cs g).size b.second j c
      (slot_region (region_at cs g) B).payload b.also second in
      ⊎_elim (λ n. one (subst (λ v. NextTo i v) f (subst (λ v. NextTo v b.second) e n))) (λ n.
      two (subst (λ v. NextTo j v) e (subst (λ v. NextTo v b.first) f n))) b.next

wide_both : (region : Region) (c : Content) (side : Side) → GatesAre true region gates.Both c
    → IsWideOpen (slot_region region side) c × IsWideOpen (slot_region region (other_side side)) c
wide_both region c A g = (g.0, g.1)
wide_both region c B g = (g.1, g.0)

pub found_two : (cs : List ℕ) (g : ℕ) (c : Content) (blocks_from : ℕ)
    (blocks once twice key : List ℕ) (i j : Intent) (told_counter capacity : ℕ) (here : Region)
    (p : Partition) (side : Side)
    → blocks_from ≡ blocks_at here → blocks ≡ bytes_at c blocks_from (region_at cs g).size
    → content_of once ≡ redo i.group.entries (content_of blocks)
    → content_of twice ≡ redo j.group.entries (content_of once)
    → key ≡ j.group.key → told_counter ≡ last_of j.group → here ≡ region_at cs g
    → p ≡ record { capacity = capacity; key = Some key; counter = told_counter; blocks = twice }
    → true ≡ is_paired c → GatesAre true (region_at cs g) gates.Both c
    → HasPayload (region_at cs g) (slot_region (region_at cs g) side) i.group c
    → HasPayload (region_at cs g) (slot_region (region_at cs g) (other_side side)) j.group c
    → IsFound c (redoing_two here side i j) p
found_two cs g c blocks_from blocks once twice key i j told_counter capacity here p side told_blocks
    bs again more same_key same_counter same q version wide first second =
    let region = region_at cs g in
    let bt : blocks_from ≡ blocks_at region = told_blocks ∙ ap (λ (v : Region). blocks_at v) same in
    let part : Part = record { key = Some key; counter = told_counter; blocks = content_of twice }
    in
    let read : blocks_of region c ≡ content_of blocks =
    blocks_read region c blocks (bs ∙ ap (λ m. bytes_at c m region.size) bt) in
    let half : redo i.group.entries (blocks_of region c) ≡ content_of once =
    ap (redo i.group.entries) read ∙ sym again in
    let whole : redo j.group.entries (redo i.group.entries (blocks_of region c))
    ≡ content_of twice = ap (redo j.group.entries) half ∙ sym more in
    let stood : after (redone region c i.group) j.group ≡ part =
    ap (λ (d : Content). record {
      key = Some j.group.key;
      counter = last_of j.group;
      blocks =
          d;
    }) whole
    ∙ ap (λ (l : List ℕ). record {
      key = Some l;
      counter = last_of j.group;
      blocks =
          content_of twice;
    }) (sym same_key)
    ∙ ap (λ (m : ℕ). record { key = Some key; counter = m; blocks = content_of twice })
    (sym same_counter) in
    let both = wide_both region c side wide in
    let seen : redo (drop (skipped i.group.entries) i.group.entries) (blocks_of region c)
    ≡ redo i.group.entries (blocks_of region c) =
    sym (skip i.group.entries (blocks_of region c)) in
    subst (λ (v : Region). IsFound c (redoing_two v side i j) p) (sym same)
    (subst (λ (v : Partition). IsFound c (redoing_two region side i j) v) (sym q) (record {
      row = record {
        between = redone region c i.group;
        leads = stood;
        row = (both.0, refl, first);
        behind = (both.1, second, refl);
      };
      seen = record {
        between = redone region c i.group;
        leads = stood;
        row = (both.0, refl, first);
        seen = seen;
        behind = (both.1, second, refl);
        behind_seen = tt;
      };
      version = version;
    }))

-- 5. A gate

pub gate_is : (c : Content) (at : ℕ) (here region : Region) (side : Side) (out : List ℕ)
    → at ≡ (slot_region here side).gate → here ≡ region → out ≡ bytes_at c at 1
    → get_or out 0 0 ≡ c (slot_region region side).gate
unfolding bytes_at
gate_is c at here region side out told same is = let there = told
    ∙ ap (λ (v : Region). (slot_region v side).gate) same in ap (λ l. get_or l 0 0) is ∙ ap c there

-- a slot's gate and payload stand so far from the first byte
pub gate_tells : (n : ℕ) (side : SlotRegion) (c : Content) → n ≡ c side.gate
    → GateIs (n == 165) side c
gate_tells n side c is = ⊎_elim
    (λ e. (let t : (n == 165) ≡ true = grind (arith, nat_tests) in
    subst (λ v. GateIs v side c) (sym t) (sym is ∙ e)))
    (λ ne. (let f : (n == 165) ≡ false = grind (arith, nat_tests) in
    subst (λ v. GateIs v side c) (sym f) (λ wide. ne (is ∙ wide))))
    (cases_eq n 165)

-- which gates these two are
pub gates_first : (paired wide : Bool) (region : Region) (c : Content) → paired ≡ false
    → GateIs wide (slot_region region A) c → GatesAre paired region (gates_of wide false) c
gates_first true wide region c one g = absurd (cc)
gates_first false true region c one g = (g, tt, λ same. refl)
gates_first false false region c one g = (g, tt)

pub first_fits : (paired wide : Bool) → paired ≡ false → GatesFit paired (gates_of wide false)
first_fits true wide one = absurd (cc)
first_fits false true one = λ same. refl
first_fits false false one = tt

pub gates_both : (paired wide also : Bool) (region : Region) (c : Content) → paired ≡ true
    → GateIs wide (slot_region region A) c → GateIs also (slot_region region B) c
    → GatesAre paired region (gates_of wide also) c
gates_both false wide also region c two g h = absurd (cc)
gates_both true true true region c two g h = (g, h, refl)
gates_both true true false region c two g h = (g, h, λ same. refl)
gates_both true false true region c two g h = (h, g, λ same. absurd (cc))
gates_both true false false region c two g h = (g, h)

pub both_fit : (paired wide also : Bool) → paired ≡ true → GatesFit paired (gates_of wide also)
both_fit false wide also two = absurd (cc)
both_fit true true true two = refl
both_fit true true false two = λ same. refl
both_fit true false true two = λ same. absurd (cc)
both_fit true false false two = tt

pub version_is : (c : Content) (out : List ℕ) → out ≡ bytes_at c 512 1 → (get_or out 0 0 == 2)
    ≡ is_paired c
unfolding bytes_at is_paired
version_is c out is = ap (λ l. get_or l 0 0 == 2) is

pub gate_inside : (cs : List ℕ) (g at len : ℕ) (here : Region) (side : Side) → g < length cs
    → image_length cs ≤ len → here ≡ region_at cs g → at ≡ (slot_region here side).gate
    → at + 1 ≤ len
gate_inside cs g at len here A below room same there =
    part_inside cs g at 1 len 512 here below room same there (omega arith)
gate_inside cs g at len here B below room same there =
    part_inside cs g at 1 len 17920 here below room same there (omega arith)

pub payload_inside : (cs : List ℕ) (g at len : ℕ) (here : Region) (side : Side) → g < length cs
    → image_length cs ≤ len → here ≡ region_at cs g → at ≡ (slot_region here side).payload
    → at + 16648 ≤ len
payload_inside cs g at len here A below room same there =
    part_inside cs g at 16648 len 1024 here below room same there (omega arith)
payload_inside cs g at len here B below room same there =
    part_inside cs g at 16648 len 18432 here below room same there (omega arith)
