-- Which partition a content holds where both slots are in use.
use Rattle.std.proofs.Common.{◌≡◌, Bool, true, false, Some, ℕ, ◌+◌, ◌≤◌, ◌<◌, ap, sym, ◌∙◌, arith}
use Rattle.intent_slots.proofs.Common.{Content, A, B, Region, end_of, Group, last_of, Part, redone}
use Rattle.intent_slots.proofs.Common.{redo}
use Rattle.intent_slots.specs.declared.layout.Side.{Side}
use Rattle.intent_slots.specs.Layout.{slot_region, other_side}
use Rattle.intent_slots.specs.Recovered.{HoldsHome, HasPayload, after, StandsIn, ByNeither, ByOne}
use Rattle.intent_slots.specs.Recovered.{ByBoth, OnePartInTwo, TwoAreTheirBytes}
use Rattle.intent_slots.proofs.Same.{same_home, same_payload, payload_short}
use Rattle.intent_slots.proofs.Homes.{one_home}
use Rattle.intent_slots.proofs.Decoding.{one_group}
use Rattle.intent_slots.proofs.Parting.{blocks_same, one_part}

module _ (region : Region) (c : Content) (p q : Part) where
  homes : HoldsHome region c p → HoldsHome region c q → p ≡ q
  homes held there =
      let both = one_home p.key q.key p.counter q.counter c region.base held.home there.home in
      let key = both.0 in
      let counter = both.1 in
      let blocks : p.blocks ≡ q.blocks = sym held.same_blocks ∙ there.same_blocks in
      λ i. record { key = key i; counter = counter i; blocks = blocks i }

  ones : (side : Side) (i j : Group) → HasPayload region (slot_region region side) i c
      → redone region c i ≡ p → HasPayload region (slot_region region side) j c
      → redone region c j ≡ q → p ≡ q
  ones side i j here is there other = sym is
      ∙ ap (redone region c) (one_group region.size i j c (slot_region region side).payload here
      there) ∙ other

  boths : (side : Side) (i j k l : Group) → HasPayload region (slot_region region side) i c
      → HasPayload region (slot_region region (other_side side)) j c → after (redone region c i) j
      ≡ p
      → HasPayload region (slot_region region side) k c
      → HasPayload region (slot_region region (other_side side)) l c
      → after (redone region c k) l ≡ q → p ≡ q
  boths side i j k l first second is third fourth other =
      let one : i ≡ k = one_group region.size i k c (slot_region region side).payload first third in
      let two : j ≡ l = one_group region.size j l c (slot_region region (other_side side)).payload
      second fourth in
      sym is ∙ ap (λ g. after (redone region c g) j) one ∙ ap (after (redone region c k)) two
      ∙ other

  -- each can't come next after the other one
  crossed : (side : Side) (i j k l : Group) → HasPayload region (slot_region region side) i c
      → HasPayload region (slot_region region (other_side side)) j c → j.first ≡ last_of i + 1
      → HasPayload region (slot_region region (other_side side)) k c
      → HasPayload region (slot_region region side) l c → l.first ≡ last_of k + 1 → ⊥
  crossed side i j k l first second follows third fourth back =
      let one : i ≡ l = one_group region.size i l c (slot_region region side).payload first fourth
      in
      let two : j ≡ k = one_group region.size j k c (slot_region region (other_side side)).payload
      second third in
      let a = ap (λ g. g.first) one in
      let b = ap (λ g. g.first) two in
      omega (arith, follows, back, a, b)

pub one_part_in_two : OnePartInTwo
one_part_in_two region c p q (ByNeither a b held) (ByNeither a' b' there) =
    homes region c p q held there
one_part_in_two region c p q (ByNeither a b held) (ByOne A i wide shut has is) = absurd (a wide)
one_part_in_two region c p q (ByNeither a b held) (ByOne B i wide shut has is) = absurd (b wide)
one_part_in_two region c p q (ByNeither a b held) (ByBoth A i j wide too first second follows key
    is) = absurd (a wide)
one_part_in_two region c p q (ByNeither a b held) (ByBoth B i j wide too first second follows key
    is) = absurd (b wide)
one_part_in_two region c p q (ByOne A i wide shut has is) (ByNeither a b held) = absurd (a wide)
one_part_in_two region c p q (ByOne B i wide shut has is) (ByNeither a b held) = absurd (b wide)
one_part_in_two region c p q (ByOne A i wide shut has is) (ByOne A k wide' shut' has' is') =
    ones region c p q A i k has is has' is'
one_part_in_two region c p q (ByOne B i wide shut has is) (ByOne B k wide' shut' has' is') =
    ones region c p q B i k has is has' is'
one_part_in_two region c p q (ByOne A i wide shut has is) (ByOne B k wide' shut' has' is') =
    absurd (shut wide')
one_part_in_two region c p q (ByOne B i wide shut has is) (ByOne A k wide' shut' has' is') =
    absurd (shut wide')
one_part_in_two region c p q (ByOne A i wide shut has is)
    (ByBoth A k l wide' too first second follows key is') = absurd (shut too)
one_part_in_two region c p q (ByOne A i wide shut has is)
    (ByBoth B k l wide' too first second follows key is') = absurd (shut wide')
one_part_in_two region c p q (ByOne B i wide shut has is)
    (ByBoth A k l wide' too first second follows key is') = absurd (shut wide')
one_part_in_two region c p q (ByOne B i wide shut has is)
    (ByBoth B k l wide' too first second follows key is') = absurd (shut too)
one_part_in_two region c p q (ByBoth A i j wide too first second follows key is)
    (ByNeither a b held) = absurd (a wide)
one_part_in_two region c p q (ByBoth B i j wide too first second follows key is)
    (ByNeither a b held) = absurd (b wide)
one_part_in_two region c p q (ByBoth A i j wide too first second follows key is)
    (ByOne A k wide' shut has is') = absurd (shut too)
one_part_in_two region c p q (ByBoth A i j wide too first second follows key is)
    (ByOne B k wide' shut has is') = absurd (shut wide)
one_part_in_two region c p q (ByBoth B i j wide too first second follows key is)
    (ByOne A k wide' shut has is') = absurd (shut wide)
one_part_in_two region c p q (ByBoth B i j wide too first second follows key is)
    (ByOne B k wide' shut has is') = absurd (shut too)
one_part_in_two region c p q (ByBoth A i j wide too first second follows key is)
    (ByBoth A k l wide' too' third fourth back key' is') =
    boths region c p q A i j k l first second is third fourth is'
one_part_in_two region c p q (ByBoth B i j wide too first second follows key is)
    (ByBoth B k l wide' too' third fourth back key' is') =
    boths region c p q B i j k l first second is third fourth is'
one_part_in_two region c p q (ByBoth A i j wide too first second follows key is)
    (ByBoth B k l wide' too' third fourth back key' is') =
    absurd (crossed region c p q A i j k l first second follows third fourth back)
one_part_in_two region c p q (ByBoth B i j wide too first second follows key is)
    (ByBoth A k l wide' too' third fourth back key' is') =
    absurd (crossed region c p q B i j k l first second follows third fourth back)

-- in either version
pub one_of : (paired : Bool) (region : Region) (c : Content) (p q : Part)
    → StandsIn paired region c p → StandsIn paired region c q → p ≡ q
one_of false region c p q one two = one_part region (slot_region region A) c p q one two
one_of true region c p q one two = one_part_in_two region c p q one two

module _ (region : Region) (c d : Content) (same : (k : ℕ) → region.base ≤ k → k < end_of region
    → c k ≡ d k) where
  gate_own : (side : Side) → c (slot_region region side).gate ≡ d (slot_region region side).gate
  gate_own A = same (slot_region region A).gate (omega arith) (omega arith)
  gate_own B = same (slot_region region B).gate (omega arith) (omega arith)

  payload_own : (side : Side) (i : Group) → HasPayload region (slot_region region side) i c
      → HasPayload region (slot_region region side) i d
  payload_own A i has = (let short = payload_short region.size i has.fits in
      same_payload region.size c (slot_region region A).payload d (slot_region region A).payload i
      (λ k lt. same ((slot_region region A).payload + k) (omega arith)
      (omega (arith, lt, short))) has)
  payload_own B i has = (let short = payload_short region.size i has.fits in
      same_payload region.size c (slot_region region B).payload d (slot_region region B).payload i
      (λ k lt. same ((slot_region region B).payload + k) (omega arith)
      (omega (arith, lt, short))) has)

  redone_own : (i : Group) → redone region c i ≡ redone region d i
  redone_own i = ap (λ (b : Content). record {
    key = Some i.key;
    counter = last_of i;
    blocks =
        redo i.entries b;
  }) (blocks_same region c d same)

  home_own : (p : Part) → HoldsHome region c p → HoldsHome region d p
  home_own p held = record {
    home = same_home c region.base d region.base p.key p.counter (λ k lt.
        same (region.base + k) (omega arith) (omega (arith, lt))) held.home;
    same_blocks = sym (blocks_same region c d same) ∙ held.same_blocks;
  }

pub two_own : TwoAreTheirBytes
two_own region c d p same (ByNeither a b held) = ByNeither (λ e. a (gate_own region c d same A ∙ e))
    (λ e. b (gate_own region c d same B ∙ e)) (home_own region c d same p held)
two_own region c d p same (ByOne side i wide shut has is) =
    ByOne side i (sym (gate_own region c d same side) ∙ wide) (λ e.
    shut (gate_own region c d same (other_side side) ∙ e))
    (payload_own region c d same side i has) (sym (redone_own region c d same i) ∙ is)
two_own region c d p same (ByBoth side i j wide too first second follows key is) =
    ByBoth side i j (sym (gate_own region c d same side) ∙ wide)
    (sym (gate_own region c d same (other_side side)) ∙ too)
    (payload_own region c d same side i first) (payload_own region c d same (other_side side) j
    second) follows key (ap (λ v. after v j) (sym (redone_own region c d same i)) ∙ is)
