-- The stretch of the table that isn't free, as chains are offered and come back.
use Rattle.std.proofs.Common.{◌≡◌, ◌≢◌, ◌⊎◌, ℕ, ◌+◌, ◌-◌, ◌%◌, ◌<◌, ◌≤◌, inl, inr, Bool, true}
use Rattle.std.proofs.Common.{false, List, length, get_or, slice_set, Option, Some, None, refl, sym}
use Rattle.std.proofs.Common.{ap, ◌∙◌, subst, arith}
use Rattle.guest_driver.proofs.Common.{mod_below, cases_eq, cases_lt, get_or-set_same}
use Rattle.guest_driver.proofs.Common.{get_or-set_other, length-set, Flight, no_flight, owner}
use Rattle.guest_driver.proofs.Common.{ordered_by, ChoosesNext, ChoosesBy, TakesBy, next_by}
use Rattle.guest_driver.proofs.Common.{IsStretch, mark_after, RingKind, Split}
use Rattle.std.proofs.Math.ListN.{get_or-eq_default}
use Rattle.guest_driver.specs.Driver.{following, HasNextFree, HasTooFew, last_after}
use Rattle.guest_driver.specs.TableOrder.{turn, turn_of, IsWithin, IsBehind, HaveOne, IsHead}
use Rattle.guest_driver.specs.TableOrder.{behind, IsInTurn}

-- the descriptor that follows one
pub record Follows (size d s : ℕ) : Type 0 where
  pub next : d + 1 < size → s ≡ d + 1
  pub first : d + 1 ≡ size → s ≡ 0
  pub low : s < size

pub follows : (size d : ℕ) → d < size → Follows size d (following size d)
follows size d low = grind arith

-- the same by cases, as omega takes them
follow_cases : (size d s : ℕ) → d < size → Follows size d s → ((d + 1 < size) × (s ≡ d + 1))
    ⊎ ((d + 1 ≡ size) × (s ≡ 0))
follow_cases size d s low f = grind arith

within_cases : (size first many d : ℕ) → IsWithin size first many d
    → ((first ≤ d) × (d < first + many)) ⊎ ((d < first) × (d + size < first + many))
within_cases size first many d w = grind arith

behind_cases : (size first many next : ℕ) → IsBehind size first many next
    → ((first + many < size) × (next ≡ first + many))
    ⊎ ((size ≤ first + many) × (next + size ≡ first + many))
behind_cases size first many next b = grind arith

turn_zero : (used : ℕ) → used < 65536 → turn used used ≡ 0
unfolding turn
turn_zero used low = omega arith

turn_more : (used offered : ℕ) → used < 65536 → offered < 65536 → turn used offered < 65535
    → turn used ((offered + 1) % 65536) ≡ turn used offered + 1
unfolding turn
turn_more used offered low other few = omega arith

turn_less : (used mark : ℕ) → used < 65536 → mark < 65536 → 0 < turn used mark
    → turn ((used + 1) % 65536) mark + 1 ≡ turn used mark
unfolding turn
turn_less used mark low other some = omega arith

some_taken : (o : Option ℕ) (x : ℕ) → o ≡ Some x → o ≢ None
some_taken o x e n = let z = sym e ∙ n in absurd (cc)

-- 1. Too few are free where the next ones aren't

-- where one descriptor at most is free, it is the next one
others_within : (size first many next x : ℕ) → first < size → many ≤ size → next < size
    → IsBehind size first many next → size ≤ many + 1 → x < size → x ≢ next
    → IsWithin size first many x
others_within size first many next x a b c e few low other = let p =
    behind_cases size first many next e in omega arith

pub too_few : (size offered used next : ℕ) (owners : List (Option ℕ)) (flights : List Flight)
    (two : Bool) → IsStretch size offered used next owners flights → length owners ≡ size
    → ¬ HasNextFree owners next two → HasTooFew owners two
too_few size offered used next owners flights two s long none =
    grind (arith, follows, others_within)

-- 2. A chain is offered

-- the descriptors that a chain takes, from the next one on
record IsTaken (size next last count : ℕ) (owners : List (Option ℕ)) : Type 0 where
  pub low : last < size
  pub free : owner owners next ≡ None
  pub last_free : owner owners last ≡ None
  pub is : ((last ≡ next) × (count ≡ 1)) ⊎ ((last ≡ following size next) × (last ≢ next)
      × (count ≡ 2))

record Numbers (size first many next last count behind : ℕ) : Type 0 where
  first_low : first < size
  many_low : many + count ≤ size
  next_low : next < size
  last_low : last < size
  ends : ((first + many < size) × (next ≡ first + many))
      ⊎ ((size ≤ first + many) × (next + size ≡ first + many))
  spans : ((last ≡ next) × (count ≡ 1)) ⊎ ((next + 1 < size) × (last ≡ next + 1) × (count ≡ 2))
      ⊎ ((next + 1 ≡ size) × (last ≡ 0) × (last ≢ next) × (count ≡ 2))
  follower : ((last + 1 < size) × (behind ≡ last + 1)) ⊎ ((last + 1 ≡ size) × (behind ≡ 0))

last_by : (size next last count : ℕ) → next < size → Follows size next (following size next)
    → ((last ≡ next) × (count ≡ 1)) ⊎ ((last ≡ following size next) × (last ≢ next) × (count ≡ 2))
    → ((last ≡ next) × (count ≡ 1)) ⊎ ((next + 1 < size) × (last ≡ next + 1) × (count ≡ 2))
    ⊎ ((next + 1 ≡ size) × (last ≡ 0) × (last ≢ next) × (count ≡ 2))
last_by size next last count low f x6 = grind arith

-- there is room for it
room_for : (size offered used next last count : ℕ) (owners : List (Option ℕ))
    (flights : List Flight) → (s : IsStretch size offered used next owners flights)
    → IsTaken size next last count owners
    → s.many + count ≤ size
room_for size offered used next last count owners flights s t = grind arith

ends_more : (size first many next last count behind : ℕ)
    → Numbers size first many next last count behind → IsBehind size first (many + count) behind
ends_more size first many next last count behind n = omega arith

others_were : (size first many next last count behind d : ℕ)
    → Numbers size first many next last count behind → d < size → d ≢ next → d ≢ last
    → IsWithin size first (many + count) d → IsWithin size first many d
others_were size first many next last count behind d n low p q w = omega arith

-- each chain has a descriptor of its own
few_of : (size offered used next : ℕ) (owners : List (Option ℕ)) (flights : List Flight)
    → (s : IsStretch size offered used next owners flights) → turn used offered ≤ s.many
few_of size offered used next owners flights s = grind arith

-- what the owners and the flights are with the chain
record Gains (size next last : ℕ) (owners owners' : List (Option ℕ))
    (flights flights' : List Flight) (f : Flight) : Type 0 where
  head : owner owners' next ≡ Some next
  tail : owner owners' last ≡ Some next
  others : (d : ℕ) → d ≢ next → d ≢ last → owner owners' d ≡ owner owners d
  flight : get_or flights' next no_flight ≡ f
  flown : (d : ℕ) → d ≢ next → get_or flights' d no_flight ≡ get_or flights d no_flight

gains : (size next last : ℕ) (owners : List (Option ℕ)) (flights : List Flight) (f : Flight)
    → length owners ≡ size → length flights ≡ size → next < size → last < size
    → Gains size next last owners (slice_set (slice_set owners next (Some next)) last (Some next))
    flights (slice_set flights next f) f
gains size next last owners flights f long wide low last_low =
    grind (arith, get_or-set_other, get_or-set_same, length-set)

some_same : (a b : ℕ) (o : Option ℕ) → o ≡ Some a → o ≡ Some b → a ≡ b
some_same a b o p q = let e = sym p ∙ q in cc

-- a descriptor with an owner isn't free
apart : (owners : List (Option ℕ)) (d x h : ℕ) → owner owners d ≡ Some h → owner owners x ≡ None
    → d ≢ x
apart owners d x h p q e = let z = sym p ∙ ap (owner owners) e ∙ q in absurd (cc)

-- a chain that was in flight stays in its turn
turn_stays : (size offered used next last count : ℕ) (owners owners' : List (Option ℕ))
    (flights flights' : List Flight) (f : Flight) (d : ℕ)
    → (s : IsStretch size offered used next owners flights) → size ≤ 65535
    → IsTaken size next last count owners → Gains size next last owners owners' flights flights'
    f → f.place ≡ offered
    → d ≢ next → d < size → IsHead owners d → IsInTurn size offered used next owners flights d
    → turn used ((offered + 1) % 65536) ≡ turn used offered + 1
    → IsInTurn size ((offered + 1) % 65536) used (following size last) owners' flights' d
turn_stays size offered used next last count owners owners' flights flights' f d s small t g at p
    low head old more =
    let same = g.flown d p in
    let turns : turn_of used flights' d ≡ turn_of used flights d =
    ap (λ (v : Flight). turn used v.place) same in
    let lasts : (get_or flights' d no_flight).last ≡ (get_or flights d no_flight).last =
    ap (λ (v : Flight). v.last) same in
    let b = behind size flights d in
    let behinds : behind size flights' d ≡ b = ap (following size) lasts in
    let l = (get_or flights d no_flight).last in
    let stays : owner owners' l ≡ owner owners l =
    g.others l (apart owners l next d old.owned t.free)
    (apart owners l last d old.owned t.last_free) in
    let older_old : turn_of used flights d + 1 < turn used offered → IsHead owners' b
    × (turn_of used flights' b ≡ turn_of used flights d + 1) = λ less.
    (let o = old.older less in (
      g.others b (apart owners b next b o.0 t.free) (apart owners b last b o.0 t.last_free) ∙ o.0,
      ap (λ (v : Flight). turn used v.place) (g.flown b (apart owners b next b o.0 t.free)) ∙ o.1,
    )) in
    let older_new : turn_of used flights d + 1 ≡ turn used offered → IsHead owners' b
    × (turn_of used flights' b ≡ turn_of used flights d + 1) = grind arith in
    let older_both : IsHead owners' b × (turn_of used flights' b ≡ turn_of used flights d + 1) =
    elim (cases_lt (turn_of used flights d + 1) (turn used offered)) [
      | inl less ↦ older_old less
      | inr far ↦ older_new (omega arith)
    ] in
    record {
      one = ap (λ (v : Flight). v.places) same ∙ old.one;
      low = let e = ap (λ (v : Flight). v.place) same in omega arith;
      before = omega arith;
      spans = elim old.spans [ inl e ↦ inl (lasts ∙ e) | inr e ↦ inr (lasts ∙ e) ];
      owned = ap (owner owners') lasts ∙ stays ∙ old.owned;
      older = λ _. (
        ap (owner owners') behinds ∙ older_both.0 ∙ ap Some (sym behinds),
        ap (turn_of used flights') behinds ∙ older_both.1 ∙ ap (λ v. v + 1) (sym turns),
      );
      newest = λ e. absurd (omega arith);
    }

-- the new chain has the last turn
turn_joins : (size offered used next last count : ℕ) (owners owners' : List (Option ℕ))
    (flights flights' : List Flight) (f : Flight)
    → offered < 65536 → IsTaken size next last count owners
    → Gains size next last owners owners' flights flights' f → f.place ≡ offered → f.last ≡ last
    → f.places ≡ 1
    → turn used ((offered + 1) % 65536) ≡ turn used offered + 1
    → IsInTurn size ((offered + 1) % 65536) used (following size last) owners' flights' next
turn_joins size offered used next last count owners owners' flights flights' f low t g at ends one
    more =
    grind arith

-- a head is the new one, or was one
head_was : (size next last : ℕ) (owners owners' : List (Option ℕ)) (flights flights' : List Flight)
    (f : Flight) (d : ℕ) → Gains size next last owners owners' flights flights' f
    → d ≢ next → IsHead owners' d → IsHead owners d
head_was size next last owners owners' flights flights' f d g p head = grind arith

stretch_more : (size offered used next last count : ℕ) (owners owners' : List (Option ℕ))
    (flights flights' : List Flight) (f : Flight)
    → IsStretch size offered used next owners flights → size ≤ 65535
    → IsTaken size next last count owners → Gains size next last owners owners' flights flights'
    f
    → f.place ≡ offered → f.last ≡ last → f.places ≡ 1
    → IsStretch size ((offered + 1) % 65536) used (following size last) owners' flights'
stretch_more size offered used next last count owners owners' flights flights' f s small t g at ends
    one =
    let room = room_for size offered used next last count owners flights s t in
    let few = few_of size offered used next owners flights s in
    let some : 0 < count = elim t.is [ inl e ↦ omega arith | inr e ↦ omega arith ] in
    let more = turn_more used offered s.used_low s.offered_low (omega arith) in
    let behind_of = follows size last t.low in
    let n : Numbers size s.first s.many next last count (following size last) =
    grind (arith, behind_cases, follow_cases, follows, last_by) in
    let joins = turn_joins size offered used next last count owners owners' flights flights' f
    s.offered_low t g at ends one more in
    let new_turn : turn_of used flights' next ≡ turn used offered =
    ap (λ (v : Flight). turn used v.place) g.flight ∙ ap (turn used) at in
    let old_turn : (d : ℕ) → d ≢ next → turn_of used flights' d ≡ turn_of used flights d = λ d p.
    ap (λ (v : Flight). turn used v.place) (g.flown d p) in
    let was : (d : ℕ) → d ≢ next → IsHead owners' d → IsHead owners d = λ d p h.
    head_was size next last owners owners' flights flights' f d g p h in
    let below : (d : ℕ) → d < size → d ≢ next → IsHead owners' d → turn_of used flights' d
    < turn used offered = grind arith in
    record {
      first = s.first;
      many = s.many + count;
      first_low = s.first_low;
      many_low = room;
      used_low = s.used_low;
      offered_low = mod_below (offered + 1) 65536 (omega arith);
      next_low = behind_of.low;
      ends = ends_more size s.first s.many next last count (following size last) n;
      taken = grind arith;
      covers = λ d low w. elim (cases_eq d next) [
        | inl here ↦ some_taken (owner owners' d) next (ap (owner owners') here ∙ g.head)
        | inr p ↦ elim (cases_eq d last) [
          | inl here ↦ some_taken (owner owners' d) next (ap (owner owners') here ∙ g.tail)
          | inr q ↦ λ e. s.covers d low (others_were size s.first s.many next last count
              (following size last) d n low p q w) (sym (g.others d p q) ∙ e)
        ]
      ];
      room = grind arith;
      oldest = λ _. elim (cases_lt 0 (turn used offered)) [
        | inl already ↦
            let o = s.oldest already in
            let p = apart owners s.first next s.first o.0 t.free in
            let q = apart owners s.first last s.first o.0 t.last_free in
            (g.others s.first p q ∙ o.0, old_turn s.first p ∙ o.1)
        | inr none ↦
            let zero : turn used offered ≡ 0 = omega arith in
            let here : s.first ≡ next = s.none zero in (
              ap (owner owners') here ∙ g.head ∙ ap Some (sym here),
              ap (turn_of used flights') here
                  ∙ new_turn ∙ zero,
            )
      ];
      none = λ e. absurd (omega arith);
      each = λ d low h. elim (cases_eq d next) [
        | inl here ↦ subst (λ v. IsInTurn size ((offered + 1) % 65536) used (following size last)
            owners' flights' v) (sym here) joins
        | inr p ↦ turn_stays size offered used next last count owners owners' flights flights' f d s
            small t g at p low (was d p h) (s.each d low (was d p h)) more
      ];
      once = λ d e low low' h h' same. elim (cases_eq d next) [
        | inl here ↦ elim (cases_eq e next) [
          | inl there ↦ here ∙ sym there
          | inr q ↦ let b = below e low' q h' in let a = ap (turn_of used flights') here
              ∙ new_turn in absurd (omega arith)
        ]
        | inr p ↦ elim (cases_eq e next) [
          | inl there ↦ let b = below d low p h in let a = ap (turn_of used flights') there
              ∙ new_turn in absurd (omega arith)
          | inr q ↦ s.once d e low low' (was d p h) (was e q h') (sym (old_turn d p) ∙ same
              ∙ old_turn e q)
        ]
      ];
    }

taken_of : (size next last : ℕ) (owners : List (Option ℕ)) (two : Bool) → length owners ≡ size
    → HasNextFree owners next two → last ≡ last_after owners next two
    → (count : ℕ) × IsTaken size next last count owners
taken_of size next last owners false long h is = (
  1,
  record {
    low = omega arith;
    free = h.free;
    last_free = ap (owner owners) is ∙ h.free;
    is = inl (is, refl);
  },
)
taken_of size next last owners true long h is = (
  2,
  record {
    low = omega arith;
    free = h.first.free;
    last_free = ap (owner owners) is ∙ h.second.free;
    is = inr (is ∙ ap (λ v. following v next) long, (λ e. h.two (sym e ∙ is)), refl);
  },
)

-- the stretch once a chain was offered
pub stretch_offered : (size offered used next last writable : ℕ) (two : Bool)
    (owners : List (Option ℕ)) (flights : List Flight)
    → IsStretch size offered used next owners flights → size ≤ 65535 → length owners ≡ size
    → length flights ≡ size → HasNextFree owners next two → last ≡ last_after owners next two
    → IsStretch size ((offered + 1) % 65536) used (following size last)
    (slice_set (slice_set owners next (Some next)) last (Some next))
    (slice_set flights next (record {
      last = last;
      places = 1;
      writable = writable;
      place =
          offered;
    }))
stretch_offered size offered used next last writable two owners flights s small long wide free is =
    let f : Flight = record { last = last; places = 1; writable = writable; place = offered } in
    let t = taken_of size next last owners two long free is in
    stretch_more size offered used next last t.0 owners
    (slice_set (slice_set owners next (Some next)) last (Some next)) flights
    (slice_set flights next f) f s small t.1
    (gains size next last owners flights f long wide s.next_low t.1.low) refl refl refl

-- 3. The oldest chain comes back

record Fewer (size first many next last count behind : ℕ) : Type 0 where
  first_low : first < size
  many_low : many ≤ size
  next_low : next < size
  last_low : last < size
  enough : count ≤ many
  ends : ((first + many < size) × (next ≡ first + many))
      ⊎ ((size ≤ first + many) × (next + size ≡ first + many))
  spans : ((last ≡ first) × (count ≡ 1)) ⊎ ((first + 1 < size) × (last ≡ first + 1) × (count ≡ 2))
      ⊎ ((first + 1 ≡ size) × (last ≡ 0) × (last ≢ first) × (count ≡ 2))
  follower : ((last + 1 < size) × (behind ≡ last + 1)) ⊎ ((last + 1 ≡ size) × (behind ≡ 0))

-- the first of the stretch are given back
ends_less : (size first many next last count behind : ℕ)
    → Fewer size first many next last count behind → IsBehind size behind (many - count) next
ends_less size first many next last count behind n = omega arith

room_less : (size first many next last count behind chains chains' t t' d : ℕ)
    → Fewer size first many next last count behind → d < size → d ≢ first → d ≢ last
    → IsWithin size first many d
    → chains' + 1 ≡ chains → t' + 1 ≡ t → HaveOne size first many chains t d
    → HaveOne size behind (many - count) chains' t' d
room_less size first many next last count behind chains chains' t t' d n low p q w less turns h =
    grind arith

record Loses (size id last : ℕ) (owners owners' : List (Option ℕ)) : Type 0 where
  head : owner owners' id ≡ None
  tail : owner owners' last ≡ None
  others : (d : ℕ) → d ≢ id → d ≢ last → owner owners' d ≡ owner owners d

loses : (size id last : ℕ) (owners : List (Option ℕ)) → length owners ≡ size → id < size
    → last < size → Loses size id last owners (slice_set (slice_set owners id None) last None)
loses size id last owners long low last_low =
    grind (arith, get_or-set_other, get_or-set_same, length-set)

count_of : (size first last : ℕ) (owners : List (Option ℕ)) → first < size → (last ≡ first)
    ⊎ (last ≡ following size first)
    → (count : ℕ) × (((last ≡ first) × (count ≡ 1))
    ⊎ ((first + 1 < size) × (last ≡ first + 1) × (count ≡ 2))
    ⊎ ((first + 1 ≡ size) × (last ≡ 0) × (last ≢ first) × (count ≡ 2)))
count_of size first last owners low (inl same) = (1, inl (same, refl))
count_of size first last owners low (inr e) =
    elim (cases_eq last first) [
      | inl same ↦ (1, inl (same, refl))
      | inr other ↦ elim (follow_cases size first (following size first) low
          (follows size first low)) [
            | inl near ↦ (2, inr (inl (near.0, e ∙ near.1, refl)))
            | inr far ↦ (2, inr (inr (far.0, e ∙ far.1, other, refl)))
          ]
    ]

-- a chain that stays in flight stays in its turn, which is one less
turn_is_less : (size offered used next id last : ℕ) (owners owners' : List (Option ℕ))
    (flights : List Flight) (d : ℕ)
    → IsStretch size offered used next owners flights → owner owners last ≡ Some id → id < size
    → IsHead owners id → turn_of used flights id ≡ 0 → Loses size id last owners owners'
    → ((i : ℕ) → i < size → (get_or flights i no_flight).last < size)
    → d < size → d ≢ id → d ≢ last → IsHead owners d
    → turn_of ((used + 1) % 65536) flights d + 1 ≡ turn_of used flights d
    → turn ((used + 1) % 65536) offered + 1 ≡ turn used offered
    → IsInTurn size offered ((used + 1) % 65536) next owners' flights d
turn_is_less size offered used next id last owners owners' flights d s tail id_low id_head zero g
    lasts low p q head less fewer =
    let old = s.each d low head in
    let l = (get_or flights d no_flight).last in
    let l_not_id : l ≢ id = λ e.
    p (some_same d id (owner owners id) (ap (owner owners) (sym e) ∙ old.owned) id_head) in
    let l_not_last : l ≢ last = λ e.
    p (some_same d id (owner owners last) (ap (owner owners) (sym e) ∙ old.owned) tail) in
    let b = behind size flights d in
    let b_low = (follows size l (lasts d low)).low in
    record {
      one = old.one;
      low = old.low;
      before = omega arith;
      spans = old.spans;
      owned = g.others l l_not_id l_not_last ∙ old.owned;
      older = λ more.
          (let o = old.older (omega arith) in
          let b_not_id : b ≢ id = λ e.
          (let z = ap (turn_of used flights) e ∙ zero in absurd (omega arith)) in
          let b_not_last : b ≢ last = λ e.
          b_not_id (some_same b id (owner owners last) (ap (owner owners) (sym e) ∙ o.0) tail)
          in
          let b_turn = s.each b b_low o.0 in
          let b_less = turn_less used (get_or flights b no_flight).place s.used_low b_turn.low
          (omega arith) in
          (g.others b b_not_id b_not_last ∙ o.0, omega arith));
      newest = λ e. old.newest (omega arith);
    }

stretch_less : (size offered used next id last : ℕ) (owners owners' : List (Option ℕ))
    (flights : List Flight)
    → IsStretch size offered used next owners flights → last ≡ (get_or flights id no_flight).last
    → id < size → IsHead owners id → (get_or flights id no_flight).place ≡ used
    → ((i : ℕ) → i < size → (get_or flights i no_flight).last < size)
    → Loses size id last owners owners'
    → IsStretch size offered ((used + 1) % 65536) next owners' flights
stretch_less size offered used next id last owners owners' flights s is id_low head place lasts g =
    let oldest = s.each id id_low head in
    let zero : turn_of used flights id ≡ 0 = ap (turn used) place ∙ turn_zero used s.used_low in
    let some : 0 < turn used offered = omega arith in
    let o = s.oldest some in
    let here : id ≡ s.first = s.once id s.first id_low s.first_low head o.0 (zero ∙ sym o.1) in
    let tail : owner owners last ≡ Some id = ap (owner owners) is ∙ oldest.owned in
    let last_low : last < size = let e = lasts id id_low in omega arith in
    let b = following size last in
    let behinds : behind size flights id ≡ b = ap (following size) (sym is) in
    let b_follows = follows size last last_low in
    let spans : (last ≡ s.first) ⊎ (last ≡ following size s.first) =
    elim oldest.spans [
      | inl e ↦ inl (is ∙ e ∙ here)
      | inr e ↦ inr (is ∙ e
          ∙ ap (following size) here)
    ] in
    let counted = count_of size s.first last owners s.first_low spans in
    let count = counted.0 in
    let last_within = within_cases size s.first s.many last
    (s.taken last last_low (some_taken (owner owners last) id tail)) in
    let n : Fewer size s.first s.many next last count b = grind arith in
    let used' = (used + 1) % 65536 in
    let fewer = turn_less used offered s.used_low s.offered_low some in
    let not_id : (d : ℕ) → owner owners' d ≢ None → d ≢ id = λ d t e.
    t (ap (owner owners') e ∙ g.head) in
    let not_last : (d : ℕ) → owner owners' d ≢ None → d ≢ last = λ d t e.
    t (ap (owner owners') e ∙ g.tail) in
    let was : (d : ℕ) → IsHead owners' d → IsHead owners d = grind arith in
    let less : (d : ℕ) → d < size → IsHead owners' d → turn_of used' flights d + 1
    ≡ turn_of used flights d = grind (arith, cases_lt, some_taken, turn_less) in
    record {
      first = b;
      many = s.many - count;
      first_low = b_follows.low;
      many_low = omega arith;
      used_low = mod_below (used + 1) 65536 (omega arith);
      offered_low = s.offered_low;
      next_low = s.next_low;
      ends = ends_less size s.first s.many next last count b n;
      taken = grind arith;
      covers = grind arith;
      room = λ d low h.
          (let t = some_taken (owner owners' d) d h in
          let p = not_id d t in
          let q = not_last d t in
          room_less size s.first s.many next last count b (turn used offered) (turn used' offered)
          (turn_of used flights d) (turn_of used' flights d) d n low (λ e. p (e ∙ sym here)) q
          (s.taken d low (some_taken (owner owners d) d (was d h))) fewer (less d low h)
          (s.room d low (was d h)));
      oldest = grind arith;
      none = λ e. sym behinds ∙ oldest.newest (omega arith);
      each = λ d low h.
          (let t = some_taken (owner owners' d) d h in
          turn_is_less size offered used next id last owners owners' flights d s tail id_low head
          zero g lasts low (not_id d t) (not_last d t) (was d h) (less d low h) fewer);
      once = λ d e low low' h h' same. s.once d e low low' (was d h) (was e h') (let x =
          less d low h in let y = less e low' h' in omega arith);
    }

-- the stretch once the oldest chain came back
pub stretch_back : (size offered used next id : ℕ) (owners : List (Option ℕ))
    (flights : List Flight)
    → IsStretch size offered used next owners flights → length owners ≡ size → id < size
    → IsHead owners id → (get_or flights id no_flight).place ≡ used
    → ((i : ℕ) → i < size → (get_or flights i no_flight).last < size)
    → IsStretch size offered ((used + (get_or flights id no_flight).places) % 65536) next
    (slice_set (slice_set owners id None) (get_or flights id no_flight).last None) flights
stretch_back size offered used next id owners flights s long low head place lasts =
    let last = (get_or flights id no_flight).last in
    let owners' = slice_set (slice_set owners id None) last None in
    let one = (s.each id low head).one in
    subst (λ v. IsStretch size offered ((used + v) % 65536) next owners' flights) (sym one)
    (stretch_less size offered used next id last owners owners' flights s refl low head place lasts
    (loses size id last owners long low (lasts id low)))

-- 4. Nothing was offered yet

pub stretch_begins : (size : ℕ) (owners : List (Option ℕ)) (flights : List Flight) → 0 < size
    → ((d : ℕ) → d < size → owner owners d ≡ None)
    → IsStretch size 0 0 0 owners flights
stretch_begins size owners flights some free_all = grind (arith, turn_zero)

-- the order of the table is that of a driver that accepted VIRTIO_F_IN_ORDER
pub in_order_of : (kind : RingKind) (in_order : Bool) → ordered_by kind in_order ≡ true
    → in_order ≡ true
in_order_of kind in_order e = grind arith

pub ordered_of : (kind : RingKind) (in_order : Bool) → kind ≡ Split → in_order ≡ true
    → ordered_by kind in_order ≡ true
ordered_of kind in_order split is = ap (λ k. ordered_by k in_order) split ∙ is

-- where the next descriptors aren't free, too few are
pub chooses_by : (size offered used next : ℕ) (owners : List (Option ℕ)) (flights : List Flight)
    (two : Bool) (pair : Option (ℕ × ℕ))
    → (0 < size → IsStretch size offered used next owners flights) → length owners ≡ size
    → ChoosesNext owners next two pair → ChoosesBy true owners next two pair
chooses_by size offered used next owners flights two pair s long h = grind (arith, too_few)

-- a descriptor with an owner is one of the ring's
pub owner_low : (owners : List (Option ℕ)) (d h : ℕ) → owner owners d ≡ Some h → d < length owners
owner_low owners d h is = grind (arith, get_or-eq_default)

-- a split ring's chain has one place
pub one_place : (kind : RingKind) (in_order : Bool) (size mark places : ℕ)
    → ordered_by kind in_order ≡ true → mark_after kind size mark places ≡ (mark + places) % 65536
one_place kind in_order size mark places e = grind arith

-- the stretch once a driver offered a chain
pub stretch_by : (size offered used next head last writable next' : ℕ) (two ordered in_order : Bool)
    (owners : List (Option ℕ)) (flights : List Flight)
    → ordered ≡ true → in_order ≡ true
    → (0 < size → IsStretch size offered used next owners flights) → size ≤ 65535
    → length owners ≡ size → length flights ≡ size
    → TakesBy in_order owners next two head last → next' ≡ next_by ordered size next last
    → next' < size
    → IsStretch size ((offered + 1) % 65536) used next'
    (slice_set (slice_set owners head (Some head)) last (Some head))
    (slice_set flights head (record {
      last = last;
      places = 1;
      writable = writable;
      place =
          offered;
    }))
stretch_by size offered used next head last writable next' two ordered in_order owners flights is
    order s small long wide takes follows_it low =
    grind (arith, stretch_offered)
