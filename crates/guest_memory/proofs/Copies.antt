-- Copies of parts of a memory.
use Rattle.std.proofs.lemmas.Bool.{cases_lt, le-leb, lt-ltb}
use Rattle.std.specs.List.{list_any, position, position_or_len}
use Rattle.std.proofs.lemmas.List.Folds.{list_any_none, list_any-append}
use Rattle.std.proofs.lemmas.List.Quantifiers.{position-Some}
use Rattle.std.proofs.lemmas.List.{get_or-append_right, map-append}
use Rattle.std.proofs.lemmas.List.Sums.{fails_before_first}
use Rattle.std.proofs.lemmas.List.{length-map}
use Rattle.std.specs.Prelude.{IfSome, slice_index_or}
use Rattle.std.proofs.Common.{if◌then◌else◌, Option, Some, None, ◌||◌, set, map, true, false, Bool}
use Rattle.std.proofs.Common.{nat_le, ◌&&◌, refl, ◌≡◌, ℕ, ◌+◌, ◌-◌, ◌<◌, ◌≤◌, ◌⊎◌, inl, inr}
use Rattle.std.proofs.Common.{List, [], ◌∷◌, ◌++◌, length, take, drop, ap, ◌∙◌, sym, subst}
use Rattle.std.proofs.Common.{arith, rules, get_or, length-drop, length-append}
use Rattle.std.proofs.lemmas.List.{same_lists, places, length-take-le}
use Rattle.std.proofs.Math.Seq.{map-set_same}
use Rattle.guest_memory.specs.Memory.{Span, Known, holds, has_part, bytes_at, with_bytes, IsInside}
use Rattle.guest_memory.specs.Piece.{lies_in, IsCopy, AreCopies, StayFrom, span_of, IsMemory}
use Rattle.std.proofs.lemmas.List.{get_or-set_other}
use Rattle.std.proofs.lemmas.Grind.{get_or-set_at}
use Rattle.guest_memory.specs.declared.piece.Piece.{Piece}
use Rattle.guest_memory.proofs.Writes.{length-with_bytes, bytes_at-with_bytes_same}
use Rattle.guest_memory.proofs.Writes.{bytes_at-with_bytes_apart}

pub length-bytes_at : (m : List ℕ) (at len : ℕ) → IsInside m at len
    → length (bytes_at m at len) ≡ len
length-bytes_at m at len h = length-take-le len (drop at m) (omega (arith, length-drop at m))

-- a part of a copy
part_in : (m : List ℕ) (from count at len : ℕ) → from + count ≤ length m → from ≤ at
    → at + len ≤ from + count
    → bytes_at (bytes_at m from count) (at - from) len ≡ bytes_at m at len
part_in m from count at len inside low high = same_lists _ _ (search (rules, places))
    (λ k d below. grind (arith, places))

pub part_of : (m items : List ℕ) (from at len k : ℕ) → from + length items ≤ length m
    → items ≡ bytes_at m from (length items) → from ≤ at → at + len ≤ from + length items
    → k ≡ len → bytes_at items (at - from) k ≡ bytes_at m at len
part_of m items from at len k inside same low high is =
    ap (bytes_at items (at - from)) is ∙ ap (λ v. bytes_at v (at - from) len) same
    ∙ part_in m from (length items) at len inside low high

-- an element of three lists, one after another
in_front : (start k : ℕ) (xs ys : List ℕ) (d : ℕ) → k < start → start ≤ length xs
    → get_or (take start xs ++ ys) k d ≡ get_or xs k d
in_front start k xs ys d below long = grind (arith, places)

in_middle : (start k : ℕ) (xs ys zs : List ℕ) (d : ℕ) → start ≤ k → k < start + length ys
    → start ≤ length xs
    → get_or (take start xs ++ (ys ++ zs)) k d ≡ get_or ys (k - start) d
in_middle start k xs ys zs d from below long = grind (arith, places)

in_back : (start n k : ℕ) (xs ys : List ℕ) (d : ℕ) → length ys ≡ n → start + n ≤ k
    → start + n ≤ length xs
    → get_or (take start xs ++ (ys ++ drop n (drop start xs))) k d ≡ get_or xs k d
in_back start n k xs ys d len from long = grind (arith, places)

-- a byte of a memory into which bytes were put
put_apart : (m bytes : List ℕ) (at k d : ℕ) → at + length bytes ≤ length m
    → (k < at) ⊎ (at + length bytes ≤ k)
    → get_or (with_bytes m at bytes) k d ≡ get_or m k d
put_apart m bytes at k d inside apart = grind (arith, places)

put_within : (m bytes : List ℕ) (at j d : ℕ) → at + length bytes ≤ length m → j < length bytes
    → get_or (with_bytes m at bytes) (at + j) d ≡ get_or bytes j d
put_within m bytes at j d inside below = grind (arith, places)

byte_of : (m : List ℕ) (from count k d : ℕ) → from + count ≤ length m → k < count
    → get_or (bytes_at m from count) k d ≡ get_or m (from + k) d
byte_of m from count k d inside below = grind (arith, places)

part_byte : (bytes : List ℕ) (first n k d : ℕ) → first + n ≤ length bytes → k < n
    → get_or (take n (drop first bytes)) k d ≡ get_or bytes (first + k) d
part_byte bytes first n k d inside below = grind (arith, places)

-- bytes that are put into a memory are put into the copy of a part of it
pub put_in : (m bytes : List ℕ) (from count at start first n : ℕ) → from + count ≤ length m
    → at + length bytes ≤ length m
    → from + start ≡ at + first → start + n ≤ count → first + n ≤ length bytes
    → (start ≡ 0) ⊎ (first ≡ 0)
    → (start + n ≡ count) ⊎ (first + n ≡ length bytes)
    → take start (bytes_at m from count) ++ (take n (drop first bytes)
    ++ drop n (drop start (bytes_at m from count)))
    ≡ bytes_at (with_bytes m at bytes) from count
put_in m bytes from count at start first n inside there meet a b low high =
    let old = bytes_at m from count in
    let new = with_bytes m at bytes in
    let sub = take n (drop first bytes) in
    let rest = drop n (drop start old) in
    let size : length new ≡ length m = length-with_bytes m at bytes there in
    let old_is : length old ≡ count = length-bytes_at m from count inside in
    let sub_is : length sub ≡ n = length-bytes_at bytes first n b in
    let new_is : length (bytes_at new from count) ≡ count = length-bytes_at new from count
    (omega (arith, size)) in
    let front_is : length (take start old) ≡ start = length-take-le start old
    (omega (arith, old_is)) in
    let all : length (take start old ++ (sub ++ rest)) ≡ count =
    omega (
      arith,
      length-append (take start old) (sub ++ rest),
      length-append sub rest,
      front_is,
      sub_is,
      old_is,
      length-drop n (drop start old),
      length-drop start old,
    ) in
    same_lists _ _ (all ∙ sym new_is) (λ k d below.
    let less : k < count = omega (arith, all, below) in
    let right = byte_of new from count k d (omega (arith, size)) less in
    elim (cases_lt k start) [
      | inl before ↦
          in_front start k old (sub ++ rest) d before (omega (arith, old_is))
          ∙ byte_of m from count k d inside less
          ∙ sym (put_apart m bytes at (from + k) d there (inl (before_at k before low))) ∙ sym right
      | inr from_start ↦ elim (cases_lt k (start + n)) [
        | inl within ↦
            in_middle start k old sub rest d from_start (omega (arith, sub_is))
            (omega (arith, old_is)) ∙ part_byte bytes first n (k - start) d b (omega arith)
            ∙ sym (put_within m bytes at (first + (k - start)) d there (omega arith))
            ∙ ap (λ v. get_or new v d) (omega arith) ∙ sym right
        | inr behind ↦
            in_back start n k old sub d sub_is behind (omega (arith, old_is))
            ∙ byte_of m from count k d inside less
            ∙ sym (put_apart m bytes at (from + k) d there (inr (behind_all k behind less high)))
            ∙ sym right
      ]
    ])
  where
    before_at : (k : ℕ) → k < start → (start ≡ 0) ⊎ (first ≡ 0) → from + k < at
    before_at k before (inl none) = absurd (omega arith)
    before_at k before (inr none) = omega arith

    behind_all : (k : ℕ) → start + n ≤ k → k < count → (start + n ≡ count)
        ⊎ (first + n ≡ length bytes) → at + length bytes ≤ from + k
    behind_all k behind less (inl all) = absurd (omega arith)
    behind_all k behind less (inr all) = omega arith

both : (a b : Bool) → (a && b) ≡ true → (a ≡ true) × (b ≡ true)
both true b h = (refl, h)
both false b h = absurd (cc)

pub within : (at len : ℕ) (p : Piece) → lies_in at len p ≡ true
    → (p.at ≤ at) × (at + len ≤ p.at + length p.bytes.items)
within at len p h = let b = both (nat_le p.at at) (nat_le (at + len) (p.at + length p.bytes.items))
    h in let low = b.0 in let high = b.1 in (grind arith, grind arith)

-- a piece apart from what is put into the memory
pub untouched : (m bytes : List ℕ) (at : ℕ) (p : Piece) → IsInside m at (length bytes) → IsCopy m p
    → (p.at + length p.bytes.items ≤ at) ⊎ (at + length bytes ≤ p.at)
    → IsCopy (with_bytes m at bytes) p
untouched m bytes at p inside copy apart =
    let n = length-with_bytes m at bytes inside in
    let i = copy.inside in
    record {
      inside = omega (arith, n, i);
      same = copy.same ∙ sym (bytes_at-with_bytes_apart m at bytes p.at
          (length p.bytes.items) inside apart);
    }

pub length_put : (xs bytes : List ℕ) (start first n : ℕ) → start + n ≤ length xs
    → first + n ≤ length bytes
    → length (take start xs ++ (take n (drop first bytes) ++ drop n (drop start xs))) ≡ length xs
length_put xs bytes start first n a b = omega (
  arith,
  length-append (take start xs) (take n (drop first bytes) ++ drop n (drop start xs)),
  length-append (take n (drop first bytes)) (drop n (drop start xs)),
  length-take-le start xs (omega arith),
  length-bytes_at bytes first n b,
  length-drop n (drop start xs),
  length-drop start xs,
)

-- a piece into which a part of it was put
pub patched : (m bytes : List ℕ) (at : ℕ) (p q : Piece) (start first n : ℕ)
    → IsInside m at (length bytes) → IsCopy m p
    → q.at ≡ p.at → p.at + start ≡ at + first → start + n ≤ length p.bytes.items
    → first + n ≤ length bytes
    → (start ≡ 0) ⊎ (first ≡ 0) → (start + n ≡ length p.bytes.items) ⊎ (first + n ≡ length bytes)
    → q.bytes.items ≡ take start p.bytes.items
    ++ (take n (drop first bytes) ++ drop n (drop start p.bytes.items))
    → IsCopy (with_bytes m at bytes) q
patched m bytes at p q start first n inside copy same_at meet a b low high is =
    let same_length : length q.bytes.items ≡ length p.bytes.items =
    ap length is ∙ length_put p.bytes.items bytes start first n a b in
    let size = length-with_bytes m at bytes inside in
    let i = copy.inside in
    let count = length p.bytes.items in
    let put = put_in m bytes p.at count at start first n copy.inside inside meet a b low high in
    record {
      inside = omega (arith, size, i, same_at, same_length);
      same = is ∙ ap (λ v. take start v ++ (take n (drop first bytes) ++ drop n (drop start v)))
          copy.same ∙ put
          ∙ ap (λ v. bytes_at (with_bytes m at bytes) v count) (sym same_at)
          ∙ ap (λ v. bytes_at (with_bytes m at bytes) q.at v) (sym same_length);
    }

-- one piece more is patched
pub set_done : (m : List ℕ) (xs : List Piece) (i : ℕ) (y : Piece) → i < length xs
    → AreCopies m 0 i xs → IsCopy m y → AreCopies m 0 (i + 1) (set xs i y)
set_done m xs i y there done copy = λ k d low below. elim (cases_lt k i) [
  | inl less ↦ subst (IsCopy m) (sym (get_or-set_other xs i k y d (λ e. omega (arith, e, less))))
      (done k d low less)
  | inr same ↦ subst (IsCopy m) (sym (get_or-set_at xs i k y d (omega arith) there)) copy
]

pub set_todo : (m : List ℕ) (xs : List Piece) (i count : ℕ) (y : Piece) → AreCopies m i count xs
    → AreCopies m (i + 1) count (set xs i y)
set_todo m xs i count y todo = λ k d low below. subst (IsCopy m)
    (sym (get_or-set_other xs i k y d (λ e. omega (arith, e, low)))) (todo k d (omega arith) below)

pub set_rest : (old xs : List Piece) (i count : ℕ) (y : Piece) → i < count → StayFrom count old xs
    → StayFrom count old (set xs i y)
set_rest old xs i count y less rest = λ k d low. get_or-set_other xs i k y d
    (λ e. omega (arith, e, low, less)) ∙ rest k d low

span_same : (p q : Piece) → p.at ≡ q.at → length p.bytes.items ≡ length q.bytes.items
    → span_of p ≡ span_of q
span_same p q at len = ap (λ n. (let s : Span = record { at = n; len = length p.bytes.items } in s))
    at ∙ ap (λ n. (let s : Span = record { at = q.at; len = n } in s)) len

pub spans_set : (xs : List Piece) (i : ℕ) (y x : Piece) → x ≡ get_or xs i x → y.at ≡ x.at
    → length y.bytes.items ≡ length x.bytes.items → map span_of (set xs i y) ≡ map span_of xs
spans_set xs i y x is at len = map-set_same span_of xs i y x (span_same y x at len ∙ ap span_of is)

-- what is held lies in one of the pieces
held_is : (at len : ℕ) (pieces : List Piece) → list_any (has_part at len) (map span_of pieces)
    ≡ list_any (lies_in at len) pieces
held_is at len [] = refl
held_is at len (p ∷ ps) = ap (λ b. lies_in at len p || b) (held_is at len ps)

pub holds_is : (bytes : List ℕ) (asks : Bool) (pieces : List Piece) (at len : ℕ)
    → holds (record { bytes = bytes; asks = asks; held = map span_of pieces }) at len
    ≡ list_any (lies_in at len) pieces
unfolding holds
holds_is bytes asks pieces at len = held_is at len pieces

true_is_not_false : true ≡ false → ⊥
true_is_not_false h = cc

-- one that passes is found
is_found : {X : Type 0} (p : X → Bool) (xs : List X) → list_any p xs ≡ true
    → position p xs ≡ Some (position_or_len p xs)
is_found p xs any = elim (cases_lt (position_or_len p xs) (length xs)) [
  | inl below ↦ ap (λ b. if b then Some (position_or_len p xs) else None) (lt-ltb _ _ below)
  | inr past ↦
      let none : list_any p xs ≡ false = list_any_none p xs
      (λ k d less. fails_before_first p xs k d (omega (arith, past, less))) in
      absurd (true_is_not_false (sym any ∙ none))
]

none_is_not_some : {X : Type 0} (x : X) → None ≡ Some x → ⊥
none_is_not_some x h = cc

pub some_passes : {X : Type 0} (p : X → Bool) (xs : List X) → list_any p xs ≡ true
    → position p xs ≡ None → ⊥
some_passes p xs any none = none_is_not_some (position_or_len p xs) (sym none ∙ is_found p xs any)

pub passes : {X : Type 0} (p : X → Bool) (xs : List X) (i : ℕ) (d : X) → position p xs ≡ Some i
    → (i < length xs) × (p (get_or xs i d) ≡ true)
passes p xs i d is = let found = position-Some p xs i d is in (found.0, found.1)

-- what is held lies in the memory
pub inside_of : (m : List ℕ) (pieces : List Piece) (at len : ℕ)
    → AreCopies m 0 (length pieces) pieces → list_any (lies_in at len) pieces ≡ true
    → IsInside m at len
inside_of m [] at len copies any = absurd (true_is_not_false (sym any))
inside_of m (p ∷ ps) at len copies any =
    let i = position_or_len (lies_in at len) (p ∷ ps) in
    let found = passes (lies_in at len) (p ∷ ps) i p (is_found (lies_in at len) (p ∷ ps) any) in
    let q = get_or (p ∷ ps) i p in
    let w = within at len q found.1 in
    let high = w.1 in
    let copy = copies i p (omega arith) found.0 in
    let inside = copy.inside in
    omega (arith, high, inside)

-- all of a memory that doesn't ask is held
pub whole_holds : (size : ℕ) (asks : Bool) (pieces : List Piece) (bytes : List ℕ) (at len : ℕ)
    → asks ≡ false → IsMemory size asks pieces bytes → at + len ≤ size
    → holds (record { bytes = bytes; asks = asks; held = map span_of pieces }) at len ≡ true
unfolding holds
whole_holds size asks pieces bytes at len not is inside =
    let low : nat_le 0 at ≡ true = le-leb 0 at (omega arith) in
    let fits : nat_le (at + len) (0 + size) ≡ true = le-leb (at + len) (0 + size) (omega arith) in
    let one : list_any (has_part at len) (record { at = 0; len = size } ∷ []) ≡ true =
    rw (low, fits) refl in
    ap (list_any (has_part at len)) (is.whole not) ∙ one

-- the memory after bytes were put into all its pieces
pub with_pieces : (size : ℕ) (asks : Bool) (old new : List Piece) (m bytes : List ℕ) (at : ℕ)
    (m' : List ℕ) → IsMemory size asks old m → IsInside m at (length bytes)
    → AreCopies (with_bytes m at bytes) 0 (length old) new → map span_of new ≡ map span_of old
    → m' ≡ with_bytes m at bytes → IsMemory size asks new m'
with_pieces size asks old new m bytes at m' is inside copies spans same =
    let len : length new ≡ length old = sym (length-map new span_of) ∙ ap length spans
    ∙ length-map old span_of in
    record {
      length_is = ap length same ∙ length-with_bytes m at bytes inside ∙ is.length_is;
      fits = is.fits;
      copies = λ k d low below. subst (λ v. IsCopy v (get_or new k d)) (sym same)
          (copies k d low (omega (arith, len, below)));
      whole = λ not. spans ∙ is.whole not;
    }

-- and with one more, which is a copy of just these
pub with_piece : (size : ℕ) (old new : List Piece) (p : Piece) (m bytes : List ℕ) (at : ℕ)
    (m' : List ℕ) → IsMemory size true old m → IsInside m at (length bytes)
    → p.at ≡ at → p.bytes.items ≡ bytes
    → AreCopies (with_bytes m at bytes) 0 (length old) new → StayFrom (length old)
    (old ++ p ∷ []) new → map span_of new ≡ map span_of (old ++ p ∷ [])
    → m' ≡ with_bytes m at bytes → IsMemory size true new m'
with_piece size old new p m bytes at m' is inside p_at p_bytes copies stay spans same =
    let len : length new ≡ length old + 1 = sym (length-map new span_of) ∙ ap length spans
    ∙ length-map (old ++ p ∷ []) span_of ∙ length-append old (p ∷ []) in
    let size_is : length m' ≡ length m = ap length same ∙ length-with_bytes m at bytes inside in
    let count : length p.bytes.items ≡ length bytes = ap length p_bytes in
    let copy : IsCopy m' p = record {
      inside = omega (arith, size_is, count, p_at, inside);
      same = p_bytes ∙ sym (bytes_at-with_bytes_same m at bytes inside)
          ∙ ap (λ v. bytes_at v at (length bytes)) (sym same)
          ∙ ap (λ v. bytes_at m' v (length bytes)) (sym p_at) ∙ ap (bytes_at m' p.at) (sym count);
    } in
    record {
      length_is = size_is ∙ is.length_is;
      fits = is.fits;
      copies = λ k d low below. elim (cases_lt k (length old)) [
        | inl before ↦ subst (λ v. IsCopy v (get_or new k d)) (sym same) (copies k d low before)
        | inr from ↦
            let none : k - length old ≡ 0 = omega (arith, len, below, from) in
            subst (IsCopy m') (sym (stay k d from ∙ get_or-append_right old (p ∷ [])
            (length old) k d refl from ∙ ap (λ v. get_or (p ∷ []) v d) none)) copy
      ];
      whole = λ not. absurd (true_is_not_false not);
    }

span_is : (p : Piece) (at : ℕ) (bytes : List ℕ) → p.at ≡ at → p.bytes.items ≡ bytes
    → span_of p ≡ record { at = at; len = length bytes }
span_is p at bytes p_at p_bytes = ap
    (λ n. (let s : Span = record { at = n; len = length p.bytes.items } in s)) p_at
    ∙ ap (λ (v : List ℕ). (let s : Span = record { at = at; len = length v } in s)) p_bytes

-- its span comes behind the others
pub span_last : (old : List Piece) (p : Piece) (at : ℕ) (bytes : List ℕ) → p.at ≡ at
    → p.bytes.items ≡ bytes
    → map span_of (old ++ p ∷ []) ≡ map span_of old ++ record { at = at; len = length bytes } ∷ []
span_last old p at bytes p_at p_bytes = map-append span_of old (p ∷ [])
    ∙ ap (λ s. map span_of old ++ s ∷ []) (span_is p at bytes p_at p_bytes)

itself : (at len : ℕ) → (has_part at len (record { at = at; len = len }) || false) ≡ true
itself at len = let a : nat_le at at ≡ true = le-leb at at (omega arith) in
    let b : nat_le (at + len) (at + len) ≡ true = le-leb (at + len) (at + len) (omega arith) in
    rw (a, b) refl

or_true : (a b : Bool) → b ≡ true → (a || b) ≡ true
or_true true b h = refl
or_true false b h = h

-- and it is held
pub last_holds : (bytes : List ℕ) (asks : Bool) (spans : List Span) (at len : ℕ)
    → holds (record {
      bytes = bytes;
      asks = asks;
      held = spans
          ++ record { at = at; len = len } ∷ [];
    }) at len ≡ true
unfolding holds
last_holds bytes asks spans at len = list_any-append (has_part at len) spans
    (record { at = at; len = len } ∷ []) ∙ or_true (list_any (has_part at len) spans) _
    (itself at len)

-- what is held is held whatever the bytes are
pub holds_still : (k k' : Known) (bytes : List ℕ) (at len : ℕ) → k' ≡ record k { bytes = bytes }
    → holds k at len ≡ true → holds k' at len ≡ true
unfolding holds
holds_still k k' bytes at len is h = ap (λ (v : Known). list_any (has_part at len) v.held) is ∙ h

pub holds_by : (k k' : Known) (at len : ℕ) → k'.held ≡ k.held → holds k at len ≡ true
    → holds k' at len ≡ true
unfolding holds
holds_by k k' at len same h = ap (list_any (has_part at len)) same ∙ h

pub holds_nothing : (k : Known) (at len : ℕ) → k.held ≡ [] → holds k at len ≡ false
unfolding holds
holds_nothing k at len none = ap (list_any (has_part at len)) none

found_below : {X : Type 0} (p : X → Bool) (xs : List X) (i : ℕ) → position p xs ≡ Some i
    → i < length xs
found_below p [] i is = absurd (none_is_not_some i is)
found_below p (x ∷ xs) i is = (passes p (x ∷ xs) i x is).0

pub first_below : {X : Type 0} (p : X → Bool) (xs : List X) (r : Option ℕ) → r ≡ position p xs
    → IfSome r (λ i. i < length xs)
first_below p xs None is = tt
first_below p xs (Some i) is = found_below p xs i (sym is)

-- the first that passes does, and where there is none no test passes
pub first_passes : {X : Type 0} (p : X → Bool) (xs : List X) (r : Option ℕ) → r ≡ position p xs
    → IfSome r (λ i. (d : X) → p (slice_index_or xs i d) ≡ true)
first_passes p xs None is = tt
first_passes p xs (Some i) is = λ d. (passes p xs i d (sym is)).1

none_by : {X : Type 0} (p : X → Bool) (xs : List X) (b : Bool) → list_any p xs ≡ b
    → position p xs ≡ None → list_any p xs ≡ false
none_by p xs false is none = is
none_by p xs true is none = absurd (some_passes p xs is none)

pub none_passes : {X : Type 0} (p : X → Bool) (xs : List X) → position p xs ≡ None
    → list_any p xs ≡ false
none_passes p xs none = none_by p xs (list_any p xs) refl none
