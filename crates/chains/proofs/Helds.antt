-- Parts of a memory of which there is a copy.
use Rattle.std.proofs.Common.{◌≡◌, ℕ, ◌+◌, ◌-◌, ◌<◌, ◌≤◌, min, Bool, true, false, ◌&&◌, ◌||◌}
use Rattle.std.proofs.Common.{nat_le, List, [], ◌∷◌, ◌++◌, length, take, drop, get_or}
use Rattle.std.proofs.Common.{length-append, length-drop, refl, ap, sym, subst, ◌∙◌, arith}
use Rattle.std.specs.List.{list_any}
use Rattle.std.proofs.lemmas.Bool.{le-leb}
use Rattle.std.proofs.lemmas.List.{at_drop_more, at_drop_all, take_min, drop_min, length-take-le}
use Rattle.guest_memory.specs.Memory.{with_bytes, Known, Span, holds, has_part, IsAsk, IsHeld}
use Rattle.guest_memory.specs.Memory.{IsWhole, IsInside}
use Rattle.guest_memory.specs.declared.ask.Ask.{Ask}
use Rattle.chains.specs.declared.range.Range.{Range}
use Rattle.chains.specs.Range.{AreHeld, scattered}

both : (a b : Bool) → (a && b) ≡ true → (a ≡ true) × (b ≡ true)
both true b h = (refl, h)
both false b h = absurd (cc)

or_else : (a b a' b' : Bool) → (a ≡ true → a' ≡ true) → (b ≡ true → b' ≡ true) → (a || b) ≡ true
    → (a' || b') ≡ true
or_else true b a' b' p q h = ap (λ v. v || b') (p refl)
or_else false b true b' p q h = refl
or_else false b false b' p q h = q h

part_of : (at len at' len' : ℕ) (s : Span) → at ≤ at' → at' + len' ≤ at + len
    → has_part at len s ≡ true → has_part at' len' s ≡ true
part_of at len at' len' s low high h =
    let b = both (nat_le s.at at) (nat_le (at + len) (s.at + s.len)) h in
    let x = b.0 in
    let y = b.1 in
    let first : s.at ≤ at = grind arith in
    let last : at + len ≤ s.at + s.len = grind arith in
    let u : nat_le s.at at' ≡ true = le-leb s.at at' (omega (arith, first)) in
    let v : nat_le (at' + len') (s.at + s.len) ≡ true = le-leb (at' + len') (s.at + s.len)
    (omega (arith, last)) in
    rw (u, v) refl

parts_of : (at len at' len' : ℕ) (ss : List Span) → at ≤ at' → at' + len' ≤ at + len
    → list_any (has_part at len) ss ≡ true → list_any (has_part at' len') ss ≡ true
parts_of at len at' len' [] low high h = h
parts_of at len at' len' (s ∷ ss) low high h =
    or_else (has_part at len s) (list_any (has_part at len) ss) (has_part at' len' s)
    (list_any (has_part at' len') ss)
    (part_of at len at' len' s low high) (parts_of at len at' len' ss low high) h

-- a part of what is held is held
pub held_part : (m : Known) (at len at' len' : ℕ) → IsHeld m at len → at ≤ at'
    → at' + len' ≤ at + len → IsHeld m at' len'
unfolding holds
held_part m at len at' len' held low high = parts_of at len at' len' m.held low high held

-- all of a whole memory is held
pub whole_held : (m : Known) (at len : ℕ) → IsWhole m → IsInside m.bytes at len → IsHeld m at len
unfolding holds
whole_held m at len whole inside =
    let low : nat_le 0 at ≡ true = le-leb 0 at (omega arith) in
    let high : nat_le (at + len) (0 + length m.bytes) ≡ true =
    le-leb (at + len) (0 + length m.bytes) (omega arith) in
    let one : list_any (has_part at len) (record { at = 0; len = length m.bytes } ∷ []) ≡ true =
    rw (low, high) refl in
    ap (list_any (has_part at len)) whole ∙ one

-- what is held depends on no byte
pub held_still : (m m' : Known) (at len : ℕ) → m' ≡ record m { bytes = m'.bytes } → IsHeld m at len
    → IsHeld m' at len
unfolding holds
held_still m m' at len same held = ap (λ (v : Known). list_any (has_part at len) v.held) same ∙ held

pub are_held_still : (m m' : Known) (ranges : List Range) (count : ℕ)
    → m' ≡ record m { bytes = m'.bytes } → AreHeld m ranges count → AreHeld m' ranges count
are_held_still m m' [] count same are = tt
are_held_still m m' (r ∷ rs) count same are = (
  λ some. held_still m m' r.at (min r.len count) same (are.0 some),
  are_held_still m m' rs (count - r.len) same are.1,
)

-- one range more is there
pub held_more : (m : Known) (xs : List Range) (i : ℕ) (d : Range) (left : ℕ) → i < length xs
    → (0 < min (get_or xs i d).len left → IsHeld m (get_or xs i d).at
    (min (get_or xs i d).len left))
    → AreHeld m (drop (i + 1) xs) (left - (get_or xs i d).len) → AreHeld m (drop i xs) left
held_more m xs i d left below one rest = subst (λ (v : List Range). AreHeld m v left)
    (sym (at_drop_more (λ v. v) xs i d below)) (one, rest)

pub held_none : (m : Known) (xs : List Range) (i left : ℕ) → length xs ≤ i
    → AreHeld m (drop i xs) left
held_none m xs i left past = subst (λ (v : List Range). AreHeld m v left)
    (sym (at_drop_all (λ v. v) xs i past)) tt

-- the next range is there, and so are those behind it
pub held_next : (m : Known) (xs : List Range) (i : ℕ) (d : Range) (left : ℕ) → i < length xs
    → AreHeld m (drop i xs) left
    → (0 < min (get_or xs i d).len left → IsHeld m (get_or xs i d).at
    (min (get_or xs i d).len left))
    × AreHeld m (drop (i + 1) xs) (left - (get_or xs i d).len)
held_next m xs i d left below are = subst (λ (v : List Range). AreHeld m v left)
    (at_drop_more (λ v. v) xs i d below) are

-- what is put changes bytes alone
pub put_same : (m m' : Known) (bytes : List ℕ) → m' ≡ record m { bytes = bytes }
    → m' ≡ record m { bytes = m'.bytes }
put_same m m' bytes is = is ∙ ap (λ (b : List ℕ). (let k : Known = record m { bytes = b } in k))
    (sym (ap (λ (k : Known). k.bytes) is))

pub same_twice : (a b c : Known) (bytes : List ℕ) → b ≡ record a { bytes = b.bytes }
    → c ≡ record b { bytes = bytes } → c ≡ record a { bytes = c.bytes }
same_twice a b c bytes first second =
    put_same b c bytes second ∙ ap
    (λ (k : Known). (let v : Known = record k { bytes = c.bytes } in v)) first

pub length-with_bytes : (m : List ℕ) (at : ℕ) (bytes : List ℕ) → IsInside m at (length bytes)
    → length (with_bytes m at bytes) ≡ length m
length-with_bytes m at bytes inside =
    omega (
      arith,
      length-append (take at m ++ bytes) (drop (at + length bytes) m),
      length-append (take at m) bytes,
      length-take-le at m (omega arith),
      length-drop (at + length bytes) m,
    )

-- one range more is filled
pub scatter_more : (m m' : List ℕ) (xs : List Range) (i : ℕ) (d : Range) (left front back : List ℕ)
    (k : ℕ) → i < length xs
    → m' ≡ with_bytes m (get_or xs i d).at front → front ≡ take k left → back ≡ drop k left
    → k ≡ min (get_or xs i d).len (length left)
    → (all : List ℕ) → scattered m (drop i xs) left ≡ all → scattered m' (drop (i + 1) xs) back
    ≡ all
scatter_more m m' xs i d left front back k below is front_is back_is k_is all rest =
    let x = get_or xs i d in
    let f : front ≡ take x.len left = front_is ∙ ap (λ n. take n left) k_is ∙ take_min x.len left in
    let b : back ≡ drop x.len left = back_is ∙ ap (λ n. drop n left) k_is ∙ drop_min x.len left in
    ap (λ v. scattered v (drop (i + 1) xs) back) (is ∙ ap (with_bytes m x.at) f)
    ∙ ap (scattered (with_bytes m x.at (take x.len left)) (drop (i + 1) xs)) b
    ∙ sym (at_drop_more (λ v. scattered m v left) xs i d below) ∙ rest

true_is_not_false : true ≡ false → ⊥
true_is_not_false h = cc

-- a memory that is whole asks for nothing
pub whole_asks_nothing : (m : Known) (ask : Ask) → IsWhole m → IsAsk m ask → ⊥
whole_asks_nothing m ask whole asks = true_is_not_false
    (sym (whole_held m ask.at ask.len whole asks.inside) ∙ asks.absent)
