-- The loop that fills the unsynced places.
use Rattle.std.proofs.Common.{◌≡◌, ⊎_elim, subst, Bool, true, false, ℕ, ◌+◌, ◌≤◌, ◌<◌, List, length}
use Rattle.std.proofs.Common.{get_or, refl, ap, sym, ◌∙◌, arith, add-one, length-set}
use Rattle.std.specs.Prelude.{if◌then◌else◌, slice_index, slice_set}
use Rattle.std.proofs.lemmas.Bool.{cases_lt}
use Rattle.std.proofs.lemmas.List.{get_or_past, get_or-set_same, get_or-set_other}
use Rattle.disk.specs.CutDisk.{filled, filling, unsynced_below}

-- after the last place nothing is filled
pub filled_past : (bytes : List ℕ) (flags : List Bool) (seen : List ℕ) (k : ℕ) → length flags ≤ k
    → filled bytes flags seen k ≡ slice_index seen k
unfolding filled
filled_past bytes flags seen k past = rw (get_or_past flags k false past) refl

pub filled_set : (bytes : List ℕ) (flags : List Bool) (seen : List ℕ) (k : ℕ)
    → get_or flags k false ≡ true → filled bytes flags seen k
    ≡ filling bytes (unsynced_below flags k)
unfolding filled
filled_set bytes flags seen k is = rw is refl

pub filled_clear : (bytes : List ℕ) (flags : List Bool) (seen : List ℕ) (k : ℕ)
    → get_or flags k false ≡ false → filled bytes flags seen k ≡ slice_index seen k
unfolding filled
filled_clear bytes flags seen k is = rw is refl

below_more : (flags : List Bool) (k : ℕ) → unsynced_below flags (k + 1) ≡ unsynced_below flags k +
    (if get_or flags k false then 1 else 0)
unfolding unsynced_below
below_more flags k = rw add-one refl

below_set : (flags : List Bool) (k : ℕ) → get_or flags k false ≡ true → unsynced_below flags (k + 1)
    ≡ unsynced_below flags k + 1
below_set flags k is = below_more flags k
    ∙ ap (λ (b : Bool). unsynced_below flags k + (if b then 1 else 0)) is

below_clear : (flags : List Bool) (k : ℕ) → get_or flags k false ≡ false
    → unsynced_below flags (k + 1) ≡ unsynced_below flags k
below_clear flags k is =
    let more = below_more flags k ∙ ap (λ (b : Bool). unsynced_below flags k + (if b then 1 else 0))
    is in omega (arith, more)

below_none : (flags : List Bool) → unsynced_below flags 0 ≡ 0
unfolding unsynced_below
below_none flags = refl

-- The places below i are filled, count of them, and those from i on are as before.
pub record IsFilled (bytes : List ℕ) (flags : List Bool) (old seen : List ℕ) (count i : ℕ) : Type 0
  where
    pub few : count ≤ i
    pub counted : count ≡ unsynced_below flags i
    pub whole : length seen ≡ length old
    pub below : (k : ℕ) → k < i → slice_index seen k ≡ filled bytes flags old k
    pub above : (k : ℕ) → i ≤ k → slice_index seen k ≡ slice_index old k

pub filled_start : (bytes : List ℕ) (flags : List Bool) (old : List ℕ)
    → IsFilled bytes flags old old 0 0
filled_start bytes flags old = record {
  few = omega arith;
  counted = sym (below_none flags);
  whole = refl;
  below = λ k lt. absurd (omega arith);
  above = λ k le. refl;
}

filled_set_next : (bytes : List ℕ) (flags : List Bool) (old seen : List ℕ) (count i byte : ℕ)
    → IsFilled bytes flags old seen count i
    → i < length flags → length flags ≡ length old → get_or flags i false ≡ true
    → byte ≡ filling bytes count
    → IsFilled bytes flags old (slice_set seen i byte) (count + 1) (i + 1)
filled_set_next bytes flags old seen count i byte f lt whole is is_byte = record {
  few = (let few = f.few in omega arith);
  counted = ap (λ n. n + 1) f.counted ∙ sym (below_set flags i is);
  whole = length-set seen i byte ∙ f.whole;
  below = λ k below. ⊎_elim
      (λ (earlier : k < i). get_or-set_other seen i k byte 0 (omega arith) ∙ f.below k earlier)
      (λ (here : i ≤ k). (let same : k ≡ i = omega arith in
      subst (λ (n : ℕ). slice_index (slice_set seen i byte) n ≡ filled bytes flags old n)
      (sym same)
      (get_or-set_same seen i byte 0 (omega (arith, lt, whole, f.whole)) ∙ is_byte
      ∙ ap (filling bytes) f.counted ∙ sym (filled_set bytes flags old i is))))
      (cases_lt k i);
  above = λ k above. get_or-set_other seen i k byte 0 (omega arith) ∙ f.above k (omega arith);
}

filled_clear_next : (bytes : List ℕ) (flags : List Bool) (old seen : List ℕ) (count i : ℕ)
    → IsFilled bytes flags old seen count i
    → get_or flags i false ≡ false → IsFilled bytes flags old seen count (i + 1)
filled_clear_next bytes flags old seen count i f is = record {
  few = (let few = f.few in omega arith);
  counted = f.counted ∙ sym (below_clear flags i is);
  whole = f.whole;
  below = λ k below. ⊎_elim
      (λ (earlier : k < i). f.below k earlier)
      (λ (here : i ≤ k). (let same : k ≡ i = omega arith in
      subst (λ (n : ℕ). slice_index seen n ≡ filled bytes flags old n) (sym same)
      (f.above i (omega arith) ∙ sym (filled_clear bytes flags old i is))))
      (cases_lt k i);
  above = λ k above. f.above k (omega arith);
}

-- the same, as the body of the loop finds it
pub filled_next_set : (bytes : List ℕ) (flags : List Bool) (old seen new : List ℕ)
    (count next i byte : ℕ) → IsFilled bytes flags old seen count i
    → i < length flags → length flags ≡ length old → get_or flags i false ≡ true
    → byte ≡ filling bytes count
    → new ≡ slice_set seen i byte → next ≡ count + 1 → IsFilled bytes flags old new next (i + 1)
filled_next_set bytes flags old seen new count next i byte f lt whole is is_byte is_new is_next =
    subst (λ (l : List ℕ). IsFilled bytes flags old l next (i + 1)) (sym is_new)
    (subst (λ (n : ℕ). IsFilled bytes flags old (slice_set seen i byte) n (i + 1)) (sym is_next)
    (filled_set_next bytes flags old seen count i byte f lt whole is is_byte))

pub filled_next_clear : (bytes : List ℕ) (flags : List Bool) (old seen new : List ℕ)
    (count next i : ℕ) → IsFilled bytes flags old seen count i
    → get_or flags i false ≡ false → new ≡ seen → next ≡ count
    → IsFilled bytes flags old new next (i + 1)
filled_next_clear bytes flags old seen new count next i f is is_new is_next =
    subst (λ (l : List ℕ). IsFilled bytes flags old l next (i + 1)) (sym is_new)
    (subst (λ (n : ℕ). IsFilled bytes flags old seen n (i + 1)) (sym is_next)
    (filled_clear_next bytes flags old seen count i f is))

pub filled_end : (bytes : List ℕ) (flags : List Bool) (old seen : List ℕ) (count i : ℕ)
    → IsFilled bytes flags old seen count i
    → length flags ≤ i → (k : ℕ) → slice_index seen k ≡ filled bytes flags old k
filled_end bytes flags old seen count i f end k = ⊎_elim
    (λ (earlier : k < i). f.below k earlier)
    (λ (past : i ≤ k). f.above k past ∙ sym (filled_past bytes flags old k (omega arith)))
    (cases_lt k i)
