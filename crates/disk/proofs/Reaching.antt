-- Every content that a stop may leave is left by a filler: its own bytes at the unsynced places.
use Rattle.std.proofs.Common.{◌≡◌, ⊎_elim, Bool, true, false, ℕ, zero, suc, ◌+◌, ◌%◌, ◌==◌, ◌≤◌}
use Rattle.std.proofs.Common.{◌<◌, List, [], ◌∷◌, ◌++◌, length, get_or, refl, ap, sym, ◌∙◌, subst}
use Rattle.std.proofs.Common.{arith, length-append}
use Rattle.std.specs.Prelude.{if◌then◌else◌, slice_index}
use Rattle.std.proofs.Math.Nat.{mod-eq_of_lt}
use Rattle.std.proofs.lemmas.Bool.{cases_lt}
use Rattle.std.proofs.lemmas.List.{get_or_append_left, get_or_past}
use Rattle.std.proofs.Math.Seq.{get_or-append_seam}
use Rattle.disk.specs.Content.{Content}
use Rattle.disk.specs.Disk.{MayLeave}
use Rattle.disk.specs.CutDisk.{CutState, cut_state, filled, filling, unsynced_below}
use Rattle.disk.specs.Laws.{FillersReachAll}
use Rattle.disk.proofs.Fills.{filled_set, filled_clear}

-- with one more place
with_place : Bool → ℕ → List ℕ → List ℕ
with_place true byte bytes = bytes ++ byte ∷ []
with_place false byte bytes = bytes

-- the bytes of a content at the unsynced places below n, in ascending order
picked : List Bool → Content → ℕ → List ℕ
picked flags left zero = []
picked flags left (suc n) = with_place (get_or flags n false) (left n) (picked flags left n)

length-with_place : (b : Bool) (byte : ℕ) (bytes : List ℕ) → length (with_place b byte bytes)
    ≡ length bytes + (if b then 1 else 0)
unfolding with_place
length-with_place true byte bytes = length-append bytes (byte ∷ [])
length-with_place false byte bytes = omega arith

-- there are as many as unsynced places
length-picked : (flags : List Bool) (left : Content) (n : ℕ) → length (picked flags left n)
    ≡ unsynced_below flags n
unfolding picked unsynced_below
length-picked flags left zero = refl
length-picked flags left (suc n) =
    length-with_place (get_or flags n false) (left n) (picked flags left n)
    ∙ ap (λ (m : ℕ). m + (if get_or flags n false then 1 else 0)) (length-picked flags left n)

earlier : (b : Bool) (byte : ℕ) (bytes : List ℕ) (i : ℕ) → i < length bytes
    → get_or (with_place b byte bytes) i 0 ≡ get_or bytes i 0
unfolding with_place
earlier true byte bytes i below = get_or_append_left bytes (byte ∷ []) 0 i below
earlier false byte bytes i below = refl

last : (b : Bool) (byte : ℕ) (bytes : List ℕ) → b ≡ true
    → get_or (with_place b byte bytes) (length bytes) 0 ≡ byte
unfolding with_place
last true byte bytes is = get_or-append_seam bytes byte [] 0
last false byte bytes is = cc

one_of : (b : Bool) → b ≡ true → (if b then 1 else zero) ≡ suc zero
one_of true is = refl
one_of false is = cc

-- an unsynced place below n is counted
counted_below : (flags : List Bool) (k n : ℕ) → k < n → get_or flags k false ≡ true
    → unsynced_below flags k < unsynced_below flags n
unfolding unsynced_below
counted_below flags k zero below is = absurd (omega arith)
counted_below flags k (suc n) below is = ⊎_elim
    (λ (before : k < n). (let so = counted_below flags k n before is in omega (arith, so)))
    (λ (here : n ≤ k). (let same : k ≡ n = omega arith in
    subst (λ (m : ℕ). unsynced_below flags m < unsynced_below flags n +
    (if get_or flags n false then 1 else 0)) (sym same)
    (let one = one_of (get_or flags n false) (subst (λ (m : ℕ). get_or flags m false ≡ true) same
    is) in omega (arith, one))))
    (cases_lt k n)

-- and its byte stands at that count
picked_at : (flags : List Bool) (left : Content) (k n : ℕ) → k < n → get_or flags k false ≡ true
    → get_or (picked flags left n) (unsynced_below flags k) 0 ≡ left k
unfolding picked
picked_at flags left k zero below is = absurd (omega arith)
picked_at flags left k (suc n) below is = ⊎_elim
    (λ (before : k < n). (let long = length-picked flags left n in let so =
    counted_below flags k n before is in
    earlier (get_or flags n false) (left n) (picked flags left n) (unsynced_below flags k)
    (omega (arith, long, so)) ∙ picked_at flags left k n before is))
    (λ (here : n ≤ k). (let same : n ≡ k = omega arith in
    subst (λ (m : ℕ). get_or (with_place (get_or flags n false) (left n) (picked flags left n))
    (unsynced_below flags m) 0 ≡ left m) same
    (ap (λ (i : ℕ). get_or (with_place (get_or flags n false) (left n) (picked flags left n)) i 0)
    (sym (length-picked flags left n))
    ∙ last (get_or flags n false) (left n) (picked flags left n)
    (subst (λ (m : ℕ). get_or flags m false ≡ true) (sym same) is))))
    (cases_lt k n)

last_one : (b : Bool) (left : Content) (n : ℕ) (bytes : List ℕ) (i : ℕ) → length bytes ≤ i
    → i < length (with_place b (left n) bytes)
    → slice_index (with_place b (left n) bytes) i ≡ left n
unfolding with_place
last_one true left n bytes i past below =
    let long = length-append bytes (left n ∷ []) in
    let same : length bytes ≡ i = omega (arith, long, past, below) in
    subst (λ (m : ℕ). get_or (bytes ++ left n ∷ []) m 0 ≡ left n) same
    (get_or-append_seam bytes (left n) [] 0)
last_one false left n bytes i past below = absurd (omega (arith, past, below))

-- each byte was taken from the content
taken_of : (b : Bool) (left : Content) (n : ℕ) (bytes : List ℕ)
    → ((i : ℕ) → i < length bytes → (k : ℕ) × (slice_index bytes i ≡ left k))
    → (i : ℕ) → i < length (with_place b (left n) bytes) → (k : ℕ)
    × (slice_index (with_place b (left n) bytes) i ≡ left k)
taken_of b left n bytes before i below = ⊎_elim
    (λ (here : i < length bytes).
    (let so = before i here in (so.0, earlier b (left n) bytes i here ∙ so.1)))
    (λ (past : length bytes ≤ i). (n, last_one b left n bytes i past below))
    (cases_lt i (length bytes))

taken : (flags : List Bool) (left : Content) (n i : ℕ) → i < length (picked flags left n) → (k : ℕ)
    × (slice_index (picked flags left n) i ≡ left k)
unfolding picked
taken flags left zero i below = absurd (omega arith)
taken flags left (suc n) i below = taken_of (get_or flags n false) left n (picked flags left n)
    (λ j lt. taken flags left n j lt) i below

-- within the list a filler is the list
filling_within : (bytes : List ℕ) (j : ℕ) → j < length bytes → filling bytes j ≡ slice_index bytes j
unfolding filling
filling_within bytes j below =
    let some : (length bytes == 0) ≡ false = grind arith in
    ap (λ (b : Bool). if b then 0 else slice_index bytes (j % length bytes)) some
    ∙ ap (slice_index bytes) (mod-eq_of_lt below)

filled_here : (d : CutState) (left : Content) → MayLeave (cut_state d) left → (k : ℕ) (b : Bool)
    → get_or d.unsynced k false ≡ b
    → filled (picked d.unsynced left (length d.unsynced)) d.unsynced d.seen k ≡ left k
filled_here d left may k false clear = filled_clear _ d.unsynced d.seen k clear ∙ sym (may k clear)
filled_here d left may k true is =
    let below : k < length d.unsynced =
    ⊎_elim (λ (lt : k < length d.unsynced). lt) (λ (past : length d.unsynced ≤ k).
    (let none = get_or_past d.unsynced k false past in cc)) (cases_lt k (length d.unsynced)) in
    let long = length-picked d.unsynced left (length d.unsynced) in
    let so = counted_below d.unsynced k (length d.unsynced) below is in
    filled_set _ d.unsynced d.seen k is ∙ filling_within _ (unsynced_below d.unsynced k)
    (omega (arith, long, so)) ∙ picked_at d.unsynced left k (length d.unsynced) below is

pub fillers_reach_all : FillersReachAll
fillers_reach_all d left may = (
  picked d.unsynced left (length d.unsynced),
  record {
    same = λ k. filled_here d left may k (get_or d.unsynced k false) refl;
    taken = λ i below. taken d.unsynced left (length d.unsynced) i below;
  },
)
