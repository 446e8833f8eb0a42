-- The logs and the bases of a world at its openings.
use Rattle.std.proofs.Common.{◌≡◌, ◌⊎◌, inl, inr, ℕ, zero, suc, ◌+◌, ◌≤◌, ◌<◌, List, [], ◌∷◌, ◌++◌}
use Rattle.std.proofs.Common.{Option, Some, None, length, map, take, refl, ap, sym, subst, ◌∙◌}
use Rattle.std.proofs.Common.{arith, length-set}
use Rattle.world.proofs.Common.{option_map, slice_get, slice_index_or, slice_set, slice_get-get_or}
use Rattle.world.proofs.Common.{Partition, CutState, get_set_same, get_set_other, GuestState}
use Rattle.world.proofs.Common.{BoardState, guests, AreCut, AreFresh, GuestLog, cut_log, kept_count}

-- 1. Fresh logs

at_push : (P : GuestLog → Type 0) (logs : List GuestLog) (log : GuestLog)
    → ((g : ℕ) (l : GuestLog) → slice_get logs g ≡ Some l → P l) → P log → (g : ℕ) (l : GuestLog)
    → slice_get (logs ++ log ∷ []) g ≡ Some l → P l
at_push P [] log each it zero l is = (let e : log ≡ l = cc in subst P e it)
at_push P [] log each it (suc g) l is = absurd (cc)
at_push P (x ∷ logs) log each it zero l is = each zero l is
at_push P (x ∷ logs) log each it (suc g) l is =
    at_push P logs log (λ h k there. each (suc h) k there) it g l is

one_longer : (logs : List GuestLog) (log : GuestLog) → length (logs ++ log ∷ []) ≡ length logs + 1
one_longer [] log = omega arith
one_longer (x ∷ logs) log = (let rest = one_longer logs log in omega arith)

pub fresh_none : (logs : List GuestLog) → logs ≡ [] → AreFresh 0 logs
fresh_none logs none = grind arith

pub fresh_more : (n : ℕ) (logs logs' : List GuestLog) (log : GuestLog) → AreFresh n logs
    → log.accepted ≡ [] → log.published ≡ [] → log.popped ≡ [] → logs' ≡ logs ++ log ∷ []
    → AreFresh (n + 1) logs'
fresh_more n logs logs' log are accepted published popped is =
    subst (AreFresh (n + 1)) (sym is) (record {
      many = (let more = one_longer logs log in omega arith);
      each = at_push (λ l. (l.accepted ≡ []) × (l.published ≡ []) × (l.popped ≡ [])) logs log
          are.each
          (accepted, published, popped);
    })

-- 2. Logs that are cut one after another

-- those of the guests before n are cut, and the others are as they were
pub record IsCutTo (n : ℕ) (bases : ℕ → Partition) (b : BoardState CutState)
    (old logs : List GuestLog) : Type 0 where
  pub many : length logs ≡ length old
  pub before : (g : ℕ) → g < n
      → slice_get logs g ≡ option_map (cut_log (kept_count (bases g) (slice_get (guests b) g)))
      (slice_get old g)
  pub rest : (g : ℕ) → n ≤ g → slice_get logs g ≡ slice_get old g

pub cut_none : (bases : ℕ → Partition) (b : BoardState CutState) (old : List GuestLog)
    → IsCutTo 0 bases b old old
cut_none bases b old = record {
  many = refl;
  before = λ g below. absurd (omega arith);
  rest =
      λ g from. refl;
}

pub cut_more : (n : ℕ) (bases : ℕ → Partition) (b : BoardState CutState) (old logs : List GuestLog)
    (log log' : GuestLog) (count : Option ℕ) → IsCutTo n bases b old logs → n < length old
    → log ≡ slice_index_or logs n log
    → count ≡ kept_count (bases n) (slice_get (guests b) n) → log' ≡ cut_log count log
    → IsCutTo (n + 1) bases b old (slice_set logs n log')
cut_more n bases b old logs log log' count cut below read kept is =
    grind (arith, get_set_other, get_set_same, length-set, slice_get-get_or)

pub cut_all : (n : ℕ) (bases : ℕ → Partition) (b : BoardState CutState) (old logs : List GuestLog)
    → IsCutTo n bases b old logs → length old ≤ n → AreCut bases b old logs
cut_all n bases b old logs cut past = record { many = cut.many; each = λ g. at g }
  where
    past_end : (xs : List GuestLog) (g : ℕ) → length xs ≤ g → slice_get xs g ≡ None
    past_end [] g le = refl
    past_end (x ∷ xs) zero le = absurd (omega (arith, le))
    past_end (x ∷ xs) (suc g) le = past_end xs g (omega (arith, le))

    at : (g : ℕ) → slice_get logs g
        ≡ option_map (cut_log (kept_count (bases g) (slice_get (guests b) g))) (slice_get old g)
    at g = elim (split g n) [
      | inl lower ↦ cut.before g lower
      | inr from ↦ (let none = past_end old g (omega (arith, past)) in cut.rest g from ∙ none
          ∙ ap (option_map (cut_log (kept_count (bases g) (slice_get (guests b) g)))) (sym none))
    ]
      where
        split : (g n : ℕ) → (g < n) ⊎ (n ≤ g)
        split g zero = inr (omega arith)
        split zero (suc n) = inl (omega arith)
        split (suc g) (suc n) = elim (split g n) [
          | inl lower ↦ inl (omega arith)
          | inr from ↦ inr (omega arith)
        ]

-- 3. Copies of the partitions

abbrev pub partitions_in : BoardState CutState → List Partition
partitions_in b = map (λ x. x.core.partition) (guests b)

take_next : (xs : List GuestState) (n : ℕ) (p : Partition)
    → Some p ≡ option_map (λ x. x.core.partition) (slice_get xs n)
    → take n (map (λ x. x.core.partition) xs) ++ p
    ∷ [] ≡ take (suc n) (map (λ x. x.core.partition) xs)
take_next [] n p is = absurd (cc)
take_next (x ∷ xs) zero p is = (let e : p ≡ x.core.partition = cc in ap (λ q. q ∷ []) e)
take_next (x ∷ xs) (suc n) p is = ap (λ l. x.core.partition ∷ l) (take_next xs n p is)

one_more : (n : ℕ) → suc n ≡ n + 1
one_more n = omega arith

pub copied_more : (n : ℕ) (b : BoardState CutState) (ps ps' : List Partition) (p : Partition)
    → ps ≡ take n (partitions_in b)
    → Some p ≡ option_map (λ x. x.core.partition) (slice_get (guests b) n) → ps' ≡ ps ++ p ∷ []
    → ps' ≡ take (n + 1) (partitions_in b)
copied_more n b ps ps' p sofar read is = is ∙ ap (λ l. l ++ p ∷ []) sofar
    ∙ take_next (guests b) n p read ∙ ap (λ k. take k (partitions_in b)) (one_more n)

take_past : (xs : List Partition) (n : ℕ) → length xs ≤ n → take n xs ≡ xs
take_past [] zero le = refl
take_past [] (suc n) le = refl
take_past (x ∷ xs) zero le = absurd (omega arith)
take_past (x ∷ xs) (suc n) le = ap (λ l. x ∷ l) (take_past xs n (omega arith))

length-partitions : (xs : List GuestState) → length (map (λ x. x.core.partition) xs) ≡ length xs
length-partitions [] = refl
length-partitions (x ∷ xs) = ap suc (length-partitions xs)

pub copied_all : (n : ℕ) (b : BoardState CutState) (ps : List Partition)
    → ps ≡ take n (partitions_in b) → length (guests b) ≤ n → ps ≡ partitions_in b
copied_all n b ps sofar past = sofar
    ∙ take_past (partitions_in b) n (let long = length-partitions (guests b) in omega arith)
