-- Intents of a guest that come one after another.
use Rattle.std.proofs.Common.{◌≡◌, ℕ, zero, suc, ◌+◌, ◌≤◌, List, [], ◌∷◌, ◌++◌, Option, Some}
use Rattle.std.proofs.Common.{None, length, take, drop, refl, ap, arith}
use Rattle.intent_slots.specs.Payload.{Intent}
use Rattle.intent_slots.specs.Recovered.{Part, after}
use Rattle.flusher.specs.Pair.{entries_in, listed}
use Rattle.flusher.specs.SlotInvariant.{sequence_of_part}
use Rattle.workers.specs.Keeping.{AreNext, ComesNext, after_all}

-- the next of them is done
pub next_done : (p : Part) (n : ℕ) (xs rest : List Intent) (i : Intent) → drop n xs ≡ i ∷ rest
    → (suc n ≤ length xs) × (after_all p (take (suc n) xs) ≡ after (after_all p (take n xs))
    i.group) × (drop (suc n) xs ≡ rest)
next_done p zero [] rest i is = absurd (cc)
next_done p zero (x ∷ xs) rest i is = (let same : x ≡ i = cc in let others : xs ≡ rest = cc in
    (omega arith, ap (λ (v : Intent). after p v.group) same, others))
next_done p (suc n) [] rest i is = absurd (cc)
next_done p (suc n) (x ∷ xs) rest i is = (let one = next_done (after p x.group) n xs rest i is in
    let within = one.0 in (omega (arith, within), one.1, one.2))

-- one more comes next after them
pub more_in_turn : (g size : ℕ) (p : Part) (xs : List Intent) (i : Intent) → AreNext g size p xs
    → ComesNext g size (after_all p xs) i → AreNext g size p (xs ++ i ∷ [])
more_in_turn g size p [] i all next = (next, tt)
more_in_turn g size p (x ∷ xs) i all next =
    (all.0, more_in_turn g size (after p x.group) xs i all.1 next)

pub rest_in_turn : (g size : ℕ) (p : Part) (n : ℕ) (xs : List Intent) → AreNext g size p xs
    → AreNext g size (after_all p (take n xs)) (drop n xs)
rest_in_turn g size p zero xs all = all
rest_in_turn g size p (suc n) [] all = tt
rest_in_turn g size p (suc n) (x ∷ xs) all = rest_in_turn g size (after p x.group) n xs all.1

pub done_after : (p : Part) (xs ys : List Intent) → after_all p (xs ++ ys)
    ≡ after_all (after_all p xs) ys
done_after p [] ys = refl
done_after p (x ∷ xs) ys = done_after (after p x.group) xs ys

one_more : (g size : ℕ) (p : Part) (i : Intent) → ComesNext g size p i
    → sequence_of_part (after p i.group) ≡ sequence_of_part p + length i.group.entries
one_more g size p i next = (let one = next.fits.one in let first = next.follows in
    omega (arith, one, first))

-- the sequence once two slots are done
pub two_more : (g size : ℕ) (p : Part) (a b : Option Intent)
    → AreNext g size p (listed a ++ listed b)
    → sequence_of_part (after_all p (listed a ++ listed b)) ≡ sequence_of_part p + length
    (entries_in a) + length (entries_in b)
two_more g size p None None all = omega arith
two_more g size p None (Some j) all = (let one = one_more g size p j all.0 in omega (arith, one))
two_more g size p (Some i) None all = (let one = one_more g size p i all.0 in omega (arith, one))
two_more g size p (Some i) (Some j) all = (let one = one_more g size p i all.0 in let two =
    one_more g size (after p i.group) j all.1.0 in omega (arith, one, two))
