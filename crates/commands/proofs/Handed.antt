-- Orders that are handed out to guests, one after another.
use Rattle.std.proofs.Common.{◌≡◌, ◌≢◌, ⊎_elim, ◌∙◌, ◌<◌, ◌==◌, ◌++◌, ◌∷◌, ℕ, suc, List, [], true}
use Rattle.std.proofs.Common.{false, if◌then◌else◌, filter, length, map, refl, ap, sym, arith}
use Rattle.commands.proofs.Common.{cases_eq, append-nil, All, slice_index_or, slice_set}
use Rattle.commands.proofs.Common.{chain_orders, Order, Said, chains_of, is_chain, asks, asked_of}
use Rattle.std.proofs.lemmas.List.{get_or-set_other, get_or-set_same, map-append}
use Rattle.workers.specs.declared.order.Order.TheVariants as order

if_same : {X : Type 0} (g guest : ℕ) (n m : X) → g ≡ guest → (if g == guest then n else m) ≡ n
if_same g guest n m is = let yes : g == guest ≡ true = grind (arith, is) in rw yes refl

if_other : {X : Type 0} (g guest : ℕ) (n m : X) → g ≢ guest → (if g == guest then n else m) ≡ m
if_other g guest n m is_not = let no : g == guest ≡ false = grind (arith, is_not) in rw no refl

-- one guest has an order more
pub one_given : (scripts : List (List Order)) (guest : ℕ) (now : List Order) (o : Order)
    → guest < length scripts → now ≡ slice_index_or scripts guest [] ++ o ∷ []
    → (g : ℕ) → map (asks g) (slice_index_or (slice_set scripts guest now) g [])
    ≡ map (asks g) (slice_index_or scripts g []) ++ (if g == guest then asks g o ∷ [] else [])
one_given scripts guest now o below is g = ⊎_elim
    (λ same.
    let here : slice_index_or (slice_set scripts guest now) g [] ≡ now =
    ap (λ n. slice_index_or (slice_set scripts guest now) n []) same
    ∙ get_or-set_same scripts guest now [] below in
    ap (map (asks g)) (here ∙ is) ∙ map-append (asks g) (slice_index_or scripts guest []) (o ∷ [])
    ∙ ap (λ n. map (asks g) (slice_index_or scripts n []) ++ asks g o ∷ []) (sym same)
    ∙ ap (λ more. map (asks g) (slice_index_or scripts g []) ++ more)
    (sym (if_same g guest (asks g o ∷ []) [] same)))
    (λ other.
    let here : slice_index_or (slice_set scripts guest now) g [] ≡ slice_index_or scripts g [] =
    get_or-set_other scripts guest g now [] other in
    ap (map (asks g)) here ∙ sym (append-nil (map (asks g) (slice_index_or scripts g [])))
    ∙ ap (λ more. map (asks g) (slice_index_or scripts g []) ++ more)
    (sym (if_other g guest (asks g o ∷ []) [] other)))
    (cases_eq g guest)

pub rest_all : {X : Type 0} (P : X → Type 0) (x : X) (xs : List X) → All P (x ∷ xs) → All P xs
rest_all P x xs all k d below = all (suc k) d (omega (arith, below))

-- How many chains there are among the orders of a guest, and so among the lines that ask for them.

orders_count : (g : ℕ) (os : List Order) → length (filter is_chain (map (asks g) os))
    ≡ chain_orders os
orders_count g [] = refl
orders_count g (order.Chain c ∷ os) = omega (arith, orders_count g os)
orders_count g (order.Reset ∷ os) = omega (arith, orders_count g os)

pub as_many_chains : (g : ℕ) (os : List Order) (ls : List Said) → map (asks g) os ≡ asked_of g ls
    → chain_orders os ≡ chains_of g ls
as_many_chains g os ls is = sym (orders_count g os) ∙ ap (λ v. length (filter is_chain v)) is
