-- How many places the chains in flight of a packed ring take.
use Rattle.std.proofs.Common.{◌≡◌, ◌≢◌, ℕ, zero, suc, ◌+◌, ◌<◌, ◌≤◌, List, [], ◌∷◌, length}
use Rattle.std.proofs.Common.{replicate, get_or, slice_set, Option, Some, None, refl, ap, arith}
use Rattle.guest_driver.proofs.Common.{Flight, no_flight, owner, places_taken}

-- none where none is in flight
pub taken-replicate : (n m : ℕ) → places_taken (replicate n None) (replicate m no_flight) ≡ 0
taken-replicate zero m = refl
taken-replicate (suc n) zero = refl
taken-replicate (suc n) (suc m) = taken-replicate n m

-- a chain more
pub taken-more : (owners : List (Option ℕ)) (flights : List Flight) (i head : ℕ) (flight : Flight)
    → length flights ≡ length owners → i < length owners
    → owner owners i ≡ None → places_taken (slice_set owners i (Some head))
    (slice_set flights i flight) ≡ places_taken owners flights + flight.places
taken-more (None ∷ os) (f ∷ fs) (suc i) head flight same low free =
    taken-more os fs i head flight (omega arith) (omega arith) free
taken-more (Some h ∷ os) (f ∷ fs) (suc i) head flight same low free =
    grind (arith, (taken-more os fs i head flight (omega arith) (omega arith) free))
taken-more owners flights i head flight same low free = grind arith

-- a chain less
pub taken-less : (owners : List (Option ℕ)) (flights : List Flight) (i head : ℕ)
    → length flights ≡ length owners
    → owner owners i ≡ Some head → places_taken (slice_set owners i None) flights +
    (get_or flights i no_flight).places ≡ places_taken owners flights
taken-less (None ∷ os) (f ∷ fs) (suc i) head same is = taken-less os fs i head (omega arith) is
taken-less (Some h ∷ os) (f ∷ fs) (suc i) head same is =
    grind (arith, (taken-less os fs i head (omega arith) is))
taken-less owners flights i head same is = grind arith

-- where no id is free, each takes a place
pub taken-all : (owners : List (Option ℕ)) (flights : List Flight) → length flights ≡ length owners
    → ((i : ℕ) → i < length owners → owner owners i ≢ None)
    → ((i : ℕ) → i < length owners → 0 < (get_or flights i no_flight).places)
    → length owners ≤ places_taken owners flights
taken-all [] flights same all each = omega arith
taken-all (o ∷ os) [] same all each = absurd (omega arith)
taken-all (None ∷ os) (f ∷ fs) same all each = absurd (all 0 (omega arith) refl)
taken-all (Some h ∷ os) (f ∷ fs) same all each =
    let first : 0 < f.places = each 0 (omega arith) in
    let rest = taken-all os fs (omega arith) (λ i low. all (suc i) (omega arith)) (λ i low.
    each (suc i) (omega arith)) in
    omega arith

-- an entry that is written twice
pub set_twice : (owners : List (Option ℕ)) (i : ℕ) (o : Option ℕ)
    → slice_set (slice_set owners i o) i o ≡ slice_set owners i o
set_twice (x ∷ xs) (suc i) o = ap (λ v. x ∷ v) (set_twice xs i o)
set_twice owners i o = grind arith
