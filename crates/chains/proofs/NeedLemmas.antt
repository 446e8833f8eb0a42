-- What is asked for is of the kind that a caller speaks of.
use Rattle.std.proofs.Common.{◌≡◌, ◌<◌, ◌≤◌, ◌∙◌, ap, ℕ, List, Option, Some, Result, Ok, Err}
use Rattle.std.proofs.Common.{arith, get_or, length}
use Rattle.std.proofs.lemmas.List.{get_or_default}
use Rattle.guest_memory.specs.Memory.{Known}
use Rattle.guest_memory.specs.declared.ask.Ask.{Ask}
use Rattle.chains.proofs.Common.{RingFault, NoMemory, Missing, Refused, ChainFault, Descriptors}
use Rattle.chains.proofs.Common.{Found, Range, walk}
use Rattle.chains.specs.Building.{AsksOnly, BelievesCopies, StandsOn}
use Rattle.chains.specs.Needs.{IsOfRanges, LiesIn}
use Rattle.chains.specs.Start.{found_from, some_found}

pub asked_as : (X Y : Type 0) (m : Known) (P Q : Ask → Type 0) (e : RingFault)
    → ((ask : Ask) → P ask → Q ask) → AsksOnly {X = X} m P (Err e) → AsksOnly {X = Y} m Q (Err e)
asked_as X Y m P Q NoMemory more asks = record { absent = tt; few = tt; needed = tt }
asked_as X Y m P Q (Missing ask) more asks =
    record { absent = asks.absent; few = asks.few; needed = more ask asks.needed }
asked_as X Y m P Q (Refused f) more asks = record { absent = tt; few = tt; needed = tt }

stands_on : (X S : Type 0) (e : RingFault) → S → StandsOn {X = X} S (Err e)
stands_on X S NoMemory there = tt
stands_on X S (Missing ask) there = tt
stands_on X S (Refused f) there = there

pub believes_asked : (X Y : Type 0) (m : Known) (size : ℕ) (S : Type 0) (P Q : Ask → Type 0)
    (e : RingFault) → ((ask : Ask) → P ask → Q ask) → AsksOnly {X = X} m P (Err e)
    → S → BelievesCopies {X = Y} m size S Q (Err e)
believes_asked X Y m size S P Q e more asks there =
    let all = asked_as X Y m P Q e more asks in
    record {
      asks = all.absent;
      needed = all.needed;
      short = λ small. all.few;
      seen = stands_on Y S e there;
    }

-- the chain that is walked from where the next one begins is the next one
pub next_found : (m : List ℕ) (area : Descriptors) (next : Result (Option Found) ChainFault)
    (start : Result (Option ℕ) ChainFault) (s : ℕ) (found : Found)
    → next ≡ found_from m area start → start ≡ Ok (Some s) → walk m area s ≡ Ok found
    → next ≡ Ok (Some found)
next_found m area next start s found is begins walked =
    is ∙ ap (found_from m area) begins ∙ ap some_found walked

-- what lies in a part of one of the ranges lies in them
pub of_ranges : (xs : List Range) (k : ℕ) (d : Range) (len : ℕ) (ask : Ask) → k < length xs
    → len ≤ (get_or xs k d).len → LiesIn (get_or xs k d).at len ask → IsOfRanges xs ask
of_ranges xs k d len ask below short lies =
    let x = get_or xs k d in
    (k, x, below, get_or_default xs k x d below, (lies.0, omega (arith, lies.1, short)))
