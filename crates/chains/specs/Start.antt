-- What stands where a ring's next chain begins.
use Rattle.std.specs.Prelude.{◌≡◌, ℕ, List, [], Option, Some, None, Result, Ok, Err}
use Rattle.chains.specs.declared.descriptor.Descriptors.{Descriptors}
use Rattle.chains.specs.declared.descriptor.Shape.{Shape}
use Rattle.chains.specs.declared.fault.ChainFault.{ChainFault}
use Rattle.chains.specs.declared.fault.RingFault.{RingFault}
use Rattle.chains.specs.declared.fault.RingFault.TheVariants.{NoMemory, Missing, Refused}
use Rattle.chains.specs.Walk.{Found, Member, chain_at, walk}
use Rattle.chains.specs.Ring.{RingState}

-- the descriptors of a ring, in this shape
abbrev pub descriptors_of : Shape → RingState → Descriptors
descriptors_of shape ring =
    record {
      shape = shape;
      base = ring.places.descriptors;
      limit = ring.size;
      tables = ring.places.indirect;
    }

abbrev pub some_found : Result Found ChainFault → Result (Option Found) ChainFault
some_found (Ok found) = Ok (Some found)
some_found (Err fault) = Err fault

-- the chain from a place on, where one begins
abbrev pub found_from : List ℕ → Descriptors → Result (Option ℕ) ChainFault
    → Result (Option Found) ChainFault
found_from memory area (Ok None) = Ok None
found_from memory area (Ok (Some start)) = some_found (walk memory area start)
found_from memory area (Err fault) = Err fault

-- the members of that chain, of which none is read where none begins
abbrev pub members_from : List ℕ → Descriptors → Result (Option ℕ) ChainFault → List Member
members_from memory area (Ok None) = []
members_from memory area (Ok (Some start)) = chain_at memory area start
members_from memory area (Err fault) = []

-- what a ring answers on where its next chain begins: the outcome, unless bytes are asked for
abbrev pub Starts : Result (Option ℕ) ChainFault → Result (Option ℕ) RingFault → Type 0
Starts outcome (Ok start) = outcome ≡ Ok start
Starts outcome (Err (Refused fault)) = outcome ≡ Err fault
Starts outcome (Err (Missing ask)) = Unit {0}
Starts outcome (Err NoMemory) = ⊥
