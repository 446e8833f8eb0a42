-- Which bytes of guest memory a queue asks for. Section numbers are those of VIRTIO 1.2.
use Rattle.std.specs.Prelude.{◌≡◌, ℕ, ◌+◌, ◌*◌, ◌≤◌, true, List, Option, Some, Result, Ok, Err, Any}
use Rattle.guest_memory.specs.declared.ask.Ask.{Ask}
use Rattle.chains.specs.declared.descriptor.Descriptors.{Descriptors}
use Rattle.chains.specs.declared.fault.ChainFault.{ChainFault}
use Rattle.chains.specs.declared.fault.RingFault.{RingFault}
use Rattle.chains.specs.declared.fault.RingFault.TheVariants.{NoMemory, Missing, Refused}
use Rattle.chains.specs.declared.places.Places.{Places}
use Rattle.chains.specs.declared.range.Range.{Range}
use Rattle.chains.specs.Descriptor.{HasPlace, descriptor_at}
use Rattle.chains.specs.Walk.{Found}

-- all that is asked for lies among the `len` bytes from this address on
abbrev pub LiesIn : ℕ → ℕ → Ask → Type 0
LiesIn at len ask = (at ≤ ask.at) × (ask.at + ask.len ≤ at + len)

-- in one of the queue's three areas, of which the second and the third have so many bytes (2.6)
pub data IsOfArea (places : Places) (size driver device : ℕ) (ask : Ask) : Type 0 where
  InDescriptors : LiesIn places.descriptors (16 * size) ask → IsOfArea places size driver device ask
  InDriver : LiesIn places.driver driver ask → IsOfArea places size driver device ask
  InDevice : LiesIn places.device device ask → IsOfArea places size driver device ask

-- in a table to which a descriptor of the ring refers (2.7.5.3, 2.8.7)
pub record IsOfTable (memory : List ℕ) (ring : Descriptors) (ask : Ask) : Type 0 where
  pub place : ℕ
  pub stands : HasPlace ring place
  pub refers : (descriptor_at memory ring place).indirect ≡ true
  pub part : LiesIn (descriptor_at memory ring place).addr (descriptor_at memory ring place).len ask

-- in one of these ranges
abbrev pub IsOfRanges : List Range → Ask → Type 0
IsOfRanges ranges ask = Any (λ range. LiesIn range.at range.len ask) ranges

-- What a pop needs: a part of an area of its queue; of a table there; or of a buffer of the chain
-- at the place after those popped that the device may read.
pub data IsNeeded (area : Ask → Type 0) (memory : List ℕ) (ring : Descriptors)
    (next : Result (Option Found) ChainFault) (ask : Ask) : Type 0 where
  OfArea : area ask → IsNeeded area memory ring next ask
  OfTable : IsOfTable memory ring ask → IsNeeded area memory ring next ask
  OfBuffer : (found : Found) → next ≡ Ok (Some found) → IsOfRanges found.buffers.readable ask
      → IsNeeded area memory ring next ask

-- what is asked for, if anything is, is of this kind
abbrev pub AsksFor : {X : Type 0} → (Ask → Type 0) → Result X RingFault → Type 0
AsksFor P (Ok x) = Unit {0}
AsksFor P (Err NoMemory) = Unit {0}
AsksFor P (Err (Missing ask)) = P ask
AsksFor P (Err (Refused fault)) = Unit {0}

-- nothing is
abbrev pub AsksNothing : {X : Type 0} → Result X RingFault → Type 0
AsksNothing result = AsksFor (λ ask. ⊥) result
