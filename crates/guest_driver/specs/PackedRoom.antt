-- The places that the chains of a packed ring take, as its driver counts them: while a place is
-- free, so is an id.
use Rattle.std.specs.Prelude.{◌≡◌, ◌≢◌, ◌↔◌, ℕ, ◌+◌, ◌<◌, ◌≤◌, Bool, List, [], ◌∷◌, length, get_or}
use Rattle.std.specs.Prelude.{Option, Some, None}
use Rattle.std.specs.Prelude.{Result}
use Rattle.mmio_transport.specs.declared.ring_kind.RingKind.TheVariants.{Packed}
use Rattle.guest_driver.specs.declared.flight.Flight.{Flight}
use Rattle.guest_driver.specs.declared.fault.DriverFault.{DriverFault}
use Rattle.guest_driver.specs.declared.config.DriverConfig.{DriverConfig}
use Rattle.guest_driver.specs.declared.reaping.Reaped.{Reaped}
use Rattle.guest_driver.specs.Kinds.{places_of}
use Rattle.guest_driver.specs.PackedHeld.{free_places}
use Rattle.guest_driver.specs.PackedUsed.{mark_of}
use Rattle.guest_driver.specs.Driver.{DriverState, first_driver, no_flight, owner, offer_of}
use Rattle.guest_driver.specs.Driver.{Offering, IsFull}
use Rattle.guest_driver.specs.Reap.{Reaps}

-- how many places the chains in flight take, one chain an id that isn't free
abbrev pub places_taken : List (Option ℕ) → List Flight → ℕ
places_taken [] flights = 0
places_taken (own ∷ owners) [] = 0
places_taken (None ∷ owners) (flight ∷ flights) = places_taken owners flights
places_taken (Some head ∷ owners) (flight ∷ flights) = flight.places + places_taken owners flights

-- What the driver of a packed ring keeps: each id that isn't free is that of one chain, which takes
-- a place at least, and from the place used next to the one offered at next there are as many as
-- the chains in flight take.
pub record IsCounted (driver : DriverState) : Type 0 where
  pub kind : driver.config.ring ≡ Packed
  pub owned : length driver.owners ≡ driver.config.queue
  pub flown : length driver.flights ≡ driver.config.queue
  pub alone : (id : ℕ) → owner driver.owners id ≢ None
      → (get_or driver.flights id no_flight).last ≡ id
  pub each : (id : ℕ) → owner driver.owners id ≢ None
      → 0 < (get_or driver.flights id no_flight).places
  -- how many places were used and taken back
  pub reaped : ℕ
  pub used : driver.used ≡ mark_of driver.config.queue reaped
  pub offered : driver.offered
      ≡ mark_of driver.config.queue (reaped + places_taken driver.owners driver.flights)
  pub room : places_taken driver.owners driver.flights ≤ driver.config.queue

-- so a driver begins, and each call keeps it
abbrev pub ADriverBeginsCounted : Type 0
ADriverBeginsCounted = (config : DriverConfig) → config.ring ≡ Packed
    → IsCounted (first_driver config)

abbrev pub AnOfferIsCounted : Type 0
AnOfferIsCounted = (memory : List ℕ) (driver : DriverState) (readable : List ℕ) (writable : ℕ)
    (result : Result ℕ DriverFault) (memory' : List ℕ) (driver' : DriverState)
    → 0 < length readable + writable → IsCounted driver
    → Offering memory driver readable writable result memory' driver' → IsCounted driver'

abbrev pub AReapIsCounted : Type 0
AReapIsCounted = (memory : List ℕ) (driver : DriverState)
    (result : Result (Option Reaped) DriverFault) (driver' : DriverState)
    → IsCounted driver → Reaps memory driver result driver' → IsCounted driver'

-- a packed ring is full exactly where too few places are free for the chain
abbrev pub APackedRingIsFullByItsPlaces : Type 0
APackedRingIsFullByItsPlaces = (driver : DriverState) (readable : List ℕ) (writable : ℕ)
    → 0 < length readable + writable → IsCounted driver
    → IsFull driver readable writable
    ↔ (free_places driver.config.queue driver.offered driver.used
    < places_of driver.config (offer_of readable writable 0 0))
