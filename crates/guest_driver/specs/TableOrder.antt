-- What a driver keeps. With VIRTIO_F_IN_ORDER the descriptors of a split ring that aren't free are
-- one stretch of its table, round and round, since chains come back in the order in which they were
-- offered (2.7.9). Section numbers are those of VIRTIO 1.2.
use Rattle.std.specs.Prelude.{◌≡◌, ◌≢◌, ◌⊎◌, ℕ, ◌+◌, ◌-◌, ◌%◌, ◌<◌, ◌≤◌, Bool, true, List, length}
use Rattle.std.specs.Prelude.{get_or, Option, Some, None}
use Rattle.guest_driver.specs.declared.flight.Flight.{Flight}
use Rattle.guest_driver.specs.Driver.{no_flight, owner, following}

-- The turn of a chain that was offered at a place of this mark: how many chains in flight were
-- offered before it.
unfoldable pub turn : ℕ → ℕ → ℕ
turn used mark = (mark + 65536 - used) % 65536

-- a descriptor is one of so many from the first one on, round and round
pub record IsWithin (size first many d : ℕ) : Type 0 where
  pub behind : first ≤ d → d < first + many
  pub round : d < first → d + size < first + many

-- the descriptor behind them
pub record IsBehind (size first many next : ℕ) : Type 0 where
  pub behind : first + many < size → next ≡ first + many
  pub round : size ≤ first + many → next + size ≡ first + many

-- the chains from this one on have a descriptor each
pub record HaveOne (size first many chains turn d : ℕ) : Type 0 where
  pub behind : first ≤ d → chains + d ≤ first + many + turn
  pub round : d < first → chains + (d + size) ≤ first + many + turn

-- a chain in flight begins at this descriptor
abbrev pub IsHead : List (Option ℕ) → ℕ → Type 0
IsHead owners d = owner owners d ≡ Some d

-- where the chain behind this one begins
abbrev pub behind : ℕ → List Flight → ℕ → ℕ
behind size flights d = following size (get_or flights d no_flight).last

abbrev pub turn_of : ℕ → List Flight → ℕ → ℕ
turn_of used flights d = turn used (get_or flights d no_flight).place

-- A chain in flight has one descriptor or the two from its head on, and the chain whose turn is
-- next begins behind it.
pub record IsInTurn (size offered used next : ℕ) (owners : List (Option ℕ)) (flights : List Flight)
    (d : ℕ) : Type 0 where
  pub one : (get_or flights d no_flight).places ≡ 1
  pub low : (get_or flights d no_flight).place < 65536
  pub before : turn_of used flights d < turn used offered
  pub spans : ((get_or flights d no_flight).last ≡ d)
      ⊎ ((get_or flights d no_flight).last ≡ following size d)
  pub owned : owner owners (get_or flights d no_flight).last ≡ Some d
  pub older : turn_of used flights d + 1 < turn used offered
      → IsHead owners (behind size flights d)
      × (turn_of used flights (behind size flights d) ≡ turn_of used flights d + 1)
  pub newest : turn_of used flights d + 1 ≡ turn used offered → behind size flights d ≡ next

-- The descriptors that aren't free are so many from the first one on, up to the one at which the
-- next chain begins.
pub record IsStretch (size offered used next : ℕ) (owners : List (Option ℕ))
    (flights : List Flight) : Type 0 where
  pub first : ℕ
  pub many : ℕ
  pub first_low : first < size
  pub many_low : many ≤ size
  pub used_low : used < 65536
  pub offered_low : offered < 65536
  pub next_low : next < size
  pub ends : IsBehind size first many next
  pub taken : (d : ℕ) → d < size → owner owners d ≢ None → IsWithin size first many d
  pub covers : (d : ℕ) → d < size → IsWithin size first many d → owner owners d ≢ None
  pub room : (d : ℕ) → d < size → IsHead owners d
      → HaveOne size first many (turn used offered) (turn_of used flights d) d
  pub oldest : 0 < turn used offered → IsHead owners first × (turn_of used flights first ≡ 0)
  pub none : turn used offered ≡ 0 → first ≡ next
  pub each : (d : ℕ) → d < size → IsHead owners d → IsInTurn size offered used next owners flights d
  pub once : (d e : ℕ) → d < size → e < size → IsHead owners d → IsHead owners e
      → turn_of used flights d ≡ turn_of used flights e → d ≡ e

-- what a driver keeps
pub record Keeps (ordered : Bool) (size offered used next : ℕ) (owners : List (Option ℕ))
    (flights : List Flight) : Type 0 where
  pub each_owner : length owners ≡ size
  pub each_flight : length flights ≡ size
  pub size_low : size ≤ 65535
  pub offered_low : offered ≤ 200000
  pub used_low : used ≤ 200000
  pub next_low : 0 < size → next < size
  pub each : (i : ℕ) → i < size
      → ((get_or flights i no_flight).last < size) × ((get_or flights i no_flight).writable ≤ 8192)
  pub stretch : ordered ≡ true → 0 < size → IsStretch size offered used next owners flights
