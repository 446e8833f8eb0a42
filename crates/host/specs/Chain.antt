-- What a chain of one guest does: an offer, looks at the guest's queue, and a reap.
use Rattle.std.specs.Prelude.{◌≡◌, ℕ, max, List, Option, Some, None, Result, Ok, Err}
use Rattle.mmio_transport.specs.Device.{DeviceState}
use Rattle.guest_driver.specs.Access.{ButForMemory}
use Rattle.guest_driver.specs.Driver.{DriverState, Offering}
use Rattle.guest_driver.specs.Reap.{Reaps}
use Rattle.guest_driver.specs.declared.fault.DriverFault.{DriverFault}
use Rattle.guest_driver.specs.declared.fault.DriverFault.TheVariants as driver
use Rattle.guest_driver.specs.declared.reaping.Reaped.{Reaped}
use Rattle.host.specs.Guest.{queue_of, stuck_by}
use Rattle.queue_looks.specs.Looks.{LooksOn, Share}
use Rattle.queue_looks.specs.declared.fault.HostFault.{HostFault}
use Rattle.queue_looks.specs.declared.fault.HostFault.TheVariants as host
use Rattle.host.specs.declared.front.Answer.{Answer}
use Rattle.host.specs.declared.front.Answer.TheVariants as answer
use Rattle.host.specs.declared.front.Front.{Front}
use Rattle.host.specs.declared.front.Stuck.{Stuck}
use Rattle.host.specs.declared.front.Stuck.TheVariants as stuck
use Rattle.queue_looks.specs.declared.looking.Look.{Look}
use Rattle.queue_looks.specs.declared.looking.Look.TheVariants.{Answered, Nothing, Stopped}

-- 1. The driver's side

-- what the guest is told, by what its driver reaped
abbrev pub told_by : Result (Option Reaped) DriverFault → Result Answer HostFault
told_by (Ok (Some reaped)) = Ok (answer.Used reaped.bytes)
told_by (Ok None) = Ok (answer.Stuck stuck.NoAnswer)
told_by (Err driver.BadUsed) = Ok (answer.Stuck stuck.BadUsed)
told_by (Err driver.NoMemory) = Err host.NoMemory
told_by (Err driver.OutOfRange) = Err host.OutOfRange
told_by (Err driver.NoRoom) = Err host.NoRoom

-- it reaped once from this memory
pub record ReapsOnce (memory : List ℕ) (d : DriverState) (told : Result Answer HostFault)
    (d' : DriverState)
    : Type 0 where
  pub reaped : Result (Option Reaped) DriverFault
  pub reaps : Reaps memory d reaped d'
  pub tells : told ≡ told_by reaped

-- by what the looks came to; it reaps where a job was answered
abbrev pub EndsChain : Result Look HostFault → List ℕ → DriverState → Result Answer HostFault
    → DriverState → Type 0
EndsChain (Ok Nothing) memory d told d' = (told ≡ Ok (answer.Stuck stuck.NoAnswer)) × (d' ≡ d)
EndsChain (Ok Stopped) memory d told d' = (told ≡ Ok (answer.Stuck stuck.NeedsReset)) × (d' ≡ d)
EndsChain (Ok Answered) memory d told d' = ReapsOnce memory d told d'
EndsChain (Err fault) memory d told d' = (told ≡ Err fault) × (d' ≡ d)

-- 2. The chain

-- looks, and a reap after them
pub record LooksAndReaps (guest times : ℕ) (d : DriverState) (s : Share)
    (told : Result Answer HostFault)
    (d' : DriverState) (s' : Share) : Type 0 where
  pub answer : Result Look HostFault
  pub looks : LooksOn guest times s answer s'
  pub ends : EndsChain answer s'.device.memory d told d'

-- by what the offer came to; the guest is served where its chain was taken
abbrev pub FollowsOffer : ℕ → ℕ → Result ℕ DriverFault → DriverState → Share
    → Result Answer HostFault
    → DriverState → Share → Type 0
FollowsOffer guest times (Ok head) d s told d' s' = LooksAndReaps guest times d s told d' s'
FollowsOffer guest times (Err driver.NoRoom) d s told d' s' =
    (told ≡ Err host.NoRoom) × (d' ≡ d) × (s' ≡ s)
FollowsOffer guest times (Err driver.OutOfRange) d s told d' s' =
    (told ≡ Err host.OutOfRange) × (d' ≡ d) × (s' ≡ s)
FollowsOffer guest times (Err driver.NoMemory) d s told d' s' = ⊥
FollowsOffer guest times (Err driver.BadUsed) d s told d' s' = ⊥

pub record ChainDoes (guest : ℕ) (front : Front) (s : Share) (readable : List ℕ) (writable : ℕ)
    (told : Result Answer HostFault) (d' : DriverState) (s' : Share) : Type 0 where
  pub offered : Result ℕ DriverFault
  pub driver : DriverState
  -- the device as the offer left it
  pub lent : DeviceState
  pub offering : Offering s.device.memory front.driver readable writable offered lent.memory driver
  pub rest : ButForMemory s.device lent
  pub serves : FollowsOffer guest (max 1 (queue_of front)) offered driver
      (record s { device = lent }) told d' s'

-- 3. The front

-- a guest that is stuck is told why, and nothing changes
pub record IsStill (why : Stuck) (f : Front) (s : Share) (told : Result Answer HostFault)
    (f' : Front) (s' : Share)
    : Type 0 where
  pub tells : told ≡ Ok (answer.Stuck why)
  pub front : f' ≡ f
  pub share : s' ≡ s

-- another is stuck from then on exactly where it was told so
pub record IsChained (guest : ℕ) (f : Front) (s : Share) (readable : List ℕ) (writable : ℕ)
    (told : Result Answer HostFault) (f' : Front) (s' : Share) : Type 0 where
  pub driver : DriverState
  pub does : ChainDoes guest f s readable writable told driver s'
  pub front : f' ≡ record f { driver = driver; stuck = stuck_by told }

abbrev pub ChainsFrom : Option Stuck → ℕ → Front → Share → List ℕ → ℕ → Result Answer HostFault
    → Front
    → Share → Type 0
ChainsFrom None guest f s readable writable told f' s' =
    IsChained guest f s readable writable told f' s'
ChainsFrom (Some why) guest f s readable writable told f' s' = IsStill why f s told f' s'

abbrev pub Chains : ℕ → Front → Share → List ℕ → ℕ → Result Answer HostFault → Front → Share
    → Type 0
Chains guest f s readable writable told f' s' =
    ChainsFrom f.stuck guest f s readable writable told f' s'
