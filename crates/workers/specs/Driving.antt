-- What a guest's driver does at a look: it answers its oldest chain, and goes on in its script.
use Rattle.std.specs.Prelude.{◌≡◌, ◌≢◌, ◌⊎◌, ℕ, ◌+◌, ◌<◌, ◌≤◌, Bool, true, false, if◌then◌else◌}
use Rattle.std.specs.Prelude.{List, [], ◌∷◌, ◌++◌, length, Option, Some, None, Result, Ok, Err}
use Rattle.std.specs.Prelude.{slice_get, take}
use Rattle.guest_driver.specs.Driver.{DriverState, Offering, first_driver}
use Rattle.guest_driver.specs.Negotiation.{is_in_service, negotiated, renegotiated}
use Rattle.guest_driver.specs.Reap as reap
use Rattle.guest_driver.specs.declared.config.DriverConfig.{DriverConfig}
use Rattle.guest_driver.specs.declared.fault.DriverFault.{DriverFault}
use Rattle.guest_driver.specs.declared.fault.DriverFault.TheVariants.{BadUsed, NoMemory, NoRoom}
use Rattle.guest_driver.specs.declared.fault.DriverFault.TheVariants.{OutOfRange}
use Rattle.guest_driver.specs.declared.reaping.Reaped.{Reaped}
use Rattle.queue_looks.specs.declared.fault.HostFault.{HostFault}
use Rattle.queue_looks.specs.declared.fault.HostFault.TheVariants as host
use Rattle.host.specs.declared.front.Answer.{Answer}
use Rattle.host.specs.declared.front.Answer.TheVariants.{Used, Stuck as Unanswered}
use Rattle.host.specs.declared.front.Stuck.{Stuck}
use Rattle.host.specs.declared.front.Stuck.TheVariants.{NoAnswer}
use Rattle.workers.specs.Looks.{fault_of, told}
use Rattle.workers.specs.Orders.{chain_orders}
use Rattle.workers.specs.declared.driver.Driver.{Driver}
use Rattle.workers.specs.declared.order.Chain.{Chain}
use Rattle.workers.specs.declared.order.Order.{Order}
use Rattle.workers.specs.declared.order.Order.TheVariants.{Chain as Offer, Reset}
use Rattle.workers.specs.declared.seat.Guest.{Guest}
use Rattle.workers.specs.declared.seat.News.{News}
use Rattle.workers.specs.declared.seat.News.TheVariants as news
use Rattle.workers.specs.declared.seat.Next.{Next}
use Rattle.workers.specs.declared.seat.Next.TheVariants.{Again, Rest, End}

-- what a driver keeps to itself: its half of the queue, how many orders it has taken, how many
-- chains have no answer, why it is stuck, and its answers, in the order of the script
pub record At : Type 0 where
  pub queue : DriverState
  pub next : ℕ
  pub outstanding : ℕ
  pub stuck : Option Stuck
  pub answers : List Answer

abbrev pub at : Driver → At
at d = record {
  queue = d.queue;
  next = d.next;
  outstanding = d.outstanding;
  stuck = d.stuck;
  answers = d.answers.items;
}

-- a driver that sets up its queue so, and has offered nothing yet
abbrev pub begun : DriverConfig → Option Stuck → At
begun config stuck = record {
  queue = first_driver config;
  next = 0;
  outstanding = 0;
  stuck = stuck;
  answers = [];
}

-- 1. Answers

-- What a driver keeps of what a look told: a reply lies behind its other answers, and where none
-- comes any more it is stuck for the reason that was told.
abbrev pub KeepsTold : Result News HostFault → List Answer → Bool → Option Stuck → List Answer
    → Type 0
KeepsTold (Ok (news.Reply bytes)) old moved stuck new =
    (moved ≡ true) × (stuck ≡ None) × (new ≡ old ++ Used bytes ∷ [])
KeepsTold (Ok (news.NoReply why)) old moved stuck new =
    (moved ≡ true) × (stuck ≡ Some why) × (new ≡ old)
KeepsTold (Ok news.Nothing) old moved stuck new = (moved ≡ false) × (stuck ≡ None) × (new ≡ old)
KeepsTold (Err fault) old moved stuck new = ⊥

-- What a driver does for its oldest chain without an answer. Stuck, it looks at nothing, and the
-- answer is why it is; else it reaps once, and keeps what that told.
abbrev pub AnswersBy : Option Stuck → At → Guest → Bool → At → Guest → Type 0
AnswersBy (Some why) old guest moved new guest' =
    (moved ≡ true) × (new.stuck ≡ Some why) × (guest' ≡ guest) × (new.queue ≡ old.queue)
    × (new.answers ≡ old.answers ++ Unanswered why ∷ [])
AnswersBy None old guest moved new guest' =
    (guest' ≡ guest)
    × ((reaped : Result (Option Reaped) DriverFault)
    × reap.Reaps guest.device.memory old.queue reaped new.queue
    × KeepsTold (told reaped guest.stopped) old.answers moved new.stuck new.answers)

-- With no chain that has no answer, nothing moves.
pub record Answers (old : At) (guest : Guest) (moved : Bool) (new : At) (guest' : Guest)
    : Type 0 where
  pub none : old.outstanding ≡ 0
      → (moved ≡ false) × (new.stuck ≡ old.stuck) × (guest' ≡ guest)
      × (new.queue ≡ old.queue) × (new.answers ≡ old.answers)
  pub oldest : 0 < old.outstanding → AnswersBy old.stuck old guest moved new guest'
  pub place : new.next ≡ old.next

-- 2. Orders

-- one look at the script
abbrev pub Offers : ℕ → Bool → ℕ → Type 0
Offers next true next' = next' ≡ next + 1
Offers next false next' = next' ≡ next

-- what the answer to an offer comes to: without room, a chain waits for those before it
abbrev pub IsToldBy : Result ℕ DriverFault → ℕ → Result Bool HostFault → Type 0
IsToldBy (Ok id) outstanding result = result ≡ Ok true
IsToldBy (Err NoRoom) outstanding result =
    (0 < outstanding → result ≡ Ok false) × (outstanding ≡ 0 → result ≡ Err host.NoRoom)
IsToldBy (Err OutOfRange) outstanding result = result ≡ Err (fault_of OutOfRange)
IsToldBy (Err NoMemory) outstanding result = result ≡ Err (fault_of NoMemory)
IsToldBy (Err BadUsed) outstanding result = result ≡ Err (fault_of BadUsed)

-- the chain was offered whole, whatever came of it
pub record IsOffered (outstanding : ℕ) (chain : Chain) (queue : DriverState) (guest : Guest)
    (result : Result Bool HostFault) (queue' : DriverState) (guest' : Guest) : Type 0 where
  pub answer : Result ℕ DriverFault
  pub offering : Offering guest.device.memory queue chain.readable.items chain.writable
      answer guest'.device.memory queue'
  pub told : IsToldBy answer outstanding result
  pub device : guest'.device ≡ record guest.device { memory = guest'.device.memory }
  pub stopped : guest'.stopped ≡ guest.stopped

-- A chain is offered where at most 255 have no answer, and waits else. Of a stuck driver it only
-- counts.
abbrev pub OffersBy : Option Stuck → ℕ → Chain → DriverState → Guest → Result Bool HostFault
    → DriverState → Guest → Type 0
OffersBy (Some why) outstanding chain queue guest result queue' guest' =
    (guest' ≡ guest) × (queue' ≡ queue) × (outstanding < 256 → result ≡ Ok true)
    × (256 ≤ outstanding → result ≡ Ok false)
OffersBy None outstanding chain queue guest result queue' guest' =
    (outstanding < 256 → IsOffered outstanding chain queue guest result queue' guest')
    × (256 ≤ outstanding → (result ≡ Ok false) × (queue' ≡ queue) × (guest' ≡ guest))

-- the driver has negotiated with its device, which is in service then, or isn't
pub record IsBegun (config : DriverConfig) (guest guest' : Guest) (stuck : Option Stuck)
    : Type 0 where
  pub device : guest'.device ≡ negotiated guest.device config
  pub told : stuck ≡ (if is_in_service guest'.device then None else Some NoAnswer)

-- the driver has reset its device, and brought it into service again where it could
pub record IsRestarted (config : DriverConfig) (guest guest' : Guest) (queue' : DriverState)
    (stuck : Option Stuck) : Type 0 where
  pub device : guest'.device ≡ renegotiated guest.device config
  pub queue : queue' ≡ first_driver config
  pub stopped : guest'.stopped ≡ false
  pub told : stuck ≡ (if is_in_service guest'.device then None else Some NoAnswer)

-- What a driver does with its next order. A reset waits until each chain has its answer.
abbrev pub TakesOrder : Option Order → At → Guest → Result Bool HostFault → At → Guest → Type 0
TakesOrder None old guest result new guest' =
    (result ≡ Ok false) × (new.stuck ≡ old.stuck) × (new.queue ≡ old.queue) × (guest' ≡ guest)
TakesOrder (Some (Offer chain)) old guest result new guest' =
    (new.stuck ≡ old.stuck)
    × OffersBy old.stuck old.outstanding chain old.queue guest result new.queue guest'
TakesOrder (Some Reset) old guest result new guest' =
    (old.outstanding ≡ 0
    → (result ≡ Ok true) × IsRestarted old.queue.config guest guest' new.queue new.stuck)
    × (0 < old.outstanding
    → (result ≡ Ok false) × (new.stuck ≡ old.stuck) × (new.queue ≡ old.queue)
    × (guest' ≡ guest))

-- 3. Steps

-- A driver that went on has one answer more at most, and one order; one that rests or ends has
-- neither.
abbrev pub Drives : ℕ → ℕ → Next → ℕ → ℕ → Type 0
Drives answers next Again answers' next' =
    (answers ≤ answers') × (answers' ≤ answers + 1) × (next ≤ next') × (next' ≤ next + 1)
Drives answers next Rest answers' next' = (answers' ≡ answers) × (next' ≡ next)
Drives answers next End answers' next' = (answers' ≡ answers) × (next' ≡ next)

-- A driver's look: no answer is lost and no order made twice; one that rests did nothing.
abbrev pub GoesOn : ℕ → ℕ → Next → ℕ → ℕ → Type 0
GoesOn answers next Again answers' next' = (answers ≤ answers') × (next ≤ next')
GoesOn answers next Rest answers' next' = (answers' ≡ answers) × (next' ≡ next)
GoesOn answers next End answers' next' = (answers ≤ answers') × (next ≤ next')

-- A step: it looks for the answer to its oldest chain, and then at its next order. What it did says
-- whether it goes on. The device is that of the guest of this number.
pub record Steps (number : ℕ) (script : List Order) (old : At) (guest : Guest) (next : Next)
    (new : At) (guest' : Guest) : Type 0 where
  pub own : guest.device.guest ≡ number
  pub answered : Bool
  pub taken : Bool
  pub between : At
  pub middle : Guest
  pub answers : Answers old guest answered between middle
  pub takes : TakesOrder (slice_get script between.next) between middle (Ok taken) new guest'
  pub place : Offers between.next taken new.next
  pub kept : new.answers ≡ between.answers
  pub counted : (length between.answers + between.outstanding
      ≡ chain_orders (take between.next script))
      × (length new.answers + new.outstanding ≡ chain_orders (take new.next script))
  pub goes_on : ((answered ≡ true) ⊎ (taken ≡ true) → next ≡ Again)
      × (answered ≡ false → taken ≡ false → next ≢ Again)

-- a step, and where it led, under the lock of the guest
pub record Move : Type 0 where
  pub guest : Guest
  pub next : Next
  pub to : At
  pub guest' : Guest

-- these steps of a guest's script, one after another
abbrev pub Went : ℕ → List Order → At → List Move → At → Type 0
Went number script from [] to = to ≡ from
Went number script from (m ∷ moves) to =
    Steps number script from m.guest m.next m.to m.guest' × Went number script m.to moves to

-- steps of a guest's script led from one to the other
pub record GoesTo (number : ℕ) (script : List Order) (from to : At) : Type 0 where
  pub moves : List Move
  pub went : Went number script from moves to

-- A driver found the device of the guest of this number, and negotiated with it, by this
-- configuration of its queue.
pub record Finds (number : ℕ) (config : DriverConfig) (stuck : Option Stuck) : Type 0 where
  pub found : Guest
  pub guest : Guest
  pub own : found.device.guest ≡ number
  pub begins : IsBegun config found guest stuck

-- A driver of this configuration ran its script: it negotiated with the device of its own guest,
-- whose number this is, and went by steps on that guest's device, from what that told, to the end
-- of the script. Each chain of it has its answer.
pub record Ran (number : ℕ) (config : DriverConfig) (script : List Order) (answers : List Answer)
    : Type 0 where
  pub first : Option Stuck
  pub last : At
  pub begins : Finds number config first
  pub goes : GoesTo number script (begun config first) last
  pub whole : last.next ≡ length script
  pub none : last.outstanding ≡ 0
  pub told : last.answers ≡ answers
  pub all : length answers ≡ chain_orders script
