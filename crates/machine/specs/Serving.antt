-- What serving a guest does to a board, in steps, and what it leaves of the other guests.
use Rattle.std.specs.Prelude.{◌≡◌, ◌≢◌, ◌⊎◌, ◌<◌, ◌≤◌, ◌+◌, ◌^◌, ◌-◌, ℕ, Bool, List, [], slice_get}
use Rattle.std.specs.Prelude.{slice_set, Some, None, Ok, true, false, IfSome, map, length, ◌++◌}
use Rattle.std.specs.Prelude.{◌∷◌, All, Option, nat_lt}
use Rattle.chains.specs.declared.range.Range.{Range}
use Rattle.disk.specs.Outbox.{has_room}
use Rattle.disk.specs.OutboxDisk.{OutboxMakes, OutboxState, outbox_state}
use Rattle.flusher.specs.Store.{next_call}
use Rattle.flusher.specs.declared.progress.Call.{Call}
use Rattle.flusher.specs.declared.progress.Call.TheVariants as call
use Rattle.mmio_transport.specs.Asking.{AskingState, Notifies, after_told, known}
use Rattle.mmio_transport.specs.Popping.{with_fault}
use Rattle.mmio_transport.specs.Device.{DeviceState}
use Rattle.mmio_transport.specs.Job.{Done}
use Rattle.mmio_transport.specs.Queue.{popped_by}
use Rattle.mmio_transport.specs.Written.{queue_parts}
use Rattle.mmio_transport.specs.declared.done.Published.{Published}
use Rattle.guest_memory.specs.Memory.{IsAsk, kept}
use Rattle.guest_memory.specs.declared.ask.Ask.{Ask}
use Rattle.board.specs.Asking.{AskingBoardState, ForPop, ForReply, HandsReply, StepsAsked}
use Rattle.board.specs.State.{BoardState, in_place, waiting}
use Rattle.board.specs.Steps.{Answer}
use Rattle.board.specs.declared.step.Seen.{Seen}
use Rattle.board.specs.declared.step.Seen.TheVariants.{Did, Nothing}
use Rattle.board.specs.declared.step.Step.{Step}
use Rattle.board.specs.declared.step.Step.TheVariants as step
use Rattle.rpmb_book.specs.Book.{due_of}
use Rattle.machine.specs.Turn.{AreCopied, Stand, filled_parts, pop_parts, reply_parts}

abbrev pub Boards : Type 0
Boards = AskingBoardState OutboxState

-- one step of a board over an outbox
abbrev pub Makes : Step → Answer → Boards → Boards → Type 0
Makes s answer old new = StepsAsked outbox_state OutboxMakes s answer old new

-- the devices' states are as they were; what they know of their memories may be another
abbrev pub SameDevices : Boards → Boards → Type 0
SameDevices old new = map (λ a. a.device) new.devices ≡ map (λ a. a.device) old.devices

-- the guest's device has a copy of no byte
abbrev pub HasNoCopy : ℕ → Boards → Type 0
HasNoCopy guest b = IfSome (slice_get b.devices guest) (λ d. d.asks ≡ true → d.held ≡ [])

-- the devices' queues are as they were
abbrev pub QueuesStay : Boards → Boards → Type 0
QueuesStay old new = map (λ a. a.device.queue) new.devices ≡ map (λ a. a.device.queue) old.devices

-- what the publication of the reply in its place is to copy out
abbrev pub IsNoted : ℕ → List Range → Boards → Type 0
IsNoted guest parts b = IfSome (in_place (slice_get b.rest.dones guest)) (λ done.
    IfSome (slice_get (map (λ a. a.device.queue) b.devices) guest) (λ queue.
    parts ≡ filled_parts done.writable (length done.reply) ++ queue_parts queue))

abbrev pub is_write : Call → Bool
is_write call.Write = true
is_write call.Sync = false
is_write call.None = false

-- a write comes next, and the disk has room for the largest, which has 16,648 bytes
pub record MayWrite (b : BoardState OutboxState) : Type 0 where
  pub write : is_write (next_call b.store.broken b.store.guests) ≡ true
  pub room : has_room 16648 b.store.disk.outbox ≡ true

-- A step of this guest, or of all guests, that no device makes. A call of the disk is a write, for
-- which there is room.
abbrev pub IsShare : ℕ → Step → Boards → Type 0
IsShare guest (step.Drive g act) b = ⊥
IsShare guest (step.Pop g) b = ⊥
IsShare guest (step.Submit g) b = g ≡ guest
IsShare guest (step.Collect g) b = g ≡ guest
IsShare guest (step.Publish g) b = ⊥
IsShare guest (step.Take g) b = g ≡ guest
IsShare guest (step.Give g) b = g ≡ guest
IsShare guest step.Advance b = MayWrite b.rest
IsShare guest step.Settle b = Unit {0}

-- what the publication of the reply in its place is to write
abbrev pub due_parts : Option Done → DeviceState → List Range
due_parts None d = []
due_parts (Some done) d =
    filled_parts done.writable (length done.reply) ++ queue_parts d.queue

-- The guest's device is to write this part: by a pop, or by the publication of the reply in its
-- place.
pub data IsToWrite (guest : ℕ) (b : Boards) (a : AskingState) (part : Range) : Type 0 where
  ByAPop : popped_by a.device.queue ≡ Some part → IsToWrite guest b a part
  ByAReply : (i : ℕ)
      → slice_get (due_parts (in_place (slice_get b.rest.dones guest)) a.device) i ≡ Some part
      → IsToWrite guest b a part

-- What a device learns of its guest's memory, or does by itself: zeros were told for a part that
-- it is to write; all copies are forgotten, which begins a step of it; or in such a step, which is
-- over then, it saw that its driver isn't to be notified.
pub data Learns (guest : ℕ) (b : Boards) : Bool → AskingState → Bool → AskingState → Type 0 where
  Tells : (g : Bool) (a a' : AskingState) (part : Range) (zeros : List ℕ)
      → IsToWrite guest b a part → length zeros ≤ part.len → All (λ v. v ≡ 0) zeros
      → a' ≡ after_told a part.at zeros → Learns guest b g a g a'
  Forgets : (a a' : AskingState) → a' ≡ record a { held = kept (known a) }
      → Learns guest b false a true a'
  Sees : (a a' : AskingState) → Notifies a (Ok false) a' → Learns guest b true a false a'

-- The guest's device learned something, and nothing else changed.
pub record Knows (guest : ℕ) (going : Bool) (old : Boards) (going' : Bool) (new : Boards)
    : Type 0 where
  pub device : AskingState
  pub its : slice_get old.devices guest ≡ Some device
  pub device' : AskingState
  pub learns : Learns guest old going device going' device'
  pub after : new ≡ record old { devices = slice_set old.devices guest device' }

-- The guest's device saw that its driver is to be notified.
pub record Notified (guest : ℕ) (old new : Boards) : Type 0 where
  pub device : AskingState
  pub its : slice_get old.devices guest ≡ Some device
  pub device' : AskingState
  pub sees : Notifies device (Ok true) device'
  pub after : new ≡ record old { devices = slice_set old.devices guest device' }

-- It waits for a reset, and nothing else changed.
pub record RefusesIn (guest : ℕ) (old new : Boards) : Type 0 where
  pub device : AskingState
  pub its : slice_get old.devices guest ≡ Some device
  pub after : new
      ≡ record old {
        devices = slice_set old.devices guest (record device {
          device = record device.device
              { registers = with_fault device.device.registers };
        });
      }

-- The guest's device has no copy of these bytes of its guest's memory, and needs them: for its next
-- pop, or to see whether its driver is to be notified, which reads an area of its queue as a pop
-- does; or for the publication of the reply in its place.
pub record AsksIn (guest : ℕ) (ask : Ask) (b : Boards) : Type 0 where
  pub device : AskingState
  pub its : slice_get b.devices guest ≡ Some device
  pub asks : IsAsk (known device) ask
  pub needed : ForPop device ask
      ⊎ ForReply (in_place (slice_get b.rest.dones guest)) device ask

-- the guest's device has copies of these parts
abbrev pub HasParts : ℕ → List Range → Boards → Type 0
HasParts guest parts b = IfSome (slice_get b.devices guest) (λ d. AreCopied (known d) parts)

-- Why a guest's device is stopped of itself: the first part that is to be copied out has more bytes
-- than are copied at once; or it needs more bytes than are told at once.
pub data CantGoOn (guest : ℕ) (qs : List Range) (b : Boards) : Type 0 where
  TooLong : (part : Range) (ps : List Range) → qs ≡ part ∷ ps → 16384 < part.len
      → CantGoOn guest qs b
  TooMuch : (ask : Ask) → AsksIn guest ask b → 16384 < ask.len → CantGoOn guest qs b

-- it doesn't wait for a reset
abbrev pub IsGoing : ℕ → Boards → Type 0
IsGoing guest b = IfSome (slice_get b.devices guest) (λ d.
    d.device.registers.status.needs_reset ≡ false)

-- A pop that wasn't refused, behind DRIVER_OK, has all copied out that it writes.
pub record WritesAll (device : AskingState) (answer : Answer) (parts : List Range) : Type 0 where
  pub seen : Seen
  pub gave : answer ≡ Ok seen
  pub live : device.device.registers.status.driver_ok ≡ true
  pub all : parts ≡ pop_parts device.device

-- fewer of the guest's chains wait for their answers than may
abbrev pub MayTake : (guest most : ℕ) → Boards → Type 0
MayTake guest most b = nat_lt (waiting guest b.rest) most ≡ true

-- A pop of this device writes nothing that its guest's memory hasn't: avail_event is there, or
-- there is none; or it isn't live, and writes nothing.
pub data WritesNone (looked : Bool) (device : AskingState) : Type 0 where
  Stands : looked ≡ true → WritesNone looked device
  NoEvent : pop_parts device.device ≡ [] → WritesNone looked device
  NotLive : device.device.registers.status.driver_ok ≡ false → WritesNone looked device

-- A pop that gave no chain left nothing to be copied out: where it wasn't refused, since it wrote
-- nothing new.
pub record LeavesNone (looked : Bool) (device : AskingState) (answer : Answer) (parts : List Range)
    (looked' : Bool) : Type 0 where
  pub none : parts ≡ []
  pub gave_none : answer ≢ Ok Did
  pub same : looked' ≡ looked
  pub nothing : answer ≡ Ok Nothing → WritesNone looked device

-- The guest's device popped, while fewer of its chains waited for their answers than may: what it
-- wrote is to be copied out, unless it found no chain and that is in guest memory already.
pub record PopsOne (guest most : ℕ) (looked : Bool) (answer : Answer) (old : Boards)
    (parts : List Range) (looked' : Bool) (new : Boards) : Type 0 where
  pub makes : Makes (step.Pop guest) answer old new
  pub device : AskingState
  pub its : slice_get old.devices guest ≡ Some device
  pub empty : slice_get old.rest.jobs guest ≡ Some None
  pub fewer : MayTake guest most old
  pub parts_are : (WritesAll device answer parts × (looked' ≡ true))
      ⊎ LeavesNone looked device answer parts looked'

-- A reply was handed to its device: all that this wrote is to be copied out, in its order.
pub record HandsOne (guest : ℕ) (old : Boards) (parts : List Range) (new : Boards) : Type 0 where
  pub published : Published
  pub hands : HandsReply outbox_state OutboxMakes guest published old new
  pub parts_are : parts ≡ reply_parts hands.device.device hands.done published

-- parts that are left to be copied out, whether a step of the device was begun, and whether
-- avail_event stands, or will
abbrev pub standing : List Range → (going looked : Bool) → Stand
standing parts going looked =
    record { parts = parts; going = going; looked = looked; owed = false }

-- these parts are left, and the driver is to be notified
abbrev pub owing : List Range → Bool → Stand
owing parts looked = record { parts = parts; going = false; looked = looked; owed = true }

-- The guest's steps, one after another, from one board to the other, with what is to be copied out
-- into guest memory before and behind them. A step of its device is made only once it was begun,
-- and begins only where nothing is left to be copied out: so what it reads was told behind all that
-- the steps before it wrote, and it believes nothing that was told for one of them. It pops only
-- while fewer of its chains wait for their answers than may. No part is left out: one goes only
-- where the monitor is told of it, behind these steps, or where the device waits for a reset.
pub data Runs (guest most : ℕ) : Stand → Boards → Stand → Boards → Type 0 where
  Still : (s : Stand) (b : Boards) → Runs guest most s b s b
  Then : (s t : Stand) (a b c : Boards) (x : Step) (answer : Answer)
      → Runs guest most s a t b → IsShare guest x b → Makes x answer b c → Runs guest most s a t c
  -- the device steps only once all that it wrote before is in guest memory
  Pops : (s : Stand) (qs : List Range) (v w : Bool) (a b c : Boards) (answer : Answer)
      → Runs guest most s a (standing [] true v) b → PopsOne guest most v answer b qs w c
      → Runs guest most s a (standing qs false w) c
  Hands : (s : Stand) (qs : List Range) (v : Bool) (a b c : Boards)
      → Runs guest most s a (standing [] true v) b → HandsOne guest b qs c
      → Runs guest most s a (standing qs false v) c
  LearnsOf : (s : Stand) (qs : List Range) (g h v : Bool) (a b c : Boards)
      → (g ≡ false → h ≡ true → qs ≡ [])
      → Runs guest most s a (standing qs g v) b → Knows guest g b h c
      → Runs guest most s a (standing qs h v) c
  -- a step that was begun is given up
  GivesUp : (s : Stand) (qs : List Range) (g v : Bool) (a b : Boards)
      → Runs guest most s a (standing qs g v) b → Runs guest most s a (standing qs false v) b
  -- a notification is due: the monitor is told of it
  Calls : (s : Stand) (qs : List Range) (v : Bool) (a b c : Boards)
      → Runs guest most s a (standing qs true v) b → Notified guest b c
      → Runs guest most s a (owing qs v) c
  -- it can't go on: the device waits for a reset, and what is left is void
  Voids : (s : Stand) (qs : List Range) (g v : Bool) (a b c : Boards)
      → Runs guest most s a (standing qs g v) b → CantGoOn guest qs b → RefusesIn guest b c
      → Runs guest most s a (standing [] g v) c

-- a step did what it is for; or a call of the disk failed, by which the store breaks
abbrev pub IsDone : Step → Answer → Type 0
IsDone x answer = (answer ≡ Ok Did) ⊎ ((x ≡ step.Advance) × (answer ≢ Ok Nothing))

-- Something was done among such steps: one of them did what it is for, or broke the store; a chain
-- was popped; or a reply was handed to its device.
pub data DoesSome (guest most : ℕ) : Stand → Boards → Stand → Boards → Type 0 where
  ByStep : (s t u : Stand) (a b c d : Boards) (x : Step) (answer : Answer)
      → Runs guest most s a t b → IsShare guest x b → Makes x answer b c → IsDone x answer
      → Runs guest most t c u d → DoesSome guest most s a u d
  ByPop : (s u : Stand) (qs : List Range) (v w : Bool) (a b c d : Boards) (answer : Answer)
      → Runs guest most s a (standing [] true v) b → PopsOne guest most v answer b qs w c
      → answer ≡ Ok Did → Runs guest most (standing qs false w) c u d → DoesSome guest most s a u d
  ByReply : (s u : Stand) (qs : List Range) (v : Bool) (a b c d : Boards)
      → Runs guest most s a (standing [] true v) b → HandsOne guest b qs c
      → Runs guest most (standing qs false v) c u d → DoesSome guest most s a u d

-- So many things were done among such steps, one behind the other.
pub data DoesMany (guest most : ℕ) : ℕ → Stand → Boards → Stand → Boards → Type 0 where
  DoesNone : (n : ℕ) (s t : Stand) (a b : Boards) → n ≡ 0 → Runs guest most s a t b
      → DoesMany guest most n s a t b
  DoesMore : (m n : ℕ) (s t u : Stand) (a b c : Boards) → m ≡ n + 1
      → DoesMany guest most n s a t b → DoesSome guest most t b u c
      → DoesMany guest most m s a u c

-- Last of all the guest's device was stopped, which can't go on, and didn't wait for a reset yet.
pub record HasStopped (guest most : ℕ) (s : Stand) (a : Boards) (t : Stand) (b : Boards)
    : Type 0 where
  pub before : Boards
  pub parts : List Range
  pub going : Bool
  pub looked : Bool
  pub runs : Runs guest most s a (standing parts going looked) before
  pub went_on : IsGoing guest before
  pub why : CantGoOn guest parts before
  pub refuses : RefusesIn guest before b
  pub left : t ≡ standing [] going looked

-- of every other guest the device stays, and what lies between two steps
pub record OthersStay {D : Type 0} (guest : ℕ) (old new : BoardState D) : Type 0 where
  pub devices : (k : ℕ) → k ≢ guest → slice_get new.devices k ≡ slice_get old.devices k
  pub jobs : (k : ℕ) → k ≢ guest → slice_get new.jobs k ≡ slice_get old.jobs k
  pub dones : (k : ℕ) → k ≢ guest → slice_get new.dones k ≡ slice_get old.dones k
  pub intents : (k : ℕ) → k ≢ guest → slice_get new.intents k ≡ slice_get old.intents k

-- The book heard of the disk's last call, the next call was made, and the book heard of it.
pub record Hears (old new : Boards) : Type 0 where
  pub heard : Boards
  pub made : Boards
  pub before : Answer
  pub call : Answer
  pub behind : Answer
  pub hears : Makes step.Settle before old heard
  pub makes_it : Makes step.Advance call heard made
  pub hears_it : Makes step.Settle behind made new

-- No call of the disk fails, where none was told to fail and one failure more can be counted.
abbrev pub FailsNone : BoardState OutboxState → BoardState OutboxState → Type 0
FailsNone old new = old.store.disk.failed ≡ false → old.store.disk.failures < 2 ^ 64 - 1
    → (new.store.disk.failed ≡ false) × (new.store.disk.failures ≡ old.store.disk.failures)
    × (new.store.broken ≡ old.store.broken)

-- the jobs stay, and as many chains of the guest wait for their answers
abbrev pub KeepsWaiting : ℕ → BoardState OutboxState → BoardState OutboxState → Type 0
KeepsWaiting guest old new = (new.jobs ≡ old.jobs) × (waiting guest new ≡ waiting guest old)

-- no more chains of the guest wait for their answers than before, or than may
abbrev pub KeepsLimit : (guest most : ℕ) → BoardState OutboxState → BoardState OutboxState → Type 0
KeepsLimit guest most old new =
    (waiting guest new ≤ waiting guest old) ⊎ (waiting guest new ≤ most)

-- no reply of the guest lies between two steps, and the book gives none
pub record HasNoReply {D : Type 0} (guest : ℕ) (b : BoardState D) : Type 0 where
  pub place : in_place (slice_get b.dones guest) ≡ None
  pub due : slice_get b.dones guest ≡ Some None → due_of b.book guest ≡ None
