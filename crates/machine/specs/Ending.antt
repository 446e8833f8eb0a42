-- What a serve ends with: what it asks for, where it rests, and why it tells a fault.
use Rattle.std.specs.Prelude.{◌≡◌, ◌≢◌, ◌⊎◌, ◌≤◌, ℕ, Bool, true, false, nat_lt, List, [], ◌∷◌}
use Rattle.std.specs.Prelude.{length, Option, Some}
use Rattle.std.specs.Prelude.{None, Ok, Err, IfSome, map, nat_le, slice_get, slice_set, take, ◌<◌}
use Rattle.disk.specs.Outbox.{has_room}
use Rattle.disk.specs.OutboxDisk.{OutboxState}
use Rattle.flusher.specs.Store.{is_free, next_call}
use Rattle.guest_memory.specs.Memory.{IsInside, bytes_at}
use Rattle.intent_slots.specs.Payload.{Intent}
use Rattle.rpmb_book.specs.Book.{next_intent}
use Rattle.guest_memory.specs.declared.ask.Ask.{Ask}
use Rattle.mmio_transport.specs.Asking.{AskingState, after_told}
use Rattle.mmio_transport.specs.Device.{DeviceState}
use Rattle.mmio_transport.specs.Popping.{GivesJob}
use Rattle.mmio_transport.specs.declared.fault.DeviceFault.TheVariants as device_fault
use Rattle.rpmb_book.specs.declared.refused.Refused.TheVariants as refused
use Rattle.board.specs.State.{BoardState, HasNoJob, in_place, waiting}
use Rattle.board.specs.declared.step.Step.TheVariants as step
use Rattle.board.specs.declared.step.StepFault.{StepFault}
use Rattle.board.specs.declared.step.StepFault.TheVariants as step_fault
use Rattle.chains.specs.declared.range.Range.{Range}
use Rattle.machine.specs.Serving.{AsksIn, Boards, DoesMany, DoesSome, HasNoReply, HasStopped}
use Rattle.machine.specs.Serving.{IsGoing}
use Rattle.machine.specs.Serving.{Makes, PopsOne, RefusesIn, Runs, is_write, standing}
use Rattle.board.specs.declared.step.Seen.TheVariants.{Nothing}
use Rattle.machine.specs.declared.fault.MachineFault.{MachineFault}
use Rattle.machine.specs.declared.fault.MachineFault.TheVariants as fault
use Rattle.machine.specs.Turn.{Stand, TurnState, stand_of}
use Rattle.machine.specs.declared.serving.Next.{Next}
use Rattle.machine.specs.declared.serving.Next.TheVariants as next
use Rattle.machine.specs.declared.taking.Taken.{Taken}
use Rattle.machine.specs.declared.turn.Asked.{Asked}
use Rattle.machine.specs.declared.turn.Asked.TheVariants as asked
use Rattle.machine.specs.declared.taking.Taken.TheVariants as taken

-- the last pop of the guest's device found no chain: of what it was told then, none was available
pub record FindsNone (guest : ℕ) (b : Boards) : Type 0 where
  pub device : DeviceState
  pub its : slice_get (map (λ a. a.device) b.devices) guest ≡ Some device
  pub before : DeviceState
  pub none : GivesJob before (Ok None) device

-- One of these steps was a pop of the guest's device, which looked for a chain, by a copy of what
-- says whether one is available (`SeesAs`), and found none. A step of the device is begun without
-- copies, so this one was told in that step. It left nothing to be copied out: so it looked behind
-- avail_event, which stood in guest memory before it began.
pub record Looks (guest most : ℕ) (s : Stand) (a : Boards) (v : Stand) (b : Boards) : Type 0 where
  pub before : Boards
  pub looked : Bool
  pub first : Runs guest most s a (standing [] true looked) before
  pub looked' : Bool
  pub after : Boards
  pub pops : PopsOne guest most looked (Ok Nothing) before [] looked' after
  pub rest : Runs guest most (standing [] false looked') after v b

-- whether the driver is to be notified was seen behind all that its queue used
abbrev pub SawUsed : AskingState → Type 0
SawUsed a = IfSome a.device.queue (λ q. nat_le q.ring.used a.told ≡ true)

-- It was, or the device waits for a reset: then nothing is asked for any more to see it.
abbrev pub SawAll : AskingState → Type 0
SawAll a = a.device.registers.status.needs_reset ≡ false → SawUsed a

abbrev pub HasSeenAll : ℕ → Boards → Type 0
HasSeenAll guest b = IfSome (slice_get b.devices guest) SawAll

-- for a write that comes next there is no room: the largest has 16,648 bytes
abbrev pub HasRoomForNone : BoardState OutboxState → Type 0
HasRoomForNone b = is_write (next_call b.store.broken b.store.guests) ≡ true
    → has_room 16648 b.store.disk.outbox ≡ false

-- All of a guest that was accepted is with the store, as far as its slots are free: an intent that
-- was taken waits for one, and where none was taken the book has none to give. The book has heard
-- of the disk's last call, and no write could be made.
pub record IsHandedOn (guest : ℕ) (b : BoardState OutboxState) : Type 0 where
  pub heard : b.report ≡ None
  pub place : (i : Intent) → in_place (slice_get b.intents guest) ≡ Some i
      → is_free b.store.guests guest ≡ false
  pub due : slice_get b.intents guest ≡ Some None → next_intent b.book b.shares guest ≡ None
  pub room : HasRoomForNone b

-- Of a guest's chains that were answered nothing is left to be done: what was accepted is handed
-- on; no reply may leave, and whether its driver is to be notified was seen behind all that left;
-- and no write of the disk comes before a sync.
pub record IsSettled (guest : ℕ) (b : Boards) : Type 0 where
  pub handed : IsHandedOn guest b.rest
  pub replies : HasNoReply guest b.rest
  pub seen : HasSeenAll guest b
  pub writes : is_write (next_call b.rest.store.broken b.rest.store.guests) ≡ false

-- A guest rests behind these steps: no chain of it lies without its answer, and it was looked, and
-- none is available, or as many wait for their answers as may; and nothing is left to be done.
pub record RestsAt (guest most : ℕ) (s : Stand) (a : Boards) (v : Stand) (b : Boards) : Type 0 where
  pub jobs : HasNoJob guest b.rest
  pub taken : (FindsNone guest b × Looks guest most s a v b)
      ⊎ (nat_lt (waiting guest b.rest) most ≡ false)
  pub settled : IsSettled guest b

-- why a step was refused
abbrev pub reason_of : StepFault → MachineFault
reason_of (step_fault.Memory e) = fault.OutOfRange
reason_of (step_fault.Device device_fault.NoMemory) = fault.NoMemory
reason_of (step_fault.Device (device_fault.Refused e)) = fault.Stopped
reason_of (step_fault.Device device_fault.NeedsReset) = fault.Stopped
reason_of (step_fault.Book refused.NoMemory) = fault.NoMemory
reason_of (step_fault.Book refused.Busy) = fault.Busy
reason_of (step_fault.Book refused.Foreign) = fault.HistoryFull
reason_of (step_fault.Book refused.HistoryFull) = fault.HistoryFull
reason_of (step_fault.Store e) = fault.DiskFault

-- Among the guest's steps from one board to the other a pop of its device was refused, or the book
-- refused a chain, and the fault is that step's; or memory was refused for what a step is to copy
-- out, or for what was told.
pub data HasReason (guest most : ℕ) (f : MachineFault) (s : Stand) (a : Boards) (v : Stand)
    (d : Boards) : Type 0 where
  PopRefused : (w : Bool) (b c : Boards) (e : StepFault)
      → Runs guest most s a (standing [] true w) b
      → Makes (step.Pop guest) (Err e) b c → f ≡ reason_of e
      → Runs guest most (standing [] false w) c v d
      → HasReason guest most f s a v d
  BookRefused : (t : Stand) (b c : Boards) (e : StepFault) → Runs guest most s a t b
      → Makes (step.Submit guest) (Err e) b c → f ≡ reason_of e → Runs guest most t c v d
      → HasReason guest most f s a v d
  Lacks : f ≡ fault.NoMemory → HasReason guest most f s a v d

-- No more of the guest's chains is taken, behind these steps: none lies without its answer, and it
-- was looked, and none is available, or as many wait for their answers as may. Or for a reason.
abbrev pub HasEnded : (guest most : ℕ) → Stand → Boards → Stand → Boards → Option MachineFault
    → Type 0
HasEnded guest most s a v b None =
    HasNoJob guest b.rest
    × ((FindsNone guest b × Looks guest most s a v b)
    ⊎ (nat_lt (waiting guest b.rest) most ≡ false))
HasEnded guest most s a v b (Some f) = HasReason guest most f s a v b

-- what became of the next chain, and of what is to be copied out
abbrev pub IsTaken : (guest most : ℕ) → Stand → Boards → TurnState → Boards → Taken → Type 0
IsTaken guest most s a turn b (taken.Asks ask) = AsksIn guest ask b × (turn.parts ≡ [])
IsTaken guest most s a turn b taken.Did = Unit {0}
IsTaken guest most s a turn b taken.Nothing =
    HasEnded guest most s a (stand_of turn) b None × (turn.parts ≡ [])
IsTaken guest most s a turn b (taken.Refused f) =
    HasEnded guest most s a (stand_of turn) b (Some f) × (turn.parts ≡ [])

-- something was done, or what a pop wrote that found no chain is to be copied out
abbrev pub TookSome : (guest most : ℕ) → Stand → Boards → TurnState → Boards → Type 0
TookSome guest most s a turn b = DoesSome guest most s a (stand_of turn) b ⊎ (turn.parts ≢ [])

-- What these steps did for the next chain; where it is told that something was done, something was.
pub record TakesOne (guest most : ℕ) (s : Stand) (a : Boards) (turn : TurnState) (b : Boards)
    (t : Taken) : Type 0 where
  pub runs : Runs guest most s a (stand_of turn) b
  pub became : IsTaken guest most s a turn b t
  pub did : t ≡ taken.Did → TookSome guest most s a turn b

-- For a reason no more is taken, and unless that is want of memory nothing else is left to be done.
pub record EndsFor (guest most : ℕ) (f : MachineFault) (s : Stand) (a : Boards) (turn : TurnState)
    (b : Boards) : Type 0 where
  pub reason : HasReason guest most f s a (stand_of turn) b
  pub settled : f ≢ fault.NoMemory → IsSettled guest b × (turn.parts ≡ [])

-- What is needed next, behind these steps: the bytes that its device asks for; that a part is
-- copied out, or the driver notified; or nothing, since the guest rests, or for a reason.
abbrev pub NeedsNext : (guest most : ℕ) → Stand → Boards → TurnState → Boards → Option Next
    → Type 0
NeedsNext guest most s a turn b None = Unit {0}
NeedsNext guest most s a turn b (Some next.Again) = Unit {0}
NeedsNext guest most s a turn b (Some (next.Read ask)) = AsksIn guest ask b
NeedsNext guest most s a turn b (Some (next.Write part)) = Unit {0}
NeedsNext guest most s a turn b (Some next.Call) = Unit {0}
NeedsNext guest most s a turn b (Some (next.Rest None)) =
    RestsAt guest most s a (stand_of turn) b × (turn.parts ≡ [])
NeedsNext guest most s a turn b (Some (next.Rest (Some f))) = EndsFor guest most f s a turn b

-- Where the guest's steps stand behind a move that needs this: the part that is to be copied out
-- isn't in its memory yet, and of a notification that is due nobody was told.
abbrev pub left_by : Option Next → TurnState → Stand
left_by None turn = stand_of turn
left_by (Some next.Again) turn = stand_of turn
left_by (Some (next.Read ask)) turn = stand_of turn
left_by (Some (next.Write part)) turn = standing (part ∷ turn.parts) turn.going turn.looked
left_by (Some next.Call) turn = record (stand_of turn) { owed = true }
left_by (Some (next.Rest f)) turn = stand_of turn

-- What it needs to see whether the driver is to be notified: bytes of its memory, unless the device
-- waits for a reset; the notification, where it is; or nothing.
abbrev pub NotifiesNext : ℕ → Boards → Option Next → Type 0
NotifiesNext guest b None = Unit {0}
NotifiesNext guest b (Some next.Again) = ⊥
NotifiesNext guest b (Some (next.Read ask)) = AsksIn guest ask b × IsGoing guest b
NotifiesNext guest b (Some (next.Write part)) = ⊥
NotifiesNext guest b (Some next.Call) = Unit {0}
NotifiesNext guest b (Some (next.Rest f)) = ⊥

-- a write comes next, and there is no room for one
pub record AwaitsRoom (b : BoardState OutboxState) : Type 0 where
  pub write : is_write (next_call b.store.broken b.store.guests) ≡ true
  pub full : has_room 16648 b.store.disk.outbox ≡ false

-- Why a serve is to be called again: it did 16 things, a write waits for room, or it stopped the
-- guest's device.
abbrev pub IsBusy : (guest most : ℕ) → Stand → Boards → Stand → Boards → Type 0
IsBusy guest most s a t b =
    DoesMany guest most 16 s a t b ⊎ (AwaitsRoom b.rest ⊎ HasStopped guest most s a t b)

-- Where a move needs nothing it did something; where the serve is to be called again it is busy.
abbrev pub GoesOnFor : (guest most : ℕ) → Stand → Boards → TurnState → Boards → Option Next
    → Type 0
GoesOnFor guest most s a turn b None = DoesSome guest most s a (stand_of turn) b
GoesOnFor guest most s a turn b (Some next.Again) = IsBusy guest most s a (stand_of turn) b
GoesOnFor guest most s a turn b (Some (next.Read ask)) = Unit {0}
GoesOnFor guest most s a turn b (Some (next.Write part)) = Unit {0}
GoesOnFor guest most s a turn b (Some next.Call) = Unit {0}
GoesOnFor guest most s a turn b (Some (next.Rest f)) = Unit {0}

-- A move of a serve that began here, and what it needs next.
pub record Went (guest most : ℕ) (s : Stand) (a : Boards) (turn turn' : TurnState)
    (old new : Boards) (n : Option Next) : Type 0 where
  pub runs : Runs guest most (stand_of turn) old (left_by n turn') new
  pub needs : NeedsNext guest most s a turn' new n
  pub busy : GoesOnFor guest most (stand_of turn) old turn' new n
  pub count : length new.devices ≡ length old.devices
  pub asked : turn'.asked ≡ turn.asked

-- What the monitor is asked for, with these bytes in what it lent: as what is needed, of which it
-- is noted that it was asked for; at most 16,384 bytes are read, and those to be written stand
-- first.
abbrev pub NeedsTold : (guest most : ℕ) → Stand → Boards → TurnState → List ℕ → Boards → Next
    → Type 0
NeedsTold guest most s a turn bytes new next.Again = Unit {0}
NeedsTold guest most s a turn bytes new (next.Read ask) =
    AsksIn guest ask new × (ask.len ≤ 16384) × (turn.asked ≡ asked.Read ask)
NeedsTold guest most s a turn bytes new (next.Write part) =
    (turn.asked ≡ asked.Write)
    × IfSome (slice_get new.devices guest) (λ d.
    take part.len bytes ≡ bytes_at d.device.memory part.at part.len)
NeedsTold guest most s a turn bytes new next.Call = Unit {0}
NeedsTold guest most s a turn bytes new (next.Rest None) =
    RestsAt guest most s a (stand_of turn) new × (turn.parts ≡ [])
NeedsTold guest most s a turn bytes new (next.Rest (Some f)) = EndsFor guest most f s a turn new

-- The guest's device was told these bytes, and nothing else changed.
pub record TellsIn (guest at : ℕ) (bytes : List ℕ) (old new : Boards) : Type 0 where
  pub device : AskingState
  pub its : slice_get old.devices guest ≡ Some device
  pub after : new
      ≡ record old { devices = slice_set old.devices guest (after_told device at bytes) }

-- What becomes of bytes that were read: the device is told them; there is no memory for a copy, and
-- nothing changes; or they are fewer than it asked for, or don't lie in its guest's memory, and it
-- waits for a reset.
pub data TakesBytes (guest : ℕ) (ask : Ask) (bytes : List ℕ) (old : Boards) (ok : Bool)
    (new : Boards) : Type 0 where
  Told : ok ≡ true → TellsIn guest ask.at (take ask.len bytes) old new
      → TakesBytes guest ask bytes old ok new
  Full : ok ≡ false → new ≡ old → TakesBytes guest ask bytes old ok new
  Short : ok ≡ true → length bytes < ask.len → RefusesIn guest old new
      → TakesBytes guest ask bytes old ok new
  Outside : ok ≡ true
      → IfSome (slice_get old.devices guest) (λ d.
      ¬ IsInside d.device.memory ask.at (length (take ask.len bytes)))
      → RefusesIn guest old new → TakesBytes guest ask bytes old ok new

-- What the monitor's answer to what was asked last does: whether it was done, and these bytes.
abbrev pub TakesAnswer : ℕ → Asked → Bool → List ℕ → Boards → Bool → Boards → Type 0
TakesAnswer guest asked.Nothing there bytes old ok new = (ok ≡ true) × (new ≡ old)
TakesAnswer guest asked.Write true bytes old ok new = (ok ≡ true) × (new ≡ old)
TakesAnswer guest asked.Write false bytes old ok new = (ok ≡ true) × RefusesIn guest old new
TakesAnswer guest (asked.Read ask) true bytes old ok new = TakesBytes guest ask bytes old ok new
TakesAnswer guest (asked.Read ask) false bytes old ok new =
    (ok ≡ true) × RefusesIn guest old new

-- The answer was taken. Where there was no memory for it, that is told.
pub record HasHeard (guest : ℕ) (a : Asked) (there : Bool) (bytes : List ℕ) (old heard : Boards)
    (told : Type 0) : Type 0 where
  pub ok : Bool
  pub takes : TakesAnswer guest a there bytes old ok heard
  pub full : ok ≡ false → told

-- Where the guest's steps begin, behind the answer: its device was told bytes, or where it was
-- stopped what was left is void.
pub data Begins (guest : ℕ) (s : Stand) (old : Boards) (left : Stand) (heard : Boards)
    : Type 0 where
  GoesOn : heard ≡ old → left ≡ s → Begins guest s old left heard
  Tells : (at : ℕ) (bytes : List ℕ) → TellsIn guest at bytes old heard → left ≡ s
      → Begins guest s old left heard
  Stops : RefusesIn guest old heard → left ≡ standing [] s.going s.looked
      → Begins guest s old left heard

-- The answer was taken first, and the guest's steps came behind it, up to what is needed next.
pub record HearsAnswer (guest most : ℕ) (a : Asked) (there : Bool) (given : List ℕ) (s : Stand)
    (old : Boards) (turn : TurnState) (bytes : List ℕ) (new : Boards) (n : Next) : Type 0 where
  pub heard : Boards
  pub left : Stand
  pub takes : HasHeard guest a there given old heard (n ≡ next.Rest (Some fault.NoMemory))
  pub begins : Begins guest s old left heard
  pub runs : Runs guest most left heard (left_by (Some n) turn) new
  pub needs : NeedsTold guest most left heard turn bytes new n
  pub busy : n ≡ next.Again → IsBusy guest most left heard (stand_of turn) new

-- it was refused, for a reason
pub record IsRefused (guest : ℕ) (t : Taken) (a b : Boards) : Type 0 where
  pub why : MachineFault
  pub is : t ≡ taken.Refused why
  pub reason : (most : ℕ) (s : Stand) → HasReason guest most why s a s b
