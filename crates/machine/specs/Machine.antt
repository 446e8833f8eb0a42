-- What contracts see of a machine.
use Rattle.std.specs.Prelude.{◌≡◌, ◌≢◌, ◌≤◌, ◌<◌, ◌∷◌, ℕ, Bool, true, false, ◌&&◌, if◌then◌else◌}
use Rattle.std.specs.Prelude.{nat_le, ◌⊎◌}
use Rattle.std.specs.Prelude.{List, length, take, Option, Some, None, is_some, slice_get, slice_set}
use Rattle.std.specs.Prelude.{IfSome, []}
use Rattle.guest_memory.specs.Memory.{bytes_at}
use Rattle.disk.specs.Content.{Content}
use Rattle.disk.specs.Disk.{MayLeave}
use Rattle.disk.specs.Outbox.{WriteAt, is_none}
use Rattle.disk.specs.declared.outbox_disk.Told.{Told}
use Rattle.disk.specs.OutboxDisk.{OutboxMakes, OutboxState, outbox_state}
use Rattle.intent_slots.specs.Recovered.{Part, Stands}
use Rattle.flusher.specs.declared.guest.Guest.{Guest}
use Rattle.flusher.specs.Pair.{mark_of, region_of}
use Rattle.flusher.specs.SlotInvariant.{sequence_of_part}
use Rattle.flusher.specs.Store.{next_call}
use Rattle.flusher.specs.declared.progress.Call.{Call}
use Rattle.flusher.specs.declared.progress.Call.TheVariants as call
use Rattle.mmio_transport.specs.Asking.{AskingState}
use Rattle.mmio_transport.specs.Device.{is_ready, kick_of}
use Rattle.mmio_transport.specs.Registers.{interrupt_number}
use Rattle.mmio_transport.specs.declared.registers.Kick.{Kick}
use Rattle.mmio_transport.specs.declared.registers.Kick.TheVariants as kick
use Rattle.board.specs.Asking.{board_of}
use Rattle.board.specs.State.{BoardState, owes}
use Rattle.board.specs.Telling.{telling}
use Rattle.board.specs.Moving.{Moves}
use Rattle.machine.specs.Ending.{Begins, EndsFor, HasHeard, IsBusy, IsHandedOn, RestsAt}
use Rattle.machine.specs.Serving.{AsksIn, Boards, DoesSome, FailsNone, HasParts, Hears, KeepsLimit}
use Rattle.machine.specs.Serving.{OthersStay, Runs, standing}
use Rattle.machine.specs.Settings.{device_after, most_of, value_shown, value_taken}
use Rattle.machine.specs.Turn.{Stand, TurnState, fresh_turn, stand_of}
use Rattle.machine.specs.declared.fault.MachineFault.{MachineFault}
use Rattle.machine.specs.declared.fault.MachineFault.TheVariants as fault
use Rattle.machine.specs.declared.machine.Served.{Served}
use Rattle.machine.specs.declared.machine.What.{What}
use Rattle.machine.specs.declared.machine.What.TheVariants as what
use Rattle.machine.specs.declared.serving.Next.{Next}
use Rattle.machine.specs.declared.serving.Next.TheVariants as next
use Rattle.machine.specs.declared.settings.Setup.{Setup}
use Rattle.machine.specs.declared.turn.Asked.TheVariants as asked

pub record MachineState : Type 0 where
  pub board : Boards
  -- how each guest's device is set up
  pub setups : List Setup
  -- where the serve of each guest stands
  pub turns : List TurnState

-- of all that is to be copied out for a guest its device has copies
pub record HasCopies (turns : List TurnState) (b : Boards) : Type 0 where
  pub each : (k : ℕ) → IfSome (slice_get turns k) (λ turn. HasParts k turn.parts b)

-- what a guest reads; 0 where there is no such guest
abbrev pub shown_by : Option Setup → Option AskingState → (offset width : ℕ) → ℕ
shown_by (Some w) (Some d) offset width = value_shown w d.device offset width
shown_by (Some w) None offset width = 0
shown_by None d offset width = 0

abbrev pub shown_in : MachineState → ℕ → (offset width : ℕ) → ℕ
shown_in m guest offset width =
    shown_by (slice_get m.setups guest) (slice_get m.board.devices guest) offset width

-- whether there is such a guest
abbrev pub has_guest : MachineState → ℕ → Bool
has_guest m guest =
    is_some (slice_get m.setups guest) && is_some (slice_get m.turns guest)
    && is_some (slice_get m.board.devices guest)

-- what a guest's write asks of the monitor; nothing where there is no such guest
abbrev pub kick_by : Option Setup → Option AskingState → Option TurnState
    → (offset width value : ℕ) → Kick
kick_by (Some w) (Some d) (Some turn) offset width value =
    kick_of offset width (value_taken w d.device offset width value)
kick_by (Some w) (Some d) None offset width value = kick.None
kick_by (Some w) None turn offset width value = kick.None
kick_by None d turn offset width value = kick.None

abbrev pub kick_in : MachineState → ℕ → (offset width value : ℕ) → Kick
kick_in m guest offset width value =
    kick_by (slice_get m.setups guest) (slice_get m.board.devices guest) (slice_get m.turns guest)
    offset width value

-- the guest's InterruptStatus; 0 where there is no such guest
abbrev pub line_by : Option AskingState → ℕ
line_by (Some d) = interrupt_number d.device.registers.interrupts
line_by None = 0

-- A stop at this moment leaves, of the monitor's file, a partition of each guest, and none below
-- its mark: the sequence up to which it was told that a sync kept all.
abbrev pub LeavesEach : BoardState OutboxState → Type 0
LeavesEach b = (c : Content) → MayLeave (outbox_state b.store.disk) c → (g : ℕ) (x : Guest)
    → slice_get b.store.guests g ≡ Some x
    → (p : Part) × Stands (region_of x) c p × (mark_of x ≤ sequence_of_part p)

-- the writes that nobody took yet
abbrev pub writes_in : MachineState → List WriteAt
writes_in m = m.board.rest.store.disk.outbox.writes

-- the board with the disk told of its writes or its sync
abbrev pub telling_board : Told → Boards → Boards
telling_board told b = record b { rest = telling told b.rest }

-- where the serve of a guest stands; as before the first one of a guest that there isn't
abbrev pub turn_in : Option TurnState → TurnState
turn_in None = fresh_turn
turn_in (Some turn) = turn

abbrev pub turn_of : MachineState → ℕ → TurnState
turn_of m guest = turn_in (slice_get m.turns guest)

-- A guest was served: at each moment a stop leaves, of every guest, the partition after a prefix of
-- its accepted requests, with all that was settled before. No call of the disk fails by itself, and
-- of every other guest all stays.
pub record IsServed (guest : ℕ) (old new : MachineState) : Type 0 where
  pub moves : Moves outbox_state OutboxMakes (board_of old.board) (board_of new.board)
  pub whole : FailsNone old.board.rest new.board.rest
  pub others : OthersStay guest (board_of old.board) (board_of new.board)
  pub turns : (k : ℕ) → k ≢ guest → slice_get new.turns k ≡ slice_get old.turns k
  pub setups : new.setups ≡ old.setups

-- what a serve needs next, where it is bytes of the guest's memory: those that its device asks for,
-- at most so many
pub record ReadsOf (guest at len : ℕ) (new : MachineState) : Type 0 where
  pub asks : AsksIn guest (record { at = at; len = len }) new.board
  pub few : len ≤ 16384
  pub noted : (turn_of new guest).asked ≡ asked.Read (record { at = at; len = len })

abbrev pub is_sync : Call → Bool
is_sync call.Write = false
is_sync call.Sync = true
is_sync call.None = false

-- the next call of the disk is a sync
abbrev pub waits_for_sync : BoardState OutboxState → Bool
waits_for_sync b = is_sync (next_call b.store.broken b.store.guests)

-- and every write before it was taken
unfoldable pub is_awaited : BoardState OutboxState → Bool
is_awaited b = waits_for_sync b && is_none b.store.disk.outbox.writes

-- the bytes at the front of these, which stand in the guest's memory by what its device wrote
pub record WritesOf (guest at len : ℕ) (bytes : List ℕ) (new : MachineState) : Type 0 where
  pub bytes_are : IfSome (slice_get new.board.devices guest) (λ d.
      take len bytes ≡ bytes_at d.device.memory at len)
  pub noted : (turn_of new guest).asked ≡ asked.Write

-- how many chains of a guest that is set up so may wait for their answers; none of one that there
-- isn't
abbrev pub most_in : Option Setup → ℕ
most_in None = 0
most_in (Some s) = most_of s

-- the guest rests, by how many of its chains may wait, and nothing of it is to be copied out
abbrev pub RestsIn : ℕ → Option Setup → Stand → Boards → MachineState → Type 0
RestsIn guest None left heard m = ⊥
RestsIn guest (Some s) left heard m =
    RestsAt guest (most_of s) left heard (stand_of (turn_of m guest)) m.board
    × ((turn_of m guest).parts ≡ [])

-- Why a serve tells a fault: there is no such guest, or too little room, or a reason in its steps;
-- unless that is want of memory nothing else is left to be done.
pub data HasFault (guest most room : ℕ) (f : MachineFault) (left : Stand) (heard : Boards)
    (old new : MachineState) : Type 0 where
  NoSuchGuest : f ≡ fault.NoGuest → has_guest old guest ≡ false → new ≡ old
      → HasFault guest most room f left heard old new
  NoRoom : f ≡ fault.OutOfRange → room < 16384 → new ≡ old
      → HasFault guest most room f left heard old new
  OfSteps : EndsFor guest most f left heard (turn_of new guest) new.board
      → HasFault guest most room f left heard old new

-- what it needs next, behind its steps from this board on
abbrev pub NeedsOf : (guest most room : ℕ) → What → Served → List ℕ → Stand → Boards → MachineState
    → MachineState → Type 0
NeedsOf guest most room what.Rest s bytes left heard old new =
    (s.fault ≡ None → RestsIn guest (slice_get old.setups guest) left heard new)
    × ((f : MachineFault) → s.fault ≡ Some f → HasFault guest most room f left heard old new)
NeedsOf guest most room what.Read s bytes left heard old new = ReadsOf guest s.at s.len new
NeedsOf guest most room what.Write s bytes left heard old new = WritesOf guest s.at s.len bytes new
NeedsOf guest most room what.Call s bytes left heard old new = Unit {0}
NeedsOf guest most room what.Again s bytes left heard old new =
    IsBusy guest most left heard (stand_of (turn_of new guest)) new.board

-- Where the guest's steps stand behind a serve that tells this: a part that is to be written isn't
-- in its memory yet, and comes before all that is left; and its driver is notified where that is
-- told, and not else.
abbrev pub left_of : What → (at len : ℕ) → TurnState → Stand
left_of what.Rest at len turn = stand_of turn
left_of what.Read at len turn = stand_of turn
left_of what.Write at len turn =
    standing (record { at = at; len = len } ∷ turn.parts) turn.going turn.looked
left_of what.Call at len turn = record (stand_of turn) { owed = true }
left_of what.Again at len turn = stand_of turn

-- whether the serve is over
abbrev pub is_over : What → Bool
is_over what.Rest = true
is_over what.Read = false
is_over what.Write = false
is_over what.Call = false
is_over what.Again = false

-- It is refused for this, at once, and nothing changes.
pub record IsRefusedFor (f : MachineFault) (given : List ℕ) (s : Served) (bytes : List ℕ)
    (old new : MachineState) : Type 0 where
  pub what : s.what ≡ what.Rest
  pub fault : s.fault ≡ Some f
  pub bytes_are : bytes ≡ given
  pub same : new ≡ old

-- What a serve tells, behind steps of its guest alone; of a sync where it is over. First the
-- monitor's answer to what was asked for last is taken: what was read is what the device believes.
pub record TellsOf (guest : ℕ) (there : Bool) (given : List ℕ) (s : Served) (bytes : List ℕ)
    (old new : MachineState) : Type 0 where
  pub heard : Boards
  pub left : Stand
  pub takes : has_guest old guest ≡ true → 16384 ≤ length given
      → HasHeard guest (turn_of old guest).asked there given old.board heard
      (s.fault ≡ Some fault.NoMemory)
  pub begins : Begins guest (stand_of (turn_of old guest)) old.board left heard
  pub runs : Runs guest (most_in (slice_get old.setups guest)) left heard
      (left_of s.what s.at s.len (turn_of new guest)) new.board
  pub needs : NeedsOf guest (most_in (slice_get old.setups guest)) (length given) s.what s bytes
      left heard old new
  -- no more of its chains wait for their answers than before, or than may
  pub limit : KeepsLimit guest (most_in (slice_get old.setups guest)) old.board.rest new.board.rest
  pub sync : s.sync ≡ (is_over s.what && waits_for_sync new.board.rest)
  pub waiting : s.waiting ≡ owes guest new.board.rest
  -- a fault is told only where the serve is over
  pub quiet : is_over s.what ≡ false → s.fault ≡ None
  pub absent : has_guest old guest ≡ false → IsRefusedFor fault.NoGuest given s bytes old new
  -- there is less room than the largest part has
  pub short : has_guest old guest ≡ true → length given < 16384
      → IsRefusedFor fault.OutOfRange given s bytes old new

-- how it is told
abbrev pub IsTold : Next → Served → Type 0
IsTold next.Again s = (s.what ≡ what.Again) × (s.fault ≡ None)
IsTold (next.Read ask) s =
    (s.what ≡ what.Read) × (s.fault ≡ None) × (s.at ≡ ask.at) × (s.len ≡ ask.len)
IsTold (next.Write part) s =
    (s.what ≡ what.Write) × (s.fault ≡ None) × (s.at ≡ part.at) × (s.len ≡ part.len)
IsTold next.Call s = (s.what ≡ what.Call) × (s.fault ≡ None)
IsTold (next.Rest f) s = (s.what ≡ what.Rest) × (s.fault ≡ f)

-- On the way from one board to the other something was done among the steps of a guest.
pub record Works (old new : Boards) : Type 0 where
  pub guest : ℕ
  pub most : ℕ
  pub stand : Stand
  pub begins : Boards
  pub ends : Boards
  pub before : Moves outbox_state OutboxMakes (board_of old) (board_of begins)
  pub does : DoesSome guest most stand begins stand ends
  pub behind : Moves outbox_state OutboxMakes (board_of ends) (board_of new)

-- The disk's work went further, by steps of its own and of each guest's: something was done, or all
-- that was accepted of each guest is handed on.
pub record GoesOn (old new : MachineState) : Type 0 where
  pub works : Works old.board new.board
      ⊎ ((k : ℕ) → k < length old.setups → k < 65536 → IsHandedOn k new.board.rest)
  pub moves : Moves outbox_state OutboxMakes (board_of old.board) (board_of new.board)
  pub whole : FailsNone old.board.rest new.board.rest
  pub devices : new.board.devices ≡ old.board.devices
  pub jobs : new.board.rest.jobs ≡ old.board.rest.jobs
  pub turns : new.turns ≡ old.turns
  pub setups : new.setups ≡ old.setups

-- The disk was told of its writes and its sync, and just one call of it was made then: the book
-- heard of the one before it and of this one. At each moment a stop leaves what a serve may leave.
pub record Completes (told : Told) (old new : MachineState) : Type 0 where
  pub hears : Hears (telling_board told old.board) new.board
  pub moves : Moves outbox_state OutboxMakes (board_of (telling_board told old.board))
      (board_of new.board)
  pub devices : new.board.devices ≡ old.board.devices
  pub turns : new.turns ≡ old.turns
  pub setups : new.setups ≡ old.setups

-- the turn of a guest after a write: fresh where its queue isn't ready
abbrev pub turn_after : AskingState → TurnState → TurnState
turn_after d turn = if is_ready d.device.queue then turn else fresh_turn

-- the machine with another device of a guest, and what that leaves of its serve
abbrev pub with_device : MachineState → ℕ → AskingState → TurnState → MachineState
with_device m guest d turn = record m {
  board = record m.board { devices = slice_set m.board.devices guest d };
  turns = slice_set m.turns guest (turn_after d turn);
}

-- the machine after a guest's write; as it was where there is no such guest
abbrev pub written_by : Option Setup → Option AskingState → Option TurnState → MachineState → ℕ
    → (offset width value : ℕ) → MachineState
written_by (Some w) (Some d) (Some turn) m guest offset width value =
    with_device m guest (device_after w d offset width value) turn
written_by (Some w) (Some d) None m guest offset width value = m
written_by (Some w) None turn m guest offset width value = m
written_by None d turn m guest offset width value = m

abbrev pub written_in : MachineState → ℕ → (offset width value : ℕ) → MachineState
written_in m guest offset width value =
    written_by (slice_get m.setups guest) (slice_get m.board.devices guest)
    (slice_get m.turns guest) m guest offset width value

-- What taking the oldest write gives, where there is so much room: its offset and how many bytes
-- it has, and they stand at the front; nothing where no write waits, or it has more bytes.
abbrev pub CopiesWhere : Bool → WriteAt → Option (ℕ × ℕ) → List ℕ → Type 0
CopiesWhere true w result out = (result ≡ Some (w.0, length w.1)) × (take (length w.1) out ≡ w.1)
CopiesWhere false w result out = result ≡ None

abbrev pub Copies : Option WriteAt → ℕ → Option (ℕ × ℕ) → List ℕ → Type 0
Copies None room result out = result ≡ None
Copies (Some w) room result out = CopiesWhere (nat_le (length w.1) room) w result out
