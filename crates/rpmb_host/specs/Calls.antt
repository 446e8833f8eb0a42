-- What the calls answer, and what they leave of the machine in a handle (own).
use Rattle.std.specs.Prelude.{◌≡◌, ◌<◌, ◌≤◌, ◌%◌, ◌+◌, ◌*◌, ◌==◌, not, ℕ, true, false, List}
use Rattle.std.specs.Prelude.{Option, Some, None, length, slice_get}
use Rattle.disk.specs.Outbox.{first_of}
use Rattle.disk.specs.declared.outbox_disk.Told.TheVariants.{Failed, Synced, Taken}
use Rattle.board.specs.State.{owes}
use Rattle.machine.specs.Machine.{Completes, Copies, GoesOn, IsServed, MachineState, TellsOf}
use Rattle.machine.specs.Machine.{is_awaited, kick_in, line_by, shown_by, telling_board}
use Rattle.machine.specs.Machine.{waits_for_sync, written_in}
use Rattle.machine.specs.Starting.{begun_in, is_up, offered_of, set_in, started_in}
use Rattle.machine.specs.declared.starting.Areas.{Areas}
use Rattle.machine.specs.Opening.{HasImageFault, HasOpeningFault, IsMonitored, length_of}
use Rattle.machine.specs.declared.fault.MachineFault.{MachineFault}
use Rattle.machine.specs.declared.machine.Served.{Served}
use Rattle.machine.specs.declared.settings.Setup.{Setup}
use Rattle.rpmb_host.specs.Numbers.{fault_number, flag, kick_number, told_number, what_number}
use Rattle.rpmb_host.specs.declared.served.RpmbNext.{RpmbNext}

-- a relation of machines, and a fact of one
abbrev pub Relation : Type 1
Relation = MachineState → MachineState → Type 0

abbrev pub Fact : Type 1
Fact = MachineState → Type 0

-- the image of these guests' board has so many bytes
abbrev pub Spans : List Setup → ℕ → Type 0
Spans setups count = IsMonitored setups × (count ≡ length_of setups)

-- the number is that of a fault, for which so many bytes are refused as an image of these guests
pub record RefusesImage (setups : List Setup) (count number : ℕ) : Type 0 where
  pub fault : MachineFault
  pub numbered : number ≡ fault_number fault
  pub cause : HasImageFault setups count fault

-- the number is that of a fault, for which no machine was opened over these bytes
pub record RefusesOpening (setups : List Setup) (image : List ℕ) (number : ℕ) : Type 0 where
  pub fault : MachineFault
  pub numbered : number ≡ fault_number fault
  pub cause : HasOpeningFault setups image fault

-- one machine is held before the call and one after it, and they are related so
abbrev pub Between : Option MachineState → Option MachineState → Relation → Type 0
Between (Some old) (Some new) relates = relates old new
Between (Some old) None relates = ⊥
Between None new relates = ⊥

-- a machine is held, of which this is so
abbrev pub Holds : Option MachineState → Fact → Type 0
Holds (Some m) tells = tells m
Holds None tells = ⊥

-- a guest's read gives this number
abbrev pub Reads : (guest offset width value : ℕ) → Fact
Reads guest offset width value m =
    value ≡ shown_by (slice_get m.setups guest) (slice_get m.board.devices guest) offset width

-- a guest's write asks for this
abbrev pub Kicks : (guest offset width value kick : ℕ) → Fact
Kicks guest offset width value kick m =
    kick ≡ kick_number (kick_in m guest offset width value)

-- and does this; nothing where there is no such guest
abbrev pub Writes : (guest offset width value : ℕ) → Relation
Writes guest offset width value old new = new ≡ written_in old guest offset width value

-- The features that its device offers, of which the upper half is looked at first, and then the
-- lower one: that one stays selected.
abbrev pub Offers : (guest features : ℕ) → Fact
Offers guest features m =
    features ≡ offered_of (set_in m guest 20 1) guest 0 + 4294967296 * offered_of m guest 1

abbrev pub Selects : (guest : ℕ) → Relation
Selects guest old new = new ≡ set_in (set_in old guest 20 1) guest 20 0

-- whether the device takes these features and this queue, and what is done for it
abbrev pub IsUp : (guest features : ℕ) → Areas → ℕ → Fact
IsUp guest features areas up m = up ≡ flag (is_up (begun_in m guest features areas) guest)

abbrev pub Starts : (guest features : ℕ) → Areas → Relation
Starts guest features areas old new = new ≡ started_in old guest features areas

-- a reset, by 0 in Status
abbrev pub Stops : (guest : ℕ) → Relation
Stops guest old new = new ≡ set_in old guest 112 0

-- whether a chain of the guest was taken and isn't answered yet
abbrev pub Waits : (guest waits : ℕ) → Fact
Waits guest waits m = waits ≡ flag (owes guest m.board.rest)

-- the guest's InterruptStatus; 0 where there is no such guest
abbrev pub Interrupts : (guest status : ℕ) → Fact
Interrupts guest status m = status ≡ line_by (slice_get m.board.devices guest)

-- The guest is served, as a machine tells it, in the numbers of a `struct rpmb_next`: with what
-- became of what was asked last, these bytes, and those that stand there then.
pub record ServesBy (guest done : ℕ) (bytes bytes' : List ℕ) (n : RpmbNext)
    (old new : MachineState) : Type 0 where
  pub served : IsServed guest old new
  pub told : Served
  pub tells : TellsOf guest (not (done == 0)) bytes told bytes' old new
  pub at : n.at ≡ told.at
  pub len : n.len ≡ told.len % 4294967296
  pub fault : n.fault ≡ told_number told.fault
  pub what : n.what ≡ what_number told.what
  pub sync : n.sync ≡ flag told.sync
  pub waiting : n.waiting ≡ flag told.waiting

abbrev pub Serves : (guest done : ℕ) → List ℕ → List ℕ → RpmbNext → Relation
Serves guest done bytes bytes' n old new = ServesBy guest done bytes bytes' n old new

-- the disk's work went further, and it is told whether a sync is awaited then
abbrev pub Goes : ℕ → Relation
Goes awaited old new =
    GoesOn old new × (awaited ≡ flag (waits_for_sync new.board.rest))

-- the oldest write that waits is this one, at this offset and of so many bytes, which stand at the
-- front of what was room for it
abbrev pub Gives : (room at count : ℕ) → List ℕ → Fact
Gives room at count bytes m =
    Copies (first_of m.board.rest.store.disk.outbox.writes) room (Some (at, count)) bytes

-- Nothing is given: no write waits, or the oldest has more bytes than there is room for, and all
-- stays; or that write was an empty one, of which the store makes none, and was taken.
pub data GivesNone (at at' : ℕ) (bytes bytes' : List ℕ) (old new : MachineState) : Type 0 where
  NoneFits : Copies (first_of old.board.rest.store.disk.outbox.writes) (length bytes) None bytes'
      → at' ≡ at → bytes' ≡ bytes → new ≡ old → GivesNone at at' bytes bytes' old new
  EmptyOne : Gives (length bytes) at' 0 bytes' old → GivesNone at at' bytes bytes' old new

-- it was taken out of the outbox
abbrev pub Takes : Relation
Takes old new = new ≡ record old { board = telling_board Taken old.board }

-- the disk's next call fails, it is made, and the book hears of it
abbrev pub Fails : Relation
Fails old new = Completes Failed old new

-- where a sync was awaited and every write taken, it has succeeded, and the book hears of it
abbrev pub Syncs : ℕ → Relation
Syncs result old new = is_awaited old.board.rest ≡ true → (result ≡ 0) × Completes Synced old new

-- else a success is refused by this number
abbrev pub Refuses : ℕ → Relation
Refuses result old new = is_awaited old.board.rest ≡ false → (result ≡ 12) × (new ≡ old)
