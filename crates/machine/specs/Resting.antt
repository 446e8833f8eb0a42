-- A guest's device that is saved at rest, and goes on; and the place at which its queue stands.
use Rattle.std.specs.Prelude.{◌≡◌, ℕ, ◌==◌, ◌&&◌, ◌%◌, Bool, true, false, List, length, Option}
use Rattle.std.specs.Prelude.{Some}
use Rattle.std.specs.Prelude.{None, slice_get}
use Rattle.mmio_transport.specs.Asking.{AskingState}
use Rattle.mmio_transport.specs.Resting.{IsSaved, MayGoOn, at_place, going_on, is_at_rest}
use Rattle.mmio_transport.specs.Resting.{place_of}
use Rattle.mmio_transport.specs.declared.registers.Registers.{Registers}
use Rattle.mmio_transport.specs.declared.saving.RestingDevice.{RestingDevice}
use Rattle.mmio_transport.specs.declared.saving.RestingQueue.{RestingQueue}
use Rattle.machine.specs.Machine.{MachineState, has_guest, with_device}
use Rattle.machine.specs.State.{device_in, is_of, is_state}
use Rattle.machine.specs.Turn.{TurnState, fresh_turn}
use Rattle.machine.specs.declared.fault.MachineFault.{MachineFault}
use Rattle.machine.specs.declared.fault.MachineFault.TheVariants as fault
use Rattle.machine.specs.declared.settings.Setup.{Setup}
use Rattle.machine.specs.declared.turn.Asked.{Asked}
use Rattle.machine.specs.declared.turn.Asked.TheVariants as asked

-- the monitor wasn't asked to write, or has answered that
abbrev pub is_over : Asked → Bool
is_over asked.Nothing = true
is_over (asked.Read ask) = true
is_over asked.Write = false

-- all that the device wrote is in guest memory
abbrev pub is_written : TurnState → Bool
is_written turn = is_over turn.asked && length turn.parts == 0

-- The guest is at rest: no chain of it is outstanding, its driver was told of all that was used,
-- and all of that is in its memory.
abbrev pub rests : TurnState → AskingState → Bool
rests turn a = is_written turn && is_at_rest a.device.queue a.told

-- a guest of a machine: how it is set up, where its serve stands, and its device
pub record HasGuest (m : MachineState) (guest : ℕ) (s : Setup) (turn : TurnState)
    (a : AskingState) : Type 0 where
  pub set_up : slice_get m.setups guest ≡ Some s
  pub serve_at : slice_get m.turns guest ≡ Some turn
  pub its_device : slice_get m.board.devices guest ≡ Some a

-- the guest is at rest, and this is to be saved of its device
pub record RestsAs (m : MachineState) (guest : ℕ) (it : RestingDevice) : Type 0 where
  pub setup : Setup
  pub turn : TurnState
  pub device : AskingState
  pub its : HasGuest m guest setup turn device
  pub rests_then : rests turn device ≡ true
  pub saved : IsSaved device it
  pub may : MayGoOn (length device.device.memory) it.queue

-- there is no such guest, or it isn't at rest
pub data IsUnrested (m : MachineState) (guest : ℕ) : Type 0 where
  NoOne : has_guest m guest ≡ false → IsUnrested m guest
  Unrested : (s : Setup) (turn : TurnState) (a : AskingState) → HasGuest m guest s turn a
      → rests turn a ≡ false → IsUnrested m guest

-- whether the words are of this guest, as it is set up
abbrev pub is_its_by : Option Setup → (guests guest : ℕ) → List ℕ → Bool
is_its_by None guests guest words = false
is_its_by (Some s) guests guest words = is_of guests guest s words

abbrev pub is_its : MachineState → ℕ → List ℕ → Bool
is_its m guest words =
    is_its_by (slice_get m.setups guest) (length m.setups % 65536) guest words

-- The guest's device goes on as this one; nothing else has changed, and no serve of it is under
-- way.
abbrev pub goes_on : MachineState → ℕ → AskingState → RestingDevice → MachineState
goes_on m guest a it = with_device m guest (going_on a it) fresh_turn

-- the guest's device goes on as this one, and nothing else has changed
pub record GoesOnAs (guest : ℕ) (it : RestingDevice) (old new : MachineState) : Type 0 where
  pub device : AskingState
  pub its : slice_get old.board.devices guest ≡ Some device
  pub after : new ≡ goes_on old guest device it

-- there is no such guest, or no queue can stand there
pub data CantGoOn (guest : ℕ) (it : RestingDevice) (m : MachineState) : Type 0 where
  Absent : has_guest m guest ≡ false → CantGoOn guest it m
  Outside : (a : AskingState) → slice_get m.board.devices guest ≡ Some a
      → ¬ MayGoOn (length a.device.memory) it.queue → CantGoOn guest it m

-- These words are the state of that guest, which is at rest: its registers, and its queue with its
-- place, as they are.
pub record IsSavedIn (m : MachineState) (guest : ℕ) (words : List ℕ) : Type 0 where
  pub rests_as : RestsAs m guest (device_in words)
  pub whole : is_state words ≡ true
  pub of_guest : is_its m guest words ≡ true

-- why nothing is saved, where there is room for so many words: the first of these that is so
pub data HasSavingFault (m : MachineState) (guest room : ℕ) (f : MachineFault) : Type 0 where
  NoSuchGuest : f ≡ fault.NoGuest → has_guest m guest ≡ false → HasSavingFault m guest room f
  OtherRoom : f ≡ fault.OutOfRange → has_guest m guest ≡ true → (room == 50) ≡ false
      → HasSavingFault m guest room f
  NotYet : f ≡ fault.NotAtRest → has_guest m guest ≡ true → (room == 50) ≡ true
      → IsUnrested m guest → HasSavingFault m guest room f

-- The guest's device goes on as the one that was saved in these words, which are its.
pub record LoadsOf (guest : ℕ) (words : List ℕ) (old new : MachineState) : Type 0 where
  pub whole : is_state words ≡ true
  pub of_guest : is_its old guest words ≡ true
  pub goes : GoesOnAs guest (device_in words) old new

-- Why none does, the first of these that is so: there is no such guest; the words are no whole
-- state of this version, or another guest's; or no queue can stand where they say.
pub data HasLoadingFault (m : MachineState) (guest : ℕ) (words : List ℕ) (f : MachineFault)
    : Type 0 where
  LacksGuest : f ≡ fault.NoGuest → has_guest m guest ≡ false → HasLoadingFault m guest words f
  NotWhole : f ≡ fault.BadState → has_guest m guest ≡ true → is_state words ≡ false
      → HasLoadingFault m guest words f
  OfAnother : f ≡ fault.OtherConfig → has_guest m guest ≡ true → is_state words ≡ true
      → is_its m guest words ≡ false → HasLoadingFault m guest words f
  NoQueue : f ≡ fault.BadState → has_guest m guest ≡ true → is_state words ≡ true
      → is_its m guest words ≡ true → CantGoOn guest (device_in words) m
      → HasLoadingFault m guest words f

-- the guest is at rest, and its queue is ready and stands there
pub record RestsAtPlace (m : MachineState) (guest place : ℕ) : Type 0 where
  pub it : RestingDevice
  pub rests_as : RestsAs m guest it
  pub queue : RestingQueue
  pub ready : it.queue ≡ Some queue
  pub place_is : place ≡ place_of queue

-- it isn't at rest, or its queue isn't ready
pub data HasNoPlace (m : MachineState) (guest : ℕ) : Type 0 where
  NotResting : IsUnrested m guest → HasNoPlace m guest
  NotReady : (it : RestingDevice) → RestsAs m guest it → it.queue ≡ None → HasNoPlace m guest

-- bit 0 of InterruptStatus is raised (VIRTIO 1.2, 4.2.2)
abbrev pub notified : Registers → Registers
notified r = record r { interrupts = record r.interrupts { used_buffer = true } }

-- The guest's queue, which was at rest, goes on at another place, and its driver is to look at what
-- was used before: another device may have used it, and ended before it notified.
pub record MovesTo (guest place : ℕ) (old new : MachineState) : Type 0 where
  pub it : RestingDevice
  pub rests_as : RestsAs old guest it
  pub queue : RestingQueue
  pub ready : it.queue ≡ Some queue
  pub moved : RestingQueue
  pub place_is : at_place queue.kind queue place ≡ Some moved
  pub goes : GoesOnAs guest (record { registers = notified it.registers; queue = Some moved }) old
      new

-- Why it doesn't: it has no place now, or not this one.
pub data StaysThere (m : MachineState) (guest place : ℕ) : Type 0 where
  Nowhere : HasNoPlace m guest → StaysThere m guest place
  NoPlace : (it : RestingDevice) (q : RestingQueue) → RestsAs m guest it → it.queue ≡ Some q
      → at_place q.kind q place ≡ None → StaysThere m guest place
  CantStand : (it : RestingDevice) (q moved : RestingQueue) → RestsAs m guest it
      → it.queue ≡ Some q → at_place q.kind q place ≡ Some moved
      → CantGoOn guest (record { registers = notified it.registers; queue = Some moved }) m
      → StaysThere m guest place
