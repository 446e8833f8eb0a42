-- A device whose memory its host doesn't hold: what it knows of it, what it asks for, and what it
-- does by the words of a device. Section numbers are those of VIRTIO 1.2.
use Rattle.std.specs.Prelude.{◌≡◌, ◌⊎◌, ℕ, Bool, true, false, if◌then◌else◌, nat_le, List, [], ◌∷◌}
use Rattle.std.specs.Prelude.{length, Option, None, Some}
use Rattle.std.specs.Prelude.{Result, Ok, Err, IfSome}
use Rattle.guest_memory.specs.declared.ask.Ask.{Ask}
use Rattle.guest_memory.specs.Memory.{Known, Span, IsAsk, told, with_bytes}
use Rattle.rpmb_frame.specs.declared.config.GuestConfig.{GuestConfig}
use Rattle.chains.specs.Needs.{IsOfRanges}
use Rattle.chains.specs.Range.{AreHeld}
use Rattle.mmio_transport.specs.declared.fault.PopFault.{PopFault}
use Rattle.mmio_transport.specs.declared.fault.PopFault.TheVariants.{Missing, Refused}
use Rattle.mmio_transport.specs.declared.fault.DeviceFault.{DeviceFault}
use Rattle.mmio_transport.specs.declared.fault.DeviceFault.TheVariants as device_fault
use Rattle.mmio_transport.specs.declared.done.Published.{Published}
use Rattle.mmio_transport.specs.declared.done.Published.TheVariants.{Wrote, Dropped}
use Rattle.mmio_transport.specs.Queue.{QueueState, Needs, OfArea, event_held, seen, used_held}
use Rattle.mmio_transport.specs.Queue.{Tells}
use Rattle.mmio_transport.specs.Queue.{TellsFrom}
use Rattle.mmio_transport.specs.Job.{Job, Done}
use Rattle.mmio_transport.specs.Device.{DeviceState, after_write, first_state, is_ready}
use Rattle.mmio_transport.specs.Popping.{GivesJob, live_queue}
use Rattle.mmio_transport.specs.Publishing.{IsDue, IsDueIn, after_reply, with_notification}

-- A device, and what it knows of its guest's memory.
pub record AskingState : Type 0 where
  -- its memory are the bytes as it was told them, or wrote them, last
  pub device : DeviceState
  -- whether it asks for those of which it has no copy
  pub asks : Bool
  -- the parts of which it has one
  pub held : List Span
  -- how many places of its queue were used when it last saw whether its driver is to be notified
  pub told : ℕ

-- the memory of the guest as the device knows it
abbrev pub known : AskingState → Known
known a = record { bytes = a.device.memory; asks = a.asks; held = a.held }

-- before a driver finds it, with a memory that is known so
abbrev pub first_over : ℕ → GuestConfig → Known → AskingState
first_over guest config memory = record {
  device = record (first_state guest config) { memory = memory.bytes };
  asks = memory.asks;
  held = memory.held;
  told = 0;
}

-- before a driver finds it: no byte was told
abbrev pub first_asking : ℕ → GuestConfig → AskingState
first_asking guest config =
    record { device = first_state guest config; asks = true; held = []; told = 0 }

-- a device that has all of its memory
abbrev pub whole_device : DeviceState → AskingState
whole_device d = record {
  device = d;
  asks = false;
  held = record { at = 0; len = length d.memory } ∷ [];
  told = 0;
}

-- The device after its driver wrote a register. A queue that is taken away was used nowhere.
abbrev pub after_asked_write : AskingState → (offset width value : ℕ) → AskingState
after_asked_write a offset width value =
    let d = after_write a.device offset width value in
    record a { device = d; told = if is_ready d.queue then a.told else 0 }

-- the device after bytes of the guest's memory were told
abbrev pub after_told : AskingState → ℕ → List ℕ → AskingState
after_told a at bytes = record a {
  device = record a.device { memory = with_bytes a.device.memory at bytes };
  held = (told (known a) at bytes).held;
}

-- it does what a device does, and has copies of the same parts
pub record DoesAsDevice (does : DeviceState → DeviceState → Type 0)
    (a a' : AskingState) : Type 0 where
  pub step : does a.device a'.device
  pub same : a' ≡ record a { device = a'.device }

-- what is asked for is needed by the next pop of a queue
abbrev pub PopNeeds : Option QueueState → List ℕ → Ask → Type 0
PopNeeds None memory ask = ⊥
PopNeeds (Some queue) memory ask = Needs queue.kind memory queue.ring ask

-- by the publication of a reply: it is a part of the reply's ranges, or of the queue's areas
abbrev pub ReplyNeeds : Option QueueState → Done → Ask → Type 0
ReplyNeeds None done ask = ⊥
ReplyNeeds (Some queue) done ask = IsOfRanges done.writable ask ⊎ OfArea queue.kind queue.ring ask

-- bytes are asked for of which there is no copy, and which are needed; and nothing changed
pub record Asks (needs : Ask → Type 0) (ask : Ask) (a a' : AskingState) : Type 0 where
  pub missing : IsAsk (known a) ask
  pub needed : needs ask
  pub same : a' ≡ a

-- What a pop comes to: that of a device whose memory are any bytes of which these are copies; or
-- it asks.
abbrev pub GivesOrAsks : AskingState → Result (Option Job) PopFault → AskingState → Type 0
GivesOrAsks a (Ok popped) a' = DoesAsDevice (λ d d'. GivesJob d (Ok popped) d') a a'
GivesOrAsks a (Err (Refused fault)) a' = DoesAsDevice (λ d d'. GivesJob d (Err fault) d') a a'
GivesOrAsks a (Err (Missing ask)) a' = Asks (PopNeeds a.device.queue a.device.memory) ask a a'

-- There is a copy of what says whether a chain is available, where a pop looks for one.
abbrev pub SeesNext : AskingState → Type 0
SeesNext a = IfSome (live_queue a.device) (λ queue. seen queue.kind (known a) queue.ring)

-- there is a copy of what it writes then
abbrev pub HoldsEvent : AskingState → Type 0
HoldsEvent a = IfSome (live_queue a.device) (λ queue. event_held queue.kind (known a) queue.ring)

-- a fault of the driver's stands on what says whether a chain is available
abbrev pub SeesFault : AskingState → DeviceFault → Type 0
SeesFault a (device_fault.Refused fault) = SeesNext a
SeesFault a device_fault.NoMemory = Unit {0}
SeesFault a device_fault.NeedsReset = Unit {0}

-- and so does what a pop gives, and that there is nothing; both write only where there is a copy
abbrev pub SeesFor : {X : Type 0} → AskingState → Result X PopFault → Type 0
SeesFor a (Ok popped) = SeesNext a × HoldsEvent a
SeesFor a (Err (Refused fault)) = SeesFault a fault
SeesFor a (Err (Missing ask)) = Unit {0}

-- there are copies of the parts that the reply and the used fields are written into
pub record HasRoom (a : AskingState) (queue : QueueState) (done : Done) : Type 0 where
  pub reply : AreHeld (known a) done.writable (length done.reply)
  pub used : used_held queue.kind (known a) queue.ring

abbrev pub HasRoomIn : Option QueueState → AskingState → Done → Type 0
HasRoomIn None a done = Unit {0}
HasRoomIn (Some queue) a done = HasRoom a queue done

-- What a reply writes. Whether the driver of a device that asks is to be notified is seen later,
-- once all of this was copied out: the driver may have said so in the meantime (2.7.7.2).
pub record WritesAsked (a : AskingState) (queue : QueueState) (done : Done) (notify : Bool)
    (a' : AskingState) : Type 0 where
  pub due : IsDue a.device queue done
  pub exact : a.asks ≡ false → Tells queue.kind a'.device.memory queue.ring done.places notify
  pub later : a.asks ≡ true → notify ≡ false
  pub after : a'.device ≡ after_reply a.device queue done notify
  pub same : a' ≡ record a { device = a'.device }

abbrev pub WritesAskedIn : Option QueueState → AskingState → Done → Bool → AskingState → Type 0
WritesAskedIn None a done notify a' = ⊥
WritesAskedIn (Some queue) a done notify a' = WritesAsked a queue done notify a'

-- what a publish does
abbrev pub PublishesAsked : AskingState → Done → Published → AskingState → Type 0
PublishesAsked a done (Wrote notify) a' = WritesAskedIn a.device.queue a done notify a'
PublishesAsked a done Dropped a' = ¬ IsDueIn a.device.queue a.device done × (a' ≡ a)

-- It was seen whether the driver is to be notified of what was used since that was seen last.
pub record Decides (a : AskingState) (queue : QueueState) (notify : Bool)
    (a' : AskingState) : Type 0 where
  pub tells : TellsFrom queue.kind a.device.memory queue.ring a.told queue.ring.used notify
  pub after : a'
      ≡ record a {
        device = record a.device { registers = with_notification a.device.registers notify };
        told = queue.ring.used;
      }

-- nothing was used since, or the driver's wish is read, or asked for
abbrev pub NotifiesWhere : Bool → QueueState → AskingState → Result Bool Ask → AskingState → Type 0
NotifiesWhere true queue a answer a' = (answer ≡ Ok false) × (a' ≡ a)
NotifiesWhere false queue a (Ok notify) a' = Decides a queue notify a'
NotifiesWhere false queue a (Err ask) a' = Asks (OfArea queue.kind queue.ring) ask a a'

abbrev pub NotifiesOf : Option QueueState → AskingState → Result Bool Ask → AskingState → Type 0
NotifiesOf None a answer a' = (answer ≡ Ok false) × (a' ≡ a)
NotifiesOf (Some queue) a answer a' =
    NotifiesWhere (nat_le queue.ring.used a.told) queue a answer a'

-- whether the driver is to be notified
abbrev pub Notifies : AskingState → Result Bool Ask → AskingState → Type 0
Notifies a answer a' = NotifiesOf a.device.queue a answer a'
