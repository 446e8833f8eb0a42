-- What contracts see of a serve between two calls, and of what its steps are to copy out.
use Rattle.std.specs.Prelude.{◌≡◌, ℕ, ◌-◌, Bool, false, List, [], ◌∷◌, ◌++◌, length, min, ◌==◌}
use Rattle.std.specs.Prelude.{if◌then◌else◌}
use Rattle.guest_memory.specs.Memory.{IsHeld, Known}
use Rattle.chains.specs.declared.range.Range.{Range}
use Rattle.mmio_transport.specs.Device.{DeviceState}
use Rattle.mmio_transport.specs.Job.{Done}
use Rattle.mmio_transport.specs.Queue.{popped_by}
use Rattle.mmio_transport.specs.Written.{queue_parts, range_in}
use Rattle.mmio_transport.specs.declared.done.Published.{Published}
use Rattle.mmio_transport.specs.declared.done.Published.TheVariants.{Wrote, Dropped}
use Rattle.machine.specs.declared.turn.Asked.{Asked}
use Rattle.machine.specs.declared.turn.Asked.TheVariants as asked
use Rattle.machine.specs.declared.turn.Stage.{Stage}
use Rattle.machine.specs.declared.turn.Stage.TheVariants as stage

pub record TurnState : Type 0 where
  -- what the monitor was asked for last
  pub asked : Asked
  -- what is done next
  pub stage : Stage
  -- a step of the device was begun, and believes what it was told since
  pub going : Bool
  -- avail_event as it stands is in guest memory, or to be copied out
  pub looked : Bool
  -- what the last step wrote that isn't in guest memory yet, in the order in which it goes there
  pub parts : List Range

-- before the first serve, and after the queue was taken away
abbrev pub fresh_turn : TurnState
fresh_turn = record {
  asked = asked.Nothing;
  stage = stage.Taking;
  going = false;
  looked = false;
  parts = [];
}

-- Where a guest's steps stand: what isn't in its memory yet; whether a step of its device was
-- begun, so that all of which it has a copy was told for that step; whether avail_event as its
-- device wrote it last is in its memory, or among those parts; and whether its driver is to be
-- notified, which the monitor wasn't told.
pub record Stand : Type 0 where
  pub parts : List Range
  pub going : Bool
  pub looked : Bool
  pub owed : Bool

abbrev pub stand_of : TurnState → Stand
stand_of turn =
    record { parts = turn.parts; going = turn.going; looked = turn.looked; owed = false }

-- what is done next stays, and what was asked for
abbrev pub KeepsStage : TurnState → TurnState → Type 0
KeepsStage old new = (new.stage ≡ old.stage) × (new.asked ≡ old.asked)

-- the part of a range that so many bytes fill, where there is one
abbrev pub filled_part : Range → ℕ → List Range
filled_part range count =
    if min range.len count == 0 then []
    else record { at = range.at; len = min range.len count } ∷ []

-- the parts of these ranges that so many bytes fill, each range before the next
abbrev pub filled_parts : List Range → ℕ → List Range
filled_parts [] count = []
filled_parts (range ∷ ranges) count =
    filled_part range count ++ filled_parts ranges (count - range.len)

-- What a reply's publication is to copy out, in this order: the reply, the used element and, behind
-- them, the used index, by which the driver knows of it (VIRTIO 1.2, 2.7.8).
abbrev pub reply_parts : DeviceState → Done → Published → List Range
reply_parts d done (Wrote notify) =
    filled_parts done.writable (length done.reply) ++ queue_parts d.queue
reply_parts d done Dropped = []

-- there are copies of these parts, each in one piece
abbrev pub AreCopied : Known → List Range → Type 0
AreCopied memory [] = Unit {0}
AreCopied memory (part ∷ parts) = IsHeld memory part.at part.len × AreCopied memory parts

-- what a pop wrote: avail_event, where there is one
abbrev pub pop_parts : DeviceState → List Range
pop_parts d = range_in (popped_by d.queue)
