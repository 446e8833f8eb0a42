-- The areas of a ring stay where they are, and its descriptors are one of them.
use Rattle.std.specs.Prelude.{◌≡◌, ◌*◌, ℕ}
use Rattle.guest_memory.specs.Memory.{Known}
use Rattle.split_ring.specs.Available.{event_held}
use Rattle.chains.specs.Ring.{RingState}
use Rattle.guest_memory.specs.declared.ask.Ask.{Ask}
use Rattle.chains.specs.Needs.{InDescriptors, LiesIn}
use Rattle.split_ring.specs.Layout.{AreasInside, OfArea}

pub areas_stay : (bytes : ℕ) (old new : RingState) → new.places ≡ old.places → new.size ≡ old.size
    → AreasInside bytes old → AreasInside bytes new
areas_stay bytes old new same size inside = record {
  descriptors = rw (same, size) inside.descriptors;
  driver = rw (same, size) inside.driver;
  device = rw (same, size) inside.device;
}

pub event_stays : (memory : Known) (old new : RingState) → new.places ≡ old.places
    → new.size ≡ old.size → event_held memory old → event_held memory new
event_stays memory old new same size held = rw (same, size) held

pub descriptors_are : (ring : RingState) (ask : Ask)
    → LiesIn ring.places.descriptors (16 * ring.size) ask → OfArea ring ask
descriptors_are ring ask lies = InDescriptors lies
