-- A device that is saved at rest, and goes on in another one. Section numbers are those of VIRTIO
-- 1.2.
use Rattle.std.specs.Prelude.{◌≡◌, ◌<◌, ◌≤◌, ℕ, ◌+◌, ◌/◌, ◌%◌, ◌==◌, ◌&&◌, Bool, true}
use Rattle.std.specs.Prelude.{if◌then◌else◌, nat_lt, nat_le, max, length, Option, Some}
use Rattle.std.specs.Prelude.{None}
use Rattle.chains.specs.Ring.{resting, may_rest}
use Rattle.mmio_transport.specs.declared.ring_kind.RingKind.{RingKind}
use Rattle.mmio_transport.specs.declared.ring_kind.RingKind.TheVariants.{Split, Packed}
use Rattle.mmio_transport.specs.declared.saving.RestingQueue.{RestingQueue}
use Rattle.mmio_transport.specs.declared.saving.RestingDevice.{RestingDevice}
use Rattle.mmio_transport.specs.Asking.{AskingState}
use Rattle.mmio_transport.specs.Device.{counted}
use Rattle.mmio_transport.specs.Queue.{QueueState, AreasInside, IsRing}

-- the queue that rests there: none of its chains is outstanding
abbrev pub queue_at : RestingQueue → QueueState
queue_at q = record { kind = q.kind; ring = resting q.places q.size q.last q.used }

abbrev pub queue_in : Option RestingQueue → Option QueueState
queue_in None = None
queue_in (Some q) = Some (queue_at q)

-- no chain of the queue is outstanding
abbrev pub is_free : QueueState → Bool
is_free queue = length queue.ring.outstanding == 0

-- The device is at rest: no chain is outstanding, and of all that was used it was seen whether the
-- driver is to be notified.
abbrev pub is_at_rest : Option QueueState → ℕ → Bool
is_at_rest None told = true
is_at_rest (Some queue) told = is_free queue && queue.ring.used == told

-- What is saved of a device: its registers and its queue, as they are.
pub record IsSaved (a : AskingState) (s : RestingDevice) : Type 0 where
  pub registers : s.registers ≡ a.device.registers
  pub queue : queue_in s.queue ≡ a.device.queue

-- A queue may go on there in a memory of so many bytes.
pub record MayStand (bytes : ℕ) (q : RestingQueue) : Type 0 where
  pub some : 0 < q.size
  pub small : q.size ≤ 256
  pub ring : IsRing q.kind q.places q.size
  pub areas : AreasInside q.kind bytes (resting q.places q.size q.last q.used)
  pub counted : may_rest q.last q.used ≡ true

abbrev pub MayGoOn : ℕ → Option RestingQueue → Type 0
MayGoOn bytes None = Unit {0}
MayGoOn bytes (Some q) = MayStand bytes q

abbrev pub used_of : Option RestingQueue → ℕ
used_of None = 0
used_of (Some q) = q.used

abbrev pub last_of : Option RestingQueue → ℕ
last_of None = 0
last_of (Some q) = q.last

-- a queue that is there was made ready once more
abbrev pub readied : Option RestingQueue → ℕ → ℕ
readied None readiness = readiness
readied (Some q) readiness = counted readiness

-- The device with these registers and this queue. It is a session of its own: no answer to what was
-- popped before is of it.
unfoldable pub going_on : AskingState → RestingDevice → AskingState
going_on a s = record a {
  device = record a.device {
    registers = s.registers;
    queue = queue_in s.queue;
    session = counted a.device.session;
    readiness = readied s.queue a.device.readiness;
    pops = max a.device.pops (last_of s.queue);
  };
  told = used_of s.queue;
}

-- The place at which a queue stands, in 16 bits: of a split queue the index of its next chain
-- (2.7.6); of a packed one in the bits 0 to 14 the place, and bit 15 is the wrap counter, which is
-- 1 at first (2.8.1).
abbrev pub place_by : RingKind → (size used : ℕ) → ℕ
place_by Split size used = used % 65536
place_by Packed size used =
    used % size + (if used / size % 2 == 0 then 32768 else 0)

abbrev pub place_of : RestingQueue → ℕ
place_of q = place_by q.kind q.size q.used

-- the queue at another place; none where it has no such place
abbrev pub at_place : RingKind → RestingQueue → ℕ → Option RestingQueue
at_place Split q place = Some (record q { used = place })
at_place Packed q place =
    if nat_lt (place % 32768) q.size
    then Some (record q {
      used = place % 32768 + (if nat_le 32768 place then 0 else q.size);
    })
    else None
