-- How a guest's driver sets up its queue, and the guests of a board with their drivers (own).
use Rattle.std.specs.Prelude.{ℕ, ◌≡◌, ◌≤◌, IsTrue, List, length, Some, slice_get, true, false}
use Rattle.std.specs.Int.{is_power_of_two}
use Rattle.mmio_transport.specs.declared.ring_kind.RingKind.{RingKind}
use Rattle.mmio_transport.specs.declared.ring_kind.RingKind.TheVariants.{Split, Packed}
use Rattle.rpmb_frame.specs.declared.config.GuestConfig.{GuestConfig}
use Rattle.guest_driver.specs.DriverLayout.{layout}
use Rattle.guest_driver.specs.declared.config.DriverConfig.{DriverConfig}

-- the size of a split virtqueue is a power of two (2.7)
abbrev pub IsQueueSize : RingKind → ℕ → Type 0
IsQueueSize Split queue = IsTrue (is_power_of_two queue)
IsQueueSize Packed queue = Unit {0}

-- the driver of a guest of which a board file names no more than it has to
abbrev pub usual_driver : DriverConfig
usual_driver = record {
  queue = 16;
  ring = Split;
  indirect = false;
  event_idx = true;
  in_order = false;
}

-- the driver of a guest with so many bytes of memory
pub record IsDriver (memory : ℕ) (d : DriverConfig) : Type 0 where
  pub queue : (2 ≤ d.queue) × (d.queue ≤ 256)
  pub queue_of_ring : IsQueueSize d.ring d.queue
  -- its areas, tables and buffers lie in guest memory
  pub holds_layout : (layout d.ring d.queue).length ≤ memory

-- each guest has its driver
pub record AreDrivers (guests : List GuestConfig) (drivers : List DriverConfig) : Type 0 where
  pub count : length drivers ≡ length guests
  pub each : (n : ℕ) (g : GuestConfig) (d : DriverConfig) → slice_get guests n ≡ Some g
      → slice_get drivers n ≡ Some d → IsDriver g.memory d

-- the guests of a board, and how their drivers set up their queues
pub record SetupState : Type 0 where
  pub board : List GuestConfig
  pub drivers : List DriverConfig
