-- Whose guests a run works on, and where a store lies.
use Rattle.std.specs.Prelude.{ℕ, ◌+◌, ◌<◌, ◌≤◌, List, length, Option, Some, None, slice_get}
use Rattle.rpmb_frame.specs.declared.config.GuestConfig.{GuestConfig}
use Rattle.guest_driver.specs.Config.{AreDrivers, SetupState}
use Rattle.script.specs.Line.{Said, store}
use Rattle.host.specs.Host.{HostView}
use Rattle.host.specs.Reasons.{AreClear, AreGuestsOf}

-- the guests are those of the board, each with the driver that the board file gives it, and between
-- two lines no chain is in flight, but of guests that are stuck
pub record IsHostOf (setup : SetupState) (h : HostView) : Type 0 where
  pub fit : AreDrivers setup.board setup.drivers
  pub own : AreGuestsOf setup h.guests
  pub clear : AreClear h.guests

-- so many bytes from this address on don't all lie in the guest's memory
abbrev pub IsOutside : Option GuestConfig → ℕ → ℕ → Type 0
IsOutside None at count = ⊥
IsOutside (Some guest) at count = guest.memory < at + count

-- the line stores bytes that don't all lie in its guest's memory
abbrev pub StoresOutside : List GuestConfig → Said → Type 0
StoresOutside board (store guest at bytes) = IsOutside (slice_get board guest) at (length bytes)
StoresOutside board line = ⊥

-- so many bytes from this address on all lie there
abbrev pub IsInside : Option GuestConfig → ℕ → ℕ → Type 0
IsInside None at count = ⊥
IsInside (Some guest) at count = at + count ≤ guest.memory

-- the line stores nothing, or bytes that all lie in its guest's memory
abbrev pub StoresInside : List GuestConfig → Said → Type 0
StoresInside board (store guest at bytes) = IsInside (slice_get board guest) at (length bytes)
StoresInside board line = Unit {0}
