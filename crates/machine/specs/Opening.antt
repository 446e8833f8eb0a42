-- Which guests make a board, and what an image of it is at first and at an opening.
use Rattle.std.specs.Prelude.{◌≡◌, ℕ, All, List, length, map, replicate, Ok, Err}
use Rattle.rpmb_frame.specs.Config.{IsBoard}
use Rattle.rpmb_frame.specs.declared.config.GuestConfig.{GuestConfig}
use Rattle.disk.specs.Content.{content_of}
use Rattle.disk.specs.Disk.{DiskState}
use Rattle.disk.specs.FileDisk.{shown_as}
use Rattle.disk.specs.Kept.{as_opened}
use Rattle.disk.specs.OutboxDisk.{OutboxMakes, OutboxState, first_disk, outbox_state}
use Rattle.disk.specs.declared.outbox_disk.Told.TheVariants.{Opened}
use Rattle.intent_slots.specs.Layout.{capacities_of, image_length}
use Rattle.recovery.specs.Format.{Holds, formatted}
use Rattle.recovery.specs.Opening.{AnswersFault, IsImage}
use Rattle.recovery.specs.declared.fault.OpenFault.{OpenFault}
use Rattle.recovery.specs.declared.fault.OpenFault.TheVariants as open_fault
use Rattle.board.specs.Asking.{first_asked}
use Rattle.board.specs.Opening.{Begins, Calls, Finds, begun}
use Rattle.board.specs.State.{BoardState}
use Rattle.board.specs.Telling.{telling}
use Rattle.machine.specs.Machine.{MachineState}
use Rattle.machine.specs.Settings.{HasQueueInRange}
use Rattle.machine.specs.Turn.{fresh_turn}
use Rattle.machine.specs.declared.fault.MachineFault.{MachineFault}
use Rattle.machine.specs.declared.fault.MachineFault.TheVariants as fault
use Rattle.machine.specs.declared.settings.Setup.{Setup}

-- How a guest is set up on its board, which asks for the ranges of a board file: a memory in their
-- range. What its device has is its setup's.
abbrev pub on_board : Setup → GuestConfig
on_board s = record s.config { memory = 67108864 }

abbrev pub configs_of : List Setup → List GuestConfig
configs_of setups = map on_board setups

-- how the devices are set up
abbrev pub devices_of : List Setup → List GuestConfig
devices_of setups = map (λ s. s.config) setups

-- a board: 1 to 64 guests, each in range
pub record IsMonitored (setups : List Setup) : Type 0 where
  pub board : IsBoard (configs_of setups)
  pub queues : All HasQueueInRange setups

-- the length in bytes of its image
abbrev pub length_of : List Setup → ℕ
length_of setups = image_length (capacities_of (configs_of setups))

-- the bytes of a fresh image of it, of version 2: the header, the version byte, and zeros
pub record IsFresh (setups : List Setup) (image : List ℕ) : Type 0 where
  pub long : length image ≡ length_of setups
  pub bytes : Holds (formatted 2 (capacities_of (configs_of setups))) (length_of setups)
      (content_of image)

-- what a disk over these bytes gives and keeps, before it is called
abbrev pub read_state : List ℕ → DiskState
read_state image = shown_as (as_opened image) (length image) 0

-- The bytes are an image of these guests' board, the board's partitions are those that they hold,
-- and every stop leaves them.
pub record FindsIn (config : List GuestConfig) (image : List ℕ)
    (board : BoardState OutboxState) : Type 0 where
  pub is_image : IsImage (capacities_of config) (length image) (content_of image)
  pub finds : Finds outbox_state config (read_state image) board

-- A machine that was opened over these bytes: its devices are fresh and have a copy of no byte, the
-- book has answered nothing, and nothing lies between two steps. The first call of the disk was a
-- sync, the others were reads. The bytes are an image of its board, and each guest's partition is
-- the one that they hold.
pub record IsOpened (setups : List Setup) (image : List ℕ) (m : MachineState) : Type 0 where
  pub monitored : IsMonitored setups
  pub long : length image ≡ length_of setups
  pub setups_are : m.setups ≡ setups
  pub turns : m.turns ≡ replicate (length setups) fresh_turn
  pub devices : m.board.devices ≡ first_asked 0 (devices_of setups)
  pub rest : BoardState OutboxState
  pub begins : Begins outbox_state 1 (configs_of setups) (begun (configs_of setups) rest)
  pub calls : Calls OutboxMakes (first_disk image) (Ok rest)
  pub found : FindsIn (configs_of setups) image (begun (configs_of setups) rest)
  pub told : m.board.rest ≡ telling Opened rest

-- how it is told why a board's opening was refused
abbrev pub opening_reason : OpenFault → MachineFault
opening_reason open_fault.DiskFault = fault.DiskFault
opening_reason open_fault.NoMemory = fault.NoMemory
opening_reason open_fault.NotFormatted = fault.NotFormatted
opening_reason open_fault.OtherConfig = fault.OtherConfig

-- why these guests are refused: memory was, or they make no board
pub data HasBoardFault (setups : List Setup) (f : MachineFault) : Type 0 where
  LacksMemory : f ≡ fault.NoMemory → HasBoardFault setups f
  IsNoBoard : f ≡ fault.BadBoard → ¬ IsMonitored setups → HasBoardFault setups f

-- why so many bytes are refused as an image of these guests
pub data HasImageFault (setups : List Setup) (count : ℕ) (f : MachineFault) : Type 0 where
  OfGuests : HasBoardFault setups f → HasImageFault setups count f
  OtherLength : f ≡ fault.BadLength → IsMonitored setups → ¬ (count ≡ length_of setups)
      → HasImageFault setups count f

-- why no board was opened over these bytes: memory was refused, or it is what the board's opening
-- answered, by what the bytes hold
pub data IsOpeningFault (config : List GuestConfig) (image : List ℕ)
    (f : MachineFault) : Type 0 where
  NoRoom : f ≡ fault.NoMemory → IsOpeningFault config image f
  Answered : (e : OpenFault) (left : OutboxState) → f ≡ opening_reason e
      → Calls OutboxMakes (first_disk image) (Err (left, e))
      → AnswersFault (capacities_of config) (length image) (content_of image) e
      → IsOpeningFault config image f

-- Why no machine was opened over these bytes: their number, or what they hold. So an image of
-- another board is never told as none, nor the other way round.
pub data HasOpeningFault (setups : List Setup) (image : List ℕ) (f : MachineFault)
    : Type 0 where
  OfImage : HasImageFault setups (length image) f → HasOpeningFault setups image f
  OfBoard : IsMonitored setups → length image ≡ length_of setups
      → IsOpeningFault (configs_of setups) image f → HasOpeningFault setups image f
