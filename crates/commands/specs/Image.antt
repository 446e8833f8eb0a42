-- The image that a run works on: what it stood for, and what it stands for afterwards.
use Rattle.std.specs.Prelude.{◌≡◌, ℕ, List, [], Option, length, true, false}
use Rattle.std.specs.Io.KnownBytes.{Appends}
use Rattle.rpmb_frame.specs.Partition.{Partition}
use Rattle.rpmb_frame.specs.declared.config.GuestConfig.{GuestConfig}
use Rattle.guest_driver.specs.Config.{SetupState}
use Rattle.disk.specs.Content.{Content}
use Rattle.disk.specs.Disk.{DiskCall, DiskState, MayLeave, Within}
use Rattle.intent_slots.specs.Layout.{capacities_of}
use Rattle.flusher.specs.Round.{FrontStays}
use Rattle.recovery.specs.Opening.{IsImage, Untouched}
use Rattle.script.specs.Line.{Said}
use Rattle.board.specs.Board.{StaysLinked}
use Rattle.board.specs.Opening.{bases_of}
use Rattle.host.specs.Host.{HostState, seen}
use Rattle.queue_looks.specs.Runner.{runner_of}
use Rattle.commands.specs.Listing.{AreHeld}
use Rattle.commands.specs.Reasons.{IsHostOf}
use Rattle.commands.specs.Running.{IsAt}
use Rattle.commands.specs.Transcript.{first_cores, first_told, output_of, partitions_after}

-- The partitions of a board's image, as a disk shows it.
pub record AreOf (board : List GuestConfig) (s : DiskState)
    (partitions : List Partition) : Type 0 where
  pub count : length partitions ≡ length board
  -- what a disk gives is known only where it is faithful
  pub image : s.faithful ≡ true → IsImage (capacities_of board) s.len s.seen
  pub held : s.faithful ≡ true → AreHeld (capacities_of board) s.seen partitions

-- A run that reached its end has printed the replies to its lines on the partitions of the image;
-- whatever a stop leaves of the disk then holds the partitions after them; and the image's header
-- is as it was.
pub record Ran (board : List GuestConfig) (old new : DiskState) (lines : List Said)
    (start now : Option (List ℕ)) : Type 0 where
  pub partitions : List Partition
  pub of_image : AreOf board old partitions
  pub printed : Appends start now (output_of board partitions lines)
  pub left : old.faithful ≡ true → (c : Content) → MayLeave new c
      → AreHeld (capacities_of board) c (partitions_after board partitions lines)
  pub header : old.faithful ≡ true → FrontStays old new

-- The partitions of all guests that reads of the old disk gave, and those after the lines in
-- whatever a stop leaves of the new one; and the image's header is as it was.
pub record LeavesRun (board : List GuestConfig) (old new : DiskState)
    (lines : List Said) : Type 0 where
  pub partitions : List Partition
  pub count : length partitions ≡ length board
  pub held : AreHeld (capacities_of board) old.seen partitions
  pub left : (c : Content) → MayLeave new c
      → AreHeld (capacities_of board) c (partitions_after board partitions lines)
  pub header : FrontStays old new

-- 1. Within a run

-- The guests of an image, each in its first session, as a run begins with them.
pub record IsOpened {D : Type 0} (shows : D → DiskState) (makes : D → DiskCall → D → Type 0)
    (setup : SetupState) (disk : D) (h : HostState D) : Type 0 where
  pub partitions : List Partition
  pub of_image : AreOf setup.board (shows disk) partitions
  pub cores : (runner_of h.board).cores ≡ first_cores setup.board partitions
  pub ready : IsAt 0 (first_told setup.board partitions) (seen h)
  pub answered : (runner_of h.board).answered ≡ 0
  pub linked : StaysLinked shows setup.board (bases_of partitions) (λ g. []) h.board
  pub whole : h.board.store.broken ≡ false
  pub untouched : Within shows makes (Untouched (shows disk)) disk h.board.store.disk
  pub unfailed : (shows h.board.store.disk).failures ≡ (shows disk).failures
  pub host : IsHostOf setup (seen h)
