-- What a world notes of a guest, and what an opening makes of it.
use Rattle.std.specs.Prelude.{◌≡◌, ℕ, ◌-◌, List, [], length, take, slice_get, option_map, Option}
use Rattle.std.specs.Prelude.{Some, None}
use Rattle.rpmb_frame.specs.Partition.{Partition, sequence}
use Rattle.disk.specs.CutDisk.{CutState}
use Rattle.mmio_transport.specs.Job.{Job, room_of}
use Rattle.rpmb_book.specs.Guest.{GuestState}
use Rattle.board.specs.State.{BoardState, guests}
use Rattle.world.specs.declared.log.Pop.{Pop}
use Rattle.world.specs.declared.log.Publication.{Publication}

-- a request, as its chain gave it: the readable bytes, and how many bytes the reply may have
pub record Asked : Type 0 where
  pub request : List ℕ
  pub writable : ℕ

-- what a job asks, before the limits of its guest
abbrev pub asked_of : Job → Asked
asked_of job = record { request = job.request; writable = room_of job }

pub record GuestLog : Type 0 where
  pub accepted : List Asked
  pub published : List Publication
  -- how many publications there is room for in all
  pub room : ℕ
  pub popped : List Pop
  -- how many pops there is room for in all
  pub pop_room : ℕ

-- how many accepted requests a guest's partition counts
abbrev pub kept_count : Partition → Option GuestState → Option ℕ
kept_count base None = None
kept_count base (Some x) = Some (sequence x.core.partition - sequence base)

-- so many of the accepted requests, or all of them
abbrev pub kept_asked : Option ℕ → List Asked → List Asked
kept_asked None list = list
kept_asked (Some n) list = take n list

-- a log with so many of its accepted requests
abbrev pub cut_log : Option ℕ → GuestLog → GuestLog
cut_log count log = record log { accepted = kept_asked count log.accepted }

-- each guest's log is cut to what its partition counts
pub record AreCut (bases : ℕ → Partition) (b : BoardState CutState)
    (logs logs' : List GuestLog) : Type 0 where
  pub many : length logs' ≡ length logs
  pub each : (g : ℕ) → slice_get logs' g
      ≡ option_map (cut_log (kept_count (bases g) (slice_get (guests b) g))) (slice_get logs g)

-- a log for each of so many guests, with nothing in it
pub record AreFresh (count : ℕ) (logs : List GuestLog) : Type 0 where
  pub many : length logs ≡ count
  pub each : (g : ℕ) (log : GuestLog) → slice_get logs g ≡ Some log
      → (log.accepted ≡ []) × (log.published ≡ []) × (log.popped ≡ [])
