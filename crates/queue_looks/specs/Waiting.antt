-- A board one guest of which waits for a reply, until the reply lies in its place.
use Rattle.std.specs.Prelude.{ℕ, ◌≡◌, ◌≢◌, ◌≤◌, ◌<◌, Bool, true, false, [], ◌∷◌, Option, Some, None}
use Rattle.std.specs.Prelude.{slice_get, slice_set}
use Rattle.disk.specs.Disk.{DiskState}
use Rattle.flusher.specs.declared.guest.Guest.{Guest}
use Rattle.flusher.specs.Pair.{mark_of}
use Rattle.mmio_transport.specs.Job.{Done}
use Rattle.rpmb_frame.specs.Partition.{sequence}
use Rattle.rpmb_book.specs.Guest.{GuestState, Held}
use Rattle.board.specs.Board.{IsSound}
use Rattle.board.specs.State.{BoardState, guests}
use Rattle.queue_looks.specs.Calm.{IsCalmGuest, is_broken}
use Rattle.queue_looks.specs.Runner.{held_since, runner_of, runner_since}
use Rattle.queue_looks.specs.Work.{work_of}

-- what stays of a board while a reply of it is on its way: the devices, the jobs, and all that the
-- answers depend on, but what a break makes of it
pub record Stays {D : Type 0} (start b : BoardState D) : Type 0 where
  pub devices : b.devices ≡ start.devices
  pub jobs : b.jobs ≡ start.jobs
  pub runner : runner_of b ≡ runner_since (is_broken start) (is_broken b) (runner_of start)
  pub whole : is_broken b ≡ false → is_broken start ≡ false

-- what is settled of each guest is its mark
abbrev pub AreMarked : {D : Type 0} → BoardState D → Type 0
AreMarked b = (k : ℕ) (x : GuestState) (y : Guest) → slice_get (guests b) k ≡ Some x
    → slice_get b.store.guests k ≡ Some y → x.settled ≡ mark_of y

-- guest g holds one reply, which needs all that was accepted: this one, or the failure in its place
-- once the store breaks; the others are calm
pub record Waits {D : Type 0} (shows : D → DiskState) (g : ℕ) (start : BoardState D) (reply : Held)
    (b : BoardState D) : Type 0 where
  pub sound : IsSound shows b
  pub guest : GuestState
  pub there : slice_get (guests b) g ≡ Some guest
  pub held : Held
  pub holds : guest.held ≡ held ∷ []
  pub same : held ≡ held_since (is_broken start) (is_broken b) reply
  pub need : is_broken b ≡ false → held.done.need ≡ sequence guest.core.partition
  pub late : is_broken b ≡ true → held.done.need ≤ guest.settled
  pub others : (k : ℕ) (x : GuestState) → k ≢ g → slice_get (guests b) k ≡ Some x
      → IsCalmGuest (is_broken b) x
  pub marked : is_broken b ≡ false → AreMarked b
  pub replies : (k : ℕ) (o : Option Done) → slice_get b.dones k ≡ Some o → o ≡ None
  pub dones : b.dones ≡ start.dones
  pub report : b.report ≡ None
  pub broken : b.store.broken ≡ is_broken b
  pub stays : Stays start b

-- its reply lies in its place, and nobody holds one any more
pub record Leaves {D : Type 0} (shows : D → DiskState) (g : ℕ) (start : BoardState D) (reply : Held)
    (b : BoardState D) : Type 0 where
  pub sound : IsSound shows b
  pub done : Done
  pub given : done ≡ (held_since (is_broken start) (is_broken b) reply).done
  pub quiet : (k : ℕ) (x : GuestState) → slice_get (guests b) k ≡ Some x
      → IsCalmGuest (is_broken b) x
  pub dones : b.dones ≡ slice_set start.dones g (Some done)
  pub replies : (k : ℕ) (o : Option Done) → slice_get start.dones k ≡ Some o → o ≡ None
  pub report : b.report ≡ None
  pub broken : b.store.broken ≡ is_broken b
  pub stays : Stays start b

-- a guest waits for some reply
pub record WaitsForSome {D : Type 0} (shows : D → DiskState) (g : ℕ)
    (b : BoardState D) : Type 0 where
  pub start : BoardState D
  pub reply : Held
  pub waits : Waits shows g start reply b

-- the guest's reply needs more than is settled
pub record IsLate {D : Type 0} (g : ℕ) (b : BoardState D) : Type 0 where
  pub whole : is_broken b ≡ false
  pub late : (x : GuestState) → slice_get (guests b) g ≡ Some x
      → x.settled < sequence x.core.partition

-- what a look for the reply comes to
abbrev pub Collected : {D : Type 0} → Bool → (D → DiskState) → ℕ → BoardState D → Held
    → BoardState D → BoardState D → Type 0
Collected true shows g start reply old new = Leaves shows g start reply new
Collected false shows g start reply old new = (new ≡ old) × IsLate g old

-- it still waits, and less is left to do
pub record WritesOn {D : Type 0} (shows : D → DiskState) (g : ℕ) (start : BoardState D)
    (reply : Held) (old new : BoardState D) : Type 0 where
  pub waits : Waits shows g start reply new
  pub less : work_of g new < work_of g old
