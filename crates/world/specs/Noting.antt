-- What is noted of a step.
use Rattle.std.specs.Prelude.{◌≡◌, ◌⊎◌, ℕ, ◌+◌, ◌≤◌, List, length, map, slice_get, option_map}
use Rattle.std.specs.Prelude.{Option, Some, None, Ok, Err}
use Rattle.rpmb_frame.specs.Limits.{limits_of}
use Rattle.rpmb_frame.specs.Partition.{sequence}
use Rattle.rpmb_frame.specs.declared.config.GuestConfig.{GuestConfig}
use Rattle.disk.specs.CutDisk.{CutMakes, CutState, cut_state}
use Rattle.rpmb_book.specs.Guest.{GuestState}
use Rattle.mmio_transport.specs.declared.fault.DeviceFault.TheVariants as device_fault
use Rattle.rpmb_book.specs.declared.refused.Refused.TheVariants as refused
use Rattle.board.specs.State.{BoardState, HasJob, HasNoJob, guests}
use Rattle.board.specs.Steps.{Answer, Does}
use Rattle.board.specs.Board.{accepted_after}
use Rattle.world.specs.Logs.{GuestLog}
use Rattle.board.specs.declared.step.Step.{Step}
use Rattle.board.specs.declared.step.Step.TheVariants as step
use Rattle.board.specs.declared.step.Seen.TheVariants.{Did}
use Rattle.board.specs.declared.step.StepFault.TheVariants as fault
use Rattle.world.specs.declared.home.Home.TheVariants.{Up}
use Rattle.world.specs.Records.{HaveRoom, accepted_in, asked_by, popped_in, published_in}
use Rattle.world.specs.World.{HasEmptyPlace, popped_after, published_after}

-- a guest's sequence, 0 for one that the board lacks
abbrev pub sequence_of : Option GuestState → ℕ
sequence_of None = 0
sequence_of (Some x) = sequence x.core.partition

-- the jobs are counted by guest, and the guest of this number has these limits
pub record IsGuest (c : GuestConfig) (g : ℕ) (b : BoardState CutState) : Type 0 where
  pub limits : (x : GuestState) → slice_get (guests b) g ≡ Some x → x.core.limits ≡ limits_of c
  pub tallied : (t : ℕ) → option_map (λ v. v.guest) (slice_get b.tallies g) ≡ Some t → t ≡ g

-- 1. A Submit, and the log of its guest

pub record Submits (g : ℕ) (answer : Answer) (b b' : BoardState CutState)
    (log log' : GuestLog) : Type 0 where
  pub does : Does cut_state CutMakes (step.Submit g) answer b b'
  pub accepted : (c : GuestConfig) → IsGuest c g b
      → map (asked_by c) log'.accepted
      ≡ accepted_after (step.Submit g) answer b (λ h. map (asked_by c) log.accepted) g
  pub room : answer ≡ Ok Did → length log.published + 66 ≤ log'.room

-- there was no memory for what is noted of a job that lies there
pub record Unnoted (g : ℕ) (answer : Answer) (b b' : BoardState CutState)
    (log log' : GuestLog) : Type 0 where
  pub lies : HasJob g b
  pub answer_is : answer ≡ Err (fault.Book refused.NoMemory)
  pub board : b' ≡ b
  pub accepted : log'.accepted ≡ log.accepted

pub record NotesSubmit (g : ℕ) (answer : Answer) (b b' : BoardState CutState)
    (log log' : GuestLog) : Type 0 where
  pub made : Submits g answer b b' log log' ⊎ Unnoted g answer b b' log log'
  pub published : log'.published ≡ log.published
  pub popped : log'.popped ≡ log.popped
  pub capacity : log.room ≤ log'.room

-- 1b. A Pop, and the log of its guest

pub record NotesPop (life g : ℕ) (answer : Answer) (b b' : BoardState CutState)
    (log log' : GuestLog) : Type 0 where
  pub made : (Does cut_state CutMakes (step.Pop g) answer b b'
      × (log'.popped ≡ popped_after life (step.Pop g) answer b' (λ h. log.popped) g))
      ⊎ (HasNoJob g b × (answer ≡ Err (fault.Device device_fault.NoMemory)) × (b' ≡ b)
      × (log'.popped ≡ log.popped))
  pub accepted : log'.accepted ≡ log.accepted
  pub published : log'.published ≡ log.published
  pub capacity : log'.room ≡ log.room

-- 2. A step, and the logs of all guests

-- what the logs say before and after
pub record Notes (config : List GuestConfig) (life : ℕ) (s : Step) (answer : Answer)
    (b b' : BoardState CutState) (logs logs' : List GuestLog) : Type 0 where
  pub accepted : (g : ℕ)
      → accepted_in config logs' g ≡ accepted_after s answer b (accepted_in config logs) g
  pub published : (g : ℕ)
      → published_in logs' g ≡ published_after life s answer b (published_in logs) g
  pub popped : (g : ℕ) → popped_in logs' g ≡ popped_after life s answer b' (popped_in logs) g

abbrev pub IsUnnoted : Step → BoardState CutState → Answer → Type 0
IsUnnoted (step.Submit n) b answer = HasJob n b × (answer ≡ Err (fault.Book refused.NoMemory))
IsUnnoted (step.Drive n act) b answer = ⊥
IsUnnoted (step.Pop n) b answer =
    HasEmptyPlace n b × (answer ≡ Err (fault.Device device_fault.NoMemory))
IsUnnoted (step.Collect n) b answer = ⊥
IsUnnoted (step.Publish n) b answer = ⊥
IsUnnoted (step.Take n) b answer = ⊥
IsUnnoted (step.Give n) b answer = ⊥
IsUnnoted step.Advance b answer = ⊥
IsUnnoted step.Settle b answer = ⊥

pub record Leaves (config : List GuestConfig) (b b' : BoardState CutState)
    (logs logs' : List GuestLog) : Type 0 where
  pub board : b' ≡ b
  pub accepted : (g : ℕ) → accepted_in config logs' g ≡ accepted_in config logs g
  pub published : (g : ℕ) → published_in logs' g ≡ published_in logs g
  pub popped : (g : ℕ) → popped_in logs' g ≡ popped_in logs g

-- The step was made and noted; or memory was refused for what is noted of it, and all is as it was.
abbrev pub StepsNoted : List GuestConfig → ℕ → Step → Answer → BoardState CutState
    → BoardState CutState → List GuestLog → List GuestLog → Type 0
StepsNoted config life s answer b b' logs logs' =
    (Does cut_state CutMakes s answer b b' × Notes config life s answer b b' logs logs')
    ⊎ (IsUnnoted s b answer × Leaves config b b' logs logs')

pub record IsNoted (config : List GuestConfig) (life : ℕ) (s : Step) (answer : Answer)
    (b b' : BoardState CutState) (logs logs' : List GuestLog) : Type 0 where
  pub steps : StepsNoted config life s answer b b' logs logs'
  pub room : HaveRoom (Up b') logs'
