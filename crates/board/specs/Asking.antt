-- What contracts see of a board whose guests' memory its host doesn't hold.
use Rattle.std.specs.Prelude.{◌≡◌, ◌≤◌, ◌⊎◌, ℕ, ◌+◌, Bool, List, [], ◌∷◌, map, length, slice_get}
use Rattle.std.specs.Prelude.{slice_set, Option, Some, None, Result, Ok, Err, IfSome}
use Rattle.guest_memory.specs.Memory.{Span, IsAsk}
use Rattle.guest_memory.specs.declared.ask.Ask.{Ask}
use Rattle.rpmb_frame.specs.declared.config.GuestConfig.{GuestConfig}
use Rattle.disk.specs.Disk.{DiskCall, DiskState}
use Rattle.mmio_transport.specs.Asking.{AskingState, HasRoomIn, PopNeeds, PublishesAsked}
use Rattle.mmio_transport.specs.Asking.{HoldsEvent, ReplyNeeds, SeesFault, SeesNext, first_asking}
use Rattle.mmio_transport.specs.Asking.{known}
use Rattle.mmio_transport.specs.Publishing.{IsDueIn}
use Rattle.mmio_transport.specs.Job.{Done, room_in}
use Rattle.mmio_transport.specs.declared.done.Published.{Published}
use Rattle.mmio_transport.specs.declared.fault.PopFault.{PopFault}
use Rattle.mmio_transport.specs.declared.fault.PopFault.TheVariants.{Missing, Refused}
use Rattle.recovery.specs.declared.fault.OpenFault.{OpenFault}
use Rattle.board.specs.State.{BoardState, in_place, with_devices}
use Rattle.board.specs.Steps.{Answer, did_answer}
use Rattle.board.specs.Moving.{Moves, Steps}
use Rattle.board.specs.declared.step.Step.{Step}
use Rattle.board.specs.declared.step.Step.TheVariants as step
use Rattle.board.specs.declared.step.StepFault.TheVariants as fault

pub record AskingBoardState (D : Type 0) : Type 0 where
  -- each guest's device, and what it knows of its guest's memory
  pub devices : List AskingState
  -- all else; it has no devices of its own
  pub rest : BoardState D

-- It as a board, whose devices' memories are the bytes as they were told, or wrote them, last.
abbrev pub board_of : {D : Type 0} → AskingBoardState D → BoardState D
board_of b = with_devices (map (λ a. a.device) b.devices) b.rest

-- a device for each guest, as it is before a driver finds it: no byte was told
abbrev pub first_asked : ℕ → List GuestConfig → List AskingState
first_asked n [] = []
first_asked n (c ∷ cs) = first_asking n c ∷ first_asked (n + 1) cs

-- how an opening ended
abbrev pub as_boards : {D : Type 0} → Result (AskingBoardState D) (D × OpenFault)
    → Result (BoardState D) (D × OpenFault)
as_boards (Ok b) = Ok (board_of b)
as_boards (Err refused) = Err refused

-- what a device knows beside its state
abbrev pub knowledge : AskingState → List Span × (Bool × ℕ)
knowledge a = (a.held, (a.asks, a.told))

-- what a device had a copy of, where its pop answered so
abbrev pub SeesBy : Answer → AskingState → Type 0
SeesBy (Ok seen) a = SeesNext a × HoldsEvent a
SeesBy (Err (fault.Device e)) a = SeesFault a e
SeesBy (Err (fault.Memory e)) a = Unit {0}
SeesBy (Err (fault.Book e)) a = Unit {0}
SeesBy (Err (fault.Store e)) a = Unit {0}

-- A pop looks for a chain where the guest's place for a job is empty, and by a copy of what says
-- whether one is available; and of what it writes there is one.
abbrev pub SeesAs : {D : Type 0} → Step → Answer → AskingBoardState D → Type 0
SeesAs (step.Drive g act) answer b = Unit {0}
SeesAs (step.Pop g) answer b =
    slice_get b.rest.jobs g ≡ Some None → IfSome (slice_get b.devices g) (SeesBy answer)
SeesAs (step.Submit g) answer b = Unit {0}
SeesAs (step.Collect g) answer b = Unit {0}
SeesAs (step.Publish g) answer b = Unit {0}
SeesAs (step.Take g) answer b = Unit {0}
SeesAs (step.Give g) answer b = Unit {0}
SeesAs step.Advance answer b = Unit {0}
SeesAs step.Settle answer b = Unit {0}

-- It made a step of a board, and its devices know what they knew.
pub record StepsAsked {D : Type 0} (shows : D → DiskState) (makes : D → DiskCall → D → Type 0)
    (s : Step) (answer : Answer) (old new : AskingBoardState D) : Type 0 where
  pub steps : Steps shows makes s answer (board_of old) (board_of new)
  pub held : map knowledge new.devices ≡ map knowledge old.devices
  pub sees : SeesAs s answer old

-- A guest's device asks for bytes of which it has no copy, and which it needs; and nothing changed.
pub record AsksFor {D : Type 0} (needs : AskingState → Ask → Type 0) (g : ℕ) (ask : Ask)
    (old new : AskingBoardState D) : Type 0 where
  pub device : AskingState
  pub its : slice_get old.devices g ≡ Some device
  pub asks : IsAsk (known device) ask
  pub needed : needs device ask
  pub same : new ≡ old

-- a device's next pop needs what is asked for
abbrev pub ForPop : AskingState → Ask → Type 0
ForPop a ask = PopNeeds a.device.queue a.device.memory ask

-- the publication of this reply does
abbrev pub ForReply : Option Done → AskingState → Ask → Type 0
ForReply None a ask = ⊥
ForReply (Some done) a ask = ReplyNeeds a.device.queue done ask

-- What a pop comes to.
abbrev pub PopsAsked : {D : Type 0} → (D → DiskState) → (D → DiskCall → D → Type 0) → ℕ
    → Result Bool PopFault → AskingBoardState D → AskingBoardState D → Type 0
PopsAsked shows makes g (Ok did) old new =
    StepsAsked shows makes (step.Pop g) (did_answer did) old new
PopsAsked shows makes g (Err (Refused e)) old new =
    StepsAsked shows makes (step.Pop g) (Err (fault.Device e)) old new
PopsAsked shows makes g (Err (Missing ask)) old new = AsksFor ForPop g ask old new

-- The reply in its place was handed to its device, and whether the driver is to be notified is seen
-- later. The board moved as by a publication.
pub record HandsReply {D : Type 0} (shows : D → DiskState) (makes : D → DiskCall → D → Type 0)
    (g : ℕ) (published : Published) (old new : AskingBoardState D) : Type 0 where
  pub device : AskingState
  pub its : slice_get old.devices g ≡ Some device
  pub done : Done
  pub lay : in_place (slice_get old.rest.dones g) ≡ Some done
  pub device' : AskingState
  pub publishes : PublishesAsked device done published device'
  -- there are copies of all that it writes
  pub room : IsDueIn device.device.queue device.device done
      → HasRoomIn device.device.queue device done
  -- a reply has no more bytes than its chain has room for
  pub fits : length done.reply ≤ room_in done.writable
  pub after : new
      ≡ record old {
        devices = slice_set old.devices g device';
        rest = record old.rest { dones = slice_set old.rest.dones g None };
      }
  pub moves : Moves shows makes (board_of old) (board_of new)

-- There is no such guest, or no reply lies in its place.
abbrev pub HasNoneToWrite : {D : Type 0} → ℕ → AskingBoardState D → Type 0
HasNoneToWrite g b = (slice_get b.devices g ≡ None) ⊎ (in_place (slice_get b.rest.dones g) ≡ None)

-- What a publication comes to.
abbrev pub PublishesOf : {D : Type 0} → (D → DiskState) → (D → DiskCall → D → Type 0) → ℕ
    → Result (Option Published) Ask → AskingBoardState D → AskingBoardState D → Type 0
PublishesOf shows makes g (Ok None) old new = HasNoneToWrite g old × (new ≡ old)
PublishesOf shows makes g (Ok (Some published)) old new =
    HandsReply shows makes g published old new
PublishesOf shows makes g (Err ask) old new =
    AsksFor (ForReply (in_place (slice_get old.rest.dones g))) g ask old new
