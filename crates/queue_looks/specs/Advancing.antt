-- A call of the disk that a host's board makes, and of which its book hears.
use Rattle.std.specs.Prelude.{ℕ, ◌≡◌, Bool, true, false, List, None, Result, Ok, Err}
use Rattle.disk.specs.Disk.{DiskCall, DiskState}
use Rattle.flusher.specs.CallsLeft.{called}
use Rattle.flusher.specs.Progress.{Progress, Wrote, Synced, Idle}
use Rattle.flusher.specs.Round.{Moves, Round, planned}
use Rattle.flusher.specs.Store.{StoreState}
use Rattle.flusher.specs.declared.progress.StoreFault.{StoreFault}
use Rattle.rpmb_book.specs.Book.{BookView, after_settle, with_turn}
use Rattle.rpmb_book.specs.Turn.{Break}
use Rattle.board.specs.Board.{IsSound}
use Rattle.board.specs.State.{BoardState}
use Rattle.board.specs.Steps.{AdvancesUnder, Answer, report_of}
use Rattle.board.specs.declared.step.Seen.TheVariants.{Value, Published, Did, Nothing}
use Rattle.queue_looks.specs.Calm.{is_broken}

-- whether a call was made, and succeeded
abbrev pub went_by : Answer → Bool
went_by (Ok Did) = true
went_by (Ok Nothing) = false
went_by (Ok (Value v)) = false
went_by (Ok (Published p)) = false
went_by (Err e) = false

-- one advance, and whether it made a call that succeeded
pub record AdvancesBy {D : Type 0} (shows : D → DiskState) (makes : D → DiskCall → D → Type 0)
    (went : Bool) (old new : BoardState D) : Type 0 where
  pub answer : Answer
  pub does : AdvancesUnder shows makes old.report answer old new
  pub told : went ≡ went_by answer

-- the book knows what the store's last call did
pub record IsListened {D : Type 0} (b : BoardState D) : Type 0 where
  pub report : b.report ≡ None
  pub broken : b.store.broken ≡ is_broken b

-- a book that isn't broken, once it heard how a call ended
abbrev pub book_heard : BookView → List ℕ → Result Progress StoreFault → BookView
book_heard b shares (Ok Wrote) = b
book_heard b shares (Ok Idle) = b
book_heard b shares (Ok (Synced marks)) = after_settle b shares marks
book_heard b shares (Err e) = with_turn b Break

-- the store made its call, and the book heard how it ended
pub record Hears {D : Type 0} (shows : D → DiskState) (makes : D → DiskCall → D → Type 0)
    (went : Bool) (old new : BoardState D) : Type 0 where
  pub progress : Result Progress StoreFault
  pub store : StoreState D
  pub round : Round makes
      (planned old.store.guests) old.store.disk old.store.guests progress store.disk
      store.guests store.broken
  pub moves : Moves progress old.store.guests store.guests
  pub told : went ≡ called progress
  -- the board before the book heard
  pub between : IsSound shows old
      → IsSound shows (record old { store = store; report = report_of progress })
  pub is : new
      ≡ record old { store = store; report = None; book = book_heard old.book old.shares progress }

-- a store that broke makes no call
abbrev pub GoesBy : {D : Type 0} → (D → DiskState) → (D → DiskCall → D → Type 0) → Bool → Bool
    → BoardState D → BoardState D → Type 0
GoesBy shows makes true went old new = (went ≡ false) × (new ≡ old)
GoesBy shows makes false went old new = Hears shows makes went old new

abbrev pub GoesOn : {D : Type 0} → (D → DiskState) → (D → DiskCall → D → Type 0) → Bool
    → BoardState D → BoardState D → Type 0
GoesOn shows makes went old new = GoesBy shows makes (is_broken old) went old new
