-- Whatever is called on a book, one call after another.
use Rattle.std.specs.Prelude.{ℕ, ◌≡◌, ◌++◌, if◌then◌else◌, false, is_none, Some, List, [], ◌∷◌}
use Rattle.std.specs.Prelude.{slice_get}
use Rattle.rpmb_frame.specs.Partition.{Partition}
use Rattle.rpmb_frame.specs.declared.config.GuestConfig.{GuestConfig}
use Rattle.mmio_transport.specs.Job.{Job}
use Rattle.rpmb_book.specs.Job.{Tally}
use Rattle.rpmb_book.specs.Guest.{GuestState}
use Rattle.rpmb_book.specs.Turn.{Turn}
use Rattle.rpmb_book.specs.Replay.{IsLegal, opened}
use Rattle.rpmb_book.specs.Book.{BookView, state, refusal, submit_of, after_take, after_settle}
use Rattle.rpmb_book.specs.Book.{after_break_off, after_collect}
use Rattle.rpmb_book.specs.Fold.{after_submit}
use Rattle.rpmb_book.specs.Asked.{IsAfter, answered_jobs}
use Rattle.rpmb_book.specs.Outcome.{answers, outcome}
use Rattle.rpmb_book.specs.Isolation.{HasNoBreak, jobs_of, told, told_alone}
use Rattle.rpmb_book.specs.Life.{Lives, turn_if, take_turns, settle_turns, break_turns}
use Rattle.rpmb_book.specs.Life.{collect_turns}

-- a call, with what it is given; one that memory was refused to changes nothing, and isn't counted
pub data Call : Type 0 where
  ToSubmit : (tally : Tally) (job : Job) → Call
  ToTake : (shares : List ℕ) (guest : ℕ) → Call
  ToSettle : (shares marks : List ℕ) → Call
  ToBreakOff : Call
  ToCollect : (guest : ℕ) → Call

-- the book after a call, as the call's contract says
abbrev pub after_call : BookView → Call → BookView
after_call b (ToSubmit tally job) = if is_none (refusal b tally job) then after_submit b job else b
after_call b (ToTake shares n) = after_take b shares n
after_call b (ToSettle shares marks) = after_settle b shares marks
after_call b ToBreakOff = after_break_off b
after_call b (ToCollect n) = after_collect b n

-- the turn of a call, or none
abbrev pub turns_of : BookView → Call → List Turn
turns_of b (ToSubmit tally job) = turn_if (is_none (refusal b tally job)) (submit_of b job)
turns_of b (ToTake shares n) = take_turns b shares n
turns_of b (ToSettle shares marks) = settle_turns b shares marks
turns_of b ToBreakOff = break_turns b
turns_of b (ToCollect n) = collect_turns b n

abbrev pub after_calls : BookView → List Call → BookView
after_calls b [] = b
after_calls b (c ∷ cs) = after_calls (after_call b c) cs

-- the turns of all these calls, folded or not
abbrev pub turns_in : BookView → List Call → List Turn
turns_in b [] = []
turns_in b (c ∷ cs) = turns_of b c ++ turns_in (after_call b c) cs

-- a book as `Book::open` gives it
pub record IsFresh (config : List GuestConfig) (partitions : List Partition) (b : BookView)
    : Type 0 where
  pub opening : b.opening ≡ opened config partitions
  pub folded : b.folded ≡ 0
  pub history : b.history ≡ []

-- after whatever calls, a book has lived the turns of all of them, each right where it stands
abbrev pub IsLived : Type 0
IsLived = (config : List GuestConfig) (partitions : List Partition) (b : BookView) (cs : List Call)
    → IsFresh config partitions b
    → Lives b.opening (turns_in b cs) (after_calls b cs) × IsLegal b.opening (turns_in b cs)

-- where no store broke in these turns, each guest was told what it would be told alone
abbrev pub IsToldAsAloneByCalls : Type 0
IsToldAsAloneByCalls = (config : List GuestConfig) (partitions : List Partition) (b : BookView)
    (cs : List Call) (g : ℕ) (x : GuestState) → IsFresh config partitions b
    → HasNoBreak (turns_in b cs) → slice_get b.opening.guests g ≡ Some x
    → told g b.opening (turns_in b cs) ≡ told_alone x.core (jobs_of g (turns_in b cs))

-- the stored outcome is that of the list of all answers
abbrev pub IsOutcomeByCalls : Type 0
IsOutcomeByCalls = (config : List GuestConfig) (partitions : List Partition) (b : BookView)
    (cs : List Call) (g : ℕ) (x y : GuestState) → IsFresh config partitions b
    → slice_get b.opening.guests g ≡ Some x
    → slice_get (state (after_calls b cs)).guests g ≡ Some y
    → y.core.last ≡ outcome (answers g b.opening (turns_in b cs) [])

-- a guest is after all its jobs
abbrev pub IsAfterItsJobsByCalls : Type 0
IsAfterItsJobsByCalls = (config : List GuestConfig) (partitions : List Partition) (b : BookView)
    (cs : List Call) (g : ℕ) (x y : GuestState) → IsFresh config partitions b
    → slice_get b.opening.guests g ≡ Some x
    → slice_get (state (after_calls b cs)).guests g ≡ Some y
    → IsAfter x y (answered_jobs false g (turns_in b cs)) (jobs_of g (turns_in b cs))
