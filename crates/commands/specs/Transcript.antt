-- What a script prints.
use Rattle.std.specs.Prelude.{ℕ, ◌≡◌, List, [], ◌∷◌, ◌++◌, Some, None, codes, get_or, length, map}
use Rattle.std.specs.Prelude.{replicate}
use Rattle.std.specs.Fmt.{decimal}
use Rattle.rpmb_frame.specs.declared.config.GuestConfig.{GuestConfig}
use Rattle.script.specs.Line.{Said, nothing, chain, store, reset, line_of}
use Rattle.script.specs.Script.{first_bad, lines_of}
use Rattle.script.specs.Words.{shown}
use Rattle.rpmb_book.specs.Guest.{GuestCore}
use Rattle.rpmb_frame.specs.Limits.{limits_of}
use Rattle.rpmb_frame.specs.Partition.{Partition}
use Rattle.queue_looks.specs.Runner.{cores_after, reply_of}
use Rattle.host.specs.Ready.{job_of}
use Rattle.host.specs.Host.{sessions_after}
use Rattle.host.specs.declared.front.Stuck.{Stuck}
use Rattle.host.specs.declared.front.Stuck.TheVariants as stuck

-- the line of a guest's reply
unfoldable pub used_line : ℕ → List ℕ → List ℕ
used_line guest reply = codes "used " ++ decimal guest ++ codes " " ++ decimal (length reply)
    ++ codes " " ++ shown reply ++ 10 ∷ []

-- the line of a guest that is stuck
abbrev pub stuck_text : Stuck → List ℕ
stuck_text stuck.NeedsReset = codes "needs-reset"
stuck_text stuck.NoAnswer = codes "no-answer"
stuck_text stuck.BadUsed = codes "bad-used"

unfoldable pub stuck_line : ℕ → Stuck → List ℕ
stuck_line guest reason = stuck_text reason ++ codes " " ++ decimal guest ++ 10 ∷ []

-- what the lines so far made of the guests: what the answers to each depend on, and its session
pub record Told : Type 0 where
  pub cores : List GuestCore
  pub sessions : List ℕ

-- the reply to a chain of a guest
abbrev pub reply_to : Told → ℕ → List ℕ → ℕ → List ℕ
reply_to t guest readable writable =
    reply_of t.cores (job_of guest (get_or t.sessions guest 0) readable writable)

-- what one line prints, where no line stored into guest memory
abbrev pub printed_by : Told → Said → List ℕ
printed_by t nothing = []
printed_by t (chain guest readable writable) = used_line guest (reply_to t guest readable writable)
printed_by t (store guest at bytes) = []
printed_by t (reset guest) = []

-- and what it makes of the guests: a chain changes what its guest's answers depend on, a reset
-- begins its guest's next session
abbrev pub told_by : Told → Said → Told
told_by t nothing = t
told_by t (chain guest readable writable) =
    record t {
      cores = cores_after t.cores
          (job_of guest (get_or t.sessions guest 0) readable writable);
    }
told_by t (store guest at bytes) = t
told_by t (reset guest) = record t { sessions = sessions_after t.sessions guest }

-- what lines print, one after another
unfoldable pub transcript : Told → List Said → List ℕ
transcript t [] = []
transcript t (line ∷ lines) = printed_by t line ++ transcript (told_by t line) lines

-- and what they make of the guests
unfoldable pub told_after : Told → List Said → Told
told_after t [] = t
told_after t (line ∷ lines) = told_after (told_by t line) lines

-- no line stores into guest memory, whose rings and requests are then the driver's alone
abbrev pub StoresNothing : List Said → Type 0
StoresNothing [] = Unit {0}
StoresNothing (nothing ∷ lines) = StoresNothing lines
StoresNothing (chain guest readable writable ∷ lines) = StoresNothing lines
StoresNothing (store guest at bytes ∷ lines) = ⊥
StoresNothing (reset guest ∷ lines) = StoresNothing lines

-- the guests of a board on these partitions, of whom nothing was asked yet
abbrev pub first_cores : List GuestConfig → List Partition → List GuestCore
first_cores [] partitions = []
first_cores (g ∷ board) [] = []
first_cores (g ∷ board) (p ∷ partitions) =
    record { limits = limits_of g; partition = p; last = None } ∷ first_cores board partitions

-- each in its first session
abbrev pub first_told : List GuestConfig → List Partition → Told
first_told board partitions =
    record { cores = first_cores board partitions; sessions = replicate (length board) 1 }

-- what lines print on the partitions of a board
abbrev pub output_of : List GuestConfig → List Partition → List Said → List ℕ
output_of board partitions lines = transcript (first_told board partitions) lines

-- the partitions after them
abbrev pub partitions_after : List GuestConfig → List Partition → List Said → List Partition
partitions_after board partitions lines =
    map (λ c. c.partition) (told_after (first_told board partitions) lines).cores

-- the script says these lines to the board
abbrev pub Says : List GuestConfig → List ℕ → List Said → Type 0
Says board script lines = map Some lines ≡ map (line_of (length board)) (lines_of script)

-- its line n, counted from 1, is the first that says nothing a script may say
abbrev pub IsBadAt : List GuestConfig → List ℕ → ℕ → Type 0
IsBadAt board script n = first_bad (length board) (lines_of script) ≡ Some n
