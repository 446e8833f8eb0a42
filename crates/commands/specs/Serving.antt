-- What a script prints whose guests are served at once, and why that ends with a fault.
use Rattle.std.specs.Prelude.{◌≡◌, ◌⊎◌, ◌<◌, ◌+◌, ◌==◌, ℕ, Bool, true, false, if◌then◌else◌, List}
use Rattle.std.specs.Prelude.{[], ◌∷◌, ◌++◌}
use Rattle.std.specs.Prelude.{All, Option, Some, None, filter, flat_map, get_or, length, map}
use Rattle.std.specs.Io.KnownBytes.{Appends, Keeps}
use Rattle.rpmb_frame.specs.Config.{IsBoard}
use Rattle.rpmb_frame.specs.declared.config.GuestConfig.{GuestConfig}
use Rattle.disk.specs.Disk.{DiskCall, DiskState, Within}
use Rattle.guest_driver.specs.declared.config.DriverConfig.{DriverConfig}
use Rattle.recovery.specs.Opening.{Untouched}
use Rattle.script.specs.declared.line.Line.{Line}
use Rattle.script.specs.Line.{IsServed, IsWithin, Said, chain, reset, said, served_line_of}
use Rattle.script.specs.Script.{first_unserved, lines_of}
use Rattle.workers.specs.Driving.{Ran}
use Rattle.workers.specs.declared.order.Order.{Order}
use Rattle.workers.specs.declared.order.Order.TheVariants as order
use Rattle.host.specs.declared.front.Answer.{Answer}
use Rattle.host.specs.declared.front.Answer.TheVariants as answer
use Rattle.commands.specs.Transcript.{stuck_line, used_line}
use Rattle.commands.specs.declared.fault.Fault.{Fault}
use Rattle.commands.specs.declared.fault.Fault.TheVariants as fault

-- the script says these lines to the board, none of which stores
abbrev pub SaysServed : List GuestConfig → List ℕ → List Said → Type 0
SaysServed board script lines =
    map Some lines ≡ map (served_line_of (length board)) (lines_of script)

-- lines that were read for a board: each names a guest of it, and none stores
pub record AreServable (board : List GuestConfig) (lines : List Line) : Type 0 where
  pub in_range : IsBoard board
  pub within : All (λ line. IsWithin (length board) (said line)) lines
  pub served : All (λ line. IsServed (said line)) lines

-- its line n, counted from 1, is the first that stores, or says nothing a script may say
abbrev pub IsUnservedAt : List GuestConfig → List ℕ → ℕ → Type 0
IsUnservedAt board script n = first_unserved (length board) (lines_of script) ≡ Some n

-- what an order asks for of this guest
abbrev pub asks : ℕ → Order → Said
asks g (order.Chain c) = chain g c.readable.items c.writable
asks g order.Reset = reset g

-- what a line asks for of this guest: its chain or its reset
abbrev pub asked_by : ℕ → Said → List Said
asked_by g (chain guest readable writable) =
    if g == guest then chain g readable writable ∷ [] else []
asked_by g (reset guest) = if g == guest then reset g ∷ [] else []
asked_by g line = []

-- and all lines, in their order
abbrev pub asked_of : ℕ → List Said → List Said
asked_of g lines = flat_map (asked_by g) lines

abbrev pub is_chain : Said → Bool
is_chain (chain guest readable writable) = true
is_chain line = false

-- how many chains of a guest they offer
abbrev pub chains_of : ℕ → List Said → ℕ
chains_of g lines = length (filter is_chain (asked_of g lines))

-- the line of what a guest's chain came to
abbrev pub answer_line : ℕ → Answer → List ℕ
answer_line guest (answer.Used reply) = used_line guest reply.items
answer_line guest (answer.Stuck why) = stuck_line guest why

-- the lines of a guest
unfoldable pub answer_lines : ℕ → List Answer → List ℕ
answer_lines guest [] = []
answer_lines guest (a ∷ answers) = answer_line guest a ++ answer_lines guest answers

-- the lines of this guest, then those of the next, and so on
unfoldable pub guests_lines : ℕ → List (List Answer) → List ℕ
guests_lines guest [] = []
guests_lines guest (answers ∷ rest) = answer_lines guest answers ++ guests_lines (guest + 1) rest

-- A guest's driver, of this configuration, ran just what the lines ask of its guest, chains and
-- resets in their order, on that guest's device, and was told these answers.
pub record RanOf (guest : ℕ) (config : DriverConfig) (lines : List Said) (answers : List Answer)
    : Type 0 where
  pub script : List Order
  pub asked : map (asks guest) script ≡ asked_of guest lines
  pub ran : Ran guest config script answers

-- What lines print whose guests are served at once, by drivers of these configurations: guest by
-- guest, a line for each chain that they offer of it, of what its driver was told.
pub record PrintsEach (guests : ℕ) (configs : List DriverConfig) (lines : List Said)
    (start now : Option (List ℕ)) : Type 0 where
  pub answers : List (List Answer)
  pub many : length answers ≡ guests
  pub ran : (g : ℕ) (c : DriverConfig) → g < guests
      → RanOf g (get_or configs g c) lines (get_or answers g [])
  pub each : (g : ℕ) → g < guests → length (get_or answers g []) ≡ chains_of g lines
  pub printed : Appends start now (guests_lines 0 answers)

-- and a script
abbrev pub ServesAll : List GuestConfig → List DriverConfig → List ℕ → Option (List ℕ)
    → Option (List ℕ) → Type 0
ServesAll board configs script start now = (lines : List Said) → SaysServed board script lines
    → PrintsEach (length board) configs lines start now

-- What lines have printed then: all of it where a call of the disk failed while they ran; nothing,
-- unless memory for it or standard output itself was wanting.
abbrev pub ServedPrint : ℕ → List DriverConfig → List Said → Fault → Option (List ℕ)
    → Option (List ℕ) → Type 0
ServedPrint guests configs lines fault.FileFault start now = Unit {0}
ServedPrint guests configs lines fault.NoMemory start now = Unit {0}
ServedPrint guests configs lines fault.DiskFault start now =
    Keeps start now ⊎ PrintsEach guests configs lines start now
ServedPrint guests configs lines f start now = Keeps start now

-- and what a script has
abbrev pub ServePrints : List GuestConfig → List DriverConfig → List ℕ → Fault
    → Option (List ℕ) → Option (List ℕ) → Type 0
ServePrints board configs script f start now = (lines : List Said) → SaysServed board script lines
    → ServedPrint (length board) configs lines f start now

-- the disk comes back, of which no moment has left another content
abbrev pub ComesBack : {D : Type 0} → (D → DiskState) → (D → DiskCall → D → Type 0) → D → Option D
    → Type 0
ComesBack shows makes disk None = ⊥
ComesBack shows makes disk (Some back) = Within shows makes (Untouched (shows disk)) disk back

-- And of the disk: it wasn't called where a line is bad, and is as it was where it holds no image
-- of the board.
abbrev pub ServeLeaves : {D : Type 0} → (D → DiskState) → (D → DiskCall → D → Type 0) → D → Fault
    → Option D → Type 0
ServeLeaves shows makes disk (fault.BadScript line) back = back ≡ Some disk
ServeLeaves shows makes disk fault.NotFormatted back = ComesBack shows makes disk back
ServeLeaves shows makes disk fault.OtherConfig back = ComesBack shows makes disk back
ServeLeaves shows makes disk f back = Unit {0}
