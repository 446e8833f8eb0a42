-- Which faults may end a command, and what it has printed then.
use Rattle.std.specs.Prelude.{◌≡◌, ◌≢◌, ◌⊎◌, ℕ, ◌++◌, ◌∷◌, [], List, Option, None, length, true}
use Rattle.std.specs.Io.KnownBytes.{Appends, Keeps}
use Rattle.rpmb_frame.specs.Partition.{Partition}
use Rattle.rpmb_frame.specs.declared.config.GuestConfig.{GuestConfig}
use Rattle.disk.specs.Disk.{DiskCall, DiskState, HasRisen}
use Rattle.intent_slots.specs.Layout.{capacities_of}
use Rattle.recovery.specs.Format.{IsFormatted}
use Rattle.recovery.specs.Front.{HasNoHeader}
use Rattle.recovery.specs.Opening.{IsImage, IsOther, IsUnformatted, SyncsFirst}
use Rattle.recovery.specs.Upgrade.{IsNamed}
use Rattle.script.specs.Line.{Said}
use Rattle.script.specs.Script.{first_bad, first_unserved, lines_of}
use Rattle.commands.specs.Failing.{HasFailed, text_when}
use Rattle.commands.specs.Image.{AreOf}
use Rattle.commands.specs.Reasons.{StoresOutside}
use Rattle.commands.specs.Running.{IsChain, answered_in}
use Rattle.commands.specs.Transcript.{IsBadAt, Says, StoresNothing, first_told}
use Rattle.commands.specs.Serving.{IsUnservedAt}
use Rattle.commands.specs.declared.fault.Fault.{Fault}
use Rattle.commands.specs.declared.fault.Fault.TheVariants as fault

-- 1. Which faults, and why

-- a command, with the text of its script
pub data Asked : Type 0 where
  formatting : Asked
  showing : Asked
  upgrading : Asked
  running : List ℕ → Asked
  serving : List ℕ → Asked

-- each line of the script says what a script may say
abbrev pub IsReadable : List GuestConfig → List ℕ → Type 0
IsReadable board script = first_bad (length board) (lines_of script) ≡ None

-- and one that is served
abbrev pub IsServable : List GuestConfig → List ℕ → Type 0
IsServable board script = first_unserved (length board) (lines_of script) ≡ None

-- Which faults a line of a run may come to, once so many requests of the run are answered: a chain,
-- for want of memory, since one life has 2^64 - 1 requests, or since standard output took no more;
-- a store, since its bytes don't lie in the guest's memory. A guest never has too little memory for
-- its driver, and no queue too few descriptors.
abbrev pub LineEnds : List GuestConfig → ℕ → Fault → Said → Type 0
LineEnds board answered fault.FileFault line = IsChain line
LineEnds board answered fault.NoMemory line = IsChain line
LineEnds board answered fault.HistoryFull line = IsChain line × (answered ≡ 18446744073709551615)
LineEnds board answered fault.OutOfRange line = StoresOutside board line
LineEnds board answered f line = ⊥

-- the next of the lines left may
abbrev pub NextEnds : List GuestConfig → ℕ → Fault → List Said → Type 0
NextEnds board answered f [] = ⊥
NextEnds board answered f (line ∷ rest) = LineEnds board answered f line

-- one of these lines may
abbrev pub OneEnds : List GuestConfig → Fault → List Said → Type 0
OneEnds board f [] = ⊥
OneEnds board f (line ∷ rest) =
    ((answered : ℕ) × LineEnds board answered f line) ⊎ OneEnds board f rest

-- and a line of this script
abbrev pub EndsInLine : List GuestConfig → List ℕ → Fault → Type 0
EndsInLine board script f = (lines : List Said) → Says board script lines → OneEnds board f lines

-- why an image isn't opened
abbrev pub OpeningEnds : List ℕ → DiskState → DiskState → Fault → Type 0
OpeningEnds capacities old new fault.NoMemory = Unit {0}
OpeningEnds capacities old new fault.DiskFault = HasRisen old.failures new.failures
OpeningEnds capacities old new fault.NotFormatted =
    old.faithful ≡ true → IsUnformatted capacities old.len old.seen
OpeningEnds capacities old new fault.OtherConfig =
    old.faithful ≡ true → IsOther capacities old.len old.seen
OpeningEnds capacities old new f = ⊥

-- Which faults may end a command, by what it was asked, with the disk before and after it.
abbrev pub Ends : Asked → List GuestConfig → DiskState → DiskState → Fault → Type 0
-- a call of the disk failed, or the image is made and standard output took no more
Ends formatting board old new fault.DiskFault = HasRisen old.failures new.failures
Ends formatting board old new fault.FileFault =
    old.faithful ≡ true → IsFormatted 1 (capacities_of board) new
Ends formatting board old new f = ⊥
-- the image wasn't opened, memory being refused before any call; or it was, and standard output
-- took no more
Ends showing board old new fault.NoMemory = new ≡ old
Ends showing board old new fault.FileFault =
    old.faithful ≡ true → IsImage (capacities_of board) old.len old.seen
Ends showing board old new f = OpeningEnds (capacities_of board) old new f
-- the disk has no header of this board, a call failed, or the image is of version 2 and standard
-- output took no more
Ends upgrading board old new fault.DiskFault = HasRisen old.failures new.failures
Ends upgrading board old new fault.FileFault = old.faithful ≡ true → IsNamed new
Ends upgrading board old new fault.NotFormatted =
    old.faithful ≡ true → HasNoHeader (capacities_of board) old.len old.seen
Ends upgrading board old new fault.OtherConfig =
    old.faithful ≡ true → IsOther (capacities_of board) old.len old.seen
Ends upgrading board old new f = ⊥
-- The first bad line; want of memory; and, where all lines are read, what one of them may come to,
-- why the image isn't opened, or a call of the disk that failed.
Ends (running script) board old new (fault.BadScript line) = IsBadAt board script line
Ends (running script) board old new fault.NoMemory = Unit {0}
Ends (running script) board old new fault.FileFault = IsReadable board script
Ends (running script) board old new fault.HistoryFull =
    IsReadable board script × EndsInLine board script fault.HistoryFull
Ends (running script) board old new fault.OutOfRange =
    IsReadable board script × EndsInLine board script fault.OutOfRange
Ends (running script) board old new f =
    IsReadable board script × OpeningEnds (capacities_of board) old new f
-- The first line that may not be served; want of memory; and then why the image isn't opened, what
-- the threads come to, a call of the disk that failed, or standard output.
Ends (serving script) board old new (fault.BadScript line) = IsUnservedAt board script line
Ends (serving script) board old new fault.NoMemory = Unit {0}
Ends (serving script) board old new fault.BadBoard = ⊥
Ends (serving script) board old new fault.NotFormatted =
    IsServable board script × OpeningEnds (capacities_of board) old new fault.NotFormatted
Ends (serving script) board old new fault.OtherConfig =
    IsServable board script × OpeningEnds (capacities_of board) old new fault.OtherConfig
Ends (serving script) board old new f = IsServable board script

-- 2. What a part of a command may come to

-- the writing of one line
abbrev pub IsOfWriting : Fault → Type 0
IsOfWriting fault.NoMemory = Unit {0}
IsOfWriting fault.FileFault = Unit {0}
IsOfWriting f = ⊥

-- and that of all lines of a serve whose store may be broken
abbrev pub IsOfTelling : Fault → Type 0
IsOfTelling fault.DiskFault = Unit {0}
IsOfTelling f = IsOfWriting f

-- the reading of all lines
abbrev pub IsOfReading : Fault → Type 0
IsOfReading (fault.BadScript line) = Unit {0}
IsOfReading fault.NoMemory = Unit {0}
IsOfReading f = ⊥

-- 3. What is done and printed then

-- The disk was not called at all, or synced and then only read.
pub data IsReadAlone {D : Type 0} (makes : D → DiskCall → D → Type 0) (old new : D) : Type 0 where
  Uncalled : new ≡ old → IsReadAlone makes old new
  Synced : SyncsFirst makes old new → IsReadAlone makes old new

-- nothing was printed, unless standard output took no more
abbrev pub KeepsUnless : Fault → Option (List ℕ) → Option (List ℕ) → Type 0
KeepsUnless f start now = f ≢ fault.FileFault → Keeps start now

-- What the first of these lines print was printed, and no more; the next is what the run stopped
-- for.
pub record PrintsFirst (board : List GuestConfig) (f : Fault) (text : List Said → List ℕ)
    (lines : List Said)
    (start now : Option (List ℕ)) : Type 0 where
  pub first : List Said
  pub rest : List Said
  pub parts : lines ≡ first ++ rest
  pub printed : Appends start now (text first)
  pub reason : NextEnds board (answered_in first) f rest

-- the same, unless standard output took no more
abbrev pub PrintsFirstUnless : List GuestConfig → Fault → (List Said → List ℕ) → List Said
    → Option (List ℕ)
    → Option (List ℕ) → Type 0
PrintsFirstUnless board f text lines start now =
    f ≢ fault.FileFault → PrintsFirst board f text lines start now

-- all lines have printed what they print
pub record PrintsAllOn (board : List GuestConfig) (old new : DiskState) (lines : List Said)
    (start now : Option (List ℕ)) : Type 0 where
  pub partitions : List Partition
  pub of_image : AreOf board old partitions
  pub failed : Option ℕ
  pub has_failed : HasFailed failed lines old new
  pub printed : Appends start now (text_when failed (first_told board partitions) lines)

-- a front of them has, unless standard output took no more
pub record PrintsFirstOn (board : List GuestConfig) (old new : DiskState) (f : Fault)
    (lines : List Said) (start now : Option (List ℕ)) : Type 0 where
  pub partitions : List Partition
  pub of_image : AreOf board old partitions
  pub failed : Option ℕ
  pub has_failed : HasFailed failed lines old new
  pub prints : PrintsFirstUnless board f
      (text_when failed (first_told board partitions)) lines start now

-- What a script has printed where each of its lines came to its end, whether a call of the disk
-- failed or not: all of it.
abbrev pub PrintsWhole : List GuestConfig → List ℕ → DiskState → DiskState → Option (List ℕ)
    → Option (List ℕ) → Type 0
PrintsWhole board script old new start now =
    (lines : List Said) → Says board script lines → StoresNothing lines
    → PrintsAllOn board old new lines start now

-- And where one of them ended the run: a front of the same text.
abbrev pub PrintsFront : List GuestConfig → List ℕ → DiskState → DiskState → Fault → Option (List ℕ)
    → Option (List ℕ) → Type 0
PrintsFront board script old new f start now =
    (lines : List Said) → Says board script lines → StoresNothing lines
    → PrintsFirstOn board old new f lines start now

-- What a run that ends with a fault has printed: nothing, where a line is bad or the image isn't
-- opened; all that its lines print, where a call of the disk failed; else what a front of them
-- prints.
abbrev pub RunPrints : List GuestConfig → List ℕ → DiskState → DiskState → Fault → Option (List ℕ)
    → Option (List ℕ) → Type 0
RunPrints board script old new (fault.BadScript line) start now = Keeps start now
RunPrints board script old new fault.NotFormatted start now = Keeps start now
RunPrints board script old new fault.OtherConfig start now = Keeps start now
RunPrints board script old new fault.DiskFault start now =
    Keeps start now ⊎ PrintsWhole board script old new start now
RunPrints board script old new fault.NoMemory start now =
    Keeps start now ⊎ PrintsFront board script old new fault.NoMemory start now
RunPrints board script old new f start now = PrintsFront board script old new f start now

-- A writer took the text, or a front of it and then no more.
pub record Takes (start now : Option (List ℕ)) (text : List ℕ) : Type 0 where
  pub front : List ℕ
  pub rest : List ℕ
  pub parts : text ≡ front ++ rest
  pub appended : Appends start now front
