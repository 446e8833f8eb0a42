-- The call of the host that a line makes, and what it came to.
use Rattle.std.specs.Prelude.{◌≡◌, ℕ, false, List, [], ◌∷◌, Option, Result, Ok, Err}
use Rattle.std.specs.Io.KnownBytes.{Appends, Keeps}
use Rattle.script.specs.Line.{Said, nothing, chain, store, reset}
use Rattle.disk.specs.Disk.{DiskCall, DiskState}
use Rattle.host.specs.Call.{ChainCall, ResetCall, StoreCall}
use Rattle.queue_looks.specs.Calm.{IsCalm, is_broken}
use Rattle.host.specs.Host.{HostState}
use Rattle.board.specs.Moving.{Moves}
use Rattle.queue_looks.specs.declared.fault.HostFault.{HostFault}
use Rattle.host.specs.declared.front.Answer.{Answer}
use Rattle.commands.specs.Ending.{IsOfWriting, KeepsUnless}
use Rattle.commands.specs.Fault.{fault_of}
use Rattle.commands.specs.Serving.{answer_line}
use Rattle.commands.specs.declared.fault.Fault.{Fault}

-- 1. A line that is done

-- A chain printed the line of the answer that the host gave.
pub record ChainDone {D : Type 0} (h : HostState D) (guest : ℕ) (readable : List ℕ)
    (writable : ℕ) (start now : Option (List ℕ)) (h' : HostState D) : Type 0 where
  pub answer : Answer
  pub call : ChainCall h guest readable writable (Ok answer) h'
  pub printed : Appends start now (answer_line guest answer)

-- The other lines print nothing, and one that says nothing makes no call.
abbrev pub LineDone : {D : Type 0} → Said → HostState D → Option (List ℕ) → Option (List ℕ)
    → HostState D → Type 0
LineDone nothing h start now h' = (h' ≡ h) × Keeps start now
LineDone (chain guest readable writable) h start now h' =
    ChainDone h guest readable writable start now h'
LineDone (store guest at bytes) h start now h' =
    StoreCall h guest at bytes (Ok tt) h' × Keeps start now
LineDone (reset guest) h start now h' = ResetCall h guest (Ok tt) h' × Keeps start now

-- 2. A line that ended the run

-- the host's fault ended it, or the answer wasn't written
abbrev pub ChainFault : Result Answer HostFault → Fault → Type 0
ChainFault (Ok answer) f = IsOfWriting f
ChainFault (Err fault) f = f ≡ fault_of fault

pub record ChainFails {D : Type 0} (h : HostState D) (guest : ℕ) (readable : List ℕ)
    (writable : ℕ) (f : Fault) (h' : HostState D) : Type 0 where
  pub told : Result Answer HostFault
  pub call : ChainCall h guest readable writable told h'
  pub cause : ChainFault told f

abbrev pub LineFails : {D : Type 0} → Said → HostState D → Fault → HostState D → Type 0
LineFails nothing h f h' = ⊥
LineFails (chain guest readable writable) h f h' = ChainFails h guest readable writable f h'
LineFails (store guest at bytes) h f h' =
    (fault : HostFault) × StoreCall h guest at bytes (Err fault) h' × (f ≡ fault_of fault)
LineFails (reset guest) h f h' =
    (fault : HostFault) × ResetCall h guest (Err fault) h' × (f ≡ fault_of fault)

-- the next of the lines left is such a line
abbrev pub NextFails : {D : Type 0} → List Said → HostState D → Fault → HostState D → Type 0
NextFails [] h f h' = ⊥
NextFails (line ∷ rest) h f h' = LineFails line h f h'

-- 3. What a line does

-- it is done; or it ended the run, and printed nothing unless standard output took no more
abbrev pub LineEnded : {D : Type 0} → Said → HostState D → Option (List ℕ) → Result (Unit {0}) Fault
    → Option (List ℕ)
    → HostState D → Type 0
LineEnded line h start (Ok done) now h' = LineDone line h start now h'
LineEnded line h start (Err f) now h' = LineFails line h f h' × KeepsUnless f start now

-- with what its call leads to at each moment, and a book that is calm between two lines
pub record LineRuns {D : Type 0} (shows : D → DiskState) (makes : D → DiskCall → D → Type 0)
    (line : Said) (h : HostState D) (start : Option (List ℕ)) (ended : Result (Unit {0}) Fault)
    (now : Option (List ℕ)) (h' : HostState D) : Type 0 where
  pub did : LineEnded line h start ended now h'
  pub moves : Moves shows makes h.board h'.board
  pub whole : is_broken h'.board ≡ false → is_broken h.board ≡ false
  pub calm : IsCalm shows h.board → IsCalm shows h'.board
