-- What a script prints where a call of the disk fails while it runs.
use Rattle.std.specs.Prelude.{ℕ, zero, suc, Bool, true, false, List, [], ◌∷◌, ◌++◌}
use Rattle.std.specs.Prelude.{Option, Some, None, get_or}
use Rattle.disk.specs.Disk.{DiskState, HasRisen}
use Rattle.script.specs.Line.{Said, nothing, chain, store, reset}
use Rattle.host.specs.Host.{sessions_after}
use Rattle.host.specs.Ready.{job_of}
use Rattle.commands.specs.Running.{IsChain}
use Rattle.queue_looks.specs.Runner.{cores_when, reply_when}
use Rattle.commands.specs.Transcript.{Told, printed_by, told_by, transcript, told_after, used_line}

-- 1. The text

-- what a line prints, by whether a call of the disk had failed before it, and whether one has by
-- its end
abbrev pub printed_since : Bool → Bool → Told → Said → List ℕ
printed_since was broke t nothing = []
printed_since was broke t (chain guest readable writable) =
    used_line guest (reply_when was broke t.cores
    (job_of guest (get_or t.sessions guest 0) readable writable))
printed_since was broke t (store guest at bytes) = []
printed_since was broke t (reset guest) = []

-- and what it makes of the guests
abbrev pub told_since : Bool → Bool → Told → Said → Told
told_since was broke t nothing = t
told_since was broke t (chain guest readable writable) =
    record t {
      cores = cores_when was broke t.cores
          (job_of guest (get_or t.sessions guest 0) readable writable);
    }
told_since was broke t (store guest at bytes) = t
told_since was broke t (reset guest) = record t { sessions = sessions_after t.sessions guest }

-- what lines print over a store that is broken
unfoldable pub failures : Told → List Said → List ℕ
failures t [] = []
failures t (line ∷ lines) =
    printed_since true true t line ++ failures (told_since true true t line) lines

-- and what they make of the guests
unfoldable pub told_broken : Told → List Said → Told
told_broken t [] = t
told_broken t (line ∷ lines) = told_broken (told_since true true t line) lines

-- What lines print where a call fails first in line n, counted from 0: those before it as if none
-- failed, and those after it over a broken store.
unfoldable pub transcript_until : ℕ → Told → List Said → List ℕ
transcript_until n t [] = []
transcript_until zero t (line ∷ lines) =
    printed_since false true t line ++ failures (told_since false true t line) lines
transcript_until (suc n) t (line ∷ lines) =
    printed_by t line ++ transcript_until n (told_by t line) lines

unfoldable pub told_until : ℕ → Told → List Said → Told
told_until n t [] = t
told_until zero t (line ∷ lines) = told_broken (told_since false true t line) lines
told_until (suc n) t (line ∷ lines) = told_until n (told_by t line) lines

-- the same, by the line in which a call failed first, if there is one
abbrev pub text_when : Option ℕ → Told → List Said → List ℕ
text_when None t lines = transcript t lines
text_when (Some n) t lines = transcript_until n t lines

abbrev pub told_when : Option ℕ → Told → List Said → Told
told_when None t lines = told_after t lines
told_when (Some n) t lines = told_until n t lines

-- 2. The line in which a call failed first

-- line n, counted from 0, is there, and is a chain
abbrev pub IsChainAt : ℕ → List Said → Type 0
IsChainAt n [] = ⊥
IsChainAt zero (line ∷ lines) = IsChain line
IsChainAt (suc n) (line ∷ lines) = IsChainAt n lines

-- a broken store is one that broke in a chain of these lines
abbrev pub IsFailedIn : Bool → Option ℕ → List Said → Type 0
IsFailedIn false None lines = Unit {0}
IsFailedIn false (Some n) lines = ⊥
IsFailedIn true None lines = ⊥
IsFailedIn true (Some n) lines = IsChainAt n lines

-- where there is such a line, it is a chain, and a call of the disk has failed
abbrev pub HasFailed : Option ℕ → List Said → DiskState → DiskState → Type 0
HasFailed None lines old new = Unit {0}
HasFailed (Some n) lines old new = IsChainAt n lines × HasRisen old.failures new.failures
