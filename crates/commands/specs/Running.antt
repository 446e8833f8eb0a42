-- Where a run stands whose guests are all ready.
use Rattle.std.specs.Prelude.{◌≡◌, ℕ, ◌+◌, ◌<◌, ◌≤◌, All, List, [], ◌∷◌, length}
use Rattle.script.specs.Line.{IsWithin, Said, chain, said}
use Rattle.script.specs.declared.line.Line.{Line}
use Rattle.host.specs.Host.{HostView, AreReady}
use Rattle.commands.specs.Transcript.{Told}

-- a chain has the sizes that a driver may offer
abbrev pub IsSized : Said → Type 0
IsSized (chain guest readable writable) =
    (length readable ≤ 8704) × (writable ≤ 8192) × (0 < length readable + writable)
IsSized line = Unit {0}

-- the host stands where the lines so far have brought it, with each guest ready
pub record IsAt (steps : ℕ) (t : Told) (h : HostView) : Type 0 where
  pub cores : h.runner.cores ≡ t.cores
  pub ready : AreReady steps t.sessions h.guests

abbrev pub IsChain : Said → Type 0
IsChain (chain guest readable writable) = Unit {0}
IsChain line = ⊥

-- how many requests a line adds to the history
abbrev pub answered_by : Said → ℕ
answered_by (chain guest readable writable) = 1
answered_by line = 0

-- and lines
abbrev pub answered_in : List Said → ℕ
answered_in [] = 0
answered_in (line ∷ lines) = answered_by line + answered_in lines

-- the lines name guests of a board of so many
abbrev pub AreWithin : ℕ → List Line → Type 0
AreWithin guests lines = All (λ line. IsWithin guests (said line)) lines
