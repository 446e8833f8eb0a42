-- When a refusal comes for what stands in a script, and not for want of memory.
use Rattle.std.specs.Prelude.{ℕ, ⊤}
use Rattle.script.specs.declared.fault.LineError.{LineError}
use Rattle.script.specs.declared.fault.LineError.TheVariants as line
use Rattle.script.specs.declared.fault.ScriptError.{ScriptError}
use Rattle.script.specs.declared.fault.ScriptError.TheVariants as script

-- this holds, if the line is refused for what it says
abbrev pub IfBad : Type 0 → LineError → Type 0
IfBad holds (line.BadScript flaw) = holds
IfBad holds line.NoMemory = ⊤

-- this holds of the number of the line for which the script is refused, if it is for a line
abbrev pub IfBadLine : (ℕ → Type 0) → ScriptError → Type 0
IfBadLine holds (script.BadScript number flaw) = holds number
IfBadLine holds script.NoMemory = ⊤
