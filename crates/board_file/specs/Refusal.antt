-- When a refusal comes for what stands in a board file, and not for want of memory.
use Rattle.std.specs.Prelude.{⊤}
use Rattle.board_file.specs.declared.fault.BoardError.{BoardError}
use Rattle.board_file.specs.declared.fault.BoardError.TheVariants.{BadBoard, NoMemory}

-- this holds, if the board file is refused for what it says
abbrev pub IfBad : Type 0 → BoardError → Type 0
IfBad holds (BadBoard flaw) = holds
IfBad holds NoMemory = ⊤
