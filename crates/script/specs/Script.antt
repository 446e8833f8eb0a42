-- What a script says.
use Rattle.std.specs.Prelude.{ℕ, ◌+◌, ◌==◌, List, [], ◌∷◌, Option, Some, None, if◌then◌else◌}
use Rattle.std.specs.Prelude.{is_some, option_map}
use Rattle.std.specs.List.{slice_split}
use Rattle.script.specs.Line.{Said, line_of, served_line_of}

-- a line feed parts a line from the next, and nothing else does
unfoldable pub lines_of : List ℕ → List (List ℕ)
lines_of script = slice_split (λ b. b == 10) script

-- the number of the first line that says nothing by this reading, counted from 1
unfoldable pub first_none : (List ℕ → Option Said) → List (List ℕ) → Option ℕ
first_none reads [] = None
first_none reads (line ∷ lines) =
    if is_some (reads line) then option_map (λ n. n + 1) (first_none reads lines)
    else Some 1

-- of the first that says nothing a script may say, and of the first that says nothing a script may
-- say that is served
abbrev pub first_bad : ℕ → List (List ℕ) → Option ℕ
first_bad guests lines = first_none (line_of guests) lines

abbrev pub first_unserved : ℕ → List (List ℕ) → Option ℕ
first_unserved guests lines = first_none (served_line_of guests) lines
