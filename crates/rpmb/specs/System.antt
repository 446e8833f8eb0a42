-- The files of the system.
use Rattle.std.specs.Prelude.{ℕ, List}

-- of them no contract says what they give
abbrev pub any_file : List ℕ → List ℕ → Type 0
any_file name bytes = Unit {0}
