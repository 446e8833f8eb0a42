-- The line of a script that offers a chain.
use Rattle.std.specs.Prelude.{ℕ, List, ◌++◌, codes}
use Rattle.std.specs.Fmt.{decimal}
use Rattle.script.specs.Words.{shown}

-- the line without its line feed: guest, readable bytes, writable length
unfoldable pub chain_text : ℕ → List ℕ → ℕ → List ℕ
chain_text guest readable writable =
    codes "chain " ++ decimal guest ++ codes " " ++ shown readable ++ codes " " ++ decimal writable
