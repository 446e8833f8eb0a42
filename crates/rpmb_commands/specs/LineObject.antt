-- A line that gives no reply, in an object (RFC 8259).
use Rattle.std.specs.Prelude.{if◌then◌else◌, Bool, List, ℕ, [], ◌∷◌, ◌++◌, codes}
use Rattle.json.specs.Print.{quoted}

abbrev pub truth : Bool → List ℕ
truth is = if is then codes "true" else codes "false"

-- an object of a string, and of whether its line was torn, and whether it is of a script
unfoldable pub object_of : List ℕ → Bool → Bool → List ℕ
object_of string torn of_script =
    codes "{\"line\":" ++ (string ++ (codes ",\"torn\":" ++ (truth torn
    ++ (codes ",\"of_script\":" ++ (truth of_script ++ (codes "}" ++ 10 ∷ []))))))

-- the line stands there as a string, with the escapes that a string needs (7)
abbrev pub line_object : List ℕ → Bool → Bool → List ℕ
line_object line torn of_script = object_of (quoted line) torn of_script
