-- The commands of the program, and what a list of words asks for. The words of `clap` say what its
-- parse finds in a command line (`subcommand_of`) and for which kinds of error it refuses one
-- (`fault_of`).
use Rattle.std.specs.Prelude.{◌≡◌, ⊤, Bool, List, Option, None, Some, codes, false, true}
use Rattle.std.specs.Prelude.{if◌then◌else◌}
use Rattle.std.specs.Option.{option_copied}
use Rattle.std.specs.Str.{bytes_eq}
use Rattle.clap.specs.declared.builder.action.ArgAction.TheVariants.{SetTrue}
use Rattle.clap.specs.Words.{App, fault_of, subcommand_of, Row, Rule, Text, first_of, new_app}
use Rattle.clap.specs.Words.{new_rule, with_rule, with_subcommand}
use Rattle.clap.specs.Kinds.{IsAmong, Kinds}
use Rattle.clap.specs.Values.{kind_of}
use Rattle.command_line.specs.declared.grammar.Files.{Files}
use Rattle.command_line.specs.declared.grammar.Files.TheVariants.{Board, BoardAndScript, Fresh}
use Rattle.command_line.specs.declared.grammar.Files.TheVariants.{Shown}
use Rattle.command_line.specs.declared.words.WordsError.{WordsError}
use Rattle.command_line.specs.declared.words.WordsError.TheVariants.{Incomplete, NoMemory, Refused}
use Rattle.command_line.specs.declared.words.Values.{Values}
use Rattle.command_line.specs.declared.command.ImageVersion.{ImageVersion}
use Rattle.command_line.specs.declared.command.ImageVersion.TheVariants.{One, Two}
use Rattle.command_line.specs.declared.command.Command.{Command}
use Rattle.command_line.specs.declared.command.Command.TheVariants as command

abbrev pub required : Text → Rule
required id = record (new_rule id) { required = true }

-- `--NAME` alone
abbrev pub flag : Text → Rule
flag id = record (new_rule id) { long = Some id; action = Some SetTrue }

-- `--NAME VALUE`
abbrev pub option : Text → Rule
option id = record (new_rule id) { long = Some id; value_names = 1 }

-- a command that takes a board file
abbrev pub on_board : Text → App
on_board name = with_rule (new_app name) (required (codes "BOARD"))

-- a command that takes a board file and a script
abbrev pub on_script : Text → App
on_script name = with_rule (on_board name) (required (codes "SCRIPT"))

-- a command that makes an image of a board
abbrev pub on_fresh : Text → App
on_fresh name =
    with_rule (with_rule (on_board name) (flag (codes "new"))) (option (codes "image-version"))

-- a command that shows an image of a board
abbrev pub on_shown : Text → App
on_shown name = with_rule (on_board name) (flag (codes "json"))

-- a command that takes these files
abbrev pub command_of : Files → Text → App
command_of Fresh name = on_fresh name
command_of Shown name = on_shown name
command_of Board name = on_board name
command_of BoardAndScript name = on_script name

-- the program's name alone, which has a version and wants a command
abbrev pub bare : App
bare =
    let app = new_app (codes "rpmbd") in
    record app { top = record app.top { has_version = true; subcommand_required = true } }

-- the program with its commands; `clap` adds `help`, the flags `-h` and `--help` on each level, and
-- `-V` and `--version` on the first
unfoldable pub program : App
program =
    with_subcommand (with_subcommand
    (with_subcommand (with_subcommand (with_subcommand bare (on_fresh (codes "format")).top)
    (on_shown (codes "show")).top) (on_board (codes "upgrade")).top) (on_script (codes "run")).top)
    (on_script (codes "serve")).top

-- the values of a command's arguments, of those that have one
pub record Texts : Type 0 where
  pub board : Option Text
  pub script : Option Text
  pub only_new : Option Text
  pub version : Option Text
  pub json : Option Text

abbrev pub texts_in : List Row → Texts
texts_in rows = record {
  board = first_of (codes "BOARD") rows;
  script = first_of (codes "SCRIPT") rows;
  only_new = first_of (codes "new") rows;
  version = first_of (codes "image-version") rows;
  json = first_of (codes "json") rows;
}

abbrev pub texts_of : Values → Texts
texts_of v = record {
  board = option_copied v.board;
  script = option_copied v.script;
  only_new = option_copied v.only_new;
  version = option_copied v.version;
  json = option_copied v.json;
}

-- a flag that is given has the value `true`
abbrev pub is_given : Option Text → Bool
is_given None = false
is_given (Some word) = bytes_eq word (codes "true")

-- 1 or 2, and 1 where nothing is said
abbrev pub version_of : Option Text → Option ImageVersion
version_of None = Some One
version_of (Some word) =
    if bytes_eq word (codes "1") then Some One
    else if bytes_eq word (codes "2") then Some Two
    else None

-- a command's name and the values of its arguments ask for the command, on its files
abbrev pub AsksFor : Text → Texts → Command → Type 0
AsksFor name texts (command.Format b only_new version) =
    (name ≡ codes "format") × (texts.board ≡ Some b.now) × (is_given texts.only_new ≡ only_new)
    × (version_of texts.version ≡ Some version)
AsksFor name texts (command.Show b as_json) =
    (name ≡ codes "show") × (texts.board ≡ Some b.now) × (is_given texts.json ≡ as_json)
AsksFor name texts (command.Upgrade b) = (name ≡ codes "upgrade") × (texts.board ≡ Some b.now)
AsksFor name texts (command.Run b s) =
    (name ≡ codes "run") × (texts.board ≡ Some b.now) × (texts.script ≡ Some s.now)
AsksFor name texts (command.Serve b s) =
    (name ≡ codes "serve") × (texts.board ≡ Some b.now) × (texts.script ≡ Some s.now)

-- what `clap` finds in the words asks for the command: it is a command's name with its matches
abbrev pub IsAskedBy : Option (Text × List Row) → Command → Type 0
IsAskedBy None c = ⊥
IsAskedBy (Some found) c = AsksFor found.0 (texts_in found.1) c

-- an error of one of the kinds, or want of memory
abbrev pub IsToldBy : Kinds → WordsError → Type 0
IsToldBy kinds (Refused e) = IsAmong (kind_of e) kinds
IsToldBy kinds Incomplete = ⊥
IsToldBy kinds NoMemory = ⊤

-- `clap` refuses the words by a kind of error that they call for, or what it finds asks for nothing
abbrev pub IsRefusal : List Text → WordsError → Type 0
IsRefusal words Incomplete = (c : Command) → ¬ IsAskedBy (subcommand_of program words) c
IsRefusal words error = IsToldBy (fault_of program words) error
