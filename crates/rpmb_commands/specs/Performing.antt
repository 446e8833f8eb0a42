-- What a command has done, by its name.
use Rattle.std.specs.Prelude.{if◌then◌else◌, ℕ, ◌≡◌, Bool, true, false, List, Option, Result, Ok}
use Rattle.std.specs.Prelude.{Err}
use Rattle.std.specs.Prelude.{codes}
use Rattle.std.specs.Str.{bytes_eq}
use Rattle.std.specs.Io.KnownBytes.{Keeps}
use Rattle.rpmb_commands.specs.Explaining.{ExplainDoes}
use Rattle.rpmb_commands.specs.ReadingData.{ReadDataDoes}
use Rattle.rpmb_commands.specs.Making.{MakeDoes}
use Rattle.rpmb_commands.specs.Refusing.{refusal_status}
use Rattle.rpmb_commands.specs.Writing.{WriteDoes}
use Rattle.rpmb_commands.specs.declared.asked.Asked.{Asked}
use Rattle.rpmb_commands.specs.declared.asked.Asked.TheVariants as asked
use Rattle.rpmb_commands.specs.declared.asked.Making.TheVariants as making
use Rattle.rpmb_commands.specs.declared.refusal.Refusal.{Refusal}
use Rattle.rpmb_commands.specs.declared.refusal.Refusal.TheVariants as refusal
use Rattle.rpmb_commands.specs.declared.words.Words.{Words}

-- the command of a name
unfoldable pub asked_of : List ℕ → Asked
asked_of name =
    if bytes_eq name (codes "program-key") then asked.Make making.ProgramKey
    else (if bytes_eq name (codes "read-counter") then asked.Make making.ReadCounter
    else (if bytes_eq name (codes "write") then asked.Write
    else (if bytes_eq name (codes "read") then asked.Make making.Read
    else (if bytes_eq name (codes "result") then asked.Make making.Outcome
    else (if bytes_eq name (codes "explain") then asked.Explain
    else (if bytes_eq name (codes "read-data") then asked.ReadData
    else (if bytes_eq name (codes "check") then asked.Check
    else asked.Unknown)))))))

-- What a command has done, that was given these lines. Nothing is said here of `check`.
abbrev pub Does : (List ℕ → List ℕ → Type 0) → Asked → Words → (given start : Option (List ℕ))
    → Result (Unit {0}) Refusal → Option (List ℕ) → Type 0
Does gives (asked.Make making) words given start ended now =
    MakeDoes gives making words start ended now
Does gives asked.Write words given start ended now = WriteDoes gives words start ended now
Does gives asked.Explain words given start ended now =
    ExplainDoes gives words given start ended now
Does gives asked.ReadData words given start ended now =
    ReadDataDoes gives words given start ended now
Does gives other words given start ended now = Unit {0}

-- how it ends, once all is flushed or standard output took no more
abbrev pub after_flush : Bool → Result (Unit {0}) Refusal → Result (Unit {0}) Refusal
after_flush true ended = ended
after_flush false (Ok done) = Err refusal.NoRoom
after_flush false (Err r) = Err r

abbrev pub status_of : Result (Unit {0}) Refusal → ℕ
status_of (Ok done) = 0
status_of (Err r) = refusal_status r

-- A command was performed, and its end told by a status.
pub record Performs (gives : List ℕ → List ℕ → Type 0) (words : Words)
    (given start : Option (List ℕ)) (status : ℕ) (now : Option (List ℕ)) : Type 0 where
  pub ended : Result (Unit {0}) Refusal
  pub flushed : Bool
  pub written : Option (List ℕ)
  pub does : Does gives (asked_of words.command.now) words given start ended written
  pub kept : Keeps written now
  pub told : status ≡ status_of (after_flush flushed ended)
