-- Why a command is refused, and what it has printed then.
use Rattle.std.specs.Prelude.{ℕ, ◌≢◌, List, Option, Result, Ok, Err}
use Rattle.std.specs.Io.KnownBytes.{Keeps}
use Rattle.rpmb_client.specs.declared.refusal.OptionRefusal.{OptionRefusal}
use Rattle.rpmb_client.specs.declared.refusal.OptionRefusal.TheVariants as option
use Rattle.rpmb_client.specs.declared.fault.ClientFault.{ClientFault}
use Rattle.rpmb_client.specs.declared.fault.ClientFault.TheVariants as fault
use Rattle.rpmb_commands.specs.declared.refusal.AnswerRefusal.TheVariants as answer
use Rattle.rpmb_commands.specs.declared.refusal.Refusal.{Refusal}
use Rattle.rpmb_commands.specs.declared.refusal.Refusal.TheVariants as refusal

-- the refusal of an option
abbrev pub refusal_of : OptionRefusal → Refusal
refusal_of option.NoMemory = refusal.NoMemory
refusal_of told = refusal.Option told

-- and of what a client couldn't do
abbrev pub refusal_of_fault : ClientFault → Refusal
refusal_of_fault fault.NoMemory = refusal.NoMemory
refusal_of_fault fault.FileFault = refusal.NoRoom

-- memory was refused, or standard output took no more
abbrev pub IsOfWriting : Refusal → Type 0
IsOfWriting refusal.NoMemory = Unit {0}
IsOfWriting refusal.NoRoom = Unit {0}
IsOfWriting r = ⊥

-- memory was refused, or standard input wasn't read
abbrev pub IsOfReading : Refusal → Type 0
IsOfReading (refusal.NoInput got) = Unit {0}
IsOfReading (refusal.LongLine line) = Unit {0}
IsOfReading refusal.NoMemory = Unit {0}
IsOfReading r = ⊥

-- nothing was printed, unless standard output took no more
abbrev pub KeepsUnless : Refusal → Option (List ℕ) → Option (List ℕ) → Type 0
KeepsUnless r start now = r ≢ refusal.NoRoom → Keeps start now

-- what a client made, or the refusal
abbrev pub told_as : Result (Unit {0}) ClientFault → Result (Unit {0}) Refusal
told_as (Ok done) = Ok done
told_as (Err f) = Err (refusal_of_fault f)

-- the status of a command that is refused: 3 where only requests were, and all answers are right
abbrev pub refusal_status : Refusal → ℕ
refusal_status (refusal.Answer (answer.RefusedAnswer replies refused results)) = 3
refusal_status (refusal.Answer (answer.Refused result)) = 3
refusal_status r = 1
