-- What `clap` promises of a simple command, at the program's own.
use Rattle.std.proofs.Common.{Option, ◌≡◌, ◌∙◌, List, [], ap, refl, sym, subst, true}
use Rattle.clap.specs.Words.{App, Row, HasMatchesOf, Text, fault_of, is_simple, is_simple_and_free}
use Rattle.clap.specs.Words.{subcommand_of, subcommand_rows_of}
use Rattle.clap.specs.Kinds.{HasKind}
use Rattle.clap.specs.declared.error.Error.{Error}
use Rattle.clap.specs.declared.parser.matches.ArgMatches.{ArgMatches}
use Rattle.clap.proofs.OnLiterals.{clap_on_literals}
use Rattle.command_line.specs.Program.{IsAskedBy, IsRefusal, IsToldBy, program}
use Rattle.command_line.specs.declared.command.Command.{Command}
use Rattle.command_line.specs.declared.words.WordsError.{WordsError}
use Rattle.command_line.specs.declared.words.WordsError.TheVariants.{Incomplete, NoMemory, Refused}

program_is_simple : is_simple program ≡ true
unfolding clap_on_literals program
program_is_simple = refl

program_is_free : is_simple_and_free program ≡ true
unfolding clap_on_literals program
program_is_free = refl

found_is : (a : App) (words : List Text) (m : ArgMatches) → a ≡ program → HasMatchesOf a words m
    → subcommand_rows_of m ≡ subcommand_of program words
found_is a words m is h =
    (h (ap is_simple is ∙ program_is_simple)).1 ∙ ap (λ (x : App). subcommand_of x words) is

pub asked : (a : App) (words : List Text) (m : ArgMatches) (t : Command) → a ≡ program
    → HasMatchesOf a words m
    → IsAskedBy (subcommand_rows_of m) t → IsAskedBy (subcommand_of program words) t
asked a words m t is h by = subst (λ (f : Option (Text × List Row)). IsAskedBy f t)
    (found_is a words m is h) by

pub no_fault : (a : App) (words : List Text) → a ≡ program
    → (is_simple_and_free a ≡ true → fault_of a words ≡ []) → fault_of program words ≡ []
no_fault a words is h =
    subst (λ (x : App). fault_of x words ≡ []) is (h (ap is_simple_and_free is ∙ program_is_free))

pub kinds_are : (a : App) (words : List Text) (e : Error) → a ≡ program
    → (is_simple_and_free a ≡ true → HasKind (fault_of a words) e)
    → HasKind (fault_of program words) e
kinds_are a words e is h =
    subst (λ (x : App). HasKind (fault_of x words) e) is
    (h (ap is_simple_and_free is ∙ program_is_free))

pub refusal : (words : List Text) (e : WordsError) → IsToldBy (fault_of program words) e
    → IsRefusal words e
refusal words (Refused e) told = told
refusal words Incomplete told = absurd told
refusal words NoMemory told = tt

pub not_asked : (a : App) (words : List Text) (m : ArgMatches) (t : Command) → a ≡ program
    → HasMatchesOf a words m
    → (IsAskedBy (subcommand_rows_of m) t → ⊥) → IsAskedBy (subcommand_of program words) t → ⊥
not_asked a words m t is h never by =
    never (subst (λ (f : Option (Text × List Row)). IsAskedBy f t) (sym (found_is a words m is h))
    by)
