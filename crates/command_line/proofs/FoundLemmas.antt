-- What the getters of clap's matches give, as facts of the subcommand that was found.
use Rattle.std.proofs.Common.{◌≡◌, ◌∙◌, List, Option, Some, None, ap, ap₂, refl, sym, subst, codes}
use Rattle.std.specs.Prelude.{IfNone, IfSome, option_map}
use Rattle.clap.specs.Words.{Row, Text, first_value, found_of, rows_of, subcommand_name_of}
use Rattle.clap.specs.Words.{subcommand_rows_of}
use Rattle.clap.specs.Simple.{subcommand_rows}
use Rattle.clap.specs.declared.parser.matches.ArgMatches.{ArgMatches}
use Rattle.clap.specs.declared.parser.matches.ArgMatches.TheViews.{out-ArgMatches, out-SubCommand}
use Rattle.clap.proofs.WalkLemmas.{first_value-rows}
use Rattle.command_line.specs.Program.{AsksFor, IsAskedBy, Texts, texts_in}
use Rattle.command_line.specs.declared.command.Command.{Command}

name_in_rows : (m : ArgMatches)
    → subcommand_name_of m ≡ option_map (λ f. f.0) (subcommand_rows_of m)
name_in_rows m =
    elim (out-ArgMatches m).subcommand as (λ s. option_map (λ b. (out-SubCommand b.value).name.now)
    s ≡ option_map (λ f. f.0) (subcommand_rows s)) [
      | None ↦ refl
      | Some b ↦ refl
    ]

-- the subcommand that was found, by its name and its matches
found_some : (found : Option (Text × List Row)) (name : Text) (rows : List Row)
    → Some name ≡ option_map (λ f. f.0) found
    → Some rows ≡ option_map (λ f. f.1) found → found ≡ Some (name, rows)
found_some None name rows n r = cc
found_some (Some f) name rows n r =
    let first : f.0 ≡ name = cc in
    let second : f.1 ≡ rows = cc in
    ap₂ (λ (x : Text) (y : List Row). Some (x, y)) first second

-- the facts that the getters give of a subcommand
pub record Reads (m inner : ArgMatches) (name : Text) (texts : Texts) : Type 0 where
  pub called : Some name ≡ subcommand_name_of m
  pub rows : Some (rows_of (found_of inner)) ≡ option_map (λ f. f.1) (subcommand_rows_of m)
  pub found : texts ≡ texts_in (rows_of (found_of inner))

same_task : (m inner : ArgMatches) (name : Text) (texts : Texts) (t : Command)
    → Reads m inner name texts
    → AsksFor name texts t ≡ IsAskedBy (subcommand_rows_of m) t
same_task m inner name texts t reads =
    ap (λ (x : Texts). AsksFor name x t) reads.found
    ∙ sym (ap (λ (f : Option (Text × List Row)). IsAskedBy f t)
    (found_some (subcommand_rows_of m) name _ (reads.called ∙ name_in_rows m) reads.rows))

pub some_asked : (m inner : ArgMatches) (name : Text) (texts : Texts) (r : Option Command)
    → Reads m inner name texts
    → IfSome r (AsksFor name texts) → IfSome r (IsAskedBy (subcommand_rows_of m))
some_asked m inner name texts None reads asks = asks
some_asked m inner name texts (Some t) reads asks =
    subst (λ (X : Type 0). X) (same_task m inner name texts t reads) asks

pub none_asked : (m inner : ArgMatches) (name : Text) (texts : Texts) (r : Option Command)
    → Reads m inner name texts
    → IfNone r ((t : Command) → ¬ AsksFor name texts t)
    → IfNone r ((t : Command) → ¬ IsAskedBy (subcommand_rows_of m) t)
none_asked m inner name texts (Some t) reads never = never
none_asked m inner name texts None reads never =
    λ t by. never t (subst (λ (X : Type 0). X) (sym (same_task m inner name texts t reads)) by)

-- the values that the getters give are those of the rows
pub all_found : (m : ArgMatches) (b s n v j : Option Text)
    → b ≡ first_value (found_of m) (codes "BOARD")
    → s ≡ first_value (found_of m) (codes "SCRIPT") → n ≡ first_value (found_of m) (codes "new")
    → v ≡ first_value (found_of m) (codes "image-version")
    → j ≡ first_value (found_of m) (codes "json")
    → record { board = b; script = s; only_new = n; version = v; json = j }
    ≡ texts_in (rows_of (found_of m))
all_found m b s n v j is-b is-s is-n is-v is-j =
    let rows = first_value-rows (found_of m) in
    rw (
      is-b ∙ rows (codes "BOARD"),
      is-s ∙ rows (codes "SCRIPT"),
      is-n ∙ rows (codes "new"),
      is-v
          ∙ rows (codes "image-version"),
      is-j ∙ rows (codes "json"),
    ) refl
