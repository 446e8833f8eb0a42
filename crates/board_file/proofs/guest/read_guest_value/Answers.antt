use Rattle.std.proofs.Common.{◌≡◌, ◌∙◌, Some, rules, subst, sym}
use Rattle.std.proofs.lemmas.Option.{same_Some}
use Rattle.std.proofs.lemmas.Result.{IfErr-weaker}
use Rattle.toml.specs.Data.{as_table}
use Rattle.toml.specs.View.{table_view, view}
use Rattle.board_file.specs.Guest.{GivesNoGuest, IsGuestTable, IsNoGuestValue}
use Rattle.board_file.specs.Refusal.{IfBad}
use Rattle.board_file.proofs.TableLemmas.{if_bad_so}
use Rattle.board_file.proofs.guest.read_guest_value.Goals as goal

pub returns-in-Some-clause-bad : goal.returns-in-Some-clause-bad
returns-in-Some-clause-bad c =
    let table = table_view c.in-Some.table.now in
    let same : as_table (view c.args.value.now) ≡ Some table = search rules in
    let none = GivesNoGuest table in
    let no_value = IsNoGuestValue (view c.args.value.now) in
    IfErr-weaker c.read_guest.result (IfBad none) (IfBad no_value)
    (λ why. if_bad_so none no_value why (λ no g d value.
    no g d (subst (λ t. IsGuestTable t g d) (same_Some _ _ (sym value.1 ∙ same)) value.2)))
    c.read_guest.ensures.bad
