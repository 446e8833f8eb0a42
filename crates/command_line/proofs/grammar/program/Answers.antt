use Rattle.std.proofs.Common.{◌≡◌, ◌∙◌, ap, codes, subst}
use Rattle.std.specs.Prelude.{IfOk}
use Rattle.clap.specs.Words.{App, app_of, with_subcommand}
use Rattle.command_line.specs.Program.{on_board, on_fresh, on_script, on_shown, program}
use Rattle.command_line.proofs.grammar.program.Goals as goal

abbrev with_command : App → App → App
with_command command a = with_subcommand a command.top

pub returns : goal.returns
unfolding program
returns c =
    let formats = c.in_ok-program.ensures ∙ ap (with_command (on_fresh (codes "format")))
    c.bare.ensures in
    let shows = c.in_ok-program-2.ensures ∙ ap (with_command (on_shown (codes "show"))) formats in
    let upgrades = c.in_ok-program-3.ensures ∙ ap (with_command (on_board (codes "upgrade"))) shows
    in
    let runs = c.in_ok-program-4.ensures ∙ ap (with_command (on_script (codes "run"))) upgrades in
    subst (λ (a : App). IfOk c.with_command-5.result (λ p.
    app_of p ≡ with_command (on_script (codes "serve")) a)) runs
    c.with_command-5.ensures
