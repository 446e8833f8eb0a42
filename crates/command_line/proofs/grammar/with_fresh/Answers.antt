use Rattle.std.proofs.Common.{◌≡◌, ap, ◌∙◌, codes, subst}
use Rattle.std.specs.Prelude.{IfOk}
use Rattle.clap.specs.Words.{App, Rule, app_of, rule_of, with_rule}
use Rattle.command_line.specs.Program.{flag, option}
use Rattle.command_line.proofs.grammar.with_fresh.Goals as goal

pub returns-clause-shape : goal.returns-clause-shape
returns-clause-shape c =
    let first = c.in_ok-command.ensures.shape
    ∙ ap (λ (r : Rule). with_rule (app_of c.args.command) r) c.flag.ensures.rule in
    subst (λ (r : Rule). IfOk c.with_argument-2.result (λ x.
    app_of x ≡ with_rule (with_rule (app_of c.args.command) (flag (codes "new"))) r))
    c.option.ensures.rule
    (subst (λ (a : App). IfOk c.with_argument-2.result (λ x.
    app_of x ≡ with_rule a (rule_of c.option.result))) first c.with_argument-2.ensures.shape)
