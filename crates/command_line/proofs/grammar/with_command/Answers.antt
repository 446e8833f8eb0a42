use Rattle.command_line.proofs.GrammarLemmas.{one_more}
use Rattle.command_line.proofs.grammar.with_command.Goals as goal

pub returns : goal.returns
returns c =
    one_more _ _ _ _ c.in_ok-command.ensures.shape c.in_ok-command.ensures.local
    c.subcommand.ensures
