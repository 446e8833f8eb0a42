use Rattle.std.proofs.Common.{◌∙◌}
use Rattle.board_file.proofs.TableLemmas.{has_only-entries}
use Rattle.board_file.proofs.keys.unknown_key.Goals as goal

pub returns-clause-none : goal.returns-clause-none
returns-clause-none c = c.first_unknown.ensures.none ∙ has_only-entries _ c.args.table.now.entries
