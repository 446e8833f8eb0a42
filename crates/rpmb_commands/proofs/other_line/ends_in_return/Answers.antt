use Rattle.std.proofs.Common.{◌∷◌, []}
use Rattle.std.proofs.lemmas.Str.Pattern.{ends_text}
use Rattle.rpmb_commands.proofs.other_line.ends_in_return.Goals as goal

pub returns : goal.returns
returns c = ends_text c.ends_with.result (13 ∷ []) c.args.line.now c.ends_with.ensures.cases
