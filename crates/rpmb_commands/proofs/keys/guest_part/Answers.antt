use Rattle.std.proofs.Common.{None, lit<}
use Rattle.std.proofs.lemmas.Str.Pattern.{split_parts, strip_prefix_char}
use Rattle.rpmb_commands.proofs.KeyLemmas.{parted}
use Rattle.rpmb_commands.proofs.keys.guest_part.Goals as goal

pub returns-in-None : goal.returns-in-None
returns-in-None c =
    parted c.args.word.now c.split_once.result
    (strip_prefix_char 64 c.args.word.now None c.in-None.ensures.cases (lit< tt))
    (split_parts 61 c.args.word.now c.split_once.result c.split_once.ensures.cases (lit< tt))
