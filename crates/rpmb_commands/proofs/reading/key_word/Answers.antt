use Rattle.std.proofs.Common.{None, refl, lit<}
use Rattle.std.proofs.lemmas.Str.Pattern.{strip_prefix_char}
use Rattle.rpmb_commands.proofs.reading.key_word.Goals as goal

pub returns-in-None : goal.returns-in-None
returns-in-None c = (
  refl,
  strip_prefix_char 64 c.args.word.now None c.in-None.ensures.cases
      (lit< tt),
)
