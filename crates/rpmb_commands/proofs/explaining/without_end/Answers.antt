use Rattle.std.proofs.Common.{None, Some, ◌∙◌, ap, sym, lit<}
use Rattle.std.proofs.lemmas.Str.Pattern.{strip_suffix_char}
use Rattle.rpmb_commands.specs.Explaining.{without_feed}
use Rattle.rpmb_commands.proofs.Lines.{without_feed-of_feed, without_feed-of_none}
use Rattle.rpmb_commands.proofs.explaining.without_end.Goals as goal

pub returns-in-Some : goal.returns-in-Some
returns-in-Some c =
    sym (ap without_feed (strip_suffix_char 10 c.args.line.now (Some c.in-Some.line)
    c.in-Some.ensures.cases (lit< tt)) ∙ without_feed-of_feed c.in-Some.line.now)

pub returns-in-None : goal.returns-in-None
returns-in-None c = sym (without_feed-of_none c.args.line.now
    (strip_suffix_char 10 c.args.line.now None c.in-None.ensures.cases (lit< tt)))
