use Rattle.rpmb_commands.proofs.ObjectLemmas.{string_written}
use Rattle.rpmb_commands.proofs.other_line.string_of.Goals as goal

pub returns : goal.returns
returns c =
    string_written c.string.result c.in_ok-string.field-0 c.new-writer.result c.string.new.self
    c.new.result.items c.into_inner.result.items c.args.text.now c.in_ok-string.was
    c.string.ensures c.new.ensures.items c.new-writer.ensures.before c.new-writer.ensures.tokens
    c.into_inner.ensures.items
