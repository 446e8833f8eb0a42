use Rattle.std.proofs.Common.{◌∙◌, arith, lit<}
use Rattle.script.proofs.NumberLemmas.{number_is}
use Rattle.script.proofs.word.read_number.Goals as goal

pub returns : goal.returns
returns c =
    let tested = c.starts_with.ensures.byte (lit< tt) (lit< tt) (λ w o h. h) in
    c.ok.ensures.value ∙ number_is c.args.word.now _ c.parse.ensures.value.0
    (grind (arith, tested, c.if-starts_with.false))
