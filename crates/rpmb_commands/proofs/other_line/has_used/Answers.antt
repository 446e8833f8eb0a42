use Rattle.std.proofs.Common.{◌∙◌, ap, lit<, refl, sym}
use Rattle.std.specs.Prelude.{◌||◌}
use Rattle.std.proofs.lemmas.Iterator.Consumers.{YieldsList-at, YieldsList-end}
use Rattle.std.proofs.lemmas.Iterator.Splits.{YieldsList-from_str_split}
use Rattle.std.specs.List.{list_any}
use Rattle.rpmb_commands.specs.Explaining.{is_used}
use Rattle.rpmb_commands.proofs.Lines.{any_so_far}
use Rattle.rpmb_commands.proofs.other_line.has_used.Goals as goal

pub loop-word-init : goal.loop-word-init
loop-word-init c = refl

pub loop-word-preserved-then-has_one : goal.loop-word-preserved-then-has_one
loop-word-preserved-then-has_one c =
    any_so_far is_used c.loop-word.yielded c.in-Some.word c.loop-word.has_one c.loop-word.invariant
    c.loop-word.has_one
    (ap (λ b. b || is_used c.in-Some.word.now) c.if-has_one.true ∙ sym c.if-has_one.true)

pub loop-word-preserved : goal.loop-word-preserved
loop-word-preserved c =
    any_so_far is_used c.loop-word.yielded c.in-Some.word c.loop-word.has_one c.loop-word.invariant
    c.is_used-has_one.result
    (ap (λ b. b || is_used c.in-Some.word.now) c.if-has_one.false ∙ sym c.is_used-has_one.ensures)

pub returns : goal.returns
returns c =
    let split = c.split-word-items in
    let road = YieldsList-at (cc)
    (YieldsList-from_str_split {s = split.result} 32 c.args.line.now (lit< tt) split.ensures.text
    split.ensures.has_more split.ensures.pattern) in
    let all = YieldsList-end road c.loop-word.yielded _ c.loop-word.yielded_by _ _ c.in-None.is
    c.next.ensures.steps in
    c.loop-word.invariant ∙ ap (list_any is_used) all.0
