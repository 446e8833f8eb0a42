use Rattle.std.proofs.Common.{◌∙◌, ap, lit<, map, subst, sym, None, Some}
use Rattle.std.proofs.lemmas.Iterator.Consumers.{YieldsList-at, YieldsList-end}
use Rattle.std.proofs.lemmas.Iterator.Splits.{YieldsList-from_str_split}
use Rattle.std.proofs.lemmas.List.{map_push}
use Rattle.script.specs.Script.{lines_of}
use Rattle.rpmb_client.specs.Answer.{answer_of, replies_of}
use Rattle.rpmb_client.specs.Finding.{IsFinder, counted}
use Rattle.rpmb_client.proofs.choosing.find_answer.Goals as goal

pub loop-line-preserved : goal.loop-line-preserved
loop-line-preserved c =
    subst (λ lines. IsFinder c.args.nonce.now lines c.take.new.self)
    (sym (map_push (λ t. t.now) c.loop-line.yielded c.in-Some.line))
    (c.in_ok-take.ensures c.args.nonce.now (map (λ t. t.now) c.loop-line.yielded)
    c.loop-line.invariant)

pub loop-line-init : goal.loop-line-init
loop-line-init c = c.new-finder.ensures

pub returns-clause-choice : goal.returns-clause-choice
unfolding lines_of
returns-clause-choice c =
    let split = c.split-line-items in
    let road = YieldsList-at (cc)
    (YieldsList-from_str_split {s = split.result} 10 c.args.lines.now (lit< tt) split.ensures.text
    split.ensures.has_more split.ensures.pattern) in
    let all = YieldsList-end road c.loop-line.yielded _ c.loop-line.yielded_by _ _ c.in-None.is
    c.next.ensures.steps in
    c.answer.ensures.answer c.args.nonce.now (map (λ t. t.now) c.loop-line.yielded)
    c.loop-line.invariant
    ∙ ap (answer_of c.args.nonce.now) all.0

pub returns-clause-counts : goal.returns-clause-counts
unfolding lines_of
returns-clause-counts c = λ count asked is.
    let split = c.split-line-items in
    let road = YieldsList-at (cc)
    (YieldsList-from_str_split {s = split.result} 10 c.args.lines.now (lit< tt) split.ensures.text
    split.ensures.has_more split.ensures.pattern) in
    let all = YieldsList-end road c.loop-line.yielded _ c.loop-line.yielded_by _ _ c.in-None.is
    c.next.ensures.steps in
    let counts = c.answer.ensures.counts count asked is in (
      sym (ap (λ p. p.0) counts) ∙ c.loop-line.invariant.count_is
          ∙ ap (λ lines. counted (replies_of None lines)) all.0,
      sym (ap (λ p. p.1) counts) ∙ c.loop-line.invariant.asked_count_is
          ∙ ap (λ lines. counted (replies_of (Some c.args.nonce.now) lines)) all.0,
    )
