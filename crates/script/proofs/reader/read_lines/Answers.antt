use Rattle.std.proofs.Common.{◌≡◌, ◌∙◌, ◌+◌, ap, rules, length, lit<, map, sym, None, Some}
use Rattle.std.proofs.lemmas.Iterator.Consumers.{YieldsList-at, YieldsList-end, YieldsList-so_far}
use Rattle.std.proofs.lemmas.Iterator.Consumers.{YieldsList-turn}
use Rattle.std.proofs.lemmas.Iterator.Splits.{YieldsList-from_str_split}
use Rattle.script.specs.Line.{line_when}
use Rattle.script.specs.Script.{lines_of}
use Rattle.script.proofs.LineLemmas.{first_none_next, if_bad_line}
use Rattle.script.proofs.reader.read_lines.Goals as goal

pub returns-in-Err-BadScript-clause-bad : goal.returns-in-Err-BadScript-clause-bad
unfolding lines_of
returns-in-Err-BadScript-clause-bad c =
    let bad : line_when c.args.served c.args.guests c.in-Some.text.now ≡ None = (search rules) in
    let number : length c.loop-text.lines.items ≡ c.len.result = search rules in
    let split = c.split-text-items in
    let road = YieldsList-at (cc)
    (YieldsList-from_str_split {s = split.result} 10 c.args.script.now (lit< tt) split.ensures.text
    split.ensures.has_more split.ensures.pattern) in
    let before = YieldsList-so_far road c.loop-text.yielded _ c.loop-text.yielded_by in
    let turn = YieldsList-turn road c.loop-text.yielded _ c.loop-text.yielded_by _ _ c.in-Some.text
    c.in-Some.is c.next.ensures.steps in
    let first = first_none_next (line_when c.args.served c.args.guests) _ _ c.in-Some.text.now
    c.loop-text.lines.items c.loop-text.invariant.read before turn.0 turn.1 bad
    ∙ ap (λ n. Some (n + 1)) number in
    if_bad_line (λ n is. first ∙ ap (λ m. Some m) (sym is)) c.bad_line.result c.bad_line.ensures

pub returns-clause-ok : goal.returns-clause-ok
unfolding lines_of
returns-clause-ok c =
    let split = c.split-text-items in
    let road = YieldsList-at (cc)
    (YieldsList-from_str_split {s = split.result} 10 c.args.script.now (lit< tt) split.ensures.text
    split.ensures.has_more split.ensures.pattern) in
    let all = YieldsList-end road c.loop-text.yielded _ c.loop-text.yielded_by _ _ c.in-None.is
    c.next.ensures.steps in
    c.loop-text.invariant.read ∙ ap (map (line_when c.args.served c.args.guests)) all.0
