use Rattle.std.proofs.Common.{◌≡◌, IfSome, string_bytes, subst, sym, true}
use Rattle.std.specs.Prelude.{◌||◌, nat_lt}
use Rattle.std.specs.Io.KnownBytes.{Appends}
use Rattle.rpmb_commands.specs.Explaining.{IsNext, has_refused, has_wrong, is_answer, judging_of}
use Rattle.rpmb_commands.specs.Explaining.{line_told}
use Rattle.rpmb_commands.proofs.Lines.{said_all, said_more, said_none}
use Rattle.rpmb_commands.proofs.explaining.tell_each.Goals as goal

pub loop-init : goal.loop-init
loop-init g c =
    let none = c.none-counts.ensures in said_none _ _ _ _ _ _ none.wrong none.refused none.answer

pub loop-preserved : goal.loop-preserved
loop-preserved g c =
    let left = g.B.Read.remaining c.loop.input in
    let after = g.B.Read.remaining c.next_line.new.input in
    let more = subst (λ b. IfSome left (λ text. IsNext text b (string_bytes c.next_line.new.line)
    after)) c.if-not-branch.false c.in_ok-next_line.ensures.next in
    let e = c.in_ok-explain_line.ensures in
    let by = judging_of c.args.judge.now in
    let old = c.loop.counts in
    let new = c.explain_line.new.counts in
    let now = g.W.Write.contents c.loop.out in
    let next = g.W.Write.contents c.explain_line.new.out in
    let is = c.without_end.ensures in
    let text = subst (λ l. IfSome left (λ text. IsNext text true l after))
    (sym c.as_str.ensures.value) more in
    said_more by (g.B.Read.remaining c.args.input.now) left after
    (g.W.Write.contents c.args.out.now) now next _ _ _ _ _ _ c.as_str.result.now c.loop.invariant
    text
    (subst (λ l. Appends now next (line_told by l)) is e.told)
    (subst (λ l. nat_lt 0 new.wrong ≡ (nat_lt 0 old.wrong || has_wrong by l)) is e.wrong)
    (subst (λ l. nat_lt 0 new.refused ≡ (nat_lt 0 old.refused || has_refused l)) is e.refused)
    (subst (λ l. new.has_answer ≡ (is_answer l || old.has_answer)) is e.answer)

pub returns-then-not-branch-clause-told : goal.returns-then-not-branch-clause-told
returns-then-not-branch-clause-told g c =
    let left = g.B.Read.remaining c.loop.input in
    let after = g.B.Read.remaining c.next_line.new.input in
    let line = string_bytes c.next_line.new.line in
    let none = subst (λ b. IfSome left (λ text. IsNext text b line after)) c.if-not-branch.true
    c.in_ok-next_line.ensures.next in
    said_all (judging_of c.args.judge.now) (g.B.Read.remaining c.args.input.now) left after
    (g.W.Write.contents c.args.out.now) (g.W.Write.contents c.loop.out) _ _ _ line
    c.loop.invariant none
