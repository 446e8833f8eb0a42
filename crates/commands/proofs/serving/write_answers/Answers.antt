use Rattle.std.proofs.Common.{subst, arith}
use Rattle.commands.proofs.Common.{Appends, answer_lines}
use Rattle.commands.proofs.EachTold.{no_answer, one_answer, take_all}
use Rattle.commands.proofs.serving.write_answers.Goals as goal

pub loop-i-init : goal.loop-i-init
loop-i-init g c = no_answer (g.W.Write.contents c.args.out.now) c.args.guest c.args.answers.now

pub loop-i-preserved : goal.loop-i-preserved
loop-i-preserved g c =
    one_answer _ (g.W.Write.contents c.loop-i.out) _ c.args.guest c.args.answers.now c.loop-i.i
    c.index-answers-i.result c.loop-i.invariant
    c.loop-i-test.true c.index-answers-i.is c.in_ok-write_answer.ensures.printed

pub returns-clause-printed : goal.returns-clause-printed
returns-clause-printed g c =
    let now = c.loop-i in
    subst (λ xs. Appends (g.W.Write.contents c.args.out.now) (g.W.Write.contents now.out)
    (answer_lines c.args.guest xs))
    (take_all c.args.answers.now now.i (omega (arith, now.auto.i-end, c.loop-i-test.false)))
    now.invariant
