use Rattle.std.proofs.Common.{take}
use Rattle.commands.proofs.Common.{Appends, answer_lines}
use Rattle.commands.proofs.serving.write_answers.Given as goal

abbrev pub invariant-loop-i : goal.invariant-loop-i
invariant-loop-i g l = Appends (g.W.Write.contents l.fn.out) (g.W.Write.contents l.out)
    (answer_lines l.guest (take l.i l.answers))
