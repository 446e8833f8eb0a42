use Rattle.rpmb_commands.specs.Explaining.{judging_of}
use Rattle.rpmb_commands.proofs.Lines.{SoFar}
use Rattle.rpmb_commands.proofs.explaining.tell_each.Given as goal

abbrev pub invariant-loop : goal.invariant-loop
invariant-loop g l =
    SoFar (judging_of l.judge) (g.B.Read.remaining l.fn.input) (g.B.Read.remaining l.input)
    (g.W.Write.contents l.fn.out) (g.W.Write.contents l.out) l.counts.wrong
    l.counts.refused l.counts.has_answer
