use Rattle.queue_looks.proofs.Common.{AnswerAll, OnShare}
use Rattle.queue_looks.proofs.looking.look_on.Given as goal

-- each look so far answered a job
abbrev pub invariant-loop-answered : goal.invariant-loop-answered
invariant-loop-answered g l = OnShare g.D.Disk.state g.D.Disk.makes l.fn.guest (λ s s'.
    AnswerAll l.fn.guest l.answered s s') l.fn.board l.board
