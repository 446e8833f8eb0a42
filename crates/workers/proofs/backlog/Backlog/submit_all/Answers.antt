use Rattle.std.proofs.Common.{ap, refl, rules, ◌∙◌}
use Rattle.workers.proofs.Flowing.{flows_none, flows_answered, flows_unanswered, counts_answered}
use Rattle.workers.specs.Turns.{answered_of}
use Rattle.workers.proofs.backlog.Backlog.submit_all.Goals as goal

pub loop-i-init : goal.loop-i-init
loop-i-init g c = (refl, refl, search rules, flows_none _)

pub loop-i-preserved : goal.loop-i-preserved
loop-i-preserved g c =
    let e = c.in_ok-submit.ensures in let was = c.loop-i.invariant in (
      e.rest.0 ∙ was.0,
      e.rest.1 ∙ was.1,
      counts_answered _ _ _ _ _ c.in-Answered.is was.2 e.count,
      flows_answered _ _ _ _ _ c.in-Answered.is was.3 e.jobs,
    )

pub returns-in-Nothing-clause-jobs : goal.returns-in-Nothing-clause-jobs
returns-in-Nothing-clause-jobs g c = flows_unanswered _ _ _ _ _ (ap answered_of c.in-Nothing.is)
    c.loop-i.invariant.3 c.in_ok-submit.ensures.jobs

pub returns-in-Busy-clause-jobs : goal.returns-in-Busy-clause-jobs
returns-in-Busy-clause-jobs g c = flows_unanswered _ _ _ _ _ (ap answered_of c.in-Busy.is)
    c.loop-i.invariant.3 c.in_ok-submit.ensures.jobs

pub returns-in-Full-clause-jobs : goal.returns-in-Full-clause-jobs
returns-in-Full-clause-jobs g c = flows_unanswered _ _ _ _ _ (ap answered_of c.in-Full.is)
    c.loop-i.invariant.3 c.in_ok-submit.ensures.jobs
