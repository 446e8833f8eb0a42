use Rattle.std.proofs.Common.{refl, ◌∙◌}
use Rattle.workers.proofs.Flowing.{flows_none, flows_one_more}
use Rattle.workers.proofs.backlog.Backlog.pop_all.Goals as goal

pub loop-i-init : goal.loop-i-init
loop-i-init g c = (refl, refl, flows_none _)

pub loop-i-preserved : goal.loop-i-preserved
loop-i-preserved g c =
    let was = c.loop-i.invariant in let e = c.in_ok-pop.ensures in (
      e.rest.0 ∙ was.0,
      e.rest.1 ∙ was.1,
      flows_one_more _ _ _ _ _ c.if-not-branch.false was.2 e.jobs,
    )
