use Rattle.workers.proofs.Flowing.{popped_in}
use Rattle.workers.proofs.backlog.Backlog.pop.Goals as goal

pub returns-clause-jobs : goal.returns-clause-jobs
returns-clause-jobs g c = popped_in _ _ c.pop-popped.result c.take_popped.result _
    c.try_reserve.ensures.items c.take_popped.ensures.takes
