use Rattle.workers.proofs.Flowing.{flows_first}
use Rattle.workers.proofs.backlog.Backlog.publish.Goals as goal

pub returns-in-Some-clause-replies : goal.returns-in-Some-clause-replies
returns-in-Some-clause-replies g c = flows_first _ c.in-Some.due _ c.in-Some.ensures.items
