use Rattle.std.proofs.Common.{ap, rules}
use Rattle.workers.proofs.Flowing.{flows_between, flows_past, flows_through}
use Rattle.workers.proofs.worker.Worker.turn.Goals as goal

pub returns-clause-works : goal.returns-clause-works
returns-clause-works g c =
    let e = c.in_ok-exchange.exchange in let b = c.in_ok-consulted.consulted in record {
      popped = e.popped;
      answered = b.answered;
      collected = b.collected;
      published = e.published;
      of_jobs = flows_through _ _ _ _ _ c.in_ok-exchange.ensures.jobs
          (flows_between c.in_ok-consulted.ensures.jobs c.prepare.ensures.jobs
          (ap (λ line. line.items) c.close.ensures.rest.1));
      of_replies = flows_past _ _ _ _ _ c.in_ok-exchange.ensures.replies
          (flows_between c.in_ok-consulted.ensures.replies
          (ap (λ line. line.items) c.prepare.ensures.rest.1) c.close.ensures.replies);
      counted = search rules;
      is = c.next_after.ensures;
    }
