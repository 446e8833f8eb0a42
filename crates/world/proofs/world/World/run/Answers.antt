use Rattle.std.proofs.Common.{subst}
use Rattle.world.proofs.Common.{IsTied, IsConsistent, seen_of, world_of}
use Rattle.world.proofs.Images.{images_of_runs}
use Rattle.world.proofs.Memory.{kept_in_runs}
use Rattle.world.proofs.Lasting.{in_order_of_runs}
use Rattle.world.proofs.Runs.{headline_of_runs}
use Rattle.world.proofs.Staging.{all_ran, goes_on_after, goes_on_at_first}
use Rattle.world.proofs.world.World.run.Goals as goal

pub loop-event-init : goal.loop-event-init
loop-event-init c = goes_on_at_first c.args.self.now c.args.events.now c.self.inside.stage
    c.self.view_is c.self.invariant.0 c.self.invariant.2 c.self.invariant.1

pub invariant_of-self : goal.invariant_of-self
invariant_of-self c = (
  c.loop-event.invariant.consistent,
  c.loop-event.invariant.fit,
  c.loop-event.invariant.tied,
)

pub happen-refusal-requires-clause-consistent : goal.happen-refusal-requires-clause-consistent
happen-refusal-requires-clause-consistent c = c.loop-event.invariant.consistent

pub happen-refusal-requires-clause-fit : goal.happen-refusal-requires-clause-fit
happen-refusal-requires-clause-fit c = c.loop-event.invariant.fit

pub loop-event-preserved : goal.loop-event-preserved
loop-event-preserved c =
    goes_on_after (world_of c.args.self.now) c.args.events.now c.loop-event.event-index
    c.loop-event.first c.happen-refusal.result c.or-first.result c.loop-event.self-inside.stage
    c.happen-refusal.new.self c.event-item.result
    c.loop-event.invariant c.loop-event-test.true c.event-item.is c.happen-refusal.ensures.happens
    c.happen-refusal.ensures.fit c.or-first.ensures

pub returns-clause-runs : goal.returns-clause-runs
returns-clause-runs c = all_ran (world_of c.args.self.now) c.args.events.now
    c.loop-event.event-index c.loop-event.first c.loop-event.self-inside.stage
    c.loop-event.invariant c.loop-event-test.false

pub returns-clause-headline : goal.returns-clause-headline
returns-clause-headline c run =
    (headline_of_runs (world_of c.args.self.now) (world_of (seen_of c.loop-event.self-inside.stage))
    c.args.events.now c.loop-event.first (subst (λ v. IsConsistent (world_of v)) c.self.view_is
    c.self.invariant.0) run).0

pub returns-clause-image : goal.returns-clause-image
returns-clause-image c has =
    let old = world_of c.args.self.now in
    let new = world_of (seen_of c.loop-event.self-inside.stage) in
    let run = all_ran old c.args.events.now c.loop-event.event-index c.loop-event.first
    c.loop-event.self-inside.stage c.loop-event.invariant c.loop-event-test.false in
    (images_of_runs old new c.args.events.now c.loop-event.first
    (subst (λ v. IsConsistent (world_of v)) c.self.view_is c.self.invariant.0) has run).1

pub returns-clause-known : goal.returns-clause-known
returns-clause-known c has run =
    (images_of_runs (world_of c.args.self.now) (world_of (seen_of c.loop-event.self-inside.stage))
    c.args.events.now c.loop-event.first (subst (λ v. IsConsistent (world_of v)) c.self.view_is
    c.self.invariant.0) has run).0

pub returns-clause-memory : goal.returns-clause-memory
returns-clause-memory c run =
    kept_in_runs (world_of c.args.self.now) (world_of (seen_of c.loop-event.self-inside.stage))
    c.args.events.now c.loop-event.first run

pub returns-clause-in_order : goal.returns-clause-in_order
returns-clause-in_order c run =
    (in_order_of_runs (world_of c.args.self.now) (world_of (seen_of c.loop-event.self-inside.stage))
    c.args.events.now c.loop-event.first (subst (λ v. IsTied (world_of v)) c.self.view_is
    c.self.invariant.2) run).0

pub returns-clause-ends_in_order : goal.returns-clause-ends_in_order
returns-clause-ends_in_order c run =
    (in_order_of_runs (world_of c.args.self.now) (world_of (seen_of c.loop-event.self-inside.stage))
    c.args.events.now c.loop-event.first (subst (λ v. IsTied (world_of v)) c.self.view_is
    c.self.invariant.2) run).1
