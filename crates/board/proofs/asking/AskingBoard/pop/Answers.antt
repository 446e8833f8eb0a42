use Rattle.std.proofs.Common.{◌≡◌, [], Some, Ok, Err, true, sym, subst, ◌∙◌}
use Rattle.std.proofs.Common.{arith, ap}
use Rattle.std.specs.Prelude.{IfSome}
use Rattle.std.proofs.lemmas.Option.{slice_get_past}
use Rattle.board.proofs.Common.{slice_get, slice_set, put, IsSound}
use Rattle.board.specs.Steps.{pop_answer}
use Rattle.board.specs.Asking.{AskingBoardState, PopsAsked, StepsAsked, board_of}
use Rattle.board.specs.declared.step.Seen.TheVariants.{Did, Nothing}
use Rattle.board.specs.declared.step.Step.TheVariants as step
use Rattle.mmio_transport.specs.declared.fault.PopFault.{PopFault}
use Rattle.board.proofs.AskingSteps.{asked, lent, pop_absent, pop_idle, pop_refused, pop_steps}
use Rattle.board.proofs.Moving.{sound_moved}
use Rattle.std.specs.Prelude.{Bool, Result, false}
use Rattle.board.proofs.asking.AskingBoard.pop.Goals as goal

false_true : (b : Bool) → b ≡ false → b ≡ true → ⊥
false_true b is same = (let both : false ≡ true = sym is ∙ same in cc)

pub returns-then-not-awaits_job-clause-pops : goal.returns-then-not-awaits_job-clause-pops
returns-then-not-awaits_job-clause-pops g c =
    let shows = g.D.Disk.state in
    let makes = g.D.Disk.makes in
    let i = c.self.inside in
    let w = c.what_always_holds.ensures in
    let b = asked i.devices.items i.rest in
    subst (λ v. StepsAsked shows makes (step.Pop c.args.guest) (Ok Nothing) v v) c.self.view_is
    (pop_idle shows makes g.met.D.Disk.effect b c.self.invariant w
    c.args.guest (λ empty. false_true _ c.if-not-awaits_job.true
    (c.awaits_job.ensures.1 (ap (slice_get i.rest.jobs) c.from-at.ensures ∙ empty))))

pub returns-then-at-len-clause-pops : goal.returns-then-at-len-clause-pops
returns-then-at-len-clause-pops g c =
    let shows = g.D.Disk.state in
    let makes = g.D.Disk.makes in
    let i = c.self.inside in
    let w = c.what_always_holds.ensures in
    let b = asked i.devices.items i.rest in
    let past = c.if-at-len.true in
    let long = c.len.ensures in
    let is = c.from-at.ensures in
    subst (λ v. StepsAsked shows makes (step.Pop c.args.guest) (Ok Nothing) v v) c.self.view_is
    (pop_absent shows makes g.met.D.Disk.effect b c.self.invariant w
    c.args.guest (slice_get_past i.devices.items c.args.guest (omega (arith, past, long, is))))

pub invariant_of-self-in-Ok-Some : goal.invariant_of-self-in-Ok-Some
invariant_of-self-in-Ok-Some g c =
    let shows = g.D.Disk.state in
    let makes = g.D.Disk.makes in
    let i = c.self.inside in
    let w = c.what_always_holds.ensures in
    let b = asked i.devices.items i.rest in
    let at = c.from-at.result in
    let below = c.if-at-len.false in
    let long = c.len.ensures in
    let steps = pop_steps shows makes g.met.D.Disk.effect b c.self.invariant w at
    c.index_mut.result.now c.pop.new.self (Ok c.in-Ok-Some.field-0) (Ok Did)
    (slice_set i.rest.jobs at (Some c.in-Ok-Some.job)) (c.awaits_job.ensures.0
    c.if-not-awaits_job.false)
    (lent i.devices.items at c.index_mut.result.now (omega (arith, below, long))
    c.index_mut.ensures.value) c.in-Ok-Some.ensures.gives.step c.in-Ok-Some.ensures.gives.same
    (sym (ap (λ o. pop_answer (Ok o)) c.in-Ok-Some.field-0-is))
    (sym (ap (put i.rest.jobs at) c.in-Ok-Some.field-0-is)) c.in-Ok-Some.ensures.sees in
    subst (λ r. IsSound shows (board_of (asked (slice_set i.devices.items at c.pop.new.self) r)))
    (sym c.put_job.ensures)
    (sound_moved shows makes (board_of b) _ c.self.invariant steps.steps.moves)

pub returns-in-Err-clause-pops : goal.returns-in-Err-clause-pops
returns-in-Err-clause-pops g c =
    let shows = g.D.Disk.state in
    let makes = g.D.Disk.makes in
    let i = c.self.inside in
    let w = c.what_always_holds.ensures in
    let b = asked i.devices.items i.rest in
    let at = c.from-at.result in
    let below = c.if-at-len.false in
    let long = c.len.ensures in
    let new : AskingBoardState _ = asked (slice_set i.devices.items at c.pop.new.self) i.rest in
    subst (λ k. PopsAsked shows makes k (Err c.in-Err.fault) c.args.self.now new) c.from-at.ensures
    (subst (λ v. PopsAsked shows makes at (Err c.in-Err.fault) v new) c.self.view_is
    (pop_refused shows makes g.met.D.Disk.effect b c.self.invariant w at
    c.index_mut.result.now c.pop.new.self c.in-Err.fault
    (c.awaits_job.ensures.0 c.if-not-awaits_job.false)
    (lent i.devices.items at c.index_mut.result.now (omega (arith, below, long))
    c.index_mut.ensures.value) c.in-Err.ensures.gives c.in-Err.ensures.sees))

pub returns-in-Ok-None-clause-pops : goal.returns-in-Ok-None-clause-pops
returns-in-Ok-None-clause-pops g c =
    let shows = g.D.Disk.state in
    let makes = g.D.Disk.makes in
    let i = c.self.inside in
    let w = c.what_always_holds.ensures in
    let b = asked i.devices.items i.rest in
    let at = c.from-at.result in
    let below = c.if-at-len.false in
    let long = c.len.ensures in
    let new : AskingBoardState _ = asked (slice_set i.devices.items at c.pop.new.self) i.rest in
    subst (λ k. StepsAsked shows makes (step.Pop k) (Ok Nothing) c.args.self.now new)
    c.from-at.ensures
    (subst (λ v. StepsAsked shows makes (step.Pop at) (Ok Nothing) v new) c.self.view_is
    (pop_steps shows makes g.met.D.Disk.effect b c.self.invariant w at c.index_mut.result.now
    c.pop.new.self (Ok c.in-Ok-None.field-0) (Ok Nothing) i.rest.jobs
    (c.awaits_job.ensures.0 c.if-not-awaits_job.false)
    (lent i.devices.items at c.index_mut.result.now (omega (arith, below, long))
    c.index_mut.ensures.value) c.in-Ok-None.ensures.gives.step c.in-Ok-None.ensures.gives.same
    (sym (ap (λ o. pop_answer (Ok o)) c.in-Ok-None.field-0-is))
    (sym (ap (put i.rest.jobs at) c.in-Ok-None.field-0-is)) c.in-Ok-None.ensures.sees))

pub returns-in-Ok-Some-clause-pops : goal.returns-in-Ok-Some-clause-pops
returns-in-Ok-Some-clause-pops g c =
    let shows = g.D.Disk.state in
    let makes = g.D.Disk.makes in
    let i = c.self.inside in
    let w = c.what_always_holds.ensures in
    let b = asked i.devices.items i.rest in
    let at = c.from-at.result in
    let below = c.if-at-len.false in
    let long = c.len.ensures in
    let ds = slice_set i.devices.items at c.pop.new.self in
    let steps = pop_steps shows makes g.met.D.Disk.effect b c.self.invariant w at
    c.index_mut.result.now c.pop.new.self (Ok c.in-Ok-Some.field-0) (Ok Did)
    (slice_set i.rest.jobs at (Some c.in-Ok-Some.job)) (c.awaits_job.ensures.0
    c.if-not-awaits_job.false)
    (lent i.devices.items at c.index_mut.result.now (omega (arith, below, long))
    c.index_mut.ensures.value) c.in-Ok-Some.ensures.gives.step c.in-Ok-Some.ensures.gives.same
    (sym (ap (λ o. pop_answer (Ok o)) c.in-Ok-Some.field-0-is))
    (sym (ap (put i.rest.jobs at) c.in-Ok-Some.field-0-is)) c.in-Ok-Some.ensures.sees in
    subst (λ k. StepsAsked shows makes (step.Pop k) (Ok Did) c.args.self.now
    (asked ds c.put_job.new.self)) c.from-at.ensures
    (subst (λ v. StepsAsked shows makes (step.Pop at) (Ok Did) v (asked ds c.put_job.new.self))
    c.self.view_is
    (subst (λ r. StepsAsked shows makes (step.Pop at) (Ok Did) b (asked ds r))
    (sym c.put_job.ensures) steps))
