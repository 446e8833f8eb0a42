-- What a pop leaves, case by case.
use Rattle.std.proofs.Common.{◌≡◌, ℕ, ◌+◌, ap, arith, List, Bool, true, false, if◌then◌else◌}
use Rattle.std.proofs.Common.{Option, Some, None, Result, Ok, Err, refl, sym, subst}
use Rattle.mmio_transport.proofs.Common.{after_pop, DeviceFault, QueueState, event, Job}
use Rattle.mmio_transport.proofs.Common.{DeviceState, IsOfThePast, with_fault, after_job, GivesJob}
use Rattle.mmio_transport.specs.declared.fault.DeviceFault.TheVariants.{NoMemory, Refused}
use Rattle.mmio_transport.specs.declared.fault.DeviceFault.TheVariants.{NeedsReset}
use Rattle.mmio_transport.specs.Job.{done_of}
use Rattle.mmio_transport.specs.Gone.{WhatIsPoppedIsOfThePast}
use Rattle.mmio_transport.specs.Popping.{is_stopped, live_queue, GivesNext, GivesFrom}

-- what holds of each state that a pop may leave
pub record Cases (P : DeviceState → Type 0) (d : DeviceState) : Type 0 where
  pub same : P d
  pub fault : P (record d { registers = with_fault d.registers })
  pub none : (q : QueueState) → d.queue ≡ Some q
      → P (record d { memory = event q.kind d.memory q.ring })
  pub job : (q : QueueState) → d.queue ≡ Some q → (id places : ℕ)
      → P (after_job d q (after_pop q.ring (d.pops + 1) id places))

by_queue : (P : DeviceState → Type 0) (d : DeviceState) (q : QueueState)
    (answer : Result (Option Job) DeviceFault) (d' : DeviceState)
    → Cases P d → d.queue ≡ Some q → GivesNext d q answer d' → P d'
by_queue P d q answer d' cases is gives = elim answer as (λ (a : Result (Option Job) DeviceFault).
    GivesNext d q a d' → P d') [
      | Ok found ↦ elim found as (λ (f : Option Job). GivesNext d q (Ok f) d' → P d') [
        | None ↦ λ g. subst P (sym g.after) (cases.none q is)
        | Some job ↦ λ g. (
            let left : P (after_job d q (after_pop q.ring job.number job.id job.places)) =
            subst (λ n. P (after_job d q (after_pop q.ring n job.id job.places))) (sym g.number)
            (cases.job q is job.id job.places) in
            subst P (sym g.after) left
            )
      ]
      | Err fault ↦ elim fault as (λ (f : DeviceFault). GivesNext d q (Err f) d' → P d') [
        | NoMemory ↦ λ g. subst P (sym g.same) cases.same
        | Refused f ↦ λ g. subst P (sym g.1) cases.fault
        | NeedsReset ↦ λ g. absurd g
      ]
    ] gives

by_live : (P : DeviceState → Type 0) (b : Bool) (d : DeviceState) (queue : Option QueueState)
    (answer : Result (Option Job) DeviceFault) (d' : DeviceState)
    → Cases P d → d.queue ≡ queue → GivesFrom false (if b then queue else None) d answer d' → P d'
by_live P true d None answer d' cases is gives = subst P (sym gives.1) cases.same
by_live P true d (Some q) answer d' cases is gives = by_queue P d q answer d' cases is gives
by_live P false d queue answer d' cases is gives = subst P (sym gives.1) cases.same

by_stopped : (P : DeviceState → Type 0) (stopped : Bool) (d : DeviceState)
    (answer : Result (Option Job) DeviceFault) (d' : DeviceState)
    → Cases P d → GivesFrom stopped (live_queue d) d answer d' → P d'
by_stopped P true d answer d' cases gives = subst P (sym gives.1) cases.same
by_stopped P false d answer d' cases gives = by_live P d.registers.status.driver_ok d d.queue answer
    d' cases refl gives

pub pop_case : (P : DeviceState → Type 0) (d : DeviceState)
    (answer : Result (Option Job) DeviceFault) (d' : DeviceState)
    → GivesJob d answer d' → Cases P d → P d'
pop_case P d answer d' gives cases = by_stopped P (is_stopped d) d answer d' cases gives

past_live : (b : Bool) (d : DeviceState) (queue : Option QueueState) (job : Job) (d' : DeviceState)
    (reply : List ℕ) (need : ℕ)
    → GivesFrom false (if b then queue else None) d (Ok (Some job)) d'
    → IsOfThePast d' (done_of job reply need)
past_live true d None job d' reply need gives = absurd (let no = gives.0 in cc)
past_live true d (Some q) job d' reply need gives =
    let after = gives.after in
    record {
      session = omega (arith, gives.session, ap (λ (s : DeviceState). s.session) after);
      readiness = omega (arith, gives.readiness, ap (λ (s : DeviceState). s.readiness) after);
      number = omega (arith, gives.number, ap (λ (s : DeviceState). s.pops) after);
    }
past_live false d queue job d' reply need gives = absurd (let no = gives.0 in cc)

past_stopped : (stopped : Bool) (d : DeviceState) (job : Job) (d' : DeviceState) (reply : List ℕ)
    (need : ℕ)
    → GivesFrom stopped (live_queue d) d (Ok (Some job)) d'
    → IsOfThePast d' (done_of job reply need)
past_stopped true d job d' reply need gives = absurd (let no = gives.0 in cc)
past_stopped false d job d' reply need gives = past_live d.registers.status.driver_ok d d.queue job
    d' reply need gives

pub popped_past : WhatIsPoppedIsOfThePast
popped_past d job d' reply need gives = past_stopped (is_stopped d) d job d' reply need gives
