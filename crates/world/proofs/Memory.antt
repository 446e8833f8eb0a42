-- A Pop and a Submit that are refused memory change nothing.
use Rattle.std.proofs.Common.{◌≡◌, inl, inr, ℕ, Bool, true, false, List, [], ◌∷◌, Option, Some}
use Rattle.std.proofs.Common.{None, Result, Ok, Err, refl, ap, sym, ◌∙◌}
use Rattle.world.proofs.Common.{slice_get, slice_set, CutState, DeviceState, QueueState, Job}
use Rattle.world.proofs.Common.{GivesFrom, is_stopped, live_queue, DeviceFault, Tally, BoardState}
use Rattle.world.proofs.Common.{in_place, put, accepted_after, Answer, PopsInto, SubmitsFrom}
use Rattle.world.proofs.Common.{job_of, pop_answer, Happens, Runs, StepsAt, StepsIn, WorldState}
use Rattle.world.proofs.Common.{popped_after, refusal_of, Event, Refusal, Home, Up, Down, Step}
use Rattle.mmio_transport.specs.declared.fault.DeviceFault.TheVariants as device_fault
use Rattle.rpmb_book.specs.declared.refused.Refused.TheVariants as refused
use Rattle.world.specs.Memory.{AllKeptWithout, KeptWithout, LacksMemory}
use Rattle.world.specs.declared.event.Event.TheVariants as event
use Rattle.world.specs.declared.event.Refusal.TheVariants as refusal
use Rattle.board.specs.declared.step.Step.TheVariants as step
use Rattle.board.specs.declared.step.StepFault.{StepFault}
use Rattle.board.specs.declared.step.StepFault.TheVariants as fault
use Rattle.board.proofs.Doing.{set_same}
use Rattle.world.proofs.Runs.{lacks_same}

-- 1. The board

-- a pop that is refused memory leaves its device
device_same : (d d' : DeviceState) (popped : Result (Option Job) DeviceFault) (stopped : Bool)
    (queue : Option QueueState) → popped ≡ Err device_fault.NoMemory
    → GivesFrom stopped queue d popped d' → d' ≡ d
device_same d d' popped true queue is gives = gives.1
device_same d d' popped false None is gives = gives.1
device_same d d' (Ok None) false (Some q) is gives = absurd (cc)
device_same d d' (Ok (Some job)) false (Some q) is gives = absurd (cc)
device_same d d' (Err device_fault.NoMemory) false (Some q) is gives = gives.same
device_same d d' (Err (device_fault.Refused f)) false (Some q) is gives = absurd (cc)
device_same d d' (Err device_fault.NeedsReset) false (Some q) is gives = absurd gives

popped_is : (popped : Result (Option Job) DeviceFault) → Err (fault.Device device_fault.NoMemory)
    ≡ pop_answer popped → popped ≡ Err device_fault.NoMemory
popped_is (Ok None) is = absurd (cc)
popped_is (Ok (Some job)) is = absurd (cc)
popped_is (Err e) is = (let same : device_fault.NoMemory ≡ e = cc in ap Err (sym same))

pop_same : (n : ℕ) (answer : Answer) (b b' : BoardState CutState) (place : Option (Option Job))
    (o : Option DeviceState) → slice_get b.devices n ≡ o
    → answer ≡ Err (fault.Device device_fault.NoMemory) → PopsInto n place o answer b b' → b' ≡ b
pop_same n answer b b' None o at is does = does.1
pop_same n answer b b' (Some (Some job)) o at is does = does.1
pop_same n answer b b' (Some None) None at is does = does.1
pop_same n answer b b' (Some None) (Some d) at is does =
    let none = popped_is does.popped (sym is ∙ does.answers) in
    let kept = device_same d does.device does.popped (is_stopped d) (live_queue d) none does.gives
    in
    does.after ∙ ap (λ v. record b {
      devices = slice_set b.devices n v;
      jobs =
          put b.jobs n (job_of does.popped);
    }) kept
    ∙ ap (λ l. record b { devices = l; jobs = put b.jobs n (job_of does.popped) })
    (set_same b.devices n d at) ∙ ap (λ p. record b { jobs = put b.jobs n (job_of p) }) none

submit_same : (n : ℕ) (answer : Answer) (b b' : BoardState CutState) (job : Option Job)
    (tally : Option Tally) → answer ≡ Err (fault.Book refused.NoMemory)
    → SubmitsFrom n job tally answer b b' → b' ≡ b
submit_same n answer b b' job None is does = does.1
submit_same n answer b b' None (Some tally) is does = does.1
submit_same n answer b b' (Some job) (Some tally) is does = elim does [
  | inl went ↦ absurd (cc)
  | inr kept ↦ kept.1
]

-- 2. The world

answer_of : (answer : Answer) (f : StepFault) → refusal_of answer ≡ Some (refusal.Step f)
    → answer ≡ Err f
answer_of (Ok seen) f is = absurd (cc)
answer_of (Err e) f is = (let same : e ≡ f = cc in ap Err same)

world_same : (s : Step) (b : BoardState CutState) (old new : WorldState) (told : Option Refusal)
    → old.home ≡ Up b → StepsIn s b old told new → LacksMemory s told → new ≡ old
world_same (step.Pop n) b old new told up st lacks =
    let answer = answer_of st.answer (fault.Device device_fault.NoMemory) (sym st.tells ∙ lacks) in
    let same = pop_same n st.answer b st.board (slice_get b.jobs n) (slice_get b.devices n) refl
    answer st.does in
    st.after ∙ ap (λ a. record old {
      home = Up st.board;
      popped =
          popped_after old.openings (step.Pop n) a st.board old.popped;
    }) answer
    ∙ ap (λ v. record old { home = Up v }) same ∙ ap (λ h. record old { home = h }) (sym up)
world_same (step.Submit n) b old new told up st lacks =
    let answer = answer_of st.answer (fault.Book refused.NoMemory) (sym st.tells ∙ lacks) in
    let same = submit_same n st.answer b st.board (in_place (slice_get b.jobs n))
    (slice_get b.tallies n) answer st.does in
    st.after ∙ ap (λ a. record old {
      home = Up st.board;
      accepted =
          accepted_after (step.Submit n) a b old.accepted;
    }) answer
    ∙ ap (λ v. record old { home = Up v }) same ∙ ap (λ h. record old { home = h }) (sym up)
world_same (step.Drive n act) b old new told up st lacks = absurd lacks
world_same (step.Collect n) b old new told up st lacks = absurd lacks
world_same (step.Publish n) b old new told up st lacks = absurd lacks
world_same (step.Take n) b old new told up st lacks = absurd lacks
world_same (step.Give n) b old new told up st lacks = absurd lacks
world_same step.Advance b old new told up st lacks = absurd lacks
world_same step.Settle b old new told up st lacks = absurd lacks

step_same : (s : Step) (old new : WorldState) (told : Option Refusal) (home : Home)
    → old.home ≡ home → StepsAt s home old told new → LacksMemory s told → new ≡ old
step_same s old new told (Up b) is (inl st) lacks = world_same s b old new told is st lacks
step_same s old new told (Up b) is (inr un) lacks = lacks_same s b old new told un
step_same s old new told (Down d) is same lacks = same.1

event_same : (old new : WorldState) (e : Event) (told : Option Refusal) → Happens old e told new
    → KeptWithout old e told new
event_same old new (event.Do s) told h = step_same s old new told old.home refl h
event_same old new (event.Fail k) told h = tt
event_same old new (event.Stop filler) told h = tt
event_same old new (event.StopIn filler) told h = tt
event_same old new event.Open told h = tt
event_same old new (event.Upgrade stop) told h = tt

pub kept_in_runs : (old new : WorldState) (events : List Event) (told : Option Refusal)
    (run : Runs old events told new) → AllKeptWithout old events told new run
kept_in_runs old new [] told run = tt
kept_in_runs old new (e ∷ es) told run = (
  event_same old run.mid e run.first.one run.first.happens,
  kept_in_runs run.mid new es run.later run.rest,
)
