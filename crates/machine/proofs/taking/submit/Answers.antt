use Rattle.std.proofs.Common.{◌≡◌, ◌<◌, inl, inr, refl, sym, subst, ℕ, Option, None, Some}
use Rattle.std.proofs.Common.{Ok, IsSome, length, arith, Bool, false, true}
use Rattle.machine.proofs.Common.{slice_get, Boards, IsSound, Job, Makes, SubmitsFrom}
use Rattle.machine.proofs.Common.{Still, Tally}
use Rattle.machine.proofs.Common.{OutboxState, board_of, in_place, outbox_state, AskingState}
use Rattle.board.proofs.Common.{length-map}
use Rattle.board.specs.Steps.{answer_by, did_answer}
use Rattle.board.specs.declared.step.Seen.TheVariants.{Did}
use Rattle.board.specs.declared.step.Step.TheVariants as step
use Rattle.board.specs.declared.step.StepFault.TheVariants as fault
use Rattle.machine.specs.Ending.{BookRefused}
use Rattle.machine.proofs.Popping.{some_at}
use Rattle.machine.proofs.Runs.{does_step, runs_step}
use Rattle.machine.proofs.taking.submit.Goals as goal

-- a job that lies there, of a guest whose jobs are counted, is answered where it isn't refused
submitted : (g : ℕ) (old new : _) (job : Option Job) (tally : Option Tally) (did : Bool)
    → IsSome job → IsSome tally → SubmitsFrom {D = OutboxState} g job tally (did_answer did) old new
    → did_answer did ≡ Ok Did
submitted g old new None tally did there counted does = absurd (let no = there in cc)
submitted g old new (Some job) None did there counted does = absurd (let no = counted in cc)
submitted g old new (Some job) (Some tally) true there counted does = refl
submitted g old new (Some job) (Some tally) false there counted does = elim does [
  | inl answered ↦ absurd (let no = answered.1 in cc)
  | inr refused ↦ absurd (let no = refused.0 in cc)
]

some_of : {X : Type 0} (o : Option X) (x : X) → o ≡ Some x → IsSome o
some_of o x is = subst IsSome (sym is) refl

pub submit_did : (g : ℕ) (a b : Boards) (did : Bool) → IsSound outbox_state (board_of a)
    → g < length a.devices → IsSome (in_place (slice_get a.rest.jobs g))
    → Makes (step.Submit g) (did_answer did) a b → did_answer did ≡ Ok Did
submit_did g a b did sound below job makes =
    let many = sound.linked.places.devices in
    let counted = sound.linked.counted in
    let long = length-map a.devices (λ (x : AskingState). x.device) in
    let tally = some_at a.rest.tallies g (omega (arith, below, many, counted, long)) in
    submitted g (board_of a) (board_of b) _ _ did job (some_of _ tally.0 tally.1)
    makes.steps.does

pub returns-in-Ok-clause-runs : goal.returns-in-Ok-clause-runs
returns-in-Ok-clause-runs c most ps =
    runs_step c.args.guest most ps c.args.board.now c.submit.new.self
    (step.Submit c.args.guest) _ refl
    c.submit.ensures.steps

pub returns-in-Ok-clause-did : goal.returns-in-Ok-clause-did
returns-in-Ok-clause-did c is most s =
    let g = c.args.guest in
    let makes = subst (λ r. Makes (step.Submit g) (answer_by fault.Book r) c.args.board.now
    c.submit.new.self) c.in-Ok.is c.submit.ensures.steps in
    does_step g most s c.args.board.now c.submit.new.self (step.Submit g) _ refl makes
    (inl (submit_did g c.args.board.now c.submit.new.self _ c.what_always_holds.ensures
    c.requires.guest c.requires.job makes))

pub returns-in-Err-clause-runs : goal.returns-in-Err-clause-runs
returns-in-Err-clause-runs c most ps =
    runs_step c.args.guest most ps c.args.board.now c.submit.new.self
    (step.Submit c.args.guest) _ refl
    c.submit.ensures.steps

pub returns-in-Err-clause-either : goal.returns-in-Err-clause-either
returns-in-Err-clause-either c = inr (record {
  why = c.of_book.result;
  is = refl;
  reason = λ most s. BookRefused s c.args.board.now c.submit.new.self (fault.Book c.in-Err.refused)
      (Still s c.args.board.now)
      (subst (λ r. Makes (step.Submit c.args.guest) (answer_by fault.Book r) c.args.board.now
      c.submit.new.self) c.in-Err.is c.submit.ensures.steps) c.of_book.ensures
      (Still s c.submit.new.self);
})
