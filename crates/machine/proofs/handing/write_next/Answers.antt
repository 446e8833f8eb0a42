use Rattle.std.proofs.Common.{◌≡◌, ◌∙◌, Bool, Ok, ap, inl, inr, refl, subst, sym}
use Rattle.machine.proofs.Common.{BoardState, Makes, OutboxState, Still}
use Rattle.disk.specs.Outbox.{has_room}
use Rattle.board.specs.Steps.{answer_by}
use Rattle.board.specs.declared.step.Step.TheVariants as step
use Rattle.board.specs.declared.step.StepFault.TheVariants as fault
use Rattle.machine.proofs.Handed.{write_made}
use Rattle.machine.proofs.Runs.{does_step, runs_step}
use Rattle.machine.proofs.Waiting.{advanced_waits}
use Rattle.machine.proofs.handing.write_next.Goals as goal

room_of : (b c : BoardState OutboxState) (d : OutboxState) (v : Bool) → c ≡ b → d ≡ c.store.disk
    → has_room 16648 d.outbox ≡ v → has_room 16648 b.store.disk.outbox ≡ v
room_of b c d v same disk room = ap (λ r. has_room 16648 r.store.disk.outbox) (sym same)
    ∙ ap (λ o. has_room 16648 o.outbox) (sym disk) ∙ room

pub returns-then-not-has_write : goal.returns-then-not-has_write
returns-then-not-has_write c = record {
  runs = λ guest most s. Still s c.args.board.now;
  keeps = λ guest. (refl, refl);
  devices = refl;
  made = λ no guest most s. absurd (let yes = no in cc);
  none = λ no report. (
    refl,
    λ write. absurd (let a = write in let b = c.has_write.ensures in
        let d = c.if-not-has_write.true in cc),
  );
}

pub returns-then-not-has_room : goal.returns-then-not-has_room
returns-then-not-has_room c = record {
  runs = λ guest most s. Still s c.args.board.now;
  keeps = λ guest. (refl, refl);
  devices = refl;
  made = λ no guest most s. absurd (let yes = no in cc);
  none = λ no report. (
    refl,
    λ write. room_of c.args.board.now.rest c.rest.result.now
        c.disk.result.now _ c.rest.ensures c.disk.ensures
        (sym c.has_room.ensures ∙ c.if-not-has_room.true),
  );
}

pub returns-in-Ok-clause-runs : goal.returns-in-Ok-clause-runs
returns-in-Ok-clause-runs c guest most s =
    runs_step guest most s c.args.board.now c.advance.new.self step.Advance _
    (record {
      write = sym c.has_write.ensures ∙ c.if-not-has_write.false;
      room = room_of c.args.board.now.rest c.rest.result.now c.disk.result.now _
          c.rest.ensures c.disk.ensures (sym c.has_room.ensures ∙ c.if-not-has_room.false);
    })
    c.advance.ensures.steps

pub returns-in-Ok-clause-made : goal.returns-in-Ok-clause-made
returns-in-Ok-clause-made c made guest most s =
    let b = c.args.board.now in
    let makes = subst (λ r. Makes step.Advance (answer_by fault.Store r) b c.advance.new.self)
    (c.in-Ok.is ∙ ap (λ did. Ok did) made) c.advance.ensures.steps in
    does_step guest most s b c.advance.new.self step.Advance _
    (record {
      write = sym c.has_write.ensures ∙ c.if-not-has_write.false;
      room = room_of c.args.board.now.rest c.rest.result.now c.disk.result.now _
          c.rest.ensures c.disk.ensures (sym c.has_room.ensures ∙ c.if-not-has_room.false);
    }) makes (inl refl)

pub returns-in-Err-clause-runs : goal.returns-in-Err-clause-runs
returns-in-Err-clause-runs c guest most s =
    runs_step guest most s c.args.board.now c.advance.new.self step.Advance _
    (record {
      write = sym c.has_write.ensures ∙ c.if-not-has_write.false;
      room = room_of c.args.board.now.rest c.rest.result.now c.disk.result.now _
          c.rest.ensures c.disk.ensures (sym c.has_room.ensures ∙ c.if-not-has_room.false);
    })
    c.advance.ensures.steps

pub returns-in-Err-clause-made : goal.returns-in-Err-clause-made
returns-in-Err-clause-made c made guest most s =
    let b = c.args.board.now in
    let makes = subst (λ r. Makes step.Advance (answer_by fault.Store r) b c.advance.new.self)
    c.in-Err.is c.advance.ensures.steps in
    does_step guest most s b c.advance.new.self step.Advance _
    (record {
      write = sym c.has_write.ensures ∙ c.if-not-has_write.false;
      room = room_of c.args.board.now.rest c.rest.result.now c.disk.result.now _
          c.rest.ensures c.disk.ensures (sym c.has_room.ensures ∙ c.if-not-has_room.false);
    }) makes
    (inr (refl, λ same. absurd (let no = same in cc)))

pub returns-in-Ok-clause-none : goal.returns-in-Ok-clause-none
returns-in-Ok-clause-none c unmade report =
    let b = c.args.board.now in
    let makes = subst (λ r. Makes step.Advance (answer_by fault.Store r) b c.advance.new.self)
    (c.in-Ok.is ∙ ap (λ did. Ok did) unmade) c.advance.ensures.steps in
    absurd (write_made _ b c.advance.new.self report
    (sym c.has_write.ensures ∙ c.if-not-has_write.false) makes refl)

pub returns-in-Ok-clause-keeps : goal.returns-in-Ok-clause-keeps
returns-in-Ok-clause-keeps c guest =
    advanced_waits guest _ c.args.board.now c.advance.new.self c.advance.ensures.steps

pub returns-in-Err-clause-keeps : goal.returns-in-Err-clause-keeps
returns-in-Err-clause-keeps c guest =
    advanced_waits guest _ c.args.board.now c.advance.new.self c.advance.ensures.steps
