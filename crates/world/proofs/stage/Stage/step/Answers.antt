use Rattle.std.proofs.Common.{ap, Some, Ok, Err, ◌∙◌}
use Rattle.world.proofs.Common.{seen_of, world_of}
use Rattle.world.proofs.Staging.{many_now, room_now, steps_at, steps_fit, up}
use Rattle.world.proofs.stage.Stage.step.Goals as goal

pub step-requires-clause-many : goal.step-requires-clause-many
step-requires-clause-many c = many_now c.args.self.now c.in-Some-Up.board (c.in-Some-Up.is
    ∙ ap Some c.in-Some-Up.field-0-is) c.requires.consistent c.requires.fit

pub step-requires-clause-room : goal.step-requires-clause-room
step-requires-clause-room c = room_now c.args.self.now c.in-Some-Up.board (c.in-Some-Up.is
    ∙ ap Some c.in-Some-Up.field-0-is) c.requires.consistent c.requires.fit

pub returns-in-Ok-clause-steps : goal.returns-in-Ok-clause-steps
returns-in-Ok-clause-steps c =
    let s = c.args.self.now in
    let b = c.in-Some-Up.board in
    let w = world_of (seen_of s) in
    let is = c.in-Some-Up.is ∙ ap Some c.in-Some-Up.field-0-is in
    let opened = (up s b is c.requires.consistent c.requires.fit).0 in
    steps_at s b is c.requires.consistent c.requires.fit c.args.step.now (Ok c.in-Ok.field-0)
    c.step.new.board c.step.new.logs
    (c.in-Ok.ensures.noted s.config w.bases w.accepted opened.parts opened.linked)
    c.what_always_holds.ensures.sound c.what_always_holds.ensures.of_board

pub returns-in-Ok-clause-fit : goal.returns-in-Ok-clause-fit
returns-in-Ok-clause-fit c =
    let s = c.args.self.now in
    let b = c.in-Some-Up.board in
    let w = world_of (seen_of s) in
    let is = c.in-Some-Up.is ∙ ap Some c.in-Some-Up.field-0-is in
    let opened = (up s b is c.requires.consistent c.requires.fit).0 in
    steps_fit s b is c.requires.consistent c.requires.fit c.args.step.now (Ok c.in-Ok.field-0)
    c.step.new.board c.step.new.logs
    (c.in-Ok.ensures.noted s.config w.bases w.accepted opened.parts opened.linked)
    c.in-Ok.ensures.many

pub returns-in-Err-clause-steps : goal.returns-in-Err-clause-steps
returns-in-Err-clause-steps c =
    let s = c.args.self.now in
    let b = c.in-Some-Up.board in
    let w = world_of (seen_of s) in
    let is = c.in-Some-Up.is ∙ ap Some c.in-Some-Up.field-0-is in
    let opened = (up s b is c.requires.consistent c.requires.fit).0 in
    steps_at s b is c.requires.consistent c.requires.fit c.args.step.now (Err c.in-Err.fault)
    c.step.new.board c.step.new.logs
    (c.in-Err.ensures.noted s.config w.bases w.accepted opened.parts opened.linked)
    c.what_always_holds.ensures.sound c.what_always_holds.ensures.of_board

pub returns-in-Err-clause-fit : goal.returns-in-Err-clause-fit
returns-in-Err-clause-fit c =
    let s = c.args.self.now in
    let b = c.in-Some-Up.board in
    let w = world_of (seen_of s) in
    let is = c.in-Some-Up.is ∙ ap Some c.in-Some-Up.field-0-is in
    let opened = (up s b is c.requires.consistent c.requires.fit).0 in
    steps_fit s b is c.requires.consistent c.requires.fit c.args.step.now (Err c.in-Err.fault)
    c.step.new.board c.step.new.logs
    (c.in-Err.ensures.noted s.config w.bases w.accepted opened.parts opened.linked)
    c.in-Err.ensures.many
