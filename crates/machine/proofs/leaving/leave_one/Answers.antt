use Rattle.std.proofs.Common.{[], ap, ◌∙◌, length, rules, refl, sym, subst, true}
use Rattle.std.specs.Prelude.{IsSome}
use Rattle.machine.proofs.Common.{slice_get, Runs, board_of, in_place, standing}
use Rattle.machine.proofs.Ends.{collected_same, none_collected}
use Rattle.board.specs.declared.step.Step.TheVariants as step
use Rattle.machine.proofs.Runs.{runs_step, runs_twice, then_does}
use Rattle.machine.proofs.leaving.leave_one.Goals as goal

pub returns-then-is_none-clause-runs : goal.returns-then-is_none-clause-runs
returns-then-is_none-clause-runs c most =
    let s = standing [] c.args.turn.now.going c.args.turn.now.looked in
    subst (λ rs. Runs c.args.guest most s c.args.board.now (standing rs s.going s.looked)
    c.collect.new.self)
    (sym c.requires.parts)
    (runs_step c.args.guest most s c.args.board.now c.collect.new.self
    (step.Collect c.args.guest) _ refl
    c.collect.ensures.steps)

pub returns-then-is_none-clause-nothing : goal.returns-then-is_none-clause-nothing
returns-then-is_none-clause-nothing c is = (
  (let gone = none_collected c.args.guest (board_of c.args.board.now) _
      (board_of c.collect.new.self) _ refl c.collect.ensures.steps.steps.does (search rules) in
      record { place = gone.place; due = gone.due }),
  c.collect.ensures.devices,
  collected_same c.args.guest (board_of c.args.board.now) _ (board_of c.collect.new.self) _ refl
      c.collect.ensures.steps.steps.does (search rules),
)

pub returns-then-not-prepare-clause-runs : goal.returns-then-not-prepare-clause-runs
returns-then-not-prepare-clause-runs c most =
    let g = c.args.guest in
    let s = standing [] c.args.turn.now.going c.args.turn.now.looked in
    let t = c.prepare.new.turn in
    subst (λ rs. Runs g most s c.args.board.now (standing rs t.going t.looked) c.prepare.new.board)
    (sym (c.prepare.ensures.idle c.if-not-prepare.true))
    (runs_twice g most s s (standing [] t.going t.looked) c.args.board.now c.collect.new.self
    c.prepare.new.board
    (runs_step g most s c.args.board.now c.collect.new.self (step.Collect g) _ refl
    c.collect.ensures.steps) (c.prepare.ensures.runs most))

pub returns-clause-runs : goal.returns-clause-runs
returns-clause-runs c most =
    let g = c.args.guest in
    let s = standing [] c.args.turn.now.going c.args.turn.now.looked in
    let begun = standing [] true c.prepare.new.turn.looked in
    runs_twice g most s begun _ c.args.board.now c.prepare.new.board c.publish.new.board
    (subst (λ v. Runs g most s c.args.board.now (standing [] v c.prepare.new.turn.looked)
    c.prepare.new.board)
    (c.prepare.ensures.begun (let is = c.if-not-prepare.false in cc))
    (runs_twice g most s s (standing [] c.prepare.new.turn.going c.prepare.new.turn.looked)
    c.args.board.now
    c.collect.new.self
    c.prepare.new.board
    (runs_step g most s c.args.board.now c.collect.new.self (step.Collect g) _ refl
    c.collect.ensures.steps) (c.prepare.ensures.runs most))) (c.publish.ensures.runs most)

pub prepare-requires-clause-lies : goal.prepare-requires-clause-lies
prepare-requires-clause-lies c =
    subst (λ r. IsSome (in_place (slice_get r.dones c.args.guest))) c.rest.ensures
    (subst (λ o. IsSome o) c.done.ensures (search rules))

pub publish-requires-clause-lies : goal.publish-requires-clause-lies
publish-requires-clause-lies c =
    subst (λ r. IsSome (in_place (slice_get r.dones c.args.guest))) (sym c.prepare.ensures.rest)
    (subst (λ r. IsSome (in_place (slice_get r.dones c.args.guest))) c.rest.ensures
    (subst (λ o. IsSome o) c.done.ensures (search rules)))

pub returns-clause-did : goal.returns-clause-did
returns-clause-did c is most =
    let g = c.args.guest in
    let s = standing [] c.args.turn.now.going c.args.turn.now.looked in
    let begun = standing [] true c.prepare.new.turn.looked in
    then_does g most s begun _ c.args.board.now c.prepare.new.board c.publish.new.board
    (subst (λ v. Runs g most s c.args.board.now (standing [] v c.prepare.new.turn.looked)
    c.prepare.new.board)
    (c.prepare.ensures.begun (let there = c.if-not-prepare.false in cc))
    (runs_twice g most s s (standing [] c.prepare.new.turn.going c.prepare.new.turn.looked)
    c.args.board.now
    c.collect.new.self
    c.prepare.new.board
    (runs_step g most s c.args.board.now c.collect.new.self (step.Collect g) _ refl
    c.collect.ensures.steps) (c.prepare.ensures.runs most))) (c.publish.ensures.did is most)

pub returns-then-is_none-clause-count : goal.returns-then-is_none-clause-count
returns-then-is_none-clause-count c = ap length c.collect.ensures.devices

pub returns-then-not-prepare-clause-count : goal.returns-then-not-prepare-clause-count
returns-then-not-prepare-clause-count c =
    c.prepare.ensures.count ∙ ap length c.collect.ensures.devices

pub returns-clause-count : goal.returns-clause-count
returns-clause-count c =
    c.publish.ensures.count ∙ c.prepare.ensures.count ∙ ap length c.collect.ensures.devices
