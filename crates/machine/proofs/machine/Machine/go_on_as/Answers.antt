use Rattle.std.proofs.Common.{◌≡◌, ◌∙◌, ap, refl, subst, Some}
use Rattle.machine.proofs.Common.{MachineState, slice_get, slice_set}
use Rattle.machine.proofs.Rests.{goes, stays}
use Rattle.machine.specs.Resting.{Outside, goes_on}
use Rattle.machine.proofs.machine.Machine.go_on_as.Goals as goal

pub returns-then-not-go_on-clause-cant : goal.returns-then-not-go_on-clause-cant
returns-then-not-go_on-clause-cant c is =
    let a = c.device.result.now in
    let its = subst (λ (x : MachineState). slice_get x.board.devices c.args.guest ≡ Some a)
    c.self.view_is c.device.ensures.device in
    Outside a its (λ may. absurd (let goes_ = c.if-not-go_on.ensures.may.1 may in cc))

pub returns-then-not-go_on-clause-unchanged : goal.returns-then-not-go_on-clause-unchanged
returns-then-not-go_on-clause-unchanged c is =
    let m : MachineState = record {
      board = c.self.inside.board;
      setups = c.self.inside.setups.items;
      turns = c.self.inside.turns.items;
    } in
    stays m c.args.guest c.device.result.now c.go_on.new.self
    (c.if-not-go_on.ensures.unchanged refl) c.device.ensures.device ∙ c.self.view_is

pub returns-clause-goes : goal.returns-clause-goes
returns-clause-goes c is =
    let g = c.args.guest in
    let a = c.device.result.now in
    let d = c.go_on.new.self in
    let m : MachineState = record {
      board = c.self.inside.board;
      setups = c.self.inside.setups.items;
      turns = c.self.inside.turns.items;
    } in
    let its = subst (λ (x : MachineState). slice_get x.board.devices g ≡ Some a)
    c.self.view_is c.device.ensures.device in
    let turn = c.cancel.new.self in
    record {
      device = a;
      its = its;
      after = ap (λ k. (let x : MachineState = record m {
        board = record m.board { devices = slice_set m.board.devices g d };
        turns = slice_set m.turns k turn;
      } in x)) c.from-at.ensures
          ∙ ap (λ t. (let x : MachineState = record m {
            board = record m.board { devices = slice_set m.board.devices g d };
            turns = slice_set m.turns g t;
          } in x)) c.cancel.ensures
          ∙ goes m g a d c.args.it.now (c.if-not-go_on.ensures.ok refl)
          ∙ ap (λ x. goes_on x g a c.args.it.now) c.self.view_is;
    }
