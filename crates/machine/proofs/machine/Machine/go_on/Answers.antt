use Rattle.std.proofs.Common.{[], arith, false, inl, inr, length, ap, refl, subst, ◌∙◌}
use Rattle.machine.proofs.Common.{MachineState, Moves, OutboxMakes, board_of, moves_none}
use Rattle.machine.proofs.Common.{outbox_state}
use Rattle.machine.proofs.Common.{standing}
use Rattle.machine.specs.Serving.{FailsNone}
use Rattle.machine.proofs.Completing.{goes_more}
use Rattle.machine.proofs.Whole.{runs_whole, whole_twice}
use Rattle.machine.proofs.Working.{works_more, works_none}
use Rattle.machine.proofs.machine.Machine.go_on.Goals as goal

pub loop-guest-init : goal.loop-guest-init
loop-guest-init c = (
  subst (λ (m : MachineState). Moves outbox_state OutboxMakes (board_of m.board)
      (board_of c.self.inside.board)) c.self.view_is
      (moves_none outbox_state OutboxMakes (board_of c.self.inside.board)),
  ap (λ (m : MachineState). m.board.devices) c.self.view_is,
  ap (λ (m : MachineState). m.board.rest.jobs) c.self.view_is,
  subst (λ (m : MachineState). FailsNone m.board.rest c.self.inside.board.rest) c.self.view_is
      (λ failed few. (failed, refl, refl)),
  ap (λ (m : MachineState). m.setups) c.self.view_is,
  ap (λ (m : MachineState). m.turns) c.self.view_is,
  works_none c.args.self.now.board c.self.inside.board
      (ap (λ (m : MachineState). board_of m.board) c.self.view_is),
)

pub loop-guest-preserved : goal.loop-guest-preserved
loop-guest-preserved c =
    let l = c.loop-guest in
    let h = c.hand_all in (
      goes_more _ 0 c.args.self.now.board l.self-inside.board h.new.board l.invariant.0
          (standing [] false false) (h.ensures.runs 0 (standing [] false false)),
      h.ensures.devices ∙ l.invariant.1,
      h.ensures.keeps.0 ∙ l.invariant.2,
      whole_twice c.args.self.now.board.rest l.self-inside.board.rest h.new.board.rest l.invariant.3
          (runs_whole _ 0 (standing [] false false) (standing [] false false) l.self-inside.board
          h.new.board
          (h.ensures.runs 0 (standing [] false false))),
      l.invariant.4,
      l.invariant.5,
      works_more l.guest c.args.self.now.board l.self-inside.board h.new.board l.invariant.0
          h.result h.result refl h.ensures.did h.ensures.done h.ensures.either l.invariant.6,
    )

pub returns-clause-goes : goal.returns-clause-goes
returns-clause-goes c =
    let l = c.loop-guest in
    let past = c.loop-guest-test.false in
    let long = c.len-guest-end.ensures in
    let many = ap (λ (m : MachineState). length m.setups) c.self.view_is in
    record {
      works = elim l.invariant.6 [
        | inl works ↦ inl works
        | inr all ↦ inr (λ k below small. all.1 k (omega (arith, below, past, long, many)) small)
      ];
      moves = l.invariant.0;
      whole = l.invariant.3;
      devices = l.invariant.1;
      jobs = l.invariant.2;
      turns = l.invariant.5;
      setups = l.invariant.4;
    }
