use Rattle.std.proofs.Common.{inl, inr, refl, sym, subst, ◌∙◌, Some}
use Rattle.machine.proofs.Common.{Still, stand_of}
use Rattle.machine.specs.Ending.{GoesOnFor, IsBusy, NeedsNext, NeedsTold, left_by}
use Rattle.machine.specs.declared.fault.MachineFault.TheVariants as fault
use Rattle.machine.specs.Serving.{HasParts}
use Rattle.machine.proofs.Copied.{begins_copied, runs_copied}
use Rattle.machine.proofs.Copies.{copied_first}
use Rattle.machine.proofs.Goings.{lacks, needs_same, then_stopped}
use Rattle.machine.proofs.Runs.{runs_twice}
use Rattle.machine.proofs.Told.{told_of}
use Rattle.machine.proofs.answering.serve_turn.Goals as goal

pub returns-then-not-answer : goal.returns-then-not-answer
returns-then-not-answer c =
    let t = c.answer.new.turn in
    let b = c.answer.new.board in
    record {
      heard = record {
        heard = b;
        left = stand_of t;
        takes = record { ok = c.answer.result; takes = c.answer.ensures.takes; full = λ no. refl };
        begins = c.answer.ensures.begins;
        runs = Still (stand_of t) b;
        needs = lacks c.args.guest c.args.most fault.NoMemory (stand_of t) b t b refl;
        busy = λ again. absurd (let no = again in cc);
      };
    }

pub returns : goal.returns
returns c =
    let g = c.args.guest in
    let m = c.args.most in
    let t = stand_of c.answer.new.turn in
    let b = c.answer.new.board in
    let v = c.serve-next.new.turn in
    let d = c.serve-next.new.board in
    let x = c.serve-next.result in
    let w = c.serve-next.ensures.went in
    let u = c.need.new.turn in
    let e = c.need.new.board in
    let n = c.need.ensures in
    record {
      heard = record {
        heard = b;
        left = t;
        takes = record {
          ok = c.answer.result;
          takes = c.answer.ensures.takes;
          full = λ no. absurd (let there = c.if-not-answer.false in let not_ = no in cc);
        };
        begins = c.answer.ensures.begins;
        runs = runs_twice g m t (left_by (Some x) v) (left_by (Some c.need.result) u) b d e w.runs
            (n.runs m);
        needs = elim n.same [
          | inl same ↦
              (let stays = n.board same in
              told_of g m t b u c.need.new.out e c.need.result
              (subst (λ r. NeedsNext g m t b u e (Some r)) (sym same)
              (needs_same g m t b v u e (Some x) stays.1
              (subst (λ y. NeedsNext g m t b v y (Some x)) (sym stays.0) w.needs)))
              n.read n.write)
          | inr (inl memory) ↦ subst (λ r. NeedsTold g m t b u c.need.new.out e r) (sym memory)
              (lacks g m fault.NoMemory t b u e refl)
          | inr (inr again) ↦ subst (λ r. NeedsTold g m t b u c.need.new.out e r) (sym again.0) tt
        ];
        busy = λ again. elim n.same [
          | inl same ↦
              (let stays = n.board same in
              let busy = subst (λ k. GoesOnFor g m t b v d (Some k)) (sym same ∙ again) w.busy in
              subst (λ y. IsBusy g m t b (stand_of u) y) (sym stays.0)
              (subst (λ y. IsBusy g m t b y d) (sym stays.1) busy))
          | inr (inl memory) ↦ absurd (let no = sym memory ∙ again in cc)
          | inr (inr stopped) ↦ inr (inr
              (then_stopped g m t (left_by (Some x) v) (stand_of u) b d e w.runs (stopped.1 m)))
        ];
      };
    }

pub need-requires-clause-asks : goal.need-requires-clause-asks
need-requires-clause-asks c wanted is =
    subst (λ k. NeedsNext c.args.guest c.args.most (stand_of c.answer.new.turn) c.answer.new.board
    c.serve-next.new.turn c.serve-next.new.board (Some k)) is c.serve-next.ensures.went.needs

pub need-requires-clause-copied : goal.need-requires-clause-copied
need-requires-clause-copied c part is =
    let g = c.args.guest in
    let t = stand_of c.answer.new.turn in
    let b = c.answer.new.board in
    let v = c.serve-next.new.turn in
    let d = c.serve-next.new.board in
    let x = c.serve-next.result in
    copied_first g part v.parts d
    (subst (λ k. HasParts g (left_by (Some k) v).parts d) is
    (runs_copied g c.args.most t (left_by (Some x) v) b d c.serve-next.ensures.went.runs
    (begins_copied g (stand_of c.args.turn.now) t c.args.board.now b c.answer.ensures.begins
    c.requires.copied)))
