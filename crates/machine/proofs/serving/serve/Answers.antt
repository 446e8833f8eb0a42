use Rattle.std.proofs.Common.{inl, refl, subst, ◌∙◌, Some, arith}
use Rattle.machine.proofs.Common.{Still, stand_of}
use Rattle.machine.specs.Ending.{Went}
use Rattle.machine.proofs.Goings.{went_after, went_by}
use Rattle.machine.proofs.Runs.{runs_twice}
use Rattle.machine.specs.Serving.{DoesMore, DoesNone}
use Rattle.machine.proofs.serving.serve.Goals as goal

pub loop-move-init : goal.loop-move-init
loop-move-init c =
    let b = c.args.board.now in (
      Still (stand_of c.args.turn.now) b,
      refl,
      refl,
      DoesNone _ (stand_of c.args.turn.now) (stand_of c.args.turn.now) b b refl
          (Still (stand_of c.args.turn.now) b),
    )

pub returns-in-Some : goal.returns-in-Some
returns-in-Some c =
    let l = c.loop-move in
    record {
      went = went_after c.args.guest c.args.most c.args.turn.now l.turn c.move_on.new.turn
          c.args.board.now l.board c.move_on.new.board (Some c.in-Some.next) l.invariant.0
          l.invariant.1 l.invariant.2
          (subst (λ n. Went c.args.guest c.args.most (stand_of l.turn) l.board l.turn
          c.move_on.new.turn l.board
          c.move_on.new.board n) c.in-Some.is c.move_on.ensures.went);
    }

pub loop-move-preserved : goal.loop-move-preserved
loop-move-preserved c =
    let l = c.loop-move in
    let went = subst (λ n. Went c.args.guest c.args.most (stand_of l.turn) l.board l.turn
    c.move_on.new.turn l.board
    c.move_on.new.board n) c.in_default.is c.move_on.ensures.went in (
      runs_twice c.args.guest c.args.most (stand_of c.args.turn.now) (stand_of l.turn)
          (stand_of c.move_on.new.turn) c.args.board.now l.board c.move_on.new.board l.invariant.0
          went.runs,
      went.count ∙ l.invariant.1,
      went.asked ∙ l.invariant.2,
      DoesMore _ l._move (stand_of c.args.turn.now) (stand_of l.turn) (stand_of c.move_on.new.turn)
          c.args.board.now l.board c.move_on.new.board refl l.invariant.3 went.busy,
    )

pub returns-in-Some-move_on : goal.returns-in-Some-move_on
returns-in-Some-move_on c =
    let l = c.loop-move in
    let m = c.move_on-2 in
    record {
      went = went_after c.args.guest c.args.most c.args.turn.now l.turn m.new.turn
          c.args.board.now l.board m.new.board (Some c.in-Some-move_on.next) l.invariant.0
          l.invariant.1 l.invariant.2
          (subst (λ n. Went c.args.guest c.args.most (stand_of l.turn) l.board l.turn m.new.turn
          l.board m.new.board n)
          c.in-Some-move_on.is m.ensures.went);
    }

pub returns-in-None : goal.returns-in-None
returns-in-None c =
    let l = c.loop-move in
    let m = c.move_on-2 in
    let g = c.args.guest in
    let a = c.args.board.now in
    let low = c.loop-move-test.false in
    let high = l.auto._move-end in
    let s = stand_of c.args.turn.now in
    let t = stand_of l.turn in
    let u = stand_of m.new.turn in
    let went = subst (λ n. Went g c.args.most t l.board l.turn m.new.turn l.board m.new.board n)
    c.in-None.is
    m.ensures.went in
    record {
      went = went_by g c.args.most s a c.args.turn.now m.new.turn a m.new.board _
          (runs_twice g c.args.most s t u a l.board m.new.board l.invariant.0 went.runs) tt
          (inl (DoesMore 16 l._move s t u a l.board m.new.board (omega (arith, low, high))
          l.invariant.3 went.busy))
          (went.count ∙ l.invariant.1) (went.asked ∙ l.invariant.2);
    }
