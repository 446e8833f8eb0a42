use Rattle.std.proofs.Common.{true, false, refl}
use Rattle.queue_looks.proofs.Common.{moves_none, moves_twice}
use Rattle.queue_looks.proofs.Ending.{rested, rests_on, rests_still}
use Rattle.queue_looks.proofs.finishing.finish_calls.Goals as goal

pub loop-init : goal.loop-init
loop-init g c = (
  rests_still c.args.board.now c.requires.listened,
  moves_none g.D.Disk.state g.D.Disk.makes c.args.board.now,
)

pub loop-preserved : goal.loop-preserved
loop-preserved g c =
    let shows = g.D.Disk.state in
    let makes = g.D.Disk.makes in
    let listened = c.loop.invariant.0.listened in
    let b0 = c.args.board.now in
    let b1 = c.loop.board in
    let b2 = c.go_on.new.board in (
      rests_on b0 b1 b2 c.loop.invariant.0
          (rested shows makes true b1 b2 listened (c.loop-test.ensures.goes listened)).rests,
      moves_twice shows makes b0 b1 b2 c.loop.invariant.1 c.loop-test.ensures.moves,
    )

pub returns-clause-moves : goal.returns-clause-moves
returns-clause-moves g c =
    moves_twice g.D.Disk.state g.D.Disk.makes c.args.board.now c.loop.board c.go_on.new.board
    c.loop.invariant.1 c.loop-test.ensures.moves

pub returns-clause-finished : goal.returns-clause-finished
returns-clause-finished g c =
    let listened = c.loop.invariant.0.listened in
    let goes = rested g.D.Disk.state g.D.Disk.makes false c.loop.board c.go_on.new.board listened
    (c.loop-test.ensures.goes listened) in
    record {
      rests = rests_on c.args.board.now c.loop.board c.go_on.new.board c.loop.invariant.0
          goes.rests;
      idle = λ whole. goes.idle refl whole;
    }
