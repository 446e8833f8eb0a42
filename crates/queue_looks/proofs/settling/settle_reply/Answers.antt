use Rattle.std.proofs.Common.{subst, sym, ◌<◌}
use Rattle.queue_looks.proofs.Common.{Held, BoardState, IsLate, Waits, work_of, moves_none}
use Rattle.queue_looks.proofs.Common.{moves_twice}
use Rattle.queue_looks.proofs.settling.settle_reply.Goals as goal

pub loop-board-init : goal.loop-board-init
loop-board-init g c = (
  c.requires.waits,
  (λ reply first. first),
  moves_none g.D.Disk.state g.D.Disk.makes c.args.board.now,
)

pub loop-board-smaller : goal.loop-board-smaller
loop-board-smaller g c =
    let w = c.loop-board.invariant.0 in
    let none = c.loop-board-test.ensures.found w.start w.reply w.waits in
    let moved = c.write_on.ensures.writes w.start w.reply
    (subst (Waits g.D.Disk.state c.args.guest w.start w.reply) (sym none.0) w.waits)
    (subst (IsLate c.args.guest) (sym none.0) none.1) in
    subst (λ b. work_of c.args.guest c.write_on.new.board < work_of c.args.guest b) none.0
    moved.less

pub loop-board-preserved : goal.loop-board-preserved
loop-board-preserved g c =
    let w = c.loop-board.invariant.0 in
    let shows = g.D.Disk.state in
    let makes = g.D.Disk.makes in
    let none = c.loop-board-test.ensures.found w.start w.reply w.waits in
    let next = λ (start : BoardState _) (reply : Held)
    (waits : Waits g.D.Disk.state c.args.guest start reply c.loop-board.board).
    (c.write_on.ensures.writes start reply (subst (Waits g.D.Disk.state c.args.guest start reply)
    (sym none.0) waits) (subst (IsLate c.args.guest) (sym none.0) none.1)).waits in
    let looked = c.loop-board-test.ensures.moves in (
      record { start = w.start; reply = w.reply; waits = next w.start w.reply w.waits },
      (λ reply first. next c.args.board.now reply (c.loop-board.invariant.1 reply first)),
      moves_twice shows makes c.args.board.now c.loop-board.board c.write_on.new.board
          c.loop-board.invariant.2
          (moves_twice shows makes c.loop-board.board _ c.write_on.new.board looked
          c.write_on.ensures.moves),
    )

pub returns-clause-moves : goal.returns-clause-moves
returns-clause-moves g c =
    moves_twice g.D.Disk.state g.D.Disk.makes c.args.board.now c.loop-board.board _
    c.loop-board.invariant.2 c.loop-board-test.ensures.moves

pub returns-clause-leaves : goal.returns-clause-leaves
returns-clause-leaves g c reply first = c.loop-board-test.ensures.found c.args.board.now reply
    (c.loop-board.invariant.1 reply first)
