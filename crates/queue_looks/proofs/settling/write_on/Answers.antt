use Rattle.std.proofs.Common.{arith, rules}
use Rattle.queue_looks.proofs.Common.{did_answer, moves_twice, sound_moved}
use Rattle.queue_looks.proofs.Work.{writes}
use Rattle.queue_looks.proofs.settling.write_on.Goals as goal

pub returns-clause-moves : goal.returns-clause-moves
returns-clause-moves g c = search (arith, rules, moves_twice)

pub returns-clause-writes : goal.returns-clause-writes
returns-clause-writes g c start reply waits late =
    let b0 = c.args.board.now in
    let b1 = c.take.new.self in
    let b2 = c.give.new.self in
    let b3 = c.go_on.new.board in
    let shows = g.D.Disk.state in
    let makes = g.D.Disk.makes in
    let s1 = sound_moved shows makes b0 b1 waits.sound c.take.ensures.moves in
    let s2 = sound_moved shows makes b1 b2 s1 c.give.ensures.moves in
    let s3 = sound_moved shows makes b2 b3 s2 c.go_on.ensures.moves in
    writes shows makes c.args.guest start reply b0 b1 b2 b3 (did_answer c.take.result)
    (did_answer c.give.result) c.go_on.result waits late s1 s2 s3
    c.take.ensures.does c.give.ensures.does c.go_on.ensures.goes
