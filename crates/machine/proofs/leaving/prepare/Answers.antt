use Rattle.std.proofs.Common.{[], ◌∙◌, false, true, ap, subst, sym}
use Rattle.machine.proofs.Common.{Runs, standing}
use Rattle.machine.proofs.Popping.{gives_up}
use Rattle.machine.proofs.Runs.{runs_twice}
use Rattle.machine.proofs.leaving.prepare.Goals as goal

pub returns-then-not-note_reply-clause-runs : goal.returns-then-not-note_reply-clause-runs
returns-then-not-note_reply-clause-runs c most =
    let g = c.args.guest in
    let w = c.args.turn.now.looked in
    let s = standing [] c.args.turn.now.going w in
    let t = standing [] c.stop.new.self.going c.stop.new.self.looked in
    runs_twice g most s (standing [] true w) t c.args.board.now c.begin.new.board c.begin.new.board
    (c.begin.ensures.runs most w)
    (gives_up g most [] true w t c.begin.new.board
    (ap (λ v. standing [] v.going v.looked) c.stop.ensures
    ∙ ap (λ v. standing [] false v.looked) (c.note_reply.ensures.rest)
    ∙ ap (λ v. standing [] false v.looked) c.begin.ensures.turn))

pub returns-then-not-tell_zeros-clause-runs : goal.returns-then-not-tell_zeros-clause-runs
returns-then-not-tell_zeros-clause-runs c most =
    let g = c.args.guest in
    let w = c.args.turn.now.looked in
    let s = standing [] c.args.turn.now.going w in
    let begun = standing [] true w in
    let stopped = c.stop-then-not-tell_zeros in
    let t = standing [] stopped.new.self.going stopped.new.self.looked in
    let a = c.args.board.now in
    let b = c.begin.new.board in
    let d = c.tell_zeros.new.board in
    runs_twice g most s begun t a d d
    (runs_twice g most s begun begun a b d (c.begin.ensures.runs most w)
    (c.tell_zeros.ensures.runs most [] true w))
    (gives_up g most [] true w t d
    (ap (λ v. standing [] v.going v.looked) stopped.ensures
    ∙ ap (λ v. standing [] false v.looked) (c.note_reply.ensures.rest)
    ∙ ap (λ v. standing [] false v.looked) c.begin.ensures.turn))

pub returns-clause-runs : goal.returns-clause-runs
returns-clause-runs c most =
    let g = c.args.guest in
    let w = c.args.turn.now.looked in
    let s = standing [] c.args.turn.now.going w in
    let begun = standing [] true w in
    let a = c.args.board.now in
    let d = c.tell_zeros.new.board in
    subst (λ r. Runs g most s a r d)
    (sym (ap (λ t. standing [] t.going t.looked) c.note_reply.ensures.rest
    ∙ ap (λ t. standing [] t.going t.looked) c.begin.ensures.turn))
    (runs_twice g most s begun begun a c.begin.new.board d (c.begin.ensures.runs most w)
    (c.tell_zeros.ensures.runs most [] true w))
