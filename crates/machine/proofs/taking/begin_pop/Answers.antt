use Rattle.std.proofs.Common.{◌∙◌, [], true, ap, subst, sym}
use Rattle.machine.proofs.Common.{Runs, Still, standing}
use Rattle.machine.proofs.Runs.{runs_twice}
use Rattle.machine.proofs.taking.begin_pop.Goals as goal

pub returns-then-not-turn-clause-runs : goal.returns-then-not-turn-clause-runs
returns-then-not-turn-clause-runs c most w =
    let s = standing [] c.args.turn.now.going w in
    let begun = standing [] true w in
    runs_twice c.args.guest most s begun begun c.args.board.now c.begin.new.board
    c.tell_event.new.board
    (c.begin.ensures.runs most w) (c.tell_event.ensures.runs most [] true w)

pub returns-else-not-turn-clause-runs : goal.returns-else-not-turn-clause-runs
returns-else-not-turn-clause-runs c most w =
    subst (λ v. Runs c.args.guest most (standing [] v w) c.args.board.now (standing [] true w)
    c.args.board.now) (sym c.if-not-turn.false ∙ ap (λ t. t.going) c.turn.view_is)
    (Still (standing [] true w) c.args.board.now)
