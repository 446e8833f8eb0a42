use Rattle.std.proofs.Common.{[], ap, refl, ◌∙◌, subst}
use Rattle.machine.proofs.Common.{stand_of, standing}
use Rattle.machine.specs.Ending.{GoesOn, Stops, Tells}
use Rattle.machine.specs.Serving.{RefusesIn}
use Rattle.machine.proofs.answering.answer.Goals as goal

pub returns-in-Nothing-clause-begins : goal.returns-in-Nothing-clause-begins
returns-in-Nothing-clause-begins c =
    GoesOn refl (ap stand_of c.turn.view_is)

pub returns-else-not-is_there-clause-begins : goal.returns-else-not-is_there-clause-begins
returns-else-not-is_there-clause-begins c =
    GoesOn refl (ap stand_of c.turn.view_is)

pub returns-in-Ok-clause-begins : goal.returns-in-Ok-clause-begins
returns-in-Ok-clause-begins c =
    Tells c.in-Read.ask.at _ c.in-Ok.ensures.told (ap stand_of c.turn.view_is)

pub returns-in-Err-NoMemory-clause-begins : goal.returns-in-Err-NoMemory-clause-begins
returns-in-Err-NoMemory-clause-begins c =
    GoesOn c.in-Err-NoMemory.ensures.same (ap stand_of c.turn.view_is)

pub returns-in-Err-OutOfRange-clause-begins : goal.returns-in-Err-OutOfRange-clause-begins
returns-in-Err-OutOfRange-clause-begins c =
    let refused = c.refuse-in-Err-OutOfRange in
    Stops (subst (λ b. RefusesIn c.args.guest b refused.new.board)
    c.in-Err-OutOfRange.ensures.same refused.ensures.refuses)
    (ap stand_of refused.ensures.turn ∙ ap (λ t. standing [] t.going t.looked) c.turn.view_is)

pub returns-then-not-is_there-clause-begins : goal.returns-then-not-is_there-clause-begins
returns-then-not-is_there-clause-begins c =
    Stops c.refuse.ensures.refuses
    (ap stand_of c.refuse.ensures.turn ∙ ap (λ t. standing [] t.going t.looked) c.turn.view_is)

pub returns-then-not-is_there-2-clause-begins : goal.returns-then-not-is_there-2-clause-begins
returns-then-not-is_there-2-clause-begins c =
    let refused = c.refuse-then-not-is_there-2 in
    Stops refused.ensures.refuses
    (ap stand_of refused.ensures.turn ∙ ap (λ t. standing [] t.going t.looked) c.turn.view_is)
