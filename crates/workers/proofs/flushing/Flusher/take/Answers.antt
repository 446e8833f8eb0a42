use Rattle.std.proofs.Common.{refl, subst}
use Rattle.std.specs.Prelude.{slice_get}
use Rattle.board.specs.State.{over}
use Rattle.board.specs.Steps.{TakesInto, did_answer}
use Rattle.workers.proofs.KeeperSteps.{follows_given, given_taken, took}
use Rattle.workers.proofs.flushing.Flusher.take.Goals as goal

pub returns-else-not-give-clause-follows : goal.returns-else-not-give-clause-follows
returns-else-not-give-clause-follows g c =
    let k = c.args.self.now.keeper in
    let given = took c.args.desk.now c.take.new.self k c.take.new.keeper c.args.guest
    (subst (λ did. TakesInto c.args.guest (slice_get k.intents c.args.guest) (did_answer did)
    (over c.args.desk.now k) (over c.take.new.self c.take.new.keeper)) c.in-Ok-true.field-0-test
    c.in-Ok-true.ensures) in
    follows_given c.args.desk.now k c.take.new.keeper c.give.new.self.keeper c.args.guest given
    (c.if-not-give.ensures.gives refl) c.requires

pub returns-else-not-give-clause-given : goal.returns-else-not-give-clause-given
returns-else-not-give-clause-given g c done =
    let k = c.args.self.now.keeper in
    let given = took c.args.desk.now c.take.new.self k c.take.new.keeper c.args.guest
    (subst (λ did. TakesInto c.args.guest (slice_get k.intents c.args.guest) (did_answer did)
    (over c.args.desk.now k) (over c.take.new.self c.take.new.keeper)) c.in-Ok-true.field-0-test
    c.in-Ok-true.ensures) in
    given_taken c.args.desk.now k c.take.new.keeper c.give.new.self.keeper c.args.guest given
    (c.if-not-give.ensures.gives refl)
