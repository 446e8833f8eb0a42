use Rattle.std.proofs.Common.{Some, subst, sym, ◌∙◌}
use Rattle.machine.specs.Resting.{CantGoOn, CantStand, NoPlace, NotReady, NotResting, Nowhere}
use Rattle.machine.proofs.machine.Machine.move_to.Goals as goal

pub returns-in_default-clause-stays : goal.returns-in_default-clause-stays
returns-in_default-clause-stays c is = Nowhere (NotResting (c.rest_at.ensures.none c.in_default.is))

pub returns-in_default-queue-clause-stays : goal.returns-in_default-queue-clause-stays
returns-in_default-queue-clause-stays c is =
    Nowhere (NotReady c.in-Some.it c.in-Some.ensures.some c.in_default-queue.is)

pub returns-in_default-at-clause-stays : goal.returns-in_default-at-clause-stays
returns-in_default-at-clause-stays c is =
    NoPlace c.in-Some.it c.in-Some-queue.queue c.in-Some.ensures.some c.in-Some-queue.is
    (sym c.at.ensures ∙ c.in_default-at.is)

pub returns-clause-stays : goal.returns-clause-stays
returns-clause-stays c stays =
    CantStand c.in-Some.it c.in-Some-queue.queue c.in-Some-at.moved c.in-Some.ensures.some
    c.in-Some-queue.is (sym c.at.ensures ∙ c.in-Some-at.is)
    (subst (λ r. CantGoOn c.args.guest
    (record { registers = r; queue = Some c.in-Some-at.moved }) c.args.self.now)
    c.notified.ensures (c.go_on_as.ensures.cant stays))
