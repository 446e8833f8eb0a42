use Rattle.std.proofs.Common.{refl, rules, subst}
use Rattle.machine.specs.Resting.{CantGoOn, NoQueue}
use Rattle.machine.proofs.machine.Machine.load.Goals as goal

pub returns-then-not-go_on_as-clause-cause : goal.returns-then-not-go_on_as-clause-cause
returns-then-not-go_on_as-clause-cause c =
    NoQueue refl (search rules) (search rules) (search rules)
    (subst (λ it. CantGoOn c.args.guest it c.args.self.now) c.device_of.ensures
    (c.if-not-go_on_as.ensures.cant refl))
