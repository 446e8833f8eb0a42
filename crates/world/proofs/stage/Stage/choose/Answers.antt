use Rattle.std.proofs.Common.{ap, Some, ◌∙◌}
use Rattle.world.proofs.Staging.{chosen_fit}
use Rattle.world.proofs.stage.Stage.choose.Goals as goal

pub returns-in-Some-Up-clause-fit : goal.returns-in-Some-Up-clause-fit
returns-in-Some-Up-clause-fit c = chosen_fit c.args.self.now c.args.k c.in-Some-Up.board
    c.fail.new.self (c.in-Some-Up.is ∙ ap Some c.in-Some-Up.field-0-is) c.fail.ensures
    c.requires.fit
