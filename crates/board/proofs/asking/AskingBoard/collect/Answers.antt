use Rattle.board.specs.declared.step.Step.TheVariants as step
use Rattle.board.proofs.AskingSteps.{asked, rest_asked}
use Rattle.board.proofs.Lifting.{rest_sound}
use Rattle.board.proofs.asking.AskingBoard.collect.Goals as goal

pub invariant_of-self : goal.invariant_of-self
invariant_of-self g c = rest_sound _ g.D.Disk.makes g.met.D.Disk.effect _ _ c.self.invariant
    c.what_always_holds.ensures (step.Collect c.args.guest) tt _ _ c.collect.ensures

pub returns-clause-steps : goal.returns-clause-steps
returns-clause-steps g c = rest_asked _ g.D.Disk.makes g.met.D.Disk.effect
    (asked c.self.inside.devices.items c.self.inside.rest) c.self.invariant
    c.what_always_holds.ensures (step.Collect c.args.guest) tt _ _ c.collect.ensures _
    c.self.view_is
