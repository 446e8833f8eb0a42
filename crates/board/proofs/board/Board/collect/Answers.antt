use Rattle.board.specs.declared.step.Step.TheVariants as step
use Rattle.board.proofs.Lifting.{rest_sound, rest_steps}
use Rattle.board.proofs.board.Board.collect.Goals as goal

pub invariant_of-self : goal.invariant_of-self
invariant_of-self g c = rest_sound _ g.D.Disk.makes g.met.D.Disk.effect _ _ c.self.invariant
    c.what_always_holds.ensures (step.Collect c.args.guest) tt _ _ c.collect.ensures

pub returns : goal.returns
returns g c = rest_steps _ g.D.Disk.makes g.met.D.Disk.effect _ _ c.self.invariant
    c.what_always_holds.ensures (step.Collect c.args.guest) tt _ _ c.collect.ensures _
    c.self.view_is
