use Rattle.board.proofs.Stays.{may_settle_them}
use Rattle.board.specs.State.{with_devices}
use Rattle.board.specs.declared.step.Step.TheVariants as step
use Rattle.board.proofs.Lifting.{rest_sound, rest_steps}
use Rattle.board.proofs.board.Board.settle.Goals as goal

pub settle-requires : goal.settle-requires
settle-requires g c = (let s = c.self.invariant in let i = c.self.inside in
    may_settle_them g.D.Disk.state s.config s.bases s.accepted s.parts
    (with_devices i.devices.items i.rest) s.linked)

pub invariant_of-self : goal.invariant_of-self
invariant_of-self g c = rest_sound _ g.D.Disk.makes g.met.D.Disk.effect _ _ c.self.invariant
    c.what_always_holds.ensures step.Settle tt _ _ c.settle.ensures

pub returns : goal.returns
returns g c = rest_steps _ g.D.Disk.makes g.met.D.Disk.effect _ _ c.self.invariant
    c.what_always_holds.ensures step.Settle tt _ _ c.settle.ensures _ c.self.view_is
