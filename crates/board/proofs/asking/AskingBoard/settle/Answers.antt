use Rattle.board.proofs.Stays.{may_settle_them}
use Rattle.board.specs.Asking.{board_of}
use Rattle.board.specs.declared.step.Step.TheVariants as step
use Rattle.board.proofs.AskingSteps.{asked, rest_asked}
use Rattle.board.proofs.Lifting.{rest_sound}
use Rattle.board.proofs.asking.AskingBoard.settle.Goals as goal

pub settle-requires : goal.settle-requires
settle-requires g c =
    let s = c.self.invariant in
    may_settle_them g.D.Disk.state s.config s.bases s.accepted s.parts
    (board_of (asked c.self.inside.devices.items c.self.inside.rest)) s.linked

pub invariant_of-self : goal.invariant_of-self
invariant_of-self g c = rest_sound _ g.D.Disk.makes g.met.D.Disk.effect _ _ c.self.invariant
    c.what_always_holds.ensures step.Settle tt _ _ c.settle.ensures

pub returns-clause-steps : goal.returns-clause-steps
returns-clause-steps g c = rest_asked _ g.D.Disk.makes g.met.D.Disk.effect
    (asked c.self.inside.devices.items c.self.inside.rest) c.self.invariant
    c.what_always_holds.ensures step.Settle tt _ _ c.settle.ensures _ c.self.view_is
