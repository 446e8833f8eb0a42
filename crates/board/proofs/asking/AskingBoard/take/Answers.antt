use Rattle.std.proofs.Common.{None}
use Rattle.board.proofs.Stays.{is_share_of}
use Rattle.board.specs.Asking.{board_of}
use Rattle.board.specs.declared.step.Step.TheVariants as step
use Rattle.board.proofs.AskingSteps.{asked, rest_asked}
use Rattle.board.proofs.Lifting.{rest_sound}
use Rattle.board.proofs.asking.AskingBoard.take.Goals as goal

pub take-requires : goal.take-requires
take-requires g c =
    let s = c.self.invariant in
    let b = board_of (asked c.self.inside.devices.items c.self.inside.rest) in
    record {
      share = λ empty. is_share_of g.D.Disk.state s.config s.bases s.accepted s.parts b s.linked
          c.args.guest None empty;
    }

pub invariant_of-self : goal.invariant_of-self
invariant_of-self g c = rest_sound _ g.D.Disk.makes g.met.D.Disk.effect _ _ c.self.invariant
    c.what_always_holds.ensures (step.Take c.args.guest) tt _ _ c.take.ensures

pub returns-clause-steps : goal.returns-clause-steps
returns-clause-steps g c = rest_asked _ g.D.Disk.makes g.met.D.Disk.effect
    (asked c.self.inside.devices.items c.self.inside.rest) c.self.invariant
    c.what_always_holds.ensures (step.Take c.args.guest) tt _ _ c.take.ensures _ c.self.view_is
