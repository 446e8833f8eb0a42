use Rattle.std.proofs.Common.{sym}
use Rattle.board.proofs.Common.{slice_get}
use Rattle.board.proofs.Doing.{full_at}
use Rattle.board.proofs.Stays.{may_give_it}
use Rattle.board.specs.Asking.{board_of}
use Rattle.board.specs.declared.step.Step.TheVariants as step
use Rattle.board.proofs.AskingSteps.{asked, rest_asked}
use Rattle.board.proofs.Lifting.{rest_sound}
use Rattle.board.proofs.asking.AskingBoard.give.Goals as goal

pub give-requires : goal.give-requires
give-requires g c =
    let s = c.self.invariant in
    let b = board_of (asked c.self.inside.devices.items c.self.inside.rest) in
    record {
      may = λ i there free. (may_give_it g.D.Disk.state s.config s.bases s.accepted s.parts b
          s.linked c.args.guest i (full_at (slice_get b.intents c.args.guest) i (sym there))
          free).1;
    }

pub invariant_of-self : goal.invariant_of-self
invariant_of-self g c = rest_sound _ g.D.Disk.makes g.met.D.Disk.effect _ _ c.self.invariant
    c.what_always_holds.ensures (step.Give c.args.guest) tt _ _ c.give.ensures

pub returns-clause-steps : goal.returns-clause-steps
returns-clause-steps g c = rest_asked _ g.D.Disk.makes g.met.D.Disk.effect
    (asked c.self.inside.devices.items c.self.inside.rest) c.self.invariant
    c.what_always_holds.ensures (step.Give c.args.guest) tt _ _ c.give.ensures _ c.self.view_is
