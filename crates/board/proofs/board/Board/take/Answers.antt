use Rattle.std.proofs.Common.{None}
use Rattle.board.proofs.Stays.{is_share_of}
use Rattle.board.specs.State.{with_devices}
use Rattle.board.specs.declared.step.Step.TheVariants as step
use Rattle.board.proofs.Lifting.{rest_sound, rest_steps}
use Rattle.board.proofs.board.Board.take.Goals as goal

pub take-requires : goal.take-requires
take-requires g c = (let s = c.self.invariant in let i = c.self.inside in record {
  share = λ empty. is_share_of g.D.Disk.state s.config s.bases s.accepted s.parts
      (with_devices i.devices.items i.rest) s.linked c.args.guest None empty;
})

pub invariant_of-self : goal.invariant_of-self
invariant_of-self g c = rest_sound _ g.D.Disk.makes g.met.D.Disk.effect _ _ c.self.invariant
    c.what_always_holds.ensures (step.Take c.args.guest) tt _ _ c.take.ensures

pub returns : goal.returns
returns g c = rest_steps _ g.D.Disk.makes g.met.D.Disk.effect _ _ c.self.invariant
    c.what_always_holds.ensures (step.Take c.args.guest) tt _ _ c.take.ensures _ c.self.view_is
