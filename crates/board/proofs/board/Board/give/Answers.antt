use Rattle.std.proofs.Common.{sym}
use Rattle.board.proofs.Common.{slice_get}
use Rattle.board.proofs.Doing.{full_at}
use Rattle.board.proofs.Stays.{may_give_it}
use Rattle.board.specs.State.{with_devices}
use Rattle.board.specs.declared.step.Step.TheVariants as step
use Rattle.board.proofs.Lifting.{rest_sound, rest_steps}
use Rattle.board.proofs.board.Board.give.Goals as goal

pub give-requires : goal.give-requires
give-requires g c = (let s = c.self.invariant in let i = c.self.inside in record {
  may = λ j there free. (may_give_it g.D.Disk.state s.config s.bases s.accepted s.parts
      (with_devices i.devices.items i.rest) s.linked c.args.guest j
      (full_at (slice_get i.rest.intents c.args.guest) j (sym there)) free).1;
})

pub invariant_of-self : goal.invariant_of-self
invariant_of-self g c = rest_sound _ g.D.Disk.makes g.met.D.Disk.effect _ _ c.self.invariant
    c.what_always_holds.ensures (step.Give c.args.guest) tt _ _ c.give.ensures

pub returns : goal.returns
returns g c = rest_steps _ g.D.Disk.makes g.met.D.Disk.effect _ _ c.self.invariant
    c.what_always_holds.ensures (step.Give c.args.guest) tt _ _ c.give.ensures _ c.self.view_is
