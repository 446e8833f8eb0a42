use Rattle.board.specs.Steps.{publish_answer}
use Rattle.board.specs.declared.step.Step.TheVariants as step
use Rattle.board.proofs.Moving.{made, steps_sound}
use Rattle.board.specs.State.{with_devices}
use Rattle.board.proofs.board.Board.publish.Goals as goal

pub invariant_of-self : goal.invariant_of-self
invariant_of-self g c = (let w = c.what_always_holds.ensures in let i = c.self.inside in
    steps_sound g.D.Disk.state g.D.Disk.makes g.met.D.Disk.effect (step.Publish c.args.guest)
    (publish_answer c.publish.result) (with_devices i.devices.items i.rest)
    (with_devices c.publish.new.devices.items c.publish.new.self) c.self.invariant
    w c.publish.ensures)

pub returns : goal.returns
returns g c = (let w = c.what_always_holds.ensures in
    made g.D.Disk.state g.D.Disk.makes g.met.D.Disk.effect _ _
    (with_devices c.self.inside.devices.items c.self.inside.rest) _ _
    c.self.view_is c.self.invariant w c.publish.ensures)
