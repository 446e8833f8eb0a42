use Rattle.board.proofs.Moving.{made}
use Rattle.board.specs.State.{with_devices}
use Rattle.board.proofs.board.Board.drive.Goals as goal

pub returns : goal.returns
returns g c = (let w = c.what_always_holds.ensures in
    made g.D.Disk.state g.D.Disk.makes g.met.D.Disk.effect _ _
    (with_devices c.self.inside.devices.items c.self.inside.rest) _ _
    c.self.view_is c.self.invariant w c.drive.ensures)
