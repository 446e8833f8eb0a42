use Rattle.std.proofs.Common.{rules}
use Rattle.machine.proofs.Rests.{unrested}
use Rattle.machine.proofs.machine.Machine.rest_at.Goals as goal

pub returns-clause-none : goal.returns-clause-none
returns-clause-none c none =
    unrested c.args.self.now c.args.guest c.in-Some._setup.now c.in-Some-turn_of.turn.now
    c.in-Some-device_of.device.now
    (record {
      set_up = search rules;
      serve_at = search rules;
      its_device = search rules;
    }) c.rest_of.result c.rest_of.ensures.rests none
