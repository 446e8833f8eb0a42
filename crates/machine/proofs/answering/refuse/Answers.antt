use Rattle.std.proofs.Common.{ap}
use Rattle.machine.proofs.Moved.{moved}
use Rattle.machine.proofs.answering.refuse.Goals as goal

pub returns-clause-refuses : goal.returns-clause-refuses
returns-clause-refuses c =
    let b = c.args.board.now in
    record {
      device = c.device.result.now;
      its = c.device.ensures.device;
      after = ap (λ d. moved b c.args.guest d) c.refuse.ensures;
    }
