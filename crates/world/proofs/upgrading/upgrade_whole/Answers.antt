use Rattle.std.proofs.Common.{ap, refl, sym}
use Rattle.world.proofs.Common.{CutMakes, cut_state, capacities_of, LeavesAsBefore}
use Rattle.board.proofs.Opened.{within_end}
use Rattle.world.specs.World.{refusal_of_upgrade}
use Rattle.world.proofs.upgrading.upgrade_whole.Goals as goal

pub returns-in-Ok : goal.returns-in-Ok
returns-in-Ok c =
    let before = c.args.disk.now in
    let after = c.upgrade.new.disk in
    let back = within_end cut_state CutMakes (LeavesAsBefore (capacities_of c.args.board.now)
    (cut_state before)) before after c.upgrade.ensures.any_stop in
    record {
      answer = c.upgrade.result;
      calls = c.upgrade.ensures.calls;
      answers =
          c.upgrade.ensures.answers refl;
      failures = c.upgrade.ensures.failures;
      back = back;
      tells =
          ap refusal_of_upgrade (sym c.in-Ok.is);
    }

pub returns-in-Err : goal.returns-in-Err
returns-in-Err c =
    let before = c.args.disk.now in
    let after = c.upgrade.new.disk in
    let back = within_end cut_state CutMakes (LeavesAsBefore (capacities_of c.args.board.now)
    (cut_state before)) before after c.upgrade.ensures.any_stop in
    record {
      answer = c.upgrade.result;
      calls = c.upgrade.ensures.calls;
      answers =
          c.upgrade.ensures.answers refl;
      failures = c.upgrade.ensures.failures;
      back = back;
      tells =
          ap refusal_of_upgrade (sym c.in-Err.is);
    }
