use Rattle.std.proofs.Common.{ap, None, subst, sym, ◌∙◌}
use Rattle.world.proofs.Common.{IsFitWith, home_of, seen_of, world_of, CutsTo, CutWithin, Happens}
use Rattle.world.proofs.Common.{OpensOrNot, UpgradesTo, disk_of, Down}
use Rattle.world.proofs.Staging.{left_fit, opened_from}
use Rattle.world.proofs.stage.Stage.happen.Goals as goal

pub open-requires-clause-fit : goal.open-requires-clause-fit
open-requires-clause-fit c = subst (IsFitWith (Down c.cut-disk.result)) (sym c.leave.ensures.rest)
    (left_fit c.args.self.now c.cut-disk.result c.requires.consistent c.requires.fit)

pub open-requires-in-StopIn-clause-fit : goal.open-requires-in-StopIn-clause-fit
open-requires-in-StopIn-clause-fit c =
    subst (IsFitWith (Down c.cut_within-disk.result)) (sym c.leave-in-StopIn.ensures.rest)
    (left_fit c.args.self.now c.cut_within-disk.result c.requires.consistent c.requires.fit)

pub open-requires-in-Open-clause-fit : goal.open-requires-in-Open-clause-fit
open-requires-in-Open-clause-fit c =
    subst (IsFitWith (Down c.into_disk-disk.result)) (sym c.leave-in-Open.ensures.rest)
    (left_fit c.args.self.now c.into_disk-disk.result c.requires.consistent c.requires.fit)

pub returns-in-Stop-clause-happens : goal.returns-in-Stop-clause-happens
returns-in-Stop-clause-happens c =
    let w = world_of (seen_of c.args.self.now) in
    let left = c.cut-disk.result in
    let new = world_of (seen_of c.open.new.self) in
    subst (λ e. Happens w e c.open.result new) (sym c.in-Stop.is) (
      left,
      subst (λ h. CutsTo c.in-Stop.filler (disk_of h) left) c.leave.ensures.home c.cut-disk.ensures,
      opened_from left w (home_of None) c.open.result new
          (subst (λ v. OpensOrNot left (world_of (seen_of v)) c.open.result new)
          c.leave.ensures.rest c.open.ensures.opens),
    )

pub returns-in-StopIn-clause-happens : goal.returns-in-StopIn-clause-happens
returns-in-StopIn-clause-happens c =
    let w = world_of (seen_of c.args.self.now) in
    let left = c.cut_within-disk.result in
    let new = world_of (seen_of c.open-in-StopIn.new.self) in
    subst (λ e. Happens w e c.open-in-StopIn.result new) (sym c.in-StopIn.is) (
      left,
      subst (λ h. CutWithin h c.in-StopIn.filler left) c.leave-in-StopIn.ensures.home
          c.cut_within-disk.ensures,
      opened_from left w (home_of None) c.open-in-StopIn.result new
          (subst (λ v. OpensOrNot left (world_of (seen_of v)) c.open-in-StopIn.result new)
          c.leave-in-StopIn.ensures.rest c.open-in-StopIn.ensures.opens),
    )

pub returns-in-Open-clause-happens : goal.returns-in-Open-clause-happens
returns-in-Open-clause-happens c =
    let w = world_of (seen_of c.args.self.now) in
    let left = c.into_disk-disk.result in
    let new = world_of (seen_of c.open-in-Open.new.self) in
    subst (λ e. Happens w e c.open-in-Open.result new) (sym c.in-Open.is)
    (subst (λ d. OpensOrNot d w c.open-in-Open.result new) (c.into_disk-disk.ensures
    ∙ ap disk_of c.leave-in-Open.ensures.home)
    (opened_from left w (home_of None) c.open-in-Open.result new
    (subst (λ v. OpensOrNot left (world_of (seen_of v)) c.open-in-Open.result new)
    c.leave-in-Open.ensures.rest c.open-in-Open.ensures.opens)))

pub open-opened-requires-clause-fit : goal.open-opened-requires-clause-fit
open-opened-requires-clause-fit c =
    subst (IsFitWith (Down c.upgrade_disk-refused.new.disk)) (sym c.leave-in-Upgrade.ensures.rest)
    (left_fit c.args.self.now c.upgrade_disk-refused.new.disk c.requires.consistent
    c.requires.fit)

pub returns-in-Upgrade-clause-happens : goal.returns-in-Upgrade-clause-happens
returns-in-Upgrade-clause-happens c =
    let w = world_of (seen_of c.args.self.now) in
    let left = c.upgrade_disk-refused.new.disk in
    let said = c.upgrade_disk-refused.result in
    let opened = c.open-opened.result in
    let new = world_of (seen_of c.open-opened.new.self) in
    subst (λ e. Happens w e c.or.result new) (sym c.in-Upgrade.is) (record {
      left = left;
      said = said;
      opened = opened;
      upgrades = subst (λ d. UpgradesTo c.args.self.now.config c.in-Upgrade.stop d said left)
          (c.into_disk-disk-in-Upgrade.ensures ∙ ap disk_of c.leave-in-Upgrade.ensures.home)
          (subst (λ g. UpgradesTo g c.in-Upgrade.stop c.into_disk-disk-in-Upgrade.result said left)
          (ap (λ v. v.config) c.leave-in-Upgrade.ensures.rest) c.upgrade_disk-refused.ensures);
      opens = opened_from left w (home_of None) opened new
          (subst (λ v. OpensOrNot left (world_of (seen_of v)) opened new)
          c.leave-in-Upgrade.ensures.rest c.open-opened.ensures.opens);
      tells = c.or.ensures;
    })
