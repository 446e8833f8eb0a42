use Rattle.std.proofs.Common.{◌≡◌, [], inl, refl, ap, sym, subst, ◌∙◌, IfSome, Ok, true, false}
use Rattle.machine.proofs.Common.{Calls, Runs, owing, slice_get, stand_of, standing}
use Rattle.mmio_transport.specs.Asking.{Notifies}
use Rattle.machine.specs.Ending.{SawAll}
use Rattle.machine.specs.Serving.{AsksIn}
use Rattle.machine.specs.Serving.{Sees}
use Rattle.machine.proofs.Goings.{not_notified, notify_asks, saw_all}
use Rattle.machine.proofs.Moved.{moved, moved_at, moved_none, moved_runs, moved_same}
use Rattle.machine.proofs.Popping.{gives_up}
use Rattle.machine.proofs.Runs.{runs_twice, still_on}
use Rattle.machine.proofs.serving.notify.Goals as goal

pub returns-else-waits_for_reset-clause-runs : goal.returns-else-waits_for_reset-clause-runs
returns-else-waits_for_reset-clause-runs c most =
    let g = c.args.guest in
    let b = c.begin.new.board in
    let d = c.device.result.now in
    let w = c.args.turn.now.looked in
    let same = moved_none g b d c.notify.new.self c.device.ensures.device
    (notify_asks d c.notify.new.self c.in-Err.ask c.in-Err.ensures.notifies).same in
    let s = standing [] c.args.turn.now.going w in
    still_on g most s (standing [] true w) (stand_of c.go_to.new.self) c.args.board.now
    (moved b g c.notify.new.self)
    (ap stand_of (c.go_to.ensures) ∙ ap stand_of c.begin.ensures.turn
    ∙ ap (λ ps. standing ps true w) c.requires.parts)
    (subst (λ x. Runs g most s c.args.board.now (standing [] true w) x) (sym same)
    (c.begin.ensures.runs most w))

pub returns-else-waits_for_reset-clause-needs : goal.returns-else-waits_for_reset-clause-needs
returns-else-waits_for_reset-clause-needs c =
    let g = c.args.guest in
    let b = c.begin.new.board in
    let d = c.device.result.now in
    let d' = c.notify.new.self in
    let asks = notify_asks d d' c.in-Err.ask c.in-Err.ensures.notifies in
    let same = moved_none g b d d' c.device.ensures.device asks.same in (
      subst (λ x. AsksIn g c.in-Err.ask x) (sym same) (record {
        device = d;
        its = c.device.ensures.device;
        asks = asks.missing;
        needed = inl asks.needed;
      }),
      subst (λ v. IfSome (slice_get (moved b g d').devices g)
          (λ x. x.device.registers.status.needs_reset ≡ v)) c.if-waits_for_reset.false
          c.waits_for_reset.ensures,
    )

pub returns-then-waits_for_reset-clause-runs : goal.returns-then-waits_for_reset-clause-runs
returns-then-waits_for_reset-clause-runs c most =
    let g = c.args.guest in
    let a = c.args.board.now in
    let b = c.begin.new.board in
    let d = c.device.result.now in
    let w = c.args.turn.now.looked in
    let same = moved_none g b d c.notify.new.self c.device.ensures.device
    (notify_asks d c.notify.new.self c.in-Err.ask c.in-Err.ensures.notifies).same in
    let s = standing [] c.args.turn.now.going w in
    let t = stand_of c.take_next.new.self in
    runs_twice g most s (standing [] true w) t a (moved b g c.notify.new.self)
    (moved b g c.notify.new.self)
    (subst (λ x. Runs g most s a (standing [] true w) x) (sym same) (c.begin.ensures.runs most w))
    (gives_up g most [] true w t (moved b g c.notify.new.self)
    (ap stand_of c.take_next.ensures ∙ ap (λ v. standing v.parts false v.looked)
    c.begin.ensures.turn
    ∙ ap (λ ps. standing ps false w) c.requires.parts))

pub returns-then-waits_for_reset-clause-none : goal.returns-then-waits_for_reset-clause-none
returns-then-waits_for_reset-clause-none c is =
    let g = c.args.guest in
    let b = c.begin.new.board in
    let d = c.device.result.now in
    let d' = c.notify.new.self in
    let asks = notify_asks d d' c.in-Err.ask c.in-Err.ensures.notifies in
    let at = moved_at g b d d' c.device.ensures.device in
    let waits : d'.device.registers.status.needs_reset ≡ true =
    subst (λ o. IfSome o (λ x. x.device.registers.status.needs_reset ≡ true)) at
    (subst (λ v. IfSome (slice_get (moved b g d').devices g)
    (λ x. x.device.registers.status.needs_reset ≡ v)) c.if-waits_for_reset.true
    c.waits_for_reset.ensures) in (
      moved_same g b d d' c.device.ensures.device (ap (λ x. x.device) asks.same)
          ∙ c.begin.ensures.devices,
      subst (λ o. IfSome o SawAll) (sym at)
          (λ going. absurd (let no = waits in let is_ = going in cc)),
    )

pub returns-in-Ok-true-clause-runs : goal.returns-in-Ok-true-clause-runs
returns-in-Ok-true-clause-runs c most =
    let g = c.args.guest in
    let a = c.args.board.now in
    let b = c.begin.new.board in
    let d = c.device.result.now in
    let d' = c.notify.new.self in
    let w = c.args.turn.now.looked in
    let s = standing [] c.args.turn.now.going w in
    let t = c.take_next-in-Ok-true.new.self in
    still_on g most s (owing [] w) (record (stand_of t) { owed = true }) a (moved b g d')
    (ap (λ t. record (stand_of t) { owed = true }) c.take_next-in-Ok-true.ensures
    ∙ ap (λ t. owing t.parts t.looked) c.begin.ensures.turn
    ∙ ap (λ ps. owing ps w) c.requires.parts)
    (Calls s [] w a b (moved b g d') (c.begin.ensures.runs most w) (record {
      device = d;
      its = c.device.ensures.device;
      device' = d';
      sees = subst (λ v. Notifies d (Ok v) d') c.in-Ok-true.field-0-test
          c.in-Ok-true.ensures.notifies;
      after = refl;
    }))

pub returns-in-Ok-false-clause-runs : goal.returns-in-Ok-false-clause-runs
returns-in-Ok-false-clause-runs c most =
    let g = c.args.guest in
    let a = c.args.board.now in
    let b = c.begin.new.board in
    let d = c.device.result.now in
    let d' = c.notify.new.self in
    let w = c.args.turn.now.looked in
    let s = standing [] c.args.turn.now.going w in
    still_on g most s (standing [] false w) (stand_of c.take_next-in-Ok-false.new.self) a
    (moved b g d')
    (ap stand_of c.take_next-in-Ok-false.ensures
    ∙ ap (λ t. standing t.parts false t.looked) c.begin.ensures.turn
    ∙ ap (λ ps. standing ps false w) c.requires.parts)
    (runs_twice g most s (standing [] true w) (standing [] false w) a b (moved b g d')
    (c.begin.ensures.runs most w)
    (moved_runs g b d d' c.device.ensures.device most [] true false w (λ off on. absurd (cc))
    (Sees d d' (subst (λ v. Notifies d (Ok v) d') c.in-Ok-false.field-0-test
    c.in-Ok-false.ensures.notifies))))

pub returns-in-Ok-false-clause-none : goal.returns-in-Ok-false-clause-none
returns-in-Ok-false-clause-none c is =
    let g = c.args.guest in
    let b = c.begin.new.board in
    let d = c.device.result.now in
    let d' = c.notify.new.self in
    let sees = subst (λ v. Notifies d (Ok v) d') c.in-Ok-false.field-0-test
    c.in-Ok-false.ensures.notifies in (
      moved_same g b d d' c.device.ensures.device (not_notified d d' sees)
          ∙ c.begin.ensures.devices,
      subst (λ o. IfSome o SawAll) (sym (moved_at g b d d' c.device.ensures.device))
          (saw_all d d' sees),
    )
