use Rattle.std.proofs.Common.{◌≡◌, ◌∙◌, if◌then◌else◌, [], true, false, refl, sym, subst, ap}
use Rattle.std.proofs.Common.{IfSome}
use Rattle.machine.proofs.Common.{AskingState, Runs, Still, standing}
use Rattle.guest_memory.specs.Memory.{kept}
use Rattle.mmio_transport.specs.Asking.{known}
use Rattle.machine.specs.Ending.{SawAll}
use Rattle.machine.specs.Serving.{Forgets}
use Rattle.machine.proofs.Moved.{moved, moved_at, moved_runs, moved_same}
use Rattle.machine.proofs.taking.begin.Goals as goal

pub returns-then-not-turn-clause-runs : goal.returns-then-not-turn-clause-runs
returns-then-not-turn-clause-runs c most w =
    let g = c.args.guest in
    let b = c.args.board.now in
    let d = c.device.result.now in
    let d' = c.forget.new.self in
    subst (λ v. Runs g most (standing [] v w) b (standing [] true w) (moved b g d'))
    (sym c.if-not-turn.true ∙ ap (λ t. t.going) c.turn.view_is)
    (moved_runs g b d d' c.device.ensures.device most [] false true w (λ off on. refl)
    (Forgets d d' c.forget.ensures))

pub returns-then-not-turn-clause-devices : goal.returns-then-not-turn-clause-devices
returns-then-not-turn-clause-devices c =
    moved_same c.args.guest c.args.board.now c.device.result.now c.forget.new.self
    c.device.ensures.device (ap (λ d. d.device) c.forget.ensures)

pub returns-then-not-turn-clause-seen : goal.returns-then-not-turn-clause-seen
returns-then-not-turn-clause-seen c seen =
    let d = c.device.result.now in
    subst (λ o. IfSome o SawAll)
    (sym (moved_at c.args.guest c.args.board.now d c.forget.new.self c.device.ensures.device))
    (subst SawAll (sym c.forget.ensures)
    (subst (λ o. IfSome o SawAll) c.device.ensures.device seen))

forgotten : (d d' : AskingState) → d' ≡ record d { held = kept (known d) } → d'.asks ≡ true
    → d'.held ≡ []
forgotten d d' is asks =
    ap (λ x. x.held) is ∙ ap (λ b. if b then [] else d.held) (sym (ap (λ x. x.asks) is) ∙ asks)

pub returns-then-not-turn-clause-fresh : goal.returns-then-not-turn-clause-fresh
returns-then-not-turn-clause-fresh c going =
    subst (λ o. IfSome o (λ d. d.asks ≡ true → d.held ≡ []))
    (sym (moved_at c.args.guest c.args.board.now c.device.result.now c.forget.new.self
    c.device.ensures.device))
    (forgotten c.device.result.now c.forget.new.self c.forget.ensures)

pub returns-else-not-turn-clause-runs : goal.returns-else-not-turn-clause-runs
returns-else-not-turn-clause-runs c most w =
    subst (λ v. Runs c.args.guest most (standing [] v w) c.args.board.now (standing [] true w)
    c.args.board.now) (sym c.if-not-turn.false ∙ ap (λ t. t.going) c.turn.view_is)
    (Still (standing [] true w) c.args.board.now)
