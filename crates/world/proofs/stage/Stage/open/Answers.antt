use Rattle.std.proofs.Common.{ap, inr, refl, subst, sym, Some, ◌∙◌}
use Rattle.world.proofs.Common.{CutMakes, cut_state, Within, SyncsFirst, Untouched, Down, Stage}
use Rattle.recovery.specs.declared.fault.OpenFault.TheVariants as open_fault
use Rattle.world.proofs.Staging.{opened_fit, opens_at, refused_fit, refuses_at}
use Rattle.world.proofs.stage.Stage.open.Goals as goal

pub returns-in-Err-clause-opens : goal.returns-in-Err-clause-opens
returns-in-Err-clause-opens c =
    refuses_at c.args.self.now c.refuse.new.self c.args.disk c.in-Err.disk c.in-Err.fault
    c.refuse.result c.refuse.ensures.told c.refuse.ensures.rest c.in-Err.ensures.any_moment
    c.in-Err.ensures.calls c.in-Err.ensures.cause c.in-Err.ensures.unfailed
    (c.in-Err.ensures.answers refl)

pub returns-in-Err-take_over-clause-opens : goal.returns-in-Err-take_over-clause-opens
returns-in-Err-take_over-clause-opens c =
    let left = c.into_disk.result in
    let r = c.refuse-in-Err-take_over.ensures in
    refuses_at c.args.self.now c.refuse-in-Err-take_over.new.self c.args.disk left
    open_fault.NoMemory c.refuse-in-Err-take_over.result r.told
    (r.rest ∙ ap (λ (v : Stage). record v { home = Some (Down left) })
    c.in-Err-take_over.ensures.unchanged)
    (subst (Within cut_state CutMakes (Untouched (cut_state c.args.disk)) c.args.disk)
    (sym c.into_disk.ensures) c.in-Ok.ensures.any_moment)
    (inr (subst (SyncsFirst CutMakes c.args.disk) (sym c.into_disk.ensures) c.in-Ok.ensures.calls))
    (λ e. absurd (cc)) (λ e. ap (λ d. d.failures) c.into_disk.ensures
    ∙ c.in-Ok.ensures.unfailed refl) tt

pub returns-in-Err-take_over-clause-fit : goal.returns-in-Err-take_over-clause-fit
returns-in-Err-take_over-clause-fit c =
    let left = c.into_disk.result in
    refused_fit c.args.self.now c.refuse-in-Err-take_over.new.self c.args.disk left
    (c.refuse-in-Err-take_over.ensures.rest
    ∙ ap (λ (v : Stage). record v { home = Some (Down left) })
    c.in-Err-take_over.ensures.unchanged) c.requires.fit

pub returns-in-Ok-take_over-clause-opens : goal.returns-in-Ok-take_over-clause-opens
returns-in-Ok-take_over-clause-opens c =
    let t = c.in-Ok-take_over.ensures in
    opens_at c.args.self.now c.take_over.new.self c.args.disk c.in-Ok.board c.raised-life.result
    c.raised-life.ensures c.in-Ok.ensures.begins t.rest t.first t.later c.requires.first
    (c.in-Ok.ensures.found refl) c.in-Ok.ensures.calls (c.in-Ok.ensures.unfailed refl)

pub returns-in-Ok-take_over-clause-fit : goal.returns-in-Ok-take_over-clause-fit
returns-in-Ok-take_over-clause-fit c =
    let t = c.in-Ok-take_over.ensures in
    opened_fit c.args.self.now c.take_over.new.self c.args.disk c.in-Ok.board c.raised-life.result
    c.raised-life.ensures c.in-Ok.ensures.begins t.rest t.first t.later c.requires.fit
