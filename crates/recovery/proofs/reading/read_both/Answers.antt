use Rattle.std.proofs.Common.{◌∙◌, length, subst, true, arith}
use Rattle.recovery.proofs.Common.{err_from_is_err_and, ℕ, region_at, slot_region, other_side, A, B}
use Rattle.recovery.proofs.Common.{HasPayload, GatesAre, Finds}
use Rattle.recovery.specs.declared.reading.Gates.TheVariants as gates
use Rattle.recovery.proofs.Found.{ends_first, ends_second, ends_apart}
use Rattle.recovery.proofs.Lists.{of_guest}
use Rattle.recovery.proofs.Ways.{pass_on, pass_end, gives_on}
use Rattle.recovery.proofs.reading.read_both.Goals as goal

pub returns-in_err-a-clause-finds : goal.returns-in_err-a-clause-finds
returns-in_err-a-clause-finds g c content gives version wide =
    let p = err_from_is_err_and c.from_residual.result c.from_residual.ensures.1 in
    rw (p.1, p.2) (ends_first c.args.layout.now c.args.number content version wide
    c.in_err-a.field-0.0 (c.in_err-a.ensures.finds content gives))

pub read_payload-requires-2-clause-room : goal.read_payload-requires-2-clause-room
read_payload-requires-2-clause-room g c =
    (let one = (pass_end g.D.Disk.state g.D.Disk.makes _ _ _ c.in_ok-a.ensures.passes).len in
    omega (arith, one, c.requires.place.room))

pub returns-in_err-b-clause-passes : goal.returns-in_err-b-clause-passes
returns-in_err-b-clause-passes g c =
    let p = err_from_is_err_and c.from_residual-in_err-b.result c.from_residual-in_err-b.ensures.1
    in
    rw (p.1, p.2) (pass_on g.D.Disk.state g.D.Disk.makes _ _ _ _ c.in_ok-a.ensures.passes
    c.in_err-b.ensures.passes)

pub returns-in_err-b-clause-finds : goal.returns-in_err-b-clause-finds
returns-in_err-b-clause-finds g c content gives version wide =
    let p = err_from_is_err_and c.from_residual-in_err-b.result c.from_residual-in_err-b.ensures.1
    in
    rw (p.1, p.2) (let on = gives_on _ _ content
    (pass_end g.D.Disk.state g.D.Disk.makes _ _ _ c.in_ok-a.ensures.passes) gives in
    ends_second c.args.layout.now c.args.number content version wide c.in_err-b.field-0.0
    (c.in_err-b.ensures.finds content on))

pub read_two-requires-clause-place : goal.read_two-requires-clause-place
read_two-requires-clause-place g c =
    let one = (pass_end g.D.Disk.state g.D.Disk.makes _ _ _ c.in_ok-a.ensures.passes).len in
    let two = (pass_end g.D.Disk.state g.D.Disk.makes _ _ _ c.in_ok-b.ensures.passes).len in
    of_guest c.args.layout.now _ _ _ _ (length c.args.space.blocks.items)
    c.in_ok-a.ensures.intent.guest (two ∙ one) c.requires.place

pub read_two-requires-then-comes_after-2-clause-place :
    goal.read_two-requires-then-comes_after-2-clause-place
read_two-requires-then-comes_after-2-clause-place g c =
    let one = (pass_end g.D.Disk.state g.D.Disk.makes _ _ _ c.in_ok-a.ensures.passes).len in
    let two = (pass_end g.D.Disk.state g.D.Disk.makes _ _ _ c.in_ok-b.ensures.passes).len in
    of_guest c.args.layout.now _ _ _ _ (length c.args.space.blocks.items)
    c.in_ok-b.ensures.intent.guest (two ∙ one) c.requires.place

pub returns-then-comes_after-clause-passes : goal.returns-then-comes_after-clause-passes
returns-then-comes_after-clause-passes g c =
    pass_on g.D.Disk.state g.D.Disk.makes _ _ _ _
    (pass_on g.D.Disk.state g.D.Disk.makes _ _ _ _ c.in_ok-a.ensures.passes
    c.in_ok-b.ensures.passes) c.read_two.ensures.passes

pub returns-then-comes_after-clause-finds : goal.returns-then-comes_after-clause-finds
returns-then-comes_after-clause-finds g c content gives version wide =
    let on = gives_on _ _ content
    (pass_end g.D.Disk.state g.D.Disk.makes _ _ _ c.in_ok-a.ensures.passes) gives in
    let then = gives_on _ _ content
    (pass_end g.D.Disk.state g.D.Disk.makes _ _ _ c.in_ok-b.ensures.passes) on in
    subst (λ (n : ℕ). GatesAre true (region_at c.args.layout.now n) gates.Both content
    → HasPayload (region_at c.args.layout.now n) (slot_region (region_at c.args.layout.now n) A)
    c.in_ok-a.a.group content
    → HasPayload (region_at c.args.layout.now n)
    (slot_region (region_at c.args.layout.now n) (other_side A)) c.in_ok-b.b.group content
    → Finds c.args.layout.now n content c.read_two.result)
    c.in_ok-a.ensures.intent.guest (c.read_two.ensures.finds content then version) wide
    (c.in_ok-a.ensures.finds content gives) (c.in_ok-b.ensures.finds content on)

pub returns-then-comes_after-2-clause-passes : goal.returns-then-comes_after-2-clause-passes
returns-then-comes_after-2-clause-passes g c =
    pass_on g.D.Disk.state g.D.Disk.makes _ _ _ _
    (pass_on g.D.Disk.state g.D.Disk.makes _ _ _ _ c.in_ok-a.ensures.passes
    c.in_ok-b.ensures.passes) c.read_two-then-comes_after-2.ensures.passes

pub returns-then-comes_after-2-clause-finds : goal.returns-then-comes_after-2-clause-finds
returns-then-comes_after-2-clause-finds g c content gives version wide =
    let on = gives_on _ _ content
    (pass_end g.D.Disk.state g.D.Disk.makes _ _ _ c.in_ok-a.ensures.passes) gives in
    let then = gives_on _ _ content
    (pass_end g.D.Disk.state g.D.Disk.makes _ _ _ c.in_ok-b.ensures.passes) on in
    subst (λ (n : ℕ). GatesAre true (region_at c.args.layout.now n) gates.Both content
    → HasPayload (region_at c.args.layout.now n) (slot_region (region_at c.args.layout.now n) B)
    c.in_ok-b.b.group content
    → HasPayload (region_at c.args.layout.now n)
    (slot_region (region_at c.args.layout.now n) (other_side B)) c.in_ok-a.a.group content
    → Finds c.args.layout.now n content c.read_two-then-comes_after-2.result)
    c.in_ok-b.ensures.intent.guest (c.read_two-then-comes_after-2.ensures.finds content then
    version) wide (c.in_ok-b.ensures.finds content on) (c.in_ok-a.ensures.finds content gives)

pub returns-else-comes_after-2-clause-passes : goal.returns-else-comes_after-2-clause-passes
returns-else-comes_after-2-clause-passes g c =
    pass_on g.D.Disk.state g.D.Disk.makes _ _ _ _ c.in_ok-a.ensures.passes c.in_ok-b.ensures.passes

pub returns-else-comes_after-2-clause-finds : goal.returns-else-comes_after-2-clause-finds
returns-else-comes_after-2-clause-finds g c content gives version wide =
    let on = gives_on _ _ content
    (pass_end g.D.Disk.state g.D.Disk.makes _ _ _ c.in_ok-a.ensures.passes) gives in
    ends_apart c.args.layout.now c.args.number content version wide c.in_ok-a.a.group
    c.in_ok-b.b.group (c.in_ok-a.ensures.finds content gives)
    (c.in_ok-b.ensures.finds content on)
    (λ next. (let is = c.comes_after.ensures.1 next in let not_it = c.if-comes_after.false in cc))
    (λ next. (let is = c.comes_after-else-comes_after.ensures.1 next in let not_it =
    c.if-comes_after-2.false in cc))
