use Rattle.std.proofs.Common.{◌∙◌, ap, subst, sym}
use Rattle.commands.proofs.Common.{Appends, answer_lines}
use Rattle.commands.proofs.EachTold.{no_guest, one_guest}
use Rattle.commands.proofs.serving.write_drivers.Goals as goal

pub loop-guest-init : goal.loop-guest-init
loop-guest-init g c = no_guest (g.W.Write.contents c.args.out.now) c.args.drivers.now

pub loop-guest-preserved : goal.loop-guest-preserved
loop-guest-preserved g c =
    let here = g.W.Write.contents c.loop-guest.out in
    let next = g.W.Write.contents c.write_answers.new.out in
    one_guest (g.W.Write.contents c.args.out.now) here next c.args.drivers.now c.loop-guest.guest
    c.index-drivers-guest.result c.loop-guest.invariant
    c.loop-guest-test.true c.index-drivers-guest.is
    (subst (λ xs. Appends here next (answer_lines c.loop-guest.guest xs)) (c.as_slice.ensures.value
    ∙ ap (λ e. e.answers.items) (sym c.index-drivers-guest.is))
    c.in_ok-write_answers.ensures.printed)
