use Rattle.std.proofs.Common.{Ok, Err, max, subst, sym}
use Rattle.std.proofs.lemmas.Result.{err_from_is_err_and}
use Rattle.queue_looks.proofs.Common.{Looks, LooksOn, OnShare, Look, Nothing, Stopped}
use Rattle.queue_looks.proofs.Looks.{looks_found, looks_then, share_none}
use Rattle.queue_looks.proofs.looking.look_on.Goals as goal

pub loop-answered-init : goal.loop-answered-init
loop-answered-init g c = share_none g.D.Disk.state g.D.Disk.makes c.args.guest c.args.board.now
    c.requires.calm c.requires.there

pub returns-in-Nothing : goal.returns-in-Nothing
returns-in-Nothing g c =
    let n = c.args.guest in
    let looks : Look → Type 0 = λ x. OnShare g.D.Disk.state g.D.Disk.makes n (λ s s'.
    Looks n s (Ok x) s') c.loop-answered.board c.look_once.new.board in
    let told : Look → Type 0 = λ x. OnShare g.D.Disk.state g.D.Disk.makes n (λ s s'.
    LooksOn n (max 1 c.args.times) s (Ok x) s') c.args.board.now c.look_once.new.board in
    subst told (sym c.found_after.ensures)
    (looks_then g.D.Disk.state g.D.Disk.makes n c.args.board.now c.loop-answered.board
    c.look_once.new.board c.loop-answered.answered c.args.times c.max-answered-end.result
    c.max-answered-end.ensures c.loop-answered.invariant
    (Ok Nothing) _ c.loop-answered-test.true (subst looks c.in-Nothing.is c.in_ok-look_once.ensures)
    (looks_found g.D.Disk.state g.D.Disk.makes n c.args.board.now c.loop-answered.board
    c.look_once.new.board c.loop-answered.answered c.args.times c.max-answered-end.result
    c.max-answered-end.ensures c.loop-answered.invariant))

pub returns-in-Stopped : goal.returns-in-Stopped
returns-in-Stopped g c =
    let n = c.args.guest in
    let looks : Look → Type 0 = λ x. OnShare g.D.Disk.state g.D.Disk.makes n (λ s s'.
    Looks n s (Ok x) s') c.loop-answered.board c.look_once.new.board in
    looks_then g.D.Disk.state g.D.Disk.makes n c.args.board.now c.loop-answered.board
    c.look_once.new.board c.loop-answered.answered c.args.times c.max-answered-end.result
    c.max-answered-end.ensures c.loop-answered.invariant
    (Ok Stopped) (Ok Stopped) c.loop-answered-test.true
    (subst looks c.in-Stopped.is c.in_ok-look_once.ensures) (λ s s' l. l)

pub returns-in_err-look_once : goal.returns-in_err-look_once
returns-in_err-look_once g c =
    let n = c.args.guest in
    let p = err_from_is_err_and c.from_residual.result c.from_residual.ensures.1 in
    let fault = c.in_err-look_once.field-0.0 in
    rw (p.1, p.2) (looks_then g.D.Disk.state g.D.Disk.makes n c.args.board.now c.loop-answered.board
    c.look_once.new.board c.loop-answered.answered c.args.times c.max-answered-end.result
    c.max-answered-end.ensures
    c.loop-answered.invariant (Err fault) (Err fault) c.loop-answered-test.true
    c.in_err-look_once.ensures (λ s s' l. l))
