use Rattle.std.proofs.Common.{◌≡◌, length, subst, sym, arith}
use Rattle.std.proofs.lemmas.Result.{err_from_is_err_and}
use Rattle.machine.specs.Opening.{IsOpeningFault, OfBoard, length_of}
use Rattle.machine.specs.Machine.{HasCopies}
use Rattle.machine.proofs.Copies.{copies_fresh}
use Rattle.machine.proofs.machine.Machine.open.Goals as goal

pub returns-in_err-board-clause-cause : goal.returns-in_err-board-clause-cause
returns-in_err-board-clause-cause c =
    let p = err_from_is_err_and c.from_residual-in_err-board.result
    c.from_residual-in_err-board.ensures.1 in
    let long : length c.args.image.now ≡ length_of c.args.setups.now = grind arith in
    rw (p.1, p.2) (OfBoard c.in_ok-config.ensures.monitored long
    (subst (λ guests. IsOpeningFault guests c.args.image.now c.in_err-board.field-0.0)
    c.in_ok-config.ensures.value c.in_err-board.ensures.cause))

pub over-requires : goal.over-requires
over-requires c =
    subst (λ turns. HasCopies turns c.tell.new.self) (sym c.in_ok-kept.ensures.turns)
    (copies_fresh (length c.args.setups.now) c.tell.new.self)
