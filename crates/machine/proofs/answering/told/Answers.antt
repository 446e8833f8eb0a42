use Rattle.std.proofs.Common.{inr, length, subst, sym, IfSome}
use Rattle.guest_memory.specs.Memory.{IsInside}
use Rattle.machine.proofs.Common.{take}
use Rattle.machine.proofs.Moved.{tells_err, tells_ok}
use Rattle.machine.proofs.answering.told.Goals as goal

pub returns-clause-told : goal.returns-clause-told
returns-clause-told c =
    tells_ok c.args.guest c.args.board.now c.device.result.now c.tell.new.self
    c.device.ensures.device c.args.ask.at _ c.tell.result c.tell.ensures.ok

pub returns-clause-same : goal.returns-clause-same
returns-clause-same c =
    tells_err c.args.guest c.args.board.now c.device.result.now c.tell.new.self
    c.device.ensures.device c.tell.result c.tell.ensures.unchanged

pub returns-clause-outside : goal.returns-clause-outside
returns-clause-outside c is =
    inr (subst (λ o. IfSome o (λ d. ¬ IsInside d.device.memory c.args.ask.at
    (length (take c.args.ask.len c.args.bytes.now)))) (sym c.device.ensures.device)
    (c.tell.ensures.range is))
