use Rattle.std.proofs.Common.{subst, sym}
use Rattle.flusher.specs.SlotInvariant.{IsHeld}
use Rattle.board.proofs.keeper.Keeper.give.Goals as goal

pub returns-in-Some-clause-held : goal.returns-in-Some-clause-held
returns-in-Some-clause-held g c parts held =
    c.give.ensures.held parts
    (subst (λ k. IsHeld parts k.store.guests k.store.broken (g.D.Disk.state k.store.disk))
    (sym c.self.view_is) held)
