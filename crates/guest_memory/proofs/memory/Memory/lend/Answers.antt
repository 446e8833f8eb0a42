use Rattle.std.proofs.Common.{◌≡◌, ◌∙◌, refl, sym, ap, subst, false}
use Rattle.std.specs.List.{list_any}
use Rattle.guest_memory.specs.Memory.{Known, holds}
use Rattle.guest_memory.specs.Piece.{lies_in}
use Rattle.guest_memory.proofs.Copies.{holds_is}
use Rattle.guest_memory.proofs.memory.Memory.lend.Goals as goal

pub returns-in-None-clause-none : goal.returns-in-None-clause-none
returns-in-None-clause-none c none =
    let at = c.args.at in
    let len = c.args.len in
    let i = c.self.inside in
    ap (λ (k : Known). holds k at len) (sym c.self.view_is)
    ∙ holds_is i.truth.bytes i.asks i.pieces.items at len
    ∙ subst (λ ps. list_any (lies_in at len) ps ≡ false) c.deref.ensures.value
    (c.in-None.ensures.none refl)
