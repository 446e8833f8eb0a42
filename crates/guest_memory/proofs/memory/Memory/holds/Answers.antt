use Rattle.std.proofs.Common.{◌∙◌, sym, ap, subst}
use Rattle.std.specs.List.{list_any}
use Rattle.guest_memory.specs.Memory.{Known, holds, IsInside}
use Rattle.guest_memory.specs.Piece.{lies_in}
use Rattle.guest_memory.proofs.Copies.{holds_is, holds_nothing, inside_of}
use Rattle.guest_memory.proofs.memory.Memory.holds.Goals as goal

pub returns-clause-value : goal.returns-clause-value
returns-clause-value c =
    c.have.ensures ∙ ap (list_any (lies_in c.args.at c.args.len)) c.deref.ensures.value
    ∙ sym (holds_is c.self.inside.truth.bytes c.self.inside.asks c.self.inside.pieces.items
    c.args.at c.args.len)
    ∙ ap (λ (k : Known). holds k c.args.at c.args.len) c.self.view_is

pub returns-clause-inside : goal.returns-clause-inside
returns-clause-inside c = λ is.
    let any = ap (list_any (lies_in c.args.at c.args.len)) (sym c.deref.ensures.value)
    ∙ sym c.have.ensures ∙ is in
    subst (λ (k : Known). IsInside k.bytes c.args.at c.args.len) c.self.view_is
    (inside_of c.self.inside.truth.bytes c.self.inside.pieces.items c.args.at c.args.len
    c.self.invariant.copies any)

pub returns-clause-none : goal.returns-clause-none
returns-clause-none c = λ none.
    c.have.ensures ∙ ap (list_any (lies_in c.args.at c.args.len)) c.deref.ensures.value
    ∙ sym (holds_is c.self.inside.truth.bytes c.self.inside.asks c.self.inside.pieces.items
    c.args.at c.args.len)
    ∙ ap (λ (k : Known). holds k c.args.at c.args.len) c.self.view_is
    ∙ holds_nothing c.args.self.now c.args.at c.args.len none
