use Rattle.std.proofs.Common.{◌≡◌, ◌∙◌, sym, ap, subst, arith, length}
use Rattle.guest_memory.specs.Memory.{Known, holds, with_bytes}
use Rattle.guest_memory.specs.Piece.{AreCopies}
use Rattle.guest_memory.proofs.Copies.{holds_is, holds_by, inside_of, with_pieces}
use Rattle.guest_memory.proofs.Writes.{length-with_bytes}
use Rattle.guest_memory.proofs.memory.Memory.put.Goals as goal

pub patch-requires-clause-inside : goal.patch-requires-clause-inside
patch-requires-clause-inside c =
    let at = c.args.at in
    let len = length c.args.bytes.now in
    let held = ap (λ (k : Known). holds k at len) c.self.view_is ∙ c.requires in
    inside_of c.self.inside.truth.bytes c.self.inside.pieces.items at len c.self.invariant.copies
    (sym (holds_is c.self.inside.truth.bytes c.self.inside.asks c.self.inside.pieces.items at len)
    ∙ held)

pub invariant_of-self : goal.invariant_of-self
invariant_of-self c =
    let at = c.args.at in
    let len = length c.args.bytes.now in
    let held = ap (λ (k : Known). holds k at len) c.self.view_is ∙ c.requires in
    let inside = inside_of c.self.inside.truth.bytes c.self.inside.pieces.items at len
    c.self.invariant.copies
    (sym (holds_is c.self.inside.truth.bytes c.self.inside.asks c.self.inside.pieces.items at
    len) ∙ held) in
    let count : c.len-count.result ≡ length c.self.inside.pieces.items =
    omega (arith, c.len-count.ensures) in
    with_pieces c.self.inside.size c.self.inside.asks c.self.inside.pieces.items
    c.patch.new.pieces.items c.self.inside.truth.bytes c.args.bytes.now at c.note.new.self.bytes
    c.self.invariant inside (subst
    (λ n. AreCopies (with_bytes c.self.inside.truth.bytes at c.args.bytes.now) 0 n
    c.patch.new.pieces.items) count c.patch.ensures.copies) c.patch.ensures.spans c.note.ensures

pub returns-clause-held : goal.returns-clause-held
returns-clause-held c = λ start count held.
    let same = c.patch.ensures.spans ∙ ap (λ (k : Known). k.held) c.self.view_is in
    holds_by c.args.self.now _ start count same held

pub returns-clause-size : goal.returns-clause-size
returns-clause-size c =
    let at = c.args.at in
    let len = length c.args.bytes.now in
    let held = ap (λ (k : Known). holds k at len) c.self.view_is ∙ c.requires in
    let inside = inside_of c.self.inside.truth.bytes c.self.inside.pieces.items at len
    c.self.invariant.copies
    (sym (holds_is c.self.inside.truth.bytes c.self.inside.asks c.self.inside.pieces.items at
    len) ∙ held) in
    ap length c.note.ensures ∙ length-with_bytes c.self.inside.truth.bytes at c.args.bytes.now
    inside ∙ ap (λ (k : Known). length k.bytes) c.self.view_is
