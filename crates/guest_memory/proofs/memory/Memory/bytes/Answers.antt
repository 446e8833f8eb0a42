use Rattle.std.proofs.Common.{◌∙◌, sym, ap}
use Rattle.std.specs.List.{position}
use Rattle.guest_memory.specs.Memory.{Known, holds}
use Rattle.guest_memory.specs.Piece.{lies_in}
use Rattle.guest_memory.proofs.Copies.{holds_is, some_passes, passes}
use Rattle.guest_memory.proofs.memory.Memory.bytes.Goals as goal

pub part-requires : goal.part-requires
part-requires c =
    let at = c.args.at in
    let len = c.args.len in
    let found = passes (lies_in at len) c.self.inside.pieces.items c.in-Some.i c.index.result.now
    (ap (position (lies_in at len)) (sym c.deref.ensures.value) ∙ sym c.find.ensures
    ∙ c.in-Some.is) in
    ap (lies_in at len) c.index.ensures ∙ found.1

pub unreachable-requires : goal.unreachable-requires
unreachable-requires c =
    let at = c.args.at in
    let len = c.args.len in
    let held = ap (λ (k : Known). holds k at len) c.self.view_is ∙ c.requires in
    let any = sym (holds_is c.self.inside.truth.bytes c.self.inside.asks c.self.inside.pieces.items
    at len) ∙ held in
    some_passes (lies_in at len) c.self.inside.pieces.items any
    (ap (position (lies_in at len)) (sym c.deref.ensures.value) ∙ sym c.find.ensures
    ∙ c.in-None.is)
