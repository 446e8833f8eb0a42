use Rattle.std.proofs.Common.{◌∙◌, ap, length}
use Rattle.std.proofs.Common.{List, map}
use Rattle.guest_memory.specs.Memory.{Span, holds}
use Rattle.guest_memory.specs.Piece.{span_of}
use Rattle.guest_memory.proofs.Copies.{span_last, last_holds}
use Rattle.guest_memory.proofs.memory.Memory.copy_in.Goals as goal

pub returns-clause-held : goal.returns-clause-held
returns-clause-held c =
    let at = c.args.at in
    let bytes = c.args.bytes.now in
    let spans = c.patch.ensures.spans ∙ ap (map span_of) c.in_ok-push.ensures.items
    ∙ span_last c.self.inside.pieces.items c.in_ok-piece.piece at bytes c.in_ok-piece.ensures.0
    c.in_ok-piece.ensures.1 in
    ap (λ (v : List Span). holds
    (record { bytes = c.note.new.self.bytes; asks = c.self.inside.asks; held = v }) at
    (length bytes)) spans
    ∙ last_holds c.note.new.self.bytes c.self.inside.asks (map span_of c.self.inside.pieces.items)
    at (length bytes)
