use Rattle.std.proofs.Common.{◌+◌, ◌-◌, ap, ◌∙◌, arith}
use Rattle.guest_memory.specs.Memory.{bytes_at}
use Rattle.guest_memory.proofs.Copies.{part_of, within}
use Rattle.guest_memory.proofs.piece.Piece.part.Goals as goal

pub returns : goal.returns
returns c = λ m copy.
    let p = c.args.self.now in
    let w = within c.args.at c.args.len p c.requires in
    let low = w.0 in
    ap (λ v. bytes_at v (c.args.at - p.at) (c.args.at - p.at + c.args.len - (c.args.at - p.at)))
    c.deref.ensures.value
    ∙ part_of m p.bytes.items p.at c.args.at c.args.len
    (c.args.at - p.at + c.args.len - (c.args.at - p.at)) copy.inside copy.same w.0 w.1
    (omega (arith, low))
