use Rattle.std.proofs.Common.{◌≡◌, ◌≤◌, ◌+◌, ◌∙◌, ap, subst, arith, true}
use Rattle.guest_memory.specs.Memory.{Known, holds}
use Rattle.guest_memory.proofs.Copies.{whole_holds}
use Rattle.guest_memory.proofs.memory.Memory.contains.Goals as goal

pub returns-then-at-size-clause-held : goal.returns-then-at-size-clause-held
returns-then-at-size-clause-held c = λ not is.
    let at = c.args.at in
    let len = c.args.len in
    let small = c.if-at-size.true in
    let inside : at + len ≤ c.self.inside.size = grind (arith) in
    let asks = ap (λ (k : Known). k.asks) c.self.view_is ∙ not in
    subst (λ (k : Known). holds k at len ≡ true) c.self.view_is
    (whole_holds c.self.inside.size c.self.inside.asks c.self.inside.pieces.items
    c.self.inside.truth.bytes at len asks c.self.invariant inside)
