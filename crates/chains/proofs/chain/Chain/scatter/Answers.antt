use Rattle.std.proofs.Common.{◌≡◌, ◌+◌, arith, ap, ◌∙◌, sym, subst, min}
use Rattle.std.proofs.Common.{drop, get_or, length}
use Rattle.chains.proofs.Common.{Range}
use Rattle.chains.specs.Range.{AreHeld, AreInside}
use Rattle.guest_memory.specs.Memory.{Known, IsHeld}
use Rattle.chains.proofs.Helds.{held_next, are_held_still, same_twice, put_same, scatter_more}
use Rattle.chains.proofs.Helds.{length-with_bytes}
use Rattle.chains.proofs.chain.Chain.scatter.Goals as goal

pub loop-range-preserved : goal.loop-range-preserved
loop-range-preserved c =
    let xs = c.writable-range-items.result.now in
    let i = c.loop-range.range-index in
    let d : Range = record { at = 0; len = 0 } in
    let left = length c.loop-range.left.now in
    let next = held_next c.loop-range.memory xs i d left c.loop-range-test.true
    c.loop-range.invariant.held in
    let is = c.min.ensures in
    let back = c.split_at.ensures.back_len in
    let front = c.split_at.ensures.front_len in
    let size = c.loop-range.invariant.size in
    let items : c.args.self.now.writable ≡ xs = sym c.writable-range-items.ensures.ranges in
    let inside = subst (AreInside (length c.args.memory.now.bytes)) items c.requires.inside i d
    c.loop-range-test.true in
    record {
      rest = scatter_more c.loop-range.memory.bytes c.put_part.new.memory.bytes xs i d
          c.loop-range.left.now c.split_at.result.0.now c.split_at.result.1.now c.min.result
          c.loop-range-test.true
          (ap (λ (k : Known). k.bytes) c.put_part.ensures) c.split_at.ensures.front
          c.split_at.ensures.back is _ c.loop-range.invariant.rest;
      size = ap (λ (k : Known). length k.bytes) c.put_part.ensures
          ∙ length-with_bytes c.loop-range.memory.bytes (get_or xs i d).at c.split_at.result.0.now
          (omega (arith, inside, is, front, size)) ∙ c.loop-range.invariant.size;
      same = same_twice c.args.memory.now c.loop-range.memory c.put_part.new.memory _
          c.loop-range.invariant.same c.put_part.ensures;
      held = are_held_still c.loop-range.memory c.put_part.new.memory (drop (i + 1) xs)
          (length c.split_at.result.1.now)
          (put_same c.loop-range.memory c.put_part.new.memory _ c.put_part.ensures)
          (subst (AreHeld c.loop-range.memory (drop (i + 1) xs)) (omega (arith, is, back)) next.1);
    }

pub put_part-requires-clause-held : goal.put_part-requires-clause-held
put_part-requires-clause-held c = λ some.
    let xs = c.writable-range-items.result.now in
    let i = c.loop-range.range-index in
    let d : Range = record { at = 0; len = 0 } in
    let left = length c.loop-range.left.now in
    let next = held_next c.loop-range.memory xs i d left c.loop-range-test.true
    c.loop-range.invariant.held in
    let is = c.min.ensures in
    let front = c.split_at.ensures.front_len in
    let same : length c.split_at.result.0.now ≡ min (get_or xs i d).len left =
    omega (arith, is, front) in
    subst (IsHeld c.loop-range.memory (get_or xs i d).at) (sym same)
    (next.0 (omega (arith, same, some)))
