use Rattle.std.proofs.Common.{◌+◌, arith, subst}
use Rattle.std.proofs.Common.{drop, get_or}
use Rattle.chains.proofs.Common.{Range}
use Rattle.chains.specs.Range.{AreHeld}
use Rattle.guest_memory.specs.Memory.{IsHeld}
use Rattle.chains.proofs.Helds.{held_more, held_none}
use Rattle.chains.proofs.chain.Chain.lacks.Goals as goal

pub loop-range-preserved : goal.loop-range-preserved
loop-range-preserved c =
    let m = c.args.memory.now in
    let xs = c.writable-range-items.result.now in
    let i = c.loop-range.range-index in
    let d : Range = record { at = 0; len = 0 } in
    let left = c.loop-range.left in
    let is = c.min-len.ensures in
    record {
      rest = λ are. c.loop-range.invariant.rest (held_more m xs i d left c.loop-range-test.true
          (λ some. subst (IsHeld m (get_or xs i d).at) is
          (c.lacks.ensures.none c.in-None.is (omega (arith, is, some))))
          (subst (AreHeld m (drop (i + 1) xs)) (omega (arith, is)) are));
    }

pub returns-clause-none : goal.returns-clause-none
returns-clause-none c = λ none.
    let m = c.args.memory.now in
    let xs = c.writable-range-items.result.now in
    subst (λ v. AreHeld m v c.args.count) c.writable-range-items.ensures.ranges
    (c.loop-range.invariant.rest (held_none m xs c.loop-range.range-index c.loop-range.left
    c.loop-range-test.false))
