use Rattle.std.proofs.Common.{drop}
use Rattle.chains.specs.Range.{AreHeld}
use Rattle.chains.proofs.chain.Chain.lacks.Given as goal

abbrev pub invariant-loop-range : goal.invariant-loop-range
invariant-loop-range l = record {
  rest : AreHeld l.memory (drop l.range-index l.range-items) l.left
      → AreHeld l.memory l.range-items l.count;
}
