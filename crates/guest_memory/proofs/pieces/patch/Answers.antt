use Rattle.std.proofs.Common.{arith, rules, ◌∙◌, sym, subst}
use Rattle.guest_memory.specs.Piece.{IsCopy}
use Rattle.guest_memory.proofs.Copies.{set_done, set_todo, set_rest, spans_set}
use Rattle.guest_memory.proofs.pieces.patch.Goals as goal

pub loop-i-preserved : goal.loop-i-preserved
loop-i-preserved c =
    let i = c.loop-i.i in
    let xs = c.loop-i.pieces.items in
    let y = c.patch.new.self in
    let size = c.loop-i.invariant.size in
    let there = c.requires.there in
    let copy = c.patch.ensures.copy c.args.truth.now.bytes c.requires.inside
    (subst (IsCopy c.args.truth.now.bytes) (sym c.index_mut.ensures.value)
    (c.loop-i.invariant.todo i c.index_mut.result.now (omega arith) (omega arith))) in
    record {
      done = set_done _ xs i y (omega arith) c.loop-i.invariant.done copy;
      todo = set_todo _ xs i c.args.count y c.loop-i.invariant.todo;
      rest = set_rest _ xs i c.args.count y (omega arith) c.loop-i.invariant.rest;
      spans = spans_set xs i y c.index_mut.result.now c.index_mut.ensures.value c.patch.ensures.at
          c.patch.ensures.size ∙ c.loop-i.invariant.spans;
      size = search rules;
    }
