use Rattle.std.specs.Io.KnownBytes.{Appends}
use Rattle.rpmb_client.specs.Lines.{write_lines}
use Rattle.rpmb_client.proofs.lines.write_all.Given as goal

abbrev pub invariant-loop-k : goal.invariant-loop-k
invariant-loop-k g l = Appends (g.W.Write.contents l.fn.out) (g.W.Write.contents l.out)
    (write_lines l.k l.writer.guest l.writer.key l.writer.counter l.writer.address l.most l.blocks
    l.writer.asks)
