use Rattle.std.proofs.Common.{◌≡◌, All, Some, map, true}
use Rattle.script.specs.Line.{IsServed, IsWithin, line_when, said}
use Rattle.script.proofs.reader.read_lines.Given as goal

abbrev pub invariant-loop-text : goal.invariant-loop-text
invariant-loop-text l = record {
  read : map (λ line. Some (said line)) l.lines.items ≡ map (line_when l.served l.guests)
      (map (λ text. text.now) l.yielded);
  within : All (λ line. IsWithin l.guests (said line)) l.lines.items;
  served : l.served ≡ true → All (λ line. IsServed (said line)) l.lines.items;
}
