use Rattle.std.proofs.Common.{◌≡◌, None, Some, map}
use Rattle.std.proofs.lemmas.Result.{IfOk-weaker}
use Rattle.script.specs.Line.{line_of, said}
use Rattle.script.specs.Script.{first_bad, lines_of}
use Rattle.script.proofs.LineLemmas.{all_read}
use Rattle.script.proofs.reader.read_script.Goals as goal

pub returns-clause-good : goal.returns-clause-good
returns-clause-good c =
    let reads = line_of c.args.guests in
    let lines = lines_of c.args.script.now in
    IfOk-weaker c.read_lines.result (λ read. map (λ line. Some (said line)) read.items
    ≡ map reads lines)
    (λ _. first_bad c.args.guests lines ≡ None) (λ read. all_read reads lines read.items)
    c.read_lines.ensures.ok
