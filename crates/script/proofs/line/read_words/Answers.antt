use Rattle.std.proofs.Common.{◌≡◌, None, arith, map}
use Rattle.script.specs.Line.{line_of_words}
use Rattle.script.proofs.LineLemmas.{if_bad, line_of_words-none}
use Rattle.script.proofs.line.read_words.Goals.{in_default-via-then-words-lt2}
use Rattle.script.proofs.line.read_words.Goals.{in_default-via-else-words-lt2+else-words-lt3+then-words-lt4}
use Rattle.script.proofs.line.read_words.Goals.{in_default-via-else-words-lt2+else-words-lt3+else-words-lt4+else-words-lt5}
use Rattle.script.proofs.line.read_words.Goals as goal

-- below two words, three, and above four
pub returns-in_default-clause-bad : goal.returns-in_default-clause-bad
returns-in_default-clause-bad c =
    if_bad (line_of_words c.args.guests (map (λ w. w.now) c.args.words.now) ≡ None)
    c.other_count.result (elim c.in_default.branch [
      | in_default-via-then-words-lt2 w ↦
          line_of_words-none _ c.args.words.now (grind arith) (grind arith)
      | in_default-via-else-words-lt2+else-words-lt3+then-words-lt4 w ↦
          line_of_words-none _ c.args.words.now (grind arith) (grind arith)
      | in_default-via-else-words-lt2+else-words-lt3+else-words-lt4+else-words-lt5 w ↦
          line_of_words-none _ c.args.words.now (grind arith) (grind arith)
    ])
