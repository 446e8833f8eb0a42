use Rattle.std.proofs.Common.{lit<}
use Rattle.std.proofs.lemmas.Iterator.{YieldsList-from_take}
use Rattle.std.proofs.lemmas.Iterator.Consumers.{YieldsList-at, map_from_collect}
use Rattle.std.proofs.lemmas.Iterator.Splits.{YieldsList-from_str_split}
use Rattle.script.proofs.word.first_words.Goals as goal

pub returns : goal.returns
returns c = map_from_collect _ c.collect.ensures.ran
    (YieldsList-from_take 5 (YieldsList-at {t = c.split.result} (cc)
    (YieldsList-from_str_split {s = c.split.result} 32 c.args.line.now (lit< tt)
    c.split.ensures.text c.split.ensures.has_more c.split.ensures.pattern)) (cc))
