use Rattle.std.proofs.Common.{bit_xor, rules}
use Rattle.std.proofs.lemmas.List.Edits.{map_over_more}
use Rattle.hmac256.proofs.hmac_sha256.xor_each.Goals as goal

pub loop-byte-preserved : goal.loop-byte-preserved
loop-byte-preserved c = search (rules, map_over_more (λ byte. bit_xor byte c.args.pad))
