use Rattle.std.proofs.lemmas.List.{drop-replicate}
use Rattle.hmac256.proofs.hmac_sha256.padded.Goals as goal

pub returns : goal.returns
returns c = rw (c.copy_from_slice.ensures.after, drop-replicate)
