use Rattle.std.proofs.Common.{◌++◌, take}
use Rattle.std.specs.List.{flat_map}
use Rattle.sha2.specs.Hashers.{Holds256}
use Rattle.hmac256.specs.Hmac.{ipad, padded_key, xored}
use Rattle.hmac256.proofs.hmac_sha256.hmac.Given as goal

-- the inner hasher holds the key's block and the pieces so far
abbrev pub invariant-loop-piece : goal.invariant-loop-piece
invariant-loop-piece l =
    Holds256 l.inner (xored (padded_key l.key) ipad
    ++ flat_map (λ piece. piece.now) (take l.piece-index l.pieces))
