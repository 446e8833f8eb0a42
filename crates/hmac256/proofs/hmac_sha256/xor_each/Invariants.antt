use Rattle.std.proofs.Common.{◌≡◌, ◌++◌, take, drop}
use Rattle.hmac256.specs.Hmac.{xored}
use Rattle.hmac256.proofs.hmac_sha256.xor_each.Given as goal

-- the bytes so far are xored, and the others as they were
abbrev pub invariant-loop-byte : goal.invariant-loop-byte
invariant-loop-byte l = l.block ≡ xored (take l.byte-index l.initial.block) l.pad
    ++ drop l.byte-index l.initial.block
