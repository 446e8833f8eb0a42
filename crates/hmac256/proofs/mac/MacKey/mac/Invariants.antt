use Rattle.std.proofs.Common.{◌++◌, take}
use Rattle.std.specs.List.{flat_map}
use Rattle.sha2.specs.Hashers.{Holds256}
use Rattle.rpmb_frame.specs.Frame.{body_of}
use Rattle.hmac256.specs.Hmac.{ipad, padded_key, xored}
use Rattle.hmac256.proofs.mac.MacKey.mac.Given as goal

-- the inner hasher holds the key's block and the bodies so far
abbrev pub invariant-loop-frame : goal.invariant-loop-frame
invariant-loop-frame l =
    Holds256 l.inner (xored (padded_key l.self) ipad
    ++ flat_map body_of (take l.frame-index l.frames))
