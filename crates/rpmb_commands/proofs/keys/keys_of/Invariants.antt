use Rattle.std.proofs.Common.{take}
use Rattle.rpmb_commands.specs.KeysSaid.{AddsKeys, keys_seen, no_keys}
use Rattle.rpmb_commands.proofs.keys.keys_of.Given as goal

abbrev pub invariant-loop-word : goal.invariant-loop-word
invariant-loop-word g l = AddsKeys (g.S.Source.gives l.source) (take l.word-index l.word-items)
    no_keys (keys_seen l.keys)
