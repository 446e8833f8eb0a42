use Rattle.std.proofs.Common.{take, ◌∙◌, subst, sym}
use Rattle.std.proofs.lemmas.List.{take_all, take_more}
use Rattle.rpmb_commands.specs.KeysSaid.{AddsKeys, keys_seen, no_keys}
use Rattle.rpmb_commands.proofs.KeyLemmas.{AddsKeys-push, no_keys_seen}
use Rattle.rpmb_commands.proofs.keys.keys_of.Goals as goal

pub loop-word-init : goal.loop-word-init
loop-word-init g c = no_keys_seen c.none-keys.result c.none-keys.ensures.own
    c.none-keys.ensures.others

pub loop-word-preserved : goal.loop-word-preserved
loop-word-preserved g c =
    let gives = g.S.Source.gives c.args.source.now in
    let items = c.as_slice-word-items.result.now in
    let i = c.loop-word.word-index in
    subst (λ ws. AddsKeys gives ws no_keys (keys_seen c.add.new.keys))
    (sym (take_more items i _ c.loop-word-test.true))
    (AddsKeys-push gives (take i items) _ no_keys (keys_seen c.loop-word.keys)
    (keys_seen c.add.new.keys) c.loop-word.invariant c.in_ok-add.ensures.ok)

pub returns-clause-ok : goal.returns-clause-ok
returns-clause-ok g c =
    let gives = g.S.Source.gives c.args.source.now in
    let items = c.as_slice-word-items.result.now in
    subst (λ ws. AddsKeys gives ws no_keys (keys_seen c.loop-word.keys))
    (take_all c.loop-word.word-index items c.loop-word-test.false
    ∙ c.as_slice-word-items.ensures.value) c.loop-word.invariant
