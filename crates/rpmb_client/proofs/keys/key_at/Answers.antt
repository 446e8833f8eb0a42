use Rattle.std.proofs.Common.{◌∙◌, [], sym, arith, rules}
use Rattle.std.proofs.lemmas.List.{at_drop_all}
use Rattle.rpmb_client.specs.Keys.{key_at, pairs_of}
use Rattle.rpmb_client.proofs.FindLemmas.{key_at_place, key_past_place, no_key}
use Rattle.rpmb_client.proofs.keys.key_at.Goals as goal

pub returns-then-entry-guest : goal.returns-then-entry-guest
returns-then-entry-guest c =
    key_at_place c.args.keys.now c.loop-entry.entry-index c.args.guest _ (search rules)
    (search rules) c.loop-entry.invariant

pub loop-entry-preserved : goal.loop-entry-preserved
loop-entry-preserved c =
    key_past_place c.args.keys.now c.loop-entry.entry-index c.args.guest record {
      guest = 0;
      key =
          [];
    } (search rules) (search rules) c.loop-entry.invariant

pub returns : goal.returns
returns c =
    sym (no_key c.args.guest)
    ∙ sym (at_drop_all (λ ks. key_at (pairs_of ks) c.args.guest) c.args.keys.now
    c.loop-entry.entry-index (search (rules, arith)))
    ∙ c.loop-entry.invariant
