use Rattle.std.proofs.Common.{◌≡◌, None, Some, option_map, subst}
use Rattle.rpmb_client.specs.Answer.{reply_of}
use Rattle.rpmb_client.specs.Seen.{used_seen}
use Rattle.rpmb_client.proofs.FindLemmas.{counted_more, kept_more}
use Rattle.rpmb_client.proofs.choosing.Finder.take.Goals as goal

pub returns : goal.returns
returns c = λ nonce lines is.
    let line = c.args.line.now in
    let asked = subst (λ n. option_map used_seen c.in_ok-asked.asked ≡ reply_of (Some n) line)
    is.nonce_is c.in_ok-asked.ensures in
    record {
      nonce_is = is.nonce_is;
      all_is = kept_more None lines line _ _ _ is.all_is c.in_ok-any.ensures c.add.ensures;
      asked_is = kept_more (Some nonce) lines line _ _ _ is.asked_is asked c.add-2.ensures;
      count_is = counted_more None lines line _ _ _ c.in_ok-any.any is.count_is
          c.in_ok-any.ensures c.is_some.ensures c.count_after.ensures;
      asked_count_is = counted_more (Some nonce) lines line _ _ _ c.in_ok-asked.asked
          is.asked_count_is asked c.is_some-2.ensures c.count_after-2.ensures;
    }
