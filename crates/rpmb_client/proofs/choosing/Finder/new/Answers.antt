use Rattle.std.proofs.Common.{◌∙◌, None, Some, ap, refl, sym}
use Rattle.std.proofs.Math.Nat.{zero-min}
use Rattle.rpmb_client.specs.Finding.{counted, kept_of, most}
use Rattle.rpmb_client.proofs.FindLemmas.{no_replies}
use Rattle.rpmb_client.proofs.choosing.Finder.new.Goals as goal

pub returns : goal.returns
returns c = record {
  nonce_is = refl;
  all_is = c.none.ensures ∙ ap kept_of (no_replies None);
  asked_is = c.none-2.ensures ∙ ap kept_of (no_replies (Some c.args.nonce.now));
  count_is = sym (zero-min most) ∙ ap counted (no_replies None);
  asked_count_is = sym (zero-min most) ∙ ap counted (no_replies (Some c.args.nonce.now));
}
