use Rattle.std.proofs.Common.{◌∙◌, ap, option_map}
use Rattle.rpmb_client.specs.Seen.{used_seen}
use Rattle.rpmb_client.specs.Finding.{kept_seen, only_kept, or_else}
use Rattle.rpmb_client.proofs.FindLemmas.{answer_kept}
use Rattle.rpmb_client.proofs.choosing.Finder.answer.Goals as goal

pub returns-clause-answer : goal.returns-clause-answer
returns-clause-answer c = λ nonce lines is.
    c.choice_of.ensures.choice
    ∙ ap (λ u. or_else u (option_map used_seen c.only-2.result)) c.only.ensures
    ∙ ap (λ u. or_else (only_kept (kept_seen c.args.self.all)) u) c.only-2.ensures
    ∙ answer_kept nonce lines _ _ is.all_is is.asked_is
