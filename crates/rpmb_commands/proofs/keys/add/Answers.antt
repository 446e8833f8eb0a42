use Rattle.rpmb_commands.specs.KeysSaid.{own_key}
use Rattle.rpmb_commands.proofs.KeyLemmas.{on_ok}
use Rattle.rpmb_commands.proofs.keys.add.Goals as goal

pub returns-in-Some-clause-ok : goal.returns-in-Some-clause-ok
returns-in-Some-clause-ok g c =
    on_ok c.add_own.result _ _ c.add_own.ensures.ok (λ added.
    own_key c.in-Some.guest.now c.in-Some.word.now c.in-Some.ensures added)
