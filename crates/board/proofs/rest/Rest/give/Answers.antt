use Rattle.std.proofs.Common.{subst}
use Rattle.board.proofs.Common.{slice_get, in_place, is_free, GivesWhere, did_answer}
use Rattle.board.specs.State.{over}
use Rattle.board.proofs.Lifting.{beside, gives}
use Rattle.board.proofs.rest.Rest.give.Goals as goal

pub returns : goal.returns
returns g c =
    let i = c.self.inside in
    subst (λ v. GivesWhere c.args.guest (is_free v.store.guests c.args.guest)
    (in_place (slice_get v.intents c.args.guest)) (did_answer c.give.result) v
    (beside (λ d. d) (λ t. i.tallies.items) (λ j. i.jobs.items) (λ r. i.dones.items)
    (over i.book c.give.new.self))) c.self.view_is
    (gives (λ d. d) (λ t. i.tallies.items) (λ j. i.jobs.items) (λ r. i.dones.items)
    (did_answer c.give.result) (over i.book i.keeper) (over i.book c.give.new.self) c.args.guest
    (is_free i.keeper.store.guests c.args.guest) (in_place
    (slice_get i.keeper.intents c.args.guest))
    (c.give.ensures.gives i.book))
