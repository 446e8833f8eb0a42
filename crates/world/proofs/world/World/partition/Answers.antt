use Rattle.std.proofs.Common.{ap, sym, ◌∙◌}
use Rattle.world.proofs.Common.{home_of, partition_in}
use Rattle.world.proofs.Staging.{gives_partition}
use Rattle.world.proofs.world.World.partition.Goals as goal

pub returns-in-Some-clause-gives : goal.returns-in-Some-clause-gives
returns-in-Some-clause-gives c =
    gives_partition c.self.inside.stage c.args.self.now c.self.view_is c.self.invariant.0
    c.args.guest _ (c.partition.ensures ∙ ap (λ h. partition_in (home_of h) c.args.guest)
    (sym c.in-Some.is))
