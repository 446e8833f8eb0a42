use Rattle.disk.proofs.Stopping.{stops_within_cover, stops_before_are_covered}
use Rattle.disk.proofs.laws.stops_within_cover.Goals as goal

pub returns-clause-after : goal.returns-clause-after
returns-clause-after c = stops_within_cover

pub returns-clause-before : goal.returns-clause-before
returns-clause-before c = stops_before_are_covered
