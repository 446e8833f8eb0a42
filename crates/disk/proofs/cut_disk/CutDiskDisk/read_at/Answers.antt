use Rattle.std.proofs.Common.{false, true, rules}
use Rattle.disk.proofs.CutCalls.{read_made}
use Rattle.disk.proofs.cut_disk.CutDiskDisk.read_at.Goals as goal

pub returns-then-not-counts-clause-call : goal.returns-then-not-counts-clause-call
returns-then-not-counts-clause-call c =
    read_made _ _ c.self.view_is _ _ false (search rules) c.counts.ensures.chosen
    c.counts.ensures.failures

pub returns-then-not-counts-clause-succeeds : goal.returns-then-not-counts-clause-succeeds
returns-then-not-counts-clause-succeeds c = (returns-then-not-counts-clause-call c).success

pub returns-then-not-counts-clause-counted : goal.returns-then-not-counts-clause-counted
returns-then-not-counts-clause-counted c = (returns-then-not-counts-clause-call c).value

pub returns-clause-call : goal.returns-clause-call
returns-clause-call c =
    read_made _ _ c.self.view_is _ _ true (search rules) c.counts.ensures.chosen
    c.counts.ensures.failures

pub returns-clause-succeeds : goal.returns-clause-succeeds
returns-clause-succeeds c = (returns-clause-call c).success

pub returns-clause-counted : goal.returns-clause-counted
returns-clause-counted c = (returns-clause-call c).value
