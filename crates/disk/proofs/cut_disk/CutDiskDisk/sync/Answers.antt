use Rattle.std.proofs.Common.{false, true, rules, refl}
use Rattle.disk.proofs.CutCalls.{sync_made}
use Rattle.disk.proofs.cut_disk.CutDiskDisk.sync.Goals as goal

pub returns-then-not-counts-clause-call : goal.returns-then-not-counts-clause-call
returns-then-not-counts-clause-call c =
    sync_made _ _ c.self.view_is _ _ _ _ false (search rules) refl refl c.counts.ensures.chosen
    c.counts.ensures.failures

pub returns-then-not-counts-clause-succeeds : goal.returns-then-not-counts-clause-succeeds
returns-then-not-counts-clause-succeeds c = (returns-then-not-counts-clause-call c).success

pub returns-then-not-counts-clause-value : goal.returns-then-not-counts-clause-value
returns-then-not-counts-clause-value c = (returns-then-not-counts-clause-call c).value

pub returns-clause-call : goal.returns-clause-call
returns-clause-call c =
    sync_made _ _ c.self.view_is _ _ _ _ true (search rules) (search rules) (search rules)
    c.counts.ensures.chosen c.counts.ensures.failures

pub returns-clause-succeeds : goal.returns-clause-succeeds
returns-clause-succeeds c = (returns-clause-call c).success

pub returns-clause-value : goal.returns-clause-value
returns-clause-value c = (returns-clause-call c).value
