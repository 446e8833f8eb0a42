use Rattle.std.proofs.Common.{false, true, rules, refl}
use Rattle.disk.proofs.CutCalls.{write_made, write_sound}
use Rattle.disk.proofs.cut_disk.CutDiskDisk.write_at.Goals as goal

pub returns-then-not-counts-clause-call : goal.returns-then-not-counts-clause-call
returns-then-not-counts-clause-call c =
    write_made _ _ c.self.view_is _ _ c.self.invariant c.requires _ _ _ _ false (search rules) refl
    c.mark.ensures c.counts.ensures.chosen c.counts.ensures.failures

pub returns-then-not-counts-clause-succeeds : goal.returns-then-not-counts-clause-succeeds
returns-then-not-counts-clause-succeeds c = (returns-then-not-counts-clause-call c).success

pub returns-then-not-counts-clause-value : goal.returns-then-not-counts-clause-value
returns-then-not-counts-clause-value c = (returns-then-not-counts-clause-call c).value

pub returns-clause-call : goal.returns-clause-call
returns-clause-call c =
    write_made _ _ c.self.view_is _ _ c.self.invariant c.requires _ _ _ _ true (search rules)
    c.put.ensures c.mark.ensures c.counts.ensures.chosen c.counts.ensures.failures

pub returns-clause-succeeds : goal.returns-clause-succeeds
returns-clause-succeeds c = (returns-clause-call c).success

pub returns-clause-value : goal.returns-clause-value
returns-clause-value c = (returns-clause-call c).value

pub invariant_of-self : goal.invariant_of-self
invariant_of-self c = write_sound _ _ c.self.view_is _ _ c.self.invariant c.requires _ _ _ _ false
    refl c.mark.ensures

pub invariant_of-self-2 : goal.invariant_of-self-2
invariant_of-self-2 c = write_sound _ _ c.self.view_is _ _ c.self.invariant c.requires _ _ _ _ true
    c.put.ensures c.mark.ensures
