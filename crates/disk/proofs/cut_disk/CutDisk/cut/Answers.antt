use Rattle.std.proofs.Common.{◌∙◌}
use Rattle.disk.proofs.CutCalls.{stop_made, stop_leaves}
use Rattle.disk.proofs.cut_disk.CutDisk.cut.Goals as goal

pub returns-clause-stops : goal.returns-clause-stops
returns-clause-stops c =
    stop_made _ _ _ c.self.view_is _ _ _ _ _ c.leave.ensures.len c.leave.ensures.left
    c.deref.ensures.value c.deref-2.ensures.value (c.keep.ensures.synced
    ∙ c.deref-3.ensures.value) c.keep.ensures.unsynced

pub returns-clause-left : goal.returns-clause-left
returns-clause-left c = stop_leaves _ _ _ _ c.self.view_is c.self.invariant (returns-clause-stops c)
