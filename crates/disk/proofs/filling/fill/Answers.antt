use Rattle.std.proofs.Common.{ap}
use Rattle.disk.proofs.Fills.{filled_start, filled_next_set, filled_next_clear, filled_end}
use Rattle.disk.proofs.filling.fill.Goals as goal
use Rattle.disk.proofs.filling.fill.Goals.{then-unsynced-i, else-unsynced-i}

pub loop-i-init : goal.loop-i-init
loop-i-init c = filled_start _ _ _

pub loop-i-preserved : goal.loop-i-preserved
loop-i-preserved c = elim c.if-unsynced-i.branch [
  | then-unsynced-i w ↦ filled_next_set _ _ _ _ _ _ _ _ _ c.loop-i.invariant c.loop-i-test.true
      c.requires w.if-unsynced-i.true w.byte_for.ensures (ap (λ v. v.items) w.seen-is) w.count-is
  | else-unsynced-i w ↦ filled_next_clear _ _ _ _ _ _ _ _ c.loop-i.invariant w.if-unsynced-i.false
      (ap (λ v. v.items) w.seen-is) w.count-is
]

pub returns-clause-filled : goal.returns-clause-filled
returns-clause-filled c = filled_end _ _ _ _ _ _ c.loop-i.invariant c.loop-i-test.false
