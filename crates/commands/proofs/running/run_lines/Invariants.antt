use Rattle.std.proofs.Common.{ℕ, List, [], length, map}
use Rattle.commands.proofs.Common.{All, Partition, Moves, Starts, Walked, moment_of}
use Rattle.commands.proofs.Common.{AreWithin, IsSized}
use Rattle.guest_driver.specs.Config.{SetupState}
use Rattle.script.specs.Line.{said}
use Rattle.commands.proofs.running.run_lines.Given as goal

abbrev pub invariant-loop-line : goal.invariant-loop-line
invariant-loop-line g l =
    All (λ line. IsSized (said line)) l.line-iterator.rest.items
    × ((guests : ℕ) → AreWithin guests l.fn.lines.items
    → AreWithin guests l.line-iterator.rest.items)
    × Moves g.D.Disk.state g.D.Disk.makes l.fn.host.board l.host.board
    × ((setup : SetupState) (partitions : List Partition)
    → Starts g.D.Disk.state setup partitions l.fn.host
    → AreWithin (length setup.board) l.fn.lines.items
    → Walked g.D.Disk.state g.D.Disk.makes setup partitions (map said l.fn.lines.items)
    (g.W.Write.contents l.fn.out) (moment_of (λ k. []) l.fn.host (g.W.Write.contents l.fn.out))
    (map said l.line-iterator.rest.items) l.host (g.W.Write.contents l.out))
