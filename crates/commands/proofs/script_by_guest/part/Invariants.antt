use Rattle.std.proofs.Common.{◌≡◌, ◌++◌, ◌<◌, ℕ, [], map, vec_len}
use Rattle.commands.proofs.Common.{All, slice_index_or, IsServed, IsWithin, asks, asked_of}
use Rattle.std.specs.Vec.Iter.{into_iter_items}
use Rattle.script.specs.Line.{said}
use Rattle.commands.proofs.script_by_guest.part.Given as goal

abbrev pub invariant-loop-line : goal.invariant-loop-line
invariant-loop-line l =
    All (λ line. IsWithin l.guests (said line)) (into_iter_items l.line-iterator)
    × All (λ line. IsServed (said line)) (into_iter_items l.line-iterator)
    × (vec_len l.scripts ≡ l.guests)
    × ((g : ℕ) → g < l.guests → map (asks g) (slice_index_or l.scripts.items g [])
    ++ asked_of g (map said (into_iter_items l.line-iterator))
    ≡ asked_of g (map said l.fn.lines.items))
