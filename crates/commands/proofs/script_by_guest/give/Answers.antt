use Rattle.std.proofs.Common.{◌≡◌, ◌<◌, ◌==◌, ◌++◌, ◌∷◌, ◌∙◌, [], if◌then◌else◌, length, map, ap}
use Rattle.std.proofs.Common.{subst, arith}
use Rattle.commands.proofs.Common.{get_or_read, slice_index_or, slice_set, asks}
use Rattle.commands.proofs.Handed.{one_given}
use Rattle.commands.proofs.script_by_guest.give.Goals.{in-Ok, in-Err}
use Rattle.commands.proofs.script_by_guest.give.Goals as goal

pub returns-clause-each : goal.returns-clause-each
returns-clause-each c = elim c.match-push.branch [
  | in-Ok w ↦ rw w.result-is (λ g below.
      let scripts = c.args.scripts.now.items in
      let inside : c.from.result < length scripts =
      omega (arith, c.from.ensures, c.requires, c.args.scripts.now.ok) in
      let at = get_or_read scripts c.from.result c.index_mut.result.now inside
      c.index_mut.ensures.value [] in
      subst (λ n. map (asks g) (slice_index_or (slice_set scripts c.from.result c.push.new.self) g
      []) ≡ map (asks g) (slice_index_or scripts g [])
      ++ (if g == n then asks g c.args.order ∷ [] else [])) c.from.ensures
      (one_given scripts c.from.result c.push.new.self c.args.order inside (w.in-Ok.ensures.pushed
      ∙ ap (λ s. s ++ c.args.order ∷ []) at) g))
  | in-Err w ↦ rw w.result-is tt
]
