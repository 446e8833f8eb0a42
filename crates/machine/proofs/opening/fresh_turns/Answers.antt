use Rattle.std.proofs.Common.{◌≡◌, ◌∙◌, ap, ◌++◌, ◌∷◌, [], rules}
use Rattle.board.proofs.Openings.{one_more}
use Rattle.machine.specs.Turn.{fresh_turn}
use Rattle.machine.proofs.opening.fresh_turns.Goals as goal

pub loop-place-preserved : goal.loop-place-preserved
loop-place-preserved c =
    let was = c.loop-place.turns.items in
    let pushed : c.push.new.self.items ≡ was ++ c.fresh.result ∷ [] = search rules in
    pushed ∙ ap (λ t. was ++ t ∷ []) c.fresh.ensures
    ∙ ap (λ l. l ++ fresh_turn ∷ []) c.loop-place.invariant ∙ one_more c.loop-place.place fresh_turn
