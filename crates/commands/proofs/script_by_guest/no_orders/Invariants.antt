use Rattle.std.proofs.Common.{◌≡◌, [], vec_len}
use Rattle.commands.proofs.Common.{All}
use Rattle.commands.proofs.script_by_guest.no_orders.Given as goal

abbrev pub invariant-loop : goal.invariant-loop
invariant-loop l = (vec_len l.scripts ≡ l.counter) × All (λ orders. orders ≡ []) l.scripts.items
