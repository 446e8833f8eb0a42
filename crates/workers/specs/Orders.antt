-- A guest's script, and the chains that it offers.
use Rattle.std.specs.Prelude.{ℕ, List, [], ◌∷◌, ◌+◌}
use Rattle.workers.specs.declared.order.Order.{Order}
use Rattle.workers.specs.declared.order.Order.TheVariants.{Chain, Reset}

abbrev pub chains_in : Order → ℕ
chains_in (Chain c) = 1
chains_in Reset = 0

-- how many of the orders offer a chain
abbrev pub chain_orders : List Order → ℕ
chain_orders [] = 0
chain_orders (o ∷ os) = chains_in o + chain_orders os
