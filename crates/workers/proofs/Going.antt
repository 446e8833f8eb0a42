-- Steps of a driver, one after another.
use Rattle.std.proofs.Common.{ℕ, List, [], ◌∷◌, ◌++◌, refl, subst}
use Rattle.workers.specs.Driving.{At, GoesTo, Move, Steps, Went}
use Rattle.workers.specs.declared.order.Order.{Order}
use Rattle.workers.specs.declared.seat.Guest.{Guest}
use Rattle.workers.specs.declared.seat.Next.{Next}

pub nowhere : (number : ℕ) (script : List Order) (a : At) → GoesTo number script a a
nowhere number script a = record { moves = []; went = refl }

went_through : (number : ℕ) (script : List Order) (a : At) (ms : List Move) (b : At)
    (ns : List Move) (c : At)
    → Went number script a ms b → Went number script b ns c → Went number script a (ms ++ ns) c
went_through number script a [] b ns c first then =
    subst (λ x. Went number script x ns c) first then
went_through number script a (m ∷ ms) b ns c first then =
    (first.0, went_through number script m.to ms b ns c first.1 then)

pub through : (number : ℕ) (script : List Order) (a b c : At) → GoesTo number script a b
    → GoesTo number script b c → GoesTo number script a c
through number script a b c first then = record {
  moves = first.moves ++ then.moves;
  went = went_through number script a first.moves b then.moves c first.went then.went;
}

pub one_more : (number : ℕ) (script : List Order) (a b c : At) (guest guest' : Guest) (next : Next)
    → GoesTo number script a b → Steps number script b guest next c guest'
    → GoesTo number script a c
one_more number script a b c guest guest' next goes steps =
    through number script a b c goes (record {
      moves = record { guest = guest; next = next; to = c; guest' = guest' } ∷ [];
      went = (steps, refl);
    })
