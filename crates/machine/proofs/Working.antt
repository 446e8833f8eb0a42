-- Whether something was done where no guest is served.
use Rattle.std.proofs.Common.{◌≡◌, ◌<◌, ◌≤◌, ◌⊎◌, inl, inr, refl, sym, subst, ◌∙◌, ℕ, ◌+◌, ◌%◌}
use Rattle.std.proofs.Common.{Bool, [], true, false, arith}
use Rattle.std.specs.Prelude.{nat_lt}
use Rattle.board.proofs.Common.{nat_tests}
use Rattle.machine.proofs.Common.{BoardState, Boards, Moves, OutboxMakes, OutboxState, Stand}
use Rattle.machine.proofs.Common.{board_of, moves_none, outbox_state, standing}
use Rattle.machine.specs.Ending.{IsHandedOn}
use Rattle.machine.specs.Machine.{Works}
use Rattle.machine.specs.Serving.{DoesSome}
use Rattle.machine.proofs.Handed.{handed_same}

-- something was done, or nothing is to be handed on of so many guests
abbrev pub WorksTo : ℕ → Boards → Boards → Type 0
WorksTo n a b = Works a b
    ⊎ ((board_of b ≡ board_of a) × ((k : ℕ) → k < n → k < 65536 → IsHandedOn k b.rest))

pub works_none : (a b : Boards) → board_of b ≡ board_of a → WorksTo 0 a b
works_none a b same = inr (same, λ k below small. absurd (omega (arith, below)))

not_below : (k n : ℕ) → nat_lt k n ≡ false → n ≤ k
not_below k n test = grind (arith, nat_tests)

is_below : (k n : ℕ) → nat_lt k n ≡ true → k < n
is_below k n test = grind (arith, nat_tests)

-- one guest more
last_or_before : (k n : ℕ) (b : Bool) → nat_lt k n ≡ b → k < n + 1 → (k < n) ⊎ (k ≡ n)
last_or_before k n true test below = inl (is_below k n test)
last_or_before k n false test below =
    inr (let past = not_below k n test in omega (arith, past, below))

small_number : (k n : ℕ) → k ≡ n → k < 65536 → n % 65536 ≡ k
small_number k n is small = omega (arith, is, small)

module _ (n : ℕ) (a b d : Boards)
    (moves : Moves outbox_state OutboxMakes (board_of a) (board_of b)) where
  works_now : ((most : ℕ) (s : Stand) → DoesSome (n % 65536) most s b s d) → WorksTo (n + 1) a d
  works_now does = inl (record {
    guest = n % 65536;
    most = 0;
    stand = standing [] false false;
    begins = b;
    ends = d;
    before = moves;
    does = does 0 (standing [] false false);
    behind = moves_none outbox_state OutboxMakes (board_of d);
  })

  works_before : board_of d ≡ board_of b → IsHandedOn (n % 65536) d.rest → WorksTo n a b
      → WorksTo (n + 1) a d
  works_before same handed (inl works) = inl (record {
    guest = works.guest;
    most = works.most;
    stand = works.stand;
    begins = works.begins;
    ends = works.ends;
    before = works.before;
    does = works.does;
    behind = subst (λ (x : BoardState OutboxState). Moves outbox_state OutboxMakes
        (board_of works.ends) x) (sym same) works.behind;
  })
  works_before same handed (inr all) = inr (
    same ∙ all.0,
    λ k below small. elim (last_or_before k n (nat_lt k n) refl below) [
      | inl before ↦ handed_same k b d same (all.1 k before small)
      | inr last ↦ subst (λ g. IsHandedOn g d.rest) (small_number k n last small) handed
    ],
  )

  pub works_more : (more r : Bool) → more ≡ r
      → (more ≡ true → (most : ℕ) (s : Stand) → DoesSome (n % 65536) most s b s d)
      → (more ≡ false → IsHandedOn (n % 65536) d.rest)
      → ((most : ℕ) (s : Stand) → DoesSome (n % 65536) most s b s d) ⊎ (board_of d ≡ board_of b)
      → WorksTo n a b → WorksTo (n + 1) a d
  works_more more true is did done either works = works_now (did is)
  works_more more false is did done (inl does) works = works_now does
  works_more more false is did done (inr same) works = works_before same (done is) works
