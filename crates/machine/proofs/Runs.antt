-- What serves a guest, one part after another.
use Rattle.std.proofs.Common.{◌≡◌, ap, sym, subst, ◌∙◌, ℕ, Bool, true, false, List, []}
use Rattle.machine.proofs.Common.{slice_set, OutboxMakes, OutboxState, outbox_state}
use Rattle.machine.proofs.Common.{AskingState, BoardState, board_of, with_devices, Moves}
use Rattle.machine.proofs.Common.{moves_none}
use Rattle.machine.proofs.Common.{moves_twice, lent_moves, Answer, Step, Range, Boards, Calls}
use Rattle.machine.proofs.Common.{Hands}
use Rattle.machine.proofs.Common.{IsShare, Knows, LearnsOf, Makes, Pops, Runs}
use Rattle.machine.proofs.Common.{Still, Then, Voids, GivesUp, Stand, standing}
use Rattle.board.proofs.AskingSteps.{device_in, map-set}
use Rattle.machine.specs.Serving.{ByPop, ByReply, ByStep, DoesMany, DoesMore, DoesNone, DoesSome}
use Rattle.machine.specs.Serving.{IsDone}
use Rattle.machine.specs.Ending.{Begins, GoesOn, Stops, Tells}

module _ (guest most : ℕ) where
  pub runs_twice : (s t u : Stand) (a b c : Boards) → Runs guest most s a t b
      → Runs guest most t b u c
      → Runs guest most s a u c
  runs_twice s t u a b c p (Still r d) = p
  runs_twice s t u a b c p (Then q r x y z o answer runs share makes) =
      Then s r a y z o answer (runs_twice s q r a x y p runs) share makes
  runs_twice s t u a b c p (Pops q r l m x y z answer runs pops) =
      Pops s r l m a y z answer (runs_twice s q (standing [] true l) a x y p runs) pops
  runs_twice s t u a b c p (Hands q r l x y z runs hands) =
      Hands s r l a y z (runs_twice s q (standing [] true l) a x y p runs) hands
  runs_twice s t u a b c p (LearnsOf q r g h l x y z none runs knows) =
      LearnsOf s r g h l a y z none (runs_twice s q (standing r g l) a x y p runs) knows
  runs_twice s t u a b c p (GivesUp q r g l x y runs) =
      GivesUp s r g l a y (runs_twice s q (standing r g l) a x y p runs)
  runs_twice s t u a b c p (Calls q r l x y z runs notified) =
      Calls s r l a y z (runs_twice s q (standing r true l) a x y p runs) notified
  runs_twice s t u a b c p (Voids q r g l x y z runs why refuses) =
      Voids s r g l a y z (runs_twice s q (standing r g l) a x y p runs) why refuses

  -- a step that no device makes
  pub runs_step : (s : Stand) (a b : Boards) (x : Step) (answer : Answer) → IsShare guest x a
      → Makes x answer a b → Runs guest most s a s b
  runs_step s a b x answer share makes = Then s s a a b x answer (Still s a) share makes

  pub runs_knows : (ps : List Range) (g h v : Bool) (a b : Boards)
      → (g ≡ false → h ≡ true → ps ≡ []) → Knows guest g a h b
      → Runs guest most (standing ps g v) a (standing ps h v) b
  runs_knows ps g h v a b none knows =
      LearnsOf (standing ps g v) ps g h v a a b none (Still (standing ps g v) a) knows

  pub still_same : (s t : Stand) (b : Boards) → t ≡ s → Runs guest most s b t b
  still_same s t b same = subst (λ r. Runs guest most s b r b) (sym same) (Still s b)

  pub still_on : (s t u : Stand) (a b : Boards) → u ≡ t → Runs guest most s a t b
      → Runs guest most s a u b
  still_on s t u a b same runs = subst (λ r. Runs guest most s a r b) (sym same) runs

  -- 1. Something was done among the steps

  pub does_then : (s t u : Stand) (a b c : Boards) → DoesSome guest most s a t b
      → Runs guest most t b u c
      → DoesSome guest most s a u c
  does_then s t u a b c (ByStep r v w x y z d o answer before share makes some after) more =
      ByStep s v u a y z c o answer before share makes some (runs_twice v t u z b c after more)
  does_then s t u a b c (ByPop r w qs l m x y z d answer before pops some after) more =
      ByPop s u qs l m a y z c answer before pops some
      (runs_twice (standing qs false m) t u z b c after more)
  does_then s t u a b c (ByReply r w qs l x y z d before hands after) more =
      ByReply s u qs l a y z c before hands (runs_twice (standing qs false l) t u z b c after more)

  pub then_does : (s t u : Stand) (a b c : Boards) → Runs guest most s a t b
      → DoesSome guest most t b u c
      → DoesSome guest most s a u c
  then_does s t u a b c first (ByStep r v w x y z d o answer before share makes some after) =
      ByStep s v u a y z c o answer (runs_twice s t v a b y first before) share makes some after
  then_does s t u a b c first (ByPop r w qs l m x y z d answer before pops some after) =
      ByPop s u qs l m a y z c answer (runs_twice s t (standing [] true l) a b y first before) pops
      some
      after
  then_does s t u a b c first (ByReply r w qs l x y z d before hands after) =
      ByReply s u qs l a y z c (runs_twice s t (standing [] true l) a b y first before) hands after

  -- a step that no device makes, and that did what it is for
  pub does_step : (s : Stand) (a b : Boards) (x : Step) (answer : Answer) → IsShare guest x a
      → Makes x answer a b → IsDone x answer → DoesSome guest most s a s b
  does_step s a b x answer share makes some =
      ByStep s s s a a b b x answer (Still s a) share makes some (Still s b)

  -- so much was done, behind some steps more
  pub then_many : (n : ℕ) (s t u : Stand) (a b c : Boards) → Runs guest most s a t b
      → DoesMany guest most n t b u c → DoesMany guest most n s a u c
  then_many n s t u a b c first (DoesNone k v w x y none runs) =
      DoesNone n s u a c none (runs_twice s t u a b c first runs)
  then_many n s t u a b c first (DoesMore k m v w x y z d more many some) =
      DoesMore n m s w u a z c more (then_many m s t w a b z first many) some

-- 2. All of it moves a board

module _ (guest : ℕ) where
  device_moves : (a b : Boards) (d : AskingState)
      → b ≡ record a { devices = slice_set a.devices guest d }
      → Moves outbox_state OutboxMakes (board_of a) (board_of b)
  device_moves a b d after =
      subst (λ (v : BoardState OutboxState). Moves outbox_state OutboxMakes (board_of a) v)
      (sym (ap board_of after ∙ ap (λ ds. with_devices ds a.rest)
      (map-set device_in a.devices guest d)))
      (lent_moves outbox_state OutboxMakes guest (board_of a) d.device)

  known_moves : (g h : Bool) (a b : Boards) → Knows guest g a h b
      → Moves outbox_state OutboxMakes (board_of a) (board_of b)
  known_moves g h a b knows = device_moves a b knows.device' knows.after

  pub runs_moves : (most : ℕ) (s t : Stand) (a b : Boards) → Runs guest most s a t b
      → Moves outbox_state OutboxMakes (board_of a) (board_of b)
  runs_moves most s t a b (Still r d) = moves_none outbox_state OutboxMakes (board_of d)
  runs_moves most s t a b (Then q r x y z o answer runs share makes) =
      moves_twice outbox_state OutboxMakes (board_of x) (board_of y) (board_of z)
      (runs_moves most q r x y runs) makes.steps.moves
  runs_moves most s t a b (Pops q r l m x y z answer runs pops) =
      moves_twice outbox_state OutboxMakes (board_of x) (board_of y) (board_of z)
      (runs_moves most q (standing [] true l) x y runs) pops.makes.steps.moves
  runs_moves most s t a b (Hands q r l x y z runs hands) =
      moves_twice outbox_state OutboxMakes (board_of x) (board_of y) (board_of z)
      (runs_moves most q (standing [] true l) x y runs) hands.hands.moves
  runs_moves most s t a b (LearnsOf q r g h l x y z none runs knows) =
      moves_twice outbox_state OutboxMakes (board_of x) (board_of y) (board_of z)
      (runs_moves most q (standing r g l) x y runs) (known_moves g h y z knows)
  runs_moves most s t a b (GivesUp q r g l x y runs) = runs_moves most q (standing r g l) x y runs
  runs_moves most s t a b (Calls q r l x y z runs notified) =
      moves_twice outbox_state OutboxMakes (board_of x) (board_of y) (board_of z)
      (runs_moves most q (standing r true l) x y runs)
      (device_moves y z notified.device' notified.after)
  runs_moves most s t a b (Voids q r g l x y z runs why refuses) =
      moves_twice outbox_state OutboxMakes (board_of x) (board_of y) (board_of z)
      (runs_moves most q (standing r g l) x y runs) (device_moves y z _ refuses.after)

  pub begins_moves : (s t : Stand) (a b : Boards) → Begins guest s a t b
      → Moves outbox_state OutboxMakes (board_of a) (board_of b)
  begins_moves s t a b (GoesOn same left) =
      subst (λ x. Moves outbox_state OutboxMakes (board_of a) (board_of x)) (sym same)
      (moves_none outbox_state OutboxMakes (board_of a))
  begins_moves s t a b (Tells at bytes tells left) = device_moves a b _ tells.after
  begins_moves s t a b (Stops refuses left) = device_moves a b _ refuses.after
