-- What a step makes of the store: an intent is given to it, it makes its call, or it stays.
use Rattle.std.proofs.Common.{◌≡◌, ◌⊎◌, ℕ, Bool, true, false, Option, Some, None, refl, ap, ◌∙◌}
use Rattle.std.proofs.Common.{inl, inr}
use Rattle.board.proofs.Common.{slice_get, DiskCall, DiskState, Intent, given, is_free, DeviceState}
use Rattle.board.proofs.Common.{Job, Done, Tally, Act, Step, BoardState, Fault, Marks, Report}
use Rattle.board.proofs.Common.{in_place, Advances, AdvancesUnder, Answer, CollectsInto, Does}
use Rattle.board.proofs.Common.{Drives, GivesWhere, PopsInto, PublishesFrom, SettlesBy, SubmitsFrom}
use Rattle.board.proofs.Common.{TakesInto}
use Rattle.board.specs.declared.step.Step.TheVariants as step

module _ {D : Type 0} (shows : D → DiskState) (makes : D → DiskCall → D → Type 0) (answer : Answer)
    (old new : BoardState D) where
  abbrev pub OfStore : Type 0
  OfStore = (new.store ≡ old.store)
      ⊎ (((i : Intent) × (new.store ≡ record old.store { guests = given old.store.guests i }))
      ⊎ Advances shows makes answer old new)

  kept : (to : BoardState D) → new ≡ to → to.store ≡ old.store → OfStore
  kept to is same = inl (ap (λ v. v.store) is ∙ same)

  of_drive : (g : ℕ) (act : Act) (o : Option DeviceState) → Drives g act o answer old new → OfStore
  of_drive g act None does = kept old does.1 refl
  of_drive g act (Some d) does = kept _ does.after refl

  of_pop : (g : ℕ) (place : Option (Option Job)) (o : Option DeviceState)
      → PopsInto g place o answer old new → OfStore
  of_pop g None o does = kept old does.1 refl
  of_pop g (Some (Some job)) o does = kept old does.1 refl
  of_pop g (Some None) None does = kept old does.1 refl
  of_pop g (Some None) (Some d) does = kept _ does.after refl

  of_publish : (g : ℕ) (done : Option Done) (o : Option DeviceState)
      → PublishesFrom g done o answer old new → OfStore
  of_publish g reply None does = kept old does.1 refl
  of_publish g None (Some d) does = kept old does.1 refl
  of_publish g (Some r) (Some d) does = kept _ does.after refl

  of_submit : (g : ℕ) (job : Option Job) (tally : Option Tally)
      → SubmitsFrom g job tally answer old new → OfStore
  of_submit g job None does = kept old does.1 refl
  of_submit g None (Some tally) does = kept old does.1 refl
  of_submit g (Some job) (Some tally) does = elim does [
    | inl went ↦ kept _ went.2 refl
    | inr refused ↦ kept old refused.1 refl
  ]

  of_collect : (g : ℕ) (place : Option (Option Done)) → CollectsInto g place answer old new
      → OfStore
  of_collect g None does = kept old does.1 refl
  of_collect g (Some (Some r)) does = kept old does.1 refl
  of_collect g (Some None) does = kept _ does.1 refl

  of_take : (g : ℕ) (place : Option (Option Intent)) → TakesInto g place answer old new → OfStore
  of_take g None does = kept old does.1 refl
  of_take g (Some (Some i)) does = kept old does.1 refl
  of_take g (Some None) does = kept _ does.1 refl

  of_give : (g : ℕ) (free : Bool) (intent : Option Intent) → GivesWhere g free intent answer old new
      → OfStore
  of_give g false intent does = kept old does.1 refl
  of_give g true None does = kept old does.1 refl
  of_give g true (Some i) does = inr (inl (i, ap (λ v. v.store) does.1))

  of_advance : (report : Option Report) → AdvancesUnder shows makes report answer old new → OfStore
  of_advance (Some r) does = kept old does.1 refl
  of_advance None does = inr (inr does)

  of_settle : (report : Option Report) → SettlesBy report answer old new → OfStore
  of_settle None does = kept old does.1 refl
  of_settle (Some (Marks marks)) does = kept _ does.1 refl
  of_settle (Some Fault) does = kept _ does.1 refl

  pub of_store : (s : Step) → Does shows makes s answer old new → OfStore
  of_store (step.Drive g act) does = of_drive g act (slice_get old.devices g) does
  of_store (step.Pop g) does = of_pop g (slice_get old.jobs g) (slice_get old.devices g) does
  of_store (step.Submit g) does =
      of_submit g (in_place (slice_get old.jobs g)) (slice_get old.tallies g) does
  of_store (step.Collect g) does = of_collect g (slice_get old.dones g) does
  of_store (step.Publish g) does = of_publish g (in_place (slice_get old.dones g))
      (slice_get old.devices g) does
  of_store (step.Take g) does = of_take g (slice_get old.intents g) does
  of_store (step.Give g) does =
      of_give g (is_free old.store.guests g) (in_place (slice_get old.intents g)) does
  of_store step.Advance does = of_advance old.report does
  of_store step.Settle does = of_settle old.report does
