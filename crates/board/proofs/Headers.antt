-- The image's header stays over each step of a board, and over steps one after another.
use Rattle.std.proofs.Common.{◌≡◌, inl, inr, refl, ap, sym, subst, ◌∙◌}
use Rattle.board.proofs.Common.{DiskCall, DiskState, FrontStays, Still, Within, BoardState}
use Rattle.board.proofs.Common.{Answer, Does, Step}
use Rattle.disk.proofs.Ways.{within_both, within_end, within_weaker}
use Rattle.recovery.specs.Opening.{Untouched}
use Rattle.board.proofs.Stores.{of_store}
use Rattle.board.specs.Moving.{KeepsHeader}

front_twice : (a b c : DiskState) → FrontStays a b → FrontStays b c → FrontStays a c
front_twice a b c first second k below =
    let one = first k below in
    let two = second k below in
    (two.0 ∙ one.0, λ synced. two.1 (one.1 synced))

module _ {D : Type 0} (shows : D → DiskState) (makes : D → DiskCall → D → Type 0) where
  -- over none
  pub header_still : (old new : D) → new ≡ old → KeepsHeader shows makes old new
  header_still old new same known = subst (Within shows makes (FrontStays (shows old)) old)
      (sym same) (Still old (λ k below. (refl, λ synced. synced)))

  -- over steps one after another
  pub header_twice : (a b c : D) → (shows b).faithful ≡ (shows a).faithful
      → KeepsHeader shows makes a b → KeepsHeader shows makes b c → KeepsHeader shows makes a c
  header_twice a b c same first second known =
      let way = first known in
      let end = within_end shows makes (FrontStays (shows a)) a b way in
      within_both shows makes (FrontStays (shows a)) (FrontStays (shows b)) (FrontStays (shows a)) a
      b c (λ s p. p) (λ s p. front_twice (shows a) (shows b) s end p) way
      (second (same ∙ known))

  -- over an opening
  pub header_opened : (a b : D) → Within shows makes (Untouched (shows a)) a b
      → KeepsHeader shows makes a b
  header_opened a b way known = within_weaker shows makes (Untouched (shows a))
      (FrontStays (shows a)) a b (λ s kept k below. (kept.seen known k, kept.unsynced known k)) way

  -- over a step
  pub header_stays : (s : Step) (answer : Answer) (old new : BoardState D)
      → Does shows makes s answer old new → KeepsHeader shows makes old.store.disk new.store.disk
  header_stays s answer old new does = elim (of_store shows makes answer old new s does) [
    | inl same ↦ header_still old.store.disk new.store.disk (ap (λ v. v.disk) same)
    | inr other ↦ elim other [
      | inl gave ↦ header_still old.store.disk new.store.disk (ap (λ v. v.disk) gave.1)
      | inr a ↦ (λ known. subst (λ b. Within shows makes (FrontStays (shows old.store.disk))
          old.store.disk b.store.disk) (sym a.after) (a.front known))
    ]
  ]
