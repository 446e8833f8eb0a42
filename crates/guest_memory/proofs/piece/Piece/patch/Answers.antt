use Rattle.std.proofs.Common.{◌≡◌, ◌≤◌, ◌+◌, ◌-◌, ◌⊎◌, ◌++◌, ap, ◌∙◌, sym, arith}
use Rattle.std.proofs.Common.{length, inl, inr, refl, take, drop}
use Rattle.std.proofs.lemmas.Bool.{cases_lt}
use Rattle.guest_memory.proofs.Copies.{length_put, patched, untouched}
use Rattle.guest_memory.specs.declared.piece.Piece.{Piece}
use Rattle.std.specs.Vec.{with_items}
use Rattle.std.proofs.lemmas.List.{with_items_is}
use borrow.Rule.Slice.PartMut.{put_mid}
use Rattle.guest_memory.proofs.piece.Piece.patch.Goals as goal

pub returns-then-end-at-clause-copy : goal.returns-then-end-at-clause-copy
returns-then-end-at-clause-copy c = λ m inside copy. untouched m c.args.bytes.now c.args.at
    c.args.self.now inside copy (inl (omega arith))

pub returns-then-last-self-clause-copy : goal.returns-then-last-self-clause-copy
returns-then-last-self-clause-copy c = λ m inside copy. untouched m c.args.bytes.now c.args.at
    c.args.self.now inside copy (inr (omega arith))

pub returns-clause-copy : goal.returns-clause-copy
returns-clause-copy c = λ m inside copy.
    let p = c.args.self.now in
    let at = c.args.at in
    let bytes = c.args.bytes.now in
    let from = c.max-from.result in
    let to = c.min-to.result in
    let start = from - p.at in
    let first = from - at in
    let n = start + (to - from) - start in
    let from_is = c.max-from.ensures in
    let to_is = c.min-to.ensures in
    let a = c.if-end-at.false in
    let b = c.if-last-self.false in
    let low : (start ≡ 0) ⊎ (first ≡ 0) = elim (cases_lt p.at at) [
      | inl x ↦ inr (omega (arith, from_is, x))
      | inr x ↦ inl (omega (arith, from_is, x))
    ] in
    let high : (start + n ≡ length p.bytes.items) ⊎ (first + n ≡ length bytes) =
    elim (cases_lt (p.at + length p.bytes.items) (at + length bytes)) [
      | inl x ↦ inl (omega (arith, from_is, to_is, x, a, b))
      | inr x ↦ inr (omega (arith, from_is, to_is, x, a, b))
    ] in
    let count = first + (to - from) - first in
    let ws = put_mid start n c.deref_mut.result.now c.copy_from_slice.new.self in
    let q : Piece = record { at = p.at; bytes = with_items p.bytes ws } in
    let same_count : count ≡ n = omega arith in
    let after : c.copy_from_slice.new.self ≡ take n (drop first bytes) =
    c.copy_from_slice.ensures.after ∙ ap (λ v. take v (drop first bytes)) same_count in
    let same : ws ≡ take start p.bytes.items
    ++ (take n (drop first bytes) ++ drop n (drop start p.bytes.items)) =
    ap (λ v. take start v ++ (c.copy_from_slice.new.self ++ drop n (drop start v)))
    c.deref_mut.ensures.value
    ∙ ap (λ v. take start p.bytes.items ++ (v ++ drop n (drop start p.bytes.items))) after in
    let fits : start + n ≤ length p.bytes.items = omega (arith, from_is, to_is, a, b) in
    let part : first + n ≤ length bytes = omega (arith, from_is, to_is, a, b) in
    let size : length ws ≡ length p.bytes.items = ap length same
    ∙ length_put p.bytes.items bytes start first n fits part in
    let is = with_items_is p.bytes ws (size ∙ sym p.bytes.ok.0) ∙ same in
    let meet : p.at + start ≡ at + first = omega (arith, from_is) in
    patched m bytes at p q start first n inside copy refl meet fits part low high is
