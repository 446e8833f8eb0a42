-- Writes that are kept as heads, and their bytes one after another.
use Rattle.std.proofs.Common.{◌≡◌, ◌≤◌, ◌<◌, ◌+◌, ◌-◌, ◌∙◌, ap, sym, refl, subst, ℕ, suc, true}
use Rattle.std.proofs.Common.{List, [], ◌∷◌, ◌++◌, length, take, drop, arith}
use Rattle.std.proofs.lemmas.Bool.Decides.{nat_tests}
use Rattle.std.proofs.lemmas.List.{drop-append-le, drop-drop, length-append, length-drop}
use Rattle.std.proofs.lemmas.List.{length_push, nil_from_length, take-append-le, take_all}
use Rattle.disk.specs.Outbox.{IsOutbox, OutboxView, WriteAt, bytes_in, has_room, put_in, taken_from}
use Rattle.disk.specs.Outbox.{view_of, writes_of}
use Rattle.disk.specs.declared.outbox.Head.{Head}

pub length_writes : (hs : List Head) (bytes : List ℕ) → length (writes_of hs bytes) ≡ length hs
unfolding writes_of
length_writes [] bytes = refl
length_writes (h ∷ hs) bytes = ap suc (length_writes hs (drop h.len bytes))

pub bytes_in_more : (hs : List Head) (h : Head) → bytes_in (hs ++ h ∷ []) ≡ bytes_in hs + h.len
unfolding bytes_in
bytes_in_more [] h = omega arith
bytes_in_more (k ∷ hs) h = (let rest = bytes_in_more hs h in omega (arith, rest))

-- one write more
pub writes_more : (hs : List Head) (bytes more : List ℕ) (at : ℕ) → bytes_in hs ≡ length bytes
    → writes_of (hs ++ record { at = at; len = length more } ∷ []) (bytes ++ more)
    ≡ writes_of hs bytes ++ (at, more) ∷ []
unfolding writes_of bytes_in
writes_more [] bytes more at whole =
    let none : bytes ≡ [] = nil_from_length bytes (sym whole) in
    subst (λ (b : List ℕ). writes_of (record { at = at; len = length more } ∷ []) (b ++ more)
    ≡ (at, more) ∷ []) (sym none)
    (ap (λ (m : List ℕ). (at, m) ∷ []) (take_all (length more) more (omega arith)))
writes_more (h ∷ hs) bytes more at whole =
    let inside : h.len ≤ length bytes = omega (arith, whole) in
    let long = length-drop h.len bytes in
    let rest = writes_more hs (drop h.len bytes) more at (omega (arith, whole, long)) in
    let first = take-append-le h.len bytes more inside in
    let behind = drop-append-le h.len bytes more inside in
    ap (λ (t : List ℕ). (h.at, t) ∷ writes_of (hs ++ record { at = at; len = length more } ∷ [])
    (drop h.len (bytes ++ more))) first
    ∙ ap (λ (b : List ℕ). (h.at, take h.len bytes)
    ∷ writes_of (hs ++ record { at = at; len = length more } ∷ []) b) behind
    ∙ ap (λ (ws : List WriteAt). (h.at, take h.len bytes) ∷ ws) rest

-- what room says of how writes are kept
room_of : (hs : List Head) (kept : List ℕ) (from n : ℕ) → has_room n (view_of hs kept from) ≡ true
    → (n ≤ 65536 - length kept) × (length hs < 256)
unfolding has_room
room_of hs kept from n room = (let count = length_writes hs (drop from kept) in
    (grind (arith, nat_tests, count), grind (arith, nat_tests, count)))

-- A write is put behind the others, as a body finds it.
module _ (hs : List Head) (kept more : List ℕ) (from at places capacity : ℕ) (o : OutboxView)
    (is : view_of hs kept from ≡ o) (room : has_room (length more) o ≡ true)
    (sound : IsOutbox hs kept from places capacity) where
  fits : (length more ≤ 65536 - length kept) × (length hs < 256)
  fits = room_of hs kept from (length more) (ap (has_room (length more)) is ∙ room)

  pub put_sound : (hs' : List Head) (kept' : List ℕ) (places' capacity' : ℕ) → hs' ≡ hs
      ++ record { at = at; len = length more } ∷ [] → kept' ≡ kept ++ more → places' ≡ places
      → capacity ≤ capacity'
      → IsOutbox hs' kept' from places' capacity'
  put_sound hs' kept' places' capacity' heads bytes same wide =
      let h : Head = record { at = at; len = length more } in
      let long = length-append kept more in
      let many = length_push hs h in
      let more_bytes = bytes_in_more hs h in
      let counted = sound.counted in
      let enough = sound.places_enough in
      let room_enough = sound.bytes_enough in
      let has = fits in
      let short = sound.short in
      subst (λ (l : List Head). IsOutbox l kept' from places' capacity') (sym heads)
      (subst (λ (l : List ℕ). IsOutbox (hs ++ h ∷ []) l from places' capacity') (sym bytes)
      (record {
        counted = omega (arith, long, more_bytes, counted);
        few = omega (arith, many, has);
        short = omega (arith, long, has, short);
        places_enough = omega (arith, same, enough);
        bytes_enough = omega (arith, wide, room_enough);
      }))

  pub put_view : (hs' : List Head) (kept' : List ℕ) → hs' ≡ hs
      ++ record { at = at; len = length more } ∷ [] → kept' ≡ kept ++ more → view_of hs' kept' from
      ≡ put_in at more o
  unfolding put_in
  put_view hs' kept' heads bytes =
      let h : Head = record { at = at; len = length more } in
      let counted = sound.counted in
      let behind = drop-append-le from kept more (omega (arith, counted)) in
      let rest = length-drop from kept in
      let writes = ap (writes_of (hs ++ h ∷ [])) behind
      ∙ writes_more hs (drop from kept) more at (omega (arith, counted, rest)) in
      let long = length-append kept more in
      let left : 65536 - length (kept ++ more) ≡ 65536 - length kept - length more =
      omega (arith, long) in
      ap (λ (l : List Head). view_of l kept' from) heads
      ∙ ap (λ (l : List ℕ). view_of (hs ++ h ∷ []) l from) bytes
      ∙ ap (λ (ws : List WriteAt). record { writes = ws; room = 65536 - length (kept ++ more) })
      writes
      ∙ ap (λ (n : ℕ). record {
        writes = writes_of hs (drop from kept) ++ (at, more) ∷ [];
        room =
            n;
      }) left
      ∙ ap (put_in at more) is

-- the oldest write of several is taken
pub take_view : (hs rest : List Head) (h : Head) (kept : List ℕ) (from : ℕ) (o : OutboxView)
    → view_of hs kept from ≡ o → hs ≡ h ∷ rest → 0 < length rest
    → view_of rest kept (from + h.len) ≡ taken_from o
unfolding taken_from writes_of
take_view hs [] h kept from o is heads some = absurd (omega (arith, some))
take_view hs (v ∷ vs) h kept from o is heads some =
    let ahead = sym (drop-drop h.len from kept) in
    ap (λ (l : List ℕ). record { writes = writes_of (v ∷ vs) l; room = 65536 - length kept }) ahead
    ∙ ap (λ (l : List Head). taken_from (view_of l kept from)) (sym heads)
    ∙ ap taken_from is
