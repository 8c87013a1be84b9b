-- The tile of mtcrf.
use Rattle.std.proofs.Common.{◌≡◌, ◌≢◌, ℕ, zero, suc, ◌+◌, ◌-◌, ◌*◌, ◌/◌, ◌%◌, ◌^◌, ◌<◌, ◌≤◌, ◌⊎◌, inl, inr, Bool, true, false, cond, List, [], bit_and, refl, sym, ap, ◌∙◌, subst, arith, ◌++◌}
use Rattle.std.proofs.lemmas.Nat.{and_mask}
use Rattle.machines.specs.Prelude.{bit_of, MoveToCr, IsLegal, update, Rights, Guest, at_next, put_cr, cr_word, Choice}
use Rattle.reg_map.specs.Prelude.{location_range, AreInRange}
use Rattle.symbolic_tiles.specs.Prelude.{IsTileOf, room_of, AreWellFormed, SymbolicState, execute_ops}
use Rattle.base_alu.specs.Conditions.{chosen_ops, mtcrf_below, mtcrf_ops}
use Rattle.symbolic_tiles.proofs.Memory.{update_same, update_other}
use Rattle.row_laws.proofs.Digits.{digit}
use Rattle.row_laws.proofs.Fields.{field_of_word, put_cr_at, put_cr_off}
use Rattle.row_laws.proofs.Chosen.{put_fields, field_chosen, field_kept}
use Rattle.symbolic_tiles.proofs.Done.{state_of, IsStateOf}
use Rattle.symbolic_tiles.proofs.TileOf.{ops_are_tile, then_more}
use Rattle.symbolic_tiles.proofs.Written.{fields_put_cr}
use Rattle.symbolic_tiles.proofs.Results.{goes_same, Then, both_ops, ops_then}
use Rattle.symbolic_tiles.proofs.Registers.{word}

module _ (s fxm : ℕ) (ls : s < 32) where
  chosen_are : (n : ℕ) (b : Bool) → n < 8 → AreWellFormed (cond b (chosen_ops s (7 - n)) [])
  chosen_are n true h = ((tt, word s ls), ((tt, omega arith), ((tt, omega arith), (((omega arith, omega arith), tt), tt))))
  chosen_are n false h = tt

  below_are : (n : ℕ) → n ≤ 8 → AreWellFormed (mtcrf_below n s fxm)
  unfolding mtcrf_below
  below_are zero h = tt
  below_are (suc n) h = both_ops (cond (bit_of fxm n) (chosen_ops s (7 - n)) []) (mtcrf_below n s fxm) (chosen_are n (bit_of fxm n) (omega arith)) (below_are n (omega arith))

  module _ (g : Guest) (range : AreInRange g) where
    abbrev new_cr : ℕ
    new_cr = put_fields fxm (g.locs s) (cr_word g.locs)

    -- the fields before that of place n are done
    abbrev IsDoneAt : ℕ → (ℕ → ℕ) → (ℕ → ℕ) → Type 0
    IsDoneAt n locs bytes = ((x : ℕ) → x < 42 - n → locs x ≡ put_cr new_cr g.locs x) × ((x : ℕ) → 42 - n ≤ x → locs x ≡ g.locs x) × (bytes ≡ g.bytes)

    abbrev IsDoneTo : ℕ → SymbolicState → Type 0
    IsDoneTo n t = IsDoneAt n t.locs t.bytes

    field_at : (n : ℕ) → n < 8 → put_cr new_cr g.locs (34 + (7 - n)) ≡ digit n new_cr
    field_at n h = put_cr_at new_cr (7 - n) g.locs (omega arith) ∙ ap (λ k. digit k new_cr) (omega arith)

    number : (n S : ℕ) → n < 8 → bit_and (S / 2 ^ ((28 - 4 * (7 - n)) % 32 % 32)) 15 % 256 ≡ digit n S
    number n S h = let e : (28 - 4 * (7 - n)) % 32 % 32 ≡ 4 * n = omega arith in ap (λ k. k % 256) (and_mask (S / 2 ^ ((28 - 4 * (7 - n)) % 32 % 32)) 4 ∙ ap (λ k. S / 2 ^ k % 16) e) ∙ omega arith

    at_place : (n : ℕ) → n < 8 → (t : SymbolicState) (locs : ℕ → ℕ) → IsDoneTo (suc n) t → ((x : ℕ) → locs x ≡ update t.locs (34 + (7 - n)) (put_cr new_cr g.locs (34 + (7 - n))) x) → IsDoneAt n locs t.bytes
    at_place n h t locs d e = (λ x lx. by_same x lx (grind arith), λ x lx. e x ∙ update_other t.locs (34 + (7 - n)) _ x (λ q. omega arith) ∙ d.1 x (omega arith), d.2)
      where
        by_same : (x : ℕ) → x < 42 - n → (x ≡ 34 + (7 - n)) ⊎ (x ≢ 34 + (7 - n)) → locs x ≡ put_cr new_cr g.locs x
        by_same x lx (inl q) = e x ∙ ap (update t.locs (34 + (7 - n)) (put_cr new_cr g.locs (34 + (7 - n)))) q ∙ update_same t.locs (34 + (7 - n)) (put_cr new_cr g.locs (34 + (7 - n))) ∙ sym (ap (put_cr new_cr g.locs) q)
        by_same x lx (inr ne) = e x ∙ update_other t.locs (34 + (7 - n)) _ x ne ∙ d.0 x (omega arith)

    one_field : (guest host : Rights) (n : ℕ) → n < 8 → (b : Bool) → bit_of fxm n ≡ b → (choices : List Choice) (t : SymbolicState) → IsDoneTo (suc n) t → Then (IsDoneTo n) (execute_ops guest host (cond b (chosen_ops s (7 - n)) []) choices t)
    one_field guest host n h true e choices t d =
        let S : t.locs s ≡ g.locs s = d.0 s (omega arith) ∙ put_cr_off new_cr s g.locs (inl (omega arith)) in
        let v = ap (λ k. bit_and (k / 2 ^ ((28 - 4 * (7 - n)) % 32 % 32)) 15 % 256) S ∙ number n (g.locs s) h ∙ sym (field_chosen fxm (g.locs s) (cr_word g.locs) n h e) ∙ sym (field_at n h) in
        at_place n h t (update t.locs (34 + (7 - n)) (bit_and (t.locs s / 2 ^ ((28 - 4 * (7 - n)) % 32 % 32)) 15 % 256)) d (λ x. ap (λ k. update t.locs (34 + (7 - n)) k x) v)
    one_field guest host n h false e choices t d =
        let v : put_cr new_cr g.locs (34 + (7 - n)) ≡ t.locs (34 + (7 - n)) =
        field_at n h ∙ field_kept fxm (g.locs s) (cr_word g.locs) n h e ∙ ap (λ k. digit k (cr_word g.locs)) (omega arith) ∙ field_of_word g.locs range (7 - n) (omega arith) ∙ sym (d.1 (34 + (7 - n)) (omega arith)) in
        at_place n h t t.locs d (λ x. by_same x v (grind arith))
      where
        by_same : (x : ℕ) → put_cr new_cr g.locs (34 + (7 - n)) ≡ t.locs (34 + (7 - n)) → (x ≡ 34 + (7 - n)) ⊎ (x ≢ 34 + (7 - n)) → t.locs x ≡ update t.locs (34 + (7 - n)) (put_cr new_cr g.locs (34 + (7 - n))) x
        by_same x v (inl q) = ap t.locs q ∙ sym v ∙ sym (ap (update t.locs (34 + (7 - n)) (put_cr new_cr g.locs (34 + (7 - n)))) q ∙ update_same t.locs (34 + (7 - n)) (put_cr new_cr g.locs (34 + (7 - n))))
        by_same x v (inr ne) = sym (update_other t.locs (34 + (7 - n)) _ x ne)

    all_fields : (guest host : Rights) (n : ℕ) → n ≤ 8 → (choices : List Choice) (t : SymbolicState) → IsDoneTo n t → Then (IsDoneTo 0) (execute_ops guest host (mtcrf_below n s fxm) choices t)
    unfolding mtcrf_below
    all_fields guest host zero h choices t d = d
    all_fields guest host (suc n) h choices t d =
        ops_then guest host (IsDoneTo n) (IsDoneTo 0) (cond (bit_of fxm n) (chosen_ops s (7 - n)) []) (mtcrf_below n s fxm) choices t (one_field guest host n (omega arith) (bit_of fxm n) refl choices t d) (λ choices u d'. all_fields guest host n (omega arith) choices u d')

below_short : (s fxm n : ℕ) → room_of (mtcrf_below n s fxm) ≤ 24 * n
unfolding mtcrf_below
below_short s fxm zero = omega arith
below_short s fxm (suc n) = by_bit (bit_of fxm n) (below_short s fxm n)
  where
    by_bit : (b : Bool) → room_of (mtcrf_below n s fxm) ≤ 24 * n → room_of (cond b (chosen_ops s (7 - n)) [] ++ mtcrf_below n s fxm) ≤ 24 * suc n
    by_bit true h = omega (arith, h)
    by_bit false h = omega (arith, h)

pub mtcrf_does : (s fxm : ℕ) → IsLegal (MoveToCr s fxm) → IsTileOf (MoveToCr s fxm) (mtcrf_ops s fxm)
mtcrf_does s fxm legal =
    ops_are_tile (MoveToCr s fxm) (mtcrf_ops s fxm) legal (below_are s fxm ls 8 (omega arith)) (let f = below_short s fxm 8 in omega (arith, f))
    (λ guest g g' range leads. subst (λ h. (z : ℕ) → 34 ≤ z → z < 46 → h.locs z < location_range z) (goes_same (after g) g' leads) (fields_put_cr (put_fields fxm (g.locs s) (cr_word g.locs)) g.locs (λ z lz uz. range z uz)))
    (λ guest host g g' regs flags choices given words leads.
    let e = goes_same (after g) g' leads in
    then_more (IsDoneTo s fxm ls g given.in_range 0) (IsStateOf guest g') (execute_ops guest host (mtcrf_ops s fxm) choices (state_of g regs flags))
    (λ t d. (λ x lx. by_end g t x d (grind arith) ∙ ap (λ k. k.locs x) e, λ k held. ap (λ f. f k) d.2 ∙ ap (λ h. h.bytes k) e))
    (all_fields s fxm ls g given.in_range guest host 8 (omega arith) choices (state_of g regs flags) (λ x lx. sym (put_cr_off (put_fields fxm (g.locs s) (cr_word g.locs)) x g.locs (inl lx)), λ x lx. refl, refl)))
  where
    ls : s < 32
    ls = legal.fit.1.0

    after : Guest → Guest
    after g = at_next (put_cr (put_fields fxm (g.locs s) (cr_word g.locs)) g.locs) g

    by_end : (g : Guest) (t : SymbolicState) (x : ℕ) → ((y : ℕ) → y < 42 → t.locs y ≡ put_cr (put_fields fxm (g.locs s) (cr_word g.locs)) g.locs y) × ((y : ℕ) → 42 ≤ y → t.locs y ≡ g.locs y) × (t.bytes ≡ g.bytes) → (x < 42) ⊎ (42 ≤ x) → t.locs x ≡ put_cr (put_fields fxm (g.locs s) (cr_word g.locs)) g.locs x
    by_end g t x d (inl l) = d.0 x l
    by_end g t x d (inr l) = d.1 x l ∙ sym (put_cr_off (put_fields fxm (g.locs s) (cr_word g.locs)) x g.locs (inr l))
