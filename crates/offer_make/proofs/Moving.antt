-- The moves between maps over some candidates.
use Rattle.std.proofs.Common.{◌≡◌, ◌≢◌, inl, inr, ℕ, zero, suc, ◌<◌, Bool, true, false, not, ◌&&◌, List, map, filter, Option, Some, None, refl, subst, arith}
use Rattle.std.specs.List.{All, Contains, flat_map}
use Rattle.std.proofs.lemmas.List.Elements.{All-contains, Contains-append_left, Contains-append_right, Contains-append_cases}
use Rattle.machines.specs.Prelude.{Map, IsMap}
use Rattle.reg_map.specs.declared.moves.Move.{Move}
use Rattle.reg_map.specs.declared.moves.Move.TheVariants.{Drop, Take}
use Rattle.reg_map.specs.Prelude.{content, moved, IsPossible, slot_of}
use Rattle.plan_form.specs.Prelude.{IsMapOver}
use Rattle.plan_form.specs.declared.problem.MovePrice.{MovePrice}
use Rattle.offer_make.specs.Tables.{is_empty, may_move, slots, all_moves, moves_between}
use Rattle.offer_make.proofs.Elements.{flat_map-from, flat_map-to, map-from, map-to, filter-from, filter-to, range-from, range-to}

empty-none : (o : Option ℕ) → is_empty o ≡ true → o ≡ None
empty-none None e = refl
empty-none (Some g) e = absurd cc

none-empty : (o : Option ℕ) → o ≡ None → is_empty o ≡ true
none-empty None e = refl
none-empty (Some g) e = absurd cc

not-empty : (o : Option ℕ) → not (is_empty o) ≡ true → o ≢ None
not-empty None e = absurd cc
not-empty (Some g) e = λ h. cc

empty-not : (o : Option ℕ) → o ≢ None → not (is_empty o) ≡ true
empty-not None ne = absurd (ne refl)
empty-not (Some g) ne = refl

both-of : (a b : Bool) → (a && b) ≡ true → (a ≡ true) × (b ≡ true)
both-of true true e = (refl, refl)
both-of true false e = absurd cc
both-of false b e = absurd cc

of-both : (a b : Bool) → a ≡ true → b ≡ true → (a && b) ≡ true
of-both true true e f = refl
of-both true false e f = absurd cc
of-both false b e f = absurd cc

-- a move of a slot, or of a slot and a candidate
abbrev pub IsAmong : List ℕ → Move → Type 0
IsAmong candidates (Drop slot) = slot < 3
IsAmong candidates (Take slot g) = (slot < 3) × Contains candidates g

abbrev pub unpriced : Map → Move → MovePrice
unpriced m step = record { place = 0; map = m; step = step; price = 0 }

module _ (candidates : List ℕ) where
  pub among-to : (step : Move) → Contains (all_moves candidates) step → IsAmong candidates step
  among-to step c = elim (Contains-append_cases (map Drop slots) (flat_map (λ slot. map (Take slot) candidates) slots) step c) [
    | inl a ↦ let f = map-to Drop slots step a in subst (IsAmong candidates) f.2 (range-to 3 f.0 f.1)
    | inr b ↦
        let f = flat_map-to (λ slot. map (Take slot) candidates) slots step b in
        let t = map-to (Take f.0) candidates step f.2 in
        subst (IsAmong candidates) t.2 (range-to 3 f.0 f.1, t.1)
  ]

  pub among-from : (step : Move) → IsAmong candidates step → Contains (all_moves candidates) step
  among-from (Drop slot) h = Contains-append_left (map Drop slots) _ (Drop slot) (map-from Drop slots slot (range-from 3 slot h))
  among-from (Take slot g) h = Contains-append_right (map Drop slots) _ (Take slot g)
      (flat_map-from (λ slot. map (Take slot) candidates) slots slot (Take slot g) (range-from 3 slot h.0) (map-from (Take slot) candidates g h.1))

  pub may-possible : All (λ g. g < 32) candidates → (m : Map) (step : Move) → IsAmong candidates step → may_move m step ≡ true → IsPossible m step
  may-possible small m (Drop slot) h e = (h, not-empty (content m slot) e)
  may-possible small m (Take slot g) h e =
      let b = both-of (is_empty (content m slot)) (is_empty (slot_of m g)) e in
      (h.0, All-contains (λ g. g < 32) candidates g small h.1, empty-none (content m slot) b.0, empty-none (slot_of m g) b.1)

  pub possible-may : (m : Map) (step : Move) → IsPossible m step → may_move m step ≡ true
  possible-may m (Drop slot) h = empty-not (content m slot) h.1
  possible-may m (Take slot g) h = of-both (is_empty (content m slot)) (is_empty (slot_of m g)) (none-empty (content m slot) h.2) (none-empty (slot_of m g) h.3)

  -- the map behind such a move is over the candidates
  pub moved-over : (m : Map) (step : Move) → IsMapOver candidates m → IsAmong candidates step → IsMap (moved m step) → IsMapOver candidates (moved m step)
  moved-over m (Drop zero) over h is = record { is_map = is; ebx = tt; esi = over.esi; edi = over.edi }
  moved-over m (Drop (suc zero)) over h is = record { is_map = is; ebx = over.ebx; esi = tt; edi = over.edi }
  moved-over m (Drop (suc (suc zero))) over h is = record { is_map = is; ebx = over.ebx; esi = over.esi; edi = tt }
  moved-over m (Drop (suc (suc (suc n)))) over h is = absurd (omega (arith, h))
  moved-over m (Take zero g) over h is = record { is_map = is; ebx = h.1; esi = over.esi; edi = over.edi }
  moved-over m (Take (suc zero) g) over h is = record { is_map = is; ebx = over.ebx; esi = h.1; edi = over.edi }
  moved-over m (Take (suc (suc zero)) g) over h is = record { is_map = is; ebx = over.ebx; esi = over.esi; edi = h.1 }
  moved-over m (Take (suc (suc (suc n))) g) over h is = absurd (omega (arith, h.0))

  -- and only such moves lead to one
  pub over-among : (m : Map) (step : Move) → IsPossible m step → IsMapOver candidates (moved m step) → IsAmong candidates step
  over-among m (Drop slot) can over = can.0
  over-among m (Take zero g) can over = (can.0, over.ebx)
  over-among m (Take (suc zero) g) can over = (can.0, over.esi)
  over-among m (Take (suc (suc zero)) g) can over = (can.0, over.edi)
  over-among m (Take (suc (suc (suc n))) g) can over = absurd (omega (arith, can.0))

  pub between-to : (maps : List Map) (move : MovePrice) → Contains (moves_between candidates maps) move
      → (m : Map) × (step : Move) × Contains maps m × IsAmong candidates step × (may_move m step ≡ true) × (unpriced m step ≡ move)
  between-to maps move c =
      let f = flat_map-to (λ m. map (unpriced m) (filter (may_move m) (all_moves candidates))) maps move c in
      let g = map-to (unpriced f.0) (filter (may_move f.0) (all_moves candidates)) move f.2 in
      let h = filter-to (may_move f.0) (all_moves candidates) g.0 g.1 in
      (f.0, g.0, f.1, among-to g.0 h.0, h.1, g.2)

  pub between-from : (maps : List Map) (m : Map) (step : Move) → Contains maps m → IsAmong candidates step → may_move m step ≡ true
      → Contains (moves_between candidates maps) (unpriced m step)
  between-from maps m step c among may =
      flat_map-from (λ m. map (unpriced m) (filter (may_move m) (all_moves candidates))) maps m (unpriced m step) c
      (map-from (unpriced m) (filter (may_move m) (all_moves candidates)) step (filter-from (may_move m) (all_moves candidates) step (among-from step among) may))
