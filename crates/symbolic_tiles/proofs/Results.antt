-- Tiles of forms that give one result, and may put CA and record.
use Rattle.std.proofs.Common.{◌≡◌, ℕ, ◌^◌, ◌<◌, ◌≤◌, Bool, true, false, eqb, List, [], ◌∷◌, ◌++◌, drop, Option, Some, None, bit_and, refl, sym, ap, ◌∙◌, subst, arith}
use Rattle.std.proofs.lemmas.Bool.Decides.{nat_tests}
use Rattle.symbolic_tiles.proofs.Lengths.{room_append}
use Rattle.machines.specs.Prelude.{one_if, Instr, IsLegal, Less, Flags, condition_holds, logic_flags, Goes, update, Rights, Guest, effect_of, guest_acts, at_next, results, Choice, choice_at}
use Rattle.reg_map.specs.Prelude.{location_range, AreInRange}
use Rattle.symbolic_tiles.proofs.Memory.{update_other}
use Rattle.symbolic_tiles.specs.Prelude.{DoesRow, IsTileOf, room_of, SymbolicOp, ops_of, AreWellFormed, record_ops, SymbolicState, execute_op, then_ops, execute_ops}
use Rattle.row_laws.proofs.Shapes.{Gives}
use Rattle.row_laws.proofs.Changes.{values_in}
use Rattle.symbolic_tiles.proofs.Done.{state_of, IsStateOf, LeadsTo, KeepsFields, ops_do_row}
use Rattle.symbolic_tiles.proofs.Signed.{field_byte, field_of_result}
use Rattle.symbolic_tiles.proofs.Written.{carried, recorded, field_of_number, row_results, same_update, fields_results}

pub goes_same : (x y : Guest) → Goes x ≡ Goes y → x ≡ y
goes_same x y e = cc

-- P holds of the state, and there is one
abbrev pub Then : (SymbolicState → Type 0) → Option SymbolicState → Type 0
Then P None = ⊥
Then P (Some s) = P s

pub both_ops : (xs bs : List SymbolicOp) → AreWellFormed xs → AreWellFormed bs → AreWellFormed (xs ++ bs)
both_ops [] bs h k = k
both_ops (l ∷ xs) bs h k = (h.0, both_ops xs bs h.1 k)

-- ops behind ops
pub ops_then : (guest host : Rights) (P Q : SymbolicState → Type 0) (xs bs : List SymbolicOp) (choices : List Choice) (s : SymbolicState) → Then P (execute_ops guest host xs choices s) → ((choices : List Choice) (t : SymbolicState) → P t → Then Q (execute_ops guest host bs choices t)) → Then Q (execute_ops guest host (xs ++ bs) choices s)
ops_then guest host P Q [] bs choices s h k = k choices s h
ops_then guest host P Q (l ∷ xs) bs choices s h k = by_line (λ t g. ops_then guest host P Q xs bs (drop 1 choices) t g k) (execute_op guest host l (choice_at choices 0) s) h
  where
    by_line : ((t : SymbolicState) → Then P (execute_ops guest host xs (drop 1 choices) t) → Then Q (execute_ops guest host (xs ++ bs) (drop 1 choices) t)) → (o : Option SymbolicState) → Then P (then_ops (execute_ops guest host xs (drop 1 choices)) o) → Then Q (then_ops (execute_ops guest host (xs ++ bs) (drop 1 choices)) o)
    by_line rest None h = absurd h
    by_line rest (Some t) h = rest t h

-- the number is in eax and in its register, and the carry in CA
abbrev pub HasResult : Bool → ℕ → ℕ → Bool → Guest → SymbolicState → Type 0
HasResult carries k n c g s = (s.regs 0 ≡ n) × ((x : ℕ) → s.locs x ≡ carried carries c (update g.locs k n) x) × (s.bytes ≡ g.bytes)

-- a result and a carry that are others'
pub put_both : (l : ℕ → ℕ) (k : ℕ) {n n' : ℕ} {c c' : Bool} → n' ≡ n → c' ≡ c → (x : ℕ) → update (update l k n') 42 (one_if c') x ≡ update (update l k n) 42 (one_if c) x
put_both l k p q x = cc

-- a result that is another's, without CA
pub plain : (l b : ℕ → ℕ) (k : ℕ) {n n' : ℕ} → n' ≡ n → n' < 2 ^ 32 → (n < 2 ^ 32) × ((n' ≡ n) × ((x : ℕ) → update l k n' x ≡ update l k n x) × (b ≡ b))
plain l b k {n} {n'} e h = (subst (λ z. z < 2 ^ 32) e h, (e, λ x. ap (λ z. update l k z x) e, refl))

-- the same where the tile puts CA before the result
pub put_last : (l : ℕ → ℕ) (k : ℕ) {n n' : ℕ} {c c' : Bool} → k < 34 → n' ≡ n → c' ≡ c → (x : ℕ) → update (update l 42 (one_if c')) k n' x ≡ update (update l k n) 42 (one_if c) x
put_last l k {n} {n'} {c} {c'} h p q x = turned ∙ put_both l k p q x
  where
    turned : update (update l 42 (one_if c')) k n' x ≡ update (update l k n') 42 (one_if c') x
    turned = grind (arith, nat_tests)

record_are_ops : (records : Bool) → AreWellFormed (record_ops records)
record_are_ops true = ((tt, tt), ((tt, omega arith), ((tt, omega arith), ((tt, tt), ((tt, omega arith), ((tt, tt), ((tt, (omega arith, omega arith)), ((tt, tt), (((omega arith, omega arith), tt), tt)))))))))
record_are_ops false = tt

with_record : (ops : List SymbolicOp) (records : Bool) → room_of ops ≤ 534 → room_of (ops ++ record_ops records) ≤ 595
with_record ops true h = let e = room_append ops (record_ops true) in omega (arith, e, h)
with_record ops false h = let e = room_append ops (record_ops false) in omega (arith, e, h)

module _ (i : Instr) (k : ℕ) (carries records : Bool) (number : Guest → ℕ) (carry : Guest → Bool) (lk : k < 32) where
  abbrev pub IsRow : Type 0
  IsRow = (guest : Rights) (g : Guest) → guest_acts guest i (effect_of i g) g ≡ Goes (at_next (results carries records k (number g) (effect_of i g) g.locs) g)

  abbrev pub RowGives : Type 0
  RowGives = (g : Guest) → Gives carries records (number g) (carry g) (effect_of i g) (values_in i g)

  abbrev pub OpsGive : List SymbolicOp → Type 0
  OpsGive ops = (guest host : Rights) (g : Guest) (regs : ℕ → ℕ) (flags : Flags) (choices : List Choice) → AreInRange g → ((r : ℕ) → regs r < 2 ^ 32) → (number g < 2 ^ 32) × Then (HasResult carries k (number g) (carry g) g) (execute_ops guest host ops choices (state_of g regs flags))

  keeps_fields : IsRow → KeepsFields i
  keeps_fields row guest g g' range leads =
      let e = goes_same (at_next (results carries records k (number g) (effect_of i g) g.locs) g) g' (sym (row guest g) ∙ leads) in
      subst (λ h. (x : ℕ) → 34 ≤ x → x < 46 → h.locs x < location_range x) e (fields_results carries records k (number g) (effect_of i g) g.locs (omega arith) (λ x lx ux. range x ux))

  -- the carry stands behind SO
  so_kept : (g : Guest) (n : ℕ) (c : Bool) → carried carries c (update g.locs k n) 43 ≡ g.locs 43
  so_kept g n c = by_form carries (update_other g.locs k n 43 (λ q. omega arith))
    where
      by_form : (carries : Bool) → update g.locs k n 43 ≡ g.locs 43 → carried carries c (update g.locs k n) 43 ≡ g.locs 43
      by_form true e = e
      by_form false e = e

  records_it : (guest host : Rights) (g g' : Guest) (records : Bool) → AreInRange g → (number g < 2 ^ 32) → ((x : ℕ) → recorded records (number g) (g.locs 43) (carried carries (carry g) (update g.locs k (number g))) x ≡ g'.locs x) → g.bytes ≡ g'.bytes →
      (choices : List Choice) (s : SymbolicState) → HasResult carries k (number g) (carry g) g s → LeadsTo guest g' (execute_ops guest host (record_ops records) choices s)
  records_it guest host g g' false range small same bytes choices s h = (λ x lx. h.1 x ∙ same x, λ a held. ap (λ f. f a) (h.2 ∙ bytes))
  records_it guest host g g' true range small same bytes choices s h =
      let so_same : s.locs 43 ≡ g.locs 43 = h.1 43 ∙ so_kept g (number g) (carry g) in
      let so_small : g.locs 43 < 2 = range 43 (omega arith) in
      let byte = ap (λ n. field_byte (condition_holds Less (logic_flags (bit_and (s.regs 0) (s.regs 0)))) (eqb (bit_and (s.regs 0) (s.regs 0)) 0) n) so_same ∙ field_of_result (number g) (s.regs 0) (g.locs 43) h.0 small so_small in
      (λ x lx. ap (λ v. update s.locs 34 v x) byte ∙ same_update s.locs (carried carries (carry g) (update g.locs k (number g))) 34 (field_of_number (number g) (g.locs 43)) x (h.1 x) ∙ same x, λ a held. ap (λ f. f a) (h.2 ∙ bytes))

  does_it : (ops : List SymbolicOp) → IsLegal i → AreWellFormed ops → IsRow → RowGives → OpsGive ops → DoesRow i (ops_of (ops ++ record_ops records))
  does_it ops legal are row gives run =
      ops_do_row i (ops ++ record_ops records) legal (both_ops ops (record_ops records) are (record_are_ops records)) (keeps_fields row)
      (λ guest host g g' regs flags choices given words leads.
      let e = goes_same (at_next (results carries records k (number g) (effect_of i g) g.locs) g) g' (sym (row guest g) ∙ leads) in
      let r = run guest host g regs flags choices given.in_range words in
      ops_then guest host (HasResult carries k (number g) (carry g) g) (IsStateOf guest g') ops (record_ops records) choices (state_of g regs flags) r.1
      (records_it guest host g g' records given.in_range r.0
      (λ x. sym (row_results carries records k (number g) (carry g) (effect_of i g) (values_in i g) g.locs (omega arith) given.in_range (record { cr = refl; xer = refl }) (gives g) x) ∙ ap (λ h. h.locs x) e)
      (ap (λ h. h.bytes) e)))

  pub results_do : (ops : List SymbolicOp) → IsLegal i → AreWellFormed ops → room_of ops ≤ 534 → IsRow → RowGives → OpsGive ops → IsTileOf i (ops ++ record_ops records)
  results_do ops legal are short row gives run = record {
    well_formed = both_ops ops (record_ops records) are (record_are_ops records);
    short = with_record ops records short;
    does = does_it ops legal are row gives run;
  }
