-- Tiles of CR logic.
use Rattle.std.proofs.Common.{◌≡◌, ◌≢◌, ℕ, ◌+◌, ◌-◌, ◌*◌, ◌/◌, ◌%◌, ◌^◌, ◌<◌, ◌≤◌, ◌⊎◌, inl, inr, Bool, true, false, not, ◌&&◌, ◌||◌, eqb, List, ◌++◌, bit_and, bit_or, bit_xor, refl, sym, ap, ◌∙◌, subst, arith}
use Rattle.std.proofs.Math.Nat.{div-le_self}
use Rattle.machines.specs.Prelude.{one_if, same, complement, bit_of, with_bit, Instr, CrLogic, CrLogicOp, Crand, Cror, Crxor, Crnand, Crnor, Creqv, Crandc, Crorc, IsLegal, place, cr_bit, cr_logic, update, Rights, Guest, at_next, put_cr, cr_word, Choice}
use Rattle.reg_map.specs.Prelude.{location_range, AreInRange}
use Rattle.symbolic_tiles.specs.Prelude.{IsTileOf, room_of, IsTemporary, AreWellFormed, SymbolicState, execute_ops}
use Rattle.base_alu.specs.Conditions.{get_bit, cr_operation, set_bit, cr_ops}
use Rattle.symbolic_tiles.proofs.Memory.{update_same, update_other}
use Rattle.row_laws.proofs.Digits.{digit, bit_in_digit, with_bit_own}
use Rattle.row_laws.proofs.Fields.{field_of_word, put_cr_at}
use Rattle.row_laws.proofs.Kept.{bit_alone}
use Rattle.row_laws.proofs.Changes.{values_in}
use Rattle.symbolic_tiles.proofs.Done.{state_of, IsStateOf}
use Rattle.symbolic_tiles.proofs.TileOf.{ops_are_tile}
use Rattle.symbolic_tiles.proofs.Written.{fields_put_cr}
use Rattle.symbolic_tiles.proofs.Results.{goes_same, Then, both_ops, ops_then}
use Rattle.symbolic_tiles.proofs.Registers.{field_small}
use Rattle.symbolic_tiles.proofs.Small.{each_pair}

abbrev low : ℕ → Bool
low x = eqb (x % 2) 1

-- the lowest bit of each operation on numbers of four bits
operation_bit : (op : CrLogicOp) → ℕ → ℕ → ℕ
operation_bit Crand x y = bit_and (bit_and x y) 1
operation_bit Cror x y = bit_and (bit_or x y) 1
operation_bit Crxor x y = bit_and (bit_xor x y) 1
operation_bit Crnand x y = bit_and (complement (bit_and x y)) 1
operation_bit Crnor x y = bit_and (complement (bit_or x y)) 1
operation_bit Creqv x y = bit_and (complement (bit_xor x y)) 1
operation_bit Crandc x y = bit_and (bit_and x (complement y)) 1
operation_bit Crorc x y = bit_and (bit_or x (complement y)) 1

operation_is : (op : CrLogicOp) (x y : ℕ) → x < 16 → y < 16 → operation_bit op x y ≡ one_if (cr_logic op (low x) (low y))
unfolding operation_bit
operation_is Crand x y hx hy = each_pair (λ i j. bit_and (bit_and i j) 1) (λ i j. one_if (low i && low j)) 16 16 x y refl hx hy
operation_is Cror x y hx hy = each_pair (λ i j. bit_and (bit_or i j) 1) (λ i j. one_if (low i || low j)) 16 16 x y refl hx hy
operation_is Crxor x y hx hy = each_pair (λ i j. bit_and (bit_xor i j) 1) (λ i j. one_if (not (same (low i) (low j)))) 16 16 x y refl hx hy
operation_is Crnand x y hx hy = each_pair (λ i j. bit_and (complement (bit_and i j)) 1) (λ i j. one_if (not (low i && low j))) 16 16 x y refl hx hy
operation_is Crnor x y hx hy = each_pair (λ i j. bit_and (complement (bit_or i j)) 1) (λ i j. one_if (not (low i || low j))) 16 16 x y refl hx hy
operation_is Creqv x y hx hy = each_pair (λ i j. bit_and (complement (bit_xor i j)) 1) (λ i j. one_if (not (not (same (low i) (low j))))) 16 16 x y refl hx hy
operation_is Crandc x y hx hy = each_pair (λ i j. bit_and (bit_and i (complement j)) 1) (λ i j. one_if (low i && not (low j))) 16 16 x y refl hx hy
operation_is Crorc x y hx hy = each_pair (λ i j. bit_and (bit_or i (complement j)) 1) (λ i j. one_if (low i || not (low j))) 16 16 x y refl hx hy

-- a bit of a field is put
put_bit : (b : Bool) (f j : ℕ) → f < 16 → j < 4 → bit_or (one_if b * 2 ^ j % 2 ^ 32) (bit_and (f % 256) (15 - 2 ^ j)) % 256 ≡ with_bit f j b
put_bit true f j hf hj = each_pair (λ f j. bit_or (1 * 2 ^ j % 2 ^ 32) (bit_and (f % 256) (15 - 2 ^ j)) % 256) (λ f j. f - f / 2 ^ j % 2 * 2 ^ j + 1 * 2 ^ j) 16 4 f j refl hf hj
put_bit false f j hf hj = each_pair (λ f j. bit_or (0 * 2 ^ j % 2 ^ 32) (bit_and (f % 256) (15 - 2 ^ j)) % 256) (λ f j. f - f / 2 ^ j % 2 * 2 ^ j + 0 * 2 ^ j) 16 4 f j refl hf hj

-- the bit of CR, as the tile gets it
got : ℕ → ℕ → ℕ
got f n = f % 256 / 2 ^ ((3 - n % 4) % 32 % 32)

module _ (g : Guest) (range : AreInRange g) (n : ℕ) (ln : n < 32) where
  abbrev pub the_field : ℕ
  the_field = g.locs (34 + n / 4)

  got_small : got the_field n < 16
  unfolding got
  got_small = let d = div-le_self (the_field % 256) (2 ^ ((3 - n % 4) % 32 % 32)) in let s = field_small g n range ln in omega (arith, d, s)

  got_bit : low (got the_field n) ≡ bit_of (cr_word g.locs) (31 - n)
  unfolding got
  got_bit =
      let e : 31 - n ≡ 4 * (7 - n / 4) + (3 - n % 4) = omega arith in
      let s = field_small g n range ln in
      let j : (3 - n % 4) % 32 % 32 ≡ 3 - n % 4 = omega arith in
      let f : the_field % 256 ≡ the_field = omega (arith, s) in
      ap (λ k. eqb (the_field % 256 / 2 ^ k % 2) 1) j ∙ ap (λ k. eqb (k / 2 ^ (3 - n % 4) % 2) 1) f
      ∙ ap (λ k. eqb (k / 2 ^ (3 - n % 4) % 2) 1) (sym (field_of_word g.locs range (n / 4) (omega arith)))
      ∙ ap (λ k. eqb k 1) (sym (bit_in_digit (cr_word g.locs) (7 - n / 4) (3 - n % 4) (omega arith)))
      ∙ ap (λ k. bit_of (cr_word g.locs) k) (sym e)

abbrev HasBit : Bool → Guest → SymbolicState → Type 0
HasBit b g s = (bit_and (s.regs 0) 1 ≡ one_if b) × (s.locs ≡ g.locs) × (s.bytes ≡ g.bytes)

abbrev HasBoth : ℕ → ℕ → Guest → SymbolicState → Type 0
HasBoth x y g s = (s.regs 0 ≡ x) × (s.regs 1 ≡ y) × (s.locs ≡ g.locs) × (s.bytes ≡ g.bytes)

operation_does : (guest host : Rights) (op : CrLogicOp) (x y : ℕ) (g : Guest) (choices : List Choice) (s : SymbolicState) → x < 16 → y < 16 → HasBoth x y g s → Then (HasBit (cr_logic op (low x) (low y)) g) (execute_ops guest host (cr_operation op) choices s)
unfolding operation_bit
operation_does guest host Crand x y g choices s hx hy h = let p = h.0 in let q = h.1 in (rw (p, q) (operation_is Crand x y hx hy), h.2, h.3)
operation_does guest host Cror x y g choices s hx hy h = let p = h.0 in let q = h.1 in (rw (p, q) (operation_is Cror x y hx hy), h.2, h.3)
operation_does guest host Crxor x y g choices s hx hy h = let p = h.0 in let q = h.1 in (rw (p, q) (operation_is Crxor x y hx hy), h.2, h.3)
operation_does guest host Crnand x y g choices s hx hy h = let p = h.0 in let q = h.1 in (rw (p, q) (operation_is Crnand x y hx hy), h.2, h.3)
operation_does guest host Crnor x y g choices s hx hy h = let p = h.0 in let q = h.1 in (rw (p, q) (operation_is Crnor x y hx hy), h.2, h.3)
operation_does guest host Creqv x y g choices s hx hy h = let p = h.0 in let q = h.1 in (rw (p, q) (operation_is Creqv x y hx hy), h.2, h.3)
operation_does guest host Crandc x y g choices s hx hy h = let p = h.0 in let q = h.1 in (rw (p, q) (operation_is Crandc x y hx hy), h.2, h.3)
operation_does guest host Crorc x y g choices s hx hy h = let p = h.0 in let q = h.1 in (rw (p, q) (operation_is Crorc x y hx hy), h.2, h.3)

get_are : (r n : ℕ) → n < 32 → IsTemporary r → AreWellFormed (get_bit r n)
get_are r n h t = ((t, (omega arith, omega arith)), ((t, omega arith), tt))

operation_are : (op : CrLogicOp) → AreWellFormed (cr_operation op)
operation_are Crand = ((tt, tt), tt)
operation_are Cror = ((tt, tt), tt)
operation_are Crxor = ((tt, tt), tt)
operation_are Crnand = ((tt, tt), (tt, tt))
operation_are Crnor = ((tt, tt), (tt, tt))
operation_are Creqv = ((tt, tt), (tt, tt))
operation_are Crandc = (tt, ((tt, tt), tt))
operation_are Crorc = (tt, ((tt, tt), tt))

set_are : (d : ℕ) → d < 32 → AreWellFormed (set_bit d)
set_are d h = ((tt, omega arith), ((tt, omega arith), ((tt, (omega arith, omega arith)), ((tt, omega arith), ((tt, tt), (((omega arith, omega arith), tt), tt))))))

short : (op : CrLogicOp) (d a b : ℕ) → room_of (cr_ops op d a b) ≤ 595
short Crand d a b = omega arith
short _ d a b = omega arith

pub cr_logic_does : (op : CrLogicOp) (d a b : ℕ) → IsLegal (CrLogic op d a b) → IsTileOf (CrLogic op d a b) (cr_ops op d a b)
unfolding got
cr_logic_does op d a b legal =
    ops_are_tile i (cr_ops op d a b) legal (both_ops (get_bit 0 a ++ get_bit 1 b) (cr_operation op ++ set_bit d) (both_ops (get_bit 0 a) (get_bit 1 b) (get_are 0 a la tt) (get_are 1 b lb tt)) (both_ops (cr_operation op) (set_bit d) (operation_are op) (set_are d ld))) (short op d a b)
    (λ guest g g' range leads. subst (λ h. (z : ℕ) → 34 ≤ z → z < 46 → h.locs z < location_range z) (goes_same (after g) g' leads) (fields_put_cr _ g.locs (λ z lz uz. range z uz)))
    (λ guest host g g' regs flags choices given words leads.
    let e = goes_same (after g) g' leads in
    let range = given.in_range in
    let x = got (g.locs (34 + a / 4)) a in
    let y = got (g.locs (34 + b / 4)) b in
    let t = ap (λ k. cr_logic op k (low y)) (got_bit g range a la) ∙ ap (λ k. cr_logic op (cr_bit a (values_in i g)) k) (got_bit g range b lb) in
    ops_then guest host (HasBoth x y g) (IsStateOf guest g') (get_bit 0 a ++ get_bit 1 b) (cr_operation op ++ set_bit d) choices (state_of g regs flags) (refl, refl, refl, refl)
    (λ choices s h. ops_then guest host (HasBit (cr_logic op (low x) (low y)) g) (IsStateOf guest g') (cr_operation op) (set_bit d) choices s (operation_does guest host op x y g choices s (got_small g range a la) (got_small g range b lb) h)
    (λ choices s h. (λ z lz. put_at g range s (cr_logic op (low x) (low y)) z h.0 h.1 ∙ ap (λ k. put_cr (with_bit (cr_word g.locs) (place d) k) g.locs z) t ∙ ap (λ k. k.locs z) e, λ k held. ap (λ f. f k) h.2 ∙ ap (λ k'. k'.bytes k) e))))
  where
    i : Instr
    i = CrLogic op d a b

    ld : d < 32
    ld = legal.fit.1.0

    la : a < 32
    la = legal.fit.1.1.0

    lb : b < 32
    lb = legal.fit.1.1.1.0

    after : Guest → Guest
    after g = at_next (put_cr (with_bit (cr_word g.locs) (place d) (cr_logic op (cr_bit a (values_in (CrLogic op d a b) g)) (cr_bit b (values_in (CrLogic op d a b) g)))) g.locs) g

    put_at : (g : Guest) → AreInRange g → (s : SymbolicState) (bit : Bool) (z : ℕ) → bit_and (s.regs 0) 1 ≡ one_if bit → s.locs ≡ g.locs →
        update s.locs (34 + d / 4) (bit_or (bit_and (s.regs 0) 1 * 2 ^ ((3 - d % 4) % 32 % 32) % 2 ^ 32) (bit_and (s.locs (34 + d / 4) % 256) (15 - 2 ^ (3 - d % 4))) % 256) z ≡ put_cr (with_bit (cr_word g.locs) (place d) bit) g.locs z
    put_at g range s bit z p q =
        let j : (3 - d % 4) % 32 % 32 ≡ 3 - d % 4 = omega arith in
        let v = ap (λ k. bit_or (k * 2 ^ ((3 - d % 4) % 32 % 32) % 2 ^ 32) (bit_and (s.locs (34 + d / 4) % 256) (15 - 2 ^ (3 - d % 4))) % 256) p
        ∙ ap (λ k. bit_or (one_if bit * 2 ^ k % 2 ^ 32) (bit_and (s.locs (34 + d / 4) % 256) (15 - 2 ^ (3 - d % 4))) % 256) j
        ∙ ap (λ (l : ℕ → ℕ). bit_or (one_if bit * 2 ^ (3 - d % 4) % 2 ^ 32) (bit_and (l (34 + d / 4) % 256) (15 - 2 ^ (3 - d % 4))) % 256) q
        ∙ put_bit bit (g.locs (34 + d / 4)) (3 - d % 4) (field_small g d range ld) (omega arith) in
        ap (λ k. update s.locs (34 + d / 4) k z) v ∙ ap (λ (l : ℕ → ℕ). update l (34 + d / 4) (with_bit (g.locs (34 + d / 4)) (3 - d % 4) bit) z) q ∙ by_same (grind arith)
      where
        by_same : (z ≡ 34 + d / 4) ⊎ (z ≢ 34 + d / 4) → update g.locs (34 + d / 4) (with_bit (g.locs (34 + d / 4)) (3 - d % 4) bit) z ≡ put_cr (with_bit (cr_word g.locs) (place d) bit) g.locs z
        by_same (inl e) =
            let k : place d ≡ 4 * (7 - d / 4) + (3 - d % 4) = omega arith in
            ap (update g.locs (34 + d / 4) (with_bit (g.locs (34 + d / 4)) (3 - d % 4) bit)) e ∙ update_same g.locs (34 + d / 4) (with_bit (g.locs (34 + d / 4)) (3 - d % 4) bit)
            ∙ ap (λ n. with_bit n (3 - d % 4) bit) (sym (field_of_word g.locs range (d / 4) (omega arith))) ∙ sym (with_bit_own (cr_word g.locs) (7 - d / 4) (3 - d % 4) bit (omega arith))
            ∙ ap (λ n. digit (7 - d / 4) (with_bit (cr_word g.locs) n bit)) (sym k) ∙ sym (put_cr_at (with_bit (cr_word g.locs) (place d) bit) (d / 4) g.locs (omega arith)) ∙ sym (ap (put_cr (with_bit (cr_word g.locs) (place d) bit) g.locs) e)
        by_same (inr ne) = update_other g.locs (34 + d / 4) (with_bit (g.locs (34 + d / 4)) (3 - d % 4) bit) z ne ∙ sym (bit_alone d bit g.locs z ld range ne)
