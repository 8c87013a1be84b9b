-- Tiles of compares.
use Rattle.std.proofs.Common.{◌≡◌, ℕ, ◌+◌, ◌^◌, ◌<◌, ◌≤◌, Bool, true, false, eqb, List, ◌++◌, refl, sym, ap, ◌∙◌, subst, arith}
use Rattle.machines.specs.Prelude.{is_less, sign_extended, Instr, CompareImmediate, Compare, Cmpi, Cmpli, Cmp, Cmpl, IsLegal, with_field, Condition, Below, Less, Flags, difference_flags, condition_holds, Goes, update, Rights, Guest, effect_of, guest_acts, at_next, put_cr, cr_word, Choice}
use Rattle.ppc_isa.specs.Recording.{so}
use Rattle.reg_map.specs.Prelude.{location_range, AreInRange}
use Rattle.symbolic_tiles.specs.Prelude.{IsTileOf, room_of, AreWellFormed, field_ops, execute_ops}
use Rattle.symbolic_tiles.specs.declared.symbolic_op.SymbolicOp.{SymbolicOp}
use Rattle.base_alu.specs.Compares.{cmpi_ops, cmpli_ops, cmp_ops}
use Rattle.row_laws.proofs.Fields.{four_bits}
use Rattle.row_laws.proofs.Changes.{values_in}
use Rattle.symbolic_tiles.proofs.Done.{state_of, IsStateOf}
use Rattle.symbolic_tiles.proofs.TileOf.{ops_are_tile}
use Rattle.symbolic_tiles.proofs.Signed.{field_byte, zero_test, less_by_flags, below_by_flags, field_of_compare}
use Rattle.symbolic_tiles.proofs.Written.{field_put, so_is, same_update, fields_put_cr}
use Rattle.symbolic_tiles.proofs.Results.{goes_same, Then, both_ops, ops_then}
use Rattle.symbolic_tiles.proofs.Registers.{word, gpr, extended_word, HasFlags}

-- the condition that tells less
abbrev pub less_condition : Bool → Condition
less_condition true = Less
less_condition false = Below

less_told : (s : Bool) (x y : ℕ) → x < 2 ^ 32 → y < 2 ^ 32 → condition_holds (less_condition s) (difference_flags x y false) ≡ is_less x y s
less_told true x y hx hy = less_by_flags x y hx hy
less_told false x y hx hy = below_by_flags x y

pub field_are_ops : (f : ℕ) (c : Condition) → f < 8 → AreWellFormed (field_ops f c)
field_are_ops f c h = ((tt, omega arith), ((tt, omega arith), ((tt, tt), ((tt, omega arith), ((tt, tt), ((tt, (omega arith, omega arith)), ((tt, tt), (((omega arith, omega arith), tt), tt))))))))

module _ (i : Instr) (f : ℕ) (s : Bool) (x y : Guest → ℕ) (lf : f < 8) where
  abbrev pub compares : Guest → Guest
  compares g = at_next (put_cr (with_field (cr_word g.locs) f (is_less (x g) (y g) s) (is_less (y g) (x g) s) (eqb (x g) (y g)) (so (values_in i g))) g.locs) g

  pub compare_does : (ops : List SymbolicOp) → IsLegal i → AreWellFormed ops → room_of (ops ++ field_ops f (less_condition s)) ≤ 595 → ((guest : Rights) (g : Guest) → guest_acts guest i (effect_of i g) g ≡ Goes (compares g)) →
      ((guest host : Rights) (g : Guest) (regs : ℕ → ℕ) (flags : Flags) (choices : List Choice) → AreInRange g → (x g < 2 ^ 32) × (y g < 2 ^ 32) × Then (HasFlags (x g) (y g) g) (execute_ops guest host ops choices (state_of g regs flags))) →
      IsTileOf i (ops ++ field_ops f (less_condition s))
  compare_does ops legal are short row run =
      ops_are_tile i (ops ++ field_ops f (less_condition s)) legal (both_ops ops (field_ops f (less_condition s)) are (field_are_ops f (less_condition s) lf)) short
      (λ guest g g' range leads. subst (λ h. (z : ℕ) → 34 ≤ z → z < 46 → h.locs z < location_range z) (goes_same (compares g) g' (sym (row guest g) ∙ leads)) (fields_put_cr _ g.locs (λ z lz uz. range z uz)))
      (λ guest host g g' regs flags choices given words leads.
      let e = goes_same (compares g) g' (sym (row guest g) ∙ leads) in
      let r = run guest host g regs flags choices given.in_range in
      ops_then guest host (HasFlags (x g) (y g) g) (IsStateOf guest g') ops (field_ops f (less_condition s)) choices (state_of g regs flags) r.2
      (λ choices t h.
      let so_small : g.locs 43 < 2 = given.in_range 43 (omega arith) in
      let byte = ap (λ (k : Flags). field_byte (condition_holds (less_condition s) k) k.zf (t.locs 43)) h.0 ∙ ap (λ (l : ℕ → ℕ). field_byte (condition_holds (less_condition s) (difference_flags (x g) (y g) false)) (difference_flags (x g) (y g) false).zf (l 43)) h.1
      ∙ field_of_compare (x g) (y g) (g.locs 43) s _ _ r.0 r.1 so_small (less_told s (x g) (y g) r.0 r.1) (zero_test (x g) (y g) r.0 r.1) in (
        λ z lz. ap (λ v. update t.locs (34 + f) v z) byte ∙ same_update t.locs g.locs (34 + f) (four_bits (is_less (x g) (y g) s) (is_less (y g) (x g) s) (eqb (x g) (y g)) (eqb (g.locs 43) 1)) z (ap (λ (l : ℕ → ℕ). l z) h.1)
            ∙ sym (ap (λ b. put_cr (with_field (cr_word g.locs) f (is_less (x g) (y g) s) (is_less (y g) (x g) s) (eqb (x g) (y g)) b) g.locs z) (so_is (values_in i g) g.locs given.in_range (record { cr = refl; xer = refl }))
            ∙ field_put f (is_less (x g) (y g) s) (is_less (y g) (x g) s) (eqb (x g) (y g)) (eqb (g.locs 43) 1) g.locs g.locs lf given.in_range (λ q lq uq. refl) z)
            ∙ ap (λ k. k.locs z) e,
        λ a held. ap (λ k. k a) (h.2 ∙ ap (λ k. k.bytes) e),
      )))

pub cmpi_does : (f a imm : ℕ) → IsLegal (CompareImmediate Cmpi f a imm) → IsTileOf (CompareImmediate Cmpi f a imm) (cmpi_ops a imm ++ field_ops f Less)
cmpi_does f a imm legal =
    compare_does (CompareImmediate Cmpi f a imm) f true (λ g. g.locs a) (λ g. sign_extended 16 imm) legal.fit.1.0 (cmpi_ops a imm) legal
    ((tt, word a la), ((tt, lv), tt)) (omega arith) (λ guest g. refl)
    (λ guest host g regs flags choices range. (gpr g a range la, lv, (refl, refl, refl)))
  where
    la : a < 32
    la = legal.fit.1.1.1.0

    lv : sign_extended 16 imm < 2 ^ 32
    lv = extended_word imm legal.fit.1.1.1.1.0

pub cmpli_does : (f a imm : ℕ) → IsLegal (CompareImmediate Cmpli f a imm) → IsTileOf (CompareImmediate Cmpli f a imm) (cmpli_ops a imm ++ field_ops f Below)
cmpli_does f a imm legal =
    compare_does (CompareImmediate Cmpli f a imm) f false (λ g. g.locs a) (λ g. imm) legal.fit.1.0 (cmpli_ops a imm) legal
    ((tt, word a la), ((tt, lv), tt)) (omega arith) (λ guest g. refl)
    (λ guest host g regs flags choices range. (gpr g a range la, lv, (refl, refl, refl)))
  where
    la : a < 32
    la = legal.fit.1.1.1.0

    lv : imm < 2 ^ 32
    lv = let h : imm < 2 ^ 16 = legal.fit.1.1.1.1.0 in omega arith

pub cmp_does : (f a b : ℕ) → IsLegal (Compare Cmp f a b) → IsTileOf (Compare Cmp f a b) (cmp_ops a b ++ field_ops f Less)
cmp_does f a b legal =
    compare_does (Compare Cmp f a b) f true (λ g. g.locs a) (λ g. g.locs b) legal.fit.1.0 (cmp_ops a b) legal
    ((tt, word a la), ((tt, word b lb), tt)) (omega arith) (λ guest g. refl)
    (λ guest host g regs flags choices range. (gpr g a range la, gpr g b range lb, (refl, refl, refl)))
  where
    la : a < 32
    la = legal.fit.1.1.1.0

    lb : b < 32
    lb = legal.fit.1.1.1.1.0

pub cmpl_does : (f a b : ℕ) → IsLegal (Compare Cmpl f a b) → IsTileOf (Compare Cmpl f a b) (cmp_ops a b ++ field_ops f Below)
cmpl_does f a b legal =
    compare_does (Compare Cmpl f a b) f false (λ g. g.locs a) (λ g. g.locs b) legal.fit.1.0 (cmp_ops a b) legal
    ((tt, word a la), ((tt, word b lb), tt)) (omega arith) (λ guest g. refl)
    (λ guest host g regs flags choices range. (gpr g a range la, gpr g b range lb, (refl, refl, refl)))
  where
    la : a < 32
    la = legal.fit.1.1.1.0

    lb : b < 32
    lb = legal.fit.1.1.1.1.0
