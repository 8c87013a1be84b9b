-- Tiles of arithmetic and logic with an immediate.
use Rattle.std.proofs.Common.{◌≡◌, ℕ, ◌*◌, ◌^◌, ◌<◌, Bool, true, false, eqb, [], ◌++◌, refl, sym, arith, ◌≤◌}
use Rattle.std.specs.Int.Bits.{and_lt}
use Rattle.std.proofs.lemmas.Nat.{or_lt, xor_lt}
use Rattle.machines.specs.Prelude.{complement, sign_extended, Immediate, LogicImmediate, ImmediateOp, Addi, Addis, Addic, AddicRecord, Subfic, Mulli, LogicImmediateOp, Ori, Oris, Xori, Xoris, Andi, Andis, IsLegal, immediate_records, logic_immediate_records, logic_immediate, logic_word}
use Rattle.word_kit.proofs.BitSums.{word_and-is, word_or-is, word_xor-is}
use Rattle.symbolic_tiles.specs.Prelude.{IsTileOf, room_of, AreWellFormed, record_ops}
use Rattle.base_alu.proofs.Families.{immediate_do, logic_immediate_do}
use Rattle.base_alu.specs.Immediates.{base_ops, immediate_ops, logic_immediate_ops}
use Rattle.symbolic_tiles.proofs.Rooms.{product_word}
use Rattle.symbolic_tiles.proofs.Results.{plain, put_both, OpsGive}
use Rattle.symbolic_tiles.proofs.Registers.{word, gpr}
use Rattle.base_alu.proofs.Sums.{sub_word, sub_carry, sum_small}
use Rattle.symbolic_tiles.proofs.Registers.{extended_word}

base_are : (z : Bool) (d a v : ℕ) → d < 32 → a < 32 → v < 2 ^ 32 → AreWellFormed (base_ops z d a v)
base_are true d a v ld la lv = ((tt, lv), ((word d ld, tt), tt))
base_are false d a v ld la lv = ((tt, word a la), ((tt, lv), ((word d ld, tt), tt)))

base_few : (z : Bool) (d a v : ℕ) → room_of (base_ops z d a v) ≤ 534
base_few true d a v = omega arith
base_few false d a v = omega arith

high_half : (imm : ℕ) → imm < 2 ^ 16 → 65536 * imm < 2 ^ 32
high_half imm h = omega arith

pub immediate_does : (op : ImmediateOp) (d a imm : ℕ) → IsLegal (Immediate op d a imm) → IsTileOf (Immediate op d a imm) (immediate_ops op d a imm ++ record_ops (immediate_records op))
immediate_does Addi d a imm legal = by_base (eqb a 0) refl
  where
    by_base : (z : Bool) → eqb a 0 ≡ z → IsTileOf (Immediate Addi d a imm) (base_ops (eqb a 0) d a (sign_extended 16 imm) ++ [])
    by_base true e = immediate_do Addi d a imm legal (base_ops (eqb a 0) d a (sign_extended 16 imm)) (base_are (eqb a 0) d a (sign_extended 16 imm) (legal.fit.1.0) (legal.fit.1.1.0) (extended_word imm (legal.fit.1.1.1.0))) (base_few (eqb a 0) d a (sign_extended 16 imm))
        (λ guest host g regs flags choices range words. let v = extended_word imm (legal.fit.1.1.1.0) in rw e (plain g.locs g.bytes d (omega (arith, v)) v))
    by_base false e = immediate_do Addi d a imm legal (base_ops (eqb a 0) d a (sign_extended 16 imm)) (base_are (eqb a 0) d a (sign_extended 16 imm) (legal.fit.1.0) (legal.fit.1.1.0) (extended_word imm (legal.fit.1.1.1.0))) (base_few (eqb a 0) d a (sign_extended 16 imm))
        (λ guest host g regs flags choices range words. rw e (plain g.locs g.bytes d (omega arith) (omega arith)))
immediate_does Addis d a imm legal = by_base (eqb a 0) refl
  where
    by_base : (z : Bool) → eqb a 0 ≡ z → IsTileOf (Immediate Addis d a imm) (base_ops (eqb a 0) d a (65536 * imm) ++ [])
    by_base true e = immediate_do Addis d a imm legal (base_ops (eqb a 0) d a (65536 * imm)) (base_are (eqb a 0) d a (65536 * imm) (legal.fit.1.0) (legal.fit.1.1.0) (high_half imm (legal.fit.1.1.1.0))) (base_few (eqb a 0) d a (65536 * imm))
        (λ guest host g regs flags choices range words. let v = high_half imm (legal.fit.1.1.1.0) in rw e (plain g.locs g.bytes d (omega (arith, v)) v))
    by_base false e = immediate_do Addis d a imm legal (base_ops (eqb a 0) d a (65536 * imm)) (base_are (eqb a 0) d a (65536 * imm) (legal.fit.1.0) (legal.fit.1.1.0) (high_half imm (legal.fit.1.1.1.0))) (base_few (eqb a 0) d a (65536 * imm))
        (λ guest host g regs flags choices range words. rw e (plain g.locs g.bytes d (omega arith) (omega arith)))
immediate_does Addic d a imm legal = immediate_do Addic d a imm legal (immediate_ops Addic d a imm) ((tt, word a (legal.fit.1.1.0)), ((tt, extended_word imm (legal.fit.1.1.1.0)), ((word d (legal.fit.1.0), tt), ((omega arith, omega arith), tt)))) (omega arith)
    (λ guest host g regs flags choices range words. (omega arith, (refl, (λ x. refl), refl)))
immediate_does AddicRecord d a imm legal = immediate_do AddicRecord d a imm legal (immediate_ops AddicRecord d a imm) ((tt, word a (legal.fit.1.1.0)), ((tt, extended_word imm (legal.fit.1.1.1.0)), ((word d (legal.fit.1.0), tt), ((omega arith, omega arith), tt)))) (omega arith)
    (λ guest host g regs flags choices range words. (omega arith, (refl, (λ x. refl), refl)))
immediate_does Subfic d a imm legal = immediate_do Subfic d a imm legal (immediate_ops Subfic d a imm) ((tt, extended_word imm (legal.fit.1.1.1.0)), ((tt, word a (legal.fit.1.1.0)), ((word d (legal.fit.1.0), tt), ((omega arith, omega arith), tt)))) (omega arith)
    (λ guest host g regs flags choices range words.
    let x = gpr g a range (legal.fit.1.1.0) in
    let w = sub_word (g.locs a) (sign_extended 16 imm) true x in
    (sum_small (complement (g.locs a)) (sign_extended 16 imm) true, (w, put_both g.locs d w (sub_carry (g.locs a) (sign_extended 16 imm) true x), refl)))
immediate_does Mulli d a imm legal = immediate_do Mulli d a imm legal (immediate_ops Mulli d a imm) ((tt, word a (legal.fit.1.1.0)), ((tt, extended_word imm (legal.fit.1.1.1.0)), ((tt, tt), ((word d (legal.fit.1.0), tt), tt)))) (omega arith)
    (λ guest host g regs flags choices range words. plain g.locs g.bytes d refl (product_word (g.locs a) (sign_extended 16 imm)))

logic_small : (op : LogicImmediateOp) (imm : ℕ) → imm < 2 ^ 16 → logic_word op imm < 2 ^ 32
logic_small Ori imm h = omega arith
logic_small Oris imm h = omega arith
logic_small Xori imm h = omega arith
logic_small Xoris imm h = omega arith
logic_small Andi imm h = omega arith
logic_small Andis imm h = omega arith

pub logic_immediate_does : (op : LogicImmediateOp) (s a imm : ℕ) → IsLegal (LogicImmediate op s a imm) → IsTileOf (LogicImmediate op s a imm) (logic_immediate_ops op s a imm ++ record_ops (logic_immediate_records op))
logic_immediate_does op s a imm legal = by_op op legal
  where
    does : (op : LogicImmediateOp) (legal : IsLegal (LogicImmediate op s a imm)) → OpsGive (LogicImmediate op s a imm) a false (logic_immediate_records op) (λ g. logic_immediate op (g.locs s) (logic_word op imm)) (λ g. false) (legal.fit.1.1.0) (logic_immediate_ops op s a imm) → IsTileOf (LogicImmediate op s a imm) (logic_immediate_ops op s a imm ++ record_ops (logic_immediate_records op))
    does op legal run = logic_immediate_do op s a imm legal (logic_immediate_ops op s a imm) ((tt, word s (legal.fit.1.0)), ((tt, logic_small op imm (legal.fit.1.1.1.0)), ((word a (legal.fit.1.1.0), tt), tt))) (omega arith) run

    by_op : (op : LogicImmediateOp) → IsLegal (LogicImmediate op s a imm) → IsTileOf (LogicImmediate op s a imm) (logic_immediate_ops op s a imm ++ record_ops (logic_immediate_records op))
    by_op Ori legal = does Ori legal (λ guest host g regs flags choices range words. let x = gpr g s range (legal.fit.1.0) in let v = logic_small Ori imm (legal.fit.1.1.1.0) in plain g.locs g.bytes a (sym (word_or-is (g.locs s) imm x v)) (or_lt 32 (g.locs s) imm x v))
    by_op Oris legal = does Oris legal (λ guest host g regs flags choices range words. let x = gpr g s range (legal.fit.1.0) in let v = logic_small Oris imm (legal.fit.1.1.1.0) in plain g.locs g.bytes a (sym (word_or-is (g.locs s) (65536 * imm) x v)) (or_lt 32 (g.locs s) (65536 * imm) x v))
    by_op Xori legal = does Xori legal (λ guest host g regs flags choices range words. let x = gpr g s range (legal.fit.1.0) in let v = logic_small Xori imm (legal.fit.1.1.1.0) in plain g.locs g.bytes a (sym (word_xor-is (g.locs s) imm x v)) (xor_lt 32 (g.locs s) imm x v))
    by_op Xoris legal = does Xoris legal (λ guest host g regs flags choices range words. let x = gpr g s range (legal.fit.1.0) in let v = logic_small Xoris imm (legal.fit.1.1.1.0) in plain g.locs g.bytes a (sym (word_xor-is (g.locs s) (65536 * imm) x v)) (xor_lt 32 (g.locs s) (65536 * imm) x v))
    by_op Andi legal = does Andi legal (λ guest host g regs flags choices range words. let x = gpr g s range (legal.fit.1.0) in let v = logic_small Andi imm (legal.fit.1.1.1.0) in plain g.locs g.bytes a (sym (word_and-is (g.locs s) imm x v)) (and_lt 32 (g.locs s) imm x v))
    by_op Andis legal = does Andis legal (λ guest host g regs flags choices range words. let x = gpr g s range (legal.fit.1.0) in let v = logic_small Andis imm (legal.fit.1.1.1.0) in plain g.locs g.bytes a (sym (word_and-is (g.locs s) (65536 * imm) x v)) (and_lt 32 (g.locs s) (65536 * imm) x v))
