-- The ops of ops and items are in the profile, over each home page and under each map.
use Rattle.std.proofs.Common.{◌≡◌, ℕ, zero, suc, ◌+◌, ◌^◌, ◌<◌, ◌≤◌, Bool, true, false, List, [], ◌∷◌, Option, Some, None, if◌then◌else◌, All, refl, subst, arith}
use Rattle.machines.specs.Prelude.{Map, IsMap, AluOp, MovToImm, MovzxByte, MovzxHalf, MovsxByte, MovsxHalf, Operand, Reg, Abs, Base, Pair, IsReg, IsOperand, IsInProfile}
use Rattle.reg_map.specs.Prelude.{home, slot_of, place, place_in, holds, mov_from, alu_from, operand_at, op_at, IsPlaceable}
use Rattle.symbolic_tiles.specs.Prelude.{SymbolicOperand, Temporary, Location, Byte, Half, Word, SymbolicOp, Mov, MovImmediate, Put, PutImmediate, Alu, AluImmediate, Test, TestImmediate, Invert, Negate, Multiply, MultiplyWide, Divide, ShiftBy, ShiftCl, Widen, SwapBytes, MoveIf, Scan, Signs, FetchByte, PutByte, SetByte, Load, Store, operand_of, op_of, AreWellFormed, ops_of, IsTemporary, IsSymbolicOperand, IsByte, IsWellFormed, AreItems, TileItem, Do, JumpIf, Label, LoadEbx, BranchTo, BranchIndirect, Interrupt, Trap, Undefined, flows_of, AreLaid}
use Rattle.symbolic_tiles.proofs.Places.{slot_gpr, home_within}
use Rattle.symbolic_tiles.proofs.Shows.{is_temporary, byte_size}

temporary_reg : (r : ℕ) → IsTemporary r → IsReg r
temporary_reg r t = let l = is_temporary r t in (omega arith, (λ e. omega arith), λ e. omega arith)

module _ (m : Map) (is_map : IsMap m) (area : ℕ) (low : area + 4096 ≤ 2 ^ 32) where
  -- a slot's register
  slot_reg : (x r : ℕ) → slot_of m x ≡ Some r → IsReg r
  slot_reg x r = by_tests (holds m.ebx x) (holds m.esi x) (holds m.edi x)
    where
      at : (k : ℕ) → IsReg k → Some k ≡ Some r → IsReg r
      at k h e = let q : k ≡ r = cc in subst IsReg q h

      by_tests : (a b c : Bool) → (if a then Some 3 else if b then Some 6 else if c then Some 7 else None) ≡ Some r → IsReg r
      by_tests true b c e = at 3 (omega arith, (λ q. omega arith), λ q. omega arith) e
      by_tests false true c e = at 6 (omega arith, (λ q. omega arith), λ q. omega arith) e
      by_tests false false true e = at 7 (omega arith, (λ q. omega arith), λ q. omega arith) e
      by_tests false false false e = absurd cc

  place_operand : (x : ℕ) → x < 34 → IsOperand (operand_at area (place m x))
  place_operand x lx = by_slot (slot_of m x) refl
    where
      by_slot : (o : Option ℕ) → slot_of m x ≡ o → IsOperand (operand_at area (place_in o x))
      by_slot (Some r) e = slot_reg x r e
      by_slot None e = omega arith

  operand_in : (source : SymbolicOperand) → IsSymbolicOperand source → IsOperand (operand_at area (operand_of m source))
  operand_in (Temporary r) h = temporary_reg r h
  operand_in (Location x) h = place_operand x h

  mov_in : (r : ℕ) (o : Operand) → IsReg r → IsOperand (operand_at area o) → IsInProfile (op_at area (mov_from r o))
  mov_in r (Reg q) h k = (h, k)
  mov_in r (Abs d) h k = (h, k)
  mov_in r (Base b d) h k = (h, k)
  mov_in r (Pair b x t d) h k = (h, k)

  alu_in : (op : AluOp) (r : ℕ) (o : Operand) → IsReg r → IsOperand (operand_at area o) → IsInProfile (op_at area (alu_from op r o))
  alu_in op r (Reg q) h k = (h, k)
  alu_in op r (Abs d) h k = (h, k)
  alu_in op r (Base b d) h k = (h, k)
  alu_in op r (Pair b x t d) h k = (h, k)

  home_low : (x : ℕ) → IsByte x → area + home x < 2 ^ 32
  home_low x h = let z = byte_size x h.0 in let w = home_within x 0 h.1 (omega (arith, z)) in omega (arith, w, low)

  op_in : (l : SymbolicOp) → IsWellFormed l → IsInProfile (op_at area (op_of m l))
  op_in (Mov r source) h = mov_in r (operand_of m source) (temporary_reg r h.0) (operand_in source h.1)
  op_in (MovImmediate r v) h = (temporary_reg r h.0, h.1)
  op_in (Put x r) h = (place_operand x h.0, temporary_reg r h.1)
  op_in (PutImmediate x v) h = by_slot (slot_of m x) refl
    where
      by_slot : (o : Option ℕ) → slot_of m x ≡ o → IsInProfile (op_at area (MovToImm (place_in o x) v))
      by_slot (Some r) e = absurd (let g = slot_gpr m x r is_map e in omega (arith, g, h.0))
      by_slot None e = (omega (arith, h.1), h.2)
  op_in (Alu op r source) h = alu_in op r (operand_of m source) (temporary_reg r h.0) (operand_in source h.1)
  op_in (AluImmediate op r v) h = (temporary_reg r h.0, h.1)
  op_in (Test r q) h = (temporary_reg r h.0, temporary_reg q h.1)
  op_in (TestImmediate r v) h = (temporary_reg r h.0, h.1)
  op_in (Invert r) h = temporary_reg r h
  op_in (Negate r) h = temporary_reg r h
  op_in (Multiply r source) h = (temporary_reg r h.0, operand_in source h.1)
  op_in (MultiplyWide true source) h = operand_in source h
  op_in (MultiplyWide false source) h = operand_in source h
  op_in (Divide true r) h = temporary_reg r h
  op_in (Divide false r) h = temporary_reg r h
  op_in (ShiftBy op r n) h = (temporary_reg r h.0, h.1)
  op_in (ShiftCl op r) h = temporary_reg r h
  op_in (Widen MovzxByte r q) h = (temporary_reg r h.0, is_temporary q h.1)
  op_in (Widen MovsxByte r q) h = (temporary_reg r h.0, is_temporary q h.1)
  op_in (Widen MovzxHalf r q) h = (temporary_reg r h.0, temporary_reg q h.1)
  op_in (Widen MovsxHalf r q) h = (temporary_reg r h.0, temporary_reg q h.1)
  op_in (SwapBytes r) h = temporary_reg r h
  op_in (MoveIf condition r q) h = (temporary_reg r h.0, temporary_reg q h.1)
  op_in (Scan r source) h = (temporary_reg r h.0, operand_in source h.1)
  op_in Signs h = tt
  op_in (FetchByte r x) h = (temporary_reg r h.0, home_low x h.1)
  op_in (PutByte x r) h = (home_low x h.0, is_temporary r h.1)
  op_in (SetByte condition x) h = home_low x h
  op_in (Load Byte r b d) h = (temporary_reg r h.0, (temporary_reg b h.1, h.2))
  op_in (Load Half r b d) h = (temporary_reg r h.0, (temporary_reg b h.1, h.2))
  op_in (Load Word r b d) h = (temporary_reg r h.0, (temporary_reg b h.1, h.2))
  op_in (Store Byte b d r) h = ((temporary_reg b h.0, h.2), is_temporary r h.1)
  op_in (Store Half b d r) h = ((temporary_reg b h.0, h.2), temporary_reg r h.1)
  op_in (Store Word b d r) h = ((temporary_reg b h.0, h.2), temporary_reg r h.1)

-- each op of a line, under every map
pub symbolic_placeable : (m : Map) → IsMap m → (l : SymbolicOp) → IsWellFormed l → IsPlaceable (op_of m l)
symbolic_placeable m is_map l h area low = op_in m is_map area low l h

-- each op of a tile
pub ops_placeable : (m : Map) → IsMap m → (ops : List SymbolicOp) → AreWellFormed ops → All IsPlaceable (ops_of ops m)
ops_placeable m is_map [] h k d lt = absurd (omega arith)
ops_placeable m is_map (l ∷ ops) h zero d lt = symbolic_placeable m is_map l h.0
ops_placeable m is_map (l ∷ ops) h (suc k) d lt = ops_placeable m is_map ops h.1 k d (omega arith)

-- each item of a flow word's tile
pub items_laid : (m : Map) → IsMap m → (items : List TileItem) → AreItems m items → AreLaid (flows_of items m)
items_laid m is_map [] h = tt
items_laid m is_map (Do l ∷ items) h = (symbolic_placeable m is_map l h.0, items_laid m is_map items h.1)
items_laid m is_map (JumpIf c mark ∷ items) h = (tt, items_laid m is_map items h)
items_laid m is_map (Label mark ∷ items) h = (tt, items_laid m is_map items h)
items_laid m is_map (LoadEbx x ∷ items) h = ((λ area low. mov_in m is_map area low 3 (place m x) (omega arith, (λ e. omega arith), λ e. omega arith) (place_operand m is_map area low x h.1)), items_laid m is_map items h.2)
items_laid m is_map (BranchTo target ∷ items) h = (tt, items_laid m is_map items h)
items_laid m is_map (BranchIndirect ∷ items) h = (tt, items_laid m is_map items h)
items_laid m is_map (Interrupt ∷ items) h = ((λ area low. tt), items_laid m is_map items h.1)
items_laid m is_map (Trap ∷ items) h = ((λ area low. tt), items_laid m is_map items h)
items_laid m is_map (Undefined ∷ items) h = ((λ area low. tt), items_laid m is_map items h)
