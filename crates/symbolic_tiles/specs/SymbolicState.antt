-- What symbolic ops do (this project's own) to a state that has the temporaries, the locations, the flags and the guest's
-- memory. Each computes as the host's op does (Intel SDM volume 2, by `ia_codec`'s rows).
use Rattle.std.specs.Prelude.{ℕ, ◌+◌, ◌%◌, ◌^◌, Bool, true, false, cond, ◌&&◌, List, [], ◌∷◌, drop, Option, Some, None, bit_and}
use Rattle.machines.specs.Prelude.{complement, one_if, divide_faults, Extend, Neg, Reg, Flags, HostValues, HostEffect, host_row, alu_row, unary_row, shift_row, divide_row, imul_row, scan_row, sign_copies, swapped, condition_holds, logic_flags, update, load, store, each_byte, Rights, Choice, choice_at, chosen_word, chosen_flags, has_result}
use Rattle.symbolic_tiles.specs.SymbolicOps.{SymbolicOperand, Temporary, Location, AccessSize, Byte, Half, Word, SymbolicOp, Mov, MovImmediate, Put, PutImmediate, Alu, AluImmediate, Test, TestImmediate, Invert, Negate, Multiply, MultiplyWide, Divide, ShiftBy, ShiftCl, Widen, SwapBytes, MoveIf, Scan, Signs, FetchByte, PutByte, SetByte, Load, Store, wide_op}

pub record SymbolicState : Type 0 where
  pub regs : ℕ → ℕ
  pub locs : ℕ → ℕ
  pub flags : Flags
  pub bytes : ℕ → ℕ

abbrev pub at : SymbolicState → SymbolicOperand → ℕ
at s (Temporary r) = s.regs r
at s (Location x) = s.locs x

abbrev pub with_reg : ℕ → ℕ → SymbolicState → SymbolicState
with_reg r v s = record s { regs = update s.regs r v }

abbrev pub with_location : ℕ → ℕ → SymbolicState → SymbolicState
with_location x v s = record s { locs = update s.locs x v }

abbrev pub symbolic_values : Choice → SymbolicState → ℕ → ℕ → HostValues
symbolic_values c s x y = record { x = x; y = y; high = s.regs 2; flags = s.flags; free = chosen_word c; free_flags = chosen_flags c }

abbrev pub with_effect : Bool → HostEffect → ℕ → SymbolicState → SymbolicState
with_effect true e r s = record s { regs = update s.regs r e.result; flags = e.flags }
with_effect false e r s = record s { flags = e.flags }

abbrev pub with_both : HostEffect → SymbolicState → SymbolicState
with_both e s = record s { regs = update (update s.regs 0 e.result) 2 e.high; flags = e.flags }

abbrev pub size_of : AccessSize → ℕ
size_of Byte = 1
size_of Half = 2
size_of Word = 4

-- what a load makes of the number, and a store of the register
abbrev pub loaded_word : AccessSize → ℕ → ℕ
loaded_word Byte v = v % 256
loaded_word Half v = v % 2 ^ 16
loaded_word Word v = v

abbrev pub stored_number : AccessSize → ℕ → ℕ
stored_number Byte v = v % 256
stored_number Half v = v % 65536
stored_number Word v = v

module _ (guest host : Rights) where
  -- so many bytes that the guest has, and that the host may read, or write
  abbrev pub can_load : ℕ → ℕ → Bool
  can_load n a = each_byte guest.held n a && each_byte host.held n a

  abbrev pub can_store : ℕ → ℕ → Bool
  can_store n a = each_byte guest.held n a && each_byte host.writable n a

  abbrev pub loads_at : AccessSize → ℕ → ℕ → SymbolicState → Option SymbolicState
  loads_at size r a s = cond (can_load (size_of size) a) (Some (with_reg r (loaded_word size (load (size_of size) a s.bytes)) s)) None

  abbrev pub stores_at : AccessSize → ℕ → ℕ → SymbolicState → Option SymbolicState
  stores_at size a v s = cond (can_store (size_of size) a) (Some (record s { bytes = store (size_of size) a (stored_number size v) s.bytes })) None

  abbrev pub execute_op : SymbolicOp → Choice → SymbolicState → Option SymbolicState
  execute_op (Mov r source) c s = Some (with_reg r (at s source) s)
  execute_op (MovImmediate r v) c s = Some (with_reg r v s)
  execute_op (Put x r) c s = Some (with_location x (s.regs r) s)
  execute_op (PutImmediate x v) c s = Some (with_location x v s)
  execute_op (Alu op r source) c s = Some (with_effect (has_result op) (alu_row op (symbolic_values c s (s.regs r) (at s source))) r s)
  execute_op (AluImmediate op r v) c s = Some (with_effect (has_result op) (alu_row op (symbolic_values c s (s.regs r) v)) r s)
  execute_op (Test r q) c s = Some (record s { flags = logic_flags (bit_and (s.regs r) (s.regs q)) })
  execute_op (TestImmediate r v) c s = Some (record s { flags = logic_flags (bit_and (s.regs r) v) })
  execute_op (Invert r) c s = Some (with_reg r (complement (s.regs r)) s)
  execute_op (Negate r) c s = Some (with_effect true (unary_row Neg (symbolic_values c s 0 (s.regs r))) r s)
  execute_op (Multiply r source) c s = Some (with_effect true (imul_row (symbolic_values c s (s.regs r) (at s source))) r s)
  execute_op (MultiplyWide signed source) c s = Some (with_both (unary_row (wide_op signed) (symbolic_values c s (s.regs 0) (at s source))) s)
  execute_op (Divide signed r) c s = cond (divide_faults (s.regs 2) (s.regs 0) (s.regs r) signed) None (Some (with_both (divide_row signed (symbolic_values c s (s.regs 0) (s.regs r))) s))
  execute_op (ShiftBy op r n) c s = Some (with_effect true (shift_row op n (symbolic_values c s (s.regs r) n)) r s)
  execute_op (ShiftCl op r) c s = Some (with_effect true (shift_row op (s.regs 1 % 2 ^ 8) (symbolic_values c s (s.regs r) (s.regs 1 % 2 ^ 8))) r s)
  execute_op (Widen op r q) c s = Some (with_reg r (host_row (Extend op r (Reg q)) (symbolic_values c s 0 (s.regs q))).result s)
  execute_op (SwapBytes r) c s = Some (with_reg r (swapped (s.regs r)) s)
  execute_op (MoveIf condition r q) c s = Some (with_reg r (cond (condition_holds condition s.flags) (s.regs q) (s.regs r)) s)
  execute_op (Scan r source) c s = Some (with_effect true (scan_row (symbolic_values c s (s.regs r) (at s source))) r s)
  execute_op Signs c s = Some (with_reg 2 (sign_copies (s.regs 0)) s)
  execute_op (FetchByte r x) c s = Some (with_reg r (s.locs x % 256) s)
  execute_op (PutByte x r) c s = Some (with_location x (s.regs r % 256) s)
  execute_op (SetByte condition x) c s = Some (with_location x (one_if (condition_holds condition s.flags)) s)
  execute_op (Load size r b d) c s = loads_at size r ((s.regs b + d) % 2 ^ 32) s
  execute_op (Store size b d r) c s = stores_at size ((s.regs b + d) % 2 ^ 32) (s.regs r) s

abbrev pub then_ops : (SymbolicState → Option SymbolicState) → Option SymbolicState → Option SymbolicState
then_ops rest None = None
then_ops rest (Some s) = rest s

module _ (guest host : Rights) where
  abbrev pub execute_ops : List SymbolicOp → List Choice → SymbolicState → Option SymbolicState
  execute_ops [] choices s = Some s
  execute_ops (l ∷ ops) choices s = then_ops (execute_ops ops (drop 1 choices)) (execute_op guest host l (choice_at choices 0) s)
