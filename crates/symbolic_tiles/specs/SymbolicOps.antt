-- Symbolic ops (this project's own): the ops of a tile told over the temporaries eax, ecx, edx and over locations, with no
-- register map; and the op of the host that each is under a map.
use Rattle.std.specs.Prelude.{ℕ, ◌<◌, ◌≤◌, ◌^◌, Bool, true, false, ltb, List, [], ◌∷◌, map}
use Rattle.machines.specs.Prelude.{Map, Op, AluImm, TestReg, TestImm, Unary, Imul, MovTo, MovFrom, MovImm, MovToImm, MovHalfTo, MovByteTo, Shift, ShiftByCl, Extend, Bswap, Set, Cmov, Bsr, Cdq, UnaryOp, Not, Neg, Mul, Imul1, Div, Idiv, MovzxByte, MovzxHalf, Operand, Reg, Abs, Base}
use Rattle.reg_map.specs.Prelude.{home, place, mov_from, alu_from}
pub use Rattle.symbolic_tiles.specs.declared.symbolic_op.SymbolicOperand.{SymbolicOperand}
pub use Rattle.symbolic_tiles.specs.declared.symbolic_op.SymbolicOperand.TheVariants.{Temporary, Location}
pub use Rattle.symbolic_tiles.specs.declared.symbolic_op.AccessSize.{AccessSize}
pub use Rattle.symbolic_tiles.specs.declared.symbolic_op.AccessSize.TheVariants.{Byte, Half, Word}
pub use Rattle.symbolic_tiles.specs.declared.symbolic_op.SymbolicOp.{SymbolicOp}
pub use Rattle.symbolic_tiles.specs.declared.symbolic_op.SymbolicOp.TheVariants.{Mov, MovImmediate, Put, PutImmediate, Alu, AluImmediate, Test, TestImmediate, Invert, Negate, Multiply, MultiplyWide, Divide, ShiftBy, ShiftCl, Widen, SwapBytes, MoveIf, Scan, Signs, FetchByte, PutByte, SetByte, Load, Store}

-- the operand under a map: the register, or the location's place
abbrev pub operand_of : Map → SymbolicOperand → Operand
operand_of m (Temporary r) = Reg r
operand_of m (Location x) = place m x

-- the ops of 64-bit products, of divisions, and of accesses of each size
abbrev pub wide_op : Bool → UnaryOp
wide_op true = Imul1
wide_op false = Mul

abbrev pub divide_op : Bool → UnaryOp
divide_op true = Idiv
divide_op false = Div

abbrev pub load_op : AccessSize → ℕ → Operand → Op
load_op Byte r from = Extend MovzxByte r from
load_op Half r from = Extend MovzxHalf r from
load_op Word r from = MovFrom r from

abbrev pub store_op : AccessSize → Operand → ℕ → Op
store_op Byte to r = MovByteTo to r
store_op Half to r = MovHalfTo to r
store_op Word to r = MovTo to r

-- the host's op under a map
abbrev pub op_of : Map → SymbolicOp → Op
op_of m (Mov r source) = mov_from r (operand_of m source)
op_of m (MovImmediate r v) = MovImm r v
op_of m (Put x r) = MovTo (place m x) r
op_of m (PutImmediate x v) = MovToImm (place m x) v
op_of m (Alu op r source) = alu_from op r (operand_of m source)
op_of m (AluImmediate op r v) = AluImm op (Reg r) v
op_of m (Test r q) = TestReg (Reg r) q
op_of m (TestImmediate r v) = TestImm (Reg r) v
op_of m (Invert r) = Unary Not (Reg r)
op_of m (Negate r) = Unary Neg (Reg r)
op_of m (Multiply r source) = Imul r (operand_of m source)
op_of m (MultiplyWide signed source) = Unary (wide_op signed) (operand_of m source)
op_of m (Divide signed r) = Unary (divide_op signed) (Reg r)
op_of m (ShiftBy op r n) = Shift op (Reg r) n
op_of m (ShiftCl op r) = ShiftByCl op (Reg r)
op_of m (Widen op r q) = Extend op r (Reg q)
op_of m (SwapBytes r) = Bswap r
op_of m (MoveIf condition r q) = Cmov condition r (Reg q)
op_of m (Scan r source) = Bsr r (operand_of m source)
op_of m Signs = Cdq
op_of m (FetchByte r x) = Extend MovzxByte r (Abs (home x))
op_of m (PutByte x r) = MovByteTo (Abs (home x)) r
op_of m (SetByte condition x) = Set condition (Abs (home x))
op_of m (Load size r b d) = load_op size r (Base b d)
op_of m (Store size b d r) = store_op size (Base b d) r

abbrev pub ops_of : List SymbolicOp → Map → List Op
ops_of ops m = map (op_of m) ops

-- What well-formed ops name: temporaries, word locations (GPRs, LR, CTR), byte locations (fields of CR, parts of XER), and
-- numbers that fit their fields. A number is put at once into LR and CTR alone, which have no place but their homes.
abbrev pub Holds : Bool → Type 0
Holds true = Unit {0}
Holds false = ⊥

abbrev pub IsTemporary : ℕ → Type 0
IsTemporary r = Holds (ltb r 3)

abbrev pub IsSymbolicOperand : SymbolicOperand → Type 0
IsSymbolicOperand (Temporary r) = IsTemporary r
IsSymbolicOperand (Location x) = x < 34

abbrev pub IsByte : ℕ → Type 0
IsByte x = (34 ≤ x) × (x < 46)

abbrev pub IsWellFormed : SymbolicOp → Type 0
IsWellFormed (Mov r source) = IsTemporary r × IsSymbolicOperand source
IsWellFormed (MovImmediate r v) = IsTemporary r × (v < 2 ^ 32)
IsWellFormed (Put x r) = (x < 34) × IsTemporary r
IsWellFormed (PutImmediate x v) = (32 ≤ x) × (x < 34) × (v < 2 ^ 32)
IsWellFormed (Alu op r source) = IsTemporary r × IsSymbolicOperand source
IsWellFormed (AluImmediate op r v) = IsTemporary r × (v < 2 ^ 32)
IsWellFormed (Test r q) = IsTemporary r × IsTemporary q
IsWellFormed (TestImmediate r v) = IsTemporary r × (v < 2 ^ 32)
IsWellFormed (Invert r) = IsTemporary r
IsWellFormed (Negate r) = IsTemporary r
IsWellFormed (Multiply r source) = IsTemporary r × IsSymbolicOperand source
IsWellFormed (MultiplyWide signed source) = IsSymbolicOperand source
IsWellFormed (Divide signed r) = IsTemporary r
IsWellFormed (ShiftBy op r n) = IsTemporary r × (n < 32)
IsWellFormed (ShiftCl op r) = IsTemporary r
IsWellFormed (Widen op r q) = IsTemporary r × IsTemporary q
IsWellFormed (SwapBytes r) = IsTemporary r
IsWellFormed (MoveIf condition r q) = IsTemporary r × IsTemporary q
IsWellFormed (Scan r source) = IsTemporary r × IsSymbolicOperand source
IsWellFormed Signs = Unit {0}
IsWellFormed (FetchByte r x) = IsTemporary r × IsByte x
IsWellFormed (PutByte x r) = IsByte x × IsTemporary r
IsWellFormed (SetByte condition x) = IsByte x
IsWellFormed (Load size r b d) = IsTemporary r × IsTemporary b × (d < 2 ^ 32)
IsWellFormed (Store size b d r) = IsTemporary b × IsTemporary r × (d < 2 ^ 32)

abbrev pub AreWellFormed : List SymbolicOp → Type 0
AreWellFormed [] = Unit {0}
AreWellFormed (l ∷ ops) = IsWellFormed l × AreWellFormed ops
