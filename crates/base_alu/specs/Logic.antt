-- The tiles of logic with registers (this project's own). Results go through eax.
use Rattle.std.specs.Prelude.{ℕ, List, [], ◌∷◌}
use Rattle.machines.specs.Prelude.{LogicOp, LogicUnaryOp, Cntlzw, Extsb, Extsh, AluOp, Or, And, Xor, Shl, Shr, MovsxByte, MovsxHalf, Equal, eax, edx}
use Rattle.symbolic_tiles.specs.declared.symbolic_op.SymbolicOperand.TheVariants.{Location}
use Rattle.symbolic_tiles.specs.declared.symbolic_op.SymbolicOp.{SymbolicOp}
use Rattle.symbolic_tiles.specs.declared.symbolic_op.SymbolicOp.TheVariants.{Mov, MovImmediate, Put, Alu, AluImmediate, Invert, Widen, MoveIf, Scan}
use Rattle.ppc_isa.specs.declared.instr.LogicOp.TheVariants as logic
use Rattle.base_alu.specs.Shifts.{shifted_ops, sraw_ops}

-- rS op rB; its complement; rS op the complement of rB
abbrev pub plain_ops : AluOp → ℕ → ℕ → ℕ → List SymbolicOp
plain_ops alu s a b = Mov eax (Location s) ∷ Alu alu eax (Location b) ∷ Put a eax ∷ []

abbrev pub inverted_ops : AluOp → ℕ → ℕ → ℕ → List SymbolicOp
inverted_ops alu s a b = Mov eax (Location s) ∷ Alu alu eax (Location b) ∷ Invert eax ∷ Put a eax ∷ []

abbrev pub complement_ops : AluOp → ℕ → ℕ → ℕ → List SymbolicOp
complement_ops alu s a b = Mov eax (Location b) ∷ Invert eax ∷ Alu alu eax (Location s) ∷ Put a eax ∷ []

-- two registers
abbrev pub logic_ops : LogicOp → ℕ → ℕ → ℕ → List SymbolicOp
logic_ops logic.And s a b = plain_ops And s a b
logic_ops logic.Or s a b = plain_ops Or s a b
logic_ops logic.Xor s a b = plain_ops Xor s a b
logic_ops logic.Nand s a b = inverted_ops And s a b
logic_ops logic.Nor s a b = inverted_ops Or s a b
logic_ops logic.Eqv s a b = inverted_ops Xor s a b
logic_ops logic.Andc s a b = complement_ops And s a b
logic_ops logic.Orc s a b = complement_ops Or s a b
logic_ops logic.Slw s a b = shifted_ops Shl s a b
logic_ops logic.Srw s a b = shifted_ops Shr s a b
logic_ops logic.Sraw s a b = sraw_ops s a b

-- Counts of zeros, and extensions. 31 xor a place is how many zeros stand before it. Where there is no 1, the result of bsr is
-- undefined, and 63 xor 31 is 32.
abbrev pub logic_unary_ops : LogicUnaryOp → ℕ → ℕ → List SymbolicOp
logic_unary_ops Cntlzw s a = Scan eax (Location s) ∷ MovImmediate edx 63 ∷ MoveIf Equal eax edx ∷ AluImmediate Xor eax 31 ∷ Put a eax ∷ []
logic_unary_ops Extsb s a = Mov eax (Location s) ∷ Widen MovsxByte eax eax ∷ Put a eax ∷ []
logic_unary_ops Extsh s a = Mov eax (Location s) ∷ Widen MovsxHalf eax eax ∷ Put a eax ∷ []
