-- The tiles of arithmetic and logic with an immediate (this project's own). Results go through eax.
use Rattle.std.specs.Prelude.{ℕ, ◌*◌, Bool, true, false, List, [], ◌∷◌, ◌==◌}
use Rattle.machines.specs.Prelude.{sign_extended, ImmediateOp, Addi, Addis, Addic, AddicRecord, Subfic, Mulli, LogicImmediateOp, Ori, Oris, Xori, Xoris, Andi, Andis, AluOp, Add, Or, And, Sub, Xor, Below, NotBelow, eax, ecx, logic_word}
use Rattle.ppc_isa.specs.Locations.{ca}
use Rattle.symbolic_tiles.specs.declared.symbolic_op.SymbolicOperand.TheVariants.{Temporary, Location}
use Rattle.symbolic_tiles.specs.declared.symbolic_op.SymbolicOp.{SymbolicOp}
use Rattle.symbolic_tiles.specs.declared.symbolic_op.SymbolicOp.TheVariants.{Mov, MovImmediate, Put, Alu, AluImmediate, Multiply, SetByte}

-- (rA|0) and a number
abbrev pub base_ops : Bool → ℕ → ℕ → ℕ → List SymbolicOp
base_ops true d a v = MovImmediate eax v ∷ Put d eax ∷ []
base_ops false d a v = Mov eax (Location a) ∷ AluImmediate Add eax v ∷ Put d eax ∷ []

abbrev pub immediate_ops : ImmediateOp → ℕ → ℕ → ℕ → List SymbolicOp
immediate_ops Addi d a imm = base_ops (a == 0) d a (sign_extended 16 imm)
immediate_ops Addis d a imm = base_ops (a == 0) d a (65536 * imm)
immediate_ops Addic d a imm = Mov eax (Location a) ∷ AluImmediate Add eax (sign_extended 16 imm) ∷ Put d eax ∷ SetByte Below ca ∷ []
immediate_ops AddicRecord d a imm = Mov eax (Location a) ∷ AluImmediate Add eax (sign_extended 16 imm) ∷ Put d eax ∷ SetByte Below ca ∷ []
immediate_ops Subfic d a imm = MovImmediate eax (sign_extended 16 imm) ∷ Alu Sub eax (Location a) ∷ Put d eax ∷ SetByte NotBelow ca ∷ []
immediate_ops Mulli d a imm = Mov eax (Location a) ∷ MovImmediate ecx (sign_extended 16 imm) ∷ Multiply eax (Temporary ecx) ∷ Put d eax ∷ []

abbrev pub logic_alu : LogicImmediateOp → AluOp
logic_alu Ori = Or
logic_alu Oris = Or
logic_alu Xori = Xor
logic_alu Xoris = Xor
logic_alu Andi = And
logic_alu Andis = And

abbrev pub logic_immediate_ops : LogicImmediateOp → ℕ → ℕ → ℕ → List SymbolicOp
logic_immediate_ops op s a imm = Mov eax (Location s) ∷ AluImmediate (logic_alu op) eax (logic_word op imm) ∷ Put a eax ∷ []
