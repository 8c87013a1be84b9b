-- The tiles of compares (this project's own).
use Rattle.std.specs.Prelude.{ℕ, List, [], ◌∷◌, ◌++◌}
use Rattle.machines.specs.Prelude.{sign_extended, CompareImmediateOp, Cmpi, Cmpli, CompareOp, Cmp, Below, Less, eax}
use Rattle.symbolic_tiles.specs.declared.symbolic_op.SymbolicOperand.TheVariants.{Location}
use Rattle.symbolic_tiles.specs.declared.symbolic_op.SymbolicOp.{SymbolicOp}
use Rattle.symbolic_tiles.specs.declared.symbolic_op.SymbolicOp.TheVariants.{Mov, Alu, AluImmediate}
use Rattle.symbolic_tiles.specs.Prelude.{field_ops}
use Rattle.ppc_isa.specs.declared.instr.CompareOp.TheVariants as registers

abbrev pub cmpi_ops : ℕ → ℕ → List SymbolicOp
cmpi_ops a imm = Mov eax (Location a) ∷ AluImmediate Cmp eax (sign_extended 16 imm) ∷ []

abbrev pub cmpli_ops : ℕ → ℕ → List SymbolicOp
cmpli_ops a imm = Mov eax (Location a) ∷ AluImmediate Cmp eax imm ∷ []

abbrev pub cmp_ops : ℕ → ℕ → List SymbolicOp
cmp_ops a b = Mov eax (Location a) ∷ Alu Cmp eax (Location b) ∷ []

-- signed or unsigned, into a field
abbrev pub compare_immediate_ops : CompareImmediateOp → ℕ → ℕ → ℕ → List SymbolicOp
compare_immediate_ops Cmpi field a imm = cmpi_ops a imm ++ field_ops field Less
compare_immediate_ops Cmpli field a imm = cmpli_ops a imm ++ field_ops field Below

abbrev pub compare_ops : CompareOp → ℕ → ℕ → ℕ → List SymbolicOp
compare_ops registers.Cmp field a b = cmp_ops a b ++ field_ops field Less
compare_ops registers.Cmpl field a b = cmp_ops a b ++ field_ops field Below
