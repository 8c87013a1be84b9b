-- The address of an access goes into edx (this project's own).
use Rattle.std.specs.Prelude.{ℕ, Bool, true, false, List, [], ◌∷◌}
use Rattle.machines.specs.Prelude.{sign_extended, Add, edx}
use Rattle.symbolic_tiles.specs.declared.symbolic_op.SymbolicOperand.TheVariants.{Location}
use Rattle.symbolic_tiles.specs.declared.symbolic_op.SymbolicOp.{SymbolicOp}
use Rattle.symbolic_tiles.specs.declared.symbolic_op.SymbolicOp.TheVariants.{Mov, MovImmediate, Alu, AluImmediate}

-- D forms, where `zero` says that the base is the number 0; and X forms
abbrev pub immediate_address : Bool → ℕ → ℕ → List SymbolicOp
immediate_address true a imm = MovImmediate edx (sign_extended 16 imm) ∷ []
immediate_address false a imm = Mov edx (Location a) ∷ AluImmediate Add edx (sign_extended 16 imm) ∷ []

abbrev pub indexed_address : Bool → ℕ → ℕ → List SymbolicOp
indexed_address true a b = Mov edx (Location b) ∷ []
indexed_address false a b = Mov edx (Location a) ∷ Alu Add edx (Location b) ∷ []
