-- The tiles of lmw and stmw behind the address (this project's own): register by register, four bytes each.
use Rattle.std.specs.Prelude.{ℕ, zero, suc, ◌-◌, ◌*◌, List, [], ◌∷◌, ◌++◌}
use Rattle.machines.specs.Prelude.{eax, edx}
use Rattle.symbolic_tiles.specs.declared.symbolic_op.SymbolicOperand.TheVariants.{Location}
use Rattle.symbolic_tiles.specs.declared.symbolic_op.AccessSize.TheVariants.{Word}
use Rattle.symbolic_tiles.specs.declared.symbolic_op.SymbolicOp.{SymbolicOp}
use Rattle.symbolic_tiles.specs.declared.symbolic_op.SymbolicOp.TheVariants.{Mov, Put, SwapBytes, Load, Store}

-- register r of those from d on, and the last n registers
abbrev pub one_load : ℕ → ℕ → List SymbolicOp
one_load r d = Load Word eax edx (4 * (r - d)) ∷ SwapBytes eax ∷ Put r eax ∷ []

unfoldable pub lmw_ops : ℕ → ℕ → List SymbolicOp
lmw_ops zero d = []
lmw_ops (suc n) d = one_load (31 - n) d ++ lmw_ops n d

abbrev pub one_store : ℕ → ℕ → List SymbolicOp
one_store r s = Mov eax (Location r) ∷ SwapBytes eax ∷ Store Word edx (4 * (r - s)) eax ∷ []

unfoldable pub stmw_ops : ℕ → ℕ → List SymbolicOp
stmw_ops zero s = []
stmw_ops (suc n) s = one_store (31 - n) s ++ stmw_ops n s
