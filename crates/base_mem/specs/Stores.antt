-- The tiles of stores behind the address (this project's own). The guest's numbers have their highest byte first.
use Rattle.std.specs.Prelude.{ℕ, Bool, true, false, List, [], ◌∷◌}
use Rattle.machines.specs.Prelude.{StoreOp, Stw, Stb, Sth, StoreUpdateOp, Stwu, Stbu, Sthu, StoreIndexedOp, Stwx, Stbx, Sthx, Stwbrx, Sthbrx, StoreIndexedUpdateOp, Stwux, Stbux, Sthux, Shr, eax, edx}
use Rattle.symbolic_tiles.specs.declared.symbolic_op.SymbolicOperand.TheVariants.{Location}
use Rattle.symbolic_tiles.specs.declared.symbolic_op.AccessSize.TheVariants.{Byte, Half, Word}
use Rattle.symbolic_tiles.specs.declared.symbolic_op.SymbolicOp.{SymbolicOp}
use Rattle.symbolic_tiles.specs.declared.symbolic_op.SymbolicOp.TheVariants.{Mov, Put, ShiftBy, SwapBytes, Store}

-- What rS has is stored at the address in edx.
abbrev pub stw_ops : ℕ → List SymbolicOp
stw_ops s = Mov eax (Location s) ∷ SwapBytes eax ∷ Store Word edx 0 eax ∷ []

abbrev pub stb_ops : ℕ → List SymbolicOp
stb_ops s = Mov eax (Location s) ∷ Store Byte edx 0 eax ∷ []

abbrev pub sth_ops : ℕ → List SymbolicOp
sth_ops s = Mov eax (Location s) ∷ SwapBytes eax ∷ ShiftBy Shr eax 16 ∷ Store Half edx 0 eax ∷ []

abbrev pub stwbrx_ops : ℕ → List SymbolicOp
stwbrx_ops s = Mov eax (Location s) ∷ Store Word edx 0 eax ∷ []

abbrev pub sthbrx_ops : ℕ → List SymbolicOp
sthbrx_ops s = Mov eax (Location s) ∷ Store Half edx 0 eax ∷ []

-- by the forms
abbrev pub store_ops : StoreOp → ℕ → List SymbolicOp
store_ops Stw s = stw_ops s
store_ops Stb s = stb_ops s
store_ops Sth s = sth_ops s

abbrev pub store_update_ops : StoreUpdateOp → ℕ → List SymbolicOp
store_update_ops Stwu s = stw_ops s
store_update_ops Stbu s = stb_ops s
store_update_ops Sthu s = sth_ops s

abbrev pub store_indexed_ops : StoreIndexedOp → ℕ → List SymbolicOp
store_indexed_ops Stwx s = stw_ops s
store_indexed_ops Stbx s = stb_ops s
store_indexed_ops Sthx s = sth_ops s
store_indexed_ops Stwbrx s = stwbrx_ops s
store_indexed_ops Sthbrx s = sthbrx_ops s

abbrev pub store_indexed_update_ops : StoreIndexedUpdateOp → ℕ → List SymbolicOp
store_indexed_update_ops Stwux s = stw_ops s
store_indexed_update_ops Stbux s = stb_ops s
store_indexed_update_ops Sthux s = sth_ops s

-- with update, the address goes into rA
abbrev pub update_ops : Bool → ℕ → List SymbolicOp
update_ops true a = Put a edx ∷ []
update_ops false a = []
