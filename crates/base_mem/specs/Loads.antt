-- The tiles of loads behind the address (this project's own). The guest's numbers have their highest byte first.
use Rattle.std.specs.Prelude.{ℕ, Bool, true, false, List, [], ◌∷◌}
use Rattle.machines.specs.Prelude.{LoadOp, Lwz, Lbz, Lhz, Lha, LoadUpdateOp, Lwzu, Lbzu, Lhzu, Lhau, LoadIndexedOp, Lwzx, Lbzx, Lhzx, Lhax, Lwbrx, Lhbrx, LoadIndexedUpdateOp, Lwzux, Lbzux, Lhzux, Lhaux, ShiftOp, Shr, Sar, eax, edx}
use Rattle.symbolic_tiles.specs.declared.symbolic_op.AccessSize.TheVariants.{Byte, Half, Word}
use Rattle.symbolic_tiles.specs.declared.symbolic_op.SymbolicOp.{SymbolicOp}
use Rattle.symbolic_tiles.specs.declared.symbolic_op.SymbolicOp.TheVariants.{Put, ShiftBy, SwapBytes, Load}

-- What is loaded from the address in edx goes into eax.
abbrev pub lwz_ops : List SymbolicOp
lwz_ops = Load Word eax edx 0 ∷ SwapBytes eax ∷ []

abbrev pub lbz_ops : List SymbolicOp
lbz_ops = Load Byte eax edx 0 ∷ []

-- a half: its two bytes come from the top, with zeros or copies of the sign
abbrev pub half_ops : ShiftOp → List SymbolicOp
half_ops shift = Load Half eax edx 0 ∷ SwapBytes eax ∷ ShiftBy shift eax 16 ∷ []

abbrev pub lhz_ops : List SymbolicOp
lhz_ops = half_ops Shr

abbrev pub lha_ops : List SymbolicOp
lha_ops = half_ops Sar

abbrev pub lwbrx_ops : List SymbolicOp
lwbrx_ops = Load Word eax edx 0 ∷ []

abbrev pub lhbrx_ops : List SymbolicOp
lhbrx_ops = Load Half eax edx 0 ∷ []

-- by the forms
abbrev pub load_ops : LoadOp → List SymbolicOp
load_ops Lwz = lwz_ops
load_ops Lbz = lbz_ops
load_ops Lhz = lhz_ops
load_ops Lha = lha_ops

abbrev pub load_update_ops : LoadUpdateOp → List SymbolicOp
load_update_ops Lwzu = lwz_ops
load_update_ops Lbzu = lbz_ops
load_update_ops Lhzu = lhz_ops
load_update_ops Lhau = lha_ops

abbrev pub load_indexed_ops : LoadIndexedOp → List SymbolicOp
load_indexed_ops Lwzx = lwz_ops
load_indexed_ops Lbzx = lbz_ops
load_indexed_ops Lhzx = lhz_ops
load_indexed_ops Lhax = lha_ops
load_indexed_ops Lwbrx = lwbrx_ops
load_indexed_ops Lhbrx = lhbrx_ops

abbrev pub load_indexed_update_ops : LoadIndexedUpdateOp → List SymbolicOp
load_indexed_update_ops Lwzux = lwz_ops
load_indexed_update_ops Lbzux = lbz_ops
load_indexed_update_ops Lhzux = lhz_ops
load_indexed_update_ops Lhaux = lha_ops

-- into rD and, with update, the address into rA
abbrev pub put_ops : Bool → ℕ → ℕ → List SymbolicOp
put_ops true d a = Put d eax ∷ Put a edx ∷ []
put_ops false d a = Put d eax ∷ []
