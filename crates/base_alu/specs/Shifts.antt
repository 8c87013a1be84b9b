-- The tiles of shifts and rotates (this project's own). A host's count by cl has five bits, so the sixth of a guest's is
-- tested beside it.
use Rattle.std.specs.Prelude.{ℕ, ◌-◌, ◌^◌, List, [], ◌∷◌}
use Rattle.machines.specs.Prelude.{complement, RotateOp, Rlwinm, Rlwnm, Rlwimi, Or, And, Xor, ShiftOp, Rol, Shl, Sar, NotEqual, eax, ecx, edx}
use Rattle.ppc_isa.specs.Locations.{ca}
use Rattle.symbolic_tiles.specs.declared.symbolic_op.SymbolicOperand.TheVariants.{Temporary, Location}
use Rattle.symbolic_tiles.specs.declared.symbolic_op.SymbolicOp.{SymbolicOp}
use Rattle.symbolic_tiles.specs.declared.symbolic_op.SymbolicOp.TheVariants.{Mov, MovImmediate, Put, Alu, AluImmediate, TestImmediate, ShiftBy, ShiftCl, MoveIf, SetByte}

-- slw and srw
abbrev pub shifted_ops : ShiftOp → ℕ → ℕ → ℕ → List SymbolicOp
shifted_ops op s a b = Mov ecx (Location b) ∷ Mov eax (Location s) ∷ ShiftCl op eax ∷ MovImmediate edx 0 ∷ TestImmediate ecx 32 ∷ MoveIf NotEqual eax edx ∷ Put a eax ∷ []

-- sraw: CA is 1 where the sign's copies meet a bit that is lost
abbrev pub sraw_ops : ℕ → ℕ → ℕ → List SymbolicOp
sraw_ops s a b =
    Mov ecx (Location b) ∷ Mov eax (Location s) ∷ ShiftCl Sar eax ∷ ShiftCl Shl eax ∷ MovImmediate edx 0 ∷ TestImmediate ecx 32 ∷ MoveIf NotEqual eax edx
    ∷ Alu Xor eax (Location s) ∷ Mov edx (Location s) ∷ ShiftBy Sar edx 31 ∷ Alu And eax (Temporary edx) ∷ SetByte NotEqual ca
    ∷ Mov eax (Location s) ∷ ShiftCl Sar eax ∷ TestImmediate ecx 32 ∷ MoveIf NotEqual eax edx ∷ Put a eax ∷ []

-- srawi
abbrev pub srawi_ops : ℕ → ℕ → ℕ → List SymbolicOp
srawi_ops s a n = Mov edx (Location s) ∷ ShiftBy Sar edx 31 ∷ AluImmediate And edx (2 ^ n - 1) ∷ Alu And edx (Location s) ∷ SetByte NotEqual ca ∷ Mov eax (Location s) ∷ ShiftBy Sar eax n ∷ Put a eax ∷ []

abbrev pub rlwinm_ops : ℕ → ℕ → ℕ → ℕ → List SymbolicOp
rlwinm_ops s a by m = Mov eax (Location s) ∷ ShiftBy Rol eax by ∷ AluImmediate And eax m ∷ Put a eax ∷ []

abbrev pub rlwnm_ops : ℕ → ℕ → ℕ → ℕ → List SymbolicOp
rlwnm_ops s a b m = Mov ecx (Location b) ∷ Mov eax (Location s) ∷ ShiftCl Rol eax ∷ AluImmediate And eax m ∷ Put a eax ∷ []

abbrev pub rlwimi_ops : ℕ → ℕ → ℕ → ℕ → List SymbolicOp
rlwimi_ops s a by m = Mov eax (Location s) ∷ ShiftBy Rol eax by ∷ AluImmediate And eax m ∷ Mov edx (Location a) ∷ AluImmediate And edx (complement m) ∷ Alu Or eax (Temporary edx) ∷ Put a eax ∷ []

-- by the mask's ones
abbrev pub rotate_ops : RotateOp → ℕ → ℕ → ℕ → ℕ → List SymbolicOp
rotate_ops Rlwinm s a by m = rlwinm_ops s a by m
rotate_ops Rlwnm s a b m = rlwnm_ops s a b m
rotate_ops Rlwimi s a by m = rlwimi_ops s a by m
