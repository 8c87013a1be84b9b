-- The tiles of moves from and to XER, LR and CTR (this project's own).
use Rattle.std.specs.Prelude.{ℕ, ◌+◌, List, [], ◌∷◌, if◌then◌else◌, ◌==◌}
use Rattle.machines.specs.Prelude.{ov, xc, Or, And, Shl, Shr, eax, ecx}
use Rattle.ppc_isa.specs.Locations.{ca, so}
use Rattle.symbolic_tiles.specs.declared.symbolic_op.SymbolicOperand.TheVariants.{Temporary, Location}
use Rattle.symbolic_tiles.specs.declared.symbolic_op.SymbolicOp.{SymbolicOp}
use Rattle.symbolic_tiles.specs.declared.symbolic_op.SymbolicOp.TheVariants.{Mov, Put, Alu, AluImmediate, ShiftBy, FetchByte, PutByte}

abbrev pub mfxer_ops : ℕ → List SymbolicOp
mfxer_ops d =
    FetchByte eax so ∷ ShiftBy Shl eax 1 ∷ FetchByte ecx ov ∷ Alu Or eax (Temporary ecx)
    ∷ ShiftBy Shl eax 1 ∷ FetchByte ecx ca ∷ Alu Or eax (Temporary ecx)
    ∷ ShiftBy Shl eax 29 ∷ FetchByte ecx xc ∷ Alu Or eax (Temporary ecx) ∷ Put d eax ∷ []

-- by the number of the special register: XER is 1; LR is 8 and location 32, CTR 9 and 33
abbrev pub mfspr_ops : ℕ → ℕ → List SymbolicOp
mfspr_ops d spr = if spr == 1 then mfxer_ops d else Mov eax (Location (24 + spr)) ∷ Put d eax ∷ []

abbrev pub mtxer_ops : ℕ → List SymbolicOp
mtxer_ops s =
    Mov eax (Location s)
    ∷ Mov ecx (Temporary eax) ∷ ShiftBy Shr ecx 31 ∷ PutByte so ecx
    ∷ Mov ecx (Temporary eax) ∷ ShiftBy Shr ecx 30 ∷ AluImmediate And ecx 1 ∷ PutByte ov ecx
    ∷ Mov ecx (Temporary eax) ∷ ShiftBy Shr ecx 29 ∷ AluImmediate And ecx 1 ∷ PutByte ca ecx
    ∷ AluImmediate And eax 127 ∷ PutByte xc eax ∷ []

abbrev pub mtspr_ops : ℕ → ℕ → List SymbolicOp
mtspr_ops s spr = if spr == 1 then mtxer_ops s else Mov eax (Location s) ∷ Put (24 + spr) eax ∷ []
