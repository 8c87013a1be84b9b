-- The tiles that move CR by fields and combine its bits (this project's own).
use Rattle.std.specs.Prelude.{ℕ, zero, suc, ◌-◌, ◌*◌, ◌/◌, ◌%◌, ◌^◌, List, [], ◌∷◌, ◌++◌, if◌then◌else◌}
use Rattle.machines.specs.Prelude.{bit_of, CrLogicOp, Crand, Cror, Crxor, Crnand, Crnor, Creqv, Crandc, Crorc, cr, Or, And, Xor, Shl, Shr, eax, ecx}
use Rattle.symbolic_tiles.specs.declared.symbolic_op.SymbolicOperand.TheVariants.{Temporary, Location}
use Rattle.symbolic_tiles.specs.declared.symbolic_op.SymbolicOp.{SymbolicOp}
use Rattle.symbolic_tiles.specs.declared.symbolic_op.SymbolicOp.TheVariants.{Mov, Put, Alu, AluImmediate, Invert, ShiftBy, FetchByte, PutByte}

-- bit n of CR becomes the lowest of r
abbrev pub get_bit : ℕ → ℕ → List SymbolicOp
get_bit r n = FetchByte r (cr (n / 4)) ∷ ShiftBy Shr r (3 - n % 4) ∷ []

abbrev pub cr_operation : CrLogicOp → List SymbolicOp
cr_operation Crand = Alu And eax (Temporary ecx) ∷ []
cr_operation Cror = Alu Or eax (Temporary ecx) ∷ []
cr_operation Crxor = Alu Xor eax (Temporary ecx) ∷ []
cr_operation Crnand = Alu And eax (Temporary ecx) ∷ Invert eax ∷ []
cr_operation Crnor = Alu Or eax (Temporary ecx) ∷ Invert eax ∷ []
cr_operation Creqv = Alu Xor eax (Temporary ecx) ∷ Invert eax ∷ []
cr_operation Crandc = Invert ecx ∷ Alu And eax (Temporary ecx) ∷ []
cr_operation Crorc = Invert ecx ∷ Alu Or eax (Temporary ecx) ∷ []

-- the lowest bit of eax becomes bit d of CR
abbrev pub set_bit : ℕ → List SymbolicOp
set_bit d = AluImmediate And eax 1 ∷ ShiftBy Shl eax (3 - d % 4) ∷ FetchByte ecx (cr (d / 4)) ∷ AluImmediate And ecx (15 - 2 ^ (3 - d % 4)) ∷ Alu Or eax (Temporary ecx) ∷ PutByte (cr (d / 4)) eax ∷ []

abbrev pub cr_ops : CrLogicOp → ℕ → ℕ → ℕ → List SymbolicOp
cr_ops op d a b = (get_bit eax a ++ get_bit ecx b) ++ (cr_operation op ++ set_bit d)

-- mcrf
abbrev pub mcrf_ops : ℕ → ℕ → List SymbolicOp
mcrf_ops to from = FetchByte eax (cr from) ∷ PutByte (cr to) eax ∷ []

-- mfcr: the fields one behind another
abbrev pub next_field : ℕ → List SymbolicOp
next_field f = ShiftBy Shl eax 4 ∷ FetchByte ecx (cr f) ∷ Alu Or eax (Temporary ecx) ∷ []

abbrev pub mfcr_ops : ℕ → List SymbolicOp
mfcr_ops d = FetchByte eax (cr 0) ∷ (next_field 1 ++ (next_field 2 ++ (next_field 3 ++ (next_field 4 ++ (next_field 5 ++ (next_field 6 ++ (next_field 7 ++ Put d eax ∷ [])))))))

-- mtcrf: one field, and the chosen ones whose bits in FXM stand at the places below n
abbrev pub chosen_ops : ℕ → ℕ → List SymbolicOp
chosen_ops s f = Mov eax (Location s) ∷ ShiftBy Shr eax (28 - 4 * f) ∷ AluImmediate And eax 15 ∷ PutByte (cr f) eax ∷ []

unfoldable pub mtcrf_below : ℕ → ℕ → ℕ → List SymbolicOp
mtcrf_below zero s fxm = []
mtcrf_below (suc n) s fxm = (if bit_of fxm n then chosen_ops s (7 - n) else []) ++ mtcrf_below n s fxm

abbrev pub mtcrf_ops : ℕ → ℕ → List SymbolicOp
mtcrf_ops s fxm = mtcrf_below 8 s fxm
