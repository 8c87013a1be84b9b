-- The indirect sequence, by which bclr and bcctr go through the table (this project's own).
use Rattle.std.specs.Prelude.{ℕ, ◌*◌, List, [], ◌∷◌}
use Rattle.machines.specs.Prelude.{And, Sub, Cmp, Op, AluImm, MovTo, Reg, eax, ecx}

-- its ops before its jumps: ecx, which has the target, without its two low bits; that less the first code word's address
-- in eax, compared with the length of the code in bytes
abbrev pub leap_ops : ℕ → ℕ → List Op
leap_ops first count = AluImm And (Reg ecx) 0xFFFFFFFC ∷ MovTo (Reg eax) ecx ∷ AluImm Sub (Reg eax) first ∷ AluImm Cmp (Reg eax) (4 * count) ∷ []
