-- What was spelled is read again, part by part.
use Rattle.std.proofs.Common.{◌≡◌, ℕ, ◌/◌, ◌%◌, ◌^◌, ◌<◌, false, ltb, eqb, List, ◌++◌, length, Some, refl, arith}
use Rattle.std.proofs.lemmas.Bool.{le-ltb, ne_eqb}
use Rattle.std.proofs.lemmas.List.{length-append}
use Rattle.std.specs.Int.{w32, from_le_bytes}
use Rattle.std.proofs.lemmas.Nat.{from_le_bytes-to_le_bytes_4}
use Rattle.ia_codec.specs.Prelude.{Operand, Reg, Abs, Base, Pair, packed, dword, modrm, IsOperand, byte_at, dword_at, modrm_at}

pub dword_at-dword : (n : ℕ) (rest : List ℕ) → n < 2 ^ 32 → dword_at (dword n ++ rest) ≡ Some (n, rest)
unfolding dword_at
dword_at-dword n rest lt =
    let long : ltb (length (dword n ++ rest)) 4 ≡ false = le-ltb _ _ (omega (arith, length-append (dword n) rest)) in
    let same : from_le_bytes w32 (dword n) ≡ n = from_le_bytes-to_le_bytes_4 n lt in
    rw (long, same) refl

-- a byte of three parts
top : (t m l : ℕ) → m < 8 → l < 8 → packed t m l / 64 ≡ t
top t m l p q = omega arith

middle : (t m l : ℕ) → m < 8 → l < 8 → packed t m l / 8 % 8 ≡ m
middle t m l p q = omega arith

low : (t m l : ℕ) → l < 8 → packed t m l % 8 ≡ l
low t m l q = omega arith

pub modrm_at-modrm : (n : ℕ) (m : Operand) (rest : List ℕ) → n < 8 → IsOperand m → modrm_at (modrm n m ++ rest) ≡ Some (n, m, rest)
unfolding modrm_at byte_at
modrm_at-modrm n (Reg m) rest lt fit = rw (top 3 n m lt fit.0, middle 3 n m lt fit.0, low 3 n m fit.0) refl
modrm_at-modrm n (Abs d) rest lt fit = rw (top 0 n 5 lt (omega arith), low 0 n 5 (omega arith), dword_at-dword d rest fit, middle 0 n 5 lt (omega arith)) refl
modrm_at-modrm n (Base b d) rest lt fit =
    let not4 : eqb b 4 ≡ false = ne_eqb b 4 fit.0.1 in
    rw (top 2 n b lt fit.0.0, low 2 n b fit.0.0, not4, dword_at-dword d rest fit.1, middle 2 n b lt fit.0.0) refl
modrm_at-modrm n (Pair b x s d) rest lt fit =
    rw (top 2 n 4 lt (omega arith), low 2 n 4 (omega arith), dword_at-dword d rest fit.3, middle 2 n 4 lt (omega arith), low s x b fit.0.0, middle s x b fit.1.0 fit.0.0, top s x b fit.1.0 fit.0.0) refl
