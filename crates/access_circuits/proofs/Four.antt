-- The members of a list of four.
use Rattle.std.proofs.Common.{ℕ, zero, suc, ◌<◌, List, [], ◌∷◌, slice_index_or, arith}
use Rattle.circuit.specs.declared.literals.Lit.{Lit}

pub four : (P : ℕ → List Lit → Type 0) (b0 b1 b2 b3 : List Lit) → P 0 b0 → P 1 b1 → P 2 b2 → P 3 b3 → (k : ℕ) → k < 4 → P k (slice_index_or (b0 ∷ b1 ∷ b2 ∷ b3 ∷ []) k [])
four P b0 b1 b2 b3 p0 p1 p2 p3 zero l = p0
four P b0 b1 b2 b3 p0 p1 p2 p3 (suc zero) l = p1
four P b0 b1 b2 b3 p0 p1 p2 p3 (suc (suc zero)) l = p2
four P b0 b1 b2 b3 p0 p1 p2 p3 (suc (suc (suc zero))) l = p3
four P b0 b1 b2 b3 p0 p1 p2 p3 (suc (suc (suc (suc k)))) l = absurd (omega (arith, l))
