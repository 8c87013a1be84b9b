-- Pairs of a circuit are those of a later one.
use Rattle.std.proofs.Common.{◌≡◌, ℕ, ◌≤◌, List, [], length, ap, arith}
use Rattle.circuit.specs.Prelude.{AreOwned}
use Rattle.circuit.specs.declared.literals.Lit.{Lit}

pub owned_later : (m n : ℕ) (pairs : List (Lit × Lit)) → m ≤ n → AreOwned m pairs → AreOwned n pairs
owned_later m n pairs l o = record { first = λ k h. let p = o.first k h in omega (arith, p, l); second = λ k h. let p = o.second k h in omega (arith, p, l) }

pub none_owned : (m : ℕ) (pairs : List (Lit × Lit)) → pairs ≡ [] → AreOwned m pairs
none_owned m pairs e = let n : length pairs ≡ 0 = ap length e in record { first = λ k l. absurd (omega (arith, n, l)); second = λ k l. absurd (omega (arith, n, l)) }
