-- Formulas as lists of clauses: a literal is the number of a variable, with a minus where it is negated.
use Rattle.std.specs.Prelude.{ℕ, suc, ◌^◌, ◌<◌, ◌≤◌, Bool, not, IsTrue, List, ℤ, pos, negsuc}
use Rattle.std.specs.List.{All, Any}
use Rattle.word_kit.specs.declared.formulas.Formula.{Formula}

abbrev pub variable : ℤ → ℕ
variable (pos n) = n
variable (negsuc n) = suc n

-- nonzero and above -2^31
pub record IsLiteral (literal : ℤ) : Type 0 where
  pub nonzero : 0 < variable literal
  pub within : variable literal < 2 ^ 31

abbrev pub AreClauses : List (List ℤ) → Type 0
AreClauses clauses = All (λ clause. All IsLiteral clause) clauses

-- the variables of a formula are those from 1 to `variables`
pub record IsFormula (f : Formula) : Type 0 where
  pub literals : AreClauses f.clauses
  pub named : All (λ clause. All (λ literal. variable literal ≤ f.variables) clause) f.clauses

-- whether a literal is true where the variables have these values
abbrev pub literal_truth : ℤ → (ℕ → Bool) → Bool
literal_truth (pos n) values = values n
literal_truth (negsuc n) values = not (values (suc n))

-- each clause has a true literal
abbrev pub Satisfies : (ℕ → Bool) → List (List ℤ) → Type 0
Satisfies values clauses = All (λ clause. Any (λ literal. IsTrue (literal_truth literal values)) clause) clauses
