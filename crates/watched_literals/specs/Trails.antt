-- Literals that are made true one after the other, and how the clauses stand then.
use Rattle.std.specs.Prelude.{◌≡◌, ◌≢◌, ◌⊎◌, ◌++◌, ◌+◌, ◌≤◌, ℕ, Bool, true, false, not, List, [], ℤ, neg_ℤ, length}
use Rattle.std.specs.List.{All, Contains, filter, flat_map, list_any}
use Rattle.std.specs.Ordering.{int_eq}
use Rattle.std.specs.declared.option.Option.{Option}
use Rattle.std.specs.declared.option.Option.TheVariants.{None, Some}
use Rattle.word_kit.specs.Prelude.{IsLiteral}
use Rattle.watched_literals.specs.Propagation.{IsMadeTrue, HasConflict, Follows}

-- no literal is true with its opposite
abbrev pub IsConsistent : List ℤ → Type 0
IsConsistent trail = (literal : ℤ) → Contains trail literal → ¬ Contains trail (neg_ℤ literal)

abbrev pub AreMadeTrue : List (List ℤ) → List ℤ → List ℤ → Type 0
AreMadeTrue clauses falses trail = (literal : ℤ) → Contains trail literal → IsMadeTrue clauses falses literal

-- a clause that makes nothing true: one of its literals is true, or two of them aren't made false by what was visited
abbrev pub IsSettled : List ℤ → List ℤ → List ℤ → Type 0
IsSettled visited trail clause =
    ((literal : ℤ) × Contains clause literal × Contains trail literal)
    ⊎ ((one : ℤ) × (other : ℤ) × (one ≢ other) × Contains clause one × Contains clause other
    × (¬ Contains visited (neg_ℤ one)) × (¬ Contains visited (neg_ℤ other)))

abbrev pub AllSettled : List (List ℤ) → List ℤ → List ℤ → Type 0
AllSettled clauses visited trail = (clause : List ℤ) → Contains clauses clause → IsSettled visited trail clause

-- all literals of the clause but this one are false, and this one is neither true nor false
pub record IsUnit (trail clause : List ℤ) (literal : ℤ) : Type 0 where
  pub inside : Contains clause literal
  pub not_true : ¬ Contains trail literal
  pub not_false : ¬ Contains trail (neg_ℤ literal)
  pub others : (other : ℤ) → Contains clause other → other ≢ literal → Contains trail (neg_ℤ other)

abbrev pub IsFalse : List ℤ → List ℤ → Type 0
IsFalse trail clause = (literal : ℤ) → Contains clause literal → Contains trail (neg_ℤ literal)

-- the one literal that isn't false, if there is one; it isn't true either
abbrev pub Leaves : List ℤ → List ℤ → Option ℤ → Type 0
Leaves trail clause None = IsFalse trail clause
Leaves trail clause (Some literal) = IsUnit trail clause literal

-- how many of the clauses' literals aren't true
abbrev pub unset : List (List ℤ) → List ℤ → ℕ
unset clauses trail = length (filter (λ literal. not (list_any (int_eq literal) trail)) (flat_map (λ clause. clause) clauses))

abbrev pub Extends : List ℤ → List ℤ → Type 0
Extends old new = (more : List ℤ) × (new ≡ old ++ more)

-- a trail grows by what the clauses make true
pub record Grows (clauses : List (List ℤ)) (old new : List ℤ) : Type 0 where
  pub extends : Extends old new
  pub made : (falses : List ℤ) → AreMadeTrue clauses falses old → AreMadeTrue clauses falses new
  pub consistent : IsConsistent old → IsConsistent new
  pub literals : All IsLiteral old → All IsLiteral new
  pub measured : unset clauses new + length new ≤ unset clauses old + length old

-- the clauses make one of them false, from what is on the trail
abbrev pub Refutes : List (List ℤ) → List ℤ → Type 0
Refutes clauses trail = (falses : List ℤ) → AreMadeTrue clauses falses trail → HasConflict clauses falses

-- the opposites of the literals are made true, where the clauses alone made the trail true before
pub record IsDenied (clause done old new : List ℤ) : Type 0 where
  pub extends : Extends old new
  pub made : (clauses : List (List ℤ)) → AreMadeTrue clauses [] old → AreMadeTrue clauses clause new
  pub consistent : IsConsistent old → IsConsistent new
  pub literals : All IsLiteral old → All IsLiteral new
  pub denied : (literal : ℤ) → Contains done literal → Contains new (neg_ℤ literal)

-- what setting the literals of a clause to false does to the trail, and whether one of them is true
abbrev pub Denies : List ℤ → List ℤ → List ℤ → Bool → Type 0
Denies clause old new true = ((clauses : List (List ℤ)) → AreMadeTrue clauses [] old → Follows clauses clause) × Extends old new
Denies clause old new false = IsDenied clause clause old new
