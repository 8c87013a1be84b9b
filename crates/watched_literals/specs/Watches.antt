-- Two watched literals a clause, and how clauses stand.
use Rattle.std.specs.Prelude.{◌≡◌, ◌≢◌, ◌⊎◌, ◌<◌, ◌≤◌, ◌+◌, ◌++◌, ◌∷◌, [], ℕ, Bool, true, false, List, ℤ, pos, neg_ℤ, length, slice_index_or}
use Rattle.std.specs.List.{All, Contains}
use Rattle.watched_literals.specs.Propagation.{HasConflict}
use Rattle.watched_literals.specs.Trails.{AreMadeTrue, IsConsistent, Extends, unset}
use Rattle.watched_literals.specs.Literals.{code, IsWithin}
use Rattle.watched_literals.specs.declared.watches.Pair.{Pair}
use Rattle.watched_literals.specs.declared.propagator.Propagator.{Propagator}

abbrev pub IsWatch : Pair → ℤ → Type 0
IsWatch pair literal = (literal ≡ pair.one) ⊎ (literal ≡ pair.other)

abbrev pub no_pair : Pair
no_pair = record { one = pos 0; other = pos 0 }

-- the two watched literals of a clause
pub record IsPair (clause : List ℤ) (pair : Pair) : Type 0 where
  pub one_in : Contains clause pair.one
  pub other_in : Contains clause pair.other
  pub apart : pair.one ≢ pair.other

-- each clause has two watched literals, and stands in the row of each of them; where the literal is `off`, it may be among
-- the pending ones in place of that
pub record IsStore (room : ℕ) (clauses : List (List ℤ)) (pairs : List Pair) (rows : List (List ℕ)) (off : ℤ) (pending : List ℕ) : Type 0 where
  pub paired : length pairs ≡ length clauses
  pub rowed : length rows ≡ room
  pub within : (place : ℕ) → place < length clauses → All (IsWithin room) (slice_index_or clauses place [])
  pub watched : (place : ℕ) → place < length clauses → IsPair (slice_index_or clauses place []) (slice_index_or pairs place no_pair)
  pub bounded : (row place : ℕ) → Contains (slice_index_or rows row []) place → place < length clauses
  pub awaited : (place : ℕ) → Contains pending place → place < length clauses
  pub complete : (place : ℕ) → place < length clauses → (literal : ℤ) → IsWatch (slice_index_or pairs place no_pair) literal
      → Contains (slice_index_or rows (code literal) []) place ⊎ ((literal ≡ off) × Contains pending place)

-- the same of what a propagator keeps
abbrev pub IsStored : Propagator → ℤ → List ℕ → Type 0
IsStored s off pending = IsStore s.trail.room s.clauses.items s.pairs.items s.rows.items off pending

-- neither watched literal is false
abbrev pub IsFree : List ℤ → Pair → Type 0
IsFree trail pair = (¬ Contains trail (neg_ℤ pair.one)) × (¬ Contains trail (neg_ℤ pair.other))

-- a literal of the clause is true
abbrev pub IsTrueIn : List ℤ → List ℤ → Type 0
IsTrueIn trail clause = (literal : ℤ) × Contains clause literal × Contains trail literal

-- THE INVARIANT OF WATCHES: a clause one of whose watched literals was made false by what was visited has a true literal
abbrev pub AllWatched : List (List ℤ) → List Pair → List ℤ → List ℤ → Type 0
AllWatched clauses pairs visited trail =
    (place : ℕ) → place < length clauses → IsTrueIn trail (slice_index_or clauses place []) ⊎ IsFree visited (slice_index_or pairs place no_pair)

-- watches that aren't false under a part of this trail stay so, whichever part it is: so the invariant of watches holds of
-- each shorter trail as it did, and going back touches no watch
abbrev pub Moves : List ℤ → List Pair → List Pair → Type 0
Moves trail old new = (part : List ℤ) → ((literal : ℤ) → Contains part literal → Contains trail literal)
    → (place : ℕ) → IsFree part (slice_index_or old place no_pair) → IsFree part (slice_index_or new place no_pair)

-- clauses whose watched literal `off` is false are pending, or have a true literal
abbrev pub AreHandled : List (List ℤ) → ℤ → List Pair → List ℕ → List ℤ → Type 0
AreHandled clauses off pairs pending trail =
    (place : ℕ) → place < length clauses → IsWatch (slice_index_or pairs place no_pair) off
    → Contains pending place ⊎ IsTrueIn trail (slice_index_or clauses place [])

abbrev pub AreAmong : List (List ℤ) → List (List ℤ) → Type 0
AreAmong clauses known = (clause : List ℤ) → Contains clauses clause → Contains known clause

-- a trail grows by what the clauses make true, and with them any clauses that have these among them
pub record Rises (clauses : List (List ℤ)) (old new : List ℤ) : Type 0 where
  pub extends : Extends old new
  pub made : (known : List (List ℤ)) → AreAmong clauses known → (falses : List ℤ) → AreMadeTrue known falses old → AreMadeTrue known falses new
  pub consistent : IsConsistent old → IsConsistent new
  pub measured : unset clauses new + length new ≤ unset clauses old + length old

-- a clause becomes false, from what is on the trail
abbrev pub Fails : List (List ℤ) → List ℤ → Type 0
Fails clauses trail = (known : List (List ℤ)) → AreAmong clauses known → (falses : List ℤ) → AreMadeTrue known falses trail → HasConflict known falses

-- nothing is left to propagate
abbrev pub IsComplete : Propagator → Type 0
IsComplete s = AllWatched s.clauses.items s.pairs.items s.trail.literals s.trail.literals

-- the clauses, the room for literals, and whether the clauses are refuted, stay
pub record Keeps (old new : Propagator) : Type 0 where
  pub clauses : new.clauses.items ≡ old.clauses.items
  pub room : new.trail.room ≡ old.trail.room
  pub refuted : new.refuted ≡ old.refuted

-- what looking at a pending clause does
pub record Rewatches (off : ℤ) (place : ℕ) (old new : Propagator) (fails : Bool) : Type 0 where
  pub stored : IsStored new off new.pending
  pub moves : Moves old.trail.literals old.pairs.items new.pairs.items
  pub rises : Rises old.clauses.items old.trail.literals new.trail.literals
  pub handled : AreHandled old.clauses.items off old.pairs.items (old.pending ++ place ∷ []) old.trail.literals
      → AreHandled new.clauses.items off new.pairs.items new.pending new.trail.literals
  pub failure : fails ≡ true → Fails old.clauses.items old.trail.literals
  pub rest : fails ≡ false → new.pending ≡ old.pending

-- what visiting a literal that became true does
pub record Visits (literal : ℤ) (old new : Propagator) (fails : Bool) : Type 0 where
  pub stored : IsStored new (pos 0) []
  pub idle : new.pending ≡ []
  pub moves : Moves old.trail.literals old.pairs.items new.pairs.items
  pub rises : Rises old.clauses.items old.trail.literals new.trail.literals
  pub handled : fails ≢ true → AreHandled new.clauses.items (neg_ℤ literal) new.pairs.items [] new.trail.literals
  pub failure : fails ≡ true → Fails old.clauses.items old.trail.literals

-- what propagation does
pub record Propagates (old new : Propagator) (fails : Bool) : Type 0 where
  pub stored : IsStored new (pos 0) []
  pub idle : new.pending ≡ []
  pub moves : Moves old.trail.literals old.pairs.items new.pairs.items
  pub rises : Rises old.clauses.items old.trail.literals new.trail.literals
  pub watched : fails ≢ true → IsComplete new
  pub failure : fails ≡ true → Fails old.clauses.items old.trail.literals

-- one clause more is watched by these two literals
pub record Watches (clause : List ℤ) (pair : Pair) (old new : Propagator) : Type 0 where
  pub clauses : new.clauses.items ≡ old.clauses.items ++ clause ∷ []
  pub pairs : new.pairs.items ≡ old.pairs.items ++ pair ∷ []
  pub pending : new.pending ≡ old.pending
  pub stored : IsStored new (pos 0) []

-- the invariant of watches stays where it holds of a part of the trail
abbrev pub StaysWatched : Propagator → Propagator → Type 0
StaysWatched old new = (part : List ℤ) → ((literal : ℤ) → Contains part literal → Contains old.trail.literals literal)
    → AllWatched old.clauses.items old.pairs.items part part → AllWatched new.clauses.items new.pairs.items part part
