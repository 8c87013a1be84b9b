-- Leaders as they are found: first those that words mark, and then those behind 64 words. No public clause cites these.
use Rattle.std.specs.Prelude.{◌≡◌, ℕ, ◌+◌, ◌-◌, ◌<◌, ◌≤◌, List, ◌⊎◌, ◌↔◌, Bool, ◌||◌, ◌==◌, if◌then◌else◌, length}
use Rattle.block_find.specs.Branches.{IsFlow, Names}
use Rattle.block_find.specs.Blocks.{most, IsIn}

-- why word k is marked once `bound` words have been looked at
pub data Marks (first entry : ℕ) (words : List ℕ) (bound k : ℕ) : Type 0 where
  zeroth : k ≡ 0 → Marks first entry words bound k
  starts : k ≡ entry → Marks first entry words bound k
  named : (p : ℕ) → p < bound → Names first words p k → Marks first entry words bound k
  behind_flow : (p : ℕ) → p < bound → IsFlow words p → p + 1 ≡ k → Marks first entry words bound k

pub record AreMarked (first entry : ℕ) (words : List ℕ) (bound : ℕ) (marks : List Bool) : Type 0 where
  pub count : length marks ≡ length words
  pub each : (k : ℕ) → IsIn marks k ↔ (k < length words) × Marks first entry words bound k

-- the last leader before word k is 64 words back
abbrev pub IsFar : List Bool → ℕ → Type 0
IsFar leads k = (j : ℕ) × (j + most ≡ k) × IsIn leads j × ((i : ℕ) → j < i → i < k → ¬ (IsIn leads i))

-- the leaders among the first words, the last of which is `run` words back
pub record AreCut (marks leads : List Bool) (place run : ℕ) : Type 0 where
  pub count : length leads ≡ place
  pub short : run ≤ most
  pub within : run ≤ place
  pub started : 0 < place → 0 < run
  pub last : 0 < run → IsIn leads (place - run)
  pub none_behind : (j : ℕ) → place - run < j → j < place → ¬ (IsIn leads j)
  pub each : (k : ℕ) → k < place → IsIn leads k ↔ IsIn marks k ⊎ IsFar leads k

-- the places that are asked for are marked besides, as far as there are such words
abbrev pub Gains : List Bool → (ℕ → Type 0) → List Bool → Type 0
Gains before adds after = (k : ℕ) → IsIn after k ↔ IsIn before k ⊎ ((k < length before) × adds k)

-- how many words there are from the last leader up to and with the next word
abbrev pub next_run_of : Bool → ℕ → ℕ
next_run_of is_marked run = if (is_marked || (run == 64)) then 1 else run + 1
