-- The GPRs that a block's maps may hold, this project's own: its candidates, in their order.
use Rattle.std.specs.Prelude.{◌≡◌, ◌⊎◌, ◌↔◌, ℕ, suc, ◌<◌, ◌==◌, not, List, [], ◌∷◌, ◌++◌, Bool, true, false, Option, Some, None, Contains, AllPairs, filter, take}
use Rattle.machines.specs.Prelude.{Instr, Map, IsWordOf, locations_read, locations_written}

-- the word reads or writes the GPR; an illegal word does neither
pub record Uses (word g : ℕ) : Type 0 where
  pub instr : Instr
  pub spelled : IsWordOf word instr
  pub uses : Contains (locations_read instr) g ⊎ Contains (locations_written instr) g

-- so many of the words do
abbrev pub IsCount : List ℕ → ℕ → ℕ → Type 0
IsCount [] g n = n ≡ 0
IsCount (word ∷ words) g n = (Uses word g × ((m : ℕ) × IsCount words g m × (n ≡ suc m))) ⊎ (¬ (Uses word g) × IsCount words g n)

-- g is used by more words than h, or by as many and has the lower number
abbrev pub IsUsedBefore : List ℕ → ℕ → ℕ → Type 0
IsUsedBefore words g h = (m n : ℕ) → IsCount words g m → IsCount words h n → (n < m) ⊎ ((m ≡ n) × (g < h))

-- the GPRs that the words use, in order of use
pub record AreInOrderOfUse (words gprs : List ℕ) : Type 0 where
  pub each : (g : ℕ) → Contains gprs g ↔ (g < 32) × ((word : ℕ) × Contains words word × Uses word g)
  pub in_order : AllPairs (IsUsedBefore words) gprs

abbrev pub held : Option ℕ → List ℕ
held None = []
held (Some g) = g ∷ []

-- the GPRs of a map, in the order of its slots
abbrev pub held_by : Map → List ℕ
held_by m = held m.ebx ++ held m.esi ++ held m.edi

-- each once, at its first place
abbrev pub firsts : List ℕ → List ℕ
firsts [] = []
firsts (g ∷ gprs) = g ∷ filter (λ h. not (h == g)) (firsts gprs)

-- Those of a leader's block are the GPRs of its entry map, then those of its exit map, then those that its words use, six at
-- most. A word that stands alone has none.
abbrev pub AreCandidates : List ℕ → Map → Map → Bool → List ℕ → Type 0
AreCandidates words entry exit true candidates =
    (used : List ℕ) × AreInOrderOfUse words used × (candidates ≡ take 6 (firsts (held_by entry ++ held_by exit ++ used)))
AreCandidates words entry exit false candidates = candidates ≡ []
