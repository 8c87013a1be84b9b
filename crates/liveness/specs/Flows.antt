-- What liveness needs of the code words, read once: sets of locations as numbers, and the words that may come behind.
use Rattle.std.specs.Prelude.{◌≡◌, ℕ, ◌+◌, ◌<◌, ◌^◌, ◌⊎◌, ◌↔◌, List, IsTrue, false, length, slice_index_or}
use Rattle.std.specs.Int.{bit_at}
use Rattle.block_find.specs.Prelude.{Names}
use Rattle.liveness.specs.Live as live
use Rattle.liveness.specs.Live.{IsRead, IsWritten, FallsThrough}
use Rattle.liveness.specs.declared.flow.Flow.{Flow}

-- the location is in the set
abbrev pub Has : ℕ → ℕ → Type 0
Has set l = bit_at set l ≡ 1

abbrev pub nothing : Flow
nothing = record { reads = 0; writes = 0; falls = false; target = 0 }

abbrev pub flow_at : List Flow → ℕ → Flow
flow_at flows k = slice_index_or flows k nothing

-- word s may come behind word p: it is the next one, or the one that p names
abbrev pub Leads : List Flow → ℕ → ℕ → Type 0
Leads flows p s = (p < length flows) × (s < length flows) × ((IsTrue (flow_at flows p).falls × (s ≡ p + 1)) ⊎ ((flow_at flows p).target ≡ s))

abbrev pub IsPath : List Flow → ℕ → ℕ → List ℕ → Type 0
IsPath flows l = live.IsPath (Leads flows) (λ k. (k < length flows) × Has (flow_at flows k).reads l) (λ k. Has (flow_at flows k).writes l)

abbrev pub IsLive : List Flow → ℕ → ℕ → Type 0
IsLive flows l k = (later : List ℕ) × IsPath flows l k later

-- what code word p is to be
pub record IsFlowOf (first : ℕ) (words : List ℕ) (p : ℕ) (flow : Flow) : Type 0 where
  pub reads : (l : ℕ) → Has flow.reads l ↔ IsRead words p l
  pub few : flow.reads < 2 ^ 46
  pub writes : (l : ℕ) → Has flow.writes l ↔ IsWritten words p l
  pub falls : IsTrue flow.falls ↔ FallsThrough words p
  pub names : (s : ℕ) → s < length words → flow.target ≡ s ↔ Names first words p s

-- the same of the first so many words, and of all
pub record AreFlowsTo (first : ℕ) (words : List ℕ) (bound : ℕ) (flows : List Flow) : Type 0 where
  pub count : length flows ≡ bound
  pub each : (p : ℕ) → p < bound → IsFlowOf first words p (flow_at flows p)

abbrev pub AreFlowsOf : ℕ → List ℕ → List Flow → Type 0
AreFlowsOf first words flows = AreFlowsTo first words (length words) flows
