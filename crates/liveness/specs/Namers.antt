-- The words that name a word, from the last to the first.
use Rattle.std.specs.Prelude.{◌≡◌, ◌≢◌, ℕ, ◌-◌, ◌<◌, ◌≤◌, List, length, slice_index}
use Rattle.liveness.specs.declared.flow.Flow.{Flow}
use Rattle.liveness.specs.Flows.{flow_at}

-- Word x - 1 is the last of the words before `bound` that names word t. At 0 there is none.
pub record IsLast (flows : List Flow) (t bound x : ℕ) : Type 0 where
  pub within : x ≤ bound
  pub names : 0 < x → (flow_at flows (x - 1)).target ≡ t
  pub none_behind : (p : ℕ) → x ≤ p → p < bound → (flow_at flows p).target ≢ t

-- the last word that names each word, and for each word the last one before it that names the same word
pub record AreNamers (flows : List Flow) (bound : ℕ) (last before : List ℕ) : Type 0 where
  pub lasts : length last ≡ length flows
  pub befores : length before ≡ length flows
  pub each : (t : ℕ) → t < length flows → IsLast flows t bound (slice_index last t)
  pub earlier : (p : ℕ) → p < bound → (flow_at flows p).target < length flows → IsLast flows (flow_at flows p).target p (slice_index before p)
