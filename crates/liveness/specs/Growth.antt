-- Sets that grow towards the live ones. These are what the loops keep; no public clause cites them.
use Rattle.std.specs.Prelude.{◌≡◌, ◌≢◌, ℕ, ◌+◌, ◌-◌, ◌*◌, ◌^◌, ◌<◌, ◌⊎◌, List, Bool, true, false, length, slice_index, slice_index_or, Contains, Option, Some, None, ◌↔◌}
use Rattle.std.specs.List.{sum_by}
use Rattle.liveness.specs.declared.flow.Flow.{Flow}
use Rattle.liveness.specs.Flows.{Has, flow_at, Leads, IsLive}

-- the word waits to be looked at
abbrev pub Waits : List Bool → ℕ → Type 0
Waits waiting s = slice_index_or waiting s false ≡ true

-- what is live before s and isn't written by p is in the set of p
abbrev pub IsClosed : List Flow → List ℕ → ℕ → ℕ → Type 0
IsClosed flows sets p s = (l : ℕ) → Has (slice_index sets s) l → ¬ (Has (flow_at flows p).writes l) → Has (slice_index sets p) l

abbrev pub IsSettled : List Flow → List ℕ → List Bool → ℕ → ℕ → Type 0
IsSettled flows sets waiting p s = IsClosed flows sets p s ⊎ Waits waiting s

-- each set has what its word reads, and nothing that isn't live
pub record IsUnder (flows : List Flow) (sets : List ℕ) (waiting : List Bool) (stack : List ℕ) : Type 0 where
  pub each_has_one : length sets ≡ length flows
  pub each_may_wait : length waiting ≡ length flows
  pub places : (k : ℕ) → k < length stack → slice_index stack k < length flows
  pub waits : (s : ℕ) → Waits waiting s → Contains stack s
  pub reads : (k l : ℕ) → k < length flows → Has (flow_at flows k).reads l → Has (slice_index sets k) l
  pub live : (k l : ℕ) → k < length flows → Has (slice_index sets k) l → IsLive flows l k

-- how far the sets may still grow, and how many words wait
abbrev pub room : List ℕ → ℕ
room sets = sum_by (λ set. 2 ^ 64 - set) sets

abbrev pub work : List ℕ → List ℕ → ℕ
work sets stack = 2 * room sets + length stack

abbrev pub Unwritten : ℕ → ℕ → ℕ → Type 0
Unwritten set writes l = Has set l × ¬ (Has writes l)

-- what has been made of the first words when all of them are to wait
pub record IsStart (flows : List Flow) (bound : ℕ) (sets : List ℕ) (waiting : List Bool) (stack : List ℕ) : Type 0 where
  pub each_has_one : length sets ≡ bound
  pub each_waits : length waiting ≡ bound
  pub each_stands : length stack ≡ bound
  pub reads : (k l : ℕ) → k < bound → Has (slice_index sets k) l ↔ Has (flow_at flows k).reads l
  pub waits : (k : ℕ) → k < bound → Waits waiting k
  pub places : (k : ℕ) → k < bound → slice_index stack k ≡ k

-- all that could be settled is, and no word waits; or a word waits no more, and what leads to the others is settled
abbrev pub Takes : List Flow → List ℕ → List ℕ → List ℕ → List Bool → List ℕ → Option ℕ → Type 0
Takes flows before stack_before sets waiting stack None = (sets ≡ before) × IsUnder flows sets waiting stack × ((p s : ℕ) → Leads flows p s → IsClosed flows sets p s)
Takes flows before stack_before sets waiting stack (Some place) = (place < length flows) × IsUnder flows sets waiting stack
    × ((p s : ℕ) → Leads flows p s → s ≢ place → IsSettled flows sets waiting p s) × (work sets stack < work before stack_before)
