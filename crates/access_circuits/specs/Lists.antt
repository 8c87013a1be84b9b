-- Accesses over gates, and the accesses that they mean.
use Rattle.std.specs.Prelude.{◌≡◌, ◌<◌, ◌≤◌, ℕ, Bool, false, List, [], length, get_or}
use Rattle.circuit.specs.Prelude.{word_value, word_reach_below}
use Rattle.row_runs.specs.Accesses.{Accessed}
use Rattle.access_circuits.specs.declared.accesses.AccessWords.{AccessWords}

abbrev pub no_access : Accessed
no_access = record { loads = false; width = 0; address = 0; stored = 0 }

abbrev pub no_words : AccessWords
no_words = record { loads = false; width = 0; address = []; stored = [] }

-- the words mean this access under an assignment
pub record IsAccess (w : ℕ → Bool) (x : AccessWords) (a : Accessed) : Type 0 where
  pub loads : x.loads ≡ a.loads
  pub width : x.width ≡ a.width
  pub address : word_value 32 x.address w ≡ a.address
  pub stored : word_value 32 x.stored w ≡ a.stored

pub record AreAccesses (w : ℕ → Bool) (xs : List AccessWords) (accesses : List Accessed) : Type 0 where
  pub count : length xs ≡ length accesses
  pub each : (k : ℕ) → k < length xs → IsAccess w (get_or xs k no_words) (get_or accesses k no_access)

pub record AccessesOwned (extent : ℕ) (xs : List AccessWords) : Type 0 where
  pub address : (k : ℕ) → k < length xs → word_reach_below 32 (get_or xs k no_words).address ≤ extent
  pub stored : (k : ℕ) → k < length xs → word_reach_below 32 (get_or xs k no_words).stored ≤ extent

-- the first n accesses go the same way and are as wide
pub record AreShapedAlike (n : ℕ) (xs ys : List AccessWords) : Type 0 where
  pub loads : (k : ℕ) → k < n → (get_or xs k no_words).loads ≡ (get_or ys k no_words).loads
  pub width : (k : ℕ) → k < n → (get_or xs k no_words).width ≡ (get_or ys k no_words).width

pub record HaveSameShapes (xs ys : List AccessWords) : Type 0 where
  pub count : length xs ≡ length ys
  pub shapes : AreShapedAlike (length xs) xs ys
