-- What accesses do to memory, and a memory as the oracle that answers loads. This project's own.
use Rattle.std.specs.Prelude.{◌≡◌, ◌⊎◌, ◌≤◌, ◌<◌, ◌+◌, ◌%◌, ◌^◌, ℕ, Bool, true, nat_lt, if◌then◌else◌, List, [], ◌∷◌, length, Contains}
use Rattle.std.specs.List.{All, flat_map}
use Rattle.machines.specs.Prelude.{store_big}
use Rattle.symbolic_tiles.specs.Prelude.{span}
use Rattle.row_runs.specs.Accesses.{Accessed}

-- the addresses of the bytes that an access loads, and of those that it stores
abbrev pub loads_at : Accessed → List ℕ
loads_at x = if x.loads then span x.width x.address else []

abbrev pub stores_at : Accessed → List ℕ
stores_at x = if x.loads then [] else span x.width x.address

-- memory behind an access, and behind accesses one after another
abbrev pub behind_access : Accessed → (ℕ → ℕ) → ℕ → ℕ
behind_access x bytes = if x.loads then bytes else store_big x.width x.address x.stored bytes

unfoldable pub behind_accesses : List Accessed → (ℕ → ℕ) → ℕ → ℕ
behind_accesses [] bytes = bytes
behind_accesses (x ∷ xs) bytes = behind_accesses xs (behind_access x bytes)

-- A memory answers loads with the bytes that stand there, and with zeros past so many of them.
abbrev pub seen : ℕ → (ℕ → ℕ) → ℕ → ℕ → ℕ
seen width memory address k = if nat_lt k width then memory ((address + k) % 2 ^ 32) else 0

-- an oracle answers each load of these with the bytes of a memory
abbrev pub AreFound : (ℕ → ℕ → ℕ) → (ℕ → ℕ) → List Accessed → Type 0
AreFound oracle memory accesses = All (λ x. x.loads ≡ true → (k : ℕ) → k < x.width → oracle x.address k ≡ memory ((x.address + k) % 2 ^ 32)) accesses

-- there is one access at most, and a load has so many bytes
pub record IsOneAccess (width : ℕ) (accesses : List Accessed) : Type 0 where
  pub few : length accesses ≤ 1
  pub loads : All (λ x. x.loads ≡ true → x.width ≡ width) accesses

-- each byte that is loaded may be read, and each that is stored may be written
pub record AreInside (held writable : ℕ → Bool) (accesses : List Accessed) : Type 0 where
  pub loaded : (a : ℕ) → Contains (flat_map loads_at accesses) a → held a ≡ true
  pub stored : (a : ℕ) → Contains (flat_map stores_at accesses) a → writable a ≡ true

-- no byte that is loaded or stored lies in the home page
pub record AreAway (area : ℕ) (accesses : List Accessed) : Type 0 where
  pub loaded : (a : ℕ) → Contains (flat_map loads_at accesses) a → (a < area) ⊎ (area + 4096 ≤ a)
  pub stored : (a : ℕ) → Contains (flat_map stores_at accesses) a → (a < area) ⊎ (area + 4096 ≤ a)
