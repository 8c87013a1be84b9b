-- Which locations are live before a code word: liveness of compilers, over the code words of a program. These stand one
-- behind another from the address `first` on, and are named by their places, counted from 0.
use Rattle.std.specs.Prelude.{◌≡◌, ℕ, ◌+◌, ◌-◌, ◌/◌, ◌<◌, ◌^◌, ◌⊎◌, ◌↔◌, List, [], ◌∷◌, IsTrue, Bool, true, false, not, ◌==◌, ◌&&◌, Contains, IsBitSet, length, slice_index, slice_index_or, if◌then◌else◌}
use Rattle.machines.specs.Prelude.{Instr, Branch, BranchConditional, BranchRegister, SystemCall, IsWordOf, bo_0, bo_2, locations_read, locations_written}
use Rattle.block_find.specs.Prelude.{Names, address_of}

-- there are 46 locations
abbrev pub IsLocation : ℕ → Type 0
IsLocation l = l < 46

-- an indirect branch may lead to any code word; a system call may look at all
abbrev pub leads_anywhere : Instr → Bool
leads_anywhere (BranchRegister op bo bi link) = true
leads_anywhere _ = false

abbrev pub is_call : Instr → Bool
is_call SystemCall = true
is_call _ = false

-- The location counts as read at the instruction, before what this writes: the instruction reads it; or it leads anywhere,
-- where all locations count as read; or it is a call, behind which they do, and doesn't write the location.
pub data CountsAsRead (instr : Instr) (l : ℕ) : Type 0 where
  named : Contains (locations_read instr) l → CountsAsRead instr l
  anywhere : IsTrue (leads_anywhere instr) → IsLocation l → CountsAsRead instr l
  behind_call : IsTrue (is_call instr) → IsLocation l → ¬ (Contains (locations_written instr) l) → CountsAsRead instr l

-- BO says that the branch is taken whatever CR and CTR hold (Power ISA Book I, 2.4: BO is 1z1zz)
abbrev pub is_always : ℕ → Bool
is_always bo = (bo_0 bo == 1) && (bo_2 bo == 1)

-- the instruction behind this one may be the next, a trap's among them; b and branches that are always taken have none
abbrev pub falls_through : Instr → Bool
falls_through (Branch target absolute link) = false
falls_through (BranchConditional bo bi target absolute link) = not (is_always bo)
falls_through (BranchRegister op bo bi link) = not (is_always bo)
falls_through _ = true

-- The same of the instruction of code word k. An illegal word reads and writes nothing, and nothing comes behind it.
pub record IsRead (words : List ℕ) (k l : ℕ) : Type 0 where
  pub instr : Instr
  pub spelled : IsWordOf (slice_index words k) instr
  pub counts : CountsAsRead instr l

pub record IsWritten (words : List ℕ) (k l : ℕ) : Type 0 where
  pub instr : Instr
  pub spelled : IsWordOf (slice_index words k) instr
  pub writes : Contains (locations_written instr) l

pub record FallsThrough (words : List ℕ) (k : ℕ) : Type 0 where
  pub instr : Instr
  pub spelled : IsWordOf (slice_index words k) instr
  pub falls : IsTrue (falls_through instr)

-- code word s may come behind code word p: it is the next one, or the one that a b or bc names
abbrev pub Leads : ℕ → List ℕ → ℕ → ℕ → Type 0
Leads first words p s = (p < length words) × (s < length words) × ((FallsThrough words p × (s ≡ p + 1)) ⊎ Names first words p s)

-- A path of code words begins with word k, and the others are these. The location is read at its last word, and written at
-- none before.
abbrev pub IsPath : (ℕ → ℕ → Type 0) → (ℕ → Type 0) → (ℕ → Type 0) → ℕ → List ℕ → Type 0
IsPath leads reads writes k [] = reads k
IsPath leads reads writes k (s ∷ later) = ¬ (writes k) × leads k s × IsPath leads reads writes s later

-- the location is live before code word k
abbrev pub IsLive : ℕ → List ℕ → ℕ → ℕ → Type 0
IsLive first words l k =
    (later : List ℕ) × IsPath (Leads first words) (λ p. (p < length words) × IsRead words p l) (λ p. IsWritten words p l) k later

-- the live sets of all code words: where the first one stands, and for each one the number whose bits are the locations that
-- are live before it
pub record Sets : Type 0 where
  pub first : ℕ
  pub bits : List ℕ

pub record AreLive (first : ℕ) (words : List ℕ) (sets : Sets) : Type 0 where
  pub first_is : sets.first ≡ first
  pub count : length sets.bits ≡ length words
  pub within : (k : ℕ) → k < length words → slice_index sets.bits k < 2 ^ 46
  pub each : (k l : ℕ) → k < length words → IsBitSet (slice_index sets.bits k) l ↔ IsLive first words l k

-- the bits of the locations that are live before the word at a guest address; where no code word stands there are none
abbrev pub live_at : Sets → ℕ → ℕ
live_at sets address =
    let k = (address - sets.first) / 4 in
    if address == address_of sets.first k then slice_index_or sets.bits k 0 else 0
