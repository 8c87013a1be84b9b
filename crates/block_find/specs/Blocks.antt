-- Which code words begin a block, and how far a block runs. Basic blocks of compilers, but of 64 words at most: this
-- project's own. The code words stand one behind another from the address `first` on, and are named by their places, counted from 0.
use Rattle.std.specs.Prelude.{◌≡◌, ℕ, ◌+◌, ◌-◌, ◌<◌, ◌≤◌, List, ◌↔◌, Bool, true, false, not, length, slice_index_or, filter, map, take, drop}
use Rattle.std.specs.List.{range_with_len}
use Rattle.block_find.specs.Branches.{IsFlow, Names, address_of}
use Rattle.block_find.specs.declared.block.Block.{Block}
use Rattle.block_find.specs.declared.block.Blocks.{Blocks}
use Rattle.block_find.specs.declared.spans.Run.{Run}

-- a block has at most this many words
abbrev pub most : ℕ
most = 64

-- Where L are the leaders, a block that begins with word k may end with its word number m, counted from 1: this is a
-- flow word, or the next one is a leader, or it is number 64, or no word comes behind it.
pub data MayEnd (words : List ℕ) (L : ℕ → Type 0) (k m : ℕ) : Type 0 where
  flow : IsFlow words (k + m - 1) → MayEnd words L k m
  leader : L (k + m) → MayEnd words L k m
  full : m ≡ most → MayEnd words L k m
  over : k + m ≡ length words → MayEnd words L k m

-- the block that begins with word k has m words: it ends with the first word with which it may
pub record IsBlock (words : List ℕ) (L : ℕ → Type 0) (k m : ℕ) : Type 0 where
  pub some : 1 ≤ m
  pub within : k + m ≤ length words
  pub ends : MayEnd words L k m
  pub not_before : (j : ℕ) → 1 ≤ j → j < m → ¬ (MayEnd words L k j)

-- Why word k is a leader: it is the first word, the entry, a word that a branch names, the word behind a flow word, or
-- the word behind a leader's block of 64 words. The last of these speaks of leaders below k alone.
pub data Begins (first entry : ℕ) (words : List ℕ) (L : ℕ → Type 0) (k : ℕ) : Type 0 where
  zeroth : k ≡ 0 → Begins first entry words L k
  starts : k ≡ entry → Begins first entry words L k
  named : (p : ℕ) → p < length words → Names first words p k → Begins first entry words L k
  behind_flow : (p : ℕ) → p < length words → IsFlow words p → p + 1 ≡ k → Begins first entry words L k
  behind_full : (p : ℕ) → L p → IsBlock words L p most → p + most ≡ k → Begins first entry words L k

-- L are the leaders: the words that have a reason to be one
pub record AreLeaders (first entry : ℕ) (words : List ℕ) (L : ℕ → Type 0) : Type 0 where
  pub each : (k : ℕ) → L k ↔ (k < length words) × Begins first entry words L k

-- the words at which a list says so
abbrev pub IsIn : List Bool → ℕ → Type 0
IsIn leads k = slice_index_or leads k false ≡ true

abbrev pub past : ℕ → Run
past at = record { at = at; count = 0 }

-- where run i of a list begins; past the last one, where the next would begin
abbrev pub start : List Run → ℕ → ℕ → ℕ
start runs next i = (slice_index_or runs i (past next)).at

abbrev pub count_of : List Run → ℕ → ℕ → ℕ
count_of runs next i = (slice_index_or runs i (past next)).count

-- a list of blocks of leaders that stand one behind another, from word 0 up to word `next`
pub record AreBlocks (words : List ℕ) (L : ℕ → Type 0) (runs : List Run) (next : ℕ) : Type 0 where
  pub from_first : start runs next 0 ≡ 0
  pub leads : (i : ℕ) → i < length runs → L (start runs next i)
  pub ends : (i : ℕ) → i < length runs → IsBlock words L (start runs next i) (count_of runs next i)
  pub adjoins : (i : ℕ) → i < length runs → start runs next i + count_of runs next i ≡ start runs next (i + 1)

-- the blocks of all leaders, ascending: each begins with a leader, and each leader begins one
pub record AreAllBlocks (words : List ℕ) (L : ℕ → Type 0) (runs : List Run) : Type 0 where
  pub are : AreBlocks words L runs (length words)
  pub ascending : (i j : ℕ) → i < j → j < length runs → start runs (length words) i < start runs (length words) j
  pub every : (k : ℕ) → L k → (i : ℕ) × (i < length runs) × (start runs (length words) i ≡ k)

-- word k is in run i
abbrev pub IsInRun : List ℕ → List Run → ℕ → ℕ → Type 0
IsInRun words runs i k = (i < length runs) × (start runs (length words) i ≤ k) × (k < start runs (length words) i + count_of runs (length words) i)

-- the runs divide the words, and none has more than 64
pub record Divide (words : List ℕ) (runs : List Run) : Type 0 where
  pub covered : (k : ℕ) → k < length words → (i : ℕ) × IsInRun words runs i k
  pub once : (i j k : ℕ) → IsInRun words runs i k → IsInRun words runs j k → i ≡ j
  pub short : (i : ℕ) → i < length runs → count_of runs (length words) i ≤ most

-- the words below n that aren't leaders, ascending, each as a run of its own
abbrev pub alone : ℕ → Run
alone k = record { at = k; count = 1 }

abbrev pub singles_of : List Bool → ℕ → List Run
singles_of leads n = map alone (filter (λ k. not (slice_index_or leads k false)) (range_with_len 0 n))

-- the run's words are among n words
abbrev pub IsWithin : ℕ → Run → Type 0
IsWithin n run = run.at + run.count ≤ n

-- a run with its address and its words
abbrev pub block_of : ℕ → List ℕ → Run → Block
block_of first words run = record { at = address_of first run.at; words = take run.count (drop run.at words) }

-- The leader blocks and the singles of code words of which the one at the place `entry` is the program's entry: there are
-- places that are the leaders, and runs that are their blocks.
pub record AreBlocksOf (first entry : ℕ) (words : List ℕ) (blocks : Blocks) : Type 0 where
  pub leads : List Bool
  pub runs : List Run
  pub count : length leads ≡ length words
  pub leaders : AreLeaders first entry words (IsIn leads)
  pub runs_are : AreAllBlocks words (IsIn leads) runs
  pub divide : Divide words runs
  pub leaders_are : blocks.leaders ≡ map (block_of first words) runs
  pub singles_are : blocks.singles ≡ map (block_of first words) (singles_of leads (length words))
