-- What the blocks say of the code words.
use Rattle.std.specs.Prelude.{◌≡◌, ℕ, ◌+◌, ◌*◌, ◌<◌, ◌≤◌, List, [], ◌++◌, length, slice_index, slice_index_or}
use Rattle.std.specs.List.{sum_by}
use Rattle.block_find.specs.Branches.{IsFlow, Names, address_of}
use Rattle.block_find.specs.Blocks.{most, AreBlocksOf}
use Rattle.block_find.specs.declared.block.Block.{Block}
use Rattle.block_find.specs.declared.block.Blocks.{Blocks}

-- block i of a list, where there is one
abbrev pub block_at : List Block → ℕ → Block
block_at blocks i = slice_index_or blocks i (record { at = 0; words = [] })

abbrev pub all_blocks : Blocks → List Block
all_blocks blocks = blocks.leaders ++ blocks.singles

-- the block has from 1 to 64 code words, those from word k on, and none but the last is a flow word
pub record IsBlockAt (first : ℕ) (words : List ℕ) (k : ℕ) (block : Block) : Type 0 where
  pub begins : block.at ≡ address_of first k
  pub some : 1 ≤ length block.words
  pub short : length block.words ≤ most
  pub within : k + length block.words ≤ length words
  pub each : (j : ℕ) → j < length block.words → slice_index block.words j ≡ slice_index words (k + j)
  pub straight : (j : ℕ) → j + 1 < length block.words → ¬ (IsFlow words (k + j))

abbrev pub EachIsBlock : Type 0
EachIsBlock = (first entry : ℕ) (words : List ℕ) (blocks : Blocks) → AreBlocksOf first entry words blocks
    → (i : ℕ) → i < length (all_blocks blocks) → (k : ℕ) × IsBlockAt first words k (block_at (all_blocks blocks) i)

-- each code word begins one of all the blocks, and no other
pub record BeginsOne (first : ℕ) (blocks : List Block) (k : ℕ) : Type 0 where
  pub place : ℕ
  pub within : place < length blocks
  pub begins : (block_at blocks place).at ≡ address_of first k
  pub only : (i : ℕ) → i < length blocks → (block_at blocks i).at ≡ address_of first k → i ≡ place

abbrev pub EachBeginsOne : Type 0
EachBeginsOne = (first entry : ℕ) (words : List ℕ) (blocks : Blocks) → AreBlocksOf first entry words blocks
    → (k : ℕ) → k < length words → BeginsOne first (all_blocks blocks) k

-- a leader's block begins with code word k
abbrev pub BeginsLeader : ℕ → Blocks → ℕ → Type 0
BeginsLeader first blocks k = (i : ℕ) × (i < length blocks.leaders) × ((block_at blocks.leaders i).at ≡ address_of first k)

-- a leader's block begins with what a branch names, and behind each leader's block, as far as there are code words
abbrev pub LeadsToLeaders : Type 0
LeadsToLeaders = (first entry : ℕ) (words : List ℕ) (blocks : Blocks) → AreBlocksOf first entry words blocks → (k : ℕ) → k < length words
    → ((p : ℕ) → p < length words → Names first words p k → BeginsLeader first blocks k)
    × ((i : ℕ) → i < length blocks.leaders → (block_at blocks.leaders i).at + 4 * length (block_at blocks.leaders i).words ≡ address_of first k → BeginsLeader first blocks k)

abbrev pub word_count : Block → ℕ
word_count block = length block.words

-- the leaders' blocks have all the code words between them, and the singles no more
pub record HaveFewWords (words : List ℕ) (blocks : Blocks) : Type 0 where
  pub leaders : sum_by word_count blocks.leaders ≡ length words
  pub singles : sum_by word_count blocks.singles ≤ length words

abbrev pub AllHaveFewWords : Type 0
AllHaveFewWords = (first entry : ℕ) (words : List ℕ) (blocks : Blocks) → AreBlocksOf first entry words blocks → HaveFewWords words blocks
