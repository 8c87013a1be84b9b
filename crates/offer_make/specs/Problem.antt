-- The problem of a block: what its plans may do, and at which prices. This project's own.
use Rattle.std.specs.Prelude.{◌≡◌, ℕ, ◌+◌, ◌-◌, ◌/◌, ◌<◌, Bool, true, false, IsTrue, List, length, slice_index, slice_index_or, Option, Some, None}
use Rattle.machines.specs.Prelude.{Map, IsMap, IsWordOf, Instr, Branch, BranchConditional}
use Rattle.reg_map.specs.Place.{IsEmpty}
use Rattle.block_find.specs.declared.block.Block.{Block}
use Rattle.block_find.specs.declared.block.Blocks.{Blocks}
use Rattle.block_find.specs.Prelude.{AreBlocksOf, IsFlowWord, IsBlockAt, all_blocks, block_at}
use Rattle.liveness.specs.Prelude.{Sets, AreLive}
use Rattle.plan_form.specs.declared.problem.Problem.{Problem}
use Rattle.offer_make.specs.Candidates.{AreCandidates}
use Rattle.offer_make.specs.Maps.{AreMapsOver}
use Rattle.offer_make.specs.Tables.{moves_of, offers_of, base_tiles}

-- the block is one of the program that has these live sets
pub record IsBlockOf (live : Sets) (block : Block) : Type 0 where
  pub words : List ℕ
  pub place : ℕ
  pub is : IsBlockAt live.first words place block
  pub live_are : AreLive live.first words live

-- all of the blocks are
abbrev pub AreBlocksWith : Blocks → Sets → Type 0
AreBlocksWith blocks live = (i : ℕ) → i < length (all_blocks blocks) → IsBlockOf live (block_at (all_blocks blocks) i)

abbrev pub EachHasLiveSets : Type 0
EachHasLiveSets = (first entry : ℕ) (words : List ℕ) (blocks : Blocks) (live : Sets)
    → AreBlocksOf first entry words blocks → AreLive first words live → AreBlocksWith blocks live

-- the word is a b or bc, which names where it leads
abbrev pub has_target : Instr → Bool
has_target (Branch target absolute link) = true
has_target (BranchConditional bo bi target absolute link) = true
has_target _ = false

abbrev pub NamesTarget : ℕ → Type 0
NamesTarget word = (instr : Instr) × IsWordOf word instr × IsTrue (has_target instr)

-- The maps with which the block may begin and end. Where its last word ends it and names no target, it ends under the empty
-- map. A word that stands alone has empty maps.
pub record AreBoundaryMaps (block : Block) (entry exit : Map) (leader : Bool) : Type 0 where
  pub entry_is : IsMap entry
  pub exit_is : IsMap exit
  pub at_end : IsFlowWord (slice_index block.words (length block.words - 1))
      → ¬ (NamesTarget (slice_index block.words (length block.words - 1))) → IsEmpty exit
  pub alone : leader ≡ false → IsEmpty entry × IsEmpty exit

-- the words, each decoded; None is an illegal word
abbrev pub IsReadAs : ℕ → Option Instr → Type 0
IsReadAs word (Some i) = IsWordOf word i
IsReadAs word None = (i : Instr) → ¬ (IsWordOf word i)

pub record AreReadAs (words : List ℕ) (decoded : List (Option Instr)) : Type 0 where
  pub count : length decoded ≡ length words
  pub each : (k : ℕ) → k < length words → IsReadAs (slice_index words k) (slice_index_or decoded k None)

-- the bits of the locations that are live before the word at a place of the block
abbrev pub live_before : Sets → Block → ℕ → ℕ
live_before live block place = slice_index live.bits ((block.at - live.first) / 4 + place)

-- Its maps are all maps over its candidates; its moves are all between these, priced by what is live at the place; its offers
-- are the base tiles of its words alone.
pub record IsProblemOf (block : Block) (entry exit : Map) (leader : Bool) (live : Sets) (q : Problem) : Type 0 where
  pub candidates : List ℕ
  pub decoded : List (Option Instr)
  pub candidates_are : AreCandidates block.words entry exit leader candidates
  pub decoded_are : AreReadAs block.words decoded
  pub places : q.places ≡ length block.words + 1
  pub entry_is : q.entry ≡ entry
  pub exit_is : q.exit ≡ exit
  pub maps : AreMapsOver candidates q.maps.items
  pub moves : q.moves.items ≡ moves_of (length block.words) (live_before live block) candidates q.maps.items
  pub offers : q.offers.items ≡ offers_of (length block.words) exit q.maps.items (base_tiles block.at decoded)
