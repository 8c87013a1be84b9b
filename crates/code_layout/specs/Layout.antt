-- The code of blocks, one behind another (this project's own).
use Rattle.std.specs.Prelude.{◌≡◌, ℕ, ◌<◌, ◌+◌, ◌*◌, ◌-◌, ◌^◌, ◌==◌, List, length, [], ◌∷◌, ◌++◌, map, take, drop, slice_index, slice_index_or, Option}
use Rattle.std.specs.List.{sum_by, position_or_len}
use Rattle.machines.specs.Prelude.{Instr, spelling, Jmp, Program}
use Rattle.branch_table.specs.declared.code.Code.{Code}
use Rattle.block_find.specs.Prelude.{address_of, AreBlocksOf, all_blocks, block_at}
use Rattle.block_find.specs.declared.block.Block.{Block}
use Rattle.block_find.specs.declared.block.Blocks.{Blocks}
use Rattle.code_words.specs.Words.{HasWords, first_of}
use Rattle.symbolic_tiles.specs.declared.flow_op.FlowOp.{FlowOp}
use Rattle.code_layout.specs.Decoded.{AreDecodedAs}
use Rattle.liveness.specs.Prelude.{Sets, AreLive, live_at}
use Rattle.plan_form.specs.declared.problem.BlockPlan.{BlockPlan}
use Rattle.plan_form.specs.declared.problem.Step.{Step}
use Rattle.code_layout.specs.Places.{no_registers, place_of, Moves, no_moves, Places, places_in}
use Rattle.code_layout.specs.Code.{LaysWords, block_items, items_bytes, items_length}

-- the words of a block, by the program's decoded words, the first of which has the guest address `first`
abbrev pub words_of : ℕ → List (Option Instr) → Block → List (Option Instr)
words_of first decoded block = take (length block.words) (drop (place_of first block.at) decoded)

-- What blocks are laid by: the address of a program's first code word, its code words decoded, the bits of the locations that
-- are live before the word at each address, and the steps of each block's plan.
pub record Laying : Type 0 where
  pub first : ℕ
  pub decoded : List (Option Instr)
  pub live : ℕ → ℕ
  pub steps : Block → List Step

-- the items of a block, which begins with no GPR in a register, and how many bytes they have
abbrev pub items_of : Laying → Block → List FlowOp
items_of by block = block_items by.live block.at no_registers (words_of by.first by.decoded block) (by.steps block)

abbrev pub block_length : Laying → (ℕ → Moves) → Block → ℕ
block_length by switch block = items_length switch (items_of by block)

-- the bytes of blocks, one behind another from the host address `here` on
unfoldable pub blocks_bytes : Laying → Places → ℕ → List Block → List ℕ
blocks_bytes by p here [] = []
blocks_bytes by p here (block ∷ blocks) = items_bytes p here (items_of by block) ++ blocks_bytes by p (here + block_length by p.switch block) blocks

-- `hold`, which is a jump to itself, and behind its five bytes the blocks
abbrev pub code_bytes : Laying → Places → List Block → List ℕ
code_bytes by p blocks = spelling (Jmp (2 ^ 32 - 5)) ++ blocks_bytes by p (p.hold + 5) blocks

-- where a block stands, the first of them at `here`: behind all those before it
abbrev pub stands_at : Laying → (ℕ → Moves) → ℕ → List Block → ℕ → ℕ
stands_at by switch here blocks place = here + sum_by (block_length by switch) (take place blocks)

-- Where the blocks stand from the host address `here` on, one that begins at a guest address stands at a host address.
pub record BeginsAt (by : Laying) (switch : ℕ → Moves) (here : ℕ) (blocks : List Block) (w address : ℕ) : Type 0 where
  pub place : ℕ
  pub within : place < length blocks
  pub begins : (block_at blocks place).at ≡ w
  pub stands : address ≡ stands_at by switch here blocks place

-- the steps of plans, and those of a block's plan, which stands among the plans where the block stands among the blocks
abbrev pub steps_of : List BlockPlan → List (List Step)
steps_of plans = map (λ p. p.plan.steps.items) plans

abbrev pub steps_in : List Block → List (List Step) → Block → List Step
steps_in blocks plans block = slice_index_or plans (position_or_len (λ other. other.at == block.at) blocks) []

-- a program's blocks, laid by plans and live sets
abbrev pub laying : ℕ → List (Option Instr) → Sets → List Block → List (List Step) → Laying
laying first decoded live blocks plans = record { first = first; decoded = decoded; live = live_at live; steps = steps_in blocks plans }

-- There is a plan for each block, by which its words are laid from no register to no register.
pub record ArePlansFor (first : ℕ) (decoded : List (Option Instr)) (blocks : List Block) (plans : List (List Step)) : Type 0 where
  pub count : length plans ≡ length blocks
  pub each : (k : ℕ) → k < length blocks → LaysWords 6 no_registers (words_of first decoded (block_at blocks k)) (slice_index_or plans k []) no_registers

-- The code of a program with these code words, the first at the address `first`, whose run begins at the place `entry`,
-- and its table, by plans and live sets: the code of the leaders' blocks and behind them of the singles. The table's word of
-- a code word is the address of the block that begins there, and no two begin at one word.
pub record IsCodeFor (first entry : ℕ) (words : List ℕ) (live : Sets) (plans : List (List Step)) (area : ℕ) (table code : List ℕ) : Type 0 where
  pub decoded : List (Option Instr)
  pub are_decoded : AreDecodedAs words decoded
  pub blocks : Blocks
  pub are_blocks : AreBlocksOf first entry words blocks
  pub are_live : AreLive first words live
  pub are_plans : ArePlansFor first decoded (all_blocks blocks) plans
  pub laid : code ≡ code_bytes (laying first decoded live (all_blocks blocks) plans) (places_in area first table) (all_blocks blocks)
  pub entries : (k : ℕ) → k < length words → BeginsAt (laying first decoded live (all_blocks blocks) plans) no_moves (area + 0x81000 + 5) (all_blocks blocks) (address_of first k) (slice_index table k)

-- The code that is laid out for a program over an area by plans of its blocks: that of its code words' blocks with the table
-- of where they stand, and the table's word of the one at which the program begins.
pub record IsLaidFor (P : Program) (plans : List (List Step)) (area : ℕ) (code : Code) : Type 0 where
  pub words : List ℕ
  pub live : Sets
  pub entry : ℕ
  pub has : HasWords P (first_of P) words
  pub begins : P.entry ≡ first_of P + 4 * entry
  pub within : entry < length words
  pub blocks : IsCodeFor (first_of P) entry words live plans area code.entries code.bytes
  pub count : length code.entries ≡ length words
  pub start : code.start ≡ slice_index code.entries entry
