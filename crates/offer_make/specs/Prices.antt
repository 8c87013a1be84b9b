-- What the steps of a block's plans cost, this project's own: the sum of what the ops cost.
use Rattle.std.specs.Prelude.{◌≡◌, ℕ, ◌+◌, ◌<◌, List, length, slice_index_or, Option, Some, None, if◌then◌else◌}
use Rattle.std.specs.List.{sum_by}
use Rattle.machines.specs.Prelude.{Map, Instr, IsLegal, Op, cost_of}
use Rattle.reg_map.specs.declared.moves.Move.{Move}
use Rattle.reg_map.specs.Prelude.{move_code}
use Rattle.row_laws.specs.FlowWords.{is_flow}
use Rattle.symbolic_tiles.specs.declared.flow_op.FlowOp.{FlowOp}
use Rattle.symbolic_tiles.specs.declared.flow_op.FlowOp.TheVariants.{Plain, Jump, Mark, Edge, Leap}
use Rattle.symbolic_tiles.specs.declared.symbolic_op.SymbolicOp.{SymbolicOp}
use Rattle.symbolic_tiles.specs.Prelude.{flows_of, ops_of}
use Rattle.base_alu.specs.Tile.{symbolic_tile as alu_ops}
use Rattle.base_mem.specs.Tile.{has_access, symbolic_tile as access_ops}
use Rattle.base_flow.specs.Prelude.{tile as flow_tile, illegal_items, LeavesEbx}

-- a move costs what its op does, and nothing where it has none
abbrev pub code_cost : Option Op → ℕ
code_cost None = 0
code_cost (Some op) = cost_of op

-- by the bits of the locations that are live
abbrev pub move_price : ℕ → Map → Move → ℕ
move_price live m step = code_cost (move_code m step live)

-- An edge has no price, its jump neither. The indirect sequence is and, mov, sub, cmp and jcc, which cost 1 each, and a jump
-- by a word of the table in memory, which costs 3.
abbrev pub item_cost : FlowOp → ℕ
item_cost (Plain op) = cost_of op
item_cost (Jump condition mark) = 1
item_cost (Mark mark) = 0
item_cost (Edge target) = 0
item_cost Leap = 8

-- the base tile of a word that is no flow word, told without a map, and its price under one
abbrev pub straight_ops : Instr → List SymbolicOp
straight_ops i = if has_access i then access_ops i else alu_ops i

abbrev pub symbolic_price : List SymbolicOp → Map → ℕ
symbolic_price ops m = sum_by cost_of (ops_of ops m)

-- What the base tile costs of a word that stands at an address, by what it is decoded as; None is an illegal word.
abbrev pub base_price : Option Instr → ℕ → Map → ℕ
base_price None at m = sum_by item_cost (flows_of illegal_items m)
base_price (Some i) at m = if is_flow i then sum_by item_cost (flow_tile i at m) else symbolic_price (straight_ops i) m

-- The word has a base tile under the map: it is legal or no instruction, and the tile of sc takes ebx.
abbrev pub HasBaseTile : Option Instr → Map → Type 0
HasBaseTile None m = Unit {0}
HasBaseTile (Some i) m = IsLegal i × LeavesEbx i m

-- Each word of a block, decoded, has one under every map, but the last may have one under the exit map alone.
pub record HaveBaseTiles (decoded : List (Option Instr)) (exit : Map) : Type 0 where
  pub before : (k : ℕ) (m : Map) → k + 1 < length decoded → HasBaseTile (slice_index_or decoded k None) m
  pub at_end : (k : ℕ) → k + 1 ≡ length decoded → HasBaseTile (slice_index_or decoded k None) exit

-- every base tile costs less than 1024
abbrev pub BasePricesAreLow : Type 0
BasePricesAreLow = (word : Option Instr) (at : ℕ) (m : Map) → HasBaseTile word m → base_price word at m < 1024
