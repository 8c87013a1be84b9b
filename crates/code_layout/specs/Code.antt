-- The items of a block, and their bytes. This project's own.
use Rattle.std.specs.Prelude.{◌≡◌, ℕ, suc, true, ◌+◌, ◌-◌, ◌%◌, ◌^◌, List, [], ◌∷◌, ◌++◌, map as list_map, length, Option, None, Some, if◌then◌else◌}
use Rattle.ia_codec.specs.Reading.{condition_of_number}
use Rattle.machines.specs.Prelude.{Instr, spelling, Op, Jcc, Jmp, JmpTo, Base as BaseOperand, eax, Condition, NotBelow, Map, behind as next_address}
pub use Rattle.reg_map.specs.Relocated.{operand_at, op_at, IsPlaceable}
pub use Rattle.symbolic_tiles.specs.Marks.{IsLaid, is_mark}
use Rattle.code_layout.specs.Leap.{leap_ops}
use Rattle.code_layout.specs.Places.{Moves, Places}
use Rattle.plan_form.specs.declared.problem.Step.{Step}
use Rattle.plan_form.specs.declared.problem.Step.TheVariants.{Go, Lay}
use Rattle.plan_form.specs.declared.problem.Tile.TheVariants.{Base}
use Rattle.reg_map.specs.Prelude.{IsPossible, move_code, moved}
use Rattle.base_alu.specs.Tile.{tile as alu_tile}
use Rattle.base_mem.specs.Tile.{has_access, tile as access_tile}
use Rattle.base_flow.specs.Prelude.{tile as flow_tile, illegal_items}
use Rattle.symbolic_tiles.specs.Prelude.{flows_of}
use Rattle.row_laws.specs.FlowWords.{is_flow}
use Rattle.symbolic_tiles.specs.declared.flow_op.FlowOp.{FlowOp}
use Rattle.symbolic_tiles.specs.declared.flow_op.FlowOp.TheVariants.{Plain, Jump, Mark, Edge, Leap}

-- the tile of a word that is no flow word
abbrev pub word_ops : Instr → Map → List Op
word_ops i map = if has_access i then access_tile i map else alu_tile i map

-- one op, or none
abbrev pub ops_in : Option Op → List Op
ops_in (Some op) = op ∷ []
ops_in None = []

-- ops as items
abbrev pub plain : List Op → List FlowOp
plain ops = list_map (λ op. Plain op) ops

-- The base tile of a word that stands at a guest address, under a map, before other items. A flow word and an illegal one
-- end the block.
abbrev pub tile_items : ℕ → Map → Option Instr → List FlowOp → List FlowOp
tile_items at map None rest = flows_of illegal_items map
tile_items at map (Some i) rest = if is_flow i then flow_tile i at map else plain (word_ops i map) ++ rest

-- The items of a block by the steps of its plan: its words, decoded, stand one behind another from a guest address on, the
-- registers are as a map has them, and `live` has the bits of the locations that are live before the word at each address.
-- A move has its op, if the GPR that moves is live; a tile is that of the next word; and behind the last word stands the edge
-- to the next address.
unfoldable pub block_items : (ℕ → ℕ) → ℕ → Map → List (Option Instr) → List Step → List FlowOp
block_items live at map [] steps = Edge at ∷ []
block_items live at map (word ∷ words) [] = Edge at ∷ []
block_items live at map (word ∷ words) (Go move ∷ steps) = plain (ops_in (move_code map move (live at))) ++ block_items live at (moved map move) (word ∷ words) steps
block_items live at map (word ∷ words) (Lay tile ∷ steps) = tile_items at map word (block_items live (next_address at) map words steps)

-- the word ends a block
abbrev pub IsEnding : Option Instr → Type 0
IsEnding None = Unit {0}
IsEnding (Some i) = is_flow i ≡ true

-- The steps lead from a map over these words to a last map, with so many moves in a row to begin with: each move is
-- possible, at most six stand in a row and none behind the last word, and each tile is the base tile of the next word. A word
-- that ends a block stands under the last map.
abbrev pub LaysWords : ℕ → Map → List (Option Instr) → List Step → Map → Type 0
LaysWords moves map [] [] last = map ≡ last
LaysWords moves map [] (step ∷ steps) last = ⊥
LaysWords moves map (word ∷ words) [] last = ⊥
LaysWords moves map (word ∷ words) (Go move ∷ steps) last = (left : ℕ) × (moves ≡ suc left) × IsPossible map move × LaysWords left (moved map move) (word ∷ words) steps last
LaysWords moves map (word ∷ words) (Lay tile ∷ steps) last = (tile ≡ Base) × (IsEnding word → map ≡ last) × LaysWords 6 map words steps last

-- the bytes of ops one behind another
abbrev pub spelled : List Op → List ℕ
spelled [] = []
spelled (op ∷ ops) = spelling op ++ spelled ops

-- the ops of moves
abbrev pub moves_ops : Moves → List Op
moves_ops [] = []
moves_ops ((to, ops) ∷ moves) = ops ++ moves_ops moves

-- ops over the home page at `area`, and their bytes
abbrev pub ops_at : ℕ → List Op → List Op
ops_at area ops = list_map (op_at area) ops

abbrev pub placed : ℕ → List Op → List ℕ
placed area ops = spelled (ops_at area ops)

-- an edge at a host address: the ops of its moves, and the jump to its target
abbrev pub edge_bytes : ℕ → List Op → ℕ → ℕ → List ℕ
edge_bytes area ops target here = placed area ops ++ spelling (Jmp ((target + (2 ^ 32 - (here + length (spelled ops) + 5))) % 2 ^ 32))

-- the indirect sequence at a host address: its four ops, 20 bytes long, a jump of 6 to `hold` where the address is no code
-- word's, and the jump through the table
abbrev pub leap_bytes : Places → ℕ → List ℕ
leap_bytes p here = spelled (leap_ops p.first p.count) ++ (spelling (Jcc NotBelow ((p.hold + (2 ^ 32 - (here + 26))) % 2 ^ 32)) ++ spelling (JmpTo (BaseOperand eax p.table)))

abbrev pub jump_on : Option Condition → ℕ → Op
jump_on (Some condition) rel = Jcc condition rel
jump_on None rel = Jmp rel

-- a jump over so many bytes: on the condition of this number, or always
abbrev pub jump : ℕ → ℕ → Op
jump condition rel = jump_on (condition_of_number condition) rel

-- how many bytes an item has, where edges have these moves
abbrev pub item_length : (ℕ → Moves) → FlowOp → ℕ
item_length switch (Plain op) = length (spelling op)
item_length switch (Jump condition mark) = length (spelling (jump condition 0))
item_length switch (Mark mark) = 0
item_length switch (Edge address) = length (spelled (moves_ops (switch address))) + 5
item_length switch Leap = 32

unfoldable pub items_length : (ℕ → Moves) → List FlowOp → ℕ
items_length switch [] = 0
items_length switch (item ∷ rest) = item_length switch item + items_length switch rest

-- how many bytes stand before the first such mark; before the end where there is none
unfoldable pub before_mark : (ℕ → Moves) → List FlowOp → ℕ → ℕ
before_mark switch [] mark = 0
before_mark switch (item ∷ rest) mark = if is_mark item mark then 0 else item_length switch item + before_mark switch rest mark

-- the bytes of an item at the host address `here`, before the rest of its tile; `rel` of a jump is counted from the
-- address behind it (Intel SDM, volume 2, jmp)
abbrev pub item_bytes : Places → ℕ → FlowOp → List FlowOp → List ℕ
item_bytes p here (Plain op) rest = spelling (op_at p.area op)
item_bytes p here (Jump condition mark) rest = spelling (jump condition (before_mark p.switch rest mark))
item_bytes p here (Mark mark) rest = []
item_bytes p here (Edge address) rest = edge_bytes p.area (moves_ops (p.switch address)) (p.targets address) here
item_bytes p here Leap rest = leap_bytes p here

-- the bytes of items that stand one behind another from `here` on
unfoldable pub items_bytes : Places → ℕ → List FlowOp → List ℕ
items_bytes p here [] = []
items_bytes p here (item ∷ rest) = item_bytes p here item rest ++ items_bytes p (here + item_length p.switch item) rest
