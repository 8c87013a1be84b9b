-- The tile of each flow word (this project's own).
use Rattle.std.specs.Prelude.{◌≡◌, ℕ, true, List, [], ◌∷◌, None}
use Rattle.machines.specs.Prelude.{Map, Instr, behind, branch_target}
use Rattle.ppc_isa.specs.declared.instr.Instr.TheVariants as instr
use Rattle.symbolic_tiles.specs.declared.symbolic_op.SymbolicOperand.TheVariants.{Location}
use Rattle.symbolic_tiles.specs.declared.symbolic_op.SymbolicOp.TheVariants.{Mov}
use Rattle.symbolic_tiles.specs.declared.tile_item.TileItem.{TileItem}
use Rattle.symbolic_tiles.specs.declared.tile_item.TileItem.TheVariants.{Do, BranchTo, BranchIndirect, Undefined}
use Rattle.symbolic_tiles.specs.declared.flow_op.FlowOp.{FlowOp}
use Rattle.row_laws.specs.FlowWords.{is_flow}
use Rattle.symbolic_tiles.specs.Prelude.{flows_of, doing}
use Rattle.base_flow.specs.Branches.{link_ops, branch_items, target_register}
use Rattle.base_flow.specs.Traps.{trap_items, tw_ops, twi_ops}
use Rattle.base_flow.specs.SystemCall.{selection_items}

-- Flow words have a tile under every map; but that of sc takes ebx, so no GPR may be there.
abbrev pub LeavesEbx : Instr → Map → Type 0
LeavesEbx instr.SystemCall m = m.ebx ≡ None
LeavesEbx _ m = Unit {0}

abbrev pub HasTile : Instr → Map → Type 0
HasTile i m = (is_flow i ≡ true) × LeavesEbx i m

-- the tile of each flow word at an address
abbrev pub items_of : Instr → ℕ → List TileItem
items_of (instr.Branch target absolute link) at = doing (link_ops link (behind at)) (BranchTo (branch_target 24 target absolute at) ∷ [])
items_of (instr.BranchConditional bo bi target absolute link) at = doing (link_ops link (behind at)) (branch_items bo bi (BranchTo (branch_target 14 target absolute at)) (behind at))
items_of (instr.BranchRegister op bo bi link) at = Do (Mov 1 (Location (target_register op))) ∷ doing (link_ops link (behind at)) (branch_items bo bi BranchIndirect (behind at))
items_of (instr.Trap to a b) at = trap_items to (tw_ops a b) (behind at)
items_of (instr.TrapImmediate to a imm) at = trap_items to (twi_ops a imm) (behind at)
items_of instr.SystemCall at = selection_items (behind at)
items_of _ at = []

-- that of a word that is no instruction
abbrev pub illegal_items : List TileItem
illegal_items = Undefined ∷ []

-- and under a map
abbrev pub tile : Instr → ℕ → Map → List FlowOp
tile i at m = flows_of (items_of i at) m

-- the instructions that have such a tile
abbrev pub IsBuilt : Instr → Type 0
IsBuilt i = is_flow i ≡ true
