-- The tiles of flow words have few bytes.
use Rattle.std.proofs.Common.{ℕ, ◌+◌, ◌≤◌, Bool, true, false, cond, not, ◌&&◌, eqb, List, [], ◌∷◌, arith}
use Rattle.machines.specs.Prelude.{bit_of, bo_bit, Condition, Below, Equal, Above, Less, Greater, behind, branch_target}
use Rattle.ppc_isa.specs.declared.instr.Instr.TheVariants as instr
use Rattle.symbolic_tiles.specs.declared.symbolic_op.SymbolicOp.{SymbolicOp}
use Rattle.symbolic_tiles.specs.declared.tile_item.TileItem.{TileItem}
use Rattle.symbolic_tiles.specs.declared.tile_item.TileItem.TheVariants.{Label, BranchTo, BranchIndirect, Trap}
use Rattle.symbolic_tiles.specs.Prelude.{room_of, doing}
use Rattle.symbolic_tiles.proofs.Lengths.{item_room, items_room, items_short, doing_room}
use Rattle.base_flow.specs.Prelude.{link_ops, count_ops, count_fails, bit_ops, bit_fails, unless, otherwise, branch_items, when_jump, trap_tests, trap_items, tw_ops, twi_ops, selection_items, request_items, answer_items, success_items, failure_items, error_items, done_items, items_of, FlowTilesAreShort}

linked_room : (link : Bool) (next : ℕ) (items : List TileItem) → items_room (doing (link_ops link next) items) ≤ 10 + items_room items
linked_room true next items = omega arith
linked_room false next items = omega arith

branch_room : (b0 b1 b2 b3 : Bool) (bi next : ℕ) (taken : TileItem) → item_room taken ≤ 41 → items_room (unless (not b2) count_ops (count_fails b3) (unless (not b0) (bit_ops bi) (bit_fails b1) (taken ∷ otherwise (not (b2 && b0)) next))) ≤ 130
branch_room true b1 true b3 bi next taken h = omega (arith, h)
branch_room false b1 true b3 bi next taken h = omega (arith, h)
branch_room true b1 false b3 bi next taken h = omega (arith, h)
branch_room false b1 false b3 bi next taken h = omega (arith, h)

branches_room : (bo bi next : ℕ) (taken : TileItem) → item_room taken ≤ 41 → items_room (branch_items bo bi taken next) ≤ 130
branches_room bo bi next taken h = branch_room (bo_bit bo 0) (bo_bit bo 1) (bo_bit bo 2) (bo_bit bo 3) bi next taken h

when_room : (b : Bool) (c : Condition) (items : List TileItem) → items_room (when_jump b c 0 items) ≤ 6 + items_room items
when_room true c items = omega arith
when_room false c items = omega arith

traps_room : (to next : ℕ) (compared : List SymbolicOp) → room_of compared ≤ 12 → items_room (trap_items to compared next) ≤ 130
traps_room to next compared h = by_none (eqb to 0)
  where
    by_none : (b : Bool) → items_room (cond b (BranchTo next ∷ []) (doing compared (trap_tests to next))) ≤ 130
    by_none true = omega arith
    by_none false =
        let e = doing_room compared (trap_tests to next) in
        let t0 : List TileItem = BranchTo next ∷ Label 0 ∷ Trap ∷ [] in
        let t1 : List TileItem = when_jump (bit_of to 0) Above 0 t0 in
        let t2 : List TileItem = when_jump (bit_of to 1) Below 0 t1 in
        let t3 : List TileItem = when_jump (bit_of to 2) Equal 0 t2 in
        let t4 : List TileItem = when_jump (bit_of to 3) Greater 0 t3 in
        let w0 = when_room (bit_of to 0) Above t0 in
        let w1 = when_room (bit_of to 1) Below t1 in
        let w2 = when_room (bit_of to 2) Equal t2 in
        let w3 = when_room (bit_of to 3) Greater t3 in
        let w4 = when_room (bit_of to 4) Less t4 in
        omega (arith, e, h, w0, w1, w2, w3, w4)

sc_room : (next : ℕ) → items_room (selection_items next) ≤ 595
unfolding selection_items request_items answer_items success_items failure_items error_items done_items
sc_room next = omega arith

pub flow_tiles_are_short : FlowTilesAreShort
flow_tiles_are_short (instr.Branch target absolute link) m at = let s = items_short m (items_of (instr.Branch target absolute link) at) in let l = linked_room link (behind at) (BranchTo (branch_target 24 target absolute at) ∷ []) in omega (arith, s, l)
flow_tiles_are_short (instr.BranchConditional bo bi target absolute link) m at =
    let s = items_short m (items_of (instr.BranchConditional bo bi target absolute link) at) in
    let l = linked_room link (behind at) (branch_items bo bi (BranchTo (branch_target 14 target absolute at)) (behind at)) in
    let b = branches_room bo bi (behind at) (BranchTo (branch_target 14 target absolute at)) (omega arith) in
    omega (arith, s, l, b)
flow_tiles_are_short (instr.BranchRegister op bo bi link) m at =
    let s = items_short m (items_of (instr.BranchRegister op bo bi link) at) in
    let l = linked_room link (behind at) (branch_items bo bi BranchIndirect (behind at)) in
    let b = branches_room bo bi (behind at) BranchIndirect (omega arith) in
    omega (arith, s, l, b)
flow_tiles_are_short (instr.Trap to a b) m at = let s = items_short m (items_of (instr.Trap to a b) at) in let r = traps_room to (behind at) (tw_ops a b) (omega arith) in omega (arith, s, r)
flow_tiles_are_short (instr.TrapImmediate to a imm) m at = let s = items_short m (items_of (instr.TrapImmediate to a imm) at) in let r = traps_room to (behind at) (twi_ops a imm) (omega arith) in omega (arith, s, r)
flow_tiles_are_short instr.SystemCall m at = let s = items_short m (items_of instr.SystemCall at) in let r = sc_room (behind at) in omega (arith, s, r)
flow_tiles_are_short _ m at = omega arith
