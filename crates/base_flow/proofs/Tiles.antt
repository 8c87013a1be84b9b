-- Each flow word.
use Rattle.std.proofs.Common.{◌≡◌, ℕ, ◌+◌, ◌^◌, ◌<◌, ◌≤◌, inr, Bool, true, false, cond, not, ◌&&◌, eqb, List, [], ◌∷◌, length, Some, None, refl, sym, ap, ◌∙◌, subst, arith}
use Rattle.machines.specs.Prelude.{bit_of, Map, IsMap, Instr, IsLegal, bo_bit, Condition, Below, NotBelow, Equal, Above, Less, Greater, guest_executes, behind, branch_target}
use Rattle.ppc_isa.specs.declared.instr.Instr.TheVariants as instr
use Rattle.symbolic_tiles.specs.declared.flow_op.FlowOp.{FlowOp}
use Rattle.symbolic_tiles.specs.Prelude.{Fits, flow as flow_go, FlowDoesWordAt, flows_of, doing, IsFree, AreMarked, has_mark}
use Rattle.symbolic_tiles.specs.declared.symbolic_op.SymbolicOp.{SymbolicOp}
use Rattle.symbolic_tiles.specs.declared.tile_item.TileItem.{TileItem}
use Rattle.symbolic_tiles.specs.declared.tile_item.TileItem.TheVariants.{Label, BranchTo, BranchIndirect, Trap, Undefined}
use Rattle.base_flow.specs.Prelude.{when_jump, trap_tests, trap_items, tw_ops, twi_ops, link_ops, count_ops, count_fails, bit_ops, bit_fails, unless, otherwise, branch_items, done_items, error_items, failure_items, success_items, answer_items, request_items, selection_items, LeavesEbx, items_of, HasTile, BuiltHaveTiles, FlowTilesAreLaid, FlowTilesDoRows, IllegalTileDoesWord, FlowTilesAreMarked}
use Rattle.symbolic_tiles.proofs.Places.{slot_content}
use Rattle.symbolic_tiles.proofs.FlowDone.{items_done}
use Rattle.symbolic_tiles.proofs.Placeable.{items_laid}
use Rattle.std.proofs.lemmas.Bool.{false≢true}
use Rattle.base_flow.proofs.BranchTiles.{bc_does, bc_are, register_does, register_are, branch_does, b_are}
use Rattle.base_flow.proofs.TrapTiles.{tw_does, tw_are, twi_does, twi_are}
use Rattle.base_flow.proofs.SystemCall.{sc_does, sc_are}

pub ebx_free : (m : Map) → m.ebx ≡ None → IsFree m 3
ebx_free m e x h = let c : m.ebx ≡ Some x = slot_content m x 3 h in let q : None ≡ Some x = sym e ∙ c in absurd cc

pub flow_tiles_do_rows : FlowTilesDoRows
flow_tiles_do_rows (instr.Branch target absolute link) m legal is flow = items_done (Some (instr.Branch target absolute link)) m (items_of (instr.Branch target absolute link)) is (b_are m target absolute link) (branch_does target absolute link)
flow_tiles_do_rows (instr.BranchConditional bo bi target absolute link) m legal is flow =
    let lb : bi < 32 = legal.fit.1.1.0 in
    items_done (Some (instr.BranchConditional bo bi target absolute link)) m (items_of (instr.BranchConditional bo bi target absolute link)) is (λ at. bc_are m bo bi target absolute link at lb) (bc_does bo bi target absolute link lb)
flow_tiles_do_rows (instr.BranchRegister op bo bi link) m legal is flow =
    let lb : bi < 32 = legal.fit.1.1.0 in
    items_done (Some (instr.BranchRegister op bo bi link)) m (items_of (instr.BranchRegister op bo bi link)) is (λ at. register_are m op bo bi link at lb) (register_does op bo bi link lb)
flow_tiles_do_rows (instr.Trap to a b) m legal is flow =
    let la : a < 32 = legal.fit.1.1.0 in let lb : b < 32 = legal.fit.1.1.1.0 in
    items_done (Some (instr.Trap to a b)) m (items_of (instr.Trap to a b)) is (λ at. tw_are m to a b at la lb) (tw_does to a b la lb)
flow_tiles_do_rows (instr.TrapImmediate to a imm) m legal is flow =
    let la : a < 32 = legal.fit.1.1.0 in let li : imm < 2 ^ 16 = legal.fit.1.1.1.0 in
    items_done (Some (instr.TrapImmediate to a imm)) m (items_of (instr.TrapImmediate to a imm)) is (λ at. twi_are m to a imm at la li) (twi_does to a imm la li)
flow_tiles_do_rows instr.SystemCall m legal is flow = items_done (Some instr.SystemCall) m (items_of instr.SystemCall) is (λ at. sc_are m at (ebx_free m flow.1)) sc_does
flow_tiles_do_rows _ m legal is flow = absurd (false≢true flow.0)

pub illegal_tile_does_word : IllegalTileDoesWord
illegal_tile_does_word m is = items_done None m (λ at. Undefined ∷ []) is (λ at. tt) (λ guest host g regs flags choices given words. inr refl)

-- no jump, no mark
module _ (m : Map) where
  abbrev Marked : ℕ → List TileItem → Type 0
  Marked n items = AreMarked (flows_of items m) × (length (flows_of items m) ≤ n)

  marked_ops : (ops : List SymbolicOp) (items : List TileItem) (n : ℕ) → Marked n items → Marked (length ops + n) (doing ops items)
  marked_ops [] items n h = (h.0, omega (arith, h.1))
  marked_ops (l ∷ ops) items n h = let r = marked_ops ops items n h in (r.0, omega (arith, r.1))

  linked : (link : Bool) (next : ℕ) (items : List TileItem) (n : ℕ) → Marked n items → Marked (1 + n) (doing (link_ops link next) items)
  linked true next items n h = marked_ops (link_ops true next) items n h
  linked false next items n h = (h.0, omega (arith, h.1))

  branch_marked : (b0 b1 b2 b3 : Bool) (bi next : ℕ) (taken : TileItem) → ((items : List TileItem) (n : ℕ) → Marked n items → Marked (1 + n) (taken ∷ items)) → ((items : List TileItem) → has_mark (flows_of (taken ∷ items) m) 0 ≡ has_mark (flows_of items m) 0) →
      Marked 10 (unless (not b2) count_ops (count_fails b3) (unless (not b0) (bit_ops bi) (bit_fails b1) (taken ∷ otherwise (not (b2 && b0)) next)))
  branch_marked true b1 true b3 bi next taken one lacks = let r = one [] 0 (tt, omega arith) in (r.0, omega (arith, r.1))
  branch_marked false b1 true b3 bi next taken one lacks = let r = one (otherwise true next) 2 ((refl, tt), omega arith) in (((Some (bit_fails b1), refl), lacks (otherwise true next), r.0), omega (arith, r.1))
  branch_marked true b1 false b3 bi next taken one lacks = let r = one (otherwise true next) 2 ((refl, tt), omega arith) in (((Some (count_fails b3), refl), lacks (otherwise true next), r.0), omega (arith, r.1))
  branch_marked false b1 false b3 bi next taken one lacks = let r = one (otherwise true next) 2 ((refl, tt), omega arith) in (((Some (count_fails b3), refl), lacks (otherwise true next), ((Some (bit_fails b1), refl), lacks (otherwise true next), r.0)), omega (arith, r.1))

  branches_marked : (bo bi next : ℕ) (taken : TileItem) → ((items : List TileItem) (n : ℕ) → Marked n items → Marked (1 + n) (taken ∷ items)) → ((items : List TileItem) → has_mark (flows_of (taken ∷ items) m) 0 ≡ has_mark (flows_of items m) 0) → Marked 10 (branch_items bo bi taken next)
  branches_marked bo bi next taken one lacks = branch_marked (bo_bit bo 0) (bo_bit bo 1) (bo_bit bo 2) (bo_bit bo 3) bi next taken one lacks

  when_marked : (b : Bool) (c : Condition) (items : List TileItem) (n : ℕ) → has_mark (flows_of items m) 0 ≡ true → Marked n items → Marked (1 + n) (when_jump b c 0 items) × (has_mark (flows_of (when_jump b c 0 items) m) 0 ≡ true)
  when_marked true c items n e h = ((((Some c, refl), e, h.0), omega (arith, h.1)), e)
  when_marked false c items n e h = ((h.0, omega (arith, h.1)), e)

  traps_marked : (to next : ℕ) (ops : List SymbolicOp) → length ops ≤ 2 → Marked 10 (trap_items to ops next)
  traps_marked to next ops le = by_none (eqb to 0)
    where
      by_none : (b : Bool) → Marked 10 (cond b (BranchTo next ∷ []) (doing ops (trap_tests to next)))
      by_none true = (tt, omega arith)
      by_none false =
          let w0 = when_marked (bit_of to 0) Above (BranchTo next ∷ Label 0 ∷ Trap ∷ []) 3 refl ((refl, tt), omega arith) in
          let w1 = when_marked (bit_of to 1) Below _ 4 w0.1 w0.0 in
          let w2 = when_marked (bit_of to 2) Equal _ 5 w1.1 w1.0 in
          let w3 = when_marked (bit_of to 3) Greater _ 6 w2.1 w2.0 in
          let w4 = when_marked (bit_of to 4) Less _ 7 w3.1 w3.0 in
          let r = marked_ops ops (trap_tests to next) 8 w4.0 in
          (r.0, omega (arith, r.1, le))

sc_marked : (m : Map) (next : ℕ) → Marked m 37 (selection_items next)
unfolding selection_items request_items answer_items success_items failure_items error_items done_items
sc_marked m next = (
  (
    (Some Equal, refl),
    refl,
    (
      (Some Equal, refl),
      refl,
      (
        (Some Equal, refl),
        refl,
        (
          (Some Equal, refl),
          refl,
          (
            (Some Equal, refl),
            refl,
            (
              (None, refl),
              refl,
              (refl, (refl, ((Some NotBelow, refl), refl, ((None, refl), refl, (refl, (refl, (refl, tt))))))),
            ),
          ),
        ),
      ),
    ),
  ),
  omega arith,
)

pub flow_tiles_are_marked : FlowTilesAreMarked
flow_tiles_are_marked (instr.Branch target absolute link) m at = let r = linked m link (behind at) (BranchTo (branch_target 24 target absolute at) ∷ []) 1 (tt, omega arith) in (r.0, omega (arith, r.1))
flow_tiles_are_marked (instr.BranchConditional bo bi target absolute link) m at =
    let b = branches_marked m bo bi (behind at) (BranchTo (branch_target 14 target absolute at)) (λ items n h. (h.0, omega (arith, h.1))) (λ items. refl) in
    let r = linked m link (behind at) (branch_items bo bi (BranchTo (branch_target 14 target absolute at)) (behind at)) 10 b in (r.0, omega (arith, r.1))
flow_tiles_are_marked (instr.BranchRegister op bo bi link) m at =
    let b = branches_marked m bo bi (behind at) BranchIndirect (λ items n h. (h.0, omega (arith, h.1))) (λ items. refl) in
    let r = linked m link (behind at) (branch_items bo bi BranchIndirect (behind at)) 10 b in (r.0, omega (arith, r.1))
flow_tiles_are_marked (instr.Trap to a b) m at = let r = traps_marked m to (behind at) (tw_ops a b) (omega arith) in (r.0, omega (arith, r.1))
flow_tiles_are_marked (instr.TrapImmediate to a imm) m at = let r = traps_marked m to (behind at) (twi_ops a imm) (omega arith) in (r.0, omega (arith, r.1))
flow_tiles_are_marked instr.SystemCall m at = sc_marked m (behind at)
flow_tiles_are_marked _ m at = (tt, omega arith)

-- the tile of a word at an address
pub tile_does : (i : Instr) (m : Map) (at : ℕ) → IsLegal i → IsMap m → HasTile i m → (items : List FlowOp) → items ≡ flows_of (items_of i at) m → FlowDoesWordAt (Some i) m at items
tile_does i m at legal is flow items e area guest host g core choices here before =
    subst (λ l. Fits m area guest core (guest_executes guest (Some i) g) (flow_go host area l None choices core)) (ap (λ n. flows_of (items_of i n) m) here ∙ sym e)
    (flow_tiles_do_rows i m legal is flow area guest host g core choices before)

pub tile_marked : (i : Instr) (m : Map) (at : ℕ) (items : List FlowOp) → items ≡ flows_of (items_of i at) m → AreMarked items × (length items ≤ 128)
tile_marked i m at items e = let h = flow_tiles_are_marked i m at in subst (λ l. AreMarked l × (length l ≤ 128)) (sym e) (h.0, omega (arith, h.1))

pub flow_tiles_are_laid : FlowTilesAreLaid
flow_tiles_are_laid (instr.Branch target absolute link) m at legal is flow = items_laid m is (items_of (instr.Branch target absolute link) at) (b_are m target absolute link at)
flow_tiles_are_laid (instr.BranchConditional bo bi target absolute link) m at legal is flow = items_laid m is (items_of (instr.BranchConditional bo bi target absolute link) at) (bc_are m bo bi target absolute link at legal.fit.1.1.0)
flow_tiles_are_laid (instr.BranchRegister op bo bi link) m at legal is flow = items_laid m is (items_of (instr.BranchRegister op bo bi link) at) (register_are m op bo bi link at legal.fit.1.1.0)
flow_tiles_are_laid (instr.Trap to a b) m at legal is flow = items_laid m is (items_of (instr.Trap to a b) at) (tw_are m to a b at legal.fit.1.1.0 legal.fit.1.1.1.0)
flow_tiles_are_laid (instr.TrapImmediate to a imm) m at legal is flow = items_laid m is (items_of (instr.TrapImmediate to a imm) at) (twi_are m to a imm at legal.fit.1.1.0 legal.fit.1.1.1.0)
flow_tiles_are_laid instr.SystemCall m at legal is flow = items_laid m is (items_of instr.SystemCall at) (sc_are m at (ebx_free m flow.1))
flow_tiles_are_laid _ m at legal is flow = absurd (false≢true flow.0)

pub built_have_tiles : BuiltHaveTiles
built_have_tiles i m built free = (built, leaves_ebx i)
  where
    leaves_ebx : (i : Instr) → LeavesEbx i m
    leaves_ebx instr.SystemCall = free
    leaves_ebx _ = tt
