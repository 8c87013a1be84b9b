-- What base tiles cost, and which words have one.
use Rattle.std.proofs.Common.{◌≡◌, ◌∙◌, ℕ, ◌<◌, ◌≤◌, List, length, Bool, true, false, Some, None, if◌then◌else◌, refl, sym, subst, arith}
use Rattle.std.specs.List.{sum_by}
use Rattle.std.proofs.lemmas.Bool.{false≢true}
use Rattle.machines.specs.Prelude.{Map, Instr, Load, Store, LoadUpdate, StoreUpdate, Multiple, TrapImmediate, Branch, BranchConditional, SystemCall, Trap, LoadIndexed, StoreIndexed, LoadIndexedUpdate, StoreIndexedUpdate, BranchRegister, IsLegal, cost_of}
use Rattle.std.proofs.lemmas.List.{length-map}
use Rattle.symbolic_tiles.specs.declared.symbolic_op.SymbolicOp.{SymbolicOp}
use Rattle.symbolic_tiles.specs.Prelude.{op_of, ops_of}
use Rattle.row_laws.specs.FlowWords.{is_flow}
use Rattle.base_alu.specs.Tile.{IsBuilt as IsBuiltAlu, symbolic_tile as alu_ops}
use Rattle.base_alu.specs.Laws.{TilesAreTiles as AluTilesAreTiles}
use Rattle.base_mem.specs.Tile.{has_access, symbolic_tile as access_ops}
use Rattle.base_mem.specs.Laws.{TilesAreTiles as AccessTilesAreTiles}
use Rattle.base_flow.specs.Prelude.{tile as flow_tile, LeavesEbx, FlowTilesAreMarked}
use Rattle.offer_make.specs.Prices.{item_cost, straight_ops, symbolic_price, base_price, BasePricesAreLow}
use Rattle.offer_make.proofs.Bounds.{alu_low, access_low, items_low}

-- what is no flow word and has no access has its tile in base_alu
pub straight : (i : Instr) → is_flow i ≡ false → has_access i ≡ false → IsBuiltAlu i
straight (Branch target absolute link) e f = absurd (false≢true (sym e))
straight (BranchConditional bo bi target absolute link) e f = absurd (false≢true (sym e))
straight (BranchRegister op bo bi link) e f = absurd (false≢true (sym e))
straight (Trap to a b) e f = absurd (false≢true (sym e))
straight (TrapImmediate to a imm) e f = absurd (false≢true (sym e))
straight SystemCall e f = absurd (false≢true (sym e))
straight (Load op d a imm) e f = absurd (false≢true (sym f))
straight (LoadUpdate op d a imm) e f = absurd (false≢true (sym f))
straight (LoadIndexed op d a b) e f = absurd (false≢true (sym f))
straight (LoadIndexedUpdate op d a b) e f = absurd (false≢true (sym f))
straight (Store op s a imm) e f = absurd (false≢true (sym f))
straight (StoreUpdate op s a imm) e f = absurd (false≢true (sym f))
straight (StoreIndexed op s a b) e f = absurd (false≢true (sym f))
straight (StoreIndexedUpdate op s a b) e f = absurd (false≢true (sym f))
straight (Multiple op d a imm) e f = absurd (false≢true (sym f))
straight _ e f = tt

-- sc alone takes ebx
pub leaves-straight : (i : Instr) (m : Map) → is_flow i ≡ false → LeavesEbx i m
leaves-straight SystemCall m e = absurd (false≢true (sym e))
leaves-straight _ m e = tt

pub leaves-at-end : (i : Instr) (m : Map) → (i ≡ SystemCall → m.ebx ≡ None) → LeavesEbx i m
leaves-at-end SystemCall m h = h refl
leaves-at-end _ m h = tt

-- ops under a map are as many
pub as-many : (ops : List SymbolicOp) (m : Map) → length (ops_of ops m) ≤ 128 → length ops ≤ 128
as-many ops m few = let e = length-map ops (op_of m) in omega (arith, few, e)

-- what is tested to have no access has its tile in base_alu
pub no-access : (i : Instr) (r : Bool) → is_flow i ≡ false → (has_access i ≡ true → r ≡ true) → r ≡ false → IsBuiltAlu i
no-access i r e back none = go (has_access i) refl
  where
    go : (b : Bool) → has_access i ≡ b → IsBuiltAlu i
    go true f = absurd (false≢true (sym none ∙ back f))
    go false f = straight i e f

module _ (alu : AluTilesAreTiles) (access : AccessTilesAreTiles) (flow : FlowTilesAreMarked) where
  straight-low : (i : Instr) (m : Map) → IsLegal i → is_flow i ≡ false → symbolic_price (straight_ops i) m < 1024
  straight-low i m legal e = go (has_access i) refl
    where
      go : (b : Bool) → has_access i ≡ b → symbolic_price (straight_ops i) m < 1024
      go true f = subst (λ b. symbolic_price (if b then access_ops i else alu_ops i) m < 1024) (sym f) (access_low i m (access i legal f).short)
      go false f = subst (λ b. symbolic_price (if b then access_ops i else alu_ops i) m < 1024) (sym f) (alu_low i m (alu i legal (straight i e f)).short)

  instr-low : (i : Instr) (at : ℕ) (m : Map) → IsLegal i → base_price (Some i) at m < 1024
  instr-low i at m legal = go (is_flow i) refl
    where
      go : (b : Bool) → is_flow i ≡ b → base_price (Some i) at m < 1024
      go true e =
          let few = (flow i m at).1 in let low = items_low (flow_tile i at m) in
          let small : sum_by item_cost (flow_tile i at m) < 1024 = omega (arith, few, low) in
          subst (λ b. (if b then sum_by item_cost (flow_tile i at m) else symbolic_price (straight_ops i) m) < 1024) (sym e) small
      go false e =
          subst (λ b. (if b then sum_by item_cost (flow_tile i at m) else symbolic_price (straight_ops i) m) < 1024) (sym e) (straight-low i m legal e)

  pub prices-low : BasePricesAreLow
  prices-low None at m h = omega arith
  prices-low (Some i) at m h = instr-low i at m h.0
