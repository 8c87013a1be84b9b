use Rattle.std.proofs.Common.{◌≤◌, length, None, sym, subst}
use Rattle.machines.specs.Prelude.{Map}
use Rattle.base_alu.specs.Tile.{symbolic_tile as alu_ops}
use Rattle.base_mem.specs.Tile.{symbolic_tile as access_ops}
use Rattle.offer_make.proofs.Pricing.{as-many, no-access}
use Rattle.offer_make.proofs.prices.straight_ops.Goals as goal
use Rattle.offer_make.proofs.prices.straight_ops.Goals.{then-is_built+in_ok-ops, else-is_built+in_ok-ops-2}

pub returns-clause-few : goal.returns-clause-few
returns-clause-few c =
    let i = c.args.instr.now in
    let empty : Map = record { ebx = None; esi = None; edi = None } in
    elim c.if-is_built.branch [
      | then-is_built+in_ok-ops w ↦
          let built = c.is_built.ensures.0 w.if-is_built.true in
          subst (λ v. length v.items ≤ 128) (sym w.ops-is) (subst (λ xs. length xs ≤ 128) (sym w.in_ok-ops.ensures)
          (as-many (access_ops i) empty (c.tiles_are_short-2.ensures i empty c.requires.legal built).0))
      | else-is_built+in_ok-ops-2 w ↦
          let built = no-access i c.is_built.result c.requires.straight c.is_built.ensures.1 w.if-is_built.false in
          subst (λ v. length v.items ≤ 128) (sym w.ops-is) (subst (λ xs. length xs ≤ 128) (sym w.in_ok-ops-2.ensures)
          (as-many (alu_ops i) empty (c.tiles_are_short.ensures i empty c.requires.legal built).0))
    ]
