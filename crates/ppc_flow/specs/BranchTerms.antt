-- The terms of branches.
use Rattle.std.specs.Prelude.{ℕ, ◌-◌, Bool, true, false, cond}
use Rattle.word_kit.specs.Prelude.{Operations, WordMade, FlagMade}
use Rattle.ppc_isa.specs.BranchRows.{bo_bit}
use Rattle.ppc_isa.specs.SumRows.{ones}
use Rattle.ppc_parts.specs.Prelude.{RowMade, unchanged_term}
use Rattle.ppc_parts.specs.declared.given.Effect.{Effect}
use Rattle.ppc_parts.specs.declared.given.GuestIn.{GuestIn}

module _ {W B H : Type 0} (ops : Operations W B H) where
  abbrev pub fallen_term : W → H → WordMade W H
  fallen_term ctr h = let sum = ops.add_of h ctr (ops.lit_of ones) (ops.flag_of false) in record { word = sum.word; held = sum.held }

  abbrev pub counted_term : ℕ → W → H → WordMade W H
  counted_term bo ctr h = cond (bo_bit bo 2) (record { word = ctr; held = h }) (fallen_term ctr h)

  abbrev pub same_term : Bool → B → B
  same_term want b = cond want b (ops.flip_of b)

  abbrev pub zero_term : Bool → W → H → FlagMade B H
  zero_term want ctr h = let eq = ops.equal_of h ctr (ops.lit_of 0) in record { flag = same_term want eq.flag; held = eq.held }

  abbrev pub count_term : ℕ → W → H → FlagMade B H
  count_term bo ctr h = cond (bo_bit bo 2) (record { flag = ops.flag_of true; held = h }) (zero_term (bo_bit bo 3) ctr h)

  abbrev pub condition_term : ℕ → B → B
  condition_term bo b = cond (bo_bit bo 0) (ops.flag_of true) (same_term (bo_bit bo 1) b)

module _ {A W B H : Type 0} (ops : Operations W B H) where
  abbrev pub jump_term : GuestIn A W B → Effect A W B
  jump_term g = record (unchanged_term ops g) { taken = ops.flag_of true }

  abbrev pub branch_term : ℕ → ℕ → H → GuestIn A W B → RowMade A W B H
  branch_term bo bi h g =
      let ctr = counted_term ops bo g.ctr h in
      let counts = count_term ops bo ctr.word ctr.held in
      let taken = ops.both_of counts.held counts.flag (condition_term ops bo (ops.bit_of g.cr (31 - bi))) in
      record { effect = record (unchanged_term ops g) { ctr = ctr.word; taken = taken.flag }; held = taken.held }
