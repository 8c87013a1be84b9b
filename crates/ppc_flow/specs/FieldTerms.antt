-- The terms of moves of CR and the special registers.
use Rattle.std.specs.Prelude.{ℕ, ◌+◌, ◌-◌, ◌*◌, cond, eqb}
use Rattle.word_kit.specs.Prelude.{Operations, FlagMade, complement}
use Rattle.ppc_isa.specs.FieldRows.{fields_mask, xer_mask}
use Rattle.ppc_isa.specs.declared.instr.CrLogicOp.{CrLogicOp}
use Rattle.ppc_isa.specs.declared.instr.CrLogicOp.TheVariants.{Crand, Cror, Crxor, Crnand, Crnor, Creqv, Crandc, Crorc}
use Rattle.ppc_parts.specs.Prelude.{RowMade, field_term, unchanged_term}
use Rattle.ppc_parts.specs.declared.given.Effect.{Effect}
use Rattle.ppc_parts.specs.declared.given.GuestIn.{GuestIn}

module _ {A W B : Type 0} where
  -- XER is 1, LR 8, CTR 9
  abbrev pub special_value_term : ℕ → GuestIn A W B → W
  special_value_term spr g = cond (eqb spr 1) g.xer (cond (eqb spr 8) g.lr g.ctr)

module _ {W B H : Type 0} (ops : Operations W B H) where
  abbrev pub cr_logic_term : CrLogicOp → B → B → H → FlagMade B H
  cr_logic_term Crand a b h = ops.both_of h a b
  cr_logic_term Cror a b h = ops.either_of h a b
  cr_logic_term Crxor a b h = ops.differ_of h a b
  cr_logic_term Crnand a b h = let made = ops.both_of h a b in record made { flag = ops.flip_of made.flag }
  cr_logic_term Crnor a b h = let made = ops.either_of h a b in record made { flag = ops.flip_of made.flag }
  cr_logic_term Creqv a b h = let made = ops.differ_of h a b in record made { flag = ops.flip_of made.flag }
  cr_logic_term Crandc a b h = ops.both_of h a (ops.flip_of b)
  cr_logic_term Crorc a b h = ops.either_of h a (ops.flip_of b)

module _ {A W B H : Type 0} (ops : Operations W B H) where
  abbrev pub field_moved_term : ℕ → ℕ → GuestIn A W B → Effect A W B
  field_moved_term to from g = record (unchanged_term ops g) { cr = field_term ops g.cr to (ops.bit_of g.cr (31 - 4 * from)) (ops.bit_of g.cr (31 - (4 * from + 1))) (ops.bit_of g.cr (31 - (4 * from + 2))) (ops.bit_of g.cr (31 - (4 * from + 3))) }

  abbrev pub cr_logic_row_term : CrLogicOp → ℕ → ℕ → ℕ → H → GuestIn A W B → RowMade A W B H
  cr_logic_row_term op d a b h g =
      let made = cr_logic_term ops op (ops.bit_of g.cr (31 - a)) (ops.bit_of g.cr (31 - b)) h in
      record { effect = record (unchanged_term ops g) { cr = ops.put_bit_of g.cr (31 - d) made.flag }; held = made.held }

  abbrev pub cr_read_term : GuestIn A W B → Effect A W B
  cr_read_term g = record (unchanged_term ops g) { d = g.cr }

  abbrev pub special_read_term : ℕ → GuestIn A W B → Effect A W B
  special_read_term spr g = record (unchanged_term ops g) { d = special_value_term spr g }

  abbrev pub link_or_count_term : ℕ → GuestIn A W B → Effect A W B
  link_or_count_term spr g = record (unchanged_term ops g) { lr = cond (eqb spr 8) g.s g.lr; ctr = cond (eqb spr 9) g.s g.ctr }

  abbrev pub xer_put_term : H → GuestIn A W B → RowMade A W B H
  xer_put_term h g = let made = ops.and_of h g.s (ops.lit_of xer_mask) in record { effect = record (unchanged_term ops g) { xer = made.word }; held = made.held }

  abbrev pub special_put_term : ℕ → H → GuestIn A W B → RowMade A W B H
  special_put_term spr h g = cond (eqb spr 1) (xer_put_term h g) (record { effect = link_or_count_term spr g; held = h })

  -- the fields that FXM chooses from rS, the others from CR
  abbrev pub fields_put_term : ℕ → H → GuestIn A W B → RowMade A W B H
  fields_put_term fxm h g =
      let inside = ops.and_of h g.s (ops.lit_of (fields_mask fxm)) in
      let outside = ops.and_of inside.held g.cr (ops.lit_of (complement (fields_mask fxm))) in
      let made = ops.or_of outside.held inside.word outside.word in
      record { effect = record (unchanged_term ops g) { cr = made.word }; held = made.held }
