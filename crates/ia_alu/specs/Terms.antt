-- The term of each row over any operations: what is made of what was held, in the order result, CF, ZF, SF, OF.
-- The operands are the values of the op; no term has an immediate or a displacement but a shift's written count.
use Rattle.std.specs.Prelude.{ℕ, true, false, Bool}
use Rattle.word_kit.specs.Prelude.{Operations, WordMade, FlagMade}
use Rattle.ia_codec.specs.declared.op.AluOp.{AluOp}
use Rattle.ia_codec.specs.declared.op.AluOp.TheVariants.{Add, Or, Adc, Sbb, And, Sub, Xor, Cmp}
use Rattle.ia_codec.specs.declared.op.ShiftOp.{ShiftOp}
use Rattle.ia_codec.specs.declared.op.ShiftOp.TheVariants.{Rol, Ror, Shl, Shr, Sar}
use Rattle.ia_codec.specs.declared.op.UnaryOp.{UnaryOp}
use Rattle.ia_codec.specs.declared.op.UnaryOp.TheVariants.{Not, Neg, Mul, Imul1, Div, Idiv}
use Rattle.ia_codec.specs.declared.op.ExtendOp.{ExtendOp}
use Rattle.ia_codec.specs.declared.op.ExtendOp.TheVariants.{MovzxByte, MovzxHalf, MovsxByte, MovsxHalf}
use Rattle.ia_codec.specs.declared.op.Condition.{Condition}
use Rattle.ia_codec.specs.declared.op.Condition.TheVariants.{Below, NotBelow, Equal, NotEqual, NotAbove, Above, Sign, NotSign, Less, NotLess, NotGreater, Greater}
use Rattle.ia_codec.specs.declared.op.Op.{Op}
use Rattle.ia_codec.specs.declared.op.Op.TheVariants.{AluTo, AluFrom, AluImm, TestReg, TestImm, Unary, Imul, MovTo, MovFrom, MovImm, MovToImm, MovHalfTo, MovByteTo, MovByteFrom, Shift, ShiftByCl, Lea, Extend, Bswap, Set, Cmov, Bsr, Cdq, Jcc, Jmp, JmpTo, Int80, Int3, Ud2}
use Rattle.ia_alu.specs.Parts.{choose_term, zero_term, overflow_term, count_term, last_left_term, last_right_term, zero_after_term, over_after_term, highest_term, byte_term, half_term, swapped_term}
use Rattle.ia_alu.specs.declared.given.HostIn.{HostIn}
use Rattle.ia_alu.specs.declared.given.HostEffect.{HostEffect}

pub record RowMade (A W B H : Type 0) : Type 0 where
  pub effect : HostEffect A W B
  pub held : H

module _ {A W B H : Type 0} (ops : Operations W B H) where
  -- a result, and nothing else is changed
  abbrev pub kept_term : W → HostIn A W B → HostEffect A W B
  kept_term result g = record {
    result = result;
    high = g.high;
    cf = g.cf;
    zf = g.zf;
    sf = g.sf;
    of = g.of;
    holds = ops.flag_of false;
    faults = ops.flag_of false;
  }

  abbrev pub moved_term : H → W → HostIn A W B → RowMade A W B H
  moved_term h result g = record { effect = kept_term result g; held = h }

  abbrev pub sum_term : H → W → W → B → HostIn A W B → RowMade A W B H
  sum_term h x y carry g =
      let sum = ops.add_of h x y carry in
      let is_zero = zero_term ops sum.held sum.word in
      let over = overflow_term ops is_zero.held x y sum.word in
      record {
        effect = record (kept_term sum.word g) { cf = sum.carry; zf = is_zero.flag; sf = ops.bit_of sum.word 31; of = over.flag };
        held = over.held;
      }

  -- x less y, less 1 where carry is false: the sum with the complement, whose missing carry is the borrow
  abbrev pub difference_term : H → W → W → B → HostIn A W B → RowMade A W B H
  difference_term h x y carry g =
      let sum = sum_term h x (ops.not_of y) carry g in
      record { effect = record sum.effect { cf = ops.flip_of sum.effect.cf }; held = sum.held }

  -- the flags alone
  abbrev pub compare_term : H → HostIn A W B → RowMade A W B H
  compare_term h g =
      let difference = difference_term h g.x g.y (ops.flag_of true) g in
      record { effect = record difference.effect { result = g.x }; held = difference.held }

  -- a result of logic with its flags
  abbrev pub logic_term : WordMade W H → HostIn A W B → RowMade A W B H
  logic_term result g =
      let is_zero = zero_term ops result.held result.word in
      record {
        effect = record (kept_term result.word g) { cf = ops.flag_of false; zf = is_zero.flag; sf = ops.bit_of result.word 31; of = ops.flag_of false };
        held = is_zero.held;
      }

  abbrev pub test_term : H → HostIn A W B → RowMade A W B H
  test_term h g =
      let logic = logic_term (ops.and_of h g.x g.y) g in
      record { effect = record logic.effect { result = g.x }; held = logic.held }

  abbrev pub alu_term : AluOp → H → HostIn A W B → RowMade A W B H
  alu_term Add h g = sum_term h g.x g.y (ops.flag_of false) g
  alu_term Adc h g = sum_term h g.x g.y g.cf g
  alu_term Sub h g = difference_term h g.x g.y (ops.flag_of true) g
  alu_term Sbb h g = difference_term h g.x g.y (ops.flip_of g.cf) g
  alu_term And h g = logic_term (ops.and_of h g.x g.y) g
  alu_term Or h g = logic_term (ops.or_of h g.x g.y) g
  alu_term Xor h g = logic_term (ops.xor_of h g.x g.y) g
  alu_term Cmp h g = compare_term h g

  -- the flags of a shift's result: `last` is the bit that left last, and OF for a count of 1 says whether p and q differ
  abbrev pub settled_term : H → W → W → B → B → B → HostIn A W B → RowMade A W B H
  settled_term h count result last p q g =
      let none = count_term ops h count 0 in
      let cf = choose_term ops none.held none.flag g.cf last in
      let zf = zero_after_term ops cf.held none.flag g.zf result in
      let sf = choose_term ops zf.held none.flag g.sf (ops.bit_of result 31) in
      let of = over_after_term ops sf.held none.flag count g.of p q g.free_of in
      record {
        effect = record (kept_term result g) { cf = cf.flag; zf = zf.flag; sf = sf.flag; of = of.flag };
        held = of.held;
      }

  -- the flags of a rotate's result
  abbrev pub turned_term : H → W → W → B → B → B → HostIn A W B → RowMade A W B H
  turned_term h count result last p q g =
      let none = count_term ops h count 0 in
      let cf = choose_term ops none.held none.flag g.cf last in
      let of = over_after_term ops cf.held none.flag count g.of p q g.free_of in
      record { effect = record (kept_term result g) { cf = cf.flag; of = of.flag }; held = of.held }

  abbrev pub shift_term : ShiftOp → H → W → HostIn A W B → RowMade A W B H
  shift_term Rol h count g =
      let result = ops.rotate_of h g.x count in
      turned_term result.held count result.word (ops.bit_of result.word 0) (ops.bit_of result.word 0) (ops.bit_of result.word 31) g
  -- to the right by a count: to the left by the count's negative
  shift_term Ror h count g =
      let rest = ops.add_of h (ops.not_of count) (ops.lit_of 0) (ops.flag_of true) in
      let result = ops.rotate_of rest.held g.x rest.word in
      turned_term result.held count result.word (ops.bit_of result.word 31) (ops.bit_of result.word 31) (ops.bit_of result.word 30) g
  shift_term Shl h count g =
      let result = ops.shift_left_of h g.x count in
      let last = last_left_term ops result.held g.x count in
      settled_term last.held count result.word last.flag last.flag (ops.bit_of result.word 31) g
  shift_term Shr h count g =
      let result = ops.shift_right_of h g.x count in
      let last = last_right_term ops result.held g.x count in
      settled_term last.held count result.word last.flag (ops.bit_of g.x 31) (ops.flag_of false) g
  shift_term Sar h count g =
      let result = ops.shift_arith_of h g.x count in
      let last = last_right_term ops result.held g.x count in
      settled_term last.held count result.word last.flag (ops.flag_of false) (ops.flag_of false) g

  -- CF and OF of a product; its ZF and SF are free
  abbrev pub product_term : H → W → W → B → HostIn A W B → RowMade A W B H
  product_term h low high fits g = record {
    effect = record (kept_term low g) { high = high; cf = ops.flip_of fits; zf = g.free_zf; sf = g.free_sf; of = ops.flip_of fits };
    held = h;
  }

  abbrev pub mul_term : H → HostIn A W B → RowMade A W B H
  mul_term h g =
      let low = ops.mul_low_of h g.x g.y in
      let high = ops.mul_high_of low.held g.x g.y false in
      let fits = zero_term ops high.held high.word in
      product_term fits.held low.word high.word fits.flag g

  -- the high half of a short product is copies of the low one's sign
  abbrev pub imul1_term : H → HostIn A W B → RowMade A W B H
  imul1_term h g =
      let low = ops.mul_low_of h g.x g.y in
      let high = ops.mul_high_of low.held g.x g.y true in
      let sign = ops.shift_arith_of high.held low.word (ops.lit_of 31) in
      let fits = ops.equal_of sign.held high.word sign.word in
      product_term fits.held low.word high.word fits.flag g

  abbrev pub imul_term : H → HostIn A W B → RowMade A W B H
  imul_term h g =
      let both = imul1_term h g in
      record { effect = record both.effect { high = g.high }; held = both.held }

  abbrev pub divide_term : Bool → H → HostIn A W B → RowMade A W B H
  divide_term as_signed h g =
      let parts = ops.div_of h g.high g.x g.y as_signed in
      record {
        effect = record {
          result = parts.quotient;
          high = parts.remainder;
          cf = g.free_cf;
          zf = g.free_zf;
          sf = g.free_sf;
          of = g.free_of;
          holds = ops.flag_of false;
          faults = parts.faults;
        };
        held = parts.held;
      }

  abbrev pub unary_term : UnaryOp → H → HostIn A W B → RowMade A W B H
  unary_term Not h g = moved_term h (ops.not_of g.y) g
  unary_term Neg h g = difference_term h (ops.lit_of 0) g.y (ops.flag_of true) g
  unary_term Mul h g = mul_term h g
  unary_term Imul1 h g = imul1_term h g
  unary_term Div h g = divide_term false h g
  unary_term Idiv h g = divide_term true h g

  -- with the sign: to the left by so many bits, and back
  abbrev pub signed_term : ℕ → H → HostIn A W B → RowMade A W B H
  signed_term bits h g =
      let up = ops.shift_left_of h g.y (ops.lit_of bits) in
      let down = ops.shift_arith_of up.held up.word (ops.lit_of bits) in
      moved_term down.held down.word g

  abbrev pub extend_term : ExtendOp → H → HostIn A W B → RowMade A W B H
  extend_term MovzxByte h g = moved_term h (byte_term ops g.y) g
  extend_term MovzxHalf h g = moved_term h (half_term ops g.y) g
  extend_term MovsxByte h g = signed_term 24 h g
  extend_term MovsxHalf h g = signed_term 16 h g

  abbrev pub copies_term : H → HostIn A W B → RowMade A W B H
  copies_term h g =
      let sign = ops.shift_arith_of h g.x (ops.lit_of 31) in
      record { effect = record (kept_term g.x g) { high = sign.word }; held = sign.held }

  abbrev pub condition_term : Condition → H → HostIn A W B → FlagMade B H
  condition_term Below h g = record { flag = g.cf; held = h }
  condition_term NotBelow h g = record { flag = ops.flip_of g.cf; held = h }
  condition_term Equal h g = record { flag = g.zf; held = h }
  condition_term NotEqual h g = record { flag = ops.flip_of g.zf; held = h }
  condition_term NotAbove h g = ops.either_of h g.cf g.zf
  condition_term Above h g = let either = ops.either_of h g.cf g.zf in record { flag = ops.flip_of either.flag; held = either.held }
  condition_term Sign h g = record { flag = g.sf; held = h }
  condition_term NotSign h g = record { flag = ops.flip_of g.sf; held = h }
  condition_term Less h g = ops.differ_of h g.sf g.of
  condition_term NotLess h g = let less = ops.differ_of h g.sf g.of in record { flag = ops.flip_of less.flag; held = less.held }
  condition_term NotGreater h g = let less = ops.differ_of h g.sf g.of in ops.either_of less.held g.zf less.flag
  condition_term Greater h g =
      let less = ops.differ_of h g.sf g.of in
      let either = ops.either_of less.held g.zf less.flag in
      record { flag = ops.flip_of either.flag; held = either.held }

  abbrev pub set_term : Condition → H → HostIn A W B → RowMade A W B H
  set_term condition h g =
      let holds = condition_term condition h g in
      record { effect = record (kept_term (ops.put_bit_of (ops.lit_of 0) 0 holds.flag) g) { holds = holds.flag }; held = holds.held }

  abbrev pub cmov_term : Condition → H → HostIn A W B → RowMade A W B H
  cmov_term condition h g =
      let holds = condition_term condition h g in
      let result = ops.pick_of holds.held holds.flag g.y g.x in
      record { effect = record (kept_term result.word g) { holds = holds.flag }; held = result.held }

  abbrev pub jcc_term : Condition → H → HostIn A W B → RowMade A W B H
  jcc_term condition h g =
      let holds = condition_term condition h g in
      record { effect = record (kept_term g.x g) { holds = holds.flag }; held = holds.held }

  abbrev pub jump_term : H → HostIn A W B → RowMade A W B H
  jump_term h g = record { effect = record (kept_term g.x g) { holds = ops.flag_of true }; held = h }

  abbrev pub scan_term : H → HostIn A W B → RowMade A W B H
  scan_term h g =
      let highest = highest_term ops 32 h g.y in
      let is_zero = zero_term ops highest.held g.y in
      let result = ops.pick_of is_zero.held is_zero.flag g.free highest.word in
      record {
        effect = record (kept_term result.word g) { cf = g.free_cf; zf = is_zero.flag; sf = g.free_sf; of = g.free_of };
        held = result.held;
      }

  abbrev pub row_term : Op → H → HostIn A W B → RowMade A W B H
  row_term (AluTo op to from) h g = alu_term op h g
  row_term (AluFrom op to from) h g = alu_term op h g
  row_term (AluImm op to imm) h g = alu_term op h g
  row_term (TestReg a b) h g = test_term h g
  row_term (TestImm a imm) h g = test_term h g
  row_term (Unary op on) h g = unary_term op h g
  row_term (Imul to from) h g = imul_term h g
  row_term (MovTo to from) h g = moved_term h g.y g
  row_term (MovFrom to from) h g = moved_term h g.y g
  row_term (MovImm to imm) h g = moved_term h g.y g
  row_term (MovToImm to imm) h g = moved_term h g.y g
  row_term (MovHalfTo to from) h g = moved_term h (half_term ops g.y) g
  row_term (MovByteTo to from) h g = moved_term h (byte_term ops g.y) g
  row_term (MovByteFrom to from) h g = moved_term h (byte_term ops g.y) g
  row_term (Shift op to by) h g = shift_term op h (ops.lit_of by) g
  row_term (ShiftByCl op to) h g = shift_term op h g.y g
  row_term (Lea to from) h g = moved_term h g.y g
  row_term (Extend op to from) h g = extend_term op h g
  row_term (Bswap reg) h g = moved_term h (swapped_term ops g.y) g
  row_term (Set condition to) h g = set_term condition h g
  row_term (Cmov condition to from) h g = cmov_term condition h g
  row_term (Bsr to from) h g = scan_term h g
  row_term Cdq h g = copies_term h g
  row_term (Jcc condition rel) h g = jcc_term condition h g
  row_term (Jmp rel) h g = jump_term h g
  row_term (JmpTo to) h g = jump_term h g
  row_term Int80 h g = moved_term h g.x g
  row_term Int3 h g = moved_term h g.x g
  row_term Ud2 h g = moved_term h g.x g
