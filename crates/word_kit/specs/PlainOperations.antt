-- The operations on words and flags as they are. Nothing is held.
use Rattle.std.specs.Prelude.{ℕ, Bool, cond, eqb, not, ◌&&◌, ◌||◌}
use Rattle.word_kit.specs.Words.{complement, same, sum_word, sum_carries, is_less}
use Rattle.word_kit.specs.Bits.{bit_of, with_bit, byte_of, joined, word_and, word_or, word_xor, shifted_left, shifted_right, shifted_arith, rotated}
use Rattle.word_kit.specs.Products.{product_low, product_high, quotient, remainder, divide_faults}
use Rattle.word_kit.specs.Operations.{Operations}

abbrev pub plain_operations : Operations ℕ Bool (Unit {0})
plain_operations = record {
  lit_of = λ n. n;
  flag_of = λ b. b;
  bit_of = λ x k. bit_of x k;
  put_bit_of = λ x k b. with_bit x k b;
  not_of = λ x. complement x;
  flip_of = λ b. not b;
  byte_of = λ x k. byte_of x k;
  join_of = λ b3 b2 b1 b0. joined b3 b2 b1 b0;
  add_of = λ h x y c. record { word = sum_word x y c; carry = sum_carries x y c; held = h };
  less_of = λ h x y s. record { flag = is_less x y s; held = h };
  equal_of = λ h x y. record { flag = eqb x y; held = h };
  pick_of = λ h b x y. record { word = cond b x y; held = h };
  and_of = λ h x y. record { word = word_and x y; held = h };
  or_of = λ h x y. record { word = word_or x y; held = h };
  xor_of = λ h x y. record { word = word_xor x y; held = h };
  shift_left_of = λ h x by. record { word = shifted_left x by; held = h };
  shift_right_of = λ h x by. record { word = shifted_right x by; held = h };
  shift_arith_of = λ h x by. record { word = shifted_arith x by; held = h };
  rotate_of = λ h x by. record { word = rotated x by; held = h };
  mul_low_of = λ h x y. record { word = product_low x y; held = h };
  mul_high_of = λ h x y s. record { word = product_high x y s; held = h };
  div_of = λ h high low by s. record { quotient = quotient high low by s; remainder = remainder high low by s; faults = divide_faults high low by s; held = h };
  both_of = λ h b c. record { flag = b && c; held = h };
  either_of = λ h b c. record { flag = b || c; held = h };
  differ_of = λ h b c. record { flag = not (same b c); held = h };
}
