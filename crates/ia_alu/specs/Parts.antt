-- Parts of terms, over any operations: what is made of what was held.
use Rattle.std.specs.Prelude.{ℕ, zero, suc, false}
use Rattle.word_kit.specs.Prelude.{Operations, WordMade, FlagMade}

module _ {W B H : Type 0} (ops : Operations W B H) where
  -- the flag c where b is true, else d
  abbrev pub choose_term : H → B → B → B → FlagMade B H
  choose_term h b c d =
      let picked = ops.pick_of h b (ops.put_bit_of (ops.lit_of 0) 0 c) (ops.put_bit_of (ops.lit_of 0) 0 d) in
      record { flag = ops.bit_of picked.word 0; held = picked.held }

  -- whether the word is 0
  abbrev pub zero_term : H → W → FlagMade B H
  zero_term h x = ops.equal_of h x (ops.lit_of 0)

  -- whether the sum has another sign than both terms
  abbrev pub overflow_term : H → W → W → W → FlagMade B H
  overflow_term h x y sum =
      let of_x = ops.differ_of h (ops.bit_of x 31) (ops.bit_of sum 31) in
      let of_y = ops.differ_of of_x.held (ops.bit_of y 31) (ops.bit_of sum 31) in
      ops.both_of of_y.held of_x.flag of_y.flag

  -- whether the low five bits of a count are this number
  abbrev pub count_term : H → W → ℕ → FlagMade B H
  count_term h count n =
      let low = ops.and_of h count (ops.lit_of 31) in
      ops.equal_of low.held low.word (ops.lit_of n)

  -- the last bit that leaves on the left, for a count above 0: the top bit after one step less
  abbrev pub last_left_term : H → W → W → FlagMade B H
  last_left_term h x count =
      let less = ops.add_of h count (ops.lit_of 4294967295) (ops.flag_of false) in
      let before = ops.shift_left_of less.held x less.word in
      record { flag = ops.bit_of before.word 31; held = before.held }

  -- on the right: the lowest bit after one step less
  abbrev pub last_right_term : H → W → W → FlagMade B H
  last_right_term h x count =
      let less = ops.add_of h count (ops.lit_of 4294967295) (ops.flag_of false) in
      let before = ops.shift_right_of less.held x less.word in
      record { flag = ops.bit_of before.word 0; held = before.held }

  -- ZF after a shift: the old one where the count is 0
  abbrev pub zero_after_term : H → B → B → W → FlagMade B H
  zero_after_term h none old result =
      let is_zero = zero_term h result in
      choose_term is_zero.held none old is_zero.flag

  -- OF after a shift: the old one where the count is 0, and where it is 1 whether p and q differ, else the free one
  abbrev pub over_after_term : H → B → W → B → B → B → B → FlagMade B H
  over_after_term h none count old p q free =
      let over = ops.differ_of h p q in
      let once = count_term over.held count 1 in
      let chosen = choose_term once.held once.flag over.flag free in
      choose_term chosen.held none old chosen.flag

  -- the low byte, the low half, and all bytes the other way round
  abbrev pub byte_term : W → W
  byte_term y = ops.byte_of y 0

  abbrev pub half_term : W → W
  half_term y = ops.join_of (ops.lit_of 0) (ops.lit_of 0) (ops.byte_of y 1) (ops.byte_of y 0)

  abbrev pub swapped_term : W → W
  swapped_term y = ops.join_of (ops.byte_of y 0) (ops.byte_of y 1) (ops.byte_of y 2) (ops.byte_of y 3)

  -- the highest of the places below n that has a 1: from the lowest place on, each 1 takes the place of those before
  unfoldable pub highest_term : ℕ → H → W → WordMade W H
  highest_term zero h x = record { word = ops.lit_of 0; held = h }
  highest_term (suc n) h x =
      let below = highest_term n h x in
      ops.pick_of below.held (ops.bit_of x n) (ops.lit_of n) below.word
