-- Words of literals, and which gates are made, bit by bit from the lowest, for each operation on words.
use Rattle.std.specs.Prelude.{ℕ, zero, suc, ◌+◌, ◌-◌, ◌*◌, ◌^◌, Bool, true, false, cond, ltb, List, [], ◌∷◌, ◌++◌, slice_index_or, slice_set}
use Rattle.std.specs.List.{list_any}
use Rattle.word_kit.specs.Prelude.{bit_of, WordMade, SumMade, QuotientMade, Operations}
use Rattle.circuit.specs.Types.{Lit, Const, FreeWord, ProductLow, ProductHigh, Quotient, Remainder, DivideFaults, Node, Free, Turn, Left, Right, Arith, Rotate, BitGate, Both, Either, Differ, Choice}
use Rattle.circuit.specs.Made.{BitMade, opposite, node_made, and_made, or_made, xor_made, choice_made, full_made, link_made}

abbrev pub WordsMade : Type 0
WordsMade = WordMade (List Lit) (List Node)

abbrev pub SumsMade : Type 0
SumsMade = SumMade (List Lit) Lit (List Node)

-- the literal of a place
abbrev pub at : List Lit → ℕ → Lit
at w k = slice_index_or w k (Const false)

-- the word with these literals at the places below n
unfoldable pub word_of : (ℕ → Lit) → ℕ → List Lit
word_of f zero = []
word_of f (suc n) = word_of f n ++ f n ∷ []

-- Shifts and rotates of the bits of a word by n, up to 32.
abbrev pub moved_by : {T : Type 0} → T → Turn → ℕ → (ℕ → T) → ℕ → T
moved_by none Left n f i = cond (ltb i n) none (f (i - n))
moved_by none Right n f i = cond (ltb (i + n) 32) (f (i + n)) none
moved_by none Arith n f i = cond (ltb (i + n) 32) (f (i + n)) (f 31)
moved_by none Rotate n f i = cond (ltb i n) (f (i + 32 - n)) (f (i - n))

abbrev pub lit_bits : ℕ → ℕ → Lit
lit_bits value k = Const (bit_of value k)

abbrev pub not_bits : List Lit → ℕ → Lit
not_bits x k = opposite (at x k)

abbrev pub byte_bits : List Lit → ℕ → ℕ → Lit
byte_bits x k i = cond (ltb i 8) (at x (8 * k + i)) (Const false)

abbrev pub join_bits : List Lit → List Lit → List Lit → List Lit → ℕ → Lit
join_bits b3 b2 b1 b0 i = cond (ltb i 8) (at b0 i) (cond (ltb i 16) (at b1 (i - 8)) (cond (ltb i 24) (at b2 (i - 16)) (at b3 (i - 24))))

abbrev pub moved : Turn → List Lit → ℕ → List Lit
moved turn x n = word_of (λ i. moved_by (Const false) turn n (at x) i) 32

-- the word with its top bit turned over
abbrev pub top_flipped : List Lit → List Lit
top_flipped x = slice_set x 31 (opposite (at x 31))

-- the literals of the places below n, each with its gates
unfoldable pub word_made : (List Node → ℕ → BitMade) → ℕ → List Node → WordsMade
word_made g zero ns = record { word = []; held = ns }
word_made g (suc n) ns =
    let low = word_made g n ns in
    let bit = g low.held n in
    record { word = low.word ++ bit.flag ∷ []; held = bit.held }

module _ (eq : Node → Node → Bool) where
  abbrev pub gate_made : BitGate → List Node → Lit → Lit → BitMade
  gate_made Both ns x y = and_made eq ns x y
  gate_made Either ns x y = or_made eq ns x y
  gate_made Differ ns x y = xor_made eq ns x y
  gate_made (Choice s) ns x y = choice_made eq ns s x y

  abbrev pub bitwise_made : BitGate → List Node → List Lit → List Lit → WordsMade
  bitwise_made op ns x y = word_made (λ h k. gate_made op h (at x k) (at y k)) 32 ns

  abbrev pub free_made : List Node → FreeWord → WordsMade
  free_made ns word = word_made (λ h k. node_made eq h (Free word k)) 32 ns

  unfoldable pub sum_made : ℕ → List Node → List Lit → List Lit → Lit → SumsMade
  sum_made zero ns x y carry = record { word = []; carry = carry; held = ns }
  sum_made (suc n) ns x y carry =
      let low = sum_made n ns x y carry in
      let full = full_made eq low.held (at x n) (at y n) low.carry in
      record { word = low.word ++ full.word ∷ []; carry = full.carry; held = full.held }

  unfoldable pub equal_made : ℕ → List Node → List Lit → List Lit → BitMade
  equal_made zero ns x y = record { flag = Const true; held = ns }
  equal_made (suc n) ns x y =
      let low = equal_made n ns x y in
      link_made eq low.held low.flag (at x n) (at y n)

  -- x is below y where x + not y + 1 has no carry; of signed words both top bits are turned over
  abbrev pub less_made : List Node → List Lit → List Lit → Bool → BitMade
  less_made ns x y signed =
      let sum = sum_made 32 ns (cond signed (top_flipped x) x) (word_of (not_bits (cond signed (top_flipped y) y)) 32) (Const true) in
      record { flag = opposite sum.carry; held = sum.held }

  abbrev pub stage_made : Turn → ℕ → List Node → List Lit → List Lit → WordsMade
  stage_made turn n ns x by = bitwise_made (Choice (at by n)) ns (moved turn x (2 ^ n)) x

  -- stages of choices by the bits of the amount, lowest first
  unfoldable pub shift_made : Turn → ℕ → List Node → List Lit → List Lit → WordsMade
  shift_made turn zero ns x by = record { word = x; held = ns }
  shift_made turn (suc n) ns x by =
      let low = shift_made turn n ns x by in
      stage_made turn n low.held low.word by

  -- whether a word free of gates is there already
  abbrev pub is_known : List Node → FreeWord → Bool
  is_known ns word = list_any (eq (Free word 0)) ns

  -- products of a pair of words in either order are one
  abbrev pub low_word : List Node → List Lit → List Lit → FreeWord
  low_word ns x y = cond (is_known ns (ProductLow y x)) (ProductLow y x) (ProductLow x y)

  abbrev pub high_word : List Node → Bool → List Lit → List Lit → FreeWord
  high_word ns signed x y = cond (is_known ns (ProductHigh signed y x)) (ProductHigh signed y x) (ProductHigh signed x y)

  abbrev pub division_made : List Node → List Lit → List Lit → List Lit → Bool → QuotientMade (List Lit) Lit (List Node)
  division_made ns high low by signed =
      let first = free_made ns (Quotient signed high low by) in
      let second = free_made first.held (Remainder signed high low by) in
      let third = node_made eq second.held (Free (DivideFaults signed high low by) 0) in
      record { quotient = first.word; remainder = second.word; faults = third.flag; held = third.held }

  abbrev pub gates_operations : Operations (List Lit) Lit (List Node)
  gates_operations = record {
    lit_of = λ n. word_of (lit_bits n) 32;
    flag_of = λ b. Const b;
    bit_of = λ x k. at x k;
    put_bit_of = λ x k b. slice_set x k b;
    not_of = λ x. word_of (not_bits x) 32;
    flip_of = λ b. opposite b;
    byte_of = λ x k. word_of (byte_bits x k) 32;
    join_of = λ b3 b2 b1 b0. word_of (join_bits b3 b2 b1 b0) 32;
    add_of = λ h x y c. sum_made 32 h x y c;
    less_of = λ h x y s. less_made h x y s;
    equal_of = λ h x y. equal_made 32 h x y;
    pick_of = λ h b x y. bitwise_made (Choice b) h x y;
    and_of = λ h x y. bitwise_made Both h x y;
    or_of = λ h x y. bitwise_made Either h x y;
    xor_of = λ h x y. bitwise_made Differ h x y;
    shift_left_of = λ h x by. shift_made Left 5 h x by;
    shift_right_of = λ h x by. shift_made Right 5 h x by;
    shift_arith_of = λ h x by. shift_made Arith 5 h x by;
    rotate_of = λ h x by. shift_made Rotate 5 h x by;
    mul_low_of = λ h x y. free_made h (low_word h x y);
    mul_high_of = λ h x y s. free_made h (high_word h s x y);
    div_of = λ h high low by s. division_made h high low by s;
    both_of = λ h b c. and_made eq h b c;
    either_of = λ h b c. or_made eq h b c;
    differ_of = λ h b c. xor_made eq h b c;
  }
