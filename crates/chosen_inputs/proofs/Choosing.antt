-- Truths of numbers' bits for new inputs.
use Rattle.std.proofs.Common.{◌≡◌, ◌≢◌, ℕ, zero, suc, ◌+◌, ◌-◌, ◌/◌, ◌^◌, ◌<◌, ◌≤◌, Bool, true, false, ltb, cond, List, [], ◌∷◌, ◌++◌, length, ◌∙◌, sym, refl, ap, subst, arith, add-one, slice_set, get_or, get_or-set_other, length-set, pos}
use Rattle.std.proofs.lemmas.List.{ext_get_or}
use Rattle.std.proofs.lemmas.Grind.{get_or-set_at}
use Rattle.std.proofs.lemmas.Bool.Decides.{nat_tests}
use Rattle.std.proofs.Math.Decide.{dec_lt, dec_le}
use Rattle.std.proofs.Math.Pow.{pow_mono}
use Rattle.std.proofs.Math.Nat.{div-eq_of_lt}
use Rattle.word_kit.specs.Prelude.{bit_of}
use Rattle.circuit.specs.Prelude.{lit_truth, word_value, IsInput, at, word_of, lit_bits}
use Rattle.circuit.specs.declared.literals.Lit.{Lit}
use Rattle.circuit.specs.declared.literals.Lit.TheVariants.{Const, Var}
use Rattle.circuit.specs.declared.nodes.Node.{Node}
use Rattle.circuit.specs.declared.nodes.Node.TheVariants.{Input}
use Rattle.circuit.proofs.FreeValues.{free_is}
use Rattle.circuit.proofs.Meanings.{at_word_of, length_word_of}
use Rattle.chosen_inputs.specs.Choices.{CanChoose}
use Rattle.chosen_inputs.specs.Inputs.{with_inputs, input_bit, word_of_inputs}

-- the bits above a number are zeros
no_bit : (x bits k : ℕ) → x < 2 ^ bits → bits ≤ k → bit_of x k ≡ false
no_bit x bits k h l =
    let p : 2 ^ bits ≤ 2 ^ k = pow_mono l in
    let z : x / 2 ^ k ≡ 0 = div-eq_of_lt (omega (arith, h, p)) in
    rw z refl

-- the literals of inputs
bit_inside : (n bits k : ℕ) → k < bits → input_bit n bits k ≡ Var (pos (n + k + 1))
bit_inside n bits k h = let e : ltb k bits ≡ true = grind (arith, nat_tests) in rw e refl

bit_above : (n bits k : ℕ) → bits ≤ k → input_bit n bits k ≡ Const false
bit_above n bits k h = let e : ltb k bits ≡ false = grind (arith, nat_tests) in rw e refl

word_of-ext : (f g : ℕ → Lit) (n : ℕ) → ((k : ℕ) → k < n → f k ≡ g k) → word_of f n ≡ word_of g n
unfolding word_of
word_of-ext f g zero h = refl
word_of-ext f g (suc n) h = let below = word_of-ext f g n (λ k l. h k (omega arith)) in let last = h n (omega arith) in rw (below, last) refl

-- no input yet
pub word_begins : (n : ℕ) → word_of (lit_bits 0) 32 ≡ word_of_inputs n 0
word_begins n = word_of-ext (lit_bits 0) (input_bit n 0) 32 (λ k l. ap Const (no_bit 0 0 k (omega arith) (omega arith)) ∙ sym (bit_above n 0 k (omega arith)))

-- one input more
bit_same : (n i k : ℕ) → k ≢ i → input_bit n i k ≡ input_bit n (i + 1) k
bit_same n i k h = elim (dec_lt k i) [
  | yes lt ↦ bit_inside n i k lt ∙ sym (bit_inside n (i + 1) k (omega arith))
  | no ge ↦ bit_above n i k (omega arith) ∙ sym (bit_above n (i + 1) k (omega arith))
]

pub word_goes_on : (n i : ℕ) (out : List Lit) (bit : Lit) → i < 32 → out ≡ word_of_inputs n i → bit ≡ Var (pos (n + i + 1)) → slice_set out i bit ≡ word_of_inputs n (i + 1)
word_goes_on n i out bit h made here =
    let wide : length out ≡ 32 = ap length made ∙ length_word_of (input_bit n i) 32 in
    let long = length-set out i bit in
    let set : (k : ℕ) → k < 32 → get_or (slice_set out i bit) k (Const false) ≡ get_or (word_of_inputs n (i + 1)) k (Const false) = λ k l. elim (dec_lt k i) [
      | yes lt ↦ get_or-set_other out i k bit (Const false) (omega arith) ∙ ap (λ w. at w k) made ∙ at_word_of (input_bit n i) 32 k l ∙ bit_same n i k (omega arith) ∙ sym (at_word_of (input_bit n (i + 1)) 32 k l)
      | no ge ↦ elim (dec_le k i) [
        | yes le ↦ let e : k ≡ i = omega arith in get_or-set_at out i k bit (Const false) e (omega (arith, wide)) ∙ here ∙ ap (λ j. Var (pos (n + j + 1))) (sym e) ∙ sym (bit_inside n (i + 1) k (omega arith)) ∙ sym (at_word_of (input_bit n (i + 1)) 32 k l)
        | no gt ↦ get_or-set_other out i k bit (Const false) (omega arith) ∙ ap (λ w. at w k) made ∙ at_word_of (input_bit n i) 32 k l ∙ bit_same n i k (omega arith) ∙ sym (at_word_of (input_bit n (i + 1)) 32 k l)
      ]
    ] in
    ext_get_or (Const false) (slice_set out i bit) (word_of_inputs n (i + 1)) (long ∙ wide ∙ sym (length_word_of (input_bit n (i + 1)) 32)) (λ k l. set k (omega (arith, long, wide, l)))

pub nodes_begin : (ns : List Node) → ns ≡ with_inputs 0 ns
unfolding with_inputs
nodes_begin ns = refl

pub nodes_go_on : (i : ℕ) (ns now next : List Node) → now ≡ with_inputs i ns → next ≡ now ++ Input (length now) ∷ [] → next ≡ with_inputs (i + 1) ns
unfolding with_inputs
nodes_go_on i ns now next e f = rw (f, e, add-one) refl

-- the places of the first i inputs, and of one more
pub stand_step : (old new : List Node) (n i : ℕ) → length old ≡ n + i → ((k : ℕ) → IsInput old k → IsInput new k) → ((k : ℕ) → k < i → IsInput old (n + k)) → IsInput new (length old) → (k : ℕ) → k < i + 1 → IsInput new (n + k)
stand_step old new n i c keep below here k h = elim (dec_lt k i) [
  | yes lt ↦ keep (n + k) (below k lt)
  | no ge ↦ let e : length old ≡ n + k = omega (arith, c, h, ge) in subst (λ j. IsInput new j) e here
]

-- the truths of a number's bits for the variables behind the first n, else those of v
numbered : (ℕ → Bool) → ℕ → ℕ → ℕ → Bool
numbered v n x k = cond (ltb n k) (bit_of x (k - (n + 1))) (v k)

numbered_before : (v : ℕ → Bool) (n x k : ℕ) → k ≤ n → numbered v n x k ≡ v k
unfolding numbered
numbered_before v n x k h = let e : ltb n k ≡ false = grind (arith, nat_tests) in rw e refl

numbered_bit : (v : ℕ → Bool) (n x k : ℕ) → numbered v n x (n + k + 1) ≡ bit_of x k
unfolding numbered
numbered_bit v n x k = let e : ltb n (n + k + 1) ≡ true = grind (arith, nat_tests) in let d : n + k + 1 - (n + 1) ≡ k = omega arith in rw (e, d) refl

-- a word of inputs can be any number
pub word_chosen : (old new : List Node) (r : List Lit) (bits x : ℕ) → bits ≤ 32 → x < 2 ^ bits → r ≡ word_of_inputs (length old) bits → ((k : ℕ) → k < bits → IsInput new (length old + k))
    → CanChoose old new (λ w. word_value 32 r w ≡ x)
unfolding CanChoose
word_chosen old new r bits x most h made stand v =
    let bit_at : (k : ℕ) → k < 32 → at r k ≡ input_bit (length old) bits k = λ k l. ap (λ w. at w k) made ∙ at_word_of (input_bit (length old) bits) 32 k l in (
      numbered v (length old) x,
      record { same = λ k l. numbered_before v (length old) x k l },
      λ w t. free_is r w x (let p : 2 ^ bits ≤ 2 ^ 32 = pow_mono most in omega (arith, h, p)) (λ k l. elim (dec_lt k bits) [
        | yes lt ↦ ap (λ b. lit_truth b w) (bit_at k l ∙ bit_inside (length old) bits k lt) ∙ t.has (length old + k) (stand k lt) ∙ numbered_bit v (length old) x k
        | no ge ↦ ap (λ b. lit_truth b w) (bit_at k l ∙ bit_above (length old) bits k (omega arith)) ∙ sym (no_bit x bits k h (omega arith))
      ]),
    )

one_bit : (b : Bool) → bit_of (cond b 1 0) 0 ≡ b
one_bit true = refl
one_bit false = refl

first_bit : (v : ℕ → Bool) (n : ℕ) (b : Bool) → numbered v n (cond b 1 0) (n + 1) ≡ b
first_bit v n b = let e : n + 1 ≡ n + 0 + 1 = omega arith in ap (numbered v n (cond b 1 0)) e ∙ numbered_bit v n (cond b 1 0) 0 ∙ one_bit b

-- one input can have either truth
pub flag_chosen : (old new : List Node) (r : Lit) (b : Bool) → r ≡ Var (pos (length old + 1)) → IsInput new (length old) → CanChoose old new (λ w. lit_truth r w ≡ b)
unfolding CanChoose
flag_chosen old new r b e s v = (
  numbered v (length old) (cond b 1 0),
  record { same = λ k l. numbered_before v (length old) (cond b 1 0) k l },
  λ w t. ap (λ l. lit_truth l w) e ∙ t.has (length old) s ∙ first_bit v (length old) b,
)
