-- What the rows that give one result read for it.
use Rattle.std.proofs.Common.{◌≡◌, ℕ, ◌+◌, ◌%◌, ◌^◌, Bool, true, false, cond, eqb, [], ◌∷◌, refl, ap, ◌∙◌}
use Rattle.machines.specs.Prelude.{complement, sum_word, sum_carries, rotated, mask, word_and, word_or, word_xor, product_low, product_high, immediate_operand, carry_in, unary_carry, rotate_operands, GuestValues, left_by, right_by, arith_by, loses_ones, leading_zeros, rotate, quotient_signed, quotient_unsigned, half_extended, byte_extended, immediate_row, arithmetic_row, arithmetic_unary_row, logic_row, logic_unary_row, guest_values, immediate_word, Immediate, Rotate, ImmediateOp, Addi, Addis, Addic, AddicRecord, Subfic, Mulli, RotateOp, Rlwinm, Rlwnm, Rlwimi, ArithmeticOp, Add, Addc, Adde, Subf, Subfc, Subfe, Mullw, Mulhw, Mulhwu, Divw, Divwu, ArithmeticUnaryOp, Addze, Addme, Subfze, Subfme, Neg, LogicOp, And, Or, Xor, Nand, Nor, Eqv, Andc, Orc, Slw, Srw, Sraw, LogicUnaryOp, Cntlzw, Extsb, Extsh}
use Rattle.ppc_isa.specs.Locations.{base}
use Rattle.ppc_isa.specs.Recording.{ca}
use Rattle.row_laws.proofs.Lists.{SameIn, same_first, same_later}
use Rattle.row_laws.proofs.Shapes.{immediate_carry, arithmetic_carry, arithmetic_unary_carry, logic_carry}

pub both : {X : Type 0} (f : ℕ → ℕ → X) {x x' y y' : ℕ} → x ≡ x' → y ≡ y' → f x y ≡ f x' y'
both f {x} {x'} {y} {y'} e h = ap (λ n. f n y) e ∙ ap (λ n. f x' n) h

with_carry : {X : Type 0} (f : ℕ → ℕ → Bool → X) {x x' y y' : ℕ} {c c' : Bool} → x ≡ x' → y ≡ y' → c ≡ c' → f x y c ≡ f x' y' c'
with_carry f {x} {x'} {y} {y'} {c} {c'} e h k = both (λ a b. f a b c) e h ∙ ap (λ d. f x' y' d) k

-- (rA|0)
pub base_same : (a : ℕ) (p q : ℕ → ℕ) → SameIn (base a) p q → cond (eqb a 0) 0 (p a) ≡ cond (eqb a 0) 0 (q a)
base_same a p q s = by_test (eqb a 0) s
  where
    by_test : (b : Bool) → SameIn (cond b [] (a ∷ [])) p q → cond b 0 (p a) ≡ cond b 0 (q a)
    by_test true s = refl
    by_test false s = same_first a [] p q s

pub immediate_number : (op : ImmediateOp) (d a imm l m : ℕ) (p q : ℕ → ℕ) → SameIn (immediate_operand op a) p q →
    (immediate_row op a (guest_values (Immediate op d a imm) l p)).d ≡ (immediate_row op a (guest_values (Immediate op d a imm) m q)).d
immediate_number Addi d a imm l m p q s = ap (λ x. (x + immediate_word Addi imm) % 2 ^ 32) (base_same a p q s)
immediate_number Addis d a imm l m p q s = ap (λ x. (x + immediate_word Addis imm) % 2 ^ 32) (base_same a p q s)
immediate_number Addic d a imm l m p q s = ap (λ x. sum_word x (immediate_word Addic imm) false) (same_first a [] p q s)
immediate_number AddicRecord d a imm l m p q s = ap (λ x. sum_word x (immediate_word AddicRecord imm) false) (same_first a [] p q s)
immediate_number Subfic d a imm l m p q s = ap (λ x. sum_word (complement x) (immediate_word Subfic imm) true) (same_first a [] p q s)
immediate_number Mulli d a imm l m p q s = ap (λ x. product_low x (immediate_word Mulli imm)) (same_first a [] p q s)

pub immediate_carry_same : (op : ImmediateOp) (d a imm l m : ℕ) (p q : ℕ → ℕ) → SameIn (immediate_operand op a) p q →
    immediate_carry op (guest_values (Immediate op d a imm) l p) ≡ immediate_carry op (guest_values (Immediate op d a imm) m q)
immediate_carry_same Addi d a imm l m p q s = refl
immediate_carry_same Addis d a imm l m p q s = refl
immediate_carry_same Addic d a imm l m p q s = ap (λ x. sum_carries x (immediate_word Addic imm) false) (same_first a [] p q s)
immediate_carry_same AddicRecord d a imm l m p q s = ap (λ x. sum_carries x (immediate_word AddicRecord imm) false) (same_first a [] p q s)
immediate_carry_same Subfic d a imm l m p q s = ap (λ x. sum_carries (complement x) (immediate_word Subfic imm) true) (same_first a [] p q s)
immediate_carry_same Mulli d a imm l m p q s = refl

pub arithmetic_number : (op : ArithmeticOp) (records : Bool) (v w : GuestValues) → v.a ≡ w.a → v.b ≡ w.b → (carry_in op ≡ true → ca v ≡ ca w) → (arithmetic_row op records v).d ≡ (arithmetic_row op records w).d
arithmetic_number Add records v w a b c = both (λ x y. (x + y) % 2 ^ 32) a b
arithmetic_number Addc records v w a b c = both (λ x y. sum_word x y false) a b
arithmetic_number Adde records v w a b c = with_carry (λ x y z. sum_word x y z) a b (c refl)
arithmetic_number Subf records v w a b c = both (λ x y. sum_word (complement x) y true) a b
arithmetic_number Subfc records v w a b c = both (λ x y. sum_word (complement x) y true) a b
arithmetic_number Subfe records v w a b c = with_carry (λ x y z. sum_word (complement x) y z) a b (c refl)
arithmetic_number Mullw records v w a b c = both (λ x y. product_low x y) a b
arithmetic_number Mulhw records v w a b c = both (λ x y. product_high x y true) a b
arithmetic_number Mulhwu records v w a b c = both (λ x y. product_high x y false) a b
arithmetic_number Divw records v w a b c = both (λ x y. quotient_signed x y) a b
arithmetic_number Divwu records v w a b c = both (λ x y. quotient_unsigned x y) a b

pub arithmetic_carry_same : (op : ArithmeticOp) (v w : GuestValues) → v.a ≡ w.a → v.b ≡ w.b → (carry_in op ≡ true → ca v ≡ ca w) → arithmetic_carry op v ≡ arithmetic_carry op w
arithmetic_carry_same Addc v w a b c = both (λ x y. sum_carries x y false) a b
arithmetic_carry_same Adde v w a b c = with_carry (λ x y z. sum_carries x y z) a b (c refl)
arithmetic_carry_same Subfc v w a b c = both (λ x y. sum_carries (complement x) y true) a b
arithmetic_carry_same Subfe v w a b c = with_carry (λ x y z. sum_carries (complement x) y z) a b (c refl)
arithmetic_carry_same _ v w a b c = refl

pub arithmetic_unary_number : (op : ArithmeticUnaryOp) (records : Bool) (v w : GuestValues) → v.a ≡ w.a → (unary_carry op ≡ true → ca v ≡ ca w) → (arithmetic_unary_row op records v).d ≡ (arithmetic_unary_row op records w).d
arithmetic_unary_number Addze records v w a c = with_carry (λ x y z. sum_word x y z) a refl (c refl)
arithmetic_unary_number Addme records v w a c = with_carry (λ x y z. sum_word x y z) a refl (c refl)
arithmetic_unary_number Subfze records v w a c = with_carry (λ x y z. sum_word (complement x) y z) a refl (c refl)
arithmetic_unary_number Subfme records v w a c = with_carry (λ x y z. sum_word (complement x) y z) a refl (c refl)
arithmetic_unary_number Neg records v w a c = ap (λ x. sum_word (complement x) 0 true) a

pub arithmetic_unary_carry_same : (op : ArithmeticUnaryOp) (v w : GuestValues) → v.a ≡ w.a → (unary_carry op ≡ true → ca v ≡ ca w) → arithmetic_unary_carry op v ≡ arithmetic_unary_carry op w
arithmetic_unary_carry_same Addze v w a c = with_carry (λ x y z. sum_carries x y z) a refl (c refl)
arithmetic_unary_carry_same Addme v w a c = with_carry (λ x y z. sum_carries x y z) a refl (c refl)
arithmetic_unary_carry_same Subfze v w a c = with_carry (λ x y z. sum_carries (complement x) y z) a refl (c refl)
arithmetic_unary_carry_same Subfme v w a c = with_carry (λ x y z. sum_carries (complement x) y z) a refl (c refl)
arithmetic_unary_carry_same Neg v w a c = refl

pub logic_number : (op : LogicOp) (records : Bool) (v w : GuestValues) → v.s ≡ w.s → v.b ≡ w.b → (logic_row op records v).a ≡ (logic_row op records w).a
logic_number And records v w s b = both (λ x y. word_and x y) s b
logic_number Or records v w s b = both (λ x y. word_or x y) s b
logic_number Xor records v w s b = both (λ x y. word_xor x y) s b
logic_number Nand records v w s b = both (λ x y. complement (word_and x y)) s b
logic_number Nor records v w s b = both (λ x y. complement (word_or x y)) s b
logic_number Eqv records v w s b = both (λ x y. complement (word_xor x y)) s b
logic_number Andc records v w s b = both (λ x y. word_and x (complement y)) s b
logic_number Orc records v w s b = both (λ x y. word_or x (complement y)) s b
logic_number Slw records v w s b = both (λ x y. left_by x (y % 64)) s b
logic_number Srw records v w s b = both (λ x y. right_by x (y % 64)) s b
logic_number Sraw records v w s b = both (λ x y. arith_by x (y % 64)) s b

pub logic_carry_same : (op : LogicOp) (v w : GuestValues) → v.s ≡ w.s → v.b ≡ w.b → logic_carry op v ≡ logic_carry op w
logic_carry_same Sraw v w s b = both (λ x y. loses_ones x (y % 64)) s b
logic_carry_same _ v w s b = refl

pub logic_unary_number : (op : LogicUnaryOp) (records : Bool) (v w : GuestValues) → v.s ≡ w.s → (logic_unary_row op records v).a ≡ (logic_unary_row op records w).a
logic_unary_number Cntlzw records v w s = ap (λ x. leading_zeros 32 x) s
logic_unary_number Extsb records v w s = ap (λ x. byte_extended x) s
logic_unary_number Extsh records v w s = ap (λ x. half_extended x) s

pub rotate_number : (op : RotateOp) (s a by mb me l m : ℕ) (records : Bool) (p q : ℕ → ℕ) → SameIn (rotate_operands op s a by) p q →
    rotate op by mb me (guest_values (Rotate op s a by mb me records) l p) ≡ rotate op by mb me (guest_values (Rotate op s a by mb me records) m q)
rotate_number Rlwinm s a by mb me l m records p q h = ap (λ x. word_and (rotated x by) (mask mb me)) (same_first s [] p q h)
rotate_number Rlwnm s a by mb me l m records p q h = both (λ x y. word_and (rotated x y) (mask mb me)) (same_first s (by ∷ []) p q h) (same_first by [] p q (same_later s (by ∷ []) p q h))
rotate_number Rlwimi s a by mb me l m records p q h = both (λ x y. word_or (word_and (rotated x by) (mask mb me)) (word_and y (complement (mask mb me)))) (same_first s (a ∷ []) p q h) (same_first a [] p q (same_later s (a ∷ []) p q h))
