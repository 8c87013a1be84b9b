-- An instruction of a rule where it is laid: its fields fit, and they have the registers of the match. This project's own.
use Rattle.std.proofs.Common.{◌≡◌, ℕ, ◌<◌, ◌^◌, ◌==◌, if◌then◌else◌, Bool, true, false, Some, refl, sym, ap, ◌∙◌, arith}
use Rattle.machines.specs.Prelude.{layout, Fit, Instr, Immediate, LogicImmediate, CompareImmediate, Rotate, Arithmetic, ArithmeticUnary, Logic, ShiftImmediate, LogicUnary, Compare, MoveFromCr, MoveToCr, MoveFromSpr, MoveToSpr, Load, Store, LoadUpdate, StoreUpdate, LoadIndexed, StoreIndexed, LoadIndexedUpdate, StoreIndexedUpdate, BranchConditional, Rlwinm, Rlwnm, Rlwimi}
use Rattle.ppc_isa.specs.Legal.{bit}
use Rattle.rule_soundness.specs.Prelude.{Match, register_field, bound, filled}
use Rattle.rule_soundness.specs.Fields.{s_field, a_field, b_field}
use Rattle.rule_match.specs.Bindings.{constant_of, target_field, is_absolute}

bit_below : (b : Bool) → bit b < 2 ^ 1
bit_below true = omega arith
bit_below false = omega arith

pub constant_fits : (i : Instr) → Fit (layout i) → constant_of i < 2 ^ 16
constant_fits (Immediate op d a imm) f = f.1.1.1.0
constant_fits (LogicImmediate op s a imm) f = f.1.1.1.0
constant_fits (Load op d a imm) f = f.1.1.1.0
constant_fits (Store op s a imm) f = f.1.1.1.0
constant_fits (LoadUpdate op d a imm) f = f.1.1.1.0
constant_fits (StoreUpdate op s a imm) f = f.1.1.1.0
constant_fits (CompareImmediate op field a imm) f = f.1.1.1.1.0
constant_fits _ f = omega arith

pub target_fits : (i : Instr) → Fit (layout i) → target_field i < 2 ^ 14
target_fits (BranchConditional bo bi target absolute link) f = f.1.1.1.0
target_fits _ f = omega arith

-- with a constant, or with a target
module _ (m : Match) (j : ℕ) (constant : m.constant j < 2 ^ 16) (target : m.target < 2 ^ 14) where
  pub filled_fits : (i : Instr) → Fit (layout i) → Fit (layout (filled m j i))
  filled_fits (Immediate op d a imm) f = (f.0, (f.1.0, (f.1.1.0, (constant, tt))))
  filled_fits (LogicImmediate op s a imm) f = (f.0, (f.1.0, (f.1.1.0, (constant, tt))))
  filled_fits (Load op d a imm) f = (f.0, (f.1.0, (f.1.1.0, (constant, tt))))
  filled_fits (Store op s a imm) f = (f.0, (f.1.0, (f.1.1.0, (constant, tt))))
  filled_fits (LoadUpdate op d a imm) f = (f.0, (f.1.0, (f.1.1.0, (constant, tt))))
  filled_fits (StoreUpdate op s a imm) f = (f.0, (f.1.0, (f.1.1.0, (constant, tt))))
  filled_fits (CompareImmediate op field a imm) f = (f.0, (f.1.0, (f.1.1.0, (f.1.1.1.0, (constant, tt)))))
  filled_fits (BranchConditional bo bi target_ absolute link) f = (f.0, (f.1.0, (f.1.1.0, (target, (bit_below m.absolute, f.1.1.1.1.1)))))
  filled_fits _ f = f

-- with registers below 32
module _ (g : ℕ → ℕ) (below : (p : ℕ) → g p < 32) where
  field_fits : (p : ℕ) → register_field g p < 32
  field_fits p = by_test (p == 0)
    where
      by_test : (b : Bool) → (if b then 0 else g p) < 32
      by_test true = omega arith
      by_test false = below p

  pub bound_fits : (i : Instr) → Fit (layout i) → Fit (layout (bound g i))
  bound_fits (Immediate op d a imm) f = (f.0, (field_fits d, (field_fits a, f.1.1.1)))
  bound_fits (LogicImmediate op s a imm) f = (f.0, (field_fits s, (field_fits a, f.1.1.1)))
  bound_fits (Load op d a imm) f = (f.0, (field_fits d, (field_fits a, f.1.1.1)))
  bound_fits (Store op s a imm) f = (f.0, (field_fits s, (field_fits a, f.1.1.1)))
  bound_fits (LoadUpdate op d a imm) f = (f.0, (field_fits d, (field_fits a, f.1.1.1)))
  bound_fits (StoreUpdate op s a imm) f = (f.0, (field_fits s, (field_fits a, f.1.1.1)))
  bound_fits (CompareImmediate op field a imm) f = (f.0, (f.1.0, (f.1.1.0, (field_fits a, f.1.1.1.1))))
  bound_fits (Rotate Rlwnm s a by mask_begin mask_end records) f = (f.0, (field_fits s, (field_fits a, (field_fits by, f.1.1.1.1))))
  bound_fits (Rotate Rlwinm s a by mask_begin mask_end records) f = (f.0, (field_fits s, (field_fits a, f.1.1.1)))
  bound_fits (Rotate Rlwimi s a by mask_begin mask_end records) f = (f.0, (field_fits s, (field_fits a, f.1.1.1)))
  bound_fits (Arithmetic op d a b records) f = (f.0, (field_fits d, (field_fits a, (field_fits b, f.1.1.1.1))))
  bound_fits (ArithmeticUnary op d a records) f = (f.0, (field_fits d, (field_fits a, f.1.1.1)))
  bound_fits (Logic op s a b records) f = (f.0, (field_fits s, (field_fits a, (field_fits b, f.1.1.1.1))))
  bound_fits (ShiftImmediate s a by records) f = (f.0, (field_fits s, (field_fits a, f.1.1.1)))
  bound_fits (LogicUnary op s a records) f = (f.0, (field_fits s, (field_fits a, f.1.1.1)))
  bound_fits (Compare op field a b) f = (f.0, (f.1.0, (f.1.1.0, (field_fits a, (field_fits b, f.1.1.1.1.1)))))
  bound_fits (MoveFromCr d) f = (f.0, (field_fits d, f.1.1))
  bound_fits (MoveToCr s mask) f = (f.0, (field_fits s, f.1.1))
  bound_fits (MoveFromSpr d spr) f = (f.0, (field_fits d, f.1.1))
  bound_fits (MoveToSpr s spr) f = (f.0, (field_fits s, f.1.1))
  bound_fits (LoadIndexed op d a b) f = (f.0, (field_fits d, (field_fits a, (field_fits b, f.1.1.1.1))))
  bound_fits (StoreIndexed op s a b) f = (f.0, (field_fits s, (field_fits a, (field_fits b, f.1.1.1.1))))
  bound_fits (LoadIndexedUpdate op d a b) f = (f.0, (field_fits d, (field_fits a, (field_fits b, f.1.1.1.1))))
  bound_fits (StoreIndexedUpdate op s a b) f = (f.0, (field_fits s, (field_fits a, (field_fits b, f.1.1.1.1))))
  bound_fits _ f = f

-- the registers of two matches are the same in the fields of an instruction
pub record SameFields (g h : ℕ → ℕ) (i : Instr) : Type 0 where
  pub s : (p : ℕ) → s_field i ≡ Some p → register_field g p ≡ register_field h p
  pub a : (p : ℕ) → a_field i ≡ Some p → register_field g p ≡ register_field h p
  pub b : (p : ℕ) → b_field i ≡ Some p → register_field g p ≡ register_field h p

module _ (g h : ℕ → ℕ) where
  pub bound_same : (i : Instr) → SameFields g h i → bound g i ≡ bound h i
  bound_same (Immediate op d a imm) e = ap (λ x. Immediate op x (register_field g a) imm) (e.s d refl) ∙ ap (λ x. Immediate op (register_field h d) x imm) (e.a a refl)
  bound_same (LogicImmediate op s a imm) e = ap (λ x. LogicImmediate op x (register_field g a) imm) (e.s s refl) ∙ ap (λ x. LogicImmediate op (register_field h s) x imm) (e.a a refl)
  bound_same (Load op d a imm) e = ap (λ x. Load op x (register_field g a) imm) (e.s d refl) ∙ ap (λ x. Load op (register_field h d) x imm) (e.a a refl)
  bound_same (Store op s a imm) e = ap (λ x. Store op x (register_field g a) imm) (e.s s refl) ∙ ap (λ x. Store op (register_field h s) x imm) (e.a a refl)
  bound_same (LoadUpdate op d a imm) e = ap (λ x. LoadUpdate op x (register_field g a) imm) (e.s d refl) ∙ ap (λ x. LoadUpdate op (register_field h d) x imm) (e.a a refl)
  bound_same (StoreUpdate op s a imm) e = ap (λ x. StoreUpdate op x (register_field g a) imm) (e.s s refl) ∙ ap (λ x. StoreUpdate op (register_field h s) x imm) (e.a a refl)
  bound_same (CompareImmediate op field a imm) e = ap (λ x. CompareImmediate op field x imm) (e.a a refl)
  bound_same (Rotate Rlwnm s a by mask_begin mask_end records) e = ap (λ x. Rotate Rlwnm x (register_field g a) (register_field g by) mask_begin mask_end records) (e.s s refl) ∙ ap (λ x. Rotate Rlwnm (register_field h s) x (register_field g by) mask_begin mask_end records) (e.a a refl) ∙ ap (λ x. Rotate Rlwnm (register_field h s) (register_field h a) x mask_begin mask_end records) (e.b by refl)
  bound_same (Rotate Rlwinm s a by mask_begin mask_end records) e = ap (λ x. Rotate Rlwinm x (register_field g a) by mask_begin mask_end records) (e.s s refl) ∙ ap (λ x. Rotate Rlwinm (register_field h s) x by mask_begin mask_end records) (e.a a refl)
  bound_same (Rotate Rlwimi s a by mask_begin mask_end records) e = ap (λ x. Rotate Rlwimi x (register_field g a) by mask_begin mask_end records) (e.s s refl) ∙ ap (λ x. Rotate Rlwimi (register_field h s) x by mask_begin mask_end records) (e.a a refl)
  bound_same (Arithmetic op d a b records) e = ap (λ x. Arithmetic op x (register_field g a) (register_field g b) records) (e.s d refl) ∙ ap (λ x. Arithmetic op (register_field h d) x (register_field g b) records) (e.a a refl) ∙ ap (λ x. Arithmetic op (register_field h d) (register_field h a) x records) (e.b b refl)
  bound_same (ArithmeticUnary op d a records) e = ap (λ x. ArithmeticUnary op x (register_field g a) records) (e.s d refl) ∙ ap (λ x. ArithmeticUnary op (register_field h d) x records) (e.a a refl)
  bound_same (Logic op s a b records) e = ap (λ x. Logic op x (register_field g a) (register_field g b) records) (e.s s refl) ∙ ap (λ x. Logic op (register_field h s) x (register_field g b) records) (e.a a refl) ∙ ap (λ x. Logic op (register_field h s) (register_field h a) x records) (e.b b refl)
  bound_same (ShiftImmediate s a by records) e = ap (λ x. ShiftImmediate x (register_field g a) by records) (e.s s refl) ∙ ap (λ x. ShiftImmediate (register_field h s) x by records) (e.a a refl)
  bound_same (LogicUnary op s a records) e = ap (λ x. LogicUnary op x (register_field g a) records) (e.s s refl) ∙ ap (λ x. LogicUnary op (register_field h s) x records) (e.a a refl)
  bound_same (Compare op field a b) e = ap (λ x. Compare op field x (register_field g b)) (e.a a refl) ∙ ap (λ x. Compare op field (register_field h a) x) (e.b b refl)
  bound_same (MoveFromCr d) e = ap (λ x. MoveFromCr x) (e.s d refl)
  bound_same (MoveToCr s mask) e = ap (λ x. MoveToCr x mask) (e.s s refl)
  bound_same (MoveFromSpr d spr) e = ap (λ x. MoveFromSpr x spr) (e.s d refl)
  bound_same (MoveToSpr s spr) e = ap (λ x. MoveToSpr x spr) (e.s s refl)
  bound_same (LoadIndexed op d a b) e = ap (λ x. LoadIndexed op x (register_field g a) (register_field g b)) (e.s d refl) ∙ ap (λ x. LoadIndexed op (register_field h d) x (register_field g b)) (e.a a refl) ∙ ap (λ x. LoadIndexed op (register_field h d) (register_field h a) x) (e.b b refl)
  bound_same (StoreIndexed op s a b) e = ap (λ x. StoreIndexed op x (register_field g a) (register_field g b)) (e.s s refl) ∙ ap (λ x. StoreIndexed op (register_field h s) x (register_field g b)) (e.a a refl) ∙ ap (λ x. StoreIndexed op (register_field h s) (register_field h a) x) (e.b b refl)
  bound_same (LoadIndexedUpdate op d a b) e = ap (λ x. LoadIndexedUpdate op x (register_field g a) (register_field g b)) (e.s d refl) ∙ ap (λ x. LoadIndexedUpdate op (register_field h d) x (register_field g b)) (e.a a refl) ∙ ap (λ x. LoadIndexedUpdate op (register_field h d) (register_field h a) x) (e.b b refl)
  bound_same (StoreIndexedUpdate op s a b) e = ap (λ x. StoreIndexedUpdate op x (register_field g a) (register_field g b)) (e.s s refl) ∙ ap (λ x. StoreIndexedUpdate op (register_field h s) x (register_field g b)) (e.a a refl) ∙ ap (λ x. StoreIndexedUpdate op (register_field h s) (register_field h a) x) (e.b b refl)
  bound_same _ e = refl

-- a constant or a target stands in no register field
module _ (m : Match) (j : ℕ) where
  pub filled_s : (i : Instr) → s_field (filled m j i) ≡ s_field i
  filled_s (Immediate op d a imm) = refl
  filled_s (BranchConditional bo bi target absolute link) = refl
  filled_s _ = refl

  pub filled_a : (i : Instr) → a_field (filled m j i) ≡ a_field i
  filled_a (Immediate op d a imm) = refl
  filled_a (BranchConditional bo bi target absolute link) = refl
  filled_a _ = refl

  pub filled_b : (i : Instr) → b_field (filled m j i) ≡ b_field i
  filled_b (Immediate op d a imm) = refl
  filled_b (BranchConditional bo bi target absolute link) = refl
  filled_b (Rotate op s a by mask_begin mask_end records) = refl
  filled_b _ = refl

  pub same_filled : (g h : ℕ → ℕ) (i : Instr) → SameFields g h i → SameFields g h (filled m j i)
  same_filled g h i e = record { s = λ p q. e.s p (sym (filled_s i) ∙ q); a = λ p q. e.a p (sym (filled_a i) ∙ q); b = λ p q. e.b p (sym (filled_b i) ∙ q) }

-- nor where it is laid
module _ (m : Match) (j : ℕ) where
  pub filled_bound_s : (g : ℕ → ℕ) (i : Instr) → s_field (bound g (filled m j i)) ≡ s_field (bound g i)
  filled_bound_s g (Immediate op d a imm) = refl
  filled_bound_s g _ = refl

  pub filled_bound_a : (g : ℕ → ℕ) (i : Instr) → a_field (bound g (filled m j i)) ≡ a_field (bound g i)
  filled_bound_a g (Immediate op d a imm) = refl
  filled_bound_a g _ = refl

  pub filled_bound_b : (g : ℕ → ℕ) (i : Instr) → b_field (bound g (filled m j i)) ≡ b_field (bound g i)
  filled_bound_b g (Immediate op d a imm) = refl
  filled_bound_b g (Rotate Rlwinm s a by mask_begin mask_end records) = refl
  filled_bound_b g (Rotate Rlwnm s a by mask_begin mask_end records) = refl
  filled_bound_b g (Rotate Rlwimi s a by mask_begin mask_end records) = refl
  filled_bound_b g _ = refl

-- an instruction where it is laid gives back its constant or its target
pub filled_again : (m n : Match) (g : ℕ → ℕ) (j k : ℕ) (i : Instr) → n.constant k ≡ constant_of (bound g (filled m j i)) → n.target ≡ target_field (bound g (filled m j i)) → n.absolute ≡ is_absolute (bound g (filled m j i)) → filled n k i ≡ filled m j i
filled_again m n g j k (Immediate op d a imm) c t b = ap (λ x. Immediate op d a x) c
filled_again m n g j k (LogicImmediate op s a imm) c t b = ap (λ x. LogicImmediate op s a x) c
filled_again m n g j k (Load op d a imm) c t b = ap (λ x. Load op d a x) c
filled_again m n g j k (Store op s a imm) c t b = ap (λ x. Store op s a x) c
filled_again m n g j k (LoadUpdate op d a imm) c t b = ap (λ x. LoadUpdate op d a x) c
filled_again m n g j k (StoreUpdate op s a imm) c t b = ap (λ x. StoreUpdate op s a x) c
filled_again m n g j k (CompareImmediate op field a imm) c t b = ap (λ x. CompareImmediate op field a x) c
filled_again m n g j k (BranchConditional bo bi target absolute link) c t b = ap (λ x. BranchConditional bo bi x n.absolute link) t ∙ ap (λ x. BranchConditional bo bi m.target x link) b
filled_again m n g j k _ c t b = refl
