-- The tiles of lmw and stmw, register by register.
use Rattle.std.proofs.Common.{◌≡◌, ℕ, suc, ◌+◌, ◌-◌, ◌<◌, ◌≤◌, List, [], ◌∷◌, ◌++◌, append_assoc, refl, sym, ap, ◌∙◌, arith}
use Rattle.symbolic_tiles.specs.declared.symbolic_op.SymbolicOp.{SymbolicOp}
use Rattle.base_mem.specs.Multiple.{one_load, lmw_ops, one_store, stmw_ops}

-- one further op list before those that are still to come
joined : (made made' one rest whole : List SymbolicOp) → made' ≡ made ++ one → made ++ (one ++ rest) ≡ whole → made' ++ rest ≡ whole
joined made made' one rest whole e h = ap (λ xs. xs ++ rest) e ∙ append_assoc made one rest ∙ h

nothing : (xs : List SymbolicOp) → xs ++ [] ≡ xs
nothing [] = refl
nothing (x ∷ xs) = ap (λ ys. x ∷ ys) (nothing xs)

pub load_further : (r d : ℕ) (made made' one whole : List SymbolicOp) → r < 32 → one ≡ one_load r d → made' ≡ made ++ one → made ++ lmw_ops (32 - r) d ≡ whole → made' ++ lmw_ops (32 - (r + 1)) d ≡ whole
unfolding lmw_ops
load_further r d made made' one whole lt is e h = by_count (32 - (r + 1)) (omega arith) (omega arith)
  where
    by_count : (n : ℕ) → 32 - r ≡ suc n → 31 - n ≡ r → made' ++ lmw_ops n d ≡ whole
    by_count n p q = joined made made' one (lmw_ops n d) whole e (ap (λ xs. made ++ (xs ++ lmw_ops n d)) is ∙ ap (λ k. made ++ (one_load k d ++ lmw_ops n d)) (sym q) ∙ ap (λ k. made ++ lmw_ops k d) (sym p) ∙ h)

pub all_loaded : (r d : ℕ) (made whole : List SymbolicOp) → 32 ≤ r → made ++ lmw_ops (32 - r) d ≡ whole → made ≡ whole
unfolding lmw_ops
all_loaded r d made whole le h = sym (nothing made) ∙ ap (λ k. made ++ lmw_ops k d) (let p : 0 ≡ 32 - r = omega arith in p) ∙ h

pub store_further : (r s : ℕ) (made made' one whole : List SymbolicOp) → r < 32 → one ≡ one_store r s → made' ≡ made ++ one → made ++ stmw_ops (32 - r) s ≡ whole → made' ++ stmw_ops (32 - (r + 1)) s ≡ whole
unfolding stmw_ops
store_further r s made made' one whole lt is e h = by_count (32 - (r + 1)) (omega arith) (omega arith)
  where
    by_count : (n : ℕ) → 32 - r ≡ suc n → 31 - n ≡ r → made' ++ stmw_ops n s ≡ whole
    by_count n p q = joined made made' one (stmw_ops n s) whole e (ap (λ xs. made ++ (xs ++ stmw_ops n s)) is ∙ ap (λ k. made ++ (one_store k s ++ stmw_ops n s)) (sym q) ∙ ap (λ k. made ++ stmw_ops k s) (sym p) ∙ h)

pub all_stored : (r s : ℕ) (made whole : List SymbolicOp) → 32 ≤ r → made ++ stmw_ops (32 - r) s ≡ whole → made ≡ whole
unfolding stmw_ops
all_stored r s made whole le h = sym (nothing made) ∙ ap (λ k. made ++ stmw_ops k s) (let p : 0 ≡ 32 - r = omega arith in p) ∙ h
