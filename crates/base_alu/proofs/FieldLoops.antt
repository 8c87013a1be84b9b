-- The tiles of mfcr and mtcrf, field by field.
use Rattle.std.proofs.Common.{◌≡◌, ℕ, zero, suc, ◌+◌, ◌-◌, ◌<◌, ◌≤◌, cond, List, [], ◌∷◌, ◌++◌, append_assoc, refl, sym, ap, ◌∙◌, arith}
use Rattle.machines.specs.Prelude.{bit_of}
use Rattle.symbolic_tiles.specs.declared.symbolic_op.SymbolicOp.{SymbolicOp}
use Rattle.symbolic_tiles.specs.declared.symbolic_op.SymbolicOp.TheVariants.{Put, FetchByte}
use Rattle.base_alu.specs.Conditions.{next_field, mfcr_ops, chosen_ops, mtcrf_below}

-- the last n fields, and the result
unfoldable pub fields_behind : ℕ → ℕ → List SymbolicOp
fields_behind zero d = Put d 0 ∷ []
fields_behind (suc n) d = next_field (7 - n) ++ fields_behind n d

pub first_field : (d : ℕ) (made : List SymbolicOp) → made ≡ FetchByte 0 34 ∷ [] → made ++ fields_behind 7 d ≡ mfcr_ops d
unfolding fields_behind
first_field d made e = ap (λ xs. xs ++ fields_behind 7 d) e

-- one further op list before those that are still to come
joined : (made made' one rest whole : List SymbolicOp) → made' ≡ made ++ one → made ++ (one ++ rest) ≡ whole → made' ++ rest ≡ whole
joined made made' one rest whole e h = ap (λ xs. xs ++ rest) e ∙ append_assoc made one rest ∙ h

pub one_field : (f d : ℕ) (made made' one whole : List SymbolicOp) → f < 8 → one ≡ next_field f → made' ≡ made ++ one → made ++ fields_behind (8 - f) d ≡ whole → made' ++ fields_behind (8 - (f + 1)) d ≡ whole
unfolding fields_behind
one_field f d made made' one whole lt is e h = by_count (8 - (f + 1)) (omega arith) (omega arith)
  where
    by_count : (n : ℕ) → 8 - f ≡ suc n → 7 - n ≡ f → made' ++ fields_behind n d ≡ whole
    by_count n p q = joined made made' one (fields_behind n d) whole e (ap (λ xs. made ++ (xs ++ fields_behind n d)) is ∙ ap (λ k. made ++ (next_field k ++ fields_behind n d)) (sym q) ∙ ap (λ k. made ++ fields_behind k d) (sym p) ∙ h)

pub last_field : (f d : ℕ) (made made' whole : List SymbolicOp) → 8 ≤ f → made' ≡ made ++ Put d 0 ∷ [] → made ++ fields_behind (8 - f) d ≡ whole → made' ≡ whole
unfolding fields_behind
last_field f d made made' whole le e h = e ∙ ap (λ k. made ++ fields_behind k d) (let p : 0 ≡ 8 - f = omega arith in p) ∙ h

pub chosen_field : (f s fxm : ℕ) (made made' one whole : List SymbolicOp) → f < 8 → one ≡ cond (bit_of fxm (7 - f)) (chosen_ops s f) [] → made' ≡ made ++ one → made ++ mtcrf_below (8 - f) s fxm ≡ whole → made' ++ mtcrf_below (8 - (f + 1)) s fxm ≡ whole
unfolding mtcrf_below
chosen_field f s fxm made made' one whole lt is e h = by_count (8 - (f + 1)) (omega arith) (omega arith) (omega arith)
  where
    by_count : (n : ℕ) → 8 - f ≡ suc n → 7 - n ≡ f → 7 - f ≡ n → made' ++ mtcrf_below n s fxm ≡ whole
    by_count n p q r = joined made made' one (mtcrf_below n s fxm) whole e (ap (λ xs. made ++ (xs ++ mtcrf_below n s fxm)) is ∙ ap (λ k. made ++ (cond (bit_of fxm k) (chosen_ops s f) [] ++ mtcrf_below n s fxm)) r ∙ ap (λ k. made ++ (cond (bit_of fxm n) (chosen_ops s k) [] ++ mtcrf_below n s fxm)) (sym q) ∙ ap (λ k. made ++ mtcrf_below k s fxm) (sym p) ∙ h)

pub no_field : (f s fxm : ℕ) (made whole : List SymbolicOp) → 8 ≤ f → made ++ mtcrf_below (8 - f) s fxm ≡ whole → made ≡ whole
unfolding mtcrf_below
no_field f s fxm made whole le h = sym (nothing made) ∙ ap (λ k. made ++ mtcrf_below k s fxm) (let p : 0 ≡ 8 - f = omega arith in p) ∙ h
  where
    nothing : (xs : List SymbolicOp) → xs ++ [] ≡ xs
    nothing [] = refl
    nothing (x ∷ xs) = ap (λ ys. x ∷ ys) (nothing xs)
