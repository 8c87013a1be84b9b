-- The constant of a word is that of its instruction. This project's own.
use Rattle.std.proofs.Common.{◌≡◌, ℕ, zero, suc, List, [], ◌∷◌, slice_get, Some, None, refl, subst}
use Rattle.machines.specs.Prelude.{Instr, IsWordOf}
use Rattle.rule_soundness.specs.Prelude.{AreWordsOf}
use Rattle.rule_match.specs.Bindings.{constant_of, constant_at}

pub no_constant : (window : List ℕ) (found : List Instr) (j : ℕ) → AreWordsOf window found → slice_get window j ≡ None → constant_at found j ≡ 0
no_constant [] [] j are e = refl
no_constant [] (i ∷ is) j are e = absurd are
no_constant (w ∷ ws) [] j are e = absurd are
no_constant (w ∷ ws) (i ∷ is) zero are e = absurd cc
no_constant (w ∷ ws) (i ∷ is) (suc j) are e = no_constant ws is j are.1 e

pub its_constant : (window : List ℕ) (found : List Instr) (j w : ℕ) → AreWordsOf window found → slice_get window j ≡ Some w → (i : Instr) × IsWordOf w i × (constant_at found j ≡ constant_of i)
its_constant [] [] j w are e = absurd cc
its_constant [] (i ∷ is) j w are e = absurd are
its_constant (v ∷ ws) [] j w are e = absurd are
its_constant (v ∷ ws) (i ∷ is) zero w are e = let h : v ≡ w = cc in (i, subst (λ k. IsWordOf k i) h are.0, refl)
its_constant (v ∷ ws) (i ∷ is) (suc j) w are e = its_constant ws is j w are.1 e

pub not_none : (i : Instr) → None ≡ Some i → ⊥
not_none i e = cc

pub same_instr : (i j : Instr) → Some i ≡ Some j → i ≡ j
same_instr i j e = cc
