-- Places that are filled one after another.
use Rattle.std.proofs.Common.{◌≡◌, ℕ, ◌+◌, ◌<◌, List, [], length, sym, subst, arith, slice_index_or, slice_set, get_or-set_other}
use Rattle.std.proofs.lemmas.Grind.{get_or-set_at}
use Rattle.std.proofs.Math.Decide.{dec_lt}
use Rattle.circuit.specs.declared.literals.Lit.{Lit}

pub put_step : (P : ℕ → List Lit → Type 0) (i : ℕ) (words : List (List Lit)) (word : List Lit) → i < length words → ((k : ℕ) → k < i → P k (slice_index_or words k [])) → P i word → (k : ℕ) → k < i + 1 → P k (slice_index_or (slice_set words i word) k [])
put_step P i words word inside below here k h = elim (dec_lt k i) [
  | yes lt ↦ subst (P k) (sym (get_or-set_other words i k word [] (omega arith))) (below k lt)
  | no ge ↦ let e : k ≡ i = omega arith in subst (P k) (sym (get_or-set_at words i k word [] e inside)) (subst (λ j. P j word) (sym e) here)
]
