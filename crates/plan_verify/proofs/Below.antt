-- Plans that are good up to a block.
use Rattle.std.proofs.Common.{◌≡◌, inl, inr, ℕ, zero, suc, ◌+◌, ◌<◌, ◌≤◌, List, length, nat_lt, Option, Some, slice_get, ⊎_elim, refl, sym, subst, arith}
use Rattle.std.proofs.lemmas.Bool.{cases_lt}
use Rattle.std.proofs.lemmas.Option.{slice_get_cases, slice_get_within}
use Rattle.block_find.specs.declared.block.Blocks.{Blocks}
use Rattle.block_find.specs.Prelude.{all_blocks, block_at}
use Rattle.liveness.specs.Prelude.{Sets}
use Rattle.plan_form.specs.declared.problem.BlockPlan.{BlockPlan}
use Rattle.plan_verify.specs.Failures.{AreGoodBelow, FailsFor, IsFirstFailure, IsGood}

module _ (live : Sets) (blocks : Blocks) (plans : List BlockPlan) where
  abbrev IsGoodAt : ℕ → Type 0
  IsGoodAt k = (b : BlockPlan) × (slice_get plans k ≡ Some b) × IsGood live (block_at (all_blocks blocks) k) (nat_lt k (length blocks.leaders)) b

  pub one_more : (n : ℕ) → AreGoodBelow live blocks plans n → (b : BlockPlan) → slice_get plans n ≡ Some b
      → IsGood live (block_at (all_blocks blocks) n) (nat_lt n (length blocks.leaders)) b → AreGoodBelow live blocks plans (n + 1)
  one_more n before b there good = λ k lt.
      ⊎_elim
      (λ below. before k below)
      (λ ge. let same : n ≡ k = omega (arith, lt, ge) in let here : IsGoodAt n = (b, there, good) in subst IsGoodAt same here)
      (cases_lt k n)

  pub as_many : (n : ℕ) → AreGoodBelow live blocks plans n → n ≤ length plans
  as_many zero good = omega arith
  as_many (suc m) good =
      let last = good m (omega arith) in
      let within = slice_get_within plans m last.0 last.1 in
      omega (arith, within)

  pub one_too_many : (n : ℕ) → n ≡ length (all_blocks blocks) → AreGoodBelow live blocks plans n → n < length plans → IsFirstFailure live blocks plans n 0
  one_too_many n is good more = record {
    before = good;
    fails = elim (slice_get_cases plans n).1 [
      | inl found ↦ subst (λ (o : Option BlockPlan). FailsFor live blocks n o 0) (sym found.2) (inl (is, refl))
      | inr past ↦ (let out = past.0 in absurd (omega (arith, out, more)))
    ];
  }
