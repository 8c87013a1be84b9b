-- The best plans of a program's blocks lay their words.
use Rattle.std.proofs.Common.{◌≡◌, ℕ, ◌+◌, ◌<◌, ◌≤◌, List, [], length, take, drop, slice_index, slice_get, slice_index_or, option_map, Option, Some, None, inl, inr, refl, sym, ap, ◌∙◌, subst, arith}
use Rattle.std.proofs.lemmas.List.{length-map, get_or-take, get_or-drop}
use Rattle.std.proofs.lemmas.Option.{slice_get_cases, get_or_from_slice_get, slice_get-map}
use Rattle.machines.specs.Prelude.{Instr}
use Rattle.block_find.specs.declared.block.Block.{Block}
use Rattle.block_find.specs.declared.block.Blocks.{Blocks}
use Rattle.block_find.specs.Prelude.{AreBlocksOf, EachIsBlock, all_blocks, block_at}
use Rattle.liveness.specs.Prelude.{Sets, AreLive}
use Rattle.plan_form.specs.declared.problem.BlockPlan.{BlockPlan}
use Rattle.plan_form.specs.declared.problem.Step.{Step}
use Rattle.offer_make.specs.Problem.{EachHasLiveSets}
use Rattle.best_plans.specs.Plans.{AreBestPlans}
use Rattle.plan_lays.specs.Laws.{ValidPlansLay}
use Rattle.code_layout.specs.Prelude.{ArePlansFor, AreDecodedAs, IsDecodedAs, LaysWords, decoded_at, no_registers, steps_of, words_of}
use Rattle.code_layout.proofs.Blocks.{place_is, part_count}

past : {X : Type 0} (xs : List X) (k : ℕ) → slice_get xs k ≡ None → length xs ≤ k
past xs k none = elim (slice_get_cases xs k).1 [
  | inl found ↦ (let both : None ≡ Some found.0 = sym none ∙ found.2 in absurd cc)
  | inr out ↦ out.0
]

module _ (each_is : EachIsBlock) (have_live : EachHasLiveSets) (lay : ValidPlansLay) (first entry : ℕ) (words : List ℕ) (decoded : List (Option Instr)) (blocks : Blocks) (live : Sets) (plans : List BlockPlan)
    (are_blocks : AreBlocksOf first entry words blocks) (are_live : AreLive first words live) (are_decoded : AreDecodedAs words decoded) (best : AreBestPlans live blocks plans) where
  abbrev all : List Block
  all = all_blocks blocks

  -- the words of a block are decoded as all are
  block_decoded : (k : ℕ) → k < length all → AreDecodedAs (block_at all k).words (words_of first decoded (block_at all k))
  block_decoded k lt =
      let is = each_is first entry words blocks are_blocks k lt in
      let n : ℕ = length (block_at all k).words in
      let place = place_is first words is.0 (block_at all k) is.1 in
      let within = is.1.within in
      record {
        count = part_count first words is.0 (block_at all k) is.1 decoded are_decoded.count;
        each = λ j less.
            let here : decoded_at (words_of first decoded (block_at all k)) j ≡ decoded_at decoded (is.0 + j) =
            ap (λ (p : ℕ). decoded_at (take n (drop p decoded)) j) place ∙ get_or-take n (drop is.0 decoded) j None less ∙ get_or-drop is.0 decoded j None in
            subst (λ (w : ℕ). IsDecodedAs w (decoded_at (words_of first decoded (block_at all k)) j)) (sym (is.1.each j less)) (
            subst (λ (o : Option Instr). IsDecodedAs (slice_index words (is.0 + j)) o) (sym here) (are_decoded.each (is.0 + j) (omega (arith, less, within))));
      }

  each_lays : (k : ℕ) → k < length all → (plan : BlockPlan) → slice_get plans k ≡ Some plan → LaysWords 6 no_registers (words_of first decoded (block_at all k)) plan.plan.steps.items no_registers
  each_lays k lt plan there =
      let is = best.each k plan there in
      lay live (block_at all k) _ is.problem plan.plan.steps.items is.solved.cost (words_of first decoded (block_at all k)) (have_live first entry words blocks live are_blocks are_live k lt) is.is_problem is.is_full is.solved.chosen.plan (block_decoded k lt)

  by_plan : (k : ℕ) → k < length all → (o : Option BlockPlan) → slice_get plans k ≡ o → LaysWords 6 no_registers (words_of first decoded (block_at all k)) (slice_index_or (steps_of plans) k []) no_registers
  by_plan k lt (Some plan) there =
      let steps : slice_index_or (steps_of plans) k [] ≡ plan.plan.steps.items =
      get_or_from_slice_get (steps_of plans) k plan.plan.steps.items [] (slice_get-map (λ (p : BlockPlan). p.plan.steps.items) plans k ∙ ap (option_map (λ (p : BlockPlan). p.plan.steps.items)) there) in
      subst (λ (xs : List Step). LaysWords 6 no_registers (words_of first decoded (block_at all k)) xs no_registers) (sym steps) (each_lays k lt plan there)
  by_plan k lt None there = let count = best.count in let within : length plans ≤ k = past plans k there in absurd (omega (arith, count, within, lt))

  pub plans_for : ArePlansFor first decoded all (steps_of plans)
  plans_for = record {
    count = length-map plans (λ (p : BlockPlan). p.plan.steps.items) ∙ best.count;
    each = λ k lt. by_plan k lt (slice_get plans k) refl;
  }
