-- A program has one list of best plans.
use Rattle.std.proofs.Common.{◌≡◌, ℕ, Bool, List, ◌++◌, length, sym, subst, ap, ◌∙◌, arith}
use Rattle.std.specs.Prelude.{nat_lt}
use Rattle.machines.specs.Prelude.{HasOneInstruction}
use Rattle.block_find.specs.declared.block.Block.{Block}
use Rattle.block_find.specs.Prelude.{AreBlocksOf, all_blocks, block_at}
use Rattle.block_find.proofs.Gathering.{same_words}
use Rattle.code_words.specs.Words.{first_of}
use Rattle.liveness.specs.Prelude.{Sets, AreLive}
use Rattle.plan_form.specs.declared.problem.BlockPlan.{BlockPlan}
use Rattle.plan_form.specs.Prelude.{values_of}
use Rattle.tile_plan.specs.Solution.{IsLeastCost}
use Rattle.code_layout.specs.Prelude.{no_registers}
use Rattle.best_plans.specs.Plans.{IsBestPlan}
use Rattle.one_plan.specs.Laws.{IsSamePlan, OneListOfBestPlans}
use Rattle.one_plan.proofs.Alike.{AreAlike, turned, chosen, least, node, stands, same_label, shaped}
use Rattle.one_plan.proofs.Choices.{one_choice}
use Rattle.one_plan.proofs.Labels.{AreLeastCosts, same_labels}
use Rattle.one_plan.proofs.Problems.{one_problem}
use Rattle.one_plan.proofs.Programs.{same_sets, leader_blocks, single_blocks}

module _ (one : (w : ℕ) → HasOneInstruction w) where
  one_plan : (live : Sets) (block : Block) (leader : Bool) (x y : BlockPlan) → IsBestPlan live block leader x → IsBestPlan live block leader y → IsSamePlan x y
  one_plan live block leader x y h k =
      let q = h.problem in
      let r = k.problem in
      let alike : AreAlike q r = one_problem one block no_registers no_registers leader live q r h.is_problem k.is_problem in
      let back : AreAlike r q = turned q r alike in
      let full = k.is_full in
      let labels : AreLeastCosts r (values_of x.labels) =
      λ u i is here. subst (λ (c : ℕ). IsLeastCost r u c) (same_label q r alike (values_of x.labels) u.place i)
      (least q r alike u _ (h.solved.labels u i (node r q back u is) (stands r q back u.map i here))) in
      record {
        at = h.at ∙ sym k.at;
        words = h.words ∙ sym k.words;
        entry = h.entry ∙ sym k.entry;
        exit = h.exit ∙ sym k.exit;
        steps = one_choice r full.0 full.1 full.2 _ _ h.solved.cost k.solved.cost (chosen q r alike _ h.solved.cost h.solved.chosen) k.solved.chosen;
        labels = same_labels r full.0 full.1 full.2 (values_of x.labels) (values_of y.labels) (shaped q r alike _ h.solved.shaped) k.solved.shaped labels k.solved.labels;
      }

  pub one_list : OneListOfBestPlans
  one_list P a b h k =
      let words : h.words ≡ k.words = same_words P (first_of P) h.words k.words h.has k.has in
      let entry : h.entry ≡ k.entry = let e = h.begins in let f = k.begins in omega (arith, e, f) in
      let live : h.live ≡ k.live = same_sets (first_of P) k.words h.live k.live (subst (λ (l : List ℕ). AreLive (first_of P) l h.live) words h.are_live) k.are_live in
      let are = subst (λ (n : ℕ). AreBlocksOf (first_of P) n k.words h.blocks) entry (subst (λ (l : List ℕ). AreBlocksOf (first_of P) h.entry l h.blocks) words h.are_blocks) in
      let leaders = leader_blocks (first_of P) k.entry k.words h.blocks k.blocks are k.are_blocks in
      let singles = single_blocks (first_of P) k.entry k.words h.blocks k.blocks are k.are_blocks in
      let all : all_blocks h.blocks ≡ all_blocks k.blocks = ap (λ (l : List Block). l ++ h.blocks.singles) leaders ∙ ap (λ (l : List Block). k.blocks.leaders ++ l) singles in
      record {
        count = h.best.count ∙ ap (λ (l : List Block). length l) all ∙ sym k.best.count;
        each = λ i x y gx gy.
            let own = h.best.each i x gx in
            let by_live = subst (λ (s : Sets). IsBestPlan s (block_at (all_blocks h.blocks) i) (nat_lt i (length h.blocks.leaders)) x) live own in
            let by_block = subst (λ (l : List Block). IsBestPlan k.live (block_at l i) (nat_lt i (length h.blocks.leaders)) x) all by_live in
            let by_leader = subst (λ (l : List Block). IsBestPlan k.live (block_at (all_blocks k.blocks) i) (nat_lt i (length l)) x) leaders by_block in
            one_plan k.live (block_at (all_blocks k.blocks) i) (nat_lt i (length k.blocks.leaders)) x y by_leader (k.best.each i y gy);
      }
