-- Code words have one list of live sets, and one list of blocks.
use Rattle.std.proofs.Common.{◌≡◌, ◌↔◌, inl, inr, ℕ, zero, suc, ◌<◌, Bool, true, false, List, length, map, get_or, refl, sym, subst, ap, ◌∙◌, arith}
use Rattle.std.specs.Int.{bit_at}
use Rattle.std.specs.Prelude.{slice_index}
use Rattle.std.specs.List.{AllPairs, Contains}
use Rattle.std.proofs.lemmas.Bool.{cases_lt}
use Rattle.std.proofs.lemmas.List.{ext_get_or, get_or_default}
use Rattle.std.proofs.lemmas.List.Elements.{Contains-get_or}
use Rattle.std.proofs.lemmas.Grind.{same_number_lists}
use Rattle.std.proofs.lemmas.Nat.Bits.{bit_at-lt, same_from_bits_below}
use Rattle.block_find.specs.declared.block.Blocks.{Blocks}
use Rattle.block_find.specs.declared.spans.Run.{Run}
use Rattle.block_find.specs.Prelude.{AreAllBlocks, AreBlocksOf, IsBlock, IsIn, block_of, count_of, past, singles_of, start}
use Rattle.block_find.proofs.LeaderSets.{same_leaders}
use Rattle.liveness.specs.Prelude.{Sets, AreLive}
use Rattle.liveness.proofs.Bits.{in_set}
use Rattle.one_plan.proofs.Ordered.{same_lists}

same_bit : (x y : ℕ) → x < 2 → y < 2 → (x ≡ 1 → y ≡ 1) → (y ≡ 1 → x ≡ 1) → x ≡ y
same_bit zero zero lx ly to back = refl
same_bit zero (suc zero) lx ly to back = back refl
same_bit (suc zero) zero lx ly to back = sym (to refl)
same_bit (suc zero) (suc zero) lx ly to back = refl
same_bit (suc (suc n)) y lx ly to back = absurd (omega (arith, lx))
same_bit zero (suc (suc n)) lx ly to back = absurd (omega (arith, ly))
same_bit (suc zero) (suc (suc n)) lx ly to back = absurd (omega (arith, ly))

module _ (first : ℕ) (words : List ℕ) (a b : Sets) (of_a : AreLive first words a) (of_b : AreLive first words b) where
  same_set : (k : ℕ) → k < length words → slice_index a.bits k ≡ slice_index b.bits k
  same_set k less =
      let x : ℕ = slice_index a.bits k in
      let y : ℕ = slice_index b.bits k in
      same_from_bits_below 46 x y (of_a.within k less) (of_b.within k less) (λ l low. same_bit (bit_at x l) (bit_at y l) (bit_at-lt x l) (bit_at-lt y l)
      (λ e. (in_set y l).1 ((of_b.each k l less).1 ((of_a.each k l less).0 ((in_set x l).0 e))))
      (λ e. (in_set x l).1 ((of_a.each k l less).1 ((of_b.each k l less).0 ((in_set y l).0 e)))))

  pub same_sets : a ≡ b
  same_sets =
      let n = of_a.count in
      let bits : a.bits ≡ b.bits = same_number_lists a.bits b.bits (of_a.count ∙ sym of_b.count) (λ k less. same_set k (omega (arith, less, n))) in
      ap (λ (f : ℕ). let w : Sets = record { first = f; bits = a.bits } in w) (of_a.first_is ∙ sym of_b.first_is)
      ∙ ap (λ (l : List ℕ). let w : Sets = record { first = b.first; bits = l } in w) bits

module _ (words : List ℕ) (L : ℕ → Type 0) where
  not_longer : (k m n : ℕ) → IsBlock words L k m → IsBlock words L k n → m < n → ⊥
  not_longer k m n h b less = b.not_before m h.some less h.ends

  one_length : (k m n : ℕ) → IsBlock words L k m → IsBlock words L k n → m ≡ n
  one_length k m n h b = elim (cases_lt m n) [
    | inl less ↦ absurd (not_longer k m n h b less)
    | inr more ↦ elim (cases_lt n m) [ inl less ↦ absurd (not_longer k n m b h less) | inr fewer ↦ omega (arith, more, fewer) ]
  ]

  abbrev IsEarlier : Run → Run → Type 0
  IsEarlier x y = x.at < y.at

  run_is : (x y : Run) → x.at ≡ y.at → x.count ≡ y.count → x ≡ y
  run_is x y e f =
      ap (λ (n : ℕ). let w : Run = record { at = n; count = x.count } in w) e
      ∙ ap (λ (n : ℕ). let w : Run = record { at = y.at; count = n } in w) f

  ascending : (runs : List Run) → AreAllBlocks words L runs → AllPairs IsEarlier runs
  ascending runs h i j d less within =
      let low : i < length runs = omega (arith, less, within) in
      let e = ap (λ (r : Run). r.at) (get_or_default runs i d (past (length words)) low) in
      let f = ap (λ (r : Run). r.at) (get_or_default runs j d (past (length words)) within) in
      let l = h.ascending i j less within in
      omega (arith, e, f, l)

  also : (a b : List Run) → AreAllBlocks words L a → AreAllBlocks words L b → (r : Run) → Contains a r → Contains b r
  also a b h k r c =
      let n : ℕ = length words in
      let e : get_or a c.0 (past n) ≡ r = get_or_default a c.0 (past n) r c.1 ∙ c.2 in
      let f = k.every (start a n c.0) (h.are.leads c.0 c.1) in
      let count = one_length (start a n c.0) (count_of b n f.0) (count_of a n c.0) (subst (λ (s : ℕ). IsBlock words L s (count_of b n f.0)) f.2 (k.are.ends f.0 f.1)) (h.are.ends c.0 c.1) in
      subst (Contains b) (run_is (get_or b f.0 (past n)) (get_or a c.0 (past n)) f.2 count ∙ e) (Contains-get_or b f.0 (past n) f.1)

  pub same_runs : (a b : List Run) → AreAllBlocks words L a → AreAllBlocks words L b → a ≡ b
  same_runs a b h k = same_lists IsEarlier (λ x y l m. omega (arith, l, m)) a b (ascending a h) (ascending b k) (λ r. (also a b h k r, also b a k h r))

same_lead : (x y : Bool) → (x ≡ true ↔ y ≡ true) → x ≡ y
same_lead true true h = refl
same_lead true false h = sym (h.0 refl)
same_lead false true h = h.1 refl
same_lead false false h = refl

module _ (first entry : ℕ) (words : List ℕ) (a b : Blocks) (of_a : AreBlocksOf first entry words a) (of_b : AreBlocksOf first entry words b) where
  same_leads : of_a.leads ≡ of_b.leads
  same_leads = ext_get_or false of_a.leads of_b.leads (of_a.count ∙ sym of_b.count)
      (λ k less. same_lead _ _ (same_leaders first entry words of_a.leads of_b.leads of_a.leaders of_b.leaders k))

  pub leader_blocks : a.leaders ≡ b.leaders
  leader_blocks =
      let runs = same_runs words (IsIn of_b.leads) of_a.runs of_b.runs (subst (λ (l : List Bool). AreAllBlocks words (IsIn l) of_a.runs) same_leads of_a.runs_are) of_b.runs_are in
      of_a.leaders_are ∙ ap (λ (l : List Run). map (block_of first words) l) runs ∙ sym of_b.leaders_are

  pub single_blocks : a.singles ≡ b.singles
  single_blocks = of_a.singles_are ∙ ap (λ (l : List Bool). map (block_of first words) (singles_of l (length words))) same_leads ∙ sym of_b.singles_are
