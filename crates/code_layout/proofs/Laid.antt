-- Blocks that are laid out one behind another.
use Rattle.std.proofs.Common.{◌≡◌, ◌≤◌, ◌<◌, ◌+◌, ℕ, suc, List, ◌∷◌, ◌++◌, length, get_or, drop, slice_index, Option, ap, sym, ◌∙◌, append_assoc, drop-cons, arith, Some, None}
use Rattle.std.proofs.lemmas.List.{append-nil, drop_all}
use Rattle.machines.specs.Prelude.{Instr}
use Rattle.block_find.specs.declared.block.Block.{Block}
use Rattle.symbolic_tiles.specs.declared.flow_op.FlowOp.{FlowOp}
use Rattle.code_layout.specs.Prelude.{IsDecodedAs, decoded_at, AreDecodedAs, IsLegalDecoded, Laying, Places, items_bytes, items_length, items_of, blocks_bytes}

module _ (by : Laying) (p : Places) where
  laid_drop : (here k : ℕ) (blocks : List Block) (d : Block) → k < length blocks → blocks_bytes by p here (drop k blocks) ≡ items_bytes p here (items_of by (get_or blocks k d)) ++ blocks_bytes by p (here + items_length p.switch (items_of by (get_or blocks k d))) (drop (k + 1) blocks)
  unfolding blocks_bytes
  laid_drop here k blocks d lt =
      let next : suc k ≡ k + 1 = omega arith in
      ap (λ (o : List Block). blocks_bytes by p here o) (drop-cons blocks k d lt ∙ ap (λ (j : ℕ). get_or blocks k d ∷ drop j blocks) next)

  -- what stands already, and the blocks that are left, are the whole
  pub laid_more : (begin n m k : ℕ) (blocks : List Block) (d : Block) (its : List FlowOp) (old new whole : List ℕ) → k < length blocks → its ≡ items_of by (get_or blocks k d) → new ≡ old ++ items_bytes p (begin + n) its → m ≡ n + items_length p.switch its → old ++ blocks_bytes by p (begin + n) (drop k blocks) ≡ whole → new ++ blocks_bytes by p (begin + m) (drop (k + 1) blocks) ≡ whole
  laid_more begin n m k blocks d its old new whole lt of made long so =
      let there : begin + m ≡ begin + n + items_length p.switch its = omega (arith, long) in
      let rest : List FlowOp → List ℕ = λ x. blocks_bytes by p (begin + n + items_length p.switch x) (drop (k + 1) blocks) in
      ap (λ (x : List ℕ). x ++ blocks_bytes by p (begin + m) (drop (k + 1) blocks)) made
      ∙ ap (λ (a : ℕ). (old ++ items_bytes p (begin + n) its) ++ blocks_bytes by p a (drop (k + 1) blocks)) there
      ∙ append_assoc old (items_bytes p (begin + n) its) (rest its)
      ∙ ap (λ (x : List FlowOp). old ++ (items_bytes p (begin + n) x ++ rest x)) of
      ∙ ap (λ (x : List ℕ). old ++ x) (sym (laid_drop (begin + n) k blocks d lt))
      ∙ so

  pub laid_all : (here k : ℕ) (blocks : List Block) (bytes whole : List ℕ) → length blocks ≤ k → bytes ++ blocks_bytes by p here (drop k blocks) ≡ whole → bytes ≡ whole
  unfolding blocks_bytes
  laid_all here k blocks bytes whole le so = sym (append-nil bytes) ∙ ap (λ (o : List Block). bytes ++ blocks_bytes by p here o) (sym (drop_all k blocks le)) ∙ so

legal_if : (word : ℕ) (o : Option Instr) → IsDecodedAs word o → IsLegalDecoded o
legal_if word (Some i) h = h.legal
legal_if word None h = tt

pub all_legal : (words : List ℕ) (decoded : List (Option Instr)) → AreDecodedAs words decoded → (k : ℕ) → k < length decoded → IsLegalDecoded (decoded_at decoded k)
all_legal words decoded are k lt = legal_if (slice_index words k) (decoded_at decoded k) (are.each k (let count = are.count in omega (arith, lt, count)))
