-- Where a block's items stand in the code.
use Rattle.std.proofs.Common.{◌≡◌, ℕ, zero, suc, ◌+◌, ◌<◌, List, [], ◌∷◌, get_or, length, take, subst, arith}
use Rattle.std.proofs.lemmas.List.Sums.{sum_by-cons}
use Rattle.machines.specs.Prelude.{Code}
use Rattle.block_find.specs.declared.block.Block.{Block}
use Rattle.code_layout.specs.Prelude.{Laying, Places, items_bytes, items_of, block_length, blocks_bytes, stands_at}
use Rattle.laid_code.specs.Prelude.{HasBytes}
use Rattle.laid_code.proofs.Decoding.{first_bytes_at, next_bytes_at}
use Rattle.laid_code.proofs.Lengths.{bytes_length}

module _ (by : Laying) (p : Places) (code : Code) where
  -- at a host address the items of a block stand
  abbrev pub HasBlock : ℕ → Block → Type 0
  HasBlock here block = HasBytes code here (items_bytes p here (items_of by block))

  abbrev standing : ℕ → List Block → ℕ → ℕ
  standing here blocks i = stands_at by p.switch here blocks i

  -- each block stands behind those before it
  pub block_stands : (here : ℕ) (blocks : List Block) (i : ℕ) (d : Block) → i < length blocks → HasBytes code here (blocks_bytes by p here blocks) → HasBlock (standing here blocks i) (get_or blocks i d)
  unfolding blocks_bytes
  block_stands here [] i d lt h = absurd (omega arith)
  block_stands here (block ∷ blocks) zero d lt h =
      let e : here ≡ here + 0 = omega arith in
      subst (λ (a : ℕ). HasBlock a block) e (first_bytes_at code here (items_bytes p here (items_of by block)) _ h)
  block_stands here (block ∷ blocks) (suc i) d lt h =
      let long : ℕ = block_length by p.switch block in
      let rest : List ℕ = blocks_bytes by p (here + long) blocks in
      let behind : HasBytes code (here + long) rest = subst (λ (n : ℕ). HasBytes code (here + n) rest) (bytes_length p here (items_of by block)) (next_bytes_at code here (items_bytes p here (items_of by block)) rest h) in
      let e : standing (here + long) blocks i ≡ standing here (block ∷ blocks) (suc i) = omega (arith, sum_by-cons (block_length by p.switch) block (take i blocks)) in
      subst (λ (a : ℕ). HasBlock a (get_or blocks i d)) e (block_stands (here + long) blocks i d (omega arith) behind)
