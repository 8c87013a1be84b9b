use Rattle.std.proofs.Common.{ℕ, sym, subst}
use Rattle.block_find.specs.Prelude.{IsBlockAt, all_blocks, block_at}
use Rattle.liveness.specs.Prelude.{AreLive}
use Rattle.offer_make.proofs.laws.blocks_have_live_sets.Goals as goal

pub returns : goal.returns
returns c first entry words blocks live are lives i less =
    let b = c.each_is_block.ensures first entry words blocks are i less in
    record {
      words = words;
      place = b.0;
      is = subst (λ (f : ℕ). IsBlockAt f words b.0 (block_at (all_blocks blocks) i)) (sym lives.first_is) b.1;
      live_are = subst (λ (f : ℕ). AreLive f words live) (sym lives.first_is) lives;
    }
