use Rattle.std.proofs.Common.{◌≤◌, ◌<◌, length, sym, subst}
use Rattle.block_find.specs.Prelude.{all_blocks, block_at}
use Rattle.block_find.specs.declared.block.Block.{Block}
use Rattle.code_layout.specs.Prelude.{place_of}
use Rattle.code_layout.proofs.Blocks.{from_first, place_among}
use Rattle.code_layout.proofs.source.Source.place.Goals as goal

pub overflow_sub-result : goal.overflow_sub-result
overflow_sub-result c =
    let s = c.args.self.now in
    let is = c.each_is_block.ensures s.first s.entry s.words.now s.blocks.now c.requires.blocks c.args.block c.requires.among in
    subst (λ (b : Block). s.first ≤ b.at) (sym c.at.ensures) (from_first s.first s.words.now is.0 (block_at (all_blocks s.blocks.now) c.args.block) is.1)

pub returns-clause-within : goal.returns-clause-within
returns-clause-within c =
    let s = c.args.self.now in
    let is = c.each_is_block.ensures s.first s.entry s.words.now s.blocks.now c.requires.blocks c.args.block c.requires.among in
    subst (λ (b : Block). place_of s.first b.at < length s.words.now) (sym c.at.ensures) (place_among s.first s.words.now is.0 (block_at (all_blocks s.blocks.now) c.args.block) is.1)
