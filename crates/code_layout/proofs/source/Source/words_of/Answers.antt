use Rattle.std.proofs.Common.{◌≡◌, All, List, Option, length, take, drop, sym, ap, ◌∙◌, subst, arith}
use Rattle.machines.specs.Prelude.{Instr}
use Rattle.block_find.specs.Prelude.{all_blocks, block_at}
use Rattle.block_find.specs.declared.block.Block.{Block}
use Rattle.code_layout.specs.Prelude.{IsLegalDecoded}
use Rattle.code_layout.proofs.Blocks.{part_within, part_count, part_legal}
use Rattle.code_layout.proofs.source.Source.words_of.Goals as goal

-- the words are the block's
same_words : goal.returns-clause-words
same_words c =
    let s = c.args.self.now in
    let block : Block = block_at (all_blocks s.blocks.now) c.args.block in
    let count : length c.as_slice-count.result.now ≡ length block.words = ap length (c.as_slice-count.ensures ∙ ap (λ (b : Block). b.words) c.at.ensures) in
    c.part.ensures ∙ ap (λ n. take n (drop c.place.result s.decoded.now)) count ∙ ap (λ j. take (length block.words) (drop j s.decoded.now)) c.place.ensures.place

pub part-requires : goal.part-requires
part-requires c =
    let s = c.args.self.now in
    let block : Block = block_at (all_blocks s.blocks.now) c.args.block in
    let is = c.each_is_block.ensures s.first s.entry s.words.now s.blocks.now c.requires.blocks c.args.block c.requires.among in
    let count : length c.as_slice-count.result.now ≡ length block.words = ap length (c.as_slice-count.ensures ∙ ap (λ (b : Block). b.words) c.at.ensures) in
    let within = part_within s.first s.words.now is.0 block is.1 in
    let place = c.place.ensures.place in
    let decoded = c.requires.decoded.count in
    omega (arith, count, within, place, decoded)

pub returns-clause-words : goal.returns-clause-words
returns-clause-words c = same_words c

pub returns-clause-count : goal.returns-clause-count
returns-clause-count c =
    let s = c.args.self.now in
    let block : Block = block_at (all_blocks s.blocks.now) c.args.block in
    let is = c.each_is_block.ensures s.first s.entry s.words.now s.blocks.now c.requires.blocks c.args.block c.requires.among in
    ap length (same_words c) ∙ part_count s.first s.words.now is.0 block is.1 s.decoded.now c.requires.decoded.count

pub returns-clause-legal : goal.returns-clause-legal
returns-clause-legal c =
    let s = c.args.self.now in
    subst (λ (xs : List (Option Instr)). All IsLegalDecoded xs) (sym c.part.ensures) (part_legal s.words.now s.decoded.now (length c.as_slice-count.result.now) c.place.result c.requires.decoded)

pub returns-clause-short : goal.returns-clause-short
returns-clause-short c =
    let s = c.args.self.now in
    let is = c.each_is_block.ensures s.first s.entry s.words.now s.blocks.now c.requires.blocks c.args.block c.requires.among in
    let count = returns-clause-count c in
    let short = is.1.short in
    omega (arith, count, short)
