use Rattle.std.proofs.Common.{◌≡◌, ◌+◌, ◌*◌, ◌<◌, ◌≤◌, ℕ, take, length, vec_len, slice_index}
use Rattle.std.specs.List.{sum_by}
use Rattle.block_find.specs.Prelude.{all_blocks, block_at, word_count}
use Rattle.code_layout.specs.Prelude.{laying, place_of, no_moves, stands_at, steps_of}
use Rattle.code_layout.proofs.layout.entries.Given as goal

abbrev pub invariant-loop-block : goal.invariant-loop-block
invariant-loop-block l = record {
  count : vec_len l.entries ≡ length l.source.words.now;
  here : l.at ≡ stands_at (laying l.source.first l.source.decoded.now l.source.live.now (all_blocks l.source.blocks.now) (steps_of l.source.plans.now)) no_moves (l.code + 5) (all_blocks l.source.blocks.now) l.block;
  each : (i : ℕ) → i < l.block → slice_index l.entries.items (place_of l.source.first (block_at (all_blocks l.source.blocks.now) i).at) ≡ stands_at (laying l.source.first l.source.decoded.now l.source.live.now (all_blocks l.source.blocks.now) (steps_of l.source.plans.now)) no_moves (l.code + 5) (all_blocks l.source.blocks.now) i;
  room : l.at ≤ l.code + 5 + 636 * sum_by word_count (take l.block (all_blocks l.source.blocks.now));
}
