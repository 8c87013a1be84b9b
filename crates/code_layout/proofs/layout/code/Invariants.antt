use Rattle.std.proofs.Common.{◌+◌, ◌*◌, ◌≤◌, ◌++◌, ◌≡◌, take, drop, vec_len}
use Rattle.std.specs.List.{sum_by}
use Rattle.block_find.specs.Prelude.{all_blocks, word_count}
use Rattle.code_layout.specs.Prelude.{places_of, blocks_bytes, code_bytes, laying, steps_of}
use Rattle.code_layout.proofs.layout.code.Given as goal

abbrev pub invariant-loop-block : goal.invariant-loop-block
invariant-loop-block l = record {
  bytes : l.code.items ++ blocks_bytes (laying l.source.first l.source.decoded.now l.source.live.now (all_blocks l.source.blocks.now) (steps_of l.source.plans.now)) (places_of l.layout) (l.layout.code + vec_len l.code) (drop l.block (all_blocks l.source.blocks.now)) ≡ code_bytes (laying l.source.first l.source.decoded.now l.source.live.now (all_blocks l.source.blocks.now) (steps_of l.source.plans.now)) (places_of l.layout) (all_blocks l.source.blocks.now);
  bound : vec_len l.code ≤ 12 + 636 * sum_by word_count (take l.block (all_blocks l.source.blocks.now));
}
