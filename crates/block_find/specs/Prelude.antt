-- What is cited of these specifications, for one `use` line.
pub use Rattle.block_find.specs.declared.block.Block.{Block}
pub use Rattle.block_find.specs.declared.block.Blocks.{Blocks}
pub use Rattle.block_find.specs.declared.spans.Run.{Run}
pub use Rattle.block_find.specs.Branches.{IsFlow, IsFlowWord, Names, address_of, illegal, legal, named_address}
pub use Rattle.block_find.specs.Blocks.{AreAllBlocks, AreBlocks, AreBlocksOf, AreLeaders, Begins, Divide, IsBlock, IsIn, IsInRun, IsWithin, MayEnd, alone, behind_full, block_of, count_of, flow, full, leader, most, over, past, singles_of, start}
pub use Rattle.block_find.specs.Marks.{AreCut, AreMarked, Gains, IsFar, Marks, next_run_of}
pub use Rattle.block_find.specs.Laws.{AllHaveFewWords, BeginsLeader, BeginsOne, EachBeginsOne, EachIsBlock, HaveFewWords, IsBlockAt, LeadsToLeaders, all_blocks, block_at, word_count}
