use Rattle.std.proofs.Common.{arith}
use Rattle.block_find.proofs.Marking.{marked_by}
use Rattle.block_find.proofs.boundaries.mark.Goals as goal

pub returns : goal.returns
returns c = marked_by c.args.code.now.first c.args.code.now.entry c.args.code.now.words.now c.args.place c.args.marks.now c.mark_named.new.marks c.mark_behind.new.marks
    c.requires.marked (let n = c.requires.marked.count in omega arith) (let n = c.requires.marked.count in omega arith) c.mark_named.ensures c.mark_behind.ensures c.requires.within
