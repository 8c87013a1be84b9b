use Rattle.std.proofs.Common.{◌<◌, ◌%◌, arith}
use Rattle.std.proofs.Math.Nat.{mod-lt}
use Rattle.word_kit.proofs.Rooms.{turned, shifted_room}
use Rattle.word_kit.proofs.plain_words.PlainAlg.rotate.Goals as goal

pub overflow_add-result : goal.overflow_add-result
overflow_add-result c = let k : c.args.by % 32 < 32 = mod-lt c.args.by (omega arith) in
    let t = turned c.args.x (c.args.by % 32) (omega arith) k in
    rw (shifted_room c.args.x (c.args.by % 32) (omega arith) k) (search (arith, t))

pub returns-clause-owned : goal.returns-clause-owned
returns-clause-owned c = let k : c.args.by % 32 < 32 = mod-lt c.args.by (omega arith) in
    let t = turned c.args.x (c.args.by % 32) (omega arith) k in
    rw (shifted_room c.args.x (c.args.by % 32) (omega arith) k) (omega arith)
