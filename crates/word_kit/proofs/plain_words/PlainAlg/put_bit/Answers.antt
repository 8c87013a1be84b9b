use Rattle.std.proofs.Common.{arith}
use Rattle.std.proofs.lemmas.Nat.{one_shl}
use Rattle.std.proofs.lemmas.Nat.Bits.{and_pow}
use Rattle.std.proofs.Math.Nat.{mod-eq_of_lt}
use Rattle.word_kit.proofs.Rooms.{with_bit_room}
use Rattle.word_kit.proofs.plain_words.PlainAlg.put_bit.Goals as goal

pub overflow_add-result : goal.overflow_add-result
overflow_add-result c = let r = with_bit_room c.args.x c.args.place c.requires.within (omega arith) in
    rw (one_shl c.args.place 32 c.requires.within, and_pow) (grind arith)

pub returns-then-b-clause-means : goal.returns-then-b-clause-means
returns-then-b-clause-means c = λ a. let r = with_bit_room c.args.x c.args.place c.requires.within (omega arith) in
    rw (one_shl c.args.place 32 c.requires.within, and_pow) (grind (arith, mod-eq_of_lt))

pub returns-else-b-clause-means : goal.returns-else-b-clause-means
returns-else-b-clause-means c = λ a. let r = with_bit_room c.args.x c.args.place c.requires.within (omega arith) in
    rw (one_shl c.args.place 32 c.requires.within, and_pow) (grind (arith, mod-eq_of_lt))

pub returns-then-b-clause-made : goal.returns-then-b-clause-made
returns-then-b-clause-made c = let r = with_bit_room c.args.x c.args.place c.requires.within (omega arith) in
    rw (one_shl c.args.place 32 c.requires.within, and_pow) (grind arith)

pub returns-else-b-clause-made : goal.returns-else-b-clause-made
returns-else-b-clause-made c = let r = with_bit_room c.args.x c.args.place c.requires.within (omega arith) in
    rw (one_shl c.args.place 32 c.requires.within, and_pow) (grind arith)

pub returns-then-b-clause-owned : goal.returns-then-b-clause-owned
returns-then-b-clause-owned c = let r = with_bit_room c.args.x c.args.place c.requires.within (omega arith) in
    rw (one_shl c.args.place 32 c.requires.within, and_pow) (grind arith)
