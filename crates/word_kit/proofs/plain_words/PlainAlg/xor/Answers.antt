use Rattle.std.proofs.Common.{ap, sym, arith}
use Rattle.word_kit.proofs.BitSums.{word_xor-is}
use Rattle.word_kit.proofs.plain_words.PlainAlg.xor.Goals as goal

pub returns-clause-makes : goal.returns-clause-makes
returns-clause-makes c = ap (λ w. record { word = w; held = tt }) (sym (word_xor-is c.args.x c.args.y (omega arith) (omega arith)))

pub returns-clause-means : goal.returns-clause-means
returns-clause-means c = λ a h. sym (word_xor-is c.args.x c.args.y (omega arith) (omega arith))
