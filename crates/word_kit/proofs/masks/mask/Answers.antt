use Rattle.word_kit.proofs.MaskBits.{behind_is_less, from_is_less, difference_within, difference_around}
use Rattle.word_kit.proofs.masks.mask.Goals as goal

pub overflow_sub-result : goal.overflow_sub-result
overflow_sub-result c = behind_is_less c.args.mb c.args.me c.if-mb-me.true c.requires.mb_within c.requires.me_within

pub overflow_sub-result-else-mb-me : goal.overflow_sub-result-else-mb-me
overflow_sub-result-else-mb-me c = from_is_less c.args.mb c.args.me c.if-mb-me.false c.requires.mb_within c.requires.me_within

pub returns-then-mb-me : goal.returns-then-mb-me
returns-then-mb-me c = difference_within c.args.mb c.args.me c.if-mb-me.true c.requires.mb_within c.requires.me_within

pub returns-else-mb-me : goal.returns-else-mb-me
returns-else-mb-me c = difference_around c.args.mb c.args.me c.if-mb-me.false c.requires.mb_within c.requires.me_within
