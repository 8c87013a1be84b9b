use Rattle.block_find.proofs.Counting.{all_have_few_words}
use Rattle.block_find.proofs.laws.have_few_words.Goals as goal

pub returns : goal.returns
returns c = all_have_few_words
