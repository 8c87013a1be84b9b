use Rattle.block_find.proofs.Gathering.{same_words}
use Rattle.block_find.proofs.laws.one_list_of_words.Goals as goal

pub returns : goal.returns
returns c = same_words
