use Rattle.space.proofs.Changes.{code_is_kept}
use Rattle.space.proofs.laws.code_stays.Goals as goal

pub returns : goal.returns
returns c = λ m at byte code apart here closed given. code_is_kept m.segments m.code at byte code apart here closed given
