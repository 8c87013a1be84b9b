use Rattle.space.proofs.Changes.{same_rights}
use Rattle.space.proofs.laws.rights_stay.Goals as goal

pub returns : goal.returns
returns c = λ m at byte writable other. same_rights m.segments at byte writable other
