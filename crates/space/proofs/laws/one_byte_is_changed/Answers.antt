use Rattle.space.proofs.Changes.{byte_stands, bytes_stay}
use Rattle.space.proofs.laws.one_byte_is_changed.Goals as goal

pub returns-clause-there : goal.returns-clause-there
returns-clause-there c = λ m at byte given. byte_stands m.segments at byte given

pub returns-clause-elsewhere : goal.returns-clause-elsewhere
returns-clause-elsewhere c = λ m at byte other ne. bytes_stay m.segments at byte other ne
