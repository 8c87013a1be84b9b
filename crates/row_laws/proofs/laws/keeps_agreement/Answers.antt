use Rattle.row_laws.proofs.Agreement.{agreement}
use Rattle.row_laws.proofs.laws.keeps_agreement.Goals as goal

pub returns : goal.returns
returns c = agreement
