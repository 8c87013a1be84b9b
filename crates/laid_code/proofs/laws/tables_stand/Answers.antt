use Rattle.laid_code.proofs.Table.{tables_stand}
use Rattle.laid_code.proofs.laws.tables_stand.Goals as goal

pub returns : goal.returns
returns c = tables_stand
