use Rattle.rule_soundness.proofs.GuestTable.{rows_read_fields, rows_put_fields, accesses_put_fields, branches_put_fields, loads_have_widths}
use Rattle.rule_soundness.proofs.laws.rows_have_fields.Goals as goal

pub returns : goal.returns
returns c = record { reads = rows_read_fields; puts = rows_put_fields; accesses = accesses_put_fields; branches = branches_put_fields; widths = loads_have_widths }
