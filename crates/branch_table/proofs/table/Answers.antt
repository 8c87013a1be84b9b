use Rattle.std.proofs.Common.{take, drop, length, ◌++◌, arith}
use Rattle.std.proofs.lemmas.Grind.{common_steps}
use Rattle.branch_table.proofs.Words.{words_of_table}
use Rattle.branch_table.proofs.table.Goals as goal

pub returns-clause-words : goal.returns-clause-words
returns-clause-words c =
    words_of_table
    (take c.in_ok-bytes.bytes.len (c.write_u32_into.new.dst ++ drop (length c.write_u32_into.new.dst) c.in_ok-bytes.bytes.items))
    c.args.addresses.now (grind (arith, common_steps)) c.type_inv.addresses
