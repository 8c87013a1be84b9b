use Rattle.std.proofs.Common.{rules}
use Rattle.machines.specs.Prelude.{spelling, Jmp}
use Rattle.code_layout.proofs.Lengths.{spelled-length}
use Rattle.code_layout.proofs.code.item_length.Goals as goal

pub returns-in-Edge-clause-value : goal.returns-in-Edge-clause-value
returns-in-Edge-clause-value c =
    rw c.in-Edge.is (spelled-length c.encode-in-Edge.result.bytes (spelling (Jmp 0)) c.encode-in-Edge.result.len (search rules) c.encode-in-Edge.ensures.spelled)
