use Rattle.std.proofs.Common.{true, false}
use Rattle.access.proofs.Kept.{holds_is}
use Rattle.machine_calls.proofs.calls.has_buffer.Goals as goal

pub returns-in-Read-clause-tells : goal.returns-in-Read-clause-tells
returns-in-Read-clause-tells c = λ p bytes keeps.
    rw c.in-Read.is (holds_is p bytes c.args.memory.now true c.args.call.now.count c.args.call.now.at c.holds.result keeps c.holds.ensures)

pub returns-in-Write-clause-tells : goal.returns-in-Write-clause-tells
returns-in-Write-clause-tells c = λ p bytes keeps.
    rw c.in-Write.is (holds_is p bytes c.args.memory.now false c.args.call.now.count c.args.call.now.at c.holds-in-Write.result keeps c.holds-in-Write.ensures)
