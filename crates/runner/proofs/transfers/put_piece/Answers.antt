use Rattle.std.proofs.Common.{sym, arith}
use Rattle.runner.proofs.Pieces.{same_bytes}
use Rattle.runner.proofs.transfers.put_piece.Goals as goal

pub returns-clause-puts : goal.returns-clause-puts
returns-clause-puts g c = λ bytes len stand.
    rw (sym (same_bytes c.args.space.now c.args.at _ bytes (omega (arith, len)) c.copy.ensures stand)) c.put_all.ensures.bytes
