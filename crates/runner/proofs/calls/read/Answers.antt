use Rattle.std.proofs.Common.{sym}
use Rattle.runner.proofs.Answering.{whole_read, failed_read}
use Rattle.runner.proofs.calls.read.Goals as goal

pub returns-in-Bytes-clause-answered : goal.returns-in-Bytes-clause-answered
returns-in-Bytes-clause-answered g c = λ step listed next left shows told.
    whole_read (g.M.Machine.shows c.answer.new.self step) next c.in_ok-bytes.field-0 c.in-Bytes.bytes c.in-Bytes.is c.args.count left _ _ _ (c.in_ok-bytes.ensures.taken left told) c.in_ok-bytes.ensures.cause (rw (sym c.as_slice.ensures.value) (c.answer.ensures.goes step listed next shows))

pub returns-in-Failed-clause-answered : goal.returns-in-Failed-clause-answered
returns-in-Failed-clause-answered g c = λ step listed next left shows told.
    failed_read (g.M.Machine.shows c.answer-in-Failed.new.self step) next c.in_ok-bytes.field-0 c.in-Failed.is c.args.count left _ _ _ (c.in_ok-bytes.ensures.taken left told) c.in_ok-bytes.ensures.cause (c.answer-in-Failed.ensures.goes step listed next shows)
