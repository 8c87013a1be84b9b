use Rattle.std.proofs.Common.{subst}
use Rattle.ia_codec.specs.Prelude.{IsSpelt, Op}
use Rattle.ia_codec.proofs.Spelt.{not_spelt-unread, spelt-is_read, one_spelt}
use Rattle.ia_codec.proofs.decoding.decode.Goals as goal

pub returns-in_err-op-clause-only : goal.returns-in_err-op-clause-only
returns-in_err-op-clause-only c op k h = absurd (not_spelt-unread op c.args.bytes.now k h c.in_err-op.ensures)

pub returns-in_err-len-clause-only : goal.returns-in_err-len-clause-only
returns-in_err-len-clause-only c op k h =
    absurd (c.in_err-len.ensures k (subst (λ (x : Op). IsSpelt x c.args.bytes.now k) (spelt-is_read op c.in_ok-op.op c.args.bytes.now _ k h c.in_ok-op.ensures) h))

pub returns-clause-only : goal.returns-clause-only
returns-clause-only c op k h = one_spelt c.in_ok-op.op op c.args.bytes.now c.in_ok-len.len k c.in_ok-len.ensures h
