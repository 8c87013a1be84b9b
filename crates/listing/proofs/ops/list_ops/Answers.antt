use Rattle.std.proofs.Common.{◌+◌, arith, rules, drop, length-drop}
use Rattle.std.proofs.lemmas.Grind.{common_steps}
use Rattle.listing.proofs.Halfway.{rest_is, at_line, at_fault, at_end}
use Rattle.listing.proofs.OpSteps.{next_op_at, no_ops}
use Rattle.listing.proofs.ops.list_ops.Goals as goal

pub returns-in_err-put_line-clause-bytes : goal.returns-in_err-put_line-clause-bytes
returns-in_err-put_line-clause-bytes g c = λ read reads.
    let bytes = c.as_slice-bytes.result.now in
    let next = next_op_at read reads c.args.code.now.at c.loop-place.place bytes _ c.first-len.result.0 c.first-len.result.1.now (rest_is bytes c.loop-place.place) c.loop-place-test.true
    (c.first-len.ensures.length read reads) (c.first-len.ensures.name read reads) in
    let put = at_fault _ _ _ _ _ _ _ next (c.loop-place.invariant.text read reads) c.in_err-put_line.ensures.bytes in
    search (rules, put)

pub loop-place-preserved : goal.loop-place-preserved
loop-place-preserved g c = record {
  within = grind (arith, common_steps);
  text = λ read reads.
      let bytes = c.as_slice-bytes.result.now in
      let next = next_op_at read reads c.args.code.now.at c.loop-place.place bytes _ c.first-len.result.0 c.first-len.result.1.now (rest_is bytes c.loop-place.place) c.loop-place-test.true
      (c.first-len.ensures.length read reads) (c.first-len.ensures.name read reads) in
      at_line _ _ _ _ _ _ _ next (c.loop-place.invariant.text read reads) c.in_ok-put_line.ensures.bytes;
  later = grind (arith, common_steps);
}

pub returns-clause-bytes : goal.returns-clause-bytes
returns-clause-bytes g c = λ read reads.
    let bytes = c.as_slice-bytes.result.now in
    let none = no_ops read (c.args.code.now.at + c.loop-place.place) (drop c.loop-place.place bytes) (omega (arith, length-drop c.loop-place.place bytes, c.loop-place-test.false)) in
    let put = at_end _ _ _ _ none (c.loop-place.invariant.text read reads) in
    rw (← c.as_slice-bytes.ensures) put
