use Rattle.std.proofs.Common.{◌≡◌, Option, Some, None, ap, sym}
use Rattle.listing.specs.Ops.{op_name, op_length}
use Rattle.listing.proofs.OpSteps.{spelt-few, read-some, read-none}
use Rattle.listing.proofs.ops.first.Goals as goal

differ : {A : Type 0} (x : A) {o : Option A} → o ≡ Some x → o ≡ None → ⊥
differ x some none = cc

pub returns-in-Some-clause-length : goal.returns-in-Some-clause-length
returns-in-Some-clause-length c = λ read reads.
    sym (ap op_length (read-some read reads c.args.bytes.now c.in-Some.op c.in-Some.len c.in-Some.ensures.found))

pub returns-in-Some-clause-name : goal.returns-in-Some-clause-name
returns-in-Some-clause-name c = λ read reads.
    let e = ap op_name (read-some read reads c.args.bytes.now c.in-Some.op c.in-Some.len c.in-Some.ensures.found) in
    rw e c.mnemonic.ensures

pub returns-in-Some-clause-few : goal.returns-in-Some-clause-few
returns-in-Some-clause-few c = (spelt-few c.in-Some.op c.args.bytes.now c.in-Some.len c.in-Some.ensures.found).1

pub returns-in-None-clause-length : goal.returns-in-None-clause-length
returns-in-None-clause-length c = λ read reads. sym (ap op_length (read-none read reads c.args.bytes.now (λ op k spelt. absurd (differ _ (c.decode.ensures.only op k spelt) c.in-None.is))))

pub returns-in-None-clause-name : goal.returns-in-None-clause-name
returns-in-None-clause-name c = λ read reads. sym (ap op_name (read-none read reads c.args.bytes.now (λ op k spelt. absurd (differ _ (c.decode.ensures.only op k spelt) c.in-None.is))))
