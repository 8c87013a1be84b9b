use Rattle.std.proofs.Common.{◌≡◌, ◌<◌, length, true, false, sym, ◌∙◌, arith}
use Rattle.rule_form.proofs.WordFields.{not-letters, letter-more, clear-more, length-slice_set}
use Rattle.rule_form.proofs.fields.slots_of.Goals as goal

pub returns-in_default : goal.returns-in_default
returns-in_default c = λ s h e.
    not-letters c.args.word.now s c.loop-i.i e (λ d. let t = c.is.ensures.1 d in let u : true ≡ false = sym t ∙ c.if-is.false in cc) c.loop-i-test.true (c.in_default.ensures)

pub loop-i-preserved : goal.loop-i-preserved
loop-i-preserved c =
    let few : c.loop-i.i < length c.loop-i.slots = omega (arith, c.loop-i.invariant.size, c.if-word-gt6.false, c.loop-i-test.true) in
    record {
      letters = letter-more c.loop-i.slots c.args.word.now c.loop-i.i c.in-Some.slot few c.loop-i-test.true c.loop-i.invariant.letters c.in-Some.ensures;
      clear = clear-more c.loop-i.slots c.loop-i.i c.in-Some.slot few c.loop-i.invariant.clear;
      size = length-slice_set c.loop-i.slots c.loop-i.i c.in-Some.slot few ∙ c.loop-i.invariant.size;
    }
