use Rattle.std.proofs.Common.{rules, ap, ◌<◌, length, arith, length-set}
use Rattle.circuit.specs.Prelude.{word_of, lit_bits, Const}
use Rattle.circuit.proofs.Values.{wired_step, wired_none, whole}
use Rattle.circuit.proofs.wiring.literal_word.Goals as goal

pub loop-i-init : goal.loop-i-init
loop-i-init c = record { wide = search rules; made = wired_none (lit_bits c.args.value) c.blank-out.result }

pub loop-i-preserved : goal.loop-i-preserved
loop-i-preserved c =
    let inside : c.loop-i.i < length c.loop-i.out = omega arith in
    record {
      wide = omega (arith, length-set c.loop-i.out c.loop-i.i (Const c.bit_of_number.result));
      made = wired_step (lit_bits c.args.value) c.loop-i.i c.loop-i.out (Const c.bit_of_number.result) inside c.loop-i.invariant.made (ap Const c.bit_of_number.ensures);
    }

pub returns : goal.returns
returns c = whole (word_of (lit_bits c.args.value)) c.loop-i.i c.loop-i.out (omega arith) c.loop-i.invariant.wide c.loop-i.invariant.made
