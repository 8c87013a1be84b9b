use Rattle.std.proofs.Common.{rules, ◌<◌, length, arith, length-set}
use Rattle.circuit.specs.Prelude.{word_of, byte_bits}
use Rattle.circuit.proofs.Values.{wired_step, wired_none, whole}
use Rattle.circuit.proofs.wiring.byte_word.Goals as goal

pub loop-i-init : goal.loop-i-init
loop-i-init c = record { wide = search rules; made = wired_none (byte_bits c.args.x c.args.k) c.args.x }

pub loop-i-preserved : goal.loop-i-preserved
loop-i-preserved c =
    let inside : c.loop-i.i < length c.loop-i.out = omega arith in
    record {
      wide = omega (arith, length-set c.loop-i.out c.loop-i.i c.byte_source.result);
      made = wired_step (byte_bits c.args.x c.args.k) c.loop-i.i c.loop-i.out c.byte_source.result inside c.loop-i.invariant.made c.byte_source.ensures;
    }

pub returns : goal.returns
returns c = whole (word_of (byte_bits c.args.x c.args.k)) c.loop-i.i c.loop-i.out (omega arith) c.loop-i.invariant.wide c.loop-i.invariant.made
