use Rattle.std.proofs.Common.{rules, ◌<◌, length, arith, length-set}
use Rattle.circuit.specs.Prelude.{word_of, join_bits}
use Rattle.circuit.proofs.Values.{wired_step, wired_none, whole}
use Rattle.circuit.proofs.wiring.joined.Goals as goal

pub loop-i-init : goal.loop-i-init
loop-i-init c = record { wide = search rules; made = wired_none (join_bits c.args.b3 c.args.b2 c.args.b1 c.args.b0) c.args.b0 }

pub loop-i-preserved : goal.loop-i-preserved
loop-i-preserved c =
    let inside : c.loop-i.i < length c.loop-i.out = omega arith in
    record {
      wide = omega (arith, length-set c.loop-i.out c.loop-i.i c.join_source.result);
      made = wired_step (join_bits c.args.b3 c.args.b2 c.args.b1 c.args.b0) c.loop-i.i c.loop-i.out c.join_source.result inside c.loop-i.invariant.made c.join_source.ensures;
    }

pub returns : goal.returns
returns c = whole (word_of (join_bits c.args.b3 c.args.b2 c.args.b1 c.args.b0)) c.loop-i.i c.loop-i.out (omega arith) c.loop-i.invariant.wide c.loop-i.invariant.made
