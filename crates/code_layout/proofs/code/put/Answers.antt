use Rattle.std.proofs.Common.{◌+◌, arith, refl, vec_len}
use Rattle.std.proofs.lemmas.Grind.{common_steps}
use Rattle.code_layout.specs.Prelude.{places_of}
use Rattle.code_layout.proofs.Lengths.{length-more, length-all}
use Rattle.code_layout.proofs.Laying.{whole-rest, bytes-more, bytes-all}
use Rattle.code_layout.proofs.code.put.Goals as goal

pub loop-place-preserved : goal.loop-place-preserved
loop-place-preserved c = record {
  bytes = bytes-more (places_of c.args.layout.now) c.args.layout.now.code c.args.items.now c.loop-place.place (vec_len c.loop-place.code) (vec_len c.put_item.new.code) _ _ c.loop-place.code.items c.put_item.new.code.items _ c.loop-place-test.true (whole-rest c.args.items.now (c.loop-place.place + 1)) c.in_ok-put_item.ensures.bytes c.in_ok-put_item.ensures.length c.loop-place.invariant.bytes;
  length = length-more c.args.items.now c.loop-place.place (vec_len c.loop-place.code) (vec_len c.put_item.new.code) _ _ _ c.loop-place-test.true refl c.in_ok-put_item.ensures.length c.loop-place.invariant.length;
  bound = grind (arith, common_steps);
}

pub returns-clause-bytes : goal.returns-clause-bytes
returns-clause-bytes c = bytes-all (places_of c.args.layout.now) c.args.items.now c.loop-place.place _ c.loop-place.code.items _ c.loop-place-test.false c.loop-place.invariant.bytes

pub returns-clause-length : goal.returns-clause-length
returns-clause-length c = length-all c.args.items.now c.loop-place.place (vec_len c.loop-place.code) _ c.loop-place-test.false c.loop-place.invariant.length
