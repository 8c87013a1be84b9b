use Rattle.std.proofs.Common.{get_or, refl, arith, ◌≡◌, take}
use Rattle.std.proofs.lemmas.List.{take_all}
use Rattle.access.proofs.Steps.{block_put}
use Rattle.machines.specs.Prelude.{put_block}
use Rattle.access.proofs.stores.put.Goals as goal

pub loop-byte-init : goal.loop-byte-init
unfolding put_block
loop-byte-init c = record { address = omega arith; put = λ p kept keeps. keeps }

pub loop-byte-preserved : goal.loop-byte-preserved
loop-byte-preserved c = record {
  address = omega arith;
  put = λ p kept keeps.
      block_put p kept c.args.space.now c.loop-byte.space c.write.new.self c.args.at c.loop-byte.byte-index c.loop-byte.address
      (get_or c.args.bytes.now c.loop-byte.byte-index 0) c.write.result keeps c.loop-byte.invariant.address (c.requires c.loop-byte.byte-index c.loop-byte-test.true)
      c.write.ensures.answer c.write.ensures.written c.args.bytes.now
      c.loop-byte-test.true (c.loop-byte.invariant.put p kept keeps) refl (omega (arith, c.type_inv.bytes c.loop-byte.byte-index));
}

pub returns : goal.returns
returns c = λ p kept keeps.
    let h = c.loop-byte.invariant.put p kept keeps in
    let e : take c.loop-byte.byte-index c.args.bytes.now ≡ c.args.bytes.now = take_all c.loop-byte.byte-index c.args.bytes.now (omega arith) in
    rw e at h
