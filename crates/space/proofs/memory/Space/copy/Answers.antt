use Rattle.space.proofs.Lookup.{byte_of_permitted}
use Rattle.space.proofs.memory.Space.copy.Goals as goal

pub unreachable-requires : goal.unreachable-requires
unreachable-requires c =
    byte_of_permitted c.args.self.now.segments c.args.self.now.code c.loop-byte.address
    (rw c.loop-byte.invariant.address (c.requires c.loop-byte.byte-index c.loop-byte-test.true)) c.in-None.ensures
