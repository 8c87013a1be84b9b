use Rattle.std.proofs.Common.{◌≡◌, ◌+◌, ◌-◌, ◌*◌, ◌%◌, ◌^◌, true}
use Rattle.machines.specs.Prelude.{Program, each_byte, rights_of, Guest}
use Rattle.ppc_step.specs.Prelude.{IsState}
use Rattle.ppc_step.proofs.Many.{put_below}
use Rattle.ppc_step.proofs.state.State.load_words.Given as goal

abbrev pub invariant-loop-x : goal.invariant-loop-x
invariant-loop-x l = record {
  address : l.address ≡ (l.at + 4 * (l.x - l.d)) % 2 ^ 32;
  words : (p : Program) (g : Guest) → IsState p l.fn.self g → each_byte (rights_of p).held (4 * (32 - l.d)) l.at ≡ true
      → IsState p l.self (record g { locs = put_below l.x l.d l.at g.bytes g.locs });
}
