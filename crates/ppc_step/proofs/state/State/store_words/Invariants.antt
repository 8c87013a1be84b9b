use Rattle.std.proofs.Common.{◌≡◌, ◌+◌, ◌-◌, ◌*◌, ◌%◌, ◌^◌, true}
use Rattle.machines.specs.Prelude.{Program, each_byte, rights_of, Guest, store_registers}
use Rattle.ppc_step.specs.Prelude.{IsState}
use Rattle.ppc_step.proofs.state.State.store_words.Given as goal

abbrev pub invariant-loop-x : goal.invariant-loop-x
invariant-loop-x l = record {
  address : l.address ≡ (l.at + 4 * (l.x - l.s)) % 2 ^ 32;
  words : (p : Program) (g : Guest) → IsState p l.fn.self g → each_byte (rights_of p).writable (4 * (32 - l.s)) l.at ≡ true
      → IsState p l.self (record g { bytes = store_registers (l.x - l.s) l.s l.at g.locs g.bytes });
}
