use Rattle.std.proofs.Common.{◌≡◌, ℕ, ◌+◌, ◌*◌, ◌^◌, ◌≤◌, Bool, length}
use Rattle.word_kit.specs.Prelude.{one_if}
use Rattle.circuit.specs.Prelude.{lit_truth, lit_reach, word_value, word_reach_below, AllAgree, IsLater}
use Rattle.circuit.specs.contracts.nodes.NodePartialEq.TheImpl.{ghosts}
use Rattle.circuit.proofs.Values.{SumStands}
use Rattle.circuit.proofs.gates.Gates.sum.Given as goal

abbrev pub invariant-loop-i : goal.invariant-loop-i
invariant-loop-i l = record {
  made : SumStands ghosts.eq l.i l.fn.self.nodes.keys l.x l.y l.fn.carry l.out l.over l.self.nodes.keys;
  wide : length l.out ≡ 32;
  later : IsLater l.fn.self.nodes.keys l.self.nodes.keys;
  owned : word_reach_below l.i l.out ≤ length l.self.nodes.keys;
  over_owned : lit_reach l.over ≤ length l.self.nodes.keys;
  means : (v : ℕ → Bool) → AllAgree l.self.nodes.keys v → word_value l.i l.out v + one_if (lit_truth l.over v) * 2 ^ l.i ≡ word_value l.i l.x v + word_value l.i l.y v + one_if (lit_truth l.fn.carry v);
}
