use Rattle.std.proofs.Common.{◌≡◌, ℕ, ◌<◌, ◌≤◌, Bool, length}
use Rattle.circuit.specs.Prelude.{lit_truth, lit_reach, GatesAgree, xor_made, at, pair_at, differs, IsLater}
use Rattle.circuit.specs.contracts.nodes.NodePartialEq.TheImpl.{ghosts}
use Rattle.circuit.proofs.Pushed.{ListStands}
use Rattle.circuit.proofs.gates.Gates.differences.Given as goal

abbrev pub invariant-loop-i : goal.invariant-loop-i
invariant-loop-i l = record {
  made : ListStands (λ h k. xor_made ghosts.eq h (pair_at l.pairs k).0 (pair_at l.pairs k).1) l.i l.fn.self.nodes.keys l.out.items l.self.nodes.keys;
  count : length l.out.items ≡ l.i;
  later : IsLater l.fn.self.nodes.keys l.self.nodes.keys;
  gates : (v : ℕ → Bool) → GatesAgree l.self.nodes.keys v → GatesAgree l.fn.self.nodes.keys v;
  owned : (k : ℕ) → k < l.i → lit_reach (at l.out.items k) ≤ length l.self.nodes.keys;
  means : (v : ℕ → Bool) → GatesAgree l.self.nodes.keys v → (k : ℕ) → k < l.i → lit_truth (at l.out.items k) v ≡ differs v (pair_at l.pairs k);
}
