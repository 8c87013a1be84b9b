use Rattle.std.proofs.Common.{◌≡◌, ℕ, length}
use Rattle.circuit.specs.Prelude.{AllAgree, MayUntie}
use Rattle.chosen_inputs.specs.Choices.{CanChoose}
use Rattle.access_circuits.specs.Bytes.{HoldsBytes, BytesOwned}
use Rattle.row_runs.specs.Accesses.{always}
use Rattle.row_runs.specs.Bodies.{BodyRun, Pick, host_steps}
use Rattle.row_circuits.specs.Bodies.{ShowsBody, BodyOwned}
use Rattle.window_circuits.specs.Starts.{ArePicks}
use Rattle.window_circuits.specs.Runs.{line_at}
use Rattle.circuit.specs.contracts.algebra.GatesAlg.TheImpl.{ghosts}
use Rattle.row_circuits.specs.BodyTerms.{body_made}
use Rattle.window_circuits.specs.Terms.{lines_made}
use Rattle.window_circuits.proofs.loops.all_lines.Given as goal

abbrev pub invariant-loop-i : goal.invariant-loop-i
invariant-loop-i l = record {
  made : body_made l.body l.gates.nodes.keys ≡ lines_made ghosts.ops l.i l.lines l.bytes (body_made l.fn.body l.fn.gates.nodes.keys);
  later : MayUntie l.fn.gates.nodes.keys l.gates.nodes.keys;
  owned : BodyOwned (length l.gates.nodes.keys) l.body;
  bytes_owned : BytesOwned (length l.gates.nodes.keys) l.bytes;
  means : (run : BodyRun) (picks : ℕ → Pick) (f : ℕ → ℕ) → ArePicks picks → CanChoose l.fn.gates.nodes.keys l.gates.nodes.keys (λ w. AllAgree l.gates.nodes.keys w → ShowsBody w l.fn.body run → HoldsBytes w l.bytes f → ShowsBody w l.body (host_steps l.i (always f) (line_at l.lines) picks run));
}
