use Rattle.std.proofs.Common.{◌≡◌, ℕ, Bool, length}
use Rattle.circuit.specs.Prelude.{AllAgree, MayUntie}
use Rattle.access_circuits.specs.Bytes.{HoldsBytes, BytesOwned}
use Rattle.row_runs.specs.Accesses.{always}
use Rattle.row_runs.specs.Windows.{WindowRun, guest_steps}
use Rattle.row_circuits.specs.Windows.{ShowsWindow, WindowOwned}
use Rattle.window_circuits.specs.Runs.{row_at}
use Rattle.circuit.specs.contracts.algebra.GatesAlg.TheImpl.{ghosts}
use Rattle.row_circuits.specs.WindowTerms.{window_made}
use Rattle.window_circuits.specs.Terms.{rows_made}
use Rattle.window_circuits.proofs.loops.all_rows.Given as goal

abbrev pub invariant-loop-i : goal.invariant-loop-i
invariant-loop-i l = record {
  made : window_made l.window l.gates.nodes.keys ≡ rows_made ghosts.ops l.i l.rows l.bytes (window_made l.fn.window l.fn.gates.nodes.keys);
  later : MayUntie l.fn.gates.nodes.keys l.gates.nodes.keys;
  owned : WindowOwned (length l.gates.nodes.keys) l.window;
  bytes_owned : BytesOwned (length l.gates.nodes.keys) l.bytes;
  means : (w : ℕ → Bool) (run : WindowRun) (f : ℕ → ℕ) → AllAgree l.gates.nodes.keys w → ShowsWindow w l.fn.window run → HoldsBytes w l.bytes f → ShowsWindow w l.window (guest_steps l.i (always f) (row_at l.rows) run);
}
