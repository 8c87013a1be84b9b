use Rattle.std.proofs.Common.{◌≡◌, ℕ, Bool, length, sym, subst, arith}
use Rattle.circuit.specs.Prelude.{AllAgree}
use Rattle.access_circuits.specs.Bytes.{HoldsBytes}
use Rattle.row_runs.specs.Accesses.{always}
use Rattle.row_runs.specs.Windows.{WindowRun, guest_steps}
use Rattle.row_circuits.specs.Windows.{ShowsWindow}
use Rattle.window_circuits.specs.Runs.{row_at}
use Rattle.window_circuits.proofs.Running.{bytes_later, untie-refl, untie-trans, guest_none, guest_one_more}
use Rattle.window_circuits.proofs.Made.{rows_made_none, rows_made_more}
use Rattle.window_circuits.proofs.loops.all_rows.Goals as goal

pub loop-i-init : goal.loop-i-init
loop-i-init c = record {
  made = rows_made_none _ c.args.rows.now c.args.bytes _;
  later = untie-refl _;
  owned = c.requires.window_owned;
  bytes_owned = c.requires.bytes_owned;
  means = λ w run f fits s b. subst (ShowsWindow w c.args.window.now) (sym (guest_none (always f) (row_at c.args.rows.now) run)) s;
}

pub loop-i-preserved : goal.loop-i-preserved
loop-i-preserved c = record {
  made = rows_made_more _ c.loop-i.i c.args.rows.now _ c.args.bytes _ _ _ (omega arith) c.loop-i.invariant.made c.in_ok-one_row.ensures.makes;
  later = untie-trans _ _ _ c.loop-i.invariant.later c.in_ok-one_row.ensures.later;
  owned = c.in_ok-one_row.ensures.owned;
  bytes_owned = bytes_later _ _ _ c.in_ok-one_row.ensures.later.grows c.loop-i.invariant.bytes_owned;
  means = λ w run f fits s b.
      let before = c.loop-i.invariant.means w run f (c.in_ok-one_row.ensures.later.earlier w fits) s b in
      subst (ShowsWindow w c.one_row.new.window) (guest_one_more c.loop-i.i (always f) c.args.rows.now _ run (omega arith))
      (c.in_ok-one_row.ensures.means w (guest_steps c.loop-i.i (always f) (row_at c.args.rows.now) run) f fits before b);
}

pub returns-clause-means : goal.returns-clause-means
returns-clause-means c = let e : c.loop-i.i ≡ length c.args.rows.now = omega arith in
    subst (λ n. (w : ℕ → Bool) (run : WindowRun) (f : ℕ → ℕ) → AllAgree c.loop-i.gates.nodes.keys w → ShowsWindow w c.args.window.now run → HoldsBytes w c.args.bytes f → ShowsWindow w c.loop-i.window (guest_steps n (always f) (row_at c.args.rows.now) run)) e c.loop-i.invariant.means
