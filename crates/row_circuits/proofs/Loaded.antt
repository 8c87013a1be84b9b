-- What is loaded where a row says how many bytes it loads.
use Rattle.std.proofs.Common.{◌≡◌, ℕ, ◌==◌, Bool, true, false, not, if◌then◌else◌, refl, ◌∙◌, ap}
use Rattle.ppc_isa.specs.Rows.{guest_row}
use Rattle.row_runs.specs.Accesses.{always, big_number}
use Rattle.row_runs.specs.Oracles.{RowsArePrompt}
use Rattle.row_runs.specs.Windows.{with_loaded, row_effect}
use Rattle.row_circuits.specs.Windows.{IsLoadWidth, row_reads, row_of, loaded_number}
use Rattle.row_circuits.specs.declared.rows.WindowRow.{WindowRow}

either_way : (P : Type 0) (b : Bool) → (b ≡ true → P) → (b ≡ false → P) → P
either_way P true held failed = held refl
either_way P false held failed = failed refl

pub loaded_fits : RowsArePrompt → (row : WindowRow) (t f : ℕ → ℕ) → IsLoadWidth row.instr row.width →
    guest_row row.instr (with_loaded (row_reads row t) (loaded_number row.width f)) ≡ row_effect (always f) (row_of row) t
loaded_fits prompt row t f is =
    let v = row_reads row t in
    let before = with_loaded v 0 in
    let e : row.width == 0 ≡ true → guest_row row.instr (with_loaded v (loaded_number row.width f)) ≡ row_effect (always f) (row_of row) t =
    λ e. ap (λ b. guest_row row.instr (with_loaded v (if b then 0 else big_number row.width f))) e ∙ (prompt row.instr v 0 (big_number (guest_row row.instr before).width f)).still (is.loads before ∙ ap not e) in
    let g : row.width == 0 ≡ false → guest_row row.instr (with_loaded v (loaded_number row.width f)) ≡ row_effect (always f) (row_of row) t =
    λ e. ap (λ b. guest_row row.instr (with_loaded v (if b then 0 else big_number row.width f))) e ∙ ap (λ n. guest_row row.instr (with_loaded v (big_number n f))) (is.wide before (is.loads before ∙ ap not e)) in
    either_way _ (row.width == 0) e g
