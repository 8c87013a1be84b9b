-- Rows and lines one after another.
use Rattle.std.proofs.Common.{◌≡◌, ℕ, ◌+◌, ◌<◌, ◌≤◌, List, length, refl, ap, arith, add-one, get_or, ◌∙◌}
use Rattle.std.proofs.lemmas.List.{get_or_default}
use Rattle.circuit.specs.Prelude.{MayUntie}
use Rattle.circuit.specs.declared.nodes.Node.{Node}
use Rattle.circuit.specs.declared.literals.Lit.{Lit}
use Rattle.access_circuits.specs.Bytes.{BytesOwned}
use Rattle.row_runs.specs.Windows.{WindowRun, Row, guest_step, guest_steps}
use Rattle.row_runs.specs.Bodies.{BodyRun, Pick, Line, host_step, host_steps}
use Rattle.row_circuits.specs.Windows.{row_of}
use Rattle.row_circuits.specs.Bodies.{line_of}
use Rattle.row_circuits.specs.declared.rows.WindowRow.{WindowRow}
use Rattle.row_circuits.specs.declared.lines.BodyLine.{BodyLine}
use Rattle.window_circuits.specs.Runs.{no_row, no_line, row_at, line_at}

pub bytes_later : (m n : ℕ) (bytes : List (List Lit)) → m ≤ n → BytesOwned m bytes → BytesOwned n bytes
bytes_later m n bytes l o = record { each = λ k h. let p = o.each k h in omega (arith, p, l) }

pub untie-refl : (a : List Node) → MayUntie a a
untie-refl a = record { grows = omega arith; earlier = λ v h. h; inputs = λ k h. h; rises = omega arith }

pub untie-trans : (a b c : List Node) → MayUntie a b → MayUntie b c → MayUntie a c
untie-trans a b c p q = record { grows = omega (arith, p.grows, q.grows); earlier = λ v h. p.earlier v (q.earlier v h); inputs = λ k h. q.inputs k (p.inputs k h); rises = omega (arith, p.rises, q.rises) }

pub guest_none : (o : ℕ → ℕ → ℕ) (rows : ℕ → Row) (run : WindowRun) → guest_steps 0 o rows run ≡ run
unfolding guest_steps
guest_none o rows run = refl

-- a row of the list that is there, whatever stands for one that isn't
pub guest_one_more : (n : ℕ) (o : ℕ → ℕ → ℕ) (rows : List WindowRow) (d : WindowRow) (run : WindowRun) → n < length rows → guest_step o (row_of (get_or rows n d)) (guest_steps n o (row_at rows) run) ≡ guest_steps (n + 1) o (row_at rows) run
unfolding guest_steps
guest_one_more n o rows d run l = let e : get_or rows n d ≡ get_or rows n no_row = get_or_default rows n d no_row l in ap (λ x. guest_step o (row_of x) (guest_steps n o (row_at rows) run)) e ∙ (rw add-one refl)

pub host_none : (o : ℕ → ℕ → ℕ) (lines : ℕ → Line) (picks : ℕ → Pick) (run : BodyRun) → host_steps 0 o lines picks run ≡ run
unfolding host_steps
host_none o lines picks run = refl

pub host_one_more : (n : ℕ) (o : ℕ → ℕ → ℕ) (lines : List BodyLine) (d : BodyLine) (picks : ℕ → Pick) (run : BodyRun) → n < length lines → host_step o (line_of (get_or lines n d)) (picks n) (host_steps n o (line_at lines) picks run) ≡ host_steps (n + 1) o (line_at lines) picks run
unfolding host_steps
host_one_more n o lines d picks run l = let e : get_or lines n d ≡ get_or lines n no_line = get_or_default lines n d no_line l in ap (λ x. host_step o (line_of x) (picks n) (host_steps n o (line_at lines) picks run)) e ∙ (rw add-one refl)
