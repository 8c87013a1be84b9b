-- From pairs that are alike to a body that does what the window does, over every oracle.
use Rattle.std.proofs.Common.{◌≡◌, ℕ, Bool, List, length, sym, subst}
use Rattle.std.specs.Prelude.{Option}
use Rattle.circuit.specs.Prelude.{AllAgree, MayUntie, Extends}
use Rattle.circuit.specs.declared.literals.Lit.{Lit}
use Rattle.circuit.specs.declared.nodes.Node.{Node}
use Rattle.chosen_inputs.specs.Choices.{CanChoose, later, chosen_fits}
use Rattle.chosen_inputs.specs.Pairs.{AreAlike}
use Rattle.ia_codec.specs.declared.op.Op.{Op}
use Rattle.row_runs.specs.Accesses.{always}
use Rattle.row_runs.specs.Windows.{WindowRun, guest_steps}
use Rattle.row_runs.specs.Bodies.{BodyRun, Pick, host_steps}
use Rattle.row_runs.specs.Oracles.{SameAccessesLoadAlike}
use Rattle.place_circuits.specs.declared.fields.Field.{Field}
use Rattle.row_circuits.specs.Windows.{ShowsWindow}
use Rattle.row_circuits.specs.Bodies.{ShowsBody}
use Rattle.row_circuits.specs.declared.rows.WindowCircuit.{WindowCircuit}
use Rattle.row_circuits.specs.declared.lines.BodyCircuit.{BodyCircuit}
use Rattle.row_circuits.specs.declared.rows.WindowRow.{WindowRow}
use Rattle.row_circuits.specs.declared.lines.BodyLine.{BodyLine}
use Rattle.window_circuits.specs.Starts.{AreWithin, ArePicks, loaded_bytes, window_begins, body_begins}
use Rattle.window_circuits.specs.Runs.{row_at, line_at}
use Rattle.window_circuits.specs.Rules.{Follows, IsSoundFor, IsSoundOver}
use Rattle.window_circuits.specs.declared.pairs.End.{End}

follows_at : (ends : List End) (take : Option Op) (g g2 : WindowRun) (h h2 : BodyRun) → g2 ≡ g → h2 ≡ h → Follows ends take g h → Follows ends take g2 h2
follows_at ends take g g2 h h2 a b f = subst (λ x. Follows ends take x h2) (sym a) (subst (λ x. Follows ends take g x) (sym b) f)

pub over_oracles : (rows : List WindowRow) (lines : List BodyLine) (take : Option Op) (widths : List ℕ) (homes : List Field) (ends : List End) → SameAccessesLoadAlike → IsSoundFor rows lines take widths homes ends → IsSoundOver rows lines take widths homes ends
over_oracles rows lines take widths homes ends alike sound o t picks within picked finds =
    let f = sound t picks within picked in
    let same = alike (length rows) (length lines) o (loaded_bytes t) (row_at rows) (line_at lines) picks (window_begins t) (body_begins homes t) f.accesses finds in
    follows_at ends take _ _ _ _ same.0 same.1 f

-- Of inputs that extend to an assignment that fits, the gates show both runs, and no pair differs.
pub sound_from : (rows : List WindowRow) (lines : List BodyLine) (take : Option Op) (widths : List ℕ) (homes : List Field) (ends : List End) (k0 k1 k2 : List Node) (pairs : List (Lit × Lit)) (window : WindowCircuit) (body : BodyCircuit)
    → ((v : ℕ → Bool) → (w : ℕ → Bool) × Extends k2 v w)
    → ((t : ℕ → ℕ) (picks : ℕ → Pick) → AreWithin widths t → ArePicks picks → CanChoose k0 k1 (λ w. AllAgree k1 w → ShowsWindow w window (guest_steps (length rows) (always (loaded_bytes t)) (row_at rows) (window_begins t)) × ShowsBody w body (host_steps (length lines) (always (loaded_bytes t)) (line_at lines) picks (body_begins homes t))))
    → MayUntie k1 k2
    → ((w : ℕ → Bool) (g : WindowRun) (h : BodyRun) → AllAgree k2 w → ShowsWindow w window g → ShowsBody w body h → AreAlike w pairs → Follows ends take g h)
    → ((w : ℕ → Bool) → AllAgree k2 w → AreAlike w pairs)
    → IsSoundFor rows lines take widths homes ends
sound_from rows lines take widths homes ends k0 k1 k2 pairs window body extends chosen untied follows alike t picks within picked =
    let w = chosen_fits k0 k2 _ extends (later k0 k1 k2 _ untied.inputs (chosen t picks within picked)) in
    let shown = w.2 (untied.earlier w.0 w.1) in
    follows w.0 _ _ w.1 shown.0 shown.1 (alike w.0 w.1)
