-- When a body does what a window does.
use Rattle.std.specs.Prelude.{◌≡◌, ◌<◌, ℕ, List, Option, Some, None, length}
use Rattle.std.specs.List.{All}
use Rattle.ia_codec.specs.Prelude.{IsInProfile}
use Rattle.ia_codec.specs.declared.op.Op.{Op}
use Rattle.row_runs.specs.Accesses.{Finds, always}
use Rattle.row_runs.specs.Windows.{WindowRun, guest_steps}
use Rattle.row_runs.specs.Bodies.{BodyRun, Pick, host_steps, condition_holds}
use Rattle.place_circuits.specs.Fields.{IsField, field_value}
use Rattle.place_circuits.specs.declared.fields.Field.{Field}
use Rattle.row_circuits.specs.declared.rows.WindowRow.{WindowRow}
use Rattle.row_circuits.specs.declared.lines.BodyLine.{BodyLine}
use Rattle.window_circuits.specs.Starts.{AreWithin, ArePicks, loaded_bytes, window_begins, body_begins}
use Rattle.window_circuits.specs.Runs.{row_at, line_at}
use Rattle.window_circuits.specs.declared.pairs.End.{End}

pub record IsEnd (end : End) : Type 0 where
  pub from : IsField end.from
  pub to : end.to < 64

abbrev pub IsTake : Option Op → Type 0
IsTake None = Unit {0}
IsTake (Some op) = IsInProfile op

-- the condition of the op holds exactly where the last row's branch is taken
abbrev pub IsTaken : Option Op → WindowRun → BodyRun → Type 0
IsTaken None window body = Unit {0}
IsTaken (Some op) window body = window.taken ≡ condition_holds op body

-- bits of the window's places are numbers at the body's places
abbrev pub EndAlike : List End → (ℕ → ℕ) → (ℕ → ℕ) → Type 0
EndAlike ends t u = All (λ e. field_value e.from t ≡ u e.to) ends

-- The body ends as the window does: with the same numbers at the places that are asked for, behind the same accesses, and with
-- the branch's condition on its flags.
pub record Follows (wanted : List End) (take : Option Op) (window : WindowRun) (body : BodyRun) : Type 0 where
  pub ends : EndAlike wanted window.places body.places
  pub accesses : window.accesses ≡ body.accesses
  pub taken : IsTaken take window body

-- for all inputs and choices, where each load finds the bytes among the inputs
abbrev pub IsSoundFor : List WindowRow → List BodyLine → Option Op → List ℕ → List Field → List End → Type 0
IsSoundFor rows lines take widths homes ends =
    (t : ℕ → ℕ) (picks : ℕ → Pick) → AreWithin widths t → ArePicks picks →
    Follows ends take (guest_steps (length rows) (always (loaded_bytes t)) (row_at rows) (window_begins t)) (host_steps (length lines) (always (loaded_bytes t)) (line_at lines) picks (body_begins homes t))

-- for all inputs and choices, where each side loads at its own addresses and the window's loads find the bytes there
abbrev pub IsSoundOver : List WindowRow → List BodyLine → Option Op → List ℕ → List Field → List End → Type 0
IsSoundOver rows lines take widths homes ends =
    (oracle : ℕ → ℕ → ℕ) (t : ℕ → ℕ) (picks : ℕ → Pick) → AreWithin widths t → ArePicks picks →
    Finds oracle (loaded_bytes t) (guest_steps (length rows) oracle (row_at rows) (window_begins t)).accesses →
    Follows ends take (guest_steps (length rows) oracle (row_at rows) (window_begins t)) (host_steps (length lines) oracle (line_at lines) picks (body_begins homes t))

abbrev pub no_end : End
no_end = record { from = record { place = 0; low = 0; count = 1 }; to = 0 }
