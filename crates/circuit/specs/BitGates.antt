-- What a gate that goes bit by bit means.
use Rattle.std.specs.Prelude.{ℕ, Bool, cond, not, ◌&&◌, ◌||◌}
use Rattle.word_kit.specs.Prelude.{same}
use Rattle.circuit.specs.Literals.{lit_truth, lit_reach}
use Rattle.circuit.specs.Types.{BitGate, Both, Either, Differ, Choice}

abbrev pub gate_truth : BitGate → (ℕ → Bool) → Bool → Bool → Bool
gate_truth Both v b c = b && c
gate_truth Either v b c = b || c
gate_truth Differ v b c = not (same b c)
gate_truth (Choice s) v b c = cond (lit_truth s v) b c

-- the variable that it reads besides
abbrev pub gate_reach : BitGate → ℕ
gate_reach Both = 0
gate_reach Either = 0
gate_reach Differ = 0
gate_reach (Choice s) = lit_reach s
