use Rattle.std.proofs.Common.{ℕ, ◌≤◌, ◌<◌, ◌-◌, IsBitSet}
use Rattle.rule_body.proofs.line.is_kept.Given as goal

-- the bytes before aren't the homes of dead locations
abbrev pub invariant-loop-byte : goal.invariant-loop-byte
invariant-loop-byte l = (b : ℕ) → l.offset ≤ b → b < l.byte → 136 ≤ b → IsBitSet l.dead (b - 128) → ⊥
