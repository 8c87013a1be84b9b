use Rattle.std.proofs.Common.{◌≡◌, ℕ, ◌<◌, true, []}
use Rattle.rule_soundness.specs.Prelude.{is_dead_name, location_named}
use Rattle.rule_match.specs.Bindings.{match_of}
use Rattle.rule_match.specs.Matching.{is_in}
use Rattle.rule_match.proofs.matching.are_dead.Given as goal

abbrev pub invariant-loop-name : goal.invariant-loop-name
invariant-loop-name l = (k : ℕ) → k < l.name → is_dead_name l.goal k ≡ true → is_in l.dead (location_named (match_of [] l.binding) k) ≡ true
