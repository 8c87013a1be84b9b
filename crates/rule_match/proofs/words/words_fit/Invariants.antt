use Rattle.std.proofs.Common.{◌≡◌, ℕ, ◌<◌, slice_get, Some}
use Rattle.rule_body.specs.declared.goal.Guest.{Guest}
use Rattle.rule_body.specs.Prelude.{guests_of}
use Rattle.rule_match.specs.Matching.{IsLaidWord}
use Rattle.rule_match.proofs.words.words_fit.Given as goal

abbrev pub invariant-loop-place : goal.invariant-loop-place
invariant-loop-place l = (k : ℕ) (g : Guest) (w : ℕ) → k < l.place → slice_get (guests_of l.goal) k ≡ Some g → slice_get l.window k ≡ Some w → IsLaidWord l.binding g w
