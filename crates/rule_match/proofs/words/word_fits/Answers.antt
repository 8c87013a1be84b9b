use Rattle.std.proofs.Common.{sym, ap, ◌∙◌, subst}
use Rattle.machines.specs.Prelude.{layout, Fit}
use Rattle.rule_soundness.specs.Prelude.{bound, filled}
use Rattle.rule_match.specs.Bindings.{gpr_of}
use Rattle.rule_match.specs.Matching.{match_of_word}
use Rattle.rule_match.proofs.LaidInstr.{constant_fits, target_fits, filled_fits, bound_fits}
use Rattle.rule_match.proofs.words.word_fits.Goals.{then-guest, else-guest}
use Rattle.rule_match.proofs.words.word_fits.Goals as goal

pub is_word_of-requires : goal.is_word_of-requires
is_word_of-requires c =
    let b = c.args.binding.now in
    let i = c.in-Some.instr in
    let f = c.in-Some-decode.found in
    let fit_i = c.in-Some.ensures.found.legal.fit in
    let fit_f = c.in-Some-decode.ensures.found.legal.fit in
    elim c.if-guest.branch [
      | then-guest w ↦ subst (λ x. Fit (layout x)) (sym (w.laid-is ∙ w.bound-laid.ensures ∙ ap (bound (gpr_of b)) w.filled.ensures))
          (bound_fits (gpr_of b) c.requires.gprs (filled (match_of_word f b) 0 i) (filled_fits (match_of_word f b) 0 (constant_fits f fit_f) (target_fits f fit_f) i fit_i))
      | else-guest w ↦ subst (λ x. Fit (layout x)) (sym (w.laid-is ∙ w.bound-laid-else-guest.ensures)) (bound_fits (gpr_of b) c.requires.gprs i fit_i)
    ]
