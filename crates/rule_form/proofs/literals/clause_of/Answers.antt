use Rattle.std.proofs.Common.{◌∙◌, map, sym, subst, codes}
use Rattle.std.proofs.lemmas.Bool.{false≢true}
use Rattle.rule_body.specs.Prelude.{AreRising}
use Rattle.rule_form.specs.Prelude.{literal_word}
use Rattle.rule_form.proofs.ItemWords.{fit-literals-same}
use Rattle.rule_form.proofs.ClauseWords.{middle, rising-fit}
use Rattle.rule_form.proofs.literals.clause_of.Goals as goal

pub returns-in_default-2 : goal.returns-in_default-2
returns-in_default-2 c = λ zs h e.
    (rw c.in_default-2.is at c.in_ok-literals.ensures) zs (rising-fit 0 zs h) (middle c.args.words.now (map literal_word zs) (codes "clause") (codes "0") e)

pub returns-else-are_rising : goal.returns-else-are_rising
returns-else-are_rising c = λ zs h e.
    let s = rw c.in-Some.is at c.in_ok-literals.ensures in
    let same = fit-literals-same c.in-Some.literals.items zs s.0 (rising-fit 0 zs h) (sym s.1 ∙ middle c.args.words.now (map literal_word zs) (codes "clause") (codes "0") e) in
    let t = c.are_rising.ensures.1 (subst (AreRising 0) (sym (c.deref.ensures.value ∙ same)) h) in
    false≢true (sym c.if-are_rising.false ∙ t)
