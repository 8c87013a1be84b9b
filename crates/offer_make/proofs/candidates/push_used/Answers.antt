use Rattle.std.proofs.Common.{◌≡◌, ℕ, Bool, ◌++◌, ◌∷◌, [], ◌==◌, get_or, length, ap, ◌∙◌, filter, arith}
use Rattle.std.specs.List.{range_with_len}
use Rattle.std.proofs.lemmas.Bool.Decides.{nat_tests}
use Rattle.offer_make.proofs.Elements.{filter-range-take, filter-range-leave}
use Rattle.offer_make.proofs.candidates.push_used.Goals as goal
use Rattle.offer_make.proofs.candidates.push_used.Goals.{then-counts-gpr+in_ok-push, else-counts-gpr}

pub loop-gpr-preserved : goal.loop-gpr-preserved
loop-gpr-preserved c =
    let counts = c.args.counts.now in
    let p : ℕ → Bool = λ g. get_or counts g 0 == c.args.times in
    elim c.if-counts-gpr.branch [
      | then-counts-gpr+in_ok-push w ↦
          ap (λ v. v.items) w.used-is ∙ w.in_ok-push.ensures.items ∙ ap (λ l. l ++ c.loop-gpr.gpr ∷ []) c.loop-gpr.invariant
          ∙ filter-range-take p c.args.used.now.items c.loop-gpr.gpr (let e = w.if-counts-gpr.true in grind (arith, nat_tests))
      | else-counts-gpr w ↦
          ap (λ v. v.items) w.used-is ∙ c.loop-gpr.invariant
          ∙ ap (λ l. c.args.used.now.items ++ l) (filter-range-leave p c.loop-gpr.gpr (let e = w.if-counts-gpr.false in grind (arith, nat_tests)))
    ]

pub returns : goal.returns
returns c =
    let end : c.loop-gpr.gpr ≡ length c.args.counts.now = omega arith in
    c.loop-gpr.invariant ∙ ap (λ n. c.args.used.now.items ++ filter (λ g. get_or c.args.counts.now g 0 == c.args.times) (range_with_len 0 n)) end
