use Rattle.std.proofs.Common.{◌≡◌, ◌<◌, length, List, [], ◌∷◌, ◌++◌, sym, ap, ◌∙◌, subst, arith}
use Rattle.std.specs.List.{All}
use Rattle.std.proofs.lemmas.List.Elements.{All-nil, All-append, All-cons}
use Rattle.window_circuits.specs.declared.pairs.End.{End}
use Rattle.window_circuits.specs.Rules.{IsEnd}
use Rattle.rule_places.specs.declared.ends.NamedEnd.{NamedEnd}
use Rattle.rule_places.specs.Ends.{named_end_at, is_needed, ends_below}
use Rattle.rule_places.proofs.Needed.{table_at, name_fits, end_fits, with_end, without_end}
use Rattle.rule_places.proofs.ends.needed_ends.Goals as goal
use Rattle.rule_places.proofs.ends.needed_ends.Goals.{then-is_needed+in_ok-push, else-is_needed}

pub loop-n-init : goal.loop-n-init
unfolding ends_below
loop-n-init c = (c.new-ends.ensures.items, let e = ap length c.new-ends.ensures.items in λ k d lt. absurd (omega (arith, e, lt)))

pub is_needed-requires : goal.is_needed-requires
is_needed-requires c =
    let n = c.loop-n.n in
    subst (λ (x : NamedEnd). x.name < 32) (sym (table_at c.named_ends-table.result n _ c.named_ends-table.ensures c.loop-n-test.true)) (name_fits n c.loop-n-test.true)

pub loop-n-preserved : goal.loop-n-preserved
loop-n-preserved c =
    let n = c.loop-n.n in
    let goal = c.args.goal.now in
    let old = c.loop-n.ends.items in
    let is = table_at c.named_ends-table.result n _ c.named_ends-table.ensures c.loop-n-test.true in
    let asked : is_needed goal (named_end_at n).name ≡ c.is_needed.result = ap (λ (x : NamedEnd). is_needed goal x.name) (sym is) ∙ sym c.is_needed.ensures in
    elim c.if-is_needed.branch [
      | then-is_needed+in_ok-push w ↦
          let pushed = ap (λ v. v.items) w.ends-is ∙ w.in_ok-push.ensures.items ∙ ap (λ (x : NamedEnd). old ++ x.end ∷ []) is in (
            pushed ∙ with_end n goal old (asked ∙ w.if-is_needed.true) c.loop-n.invariant.0,
            subst (λ (xs : List End). All IsEnd xs) (sym pushed) (All-append IsEnd old ((named_end_at n).end ∷ []) c.loop-n.invariant.1 (All-cons IsEnd (named_end_at n).end [] (end_fits n c.loop-n-test.true) (All-nil IsEnd))),
          )
      | else-is_needed w ↦
          let same = ap (λ v. v.items) w.ends-is in
          (same ∙ without_end n goal old (asked ∙ w.if-is_needed.false) c.loop-n.invariant.0, subst (λ (xs : List End). All IsEnd xs) (sym same) c.loop-n.invariant.1)
    ]
