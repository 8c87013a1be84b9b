use Rattle.std.proofs.Common.{◌≡◌, ◌≤◌, sym, ◌∙◌, subst, arith, length, get_or, true, List, None}
use Rattle.std.proofs.lemmas.List.Sums.{position_or_len_is}
use Rattle.machines.specs.Prelude.{Map}
use Rattle.plan_form.specs.Prelude.{is_alone}
use Rattle.plan_form.proofs.order.rank.Goals as goal

pub returns-then-is_lone-clause-rank : goal.returns-then-is_lone-clause-rank
returns-then-is_lone-clause-rank c =
    let e = c.deref-map-items.ensures.value in
    let none : Map = record { ebx = None; esi = None; edi = None } in
    sym (position_or_len_is (λ (m : Map). is_alone c.args.gpr m.ebx m.esi m.edi) c.args.problem.now.maps.items c.loop-index.index none
    (subst (λ (xs : List Map). c.loop-index.index ≤ length xs) e c.loop-index.auto.index-end) (λ k low. c.loop-index.invariant k none low)
    (λ _. subst (λ (xs : List Map). let m = get_or xs c.loop-index.index none in is_alone c.args.gpr m.ebx m.esi m.edi ≡ true) e (sym c.is_lone.ensures ∙ c.if-is_lone.true)))

pub returns-clause-rank : goal.returns-clause-rank
returns-clause-rank c =
    let e = c.deref-map-items.ensures.value in
    let end : length c.args.problem.now.maps.items ≤ c.loop-index.index = subst (λ (xs : List Map). length xs ≤ c.loop-index.index) e c.loop-index-test.false in
    let n : c.len.result ≡ length c.args.problem.now.maps.items = omega (arith, c.len.ensures, c.args.problem.now.maps.ok.0) in
    sym (position_or_len_is (λ (m : Map). is_alone c.args.gpr m.ebx m.esi m.edi) c.args.problem.now.maps.items c.len.result c.args.problem.now.exit
    (omega (arith, n)) (λ k low. c.loop-index.invariant k c.args.problem.now.exit (omega (arith, low, n, end))) (λ low. absurd (omega (arith, low, n))))
