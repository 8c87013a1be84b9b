use Rattle.std.proofs.Common.{◌≡◌, inl, inr, ◌≤◌, ◌-◌, length, take, ap, ◌∙◌, sym, arith}
use Rattle.std.proofs.lemmas.Bool.{cases_lt}
use Rattle.std.proofs.lemmas.List.{take_all}
use Rattle.watched_literals.proofs.trail.Trail.truncate.Goals as goal

pub returns-clause-literals : goal.returns-clause-literals
returns-clause-literals c =
    let xs = c.args.self.now.literals in
    let m = ap (λ v. v.literals) c.self-2.view_is ∙ c.loop-more.invariant.literals in
    elim (cases_lt c.args.count (length xs)) [
      | inl less ↦
          let k : c.loop-more._more ≤ c.len-more-end.result = c.loop-more.auto._more-end (omega (arith, less, c.len-more-end.ensures)) in
          let e : length xs - (c.loop-more._more - c.args.count) ≡ c.args.count = omega (arith, k, less, c.len-more-end.ensures, c.loop-more-test.false) in
          m ∙ ap (λ n. take n xs) e
      | inr past ↦
          let k : c.loop-more._more ≤ c.args.count = c.loop-more.invariant.past past in
          let e : length xs - (c.loop-more._more - c.args.count) ≡ length xs = omega (arith, k) in
          m ∙ ap (λ n. take n xs) e ∙ take_all (length xs) xs (omega arith) ∙ sym (take_all c.args.count xs past)
    ]
