use Rattle.std.proofs.Common.{◌≡◌, ◌∙◌, ◌++◌, ◌+◌, ap, subst, sym, false, get_or, arith, rules, w32}
use Rattle.std.proofs.lemmas.Int.{to_z-of_z}
use Rattle.circuit.specs.Prelude.{chosen_clauses, Input}
use Rattle.circuit.proofs.Appended.{push_chosen, pass_chosen, chosen_all, clauses_left}
use Rattle.circuit.proofs.clauses.chosen_clauses.Goals as goal
use Rattle.circuit.proofs.clauses.chosen_clauses.Goals.{then-chosen-k+in_ok-push_gate, else-chosen-k}

pub loop-k-preserved : goal.loop-k-preserved
loop-k-preserved c = elim c.if-chosen-k.branch [
  | then-chosen-k+in_ok-push_gate w ↦
      push_chosen (λ k. get_or c.args.chosen.now k false) c.args.nodes.now c.loop-k.k (Input 0) _ _ c.loop-k.out.items c.if-chosen-k.out.items c.loop-k-test.true
      (to_z-of_z w32 w.variable_at.result (search rules) ∙ w.variable_at.ensures) w.if-chosen-k.true (ap (λ v. v.items) w.out-is ∙ w.in_ok-push_gate.ensures) c.loop-k.invariant
  | else-chosen-k w ↦
      subst (λ v. v.items ++ clauses_left (λ k. get_or c.args.chosen.now k false) c.args.nodes.now (c.loop-k.k + 1) ≡ chosen_clauses (λ k. get_or c.args.chosen.now k false) 1 c.args.nodes.now) (sym w.out-is)
      (pass_chosen (λ k. get_or c.args.chosen.now k false) c.args.nodes.now c.loop-k.k (Input 0) _ c.loop-k.out.items c.loop-k-test.true w.if-chosen-k.false c.loop-k.invariant)
]

pub returns : goal.returns
returns c = chosen_all (λ k. get_or c.args.chosen.now k false) c.args.nodes.now c.loop-k.k _ c.loop-k.out.items (omega arith) c.loop-k.invariant
