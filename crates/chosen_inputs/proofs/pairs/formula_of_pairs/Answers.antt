use Rattle.circuit.specs.Prelude.{CanDiffer, IsSatisfiable}
use Rattle.chosen_inputs.proofs.Alike.{none_differs, refuted}
use Rattle.chosen_inputs.proofs.pairs.formula_of_pairs.Goals as goal

pub returns-clause-alike : goal.returns-clause-alike
returns-clause-alike c = refuted c.miter.result (λ f. IsSatisfiable f.clauses) (CanDiffer c.args.gates.now.nodes.keys c.args.pairs.now) _ c.miter.ensures.satisfiable (λ none w fits. none_differs c.args.gates.now.nodes.keys c.args.pairs.now w none fits)
