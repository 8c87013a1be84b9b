use Rattle.std.proofs.Common.{◌≡◌, ◌≤◌, ◌∙◌, subst, sym, ap, arith, length, slice_get, Some}
use Rattle.std.specs.List.{All}
use Rattle.std.specs.Option.{IfSome}
use Rattle.circuit.specs.Prelude.{signed_reach, AreClausesFor, final_clause}
use Rattle.circuit.specs.contracts.nodes.NodePartialEq.TheImpl.{ghosts}
use Rattle.circuit.proofs.Differing.{satisfiable_where_differing}
use Rattle.circuit.proofs.Formulas.{is_formula, final_owned}
use Rattle.circuit.proofs.Growing.{grown_differences}
use Rattle.circuit.proofs.gates.Gates.miter.Goals as goal

pub clauses_for-requires : goal.clauses_for-requires
clauses_for-requires c =
    let n = c.in_ok-differences.ensures.count in
    let e : c.in_ok-last.last ≡ final_clause c.in_ok-differences.differences.items = c.in_ok-last.ensures ∙ ap final_clause c.deref.ensures.value in
    subst (λ o. IfSome o (λ k. All (λ z. signed_reach z ≤ length c.differences.new.self.nodes.keys) k)) (sym e)
    (final_owned c.in_ok-differences.differences.items _ (λ k l. c.in_ok-differences.ensures.owned k (omega (arith, l, n))))

pub returns-clause-formula : goal.returns-clause-formula
returns-clause-formula c =
    let n = c.in_ok-differences.ensures.count in
    let e : c.in_ok-last.last ≡ final_clause c.in_ok-differences.differences.items = c.in_ok-last.ensures ∙ ap final_clause c.deref.ensures.value in
    let o = subst (λ o. IfSome o (λ k. All (λ z. signed_reach z ≤ length c.differences.new.self.nodes.keys) k)) (sym e)
    (final_owned c.in_ok-differences.differences.items _ (λ k l. c.in_ok-differences.ensures.owned k (omega (arith, l, n)))) in
    is_formula _ c.differences.new.self.nodes.keys c.in_ok-last.last c.differences.new.self.ordered (omega arith) o (omega arith)
    (subst (λ q. AreClausesFor c.differences.new.self.nodes.keys c.in_ok-last.last q) (sym c.from.ensures) c.in_ok-clauses.ensures)

pub returns-clause-satisfiable : goal.returns-clause-satisfiable
returns-clause-satisfiable c =
    let d = c.in_ok-differences.ensures in
    let e : c.in_ok-last.last ≡ final_clause c.in_ok-differences.differences.items = c.in_ok-last.ensures ∙ ap final_clause c.deref.ensures.value in
    let n = d.count in
    satisfiable_where_differing c.args.self.now.nodes.keys c.differences.new.self.nodes.keys c.args.pairs.now c.in_ok-differences.differences.items
    (record {
      ordered = c.differences.new.self.ordered;
      small = omega arith;
      gates = d.gates;
      means = d.means;
      count = d.count;
      owned = d.owned;
      keeps = λ k m h. subst (λ ns. slice_get ns k ≡ Some m) (sym d.held) (grown_differences ghosts.eq c.args.self.now.nodes.keys c.args.pairs.now k m h);
      grows = d.later.grows;
      pairs_owned = c.requires.owned;
    })
    c.from.result
    (subst (λ o. AreClausesFor c.differences.new.self.nodes.keys o c.from.result) e (subst (λ q. AreClausesFor c.differences.new.self.nodes.keys c.in_ok-last.last q) (sym c.from.ensures) c.in_ok-clauses.ensures))
