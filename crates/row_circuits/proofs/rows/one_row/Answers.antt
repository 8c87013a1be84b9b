use Rattle.std.proofs.Common.{ap, subst}
use Rattle.circuit.specs.Prelude.{AllAgree}
use Rattle.row_circuits.proofs.rows.one_row.Goals as goal

pub returns-clause-means : goal.returns-clause-means
returns-clause-means c = λ w run f fits s b.
    let before = subst (λ g. AllAgree g.nodes.keys w) c.in_ok-push_effect.ensures.same fits in
    let e = c.in_ok-e.ensures.means w run.places f before s.places b in
    record {
      places = c.put_effect.ensures.means w run.places _ s.places e;
      accesses = c.in_ok-push_effect.ensures.means w run.accesses _ s.accesses e;
      taken = ap (λ o. o.taken) e;
    }
