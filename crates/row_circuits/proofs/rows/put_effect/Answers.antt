use Rattle.std.proofs.Common.{ap}
use Rattle.row_circuits.proofs.rows.put_effect.Goals as goal

pub returns-clause-means : goal.returns-clause-means
returns-clause-means c = λ w t o h e.
    let p1 = c.put_target.ensures.means w t _ h (ap (λ x. x.d) e) in
    let p2 = c.put_target-2.ensures.means w _ _ p1 (ap (λ x. x.a) e) in
    let p3 = c.put.ensures.means w _ _ p2 (ap (λ x. x.cr) e) in
    let p4 = c.put-2.ensures.means w _ _ p3 (ap (λ x. x.xer) e) in
    let p5 = c.put-3.ensures.means w _ _ p4 (ap (λ x. x.lr) e) in
    c.put-4.ensures.means w _ _ p5 (ap (λ x. x.ctr) e)
