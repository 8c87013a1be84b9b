use Rattle.std.proofs.Common.{◌++◌, sym, ◌∙◌, ap, subst}
use Rattle.access_circuits.specs.Lists.{AreAccesses}
use Rattle.row_circuits.specs.BodyTerms.{body_made}
use Rattle.row_circuits.specs.WindowTerms.{window_made}
use Rattle.window_circuits.specs.Terms.{accesses_paired}
use Rattle.window_circuits.proofs.Made.{pairs_from}
use Rattle.window_circuits.proofs.pairs.push_pairs.Goals as goal

pub returns-clause-alike : goal.returns-clause-alike
returns-clause-alike c = λ w g h fits s b a.
    let ends = c.in_ok-push_ends.ensures.alike w g.places h.places fits s.places b.places a in
    let before = c.in_ok-push_ends.ensures.later.earlier w fits in
    let x = subst (λ xs. AreAccesses w xs g.accesses) (sym c.deref.ensures.value) s.accesses in
    let y = subst (λ xs. AreAccesses w xs h.accesses) (sym c.deref-2.ensures.value) b.accesses in
    let accesses = c.in_ok-push_accesses.ensures.alike w g.accesses h.accesses x y ends.0 in
    let taken = c.in_ok-push_taken.ensures.alike w g h before s b accesses.0 in
    record { ends = ends.1; accesses = accesses.1; taken = taken.1 }

pub returns-clause-makes : goal.returns-clause-makes
returns-clause-makes c =
    let before = c.push_taken.new.pairs.items in
    pairs_from _ c.args.take.now c.args.ends.now (window_made c.args.window.now c.args.gates.now.nodes.keys) (body_made c.args.body.now c.args.gates.now.nodes.keys) c.args.pairs.now.items _ c.push_accesses.new.pairs.items _
    c.in_ok-push_taken.ensures.makes
    (c.in_ok-push_accesses.ensures.pushed ∙ ap (λ xs. before ++ accesses_paired xs c.deref-2.result.now) c.deref.ensures.value ∙ ap (λ ys. before ++ accesses_paired c.args.window.now.accesses.items ys) c.deref-2.ensures.value)
    c.in_ok-push_ends.ensures.makes
