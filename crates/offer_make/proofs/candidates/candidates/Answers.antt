use Rattle.std.proofs.Common.{◌≢◌, ℕ, ◌++◌, ◌∙◌, sym, subst, ap}
use Rattle.std.specs.List.{AllPairs}
use Rattle.offer_make.specs.Candidates.{held_by}
use Rattle.offer_make.proofs.Boundary.{entry-over, exit-over, six-small}
use Rattle.offer_make.proofs.Firsts.{six_of, distinct, pairs-take}
use Rattle.offer_make.proofs.candidates.candidates.Goals as goal

pub returns-clause-registers : goal.returns-clause-registers
returns-clause-registers c =
    let entry = c.args.entry.now in
    let exit = c.args.exit.now in
    let one = c.in_ok-push_map.ensures ∙ ap (λ l. l ++ held_by entry) c.new-gprs.ensures.items in
    let two = c.in_ok-push_map-2.ensures ∙ ap (λ l. l ++ held_by exit) one in
    let all = c.in_ok-extend_from_slice.ensures.items ∙ ap (λ l. l ++ c.as_slice.result.now) two ∙ ap (λ l. (held_by entry ++ held_by exit) ++ l) c.as_slice.ensures.value in
    let is = c.in_ok-six.ensures ∙ ap six_of (c.as_slice-2.ensures.value ∙ all) in
    six-small entry exit c.in_ok-used.used.items c.in_ok-six.six.items is c.requires.entry c.requires.exit (λ g k. ((c.in_ok-used.ensures.each g).0 k).0)

pub returns-clause-distinct : goal.returns-clause-distinct
returns-clause-distinct c =
    subst (AllPairs (λ (g h : ℕ). g ≢ h)) (sym c.in_ok-six.ensures) (pairs-take (λ (g h : ℕ). g ≢ h) 6 _ (distinct _))

pub returns-clause-entry : goal.returns-clause-entry
returns-clause-entry c =
    let entry = c.args.entry.now in
    let exit = c.args.exit.now in
    let one = c.in_ok-push_map.ensures ∙ ap (λ l. l ++ held_by entry) c.new-gprs.ensures.items in
    let two = c.in_ok-push_map-2.ensures ∙ ap (λ l. l ++ held_by exit) one in
    let all = c.in_ok-extend_from_slice.ensures.items ∙ ap (λ l. l ++ c.as_slice.result.now) two ∙ ap (λ l. (held_by entry ++ held_by exit) ++ l) c.as_slice.ensures.value in
    let is = c.in_ok-six.ensures ∙ ap six_of (c.as_slice-2.ensures.value ∙ all) in
    entry-over entry exit c.in_ok-used.used.items c.in_ok-six.six.items is c.requires.entry c.requires.exit

pub returns-clause-exit : goal.returns-clause-exit
returns-clause-exit c =
    let entry = c.args.entry.now in
    let exit = c.args.exit.now in
    let one = c.in_ok-push_map.ensures ∙ ap (λ l. l ++ held_by entry) c.new-gprs.ensures.items in
    let two = c.in_ok-push_map-2.ensures ∙ ap (λ l. l ++ held_by exit) one in
    let all = c.in_ok-extend_from_slice.ensures.items ∙ ap (λ l. l ++ c.as_slice.result.now) two ∙ ap (λ l. (held_by entry ++ held_by exit) ++ l) c.as_slice.ensures.value in
    let is = c.in_ok-six.ensures ∙ ap six_of (c.as_slice-2.ensures.value ∙ all) in
    exit-over entry exit c.in_ok-used.used.items c.in_ok-six.six.items is c.requires.entry c.requires.exit
