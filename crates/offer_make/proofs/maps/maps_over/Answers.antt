use Rattle.std.proofs.Common.{◌+◌, sym, subst, ap, ◌∙◌, arith}
use Rattle.offer_make.proofs.Numbers.{AreBelow, below-none, below-some, below-all}
use Rattle.offer_make.proofs.maps.maps_over.Goals as goal
use Rattle.offer_make.proofs.maps.maps_over.Goals.{in-Some+in_ok-push, in_default}

pub loop-number-preserved : goal.loop-number-preserved
loop-number-preserved c =
    let xs = c.args.candidates.now in
    let n = c.loop-number.number in
    elim c.match-map_of.branch [
      | in-Some+in_ok-push w ↦
          below-some xs c.requires.few n c.loop-number.maps.items c.match-map_of.maps.items w.in-Some.map (ap (λ v. v.items) w.maps-is ∙ w.in_ok-push.ensures.items)
          c.loop-number.invariant w.in-Some.ensures.0 w.in-Some.ensures.1
      | in_default w ↦
          subst (λ v. AreBelow xs (n + 1) v.items) (sym w.maps-is) (below-none xs c.requires.few n c.loop-number.maps.items c.loop-number.invariant w.in_default.ensures)
    ]

pub returns : goal.returns
returns c = below-all c.args.candidates.now c.requires.few c.loop-number.number c.loop-number.maps.items (omega (arith, c.loop-number-test.false)) c.loop-number.invariant
