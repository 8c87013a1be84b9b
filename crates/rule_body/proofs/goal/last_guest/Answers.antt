use Rattle.std.proofs.Common.{◌-◌, arith, false, ap, ◌∙◌, sym, slice_get}
use Rattle.rule_body.specs.Prelude.{guests_of}
use Rattle.rule_body.proofs.Guests.{guest-at, length-guests}
use Rattle.rule_body.proofs.goal.last_guest.Goals as goal

pub returns : goal.returns
returns c =
    let g = c.args.goal.now in
    ap (λ n. slice_get (guests_of g) (n - 1)) (length-guests g.words g.free g.count (omega arith) (omega arith))
    ∙ sym (guest-at g.words g.free g.count (g.count - 1) false (omega arith) (omega arith) (omega arith))
