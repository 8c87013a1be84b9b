use Rattle.std.proofs.Common.{sym, ap, ◌∙◌, ◌++◌, map, arith}
use Rattle.rule_body.specs.Prelude.{guests_of}
use Rattle.rule_form.specs.Prelude.{GuestLine}
use Rattle.rule_form.proofs.Printed.{lines, item-more, take-rest, taken-below}
use Rattle.rule_form.proofs.printing.put_guests.Goals as goal

pub loop-guest-preserved : goal.loop-guest-preserved
loop-guest-preserved c =
    let at = sym c.guest_at.ensures ∙ c.in-Some.is in
    record {
      out = item-more GuestLine c.put_guest.new.out.items c.loop-guest.out.items c.args.out.now.items (guests_of c.args.goal.now) c.loop-guest.place c.in-Some.guest at c.in_ok-put_guest.ensures c.loop-guest.invariant.out;
      few = let b = taken-below _ c.args.goal.now.count c.loop-guest.place c.in-Some.guest at in omega (arith, b, c.requires);
    }

pub returns : goal.returns
returns c = c.loop-guest.invariant.out ∙ ap (λ gs. c.args.out.now.items ++ lines (map GuestLine gs)) (take-rest (guests_of c.args.goal.now) c.loop-guest.place (λ g e. c.in_default.not-Some g (c.guest_at.ensures ∙ e)))
