use Rattle.std.proofs.Common.{◌≡◌, length, sym, ◌∙◌, arith, get_or}
use Rattle.std.proofs.lemmas.List.{ext_get_or}
use Rattle.access_circuits.specs.Lists.{no_access}
use Rattle.access_circuits.proofs.Shapes.{same_shapes_are}
use Rattle.access_circuits.proofs.Stored.{one_more}
use Rattle.access_circuits.proofs.Paired.{accesses_begin, accesses_go_on, access_same, address_owned, stored_owned}
use Rattle.access_circuits.proofs.accesses.pair_accesses.Goals as goal

pub loop-i-init : goal.loop-i-init
loop-i-init c =
    let same = sym c.if-not-same_shapes.ensures.made in
    let shapes = (same_shapes_are c.args.xs.now c.args.ys.now).0 same in
    record {
      count = shapes.count;
      shapes = shapes;
      same = same;
      pushed = accesses_begin c.args.pairs.now.items c.args.xs.now c.args.ys.now;
      alike = λ w ts us a p q. (a, λ k l. absurd (omega (arith, l)));
      owned = λ m o p q. o;
    }

pub loop-i-preserved : goal.loop-i-preserved
loop-i-preserved c =
    let i = c.loop-i.i in
    let xs = c.args.xs.now in
    let ys = c.args.ys.now in
    let count = c.loop-i.invariant.count in
    let l = c.loop-i-test.true in
    record {
      count = count;
      shapes = c.loop-i.invariant.shapes;
      same = c.loop-i.invariant.same;
      pushed = accesses_go_on i c.args.pairs.now.items c.loop-i.pairs.items c.push_word.new.pairs.items _ xs ys _ _ l (omega (arith, count, l)) c.loop-i.invariant.pushed c.in_ok-push_word.ensures.pushed c.in_ok-push_bytes.ensures.pushed;
      alike = λ w ts us a p q.
          let bytes = c.in_ok-push_bytes.ensures.alike w a in
          let words = (c.in_ok-push_word.ensures.alike w).0 bytes.0 in
          let before = c.loop-i.invariant.alike w ts us words.0 p q in
          (before.0, one_more (λ k. get_or ts k no_access ≡ get_or us k no_access) i before.1 (access_same w i xs ys _ _ ts us l (omega (arith, count, l)) c.loop-i.invariant.shapes p q words.1 bytes.1));
      owned = λ m o p q. c.in_ok-push_bytes.ensures.owned m
          (c.in_ok-push_word.ensures.owned m (c.loop-i.invariant.owned m o p q) (address_owned i m xs _ l (p.address i l)) (address_owned i m ys _ (omega (arith, count, l)) (q.address i (omega (arith, count, l)))))
          (stored_owned i m xs _ l (p.stored i l)) (stored_owned i m ys _ (omega (arith, count, l)) (q.stored i (omega (arith, count, l))));
    }

pub returns-clause-alike : goal.returns-clause-alike
returns-clause-alike c = λ e w ts us a p q.
    let r = c.loop-i.invariant.alike w ts us a p q in
    let n = p.count in
    let whole : c.loop-i.i ≡ length c.args.xs.now = omega arith in
    (r.0, ext_get_or no_access ts us (sym p.count ∙ c.loop-i.invariant.count ∙ q.count) (λ k l. r.1 k (omega (arith, whole, n, l))))
