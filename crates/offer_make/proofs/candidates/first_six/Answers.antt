use Rattle.std.proofs.Common.{inl, inr, sym, ap, ◌∙◌, take, get_or, arith}
use Rattle.std.proofs.lemmas.Bool.{false≢true}
use Rattle.std.proofs.lemmas.List.{take_more}
use Rattle.offer_make.proofs.Firsts.{has, six_of, six-kept, six-pushed, has-to, has-from}
use Rattle.offer_make.proofs.candidates.first_six.Goals as goal
use Rattle.offer_make.proofs.candidates.first_six.Goals.{then-len-lt6+then-not-is_among+in_ok-push, else-len-lt6, else-len-lt6-via-then-len-lt6+else-not-is_among, else-len-lt6-via-else-len-lt6}

pub loop-gpr-preserved : goal.loop-gpr-preserved
loop-gpr-preserved c =
    let gprs = c.args.gprs.now in
    let at = c.loop-gpr.gpr-index in
    let xs = take at gprs in
    let six = c.loop-gpr.six.items in
    let more = ap six_of (take_more gprs at 0 (omega arith)) in
    elim c.if-len-lt6.branch [
      | then-len-lt6+then-not-is_among+in_ok-push w ↦
          ap (λ v. v.items) w.six-is ∙ w.in_ok-push.ensures.items
          ∙ six-pushed xs six (get_or gprs at 0) c.loop-gpr.invariant (omega (arith, w.if-len-lt6.true, c.len.ensures))
          (λ k. false≢true (sym w.if-not-is_among.true ∙ w.is_among.ensures ∙ ap (λ l. has l (get_or gprs at 0)) w.as_slice.ensures.value ∙ has-from six (get_or gprs at 0) k)) ∙ sym more
      | else-len-lt6 w ↦ ap (λ v. v.items) w.six-is ∙ elim w.else-len-lt6.branch [
        | else-len-lt6-via-then-len-lt6+else-not-is_among v ↦
            six-kept xs six _ c.loop-gpr.invariant (inr (has-to six (get_or gprs at 0) (sym (ap (λ l. has l (get_or gprs at 0)) v.as_slice.ensures.value) ∙ sym v.is_among.ensures ∙ v.if-not-is_among.false))) ∙ sym more
        | else-len-lt6-via-else-len-lt6 v ↦ six-kept xs six _ c.loop-gpr.invariant (inl (omega (arith, v.if-len-lt6.false, c.len.ensures))) ∙ sym more
      ]
    ]
