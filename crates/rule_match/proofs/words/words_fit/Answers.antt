use Rattle.std.proofs.Common.{◌≡◌, ℕ, ◌+◌, ◌<◌, ◌≤◌, ◌⊎◌, ⊎_elim, false, Some, length, get_or, slice_get, refl, sym, ap, ◌∙◌, subst, arith}
use Rattle.std.proofs.lemmas.Bool.{cases_lt, false≢true}
use Rattle.std.proofs.lemmas.Option.{slice_get-get_or, get_or_from_slice_get, slice_get_within}
use Rattle.rule_body.specs.declared.goal.Guest.{Guest}
use Rattle.rule_body.specs.Prelude.{guests_of}
use Rattle.rule_body.proofs.Guests.{guest-at, length-guests}
use Rattle.rule_match.specs.Matching.{IsLaidWord}
use Rattle.rule_match.proofs.Windows.{laid_at, laid_all, none_or_some, same_some}
use Rattle.rule_match.proofs.words.words_fit.Goals as goal

pub returns-in_default : goal.returns-in_default
returns-in_default c =
    let goal = c.args.goal.now in
    let tidy = c.requires.goal.tidy in
    absurd (none_or_some _ (sym c.in_default.is ∙ c.guest_at.ensures ∙ sym (guest-at goal.words goal.free goal.count c.loop-place.place false (omega arith) (omega (arith, tidy.count)) (omega arith))))

pub returns-then-not-word_fits : goal.returns-then-not-word_fits
returns-then-not-word_fits c =
    let window = c.args.window.now in
    let place = c.loop-place.place in (
      λ e. absurd (false≢true e),
      λ are. sym c.if-not-word_fits.true ∙ c.word_fits.ensures.1 (laid_at c.args.binding.now (guests_of c.args.goal.now) window are place c.in-Some.guest (get_or window place 0)
          (sym c.guest_at.ensures ∙ c.in-Some.is) (slice_get-get_or window place 0 (omega (arith, c.requires.length)))),
    )

pub loop-place-preserved : goal.loop-place-preserved
loop-place-preserved c = λ k g w lt e d. ⊎_elim (λ below. c.loop-place.invariant k g w below e d) (λ past. here k g w (omega (arith, lt, past)) e d) (cases_lt k c.loop-place.place)
  where
    here : (k : ℕ) (g : Guest) (w : ℕ) → k ≡ c.loop-place.place → slice_get (guests_of c.args.goal.now) k ≡ Some g → slice_get c.args.window.now k ≡ Some w → IsLaidWord c.args.binding.now g w
    here k g w same e d =
        let guest : c.in-Some.guest ≡ g = same_some c.in-Some.guest g (sym c.in-Some.is ∙ c.guest_at.ensures ∙ ap (slice_get (guests_of c.args.goal.now)) (sym same) ∙ e) in
        let word : get_or c.args.window.now c.loop-place.place 0 ≡ w = ap (λ n. get_or c.args.window.now n 0) (sym same) ∙ get_or_from_slice_get c.args.window.now k w 0 d in
        subst (λ x. IsLaidWord c.args.binding.now x w) guest (subst (λ x. IsLaidWord c.args.binding.now c.in-Some.guest x) word (c.word_fits.ensures.0 c.if-not-word_fits.false))

pub returns : goal.returns
returns c =
    let goal = c.args.goal.now in
    let tidy = c.requires.goal.tidy in
    let many = length-guests goal.words goal.free goal.count (omega (arith, tidy.count)) (omega arith) in (
      λ _. laid_all c.args.binding.now (guests_of goal) c.args.window.now (omega (arith, many, c.requires.length))
          (λ k g w e d. c.loop-place.invariant k g w (let lt = slice_get_within c.args.window.now k w d in omega (arith, lt, c.requires.length, c.loop-place-test.false)) e d),
      λ _. refl,
    )
