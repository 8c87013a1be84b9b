use Rattle.std.proofs.Common.{◌≡◌, ◌++◌, ◌∷◌, [], sym, ap, subst, ◌∙◌, arith, drop, false, ◌+◌}
use Rattle.std.specs.List.{AllByRecursion}
use Rattle.std.proofs.lemmas.Bool.{false≢true}
use Rattle.rule_body.specs.Prelude.{numbers, AreNumbered, IsWindow, guests_of}
use Rattle.rule_body.proofs.Guests.{length-guests}
use Rattle.rule_form.proofs.Windows.{window-more}
use Rattle.rule_form.proofs.Growing.{three-are-full, goes-no-further, no-word, meets, accesses-counted, counted-accesses, too-many, straight-so-far, access-fits, parameters-more, clear-set}
use Rattle.rule_form.proofs.window.with_guest.Goals as goal

pub returns-then-goal-ge3 : goal.returns-then-goal-ge3
returns-then-goal-ge3 c = λ f.
    let n = length-guests c.args.goal.words c.args.goal.free c.args.goal.count (omega arith) (omega arith) in
    three-are-full (guests_of c.args.goal) c.args.guest (omega (arith, n, c.if-goal-ge3.true)) f

pub returns-then-is_ended : goal.returns-then-is_ended
returns-then-is_ended c = goes-no-further (guests_of c.args.goal) c.requires.window c.args.guest c.requires.is (c.is_ended.ensures.0 c.if-is_ended.true)

pub returns-in_default : goal.returns-in_default
returns-in_default c = no-word (guests_of c.args.goal) c.args.guest (λ i w. c.in_default.not-Some i (c.decode.ensures.only i w))

pub returns-then-not-may_stand : goal.returns-then-not-may_stand
returns-then-not-may_stand c = λ f.
    let k = meets (guests_of c.args.goal) c.requires.window c.args.guest c.in-Some.instr c.requires.is c.in-Some.ensures.found f in
    false≢true (sym c.if-not-may_stand.true ∙ c.may_stand.ensures ∙ k.row)

pub returns-then-is_second : goal.returns-then-is_second
returns-then-is_second c = λ f.
    let k = meets (guests_of c.args.goal) c.requires.window c.args.guest c.in-Some.instr c.requires.is c.in-Some.ensures.found f in
    let s = c.is_second.ensures.0 c.if-is_second.true in
    too-many c.requires.window c.in-Some.instr (accesses-counted (guests_of c.args.goal) c.requires.window c.requires.is.words s.1) s.0 k.access

pub returns-in_default-parameters_after : goal.returns-in_default-parameters_after
returns-in_default-parameters_after c = λ f.
    let k = meets (guests_of c.args.goal) c.requires.window c.args.guest c.in-Some.instr c.requires.is c.in-Some.ensures.found f in
    c.in_default-parameters_after.ensures (subst (λ n. AreNumbered n (numbers c.in-Some.instr)) (sym c.requires.parameters) k.numbered)

pub returns : goal.returns
returns c =
    let gs = guests_of c.args.goal in
    let v = c.requires.window in
    let i = c.in-Some.instr in
    let n = length-guests c.args.goal.words c.args.goal.free c.args.goal.count (omega arith) (omega arith) in
    let a = c.appended.ensures in
    let straight = straight-so-far gs v c.requires.is.words (λ b. false≢true (sym c.if-is_ended.false ∙ c.is_ended.ensures.1 b)) in
    let access = access-fits v i c.requires.is.one_access (λ one some. false≢true (sym c.if-is_second.false ∙ c.is_second.ensures.1 (one, counted-accesses gs v c.requires.is.words (omega (arith, n, c.requires.count)) some))) in
    let more = window-more gs v c.args.guest i c.requires.is (record { word = c.in-Some.ensures.found; row = sym c.may_stand.ensures ∙ c.if-not-may_stand.false }) (omega (arith, n, c.if-goal-ge3.false)) straight access
    (subst (λ k. AreNumbered k (numbers i)) c.requires.parameters c.in-Some-parameters_after.ensures.0) in (
      record {
        count = omega (arith, a.count, c.if-goal-ge3.false);
        words = subst (AllByRecursion (λ w. w ≡ 0)) (sym (ap (λ k. drop k c.appended.result.words) a.count ∙ ap (drop (c.args.goal.count + 1)) a.words)) (clear-set (λ w. w ≡ 0) c.args.goal.words c.args.goal.count c.args.guest.word (omega (arith, c.if-goal-ge3.false)) c.requires.words);
        free = subst (AllByRecursion (λ f. f ≡ false)) (sym (ap (λ k. drop k c.appended.result.free) a.count ∙ ap (drop (c.args.goal.count + 1)) a.free)) (clear-set (λ f. f ≡ false) c.args.goal.free c.args.goal.count c.args.guest.free (omega (arith, c.if-goal-ge3.false)) c.requires.free);
        window = v ++ i ∷ [];
        is = subst (λ l. IsWindow l (v ++ i ∷ [])) (sym a.guests) more;
        parameters = a.parameters ∙ parameters-more v i c.args.goal.parameters c.in-Some-parameters_after.parameters c.requires.parameters c.in-Some-parameters_after.ensures.1;
      },
      a.guests,
    )
