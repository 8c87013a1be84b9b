-- Refutations whose variables are numbered anew.
use Rattle.std.proofs.Common.{◌≡◌, ℕ, ◌<◌, List, [], ◌++◌, ℤ, neg_ℤ, take, get_or, map, sym, subst, ap, ◌∙◌, Option, None, Some}
use Rattle.std.specs.Option.{MatchOption}
use Rattle.std.proofs.lemmas.List.{map-append, take-map, length-map}
use Rattle.std.proofs.Math.ListN.{get_or-map}
use Rattle.watched_literals.specs.Prelude.{Follows, AreNames, behind}
use Rattle.watched_literals.proofs.Numbers.{behind-keeps, behind-apart}
use Rattle.watched_literals.proofs.Renaming.{follows-numbered, follows-from}
use Rattle.refute_check.specs.Refutations.{StepFollows, StepsFollow, IsFirstBad}

-- a numbering: opposites stay opposites, and no two literals become one
module _ (number : ℤ → ℤ) (keeps : (x : ℤ) → number (neg_ℤ x) ≡ neg_ℤ (number x)) (apart : (x y : ℤ) → number x ≡ number y → x ≡ y)
    (formula steps : List (List ℤ)) where
  known : (place : ℕ) → map (map number) (formula ++ take place steps) ≡ map (map number) formula ++ take place (map (map number) steps)
  known place = map-append (map number) formula (take place steps) ∙ ap (λ xs. map (map number) formula ++ xs) (sym (take-map (map number) place steps))

  step : (place : ℕ) → get_or (map (map number) steps) place [] ≡ map number (get_or steps place [])
  step place = get_or-map (map number) steps place []

  to : (place : ℕ) → StepFollows formula steps place → StepFollows (map (map number) formula) (map (map number) steps) place
  to place h =
      subst (λ cs. Follows cs (get_or (map (map number) steps) place [])) (known place)
      (subst (Follows (map (map number) (formula ++ take place steps))) (sym (step place))
      (follows-numbered number keeps apart (formula ++ take place steps) (get_or steps place []) h))

  from : (place : ℕ) → StepFollows (map (map number) formula) (map (map number) steps) place → StepFollows formula steps place
  from place h =
      follows-from number keeps apart (formula ++ take place steps) (get_or steps place [])
      (subst (Follows (map (map number) (formula ++ take place steps))) (step place)
      (subst (λ cs. Follows cs (get_or (map (map number) steps) place [])) (sym (known place)) h))

  all-follow : StepsFollow formula steps → StepsFollow (map (map number) formula) (map (map number) steps)
  all-follow h place within = to place (h place (subst (λ n. place < n) (length-map steps (map number)) within))

  first-bad : (place : ℕ) → IsFirstBad formula steps place → IsFirstBad (map (map number) formula) (map (map number) steps) place
  first-bad place h = record {
    within = subst (λ n. place < n) (sym (length-map steps (map number))) h.within;
    before = λ earlier less. to earlier (h.before earlier less);
    bad = λ k. h.bad (from place k);
  }

judged-to : (vs : List ℕ) → AreNames vs → (formula steps : List (List ℤ)) (bad : Option ℕ)
    → MatchOption bad (StepsFollow formula steps) (λ place. IsFirstBad formula steps place)
    → MatchOption bad (StepsFollow (map (map (behind vs)) formula) (map (map (behind vs)) steps))
    (λ place. IsFirstBad (map (map (behind vs)) formula) (map (map (behind vs)) steps) place)
judged-to vs names formula steps None h = all-follow (behind vs) (behind-keeps vs names) (behind-apart vs names) formula steps h
judged-to vs names formula steps (Some place) h = first-bad (behind vs) (behind-keeps vs names) (behind-apart vs names) formula steps place h

pub judged-behind : (vs : List ℕ) → AreNames vs → (formula steps formula' steps' : List (List ℤ)) (bad : Option ℕ)
    → map (map (behind vs)) formula' ≡ formula → map (map (behind vs)) steps' ≡ steps
    → MatchOption bad (StepsFollow formula' steps') (λ place. IsFirstBad formula' steps' place)
    → MatchOption bad (StepsFollow formula steps) (λ place. IsFirstBad formula steps place)
judged-behind vs names formula steps formula' steps' bad e f h =
    subst (λ cs. MatchOption bad (StepsFollow cs steps) (λ place. IsFirstBad cs steps place)) e
    (subst (λ ss. MatchOption bad (StepsFollow (map (map (behind vs)) formula') ss) (λ place. IsFirstBad (map (map (behind vs)) formula') ss place)) f
    (judged-to vs names formula' steps' bad h))
