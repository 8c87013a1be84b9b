use Rattle.std.proofs.Common.{◌≡◌, ◌≢◌, ℕ, zero, suc, ◌<◌, ◌≤◌, List, [], ◌∷◌, length, map, get_or, drop, decimal, ap, arith, Bor}
use Rattle.plan_form.specs.Prelude.{AreWrittenLabels}
use Rattle.plan_form.proofs.line.numbers_of.Goals as goal

-- a word that is no number isn't among those of numbers
number-at : (ws : List (Bor (List ℕ))) (ns : List ℕ) (i : ℕ) (d : Bor (List ℕ)) → AreWrittenLabels ns → map (λ w. w.now) ws ≡ map decimal ns → i < length ws
    → ((n : ℕ) → n ≤ 4294967295 → (get_or ws i d).now ≢ decimal n) → ⊥
number-at [] ns i d h e below none = absurd (omega (arith, below))
number-at (w ∷ ws) [] i d h e below none = absurd (let f = ap length e in omega (arith, f))
number-at (w ∷ ws) (n ∷ ns) zero d h e below none = none n (omega (arith, h.0)) (ap (λ l. get_or l 0 []) e)
number-at (w ∷ ws) (n ∷ ns) (suc i) d h e below none = number-at ws ns i d h.1 (ap (drop 1) e) (omega (arith, below)) none

pub returns-in_default : goal.returns-in_default
returns-in_default c = λ ns h e. number-at c.args.words.now ns c.loop-word.word-index _ h e c.loop-word-test.true c.in_default.ensures
