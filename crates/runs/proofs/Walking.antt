-- A run along a walk, and at the outcomes where a walk stops.
use Rattle.std.proofs.Common.{◌≡◌, ℕ, zero, suc, ◌+◌, ◌≤◌, List, [], ◌∷◌, refl, sym, ap, ◌∙◌, subst, arith}
use Rattle.space.specs.declared.call.End.{End}
use Rattle.space.specs.declared.call.End.TheVariants.{Running, Dry}
use Rattle.space.specs.Reports.{ListedCall, AnswerValue, ended, listed}
use Rattle.runs.specs.Prelude.{Outcome, Asks, Ends, reported, run, After, Along, Walks, stays, walks}

module _ {S : Type 0} (P : S → Type 0) (step : S → Outcome S) where
  -- a run goes on from where a walk leads
  pub run_walk : (j n : ℕ) (answers : List AnswerValue) (s t : S) → Walks P step j s t → run step (j + n) answers s ≡ run step n answers t
  run_walk j n answers s t stays = let e : 0 + n ≡ n = omega arith in ap (λ m. run step m answers s) e
  run_walk j n answers s t (walks {j = i} {t = r} p e w) =
      let sum : suc i + n ≡ suc (i + n) = omega arith in
      ap (λ m. run step m answers s) sum ∙ ap (reported (run step (i + n)) answers) e ∙ run_walk i n answers r t w

  pub along_walk : (j n : ℕ) (answers : List AnswerValue) (s t : S) → Walks P step j s t → Along P step n answers t → Along P step (j + n) answers s
  along_walk j n answers s t stays h = let e : 0 + n ≡ n = omega arith in subst (λ m. Along P step m answers s) (sym e) h
  along_walk j n answers s t (walks {j = i} {t = r} p e w) h =
      let sum : suc i + n ≡ suc (i + n) = omega arith in
      subst (λ m. Along P step m answers s) (sym sum) (p, subst (After (Along P step (i + n)) answers) (sym e) (along_walk i n answers r t w h))

  -- inside a walk the run goes on, and has made no call
  pub run_within : (j n : ℕ) (answers : List AnswerValue) (s t : S) → Walks P step j s t → n ≤ j → run step n answers s ≡ ended Running
  run_within j zero answers s t w le = refl
  run_within j (suc n) answers s t stays le = absurd (omega arith)
  run_within j (suc n) answers s t (walks {j = i} {t = r} p e w) le = ap (reported (run step n) answers) e ∙ run_within i n answers r t w (omega arith)

  -- one walk behind another
  pub join_walks : (i j : ℕ) (s t u : S) → Walks P step i s t → Walks P step j t u → Walks P step (i + j) s u
  join_walks i j s t u stays w = let e : 0 + j ≡ j = omega arith in subst (λ m. Walks P step m s u) (sym e) w
  join_walks i j s t u (walks {j = k} {t = r} p e v) w =
      let sum : suc k + j ≡ suc (k + j) = omega arith in
      subst (λ m. Walks P step m s u) (sym sum) (walks p e (join_walks k j r t u v w))

module _ {S : Type 0} (step : S → Outcome S) where
  pub run_end : (n : ℕ) (answers : List AnswerValue) (s : S) (e : End) → step s ≡ Ends e → run step (suc n) answers s ≡ ended e
  run_end n answers s e h = ap (reported (run step n) answers) h

  pub run_dry : (n : ℕ) (s : S) (c : ListedCall) (next : AnswerValue → S) → step s ≡ Asks c next → run step (suc n) [] s ≡ listed c (ended Dry)
  run_dry n s c next h = ap (reported (run step n) []) h

  pub run_ask : (n : ℕ) (a : AnswerValue) (answers : List AnswerValue) (s : S) (c : ListedCall) (next : AnswerValue → S) → step s ≡ Asks c next → run step (suc n) (a ∷ answers) s ≡ listed c (run step n answers (next a))
  run_ask n a answers s c next h = ap (reported (run step n) (a ∷ answers)) h
