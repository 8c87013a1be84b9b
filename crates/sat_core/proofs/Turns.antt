-- A search, and the way back from it.
use Rattle.std.proofs.Common.{◌≡◌, ℕ, ◌≤◌, true, false, List, [], ◌∷◌, ◌++◌, ℤ, length, sym, subst, ap, ◌∙◌, ◌≢◌, arith, length-append, append-nil}
use Rattle.std.specs.List.{All}
use Rattle.std.proofs.lemmas.List.Elements.{All-push}
use Rattle.word_kit.specs.Prelude.{IsLiteral, AreClauses}
use Rattle.watched_literals.specs.Prelude.{IsWithin, IsReady, IsAbove, IsComplete, AllWatched}
use Rattle.watched_literals.proofs.Trails.{Contains-nil}
use Rattle.watched_literals.specs.declared.propagator.Propagator.{Propagator}
use Rattle.watched_literals.proofs.Knowing.{open-at, refuted-at, known-settled}
use Rattle.sat_core.specs.Prelude.{IsLesson, AreLearned, IsRefuted, IsClosedUnder}
use Rattle.sat_core.proofs.Learned.{learned-more, refuted-end}

-- ---- the root

-- nothing is assumed above the root
pub rooted-above : (known : List (List ℤ)) (s : Propagator) → s.refuted ≡ false → IsReady known s → IsAbove known s.trail.literals s
rooted-above known s e ready = record { open_root = e; base = open-at known s e ready; above = ([], sym (append-nil s.trail.literals)) }

pub rooted-complete : (known : List (List ℤ)) (root : List ℤ) (s : Propagator) → s.trail.literals ≡ root → IsAbove known root s → IsComplete s
rooted-complete known root s e h = subst (λ xs. AllWatched s.clauses.items s.pairs.items xs xs) (sym e) h.base.watched

pub rooted-closed : (known : List (List ℤ)) (root assumed : List ℤ) (s : Propagator) → s.trail.literals ≡ root → assumed ≡ [] → IsAbove known root s
    → IsClosedUnder known assumed s.trail.literals
rooted-closed known root assumed s e f h =
    subst (IsClosedUnder known assumed) (sym e) (subst (λ xs. IsClosedUnder known xs root) (sym f) (record {
      made = h.base.made;
      consistent = h.base.consistent;
      settled = known-settled s known root root h.base.stored h.base.watched h.base.held (λ x m. m);
      denied = λ x m. Contains-nil x m;
    }))

pub within-literals : (room : ℕ) (clause : List ℤ) → All (IsWithin room) clause → All IsLiteral clause
within-literals room clause h k d inside = (h k d inside).is_literal

-- ---- steps

pub pushed-clauses : (steps steps' : List (List ℤ)) (clause : List ℤ) → steps' ≡ steps ++ clause ∷ [] → AreClauses steps → All IsLiteral clause → AreClauses steps'
pushed-clauses steps steps' clause e cs ls = subst AreClauses (sym e) (All-push (All IsLiteral) steps clause cs ls)

pub pushed-within : (steps steps' : List (List ℤ)) (clause : List ℤ) (n limit : ℕ) → steps' ≡ steps ++ clause ∷ [] → n ≡ length steps
    → length steps ≤ limit → n ≢ limit → length steps' ≤ limit
pushed-within steps steps' clause n limit e at within ne =
    omega (arith, ap length e, length-append steps (clause ∷ []), at, within, ne)

pub pushed-learned : (formula steps steps' : List (List ℤ)) (clause : List ℤ) → steps' ≡ steps ++ clause ∷ []
    → AreLearned formula steps → IsLesson (formula ++ steps) clause → AreLearned formula steps'
pushed-learned formula steps steps' clause e h lesson = subst (AreLearned formula) (sym e) (learned-more formula steps clause h lesson)

pub ended : (formula steps log : List (List ℤ)) (limit : ℕ) (s : Propagator) (pushed : List ℤ) → log ≡ steps ++ pushed ∷ []
    → pushed ≡ [] → s.refuted ≡ true → IsReady (formula ++ steps) s → AreLearned formula steps → length steps ≤ limit → AreClauses steps
    → IsRefuted formula limit log
ended formula steps log limit s pushed e f is ready h within literals =
    subst (IsRefuted formula limit) (sym (e ∙ ap (λ x. steps ++ x ∷ []) f))
    (refuted-end formula steps limit h within (refuted-at (formula ++ steps) s is ready) literals)
