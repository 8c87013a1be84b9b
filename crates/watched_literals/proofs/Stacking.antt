-- Levels: one more, fewer, and one more clause.
use Rattle.std.proofs.Common.{◌≡◌, ◌⊎◌, inl, inr, ℕ, ◌<◌, ◌≤◌, Bool, true, false, List, [], ◌∷◌, ◌++◌, ℤ, neg_ℤ, length, take, get_or, refl, sym, subst, ap, ◌∙◌, arith, length-append, append-nil, true≢false, ◌+◌}
use Rattle.std.proofs.lemmas.Bool.{cases_lt}
use Rattle.std.specs.List.{Contains}
use Rattle.std.proofs.lemmas.List.{take-append-le, take-take, take_all, length-take-le, get_or-take, get_or_append_left}
use Rattle.std.proofs.Math.Seq.{get_or-append_seam}
use Rattle.watched_literals.specs.Prelude.{HasConflict, Extends, Propagator, AllWatched, IsComplete, StaysWatched, IsAbove, IsReady, Implies, Levels, AreStacked, IsLeveled, IsWatchedAt}
use Rattle.watched_literals.proofs.Trails.{Contains-take}
use Rattle.watched_literals.proofs.Knowing.{open-of, of-open, refuted-of, of-refuted, open-at, refuted-at}

abbrev start : Levels → ℕ → ℕ
start l level = get_or l.starts.items level 0

pub stacked-at : (known : List (List ℤ)) (l : Levels) → l.propagator.refuted ≡ false → IsLeveled known l → AreStacked known l
stacked-at known l e h = open-of l.propagator.refuted (HasConflict known []) (AreStacked known l) e h

pub leveled-of : (known : List (List ℤ)) (l : Levels) → l.propagator.refuted ≡ false → AreStacked known l → IsLeveled known l
leveled-of known l e h = of-open l.propagator.refuted (HasConflict known []) (AreStacked known l) e h

-- what is known of both where the root isn't refuted
pub leveled-on : (known known' : List (List ℤ)) (old new : Levels) → new.propagator.refuted ≡ old.propagator.refuted
    → (HasConflict known [] → HasConflict known' []) → (old.propagator.refuted ≡ false → AreStacked known old → AreStacked known' new)
    → IsLeveled known old → IsLeveled known' new
leveled-on known known' old new same refuted stacked h = go old.propagator.refuted refl
  where
    go : (b : Bool) → old.propagator.refuted ≡ b → IsLeveled known' new
    go true e = of-refuted new.propagator.refuted (HasConflict known' []) (AreStacked known' new) (same ∙ e)
        (refuted (refuted-of old.propagator.refuted (HasConflict known []) (AreStacked known old) e h))
    go false e = leveled-of known' new (same ∙ e) (stacked e (stacked-at known old e h))

-- the invariant of watches stays at the start of a level
watched-on : (old new : Propagator) (n : ℕ) → n ≤ length old.trail.literals → Extends old.trail.literals new.trail.literals
    → (AllWatched old.clauses.items old.pairs.items (take n old.trail.literals) (take n old.trail.literals)
    → AllWatched new.clauses.items new.pairs.items (take n old.trail.literals) (take n old.trail.literals)) → IsWatchedAt old n → IsWatchedAt new n
watched-on old new n within e stays h =
    subst (λ xs. AllWatched new.clauses.items new.pairs.items xs xs) (sym (ap (take n) e.1 ∙ take-append-le n old.trail.literals e.0 within)) (stays h)

watched-whole : (s : Propagator) (n : ℕ) → n ≡ length s.trail.literals → IsComplete s → IsWatchedAt s n
watched-whole s n at h = subst (λ xs. AllWatched s.clauses.items s.pairs.items xs xs) (sym (take_all n s.trail.literals (omega (arith, at)))) h

extends-longer : (old new : List ℤ) → Extends old new → length old ≤ length new
extends-longer old new e = omega (arith, ap length e.1, length-append old e.0)

-- nothing is decided
pub leveled-root : (known : List (List ℤ)) (l : Levels) → l.root ≡ length l.propagator.trail.literals → l.starts.items ≡ [] → IsReady known l.propagator
    → IsLeveled known l
leveled-root known l at bare ready = go l.propagator.refuted refl
  where
    none : {P : Type 0} (level : ℕ) → level < length l.starts.items → P
    none level within = absurd (omega (arith, within, ap length bare))

    go : (b : Bool) → l.propagator.refuted ≡ b → IsLeveled known l
    go true e = of-refuted l.propagator.refuted (HasConflict known []) (AreStacked known l) e (refuted-at known l.propagator e ready)
    go false e =
        let o = open-at known l.propagator e ready in
        leveled-of known l e (record {
          above = (l.propagator.trail.literals, at, record { open_root = e; base = o; above = ([], sym (append-nil l.propagator.trail.literals)) });
          behind_root = λ level within. none level within;
          within = λ level within. none level within;
          ordered = λ low high le within. none high within;
          watched = λ level within. none level within;
          complete = λ is. o.watched;
        })

-- one level more
module _ (known : List (List ℤ)) (old new : Levels) (first : ℕ) (at : first ≡ length old.propagator.trail.literals) (roots : new.root ≡ old.root)
    (pushed : new.starts.items ≡ old.starts.items ++ first ∷ []) (going : old.is_failed ≡ false)
    (extends : Extends old.propagator.trail.literals new.propagator.trail.literals) (stays : StaysWatched old.propagator new.propagator)
    (above : (root : List ℤ) → IsAbove known root old.propagator → IsAbove known root new.propagator)
    (complete : new.is_failed ≡ false → IsComplete new.propagator) (h : AreStacked known old) where
  place : (level : ℕ) → level < length new.starts.items
      → ((level < length old.starts.items) × (start new level ≡ start old level)) ⊎ ((level ≡ length old.starts.items) × (start new level ≡ first))
  place level within = elim (cases_lt level (length old.starts.items)) [
    | inl less ↦ inl (less, ap (λ xs. get_or xs level 0) pushed ∙ get_or_append_left old.starts.items (first ∷ []) 0 level less)
    | inr past ↦
        let e : level ≡ length old.starts.items = omega (arith, within, past, ap length pushed, length-append old.starts.items (first ∷ [])) in
        inr (e, ap (λ xs. get_or xs level 0) pushed ∙ ap (λ k. get_or (old.starts.items ++ first ∷ []) k 0) e ∙ get_or-append_seam old.starts.items first [] 0)
  ]

  longer : length old.propagator.trail.literals ≤ length new.propagator.trail.literals
  longer = extends-longer old.propagator.trail.literals new.propagator.trail.literals extends

  stays-at : (n : ℕ) → n ≤ length old.propagator.trail.literals → IsWatchedAt old.propagator n → IsWatchedAt new.propagator n
  stays-at n within = watched-on old.propagator new.propagator n within extends
      (stays (take n old.propagator.trail.literals) (λ x m. Contains-take old.propagator.trail.literals n x m))

  pub stacked-decided : AreStacked known new
  stacked-decided = record {
    above = (h.above.0, roots ∙ h.above.1, above h.above.0 h.above.2);
    behind_root = λ level within. elim (place level within) [
      | inl k ↦ omega (arith, roots, k.1, h.behind_root level k.0)
      | inr k ↦ omega (arith, roots, k.1, at, h.above.1, extends-longer h.above.0 old.propagator.trail.literals h.above.2.above)
    ];
    within = λ level within. elim (place level within) [
      | inl k ↦ omega (arith, k.1, h.within level k.0, longer)
      | inr k ↦ omega (arith, k.1, at, longer)
    ];
    ordered = λ low high le within. elim (place high within) [
      | inl k ↦ elim (place low (omega (arith, le, within))) [
        | inl j ↦ omega (arith, k.1, j.1, h.ordered low high le k.0)
        | inr j ↦ absurd (omega (arith, k.0, j.0, le))
      ]
      | inr k ↦ elim (place low (omega (arith, le, within))) [
        | inl j ↦ omega (arith, k.1, j.1, at, h.within low j.0)
        | inr j ↦ omega (arith, k.1, j.1)
      ]
    ];
    watched = λ level within. elim (place level within) [
      | inl k ↦ subst (IsWatchedAt new.propagator) (sym k.1) (stays-at (start old level) (h.within level k.0) (h.watched level k.0))
      | inr k ↦ subst (IsWatchedAt new.propagator) (sym k.1)
          (stays-at first (omega (arith, at)) (watched-whole old.propagator first at (h.complete going)))
    ];
    complete = complete;
  }

-- fewer levels
module _ (known : List (List ℤ)) (old new : Levels) (count : ℕ) (less : count < length old.starts.items) (roots : new.root ≡ old.root)
    (kept : new.starts.items ≡ take count old.starts.items)
    (trail : new.propagator.trail.literals ≡ take (get_or old.starts.items count 0) old.propagator.trail.literals)
    (stays : StaysWatched old.propagator new.propagator)
    (above : (root : List ℤ) → length root ≤ get_or old.starts.items count 0 → IsAbove known root old.propagator → IsAbove known root new.propagator)
    (h : AreStacked known old) where
  below : (level : ℕ) → level < length new.starts.items → (level < count) × (start new level ≡ start old level) × (start old level ≤ start old count)
  below level within =
      let k : level < count = omega (arith, within, less, ap length kept, length-take-le count old.starts.items (omega (arith, less))) in (
        k,
        ap (λ xs. get_or xs level 0) kept ∙ get_or-take count old.starts.items level 0 k,
        h.ordered level count (omega (arith, k)) less,
      )

  stays-below : (n : ℕ) → n ≤ start old count → IsWatchedAt old.propagator n → IsWatchedAt new.propagator n
  stays-below n within w =
      subst (λ xs. AllWatched new.propagator.clauses.items new.propagator.pairs.items xs xs)
      (sym (ap (take n) trail ∙ take-take n (start old count) old.propagator.trail.literals within))
      (stays (take n old.propagator.trail.literals) (λ x m. Contains-take old.propagator.trail.literals n x m) w)

  long : length new.propagator.trail.literals ≡ start old count
  long = ap length trail ∙ length-take-le (start old count) old.propagator.trail.literals (h.within count less)

  pub stacked-back : AreStacked known new
  stacked-back = record {
    above = (h.above.0, roots ∙ h.above.1, above h.above.0 (omega (arith, h.above.1, h.behind_root count less)) h.above.2);
    behind_root = λ level within. let k = below level within in omega (arith, roots, k.1, h.behind_root level (omega (arith, k.0, less)));
    within = λ level within. let k = below level within in omega (arith, k.1, k.2, long);
    ordered = λ low high le within.
        let k = below high within in
        let j = below low (omega (arith, le, within)) in
        omega (arith, k.1, j.1, h.ordered low high le (omega (arith, k.0, less)));
    watched = λ level within.
        let k = below level within in
        subst (IsWatchedAt new.propagator) (sym k.1) (stays-below (start old level) k.2 (h.watched level (omega (arith, k.0, less))));
    complete = λ is.
        subst (λ xs. AllWatched new.propagator.clauses.items new.propagator.pairs.items xs xs) (sym trail)
        (stays (take (start old count) old.propagator.trail.literals) (λ x m. Contains-take old.propagator.trail.literals (start old count) x m)
        (h.watched count less));
  }

-- a clause that is unit by what became false at the last level
module _ (known : List (List ℤ)) (clause : List ℤ) (other : ℤ) (old new : Levels) (last : ℕ) (fails : Bool)
    (is_last : last + 1 ≡ length old.starts.items) (late : ¬ Contains (take (get_or old.starts.items last 0) old.propagator.trail.literals) (neg_ℤ other))
    (roots : new.root ≡ old.root) (same : new.starts.items ≡ old.starts.items) (failed : new.is_failed ≡ fails)
    (i : Implies clause other old.propagator new.propagator fails) (h : AreStacked known old) where
  some : last < length old.starts.items
  some = omega (arith, is_last)

  free : (n : ℕ) → n ≤ start old last → ¬ Contains (take n old.propagator.trail.literals) (neg_ℤ other)
  free n within m = late (Contains-take (take (start old last) old.propagator.trail.literals) n (neg_ℤ other)
      (subst (λ xs. Contains xs (neg_ℤ other)) (sym (take-take n (start old last) old.propagator.trail.literals within)) m))

  root-free : ¬ Contains h.above.0 (neg_ℤ other)
  root-free m =
      let e = h.above.2.above in
      free (length h.above.0) (omega (arith, h.above.1, h.behind_root last some))
      (subst (λ xs. Contains xs (neg_ℤ other)) (sym (ap (take (length h.above.0)) e.1 ∙ take-append-le (length h.above.0) h.above.0 e.0 (omega arith)
      ∙ take_all (length h.above.0) h.above.0 (omega arith))) m)

  same-at : (level : ℕ) → level < length new.starts.items → (level < length old.starts.items) × (start new level ≡ start old level)
  same-at level within = (omega (arith, within, ap length same), ap (λ xs. get_or xs level 0) same)

  lengthened : length old.propagator.trail.literals ≤ length new.propagator.trail.literals
  lengthened = extends-longer old.propagator.trail.literals new.propagator.trail.literals i.extends

  pub stacked-implied : AreStacked (known ++ clause ∷ []) new
  stacked-implied = record {
    above = (h.above.0, roots ∙ h.above.1, i.above known h.above.0 h.above.2 root-free);
    behind_root = λ level within. let k = same-at level within in omega (arith, roots, k.1, h.behind_root level k.0);
    within = λ level within. let k = same-at level within in omega (arith, k.1, h.within level k.0, lengthened);
    ordered = λ low high le within.
        let k = same-at high within in
        let j = same-at low (omega (arith, le, within)) in
        omega (arith, k.1, j.1, h.ordered low high le k.0);
    watched = λ level within.
        let k = same-at level within in
        let n = start old level in
        subst (IsWatchedAt new.propagator) (sym k.1) (watched-on old.propagator new.propagator n (h.within level k.0) i.extends
        (i.watched (take n old.propagator.trail.literals) (λ x m. Contains-take old.propagator.trail.literals n x m)
        (free n (h.ordered level last (omega (arith, k.0, is_last)) some))) (h.watched level k.0));
    complete = λ is. i.complete (λ yes. true≢false (sym yes ∙ sym failed ∙ is));
  }
