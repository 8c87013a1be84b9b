-- Literals are assumed one after the other in a search.
use Rattle.std.proofs.Common.{◌≡◌, ◌⊎◌, ℕ, ◌<◌, ◌≤◌, ◌+◌, true, false, List, [], ◌∷◌, ◌++◌, ℤ, pos, neg_ℤ, length, take, get_or, refl, sym, subst, ap, ◌∙◌, arith, Option, None, Some, min}
use Rattle.std.specs.Option.{is_some}
use Rattle.std.proofs.lemmas.Bool.{false≢true}
use Rattle.std.specs.List.{All}
use Rattle.std.proofs.Math.IntN.{neg_ℤ-neg_ℤ}
use Rattle.watched_literals.proofs.Trails.{neg-literal, Contains-nil}
use Rattle.watched_literals.specs.Prelude.{code, IsWithin, IsReady, IsAbove}
use Rattle.word_kit.specs.Prelude.{IsFormula, AreClauses}
use Rattle.sat_core.specs.Prelude.{IsClosedUnder, IsGained, IsLiteralOf, IsVariable, Leads, IsLesson, known, room_for, IsSearching, IsRooted, IsConflict, Keeps, Reaches, Restarts, IsTaught, Search}
use Rattle.sat_core.proofs.Turns.{rooted-above, rooted-complete, rooted-closed}
use Rattle.sat_core.proofs.Chosen.{leads-start, leads-on, leads-weaker, leads-stopped, literal-split, literals-all, variable-split, variables-all}

abbrev room : Search → ℕ
room s = s.propagator.trail.room

pub within-neg : (n : ℕ) (literal : ℤ) → IsWithin n literal → IsWithin n (neg_ℤ literal)
within-neg n literal h = record {
  is_literal = neg-literal literal h.is_literal;
  code_in = h.opposite_in;
  opposite_in = subst (λ l. code l < n) (sym (neg_ℤ-neg_ℤ literal)) h.code_in;
}

pub some-none : (x : ℤ) → Some x ≡ None → ⊥
some-none x e = cc

pub known-kept : (a b : Search) → b.formula.now ≡ a.formula.now → b.steps.items ≡ a.steps.items → known b ≡ known a
known-kept a b e f = ap (λ g. g.clauses ++ b.steps.items) e ∙ ap (λ ss. a.formula.now.clauses ++ ss) f

keeps-on : (a b c : Search) → Keeps a b → Keeps b c → Keeps a c
keeps-on a b c g h = record {
  formula = h.formula ∙ g.formula;
  steps = h.steps ∙ g.steps;
  room = h.room ∙ g.room;
  above = λ root k. subst (λ cs. IsAbove cs root c.propagator) e (h.above root (subst (λ cs. IsAbove cs root b.propagator) (sym e) (g.above root k)));
}
  where
    e : known b ≡ known a
    e = known-kept a b g.formula g.steps

pub reaches-start : (wanted : ℤ → Type 0) (a : Search) → ((x : ℤ) → wanted x → ⊥) → IsSearching a → Reaches wanted a a None
reaches-start wanted a none h = record {
  keeps = record { formula = refl; steps = refl; room = refl; above = λ root k. k };
  within = h.within;
  complete = λ e. h.complete;
  leads = leads-start (known a) wanted a.propagator.trail.literals a.assumed.items h.closed (λ x m. absurd (none x m));
}

pub none-of : (n : ℕ) (x : ℤ) → IsLiteralOf n [] x → ⊥
none-of n x m = Contains-nil x m.0

pub no-variable : (x : ℤ) → IsVariable 0 x → ⊥
no-variable x m = omega (arith, m.2, m.3)

pub reaches-on : (before here after : ℤ → Type 0) (a b c : Search) (last : Option ℤ) → ((x : ℤ) → after x → before x ⊎ here x)
    → Reaches before a b None → Reaches here b c last → Reaches after a c last
reaches-on before here after a b c last split h k = record {
  keeps = keeps-on a b c h.keeps k.keeps;
  within = subst (λ n. All (IsWithin n) c.assumed.items) h.keeps.room k.within;
  complete = k.complete;
  leads = leads-on (known a) before here after a.propagator.trail.literals b.propagator.trail.literals c.propagator.trail.literals b.assumed.items c.assumed.items last
      split h.leads (subst (λ cs. Leads cs here b.propagator.trail.literals c.propagator.trail.literals c.assumed.items last)
      (known-kept a b h.keeps.formula h.keeps.steps) k.leads);
}

pub searching-on : (wanted : ℤ → Type 0) (a b : Search) → IsSearching a → Reaches wanted a b None → IsSearching b
searching-on wanted a b s h = record {
  above = (s.above.0, subst (λ cs. IsAbove cs s.above.0 b.propagator) (sym e) (h.keeps.above s.above.0 s.above.1));
  complete = h.complete refl;
  closed = subst (λ cs. IsClosedUnder cs b.assumed.items b.propagator.trail.literals) (sym e) h.leads.0;
  within = subst (λ n. All (IsWithin n) b.assumed.items) (sym h.keeps.room) h.within;
  room = h.keeps.room ∙ s.room ∙ ap (λ g. room_for g.variables) (sym h.keeps.formula);
}
  where
    e : known b ≡ known a
    e = known-kept a b h.keeps.formula h.keeps.steps

pub reaches-weaker : (wanted wanted' : ℤ → Type 0) (a b : Search) (last : Option ℤ) → ((x : ℤ) → wanted' x → wanted x) → Reaches wanted a b last → Reaches wanted' a b last
reaches-weaker wanted wanted' a b last less h = record {
  keeps = h.keeps;
  within = h.within;
  complete = h.complete;
  leads = leads-weaker (known a) wanted wanted' a.propagator.trail.literals b.propagator.trail.literals b.assumed.items last less h.leads;
}

pub reaches-stopped : (wanted wanted' : ℤ → Type 0) (a b : Search) (last : Option ℤ) → is_some last ≡ true → Reaches wanted a b last → Reaches wanted' a b last
reaches-stopped wanted wanted' a b last some h = record {
  keeps = h.keeps;
  within = h.within;
  complete = h.complete;
  leads = leads-stopped (known a) wanted wanted' a.propagator.trail.literals b.propagator.trail.literals b.assumed.items last some h.leads;
}

pub reaches-going : (wanted : ℤ → Type 0) (a b : Search) (last : Option ℤ) → is_some last ≡ false → Reaches wanted a b last → Reaches wanted a b None
reaches-going wanted a b None e h = h
reaches-going wanted a b (Some last) e h = absurd (false≢true (sym e))

pub reaches-next : (numbers : List ℤ) (a b c : Search) (n : ℕ) (literal : ℤ) (last : Option ℤ) → n < length numbers → literal ≡ get_or numbers n literal
    → Reaches (IsLiteralOf a.propagator.trail.room (take n numbers)) a b None → Reaches (IsLiteralOf b.propagator.trail.room (literal ∷ [])) b c last
    → Reaches (IsLiteralOf a.propagator.trail.room (take (n + 1) numbers)) a c last
reaches-next numbers a b c n literal last within is h k =
    reaches-on (IsLiteralOf (room a) (take n numbers)) (IsLiteralOf (room a) (literal ∷ [])) (IsLiteralOf (room a) (take (n + 1) numbers)) a b c last
    (literal-split (room a) numbers n literal within is) h (subst (λ r. Reaches (IsLiteralOf r (literal ∷ [])) b c last) h.keeps.room k)

pub reaches-all : (numbers : List ℤ) (a b : Search) (n : ℕ) → length numbers ≤ n → Reaches (IsLiteralOf a.propagator.trail.room (take n numbers)) a b None
    → Reaches (IsLiteralOf a.propagator.trail.room numbers) a b None
reaches-all numbers a b n low h =
    reaches-weaker (IsLiteralOf (room a) (take n numbers)) (IsLiteralOf (room a) numbers) a b None (literals-all (room a) numbers n low) h

pub reaches-variable : (a b c : Search) (n : ℕ) (literal : ℤ) (last : Option ℤ) → literal ≡ pos (n + 1) → IsWithin a.propagator.trail.room literal
    → Reaches (IsVariable n) a b None → Reaches (IsLiteralOf b.propagator.trail.room (literal ∷ [])) b c last → Reaches (IsVariable (n + 1)) a c last
reaches-variable a b c n literal last is within h k =
    reaches-on (IsVariable n) (IsLiteralOf (room a) (literal ∷ [])) (IsVariable (n + 1)) a b c last
    (variable-split (room a) n literal is within) h (subst (λ r. Reaches (IsLiteralOf r (literal ∷ [])) b c last) h.keeps.room k)

pub reaches-variables : (a b : Search) (n last : ℕ) → min last 2147483647 ≤ n → Reaches (IsVariable n) a b None → Reaches (IsVariable last) a b None
reaches-variables a b n last low h = reaches-weaker (IsVariable n) (IsVariable last) a b None (variables-all n last low) h

-- ---- back at the root

pub taught-back : (root : ℕ) (last : ℤ) (a d e : Search) (clause : List ℤ) → IsConflict root last a → Restarts root a d
    → e.formula.now ≡ d.formula.now → e.steps.items ≡ d.steps.items → e.assumed.items ≡ d.assumed.items → e.propagator.trail.room ≡ d.propagator.trail.room
    → IsReady (known a) e.propagator → IsLesson (known a) clause → All (IsWithin d.propagator.trail.room) clause → IsTaught a e clause
taught-back root last a d e clause k b f s bare room_is ready lesson within = record {
  lesson = lesson;
  within = subst (λ n. All (IsWithin n) clause) b.room within;
  rooted = record {
    ready = subst (λ cs. IsReady cs e.propagator) (sym (known-kept a e (f ∙ b.formula) (s ∙ b.steps))) ready;
    bare = bare ∙ b.bare;
    room = room_is ∙ b.room ∙ k.room ∙ ap (λ g. room_for g.variables) (sym (f ∙ b.formula));
    formula = subst IsFormula (sym (f ∙ b.formula)) k.formula;
    literals = subst AreClauses (sym (s ∙ b.steps)) k.literals;
  };
  formula = f ∙ b.formula;
  steps = s ∙ b.steps;
}

-- ---- from the root to a conflict

pub rooted-searching : (a : Search) → IsRooted a → a.propagator.refuted ≡ false → IsSearching a
rooted-searching a r open_root = record {
  above = (a.propagator.trail.literals, above);
  complete = rooted-complete (known a) a.propagator.trail.literals a.propagator refl above;
  closed = rooted-closed (known a) a.propagator.trail.literals a.assumed.items a.propagator refl r.bare above;
  within = subst (All (IsWithin (room a))) (sym r.bare) (λ k d inside. absurd (omega (arith, inside)));
  room = r.room;
}
  where
    above : IsAbove (known a) a.propagator.trail.literals a.propagator
    above = rooted-above (known a) a.propagator open_root r.ready

pub conflict-of : (root : ℕ) (wanted : ℤ → Type 0) (a b : Search) (last : ℤ) → root ≡ length a.propagator.trail.literals → IsRooted a
    → a.propagator.refuted ≡ false → Reaches wanted a b (Some last) → IsConflict root last b
conflict-of root wanted a b last at r open_root h = record {
  above = (
    a.propagator.trail.literals,
    at,
    subst (λ cs. IsAbove cs a.propagator.trail.literals b.propagator) (sym e)
        (h.keeps.above a.propagator.trail.literals (rooted-above (known a) a.propagator open_root r.ready)),
  );
  gained = subst (λ cs. IsGained cs b.assumed.items last) (sym e) h.leads.0;
  within = subst (λ n. All (IsWithin n) b.assumed.items) (sym h.keeps.room) h.within;
  room = h.keeps.room ∙ r.room ∙ ap (λ g. room_for g.variables) (sym h.keeps.formula);
  formula = subst IsFormula (sym h.keeps.formula) r.formula;
  literals = subst AreClauses (sym h.keeps.steps) r.literals;
}
  where
    e : known b ≡ known a
    e = known-kept a b h.keeps.formula h.keeps.steps

pub taught-kept : (a b c : Search) (clause : List ℤ) → Keeps a b → IsTaught b c clause → IsTaught a c clause
taught-kept a b c clause k t = record {
  lesson = subst (λ cs. IsLesson cs clause) (known-kept a b k.formula k.steps) t.lesson;
  within = subst (λ n. All (IsWithin n) clause) k.room t.within;
  rooted = t.rooted;
  formula = t.formula ∙ k.formula;
  steps = t.steps ∙ k.steps;
}
