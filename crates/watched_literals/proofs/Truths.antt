-- The array of what is true, as the trail grows and shrinks.
use Rattle.std.proofs.Common.{◌≡◌, ◌⊎◌, inl, inr, ℕ, ◌<◌, ◌≤◌, ◌+◌, ◌-◌, Bool, true, false, List, [], ◌∷◌, ◌++◌, ℤ, pos, negsuc, length, take, set, get_or, refl, sym, subst, ap, ◌∙◌, arith, length-append, replicate}
use Rattle.std.proofs.lemmas.Bool.{cases_lt}
use Rattle.std.specs.List.{All, Contains, list_any}
use Rattle.std.specs.Bool.{Decides}
use Rattle.std.specs.Ordering.{int_eq}
use Rattle.std.proofs.lemmas.List.Elements.{All-contains, All-push, All-take, Contains-append_left, Contains-push, Contains-push_cases}
use Rattle.std.proofs.lemmas.List.{take-append-le, take-take, length-take-le, length-set, length-replicate, get_or-set_same, get_or-set_other, get_or-replicate, get_or_append_left}
use Rattle.std.proofs.Math.Seq.{take-append_seam, get_or-append_seam}
use Rattle.watched_literals.proofs.Trails.{same_or_not, lists}
use Rattle.watched_literals.specs.Prelude.{code, IsWithin, IsTruth}

pub code-injective : (x y : ℤ) → code x ≡ code y → x ≡ y
code-injective (pos n) (pos m) e = let f : n ≡ m = omega (arith, e) in ap pos f
code-injective (pos n) (negsuc m) e = absurd (omega (arith, e))
code-injective (negsuc n) (pos m) e = absurd (omega (arith, e))
code-injective (negsuc n) (negsuc m) e = let f : n ≡ m = omega (arith, e) in ap negsuc f

same-any : (xs zs : List ℤ) (y : ℤ) → (Contains xs y → Contains zs y) → (Contains zs y → Contains xs y)
    → list_any (int_eq y) xs ≡ list_any (int_eq y) zs
same-any xs zs y f g = go (list_any (int_eq y) xs) (list_any (int_eq y) zs) (lists xs y) (lists zs y)
  where
    go : (a b : Bool) → Decides a (Contains xs y) → Decides b (Contains zs y) → a ≡ b
    go true true d e = refl
    go true false d e = sym (e.1 (f (d.0 refl)))
    go false true d e = d.1 (g (e.0 refl))
    go false false d e = refl

pub truth-none : (room : ℕ) → IsTruth (replicate room false) []
truth-none room = record {
  matches = λ l h. get_or-replicate room (code l) false false (omega (arith, h, length-replicate room false));
  apart = λ p h. absurd (omega (arith, h));
  within = λ k d h. absurd (omega (arith, h));
}

pub truth-push : (truth : List Bool) (trail : List ℤ) (l : ℤ) → IsTruth truth trail → IsWithin (length truth) l → list_any (int_eq l) trail ≡ false
    → IsTruth (set truth (code l) true) (trail ++ l ∷ [])
truth-push truth trail l t w fresh = record {
  matches = λ y h. elim (same_or_not y l) [
    | inl e ↦ subst (λ x. get_or (set truth (code l) true) (code x) false ≡ list_any (int_eq x) (trail ++ l ∷ [])) (sym e)
        (get_or-set_same truth (code l) true false w.code_in ∙ sym ((lists (trail ++ l ∷ []) l).1 (Contains-push trail l)))
    | inr ne ↦ get_or-set_other truth (code l) (code y) true false (λ e. ne (code-injective y l e))
        ∙ t.matches y (subst (λ n. code y < n) (length-set truth (code l) true) h)
        ∙ same-any trail (trail ++ l ∷ []) y (Contains-append_left trail (l ∷ []) y)
        (λ m. elim (Contains-push_cases trail l y m) [ inl k ↦ k | inr e ↦ absurd (ne (sym e)) ])
  ];
  apart = λ p h. apart p h (cases_lt p (length trail));
  within = subst (λ n. All (IsWithin n) (trail ++ l ∷ [])) (sym (length-set truth (code l) true)) (All-push (IsWithin (length truth)) trail l t.within w);
}
  where
    apart : (p : ℕ) → p < length (trail ++ l ∷ []) → (p < length trail) ⊎ (length trail ≤ p)
        → list_any (int_eq (get_or (trail ++ l ∷ []) p (pos 0))) (take p (trail ++ l ∷ [])) ≡ false
    apart p h (inl less) =
        let e : get_or (trail ++ l ∷ []) p (pos 0) ≡ get_or trail p (pos 0) = get_or_append_left trail (l ∷ []) (pos 0) p less in
        let f : take p (trail ++ l ∷ []) ≡ take p trail = take-append-le p trail (l ∷ []) (omega arith) in
        ap (λ x. list_any (int_eq x) (take p (trail ++ l ∷ []))) e ∙ ap (list_any (int_eq (get_or trail p (pos 0)))) f ∙ t.apart p less
    apart p h (inr past) =
        let at : p ≡ length trail = omega (arith, h, length-append trail (l ∷ [])) in
        let e : get_or (trail ++ l ∷ []) p (pos 0) ≡ l = ap (λ q. get_or (trail ++ l ∷ []) q (pos 0)) at ∙ get_or-append_seam trail l [] (pos 0) in
        let f : take p (trail ++ l ∷ []) ≡ trail = ap (λ q. take q (trail ++ l ∷ [])) at ∙ take-append_seam trail (l ∷ []) in
        ap (λ x. list_any (int_eq x) (take p (trail ++ l ∷ []))) e ∙ ap (list_any (int_eq l)) f ∙ fresh

pub truth-pop : (truth : List Bool) (rest : List ℤ) (l : ℤ) → IsTruth truth (rest ++ l ∷ []) → IsTruth (set truth (code l) false) rest
truth-pop truth rest l t = record {
  matches = λ y h. elim (same_or_not y l) [
    | inl e ↦ subst (λ x. get_or (set truth (code l) false) (code x) false ≡ list_any (int_eq x) rest) (sym e)
        (get_or-set_same truth (code l) false false w.code_in ∙ sym fresh)
    | inr ne ↦ get_or-set_other truth (code l) (code y) false false (λ e. ne (code-injective y l e))
        ∙ t.matches y (subst (λ n. code y < n) (length-set truth (code l) false) h)
        ∙ sym (same-any rest (rest ++ l ∷ []) y (Contains-append_left rest (l ∷ []) y)
        (λ m. elim (Contains-push_cases rest l y m) [ inl k ↦ k | inr e ↦ absurd (ne (sym e)) ]))
  ];
  apart = λ p h. apart p h;
  within = subst (λ n. All (IsWithin n) rest) (sym (length-set truth (code l) false))
      (subst (All (IsWithin (length truth))) (take-append_seam rest (l ∷ [])) (All-take (IsWithin (length truth)) (length rest) (rest ++ l ∷ []) t.within));
}
  where
    w : IsWithin (length truth) l
    w = All-contains (IsWithin (length truth)) (rest ++ l ∷ []) l t.within (Contains-push rest l)

    fresh : list_any (int_eq l) rest ≡ false
    fresh =
        let e : get_or (rest ++ l ∷ []) (length rest) (pos 0) ≡ l = get_or-append_seam rest l [] (pos 0) in
        let f : take (length rest) (rest ++ l ∷ []) ≡ rest = take-append_seam rest (l ∷ []) in
        sym (ap (λ x. list_any (int_eq x) (take (length rest) (rest ++ l ∷ []))) e ∙ ap (list_any (int_eq l)) f)
        ∙ t.apart (length rest) (omega (arith, length-append rest (l ∷ [])))

    apart : (p : ℕ) → p < length rest → list_any (int_eq (get_or rest p (pos 0))) (take p rest) ≡ false
    apart p less =
        let e : get_or (rest ++ l ∷ []) p (pos 0) ≡ get_or rest p (pos 0) = get_or_append_left rest (l ∷ []) (pos 0) p less in
        let f : take p (rest ++ l ∷ []) ≡ take p rest = take-append-le p rest (l ∷ []) (omega arith) in
        sym (ap (λ x. list_any (int_eq x) (take p (rest ++ l ∷ []))) e ∙ ap (list_any (int_eq (get_or rest p (pos 0)))) f)
        ∙ t.apart p (omega (arith, length-append rest (l ∷ [])))

-- the first literals, one fewer
pub take-fewer : (trail : List ℤ) (n m : ℕ) (now : List ℤ) → now ≡ take n trail → n ≤ length trail → m + 1 ≡ n → take (length now - 1) now ≡ take m trail
take-fewer trail n m now e within less =
    let long : length now ≡ n = ap length e ∙ length-take-le n trail within in
    let at : length now - 1 ≡ m = omega arith in
    ap (λ k. take k now) at ∙ ap (take m) e ∙ take-take m n trail (omega arith)
