-- One access more.
use Rattle.std.proofs.Common.{◌≡◌, ℕ, ◌+◌, ◌<◌, ◌≤◌, Bool, List, [], ◌∷◌, ◌++◌, length, sym, ◌∙◌, ap, subst, arith, get_or, length-append}
use Rattle.std.proofs.lemmas.List.{get_or_append_left}
use Rattle.std.proofs.Math.Seq.{get_or-append_seam}
use Rattle.std.proofs.Math.Decide.{dec_lt}
use Rattle.circuit.specs.Prelude.{word_reach_below}
use Rattle.access_circuits.specs.Lists.{no_access, no_words, IsAccess, AreAccesses, AccessesOwned}
use Rattle.row_runs.specs.Accesses.{Accessed}
use Rattle.access_circuits.specs.declared.accesses.AccessWords.{AccessWords}

pub access_pushed : (w : ℕ → Bool) (xs new : List AccessWords) (x : AccessWords) (ts : List Accessed) (a : Accessed) → new ≡ xs ++ x ∷ [] → AreAccesses w xs ts → IsAccess w x a → AreAccesses w new (ts ++ a ∷ [])
access_pushed w xs new x ts a e h s =
    let c = h.count in
    let lx = length-append xs (x ∷ []) in
    let lt = length-append ts (a ∷ []) in
    let ln : length new ≡ length xs + 1 = ap length e ∙ lx in
    record {
      count = ln ∙ omega (arith, c, lt);
      each = λ k l. elim (dec_lt k (length xs)) [
        | yes b ↦ subst (λ y. IsAccess w y (get_or (ts ++ a ∷ []) k no_access)) (sym (ap (λ ys. get_or ys k no_words) e ∙ get_or_append_left xs (x ∷ []) no_words k b))
            (subst (λ y. IsAccess w (get_or xs k no_words) y) (sym (get_or_append_left ts (a ∷ []) no_access k (omega (arith, b, c)))) (h.each k b))
        | no g ↦ let q : k ≡ length xs = omega (arith, l, ln, g) in let r : k ≡ length ts = omega (arith, q, c) in
            subst (λ y. IsAccess w y (get_or (ts ++ a ∷ []) k no_access)) (sym (ap (λ ys. get_or ys k no_words) e ∙ ap (λ j. get_or (xs ++ x ∷ []) j no_words) q ∙ get_or-append_seam xs x [] no_words))
            (subst (λ y. IsAccess w x y) (sym (ap (λ j. get_or (ts ++ a ∷ []) j no_access) r ∙ get_or-append_seam ts a [] no_access)) s)
      ];
    }

pub access_pushed_owned : (m : ℕ) (xs new : List AccessWords) (x : AccessWords) → new ≡ xs ++ x ∷ [] → AccessesOwned m xs → word_reach_below 32 x.address ≤ m → word_reach_below 32 x.stored ≤ m → AccessesOwned m new
access_pushed_owned m xs new x e h p q =
    let lx = length-append xs (x ∷ []) in
    let ln : length new ≡ length xs + 1 = ap length e ∙ lx in
    let at_end : (k : ℕ) → k < length new → (k < length xs → ⊥) → get_or new k no_words ≡ x = λ k l g. let r : k ≡ length xs = omega (arith, l, ln, g) in ap (λ ys. get_or ys k no_words) e ∙ ap (λ j. get_or (xs ++ x ∷ []) j no_words) r ∙ get_or-append_seam xs x [] no_words in
    let before : (k : ℕ) → k < length xs → get_or new k no_words ≡ get_or xs k no_words = λ k b. ap (λ ys. get_or ys k no_words) e ∙ get_or_append_left xs (x ∷ []) no_words k b in
    record {
      address = λ k l. elim (dec_lt k (length xs)) [
        | yes b ↦ subst (λ y. word_reach_below 32 y.address ≤ m) (sym (before k b)) (h.address k b)
        | no g ↦ subst (λ y. word_reach_below 32 y.address ≤ m) (sym (at_end k l g)) p
      ];
      stored = λ k l. elim (dec_lt k (length xs)) [
        | yes b ↦ subst (λ y. word_reach_below 32 y.stored ≤ m) (sym (before k b)) (h.stored k b)
        | no g ↦ subst (λ y. word_reach_below 32 y.stored ≤ m) (sym (at_end k l g)) q
      ];
    }
