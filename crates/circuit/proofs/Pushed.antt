-- Lists to which literals are appended.
use Rattle.std.proofs.Common.{◌≡◌, ℕ, ◌+◌, ◌<◌, false, List, [], ◌∷◌, ◌++◌, length, refl, sym, ◌∙◌, ap, subst, arith, add-one, get_or, length-append}
use Rattle.std.proofs.lemmas.List.{get_or_append_left}
use Rattle.std.proofs.Math.Seq.{get_or-append_seam}
use Rattle.std.proofs.Math.Decide.{dec_lt}
use Rattle.circuit.specs.Prelude.{BitMade, at, word_made, Lit, Const, Node}

-- what holds of each literal of a list, and of one more
pub pushed : (P : ℕ → Lit → Type 0) (i : ℕ) (out : List Lit) (bit : Lit) → length out ≡ i → ((k : ℕ) → k < i → P k (at out k)) → P i bit → (k : ℕ) → k < i + 1 → P k (at (out ++ bit ∷ []) k)
pushed P i out bit l below here k h = elim (dec_lt k i) [
  | yes lt ↦ subst (P k) (sym (get_or_append_left out (bit ∷ []) (Const false) k (omega (arith, l, lt)))) (below k lt)
  | no ge ↦ let e : i ≡ k = omega (arith, ge, h) in let m : k ≡ length out = sym e ∙ sym l in
      let s : at (out ++ bit ∷ []) k ≡ bit = ap (λ j. get_or (out ++ bit ∷ []) j (Const false)) m ∙ get_or-append_seam out bit [] (Const false) in
      subst (P k) (sym s) (subst (λ j. P j bit) e here)
]

pub record ListStands (g : List Node → ℕ → BitMade) (i : ℕ) (ns : List Node) (out : List Lit) (now : List Node) : Type 0 where
  pub word_is : out ≡ (word_made g i ns).word
  pub held_is : now ≡ (word_made g i ns).held

pub list_stands-zero : (g : List Node → ℕ → BitMade) (ns : List Node) → ListStands g 0 ns [] ns
unfolding word_made
list_stands-zero g ns = record { word_is = refl; held_is = refl }

pub list_stands-suc : (g : List Node → ℕ → BitMade) (i : ℕ) (ns : List Node) (out : List Lit) (now : List Node) (bit : Lit) (later : List Node)
    → ListStands g i ns out now → bit ≡ (g now i).flag → later ≡ (g now i).held → ListStands g (i + 1) ns (out ++ bit ∷ []) later
unfolding word_made
list_stands-suc g i ns out now bit later s b l = let e = s.word_is in let f = s.held_is in
    record { word_is = rw (e, b, f, add-one) refl; held_is = rw (l, f, add-one) refl }

pub list_stands-new : (g : List Node → ℕ → BitMade) (ns : List Node) (items : List Lit) → items ≡ [] → ListStands g 0 ns items ns
list_stands-new g ns items e = subst (λ l. ListStands g 0 ns l ns) (sym e) (list_stands-zero g ns)

pub list_stands-push : (g : List Node → ℕ → BitMade) (i : ℕ) (ns : List Node) (out : List Lit) (now : List Node) (bit : Lit) (later : List Node) (items : List Lit) → items ≡ out ++ bit ∷ []
    → ListStands g i ns out now → bit ≡ (g now i).flag → later ≡ (g now i).held → ListStands g (i + 1) ns items later
list_stands-push g i ns out now bit later items e s b l = subst (λ z. ListStands g (i + 1) ns z later) (sym e) (list_stands-suc g i ns out now bit later s b l)

pub pushed_items : (P : ℕ → Lit → Type 0) (i : ℕ) (out : List Lit) (bit : Lit) (items : List Lit) → items ≡ out ++ bit ∷ [] → length out ≡ i → ((k : ℕ) → k < i → P k (at out k)) → P i bit → (k : ℕ) → k < i + 1 → P k (at items k)
pushed_items P i out bit items e l below here k h = subst (λ z. P k (at z k)) (sym e) (pushed P i out bit l below here k h)

pub longer : (i : ℕ) (out : List Lit) (bit : Lit) (items : List Lit) → items ≡ out ++ bit ∷ [] → length out ≡ i → length items ≡ i + 1
longer i out bit items e l = ap length e ∙ length-append out (bit ∷ []) ∙ (omega (arith, l))
