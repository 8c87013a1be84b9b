-- Pairs of which the gates allow none to differ.
use Rattle.std.proofs.Common.{zero, suc, ◌≡◌, ◌↔◌, ℕ, ◌+◌, ◌<◌, ◌≤◌, Bool, true, false, not, List, [], ◌∷◌, ◌++◌, length, refl, sym, ◌∙◌, ap, subst, arith, add-one, length-append}
use Rattle.std.specs.Prelude.{Result, Ok, Err, IfOk}
use Rattle.std.proofs.lemmas.List.{get_or_default, get_or_append_left, append_assoc, append-nil}
use Rattle.std.proofs.lemmas.List.Elements.{All-from_get_or, All-get_or, All-push}
use Rattle.std.proofs.Math.Seq.{get_or-append_seam}
use Rattle.std.proofs.Math.Decide.{dec_lt}
use Rattle.word_kit.specs.Prelude.{same, bit_of}
use Rattle.circuit.specs.Prelude.{lit_truth, lit_reach, word_value, word_reach_below, AllAgree, Says, GatesAgree, GateSays, at, word_below, pair_at, AreOwned, CanDiffer}
use Rattle.circuit.specs.declared.literals.Lit.{Lit}
use Rattle.circuit.specs.declared.literals.Lit.TheVariants.{Const}
use Rattle.circuit.specs.declared.nodes.Node.{Node}
use Rattle.circuit.specs.declared.nodes.Node.TheVariants.{Input, And, Xor, Free}
use Rattle.circuit.proofs.Meanings.{bit_means, reach_within}
use Rattle.circuit.proofs.FreeValues.{free_is}
use Rattle.chosen_inputs.specs.Pairs.{IsAlike, AreAlike, bit_pairs}

-- an assignment that gives products and divisions their values fits the gates
gate_says : (n : Node) (b : Bool) (v : ℕ → Bool) → Says n b v → GateSays n b v
gate_says (Input i) b v h = tt
gate_says (And x y) b v h = h
gate_says (Xor x y) b v h = h
gate_says (Free f place) b v h = tt

fits_gates : (ns : List Node) (v : ℕ → Bool) → AllAgree ns v → GatesAgree ns v
unfolding AllAgree GatesAgree
fits_gates ns v h k n e = gate_says n (v (k + 1)) v (h k n e)

alike_of : (a b : Bool) → (not (same a b) ≡ true → ⊥) → a ≡ b
alike_of true true h = refl
alike_of true false h = absurd (h refl)
alike_of false true h = absurd (h refl)
alike_of false false h = refl

-- where none can differ, none does
pub none_differs : (ns : List Node) (pairs : List (Lit × Lit)) (w : ℕ → Bool) → ¬ CanDiffer ns pairs → AllAgree ns w → AreAlike w pairs
unfolding AreAlike
none_differs ns pairs w none fits = All-from_get_or (IsAlike w) pairs (Const false, Const false) (λ k l.
    alike_of (lit_truth (pair_at pairs k).0 w) (lit_truth (pair_at pairs k).1 w)
    (λ d. none (w, fits_gates ns w fits, (k, pair_at pairs k, l, get_or_default pairs k (pair_at pairs k) (Const false, Const false) l, d))))

-- so it is where the formula has no model
pub refuted : {F E : Type 0} (r : Result F E) (S : F → Type 0) (D Q : Type 0) → IfOk r (λ f. S f ↔ D) → (¬ D → Q) → IfOk r (λ f. ¬ S f → Q)
refuted (Ok f) S D Q e h = λ n. h (λ d. n (e.1 d))
refuted (Err x) S D Q e h = tt

-- one pair more
pair_pushed : (w : ℕ → Bool) (old : List (Lit × Lit)) (x y : Lit) → AreAlike w (old ++ (x, y) ∷ []) ↔ (AreAlike w old × (lit_truth x w ≡ lit_truth y w))
unfolding AreAlike
pair_pushed w old x y =
    let long = length-append old ((x, y) ∷ []) in
    let last : pair_at (old ++ (x, y) ∷ []) (length old) ≡ (x, y) = get_or-append_seam old (x, y) [] (Const false, Const false) in (
      λ a. (
        All-from_get_or (IsAlike w) old (Const false, Const false) (λ k l. subst (IsAlike w) (get_or_append_left old ((x, y) ∷ []) (Const false, Const false) k l) (All-get_or (IsAlike w) (old ++ (x, y) ∷ []) k (Const false, Const false) (omega (arith, long, l)) a)),
        subst (IsAlike w) last (All-get_or (IsAlike w) (old ++ (x, y) ∷ []) (length old) (Const false, Const false) (omega (arith, long)) a),
      ),
      λ h. All-push (IsAlike w) old (x, y) h.0 h.1,
    )

pub flag_pushed : (w : ℕ → Bool) (old new : List (Lit × Lit)) (x y : Lit) → new ≡ old ++ (x, y) ∷ [] → AreAlike w new ↔ (AreAlike w old × (lit_truth x w ≡ lit_truth y w))
flag_pushed w old new x y e = subst (λ ps. AreAlike w ps ↔ (AreAlike w old × (lit_truth x w ≡ lit_truth y w))) (sym e) (pair_pushed w old x y)

pub flag_pushed_owned : (m : ℕ) (old new : List (Lit × Lit)) (x y : Lit) → new ≡ old ++ (x, y) ∷ [] → AreOwned m old → lit_reach x ≤ m → lit_reach y ≤ m → AreOwned m new
flag_pushed_owned m old new x y e o h g =
    let n = ap length e ∙ length-append old ((x, y) ∷ []) in
    let s : (k : ℕ) → k < length new → (k < length old → ⊥) → pair_at new k ≡ (x, y) = λ k l f. let r : k ≡ length old = omega (arith, n, l, f) in ap (λ ps. pair_at ps k) e ∙ ap (λ j. pair_at (old ++ (x, y) ∷ []) j) r ∙ get_or-append_seam old (x, y) [] (Const false, Const false) in
    let b : (k : ℕ) → k < length old → pair_at new k ≡ pair_at old k = λ k l. ap (λ ps. pair_at ps k) e ∙ get_or_append_left old ((x, y) ∷ []) (Const false, Const false) k l in
    record {
      first = λ k l. elim (dec_lt k (length old)) [
        | yes i ↦ subst (λ q. lit_reach q.0 ≤ m) (sym (b k i)) (o.first k i)
        | no f ↦ subst (λ q. lit_reach q.0 ≤ m) (sym (s k l f)) h
      ];
      second = λ k l. elim (dec_lt k (length old)) [
        | yes i ↦ subst (λ q. lit_reach q.1 ≤ m) (sym (b k i)) (o.second k i)
        | no f ↦ subst (λ q. lit_reach q.1 ≤ m) (sym (s k l f)) g
      ];
    }

-- the pairs of a word, bit by bit
pub pairs_begin : (old : List (Lit × Lit)) (x y : List Lit) → old ≡ old ++ bit_pairs 0 x y
unfolding bit_pairs
pairs_begin old x y = sym (append-nil old)

pairs_last : (n : ℕ) (old : List (Lit × Lit)) (x y : List Lit) → old ++ bit_pairs (suc n) x y ≡ (old ++ bit_pairs n x y) ++ (at x n, at y n) ∷ []
unfolding bit_pairs
pairs_last n old x y = sym (append_assoc old (bit_pairs n x y) ((at x n, at y n) ∷ []))

pub pairs_go_on : (i : ℕ) (old now next : List (Lit × Lit)) (x y : List Lit) → now ≡ old ++ bit_pairs i x y → next ≡ now ++ (at x i, at y i) ∷ [] → next ≡ old ++ bit_pairs (i + 1) x y
pairs_go_on i old now next x y e f =
    let one_more : bit_pairs (suc i) x y ≡ bit_pairs (i + 1) x y = rw add-one refl in
    f ∙ ap (λ ps. ps ++ (at x i, at y i) ∷ []) e ∙ sym (pairs_last i old x y) ∙ ap (λ ps. old ++ ps) one_more

SameBits : (ℕ → Bool) → ℕ → List Lit → List Lit → Type 0
SameBits w n x y = (k : ℕ) → k < n → lit_truth (at x k) w ≡ lit_truth (at y k) w

bits_pushed : (w : ℕ → Bool) (old : List (Lit × Lit)) (x y : List Lit) (n : ℕ) → AreAlike w (old ++ bit_pairs n x y) ↔ (AreAlike w old × SameBits w n x y)
unfolding SameBits
bits_pushed w old x y zero = subst (λ ps. AreAlike w ps ↔ (AreAlike w old × SameBits w 0 x y)) (pairs_begin old x y) (λ a. (a, λ k l. absurd (omega arith)), λ h. h.0)
bits_pushed w old x y (suc n) =
    let below = bits_pushed w old x y n in
    let e = pairs_last n old x y in
    let one = flag_pushed w (old ++ bit_pairs n x y) (old ++ bit_pairs (suc n) x y) (at x n) (at y n) e in (
      λ a. let split = one.0 a in let rest = below.0 split.0 in (
        rest.0,
        λ k l. elim (dec_lt k n) [
          | yes lt ↦ rest.1 k lt
          | no ge ↦ let q : k ≡ n = omega arith in subst (λ j. lit_truth (at x j) w ≡ lit_truth (at y j) w) (sym q) split.1
        ],
      ),
      λ h. one.1 (below.1 (h.0, λ k l. h.1 k (omega arith)), h.1 n (omega arith)),
    )

pub word_pushed : (w : ℕ → Bool) (old new : List (Lit × Lit)) (x y : List Lit) → new ≡ old ++ bit_pairs 32 x y → AreAlike w new ↔ (AreAlike w old × (word_value 32 x w ≡ word_value 32 y w))
unfolding SameBits
word_pushed w old new x y e =
    let bits = bits_pushed w old x y 32 in (
      λ a. let split = bits.0 (subst (λ ps. AreAlike w ps) e a) in (split.0, free_is x w (word_value 32 y w) (word_below y w) (λ k l. split.1 k l ∙ bit_means y w k l)),
      λ h. subst (λ ps. AreAlike w ps) (sym e) (bits.1 (h.0, λ k l. bit_means x w k l ∙ ap (λ n. bit_of n k) h.1 ∙ sym (bit_means y w k l))),
    )

bits_owned : (m : ℕ) (old : List (Lit × Lit)) (x y : List Lit) (n : ℕ) → n ≤ 32 → AreOwned m old → word_reach_below 32 x ≤ m → word_reach_below 32 y ≤ m → AreOwned m (old ++ bit_pairs n x y)
bits_owned m old x y zero h o p q = subst (λ ps. AreOwned m ps) (pairs_begin old x y) o
bits_owned m old x y (suc n) h o p q =
    let below = bits_owned m old x y n (omega arith) o p q in
    let e = pairs_last n old x y in
    flag_pushed_owned m (old ++ bit_pairs n x y) (old ++ bit_pairs (suc n) x y) (at x n) (at y n) e below (reach_within x n m (omega arith) p) (reach_within y n m (omega arith) q)

pub word_pushed_owned : (m : ℕ) (old new : List (Lit × Lit)) (x y : List Lit) → new ≡ old ++ bit_pairs 32 x y → AreOwned m old → word_reach_below 32 x ≤ m → word_reach_below 32 y ≤ m → AreOwned m new
word_pushed_owned m old new x y e o p q = subst (λ ps. AreOwned m ps) (sym e) (bits_owned m old x y 32 (omega arith) o p q)
