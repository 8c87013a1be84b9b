-- Marks of the variables that a clause reaches.
use Rattle.std.proofs.Common.{◌-◌, drop, append-nil, ◌≡◌, ◌↔◌, ◌⊎◌, inl, inr, ℕ, zero, suc, ◌+◌, ◌<◌, ◌≤◌, Bool, true, false, List, [], ◌∷◌, ◌++◌, Some, refl, sym, ◌∙◌, ap, subst, arith, length, take, replicate, set, IsTrue, ℤ, slice_get, get_or}
use Rattle.std.specs.List.{All}
use Rattle.std.proofs.lemmas.Bool.{cases_eq}
use Rattle.std.proofs.lemmas.Option.{slice_get_within, slice_get-get_or}
use Rattle.std.proofs.lemmas.List.{take_more, take_all, drop_all, get_or_read, length-set, length-replicate, get_or-set_same}
use Rattle.std.proofs.lemmas.List.Elements.{All-contains}
use Rattle.word_kit.specs.Prelude.{variable}
use Rattle.circuit.specs.Prelude.{node_reach, IsOrdered, inputs_of, Names, IsReached, marked, Node, Input}
use Rattle.circuit.specs.Clauses.IsReached.{named, read}
use Rattle.circuit.proofs.Differing.{input_reach, variable_reach}

abbrev pub is_marked : List Bool → ℕ → Bool
is_marked marks k = get_or marks k false

marked-append : (xs ys : List ℤ) (m : List Bool) → marked (xs ++ ys) m ≡ marked ys (marked xs m)
marked-append [] ys m = refl
marked-append (x ∷ xs) ys m = marked-append xs ys (set m (variable x) true)

pub marked_more : (xs : List ℤ) (i : ℕ) (d : ℤ) (m : List Bool) → i < length xs → marked (take (i + 1) xs) m ≡ set (marked (take i xs) m) (variable (get_or xs i d)) true
marked_more xs i d m h = ap (λ l. marked l m) (take_more xs i d h) ∙ marked-append (take i xs) (get_or xs i d ∷ []) m

pub marked-length : (zs : List ℤ) (m : List Bool) → length (marked zs m) ≡ length m
marked-length [] m = refl
marked-length (z ∷ zs) m = marked-length zs (set m (variable z) true) ∙ length-set m (variable z) true

set_kept : (m : List Bool) (i k : ℕ) → is_marked m k ≡ true → is_marked (set m i true) k ≡ true
set_kept [] i k h = h
set_kept (b ∷ m) zero zero h = refl
set_kept (b ∷ m) zero (suc k) h = h
set_kept (b ∷ m) (suc i) zero h = h
set_kept (b ∷ m) (suc i) (suc k) h = set_kept m i k h

set_from : (m : List Bool) (i k : ℕ) → is_marked (set m i true) k ≡ true → (is_marked m k ≡ true) ⊎ (i ≡ k)
set_from [] i k h = inl h
set_from (b ∷ m) zero zero h = inr refl
set_from (b ∷ m) zero (suc k) h = inl h
set_from (b ∷ m) (suc i) zero h = inl h
set_from (b ∷ m) (suc i) (suc k) h = elim (set_from m i k h) [ inl p ↦ inl p | inr q ↦ inr (ap suc q) ]

pub marked_kept : (zs : List ℤ) (m : List Bool) (k : ℕ) → is_marked m k ≡ true → is_marked (marked zs m) k ≡ true
marked_kept [] m k h = h
marked_kept (z ∷ zs) m k h = marked_kept zs (set m (variable z) true) k (set_kept m (variable z) k h)

marked_at : (zs : List ℤ) (m : List Bool) (i : ℕ) (z : ℤ) → i < length zs → get_or zs i z ≡ z → variable z < length m → is_marked (marked zs m) (variable z) ≡ true
marked_at [] m i z l e w = absurd (omega arith)
marked_at (y ∷ zs) m zero z l e w =
    marked_kept zs (set m (variable y) true) (variable z) (subst (λ u. is_marked (set m (variable u) true) (variable z) ≡ true) (sym e) (get_or-set_same m (variable z) true false w))
marked_at (y ∷ zs) m (suc i) z l e w = let s = length-set m (variable y) true in marked_at zs (set m (variable y) true) i z (omega arith) e (omega (arith, s, w))

pub marked_names : (zs : List ℤ) (m : List Bool) (k : ℕ) → Names zs k → k < length m → is_marked (marked zs m) k ≡ true
marked_names zs m k a h = let e : variable a.1 ≡ k = a.4 in subst (λ j. is_marked (marked zs m) j ≡ true) e (marked_at zs m a.0 a.1 a.2 a.3 (omega (arith, e, h)))

names_more : (z : ℤ) (zs : List ℤ) (k : ℕ) → Names zs k → Names (z ∷ zs) k
names_more z zs k a = let l = a.2 in (suc a.0, a.1, omega (arith, l), a.3, a.4)

pub marked_from : (zs : List ℤ) (m : List Bool) (k : ℕ) → is_marked (marked zs m) k ≡ true → (is_marked m k ≡ true) ⊎ Names zs k
marked_from [] m k h = inl h
marked_from (z ∷ zs) m k h = elim (marked_from zs (set m (variable z) true) k h) [
  | inl p ↦ elim (set_from m (variable z) k p) [ inl q ↦ inl q | inr e ↦ inr (0, z, omega arith, refl, e) ]
  | inr a ↦ inr (names_more z zs k a)
]

-- The marks when the nodes from i on have marked what they read: what is marked is reached, the variables of the clause are
-- marked, and so is what those nodes read whose variables are marked.
pub record MarksStand (ns : List Node) (clause : List ℤ) (i : ℕ) (marks : List Bool) : Type 0 where
  pub wide : length marks ≡ length ns + 1
  pub sound : (k : ℕ) → is_marked marks k ≡ true → IsReached ns clause k
  pub own : (k : ℕ) → Names clause k → is_marked marks k ≡ true
  pub closed : (j : ℕ) (n : Node) (k : ℕ) → i ≤ j → slice_get ns j ≡ Some n → is_marked marks (j + 1) ≡ true → Names (inputs_of n) k → is_marked marks k ≡ true

no_marks : (n k : ℕ) → is_marked (replicate n false) k ≡ false
no_marks zero k = refl
no_marks (suc n) zero = refl
no_marks (suc n) (suc k) = no_marks n k

pub marks_start : (ns : List Node) (clause : List ℤ) (n : ℕ) (marks : List Bool) → n ≡ length ns + 1 → marks ≡ marked clause (replicate n false) → All (λ z. variable z ≤ length ns) clause → MarksStand ns clause (length ns) marks
marks_start ns clause n marks e f a =
    let w : length (replicate n false) ≡ n = length-replicate n false in
    let within : (k : ℕ) → Names clause k → k < length (replicate n false) = λ k h. let p = All-contains (λ z. variable z ≤ length ns) clause h.1 a (h.0, h.2, h.3) in let q : variable h.1 ≡ k = h.4 in omega (arith, p, q, w, e) in
    record {
      wide = let l = marked-length clause (replicate n false) in rw f (omega (arith, l, w, e));
      sound = λ k h. elim (marked_from clause (replicate n false) k (subst (λ m. is_marked m k ≡ true) f h)) [ inl p ↦ let b = no_marks n k in absurd cc | inr q ↦ named k q ];
      own = λ k h. subst (λ m. is_marked m k ≡ true) (sym f) (marked_names clause (replicate n false) k h (within k h));
      closed = λ j m k l s t h. let b = slice_get_within ns j m s in absurd (omega (arith, l, b));
    }

-- what a node reads is earlier than its variable
reads_earlier : (ns : List Node) → IsOrdered ns → (i : ℕ) (n : Node) (k : ℕ) → slice_get ns i ≡ Some n → Names (inputs_of n) k → k ≤ i
reads_earlier ns o i n k s a = let r = o.reads i n s in let p = input_reach n a.1 (a.0, a.2, a.3) in let q = variable_reach a.1 in let e : variable a.1 ≡ k = a.4 in omega (arith, r, p, q, e)

pub marks_more : (ns : List Node) (clause : List ℤ) (i : ℕ) (n : Node) (marks : List Bool) → IsOrdered ns → slice_get ns i ≡ Some n → is_marked marks (i + 1) ≡ true → MarksStand ns clause (i + 1) marks → MarksStand ns clause i (marked (inputs_of n) marks)
marks_more ns clause i n marks o s t m =
    let early = reads_earlier ns o in
    let before : (j : ℕ) → i < j → is_marked (marked (inputs_of n) marks) j ≡ true → is_marked marks j ≡ true = λ j l h. elim (marked_from (inputs_of n) marks j h) [ inl p ↦ p | inr a ↦ let r = early i n j s a in absurd (omega (arith, l, r)) ] in
    let w = m.wide in
    let inside = slice_get_within ns i n s in
    record {
      wide = marked-length (inputs_of n) marks ∙ m.wide;
      sound = λ k h. elim (marked_from (inputs_of n) marks k h) [ inl p ↦ m.sound k p | inr a ↦ read k i n (m.sound (i + 1) t) s a ];
      own = λ k h. marked_kept (inputs_of n) marks k (m.own k h);
      closed = λ j p k l e u h. elim (cases_eq j i) [
        | inl q ↦ let same : n ≡ p = let f = subst (λ b. slice_get ns b ≡ Some p) q e in cc in
            let a = subst (λ b. Names (inputs_of b) k) (sym same) h in
            let r = early i n k s a in
            marked_names (inputs_of n) marks k a (omega (arith, r, w, inside))
        | inr ne ↦ marked_kept (inputs_of n) marks k (m.closed j p k (omega (arith, l, ne)) e (before (j + 1) (omega (arith, l)) u) h)
      ];
    }

reached_marked : (ns : List Node) (clause : List ℤ) (marks : List Bool) → MarksStand ns clause 0 marks → (k : ℕ) → IsReached ns clause k → is_marked marks k ≡ true
reached_marked ns clause marks m _ (named k a) = m.own k a
reached_marked ns clause marks m _ (read k j n p s a) = m.closed j n k (omega arith) s (reached_marked ns clause marks m (j + 1) p) a

pub marks_end : (ns : List Node) (clause : List ℤ) (marks : List Bool) → MarksStand ns clause 0 marks → (k : ℕ) → IsTrue (is_marked marks k) ↔ IsReached ns clause k
marks_end ns clause marks m k = (m.sound k, reached_marked ns clause marks m k)

-- a Vec whose slice was written
pub written : {T : Type 0} (n : ℕ) (new items : List T) → length new ≡ length items → n ≡ length items → take n (new ++ drop (length new) items) ≡ new
written n new items e f = rw (drop_all (length new) items (omega arith), append-nil) (take_all n new (omega arith))

-- the node before k marks what it reads where its variable is marked
pub marks_step : (ns : List Node) (clause : List ℤ) (k : ℕ) (marks new : List Bool) (b : Bool) → IsOrdered ns → 0 < k → k ≤ length ns → MarksStand ns clause k marks
    → b ≡ get_or marks (k - 1 + 1) b → b ≡ true → new ≡ marked (inputs_of (get_or ns (k - 1) (Input 0))) marks → MarksStand ns clause (k - 1) new
marks_step ns clause k marks new b o p l m e t f =
    let n = get_or ns (k - 1) (Input 0) in
    let w = m.wide in
    let s : slice_get ns (k - 1) ≡ Some n = slice_get-get_or ns (k - 1) (Input 0) (omega arith) in
    let q : k ≡ k - 1 + 1 = omega arith in
    let c : is_marked marks (k - 1 + 1) ≡ true = sym (get_or_read marks (k - 1 + 1) b (omega (arith, w)) e false) ∙ t in
    subst (λ z. MarksStand ns clause (k - 1) z) (sym f) (marks_more ns clause (k - 1) n marks o s c (subst (λ j. MarksStand ns clause j marks) q m))

pub reads_marks : (ns : List Node) (clause : List ℤ) (k : ℕ) (marks old : List Bool) → IsOrdered ns → 0 < k → k ≤ length ns → MarksStand ns clause k marks → old ≡ marks → node_reach (get_or ns (k - 1) (Input 0)) < length old
reads_marks ns clause k marks old o p l m e =
    let w = m.wide in
    let s = slice_get-get_or ns (k - 1) (Input 0) (omega arith) in
    let r = o.reads (k - 1) (get_or ns (k - 1) (Input 0)) s in
    let z = ap length e in
    omega (arith, r, z, w)
