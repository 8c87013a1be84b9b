-- The names of what may be dead: which are chosen is told by their words.
use Rattle.std.proofs.Common.{◌≡◌, ◌≢◌, ℕ, suc, ◌+◌, ◌*◌, ◌/◌, ◌%◌, ◌<◌, ◌≤◌, ◌^◌, ◌==◌, ◌&&◌, not, List, [], ◌∷◌, length, get_or, drop, fold, refl, sym, ap, ◌∙◌, arith, Bool, true, false, IsTrue, cond, pow-suc, map, take, ◌-◌, Bor, Option, Some, None, MatchOption, codes, subst}
use Rattle.std.proofs.Math.Seq.{take-length}
use Rattle.std.proofs.lemmas.List.Splits.{join_with_byte-slice_split}
use Rattle.std.specs.List.{AllByRecursion, join_with_byte, slice_split}
use Rattle.line_text.specs.Lines.{IsFree}
use Rattle.line_text.proofs.Lines.{split-join}
use Rattle.rule_form.specs.Prelude.{Differ, names, chosen, listed, dead_word}
use Rattle.rule_form.proofs.Separate.{IsWord, word, word-join, tested, both, not-true, is_free}

-- the bytes of a name as one number
abbrev number : List ℕ → ℕ
number bs = fold (λ a b. a * 256 + b) 0 bs

abbrev is_other : ℕ → List (List ℕ) → Bool
is_other k [] = true
is_other k (m ∷ ms) = not (number m == k) && is_other k ms

abbrev are_other : List (List ℕ) → Bool
are_other [] = true
are_other (n ∷ ns) = is_other (number n) ns && are_other ns

same : (n : ℕ) → (n == n) ≡ true
same n = grind arith

others : (n : List ℕ) (ms : List (List ℕ)) → IsTrue (is_other (number n) ms) → AllByRecursion (λ m. m ≢ n) ms
others n [] h = tt
others n (m ∷ ms) h =
    let s = both (not (number m == number n)) (is_other (number n) ms) h in (
      λ e.
          let f = not-true (number m == number n) s.0 in
          let t : (number m == number n) ≡ true = ap (λ w. number w == number n) e ∙ same (number n) in
          let u : true ≡ false = sym t ∙ f in
          cc,
      others n ms s.1,
    )

differ : (ns : List (List ℕ)) → IsTrue (are_other ns) → Differ ns
differ [] h = tt
differ (n ∷ ns) h = let s = both (is_other (number n) ns) (are_other ns) h in (others n ns s.0, differ ns s.1)

pub names-differ : Differ names
names-differ = differ names refl

-- what is chosen of names is one of them
pub first-chosen : (ns : List (List ℕ)) (n : List ℕ) (bits : ℕ) (rest : List (List ℕ)) → AllByRecursion (λ m. m ≢ n) ns → chosen ns bits ≡ n ∷ rest → ⊥
first-chosen [] n bits rest h e = let f = ap length e in absurd (omega (arith, f))
first-chosen (m ∷ ms) n bits rest h e = go (bits % 2 == 1) e (first-chosen ms n (bits / 2) rest h.1)
  where
    go : (b : Bool) → cond b (m ∷ chosen ms (bits / 2)) (chosen ms (bits / 2)) ≡ n ∷ rest → (chosen ms (bits / 2) ≡ n ∷ rest → ⊥) → ⊥
    go true e later = h.0 (ap (λ l. get_or l 0 m) e)
    go false e later = later e

odd : (a : ℕ) → (a % 2 == 1) ≡ true → a ≡ 2 * (a / 2) + 1
odd a h = grind (arith, h)

even : (a : ℕ) → (a % 2 == 1) ≡ false → a ≡ 2 * (a / 2)
even a h = grind (arith, h)

-- bits are told by the names that they choose
pub chosen-same : (ns : List (List ℕ)) (a b : ℕ) → Differ ns → a < 2 ^ length ns → b < 2 ^ length ns → chosen ns a ≡ chosen ns b → a ≡ b
chosen-same [] a b d g h e = omega (arith, g, h)
chosen-same (n ∷ ns) a b d g h e = go (a % 2 == 1) refl (b % 2 == 1) refl e (λ same. chosen-same ns (a / 2) (b / 2) d.1 (half a g) (half b h) same)
  where
    p : 2 ^ suc (length ns) ≡ 2 ^ length ns * 2
    p = pow-suc 2 (length ns)

    half : (k : ℕ) → k < 2 ^ suc (length ns) → k / 2 < 2 ^ length ns
    half k lt = let q = p in omega (arith, lt, q)

    go : (x : Bool) → (a % 2 == 1) ≡ x → (y : Bool) → (b % 2 == 1) ≡ y
        → cond x (n ∷ chosen ns (a / 2)) (chosen ns (a / 2)) ≡ cond y (n ∷ chosen ns (b / 2)) (chosen ns (b / 2)) → (chosen ns (a / 2) ≡ chosen ns (b / 2) → a / 2 ≡ b / 2) → a ≡ b
    go true ea true eb e halves = let s = halves (ap (drop 1) e) in let f = odd a ea in let k = odd b eb in omega (arith, s, f, k)
    go false ea false eb e halves = let s = halves e in let f = even a ea in let k = even b eb in omega (arith, s, f, k)
    go true ea false eb e halves = absurd (first-chosen ns n (b / 2) (chosen ns (a / 2)) d.0 (sym e))
    go false ea true eb e halves = absurd (first-chosen ns n (a / 2) (chosen ns (b / 2)) d.0 e)

all-taken : {A : Type 0} (xs : List A) (n : ℕ) → n ≡ length xs → take n xs ≡ xs
all-taken xs n e = ap (λ k. take k xs) e ∙ take-length xs

-- names behind one that is chosen are none
pub odd-none : (ns : List (Bor (List ℕ))) (ps rest : List (List ℕ)) (d : Bor (List ℕ)) (b : ℕ) → 1 ≤ length ns → Differ (map (λ n. n.now) ns) → b < 2 ^ length ns → ps ≡ (get_or ns 0 d).now ∷ rest
    → ((a : ℕ) → a < 2 ^ length (take (length ns - 1) (drop 1 ns)) → rest ≢ chosen (map (λ n. n.now) (take (length ns - 1) (drop 1 ns))) a) → ps ≡ chosen (map (λ n. n.now) ns) b → ⊥
odd-none [] ps rest d b some differ low is none e = absurd (omega (arith, some))
odd-none (n ∷ ns) ps rest d b some differ low is none e = go (b % 2 == 1) (sym is ∙ e)
  where
    left : take (length (n ∷ ns) - 1) ns ≡ ns
    left = all-taken ns (length (n ∷ ns) - 1) (omega arith)

    half : b / 2 < 2 ^ length ns
    half = let p : 2 ^ suc (length ns) ≡ 2 ^ length ns * 2 = pow-suc 2 (length ns) in omega (arith, low, p)

    go : (x : Bool) → n.now ∷ rest ≡ cond x (n.now ∷ chosen (map (λ n. n.now) ns) (b / 2)) (chosen (map (λ n. n.now) ns) (b / 2)) → ⊥
    go true is =
        none (b / 2) (subst (λ l. b / 2 < 2 ^ length l) (sym left) half)
        (ap (drop 1) is ∙ ap (λ l. chosen (map (λ m. m.now) l) (b / 2)) (sym left))
    go false is = first-chosen (map (λ n. n.now) ns) n.now (b / 2) rest differ.0 (sym is)

-- a fact of all names is one of those that are chosen
pub all-chosen : (P : List ℕ → Type 0) (ns : List (List ℕ)) (bits : ℕ) → AllByRecursion P ns → AllByRecursion P (chosen ns bits)
all-chosen P [] bits h = tt
all-chosen P (n ∷ ns) bits h = go (bits % 2 == 1) (all-chosen P ns (bits / 2) h.1)
  where
    go : (b : Bool) → AllByRecursion P (chosen ns (bits / 2)) → AllByRecursion P (cond b (n ∷ chosen ns (bits / 2)) (chosen ns (bits / 2)))
    go true rest = (h.0, rest)
    go false rest = rest

-- a name is a word without a comma, and no dash
abbrev pub IsName : List ℕ → Type 0
IsName n = IsWord n × IsFree 44 n × (n ≢ 45 ∷ [])

abbrev is_name : List ℕ → Bool
is_name n = (is_free 32 n && is_free 10 n) && (is_free 44 n && not (number n == 45))

name : (n : List ℕ) → IsTrue (is_name n) → IsName n
name n h =
    let s = both (is_free 32 n && is_free 10 n) (is_free 44 n && not (number n == 45)) h in
    let t = both (is_free 44 n) (not (number n == 45)) s.1 in
    (word n s.0, tested 44 n t.0, λ e. let f = not-true (number n == 45) t.1 in let u : true ≡ false = sym (ap (λ w. number w == 45) e) ∙ f in cc)

abbrev are_names : List (List ℕ) → Bool
are_names [] = true
are_names (n ∷ ns) = is_name n && are_names ns

all-names : (ns : List (List ℕ)) → IsTrue (are_names ns) → AllByRecursion IsName ns
all-names [] h = tt
all-names (n ∷ ns) h = let s = both (is_name n) (are_names ns) h in (name n s.0, all-names ns s.1)

pub names-are : AllByRecursion IsName names
names-are = all-names names refl

frees : (ns : List (List ℕ)) → AllByRecursion IsName ns → AllByRecursion (IsFree 44) ns
frees [] h = tt
frees (n ∷ ns) h = (h.0.1, frees ns h.1)

words : (ns : List (List ℕ)) → AllByRecursion IsName ns → AllByRecursion IsWord ns
words [] h = tt
words (n ∷ ns) h = (h.0.0, words ns h.1)

-- the pieces of a list of names between commas; a dash is one piece
pub split-listed : (ns : List (List ℕ)) → AllByRecursion IsName ns → 0 < length ns → slice_split (λ b. b == 44) (listed ns) ≡ ns
split-listed [] h some = absurd (omega (arith, some))
split-listed (n ∷ ns) h some = split-join 44 n ns (frees (n ∷ ns) h)

pub listed-same : (ms ns : List (List ℕ)) → AllByRecursion IsName ms → AllByRecursion IsName ns → listed ms ≡ listed ns → ms ≡ ns
listed-same [] [] g h e = refl
listed-same (m ∷ ms) (n ∷ ns) g h e = sym (split-listed (m ∷ ms) g (omega arith)) ∙ ap (slice_split (λ b. b == 44)) e ∙ split-listed (n ∷ ns) h (omega arith)
listed-same [] (n ∷ ns) g h e = absurd (dash n ns h e)
  where
    dash : (n : List ℕ) (ns : List (List ℕ)) → AllByRecursion IsName (n ∷ ns) → 45 ∷ [] ≡ listed (n ∷ ns) → ⊥
    dash n ns h e =
        let s : (45 ∷ []) ∷ [] ≡ n ∷ ns = ap (slice_split (λ b. b == 44)) e ∙ split-listed (n ∷ ns) h (omega arith) in
        h.0.2 (sym (ap (λ l. get_or l 0 []) s))
listed-same (m ∷ ms) [] g h e = absurd (dash m ms g (sym e))
  where
    dash : (n : List ℕ) (ns : List (List ℕ)) → AllByRecursion IsName (n ∷ ns) → 45 ∷ [] ≡ listed (n ∷ ns) → ⊥
    dash n ns h e =
        let s : (45 ∷ []) ∷ [] ≡ n ∷ ns = ap (slice_split (λ b. b == 44)) e ∙ split-listed (n ∷ ns) h (omega arith) in
        h.0.2 (sym (ap (λ l. get_or l 0 []) s))

pub dead-same : (a b : ℕ) → a < 2 ^ 20 → b < 2 ^ 20 → dead_word a ≡ dead_word b → a ≡ b
dead-same a b g h e = chosen-same names a b names-differ g h (listed-same (chosen names a) (chosen names b) (all-chosen IsName names a names-are) (all-chosen IsName names b names-are) e)

pub word-listed : (ns : List (List ℕ)) → AllByRecursion IsName ns → IsWord (listed ns)
word-listed [] h = word (45 ∷ []) refl
word-listed (n ∷ ns) h = word-join (n ∷ ns) (words (n ∷ ns) h)

pub word-dead : (bits : ℕ) → IsWord (dead_word bits)
word-dead bits = word-listed (chosen names bits) (all-chosen IsName names bits names-are)

-- the pieces of a word that is no dash
dead-pieces : (word : List ℕ) (b : ℕ) → word ≢ codes "-" → word ≡ dead_word b → slice_split (λ c. c == 44) word ≡ chosen names b
dead-pieces word b not is = go (chosen names b) (all-chosen IsName names b names-are) is
  where
    go : (ns : List (List ℕ)) → AllByRecursion IsName ns → word ≡ listed ns → slice_split (λ c. c == 44) word ≡ ns
    go [] h is = absurd (not is)
    go (n ∷ ns) h is = ap (slice_split (λ c. c == 44)) is ∙ split-listed (n ∷ ns) h (omega arith)

-- pieces that are names make their list
made : (word : List ℕ) (ns : List (List ℕ)) → slice_split (λ c. c == 44) word ≡ ns → word ≡ listed ns
made word (n ∷ ns) is = sym (join_with_byte-slice_split 44 word) ∙ ap (join_with_byte 44) is
made word [] is =
    let none : word ≡ [] = sym (join_with_byte-slice_split 44 word) ∙ ap (join_with_byte 44) is in
    let one : length (slice_split (λ c. c == 44) word) ≡ 1 = ap (λ w. length (slice_split (λ c. c == 44) w)) none in let two : length (slice_split (λ c. c == 44) word) ≡ 0 = ap length is in absurd (omega (arith, one, two))

pub dead-said : (word : List ℕ) (ps : List (List ℕ)) (o : Option ℕ) → word ≢ codes "-" → ps ≡ slice_split (λ c. c == 44) word
    → MatchOption o ((b : ℕ) → b < 2 ^ 20 → ps ≡ chosen names b → ⊥) (λ b. (b < 2 ^ 20) × (ps ≡ chosen names b))
    → MatchOption o ((b : ℕ) → b < 2 ^ 20 → word ≡ dead_word b → ⊥) (λ b. (b < 2 ^ 20) × (word ≡ dead_word b))
dead-said word ps None not is none = λ b low e. none b low (is ∙ dead-pieces word b not e)
dead-said word ps (Some b) not is some = (some.0, made word (chosen names b) (sym is ∙ some.1))
