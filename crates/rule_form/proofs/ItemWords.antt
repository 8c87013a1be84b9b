-- Items by their words.
use Rattle.std.proofs.Common.{◌≡◌, ℕ, suc, ◌+◌, ◌*◌, ◌<◌, ◌^◌, ◌++◌, List, [], ◌∷◌, length, map, get_or, drop, refl, sym, ap, ◌∙◌, arith, decimal, codes, Bool, true, false, cond, nat_lt, Option, Some, None, ℤ, pos, negsuc}
use Rattle.std.specs.List.{AllByRecursion}
use Rattle.std.specs.Int.{w32, to_be_bytes}
use Rattle.std.proofs.lemmas.Fmt.{first_decimal, decimal_injective}
use Rattle.word_kit.specs.Prelude.{variable, IsLiteral}
use Rattle.ia_codec.specs.Prelude.{spelling}
use Rattle.ia_codec.specs.declared.op.Op.{Op}
use Rattle.line_text.proofs.Lines.{AreWords, snoc-same}
use Rattle.rule_body.specs.declared.goal.Guest.{Guest}
use Rattle.rule_body.specs.declared.line.Hole.{Hole}
use Rattle.rule_body.specs.declared.line.Hole.TheVariants.{S, Z, H, N}
use Rattle.rule_body.specs.declared.line.HostLine.{HostLine}
use Rattle.rule_body.specs.Prelude.{AreRising}
use Rattle.rule_form.specs.Prelude.{letter, slots_word, hole_letter, hole_word, digit, take_word, literal_word, Item, Title, Open, GuestLine, At, Dead, Host, Take, Clause, End, words_of, IsItem, IsHoleWord, IsTakeWord}
use Rattle.rule_form.proofs.Separate.{IsWord, word, word-cons, word-decimal, word-hexadecimal, words-free}
use Rattle.rule_form.proofs.DeadNames.{word-dead, dead-same}
use Rattle.rule_form.proofs.SpelledBytes.{word-same, op-same}

-- The words have no separators.
word-letters : (slots : List Bool) → IsWord (map letter slots)
word-letters [] = (tt, tt)
word-letters (true ∷ slots) = word-cons 115 (map letter slots) (omega arith) (word-letters slots)
word-letters (false ∷ slots) = word-cons 104 (map letter slots) (omega arith) (word-letters slots)

word-slots : (slots : List Bool) → IsWord (slots_word slots)
word-slots [] = word (codes "-") refl
word-slots (true ∷ slots) = word-letters (true ∷ slots)
word-slots (false ∷ slots) = word-letters (false ∷ slots)

word-hole : (hole : Option (Hole × ℕ)) → IsHoleWord hole → IsWord (hole_word hole)
word-hole None h = word (codes "-") refl
word-hole (Some hole) h = go hole.0
  where
    go : (k : Hole) → IsWord (hole_letter k ∷ decimal hole.1)
    go S = word-cons 115 (decimal hole.1) (omega arith) (word-decimal hole.1 (omega (arith, h)))
    go Z = word-cons 122 (decimal hole.1) (omega arith) (word-decimal hole.1 (omega (arith, h)))
    go H = word-cons 104 (decimal hole.1) (omega arith) (word-decimal hole.1 (omega (arith, h)))
    go N = word-cons 110 (decimal hole.1) (omega arith) (word-decimal hole.1 (omega (arith, h)))

digit-high : (d : ℕ) → 32 < digit d
digit-high d = go (nat_lt d 10)
  where
    go : (b : Bool) → 32 < cond b (48 + d) (87 + d)
    go true = omega arith
    go false = omega arith

word-take : (condition : Option ℕ) → IsWord (take_word condition)
word-take None = word (codes "-") refl
word-take (Some d) = word-cons (digit d) [] (digit-high d) (tt, tt)

word-literal : (z : ℤ) → variable z < 2 ^ 31 → IsWord (literal_word z)
word-literal (pos n) h = word-decimal n (omega (arith, h))
word-literal (negsuc n) h = word-cons 45 (decimal (suc n)) (omega arith) (word-decimal (suc n) (omega (arith, h)))

word-literals : (low : ℕ) (zs : List ℤ) → AreRising low zs → AllByRecursion IsWord (map literal_word zs ++ codes "0" ∷ [])
word-literals low [] h = (word (codes "0") refl, tt)
word-literals low (z ∷ zs) h = (word-literal z h.1, word-literals (variable z) zs h.2)

word-free : (b : Bool) → IsWord (cond b (codes "any") (codes "lit"))
word-free true = word (codes "any") refl
word-free false = word (codes "lit") refl

are : (ws : List (List ℕ)) → 0 < length ws → AllByRecursion IsWord ws → AreWords ws
are ws some h = let f = words-free ws h in (some, f.0, f.1)

pub are-words : (x : Item) → IsItem x → AreWords (words_of x)
are-words Title h = are (words_of Title) (omega arith) (word (codes "rules") refl, (word (codes "1") refl, tt))
are-words Open h = are (words_of Open) (omega arith) (word (codes "rule") refl, tt)
are-words (GuestLine g) h = are (words_of (GuestLine g)) (omega arith) (word (codes "guest") refl, (word-hexadecimal (to_be_bytes w32 g.word), (word-free g.free, tt)))
are-words (At slots) h = are (words_of (At slots)) (omega arith) (word (codes "at") refl, (word-slots slots, tt))
are-words (Dead bits) h = are (words_of (Dead bits)) (omega arith) (word (codes "dead") refl, (word-dead bits, tt))
are-words (Host line) h = are (words_of (Host line)) (omega arith) (word (codes "host") refl, (word-hexadecimal (spelling line.op), (word-hole line.hole h.1, tt)))
are-words (Take condition) h = are (words_of (Take condition)) (omega arith) (word (codes "take") refl, (word-take condition, tt))
are-words (Clause literals) h = are (words_of (Clause literals)) (omega arith) (word (codes "clause") refl, word-literals 0 literals h)
are-words End h = are (words_of End) (omega arith) (word (codes "end") refl, tt)

-- One item is written so.
letters-same : (a b : List Bool) → map letter a ≡ map letter b → a ≡ b
letters-same [] [] e = refl
letters-same (true ∷ a) (true ∷ b) e = ap (λ l. true ∷ l) (letters-same a b (ap (drop 1) e))
letters-same (false ∷ a) (false ∷ b) e = ap (λ l. false ∷ l) (letters-same a b (ap (drop 1) e))
letters-same (true ∷ a) (false ∷ b) e = absurd (let f = ap (λ w. get_or w 0 0) e in omega (arith, f))
letters-same (false ∷ a) (true ∷ b) e = absurd (let f = ap (λ w. get_or w 0 0) e in omega (arith, f))
letters-same [] (x ∷ b) e = absurd (let f = ap length e in omega (arith, f))
letters-same (x ∷ a) [] e = absurd (let f = ap length e in omega (arith, f))

pub slots-same : (a b : List Bool) → slots_word a ≡ slots_word b → a ≡ b
slots-same [] [] e = refl
slots-same (x ∷ a) (y ∷ b) e = letters-same (x ∷ a) (y ∷ b) e
slots-same [] (true ∷ b) e = absurd (let f = ap (λ w. get_or w 0 0) e in omega (arith, f))
slots-same [] (false ∷ b) e = absurd (let f = ap (λ w. get_or w 0 0) e in omega (arith, f))
slots-same (true ∷ a) [] e = absurd (let f = ap (λ w. get_or w 0 0) e in omega (arith, f))
slots-same (false ∷ a) [] e = absurd (let f = ap (λ w. get_or w 0 0) e in omega (arith, f))

numbers-same : (m n : ℕ) → m < 2 ^ 32 → n < 2 ^ 32 → decimal m ≡ decimal n → m ≡ n
numbers-same m n g h e = decimal_injective m n (omega (arith, g)) (omega (arith, h)) e

hole-letter-same : (a b : Hole) → hole_letter a ≡ hole_letter b → a ≡ b
hole-letter-same S S e = refl
hole-letter-same Z Z e = refl
hole-letter-same H H e = refl
hole-letter-same N N e = refl
hole-letter-same _ _ e = absurd (omega (arith, e))

dash-hole : (k : Hole) → hole_letter k ≡ 45 → ⊥
dash-hole S e = omega (arith, e)
dash-hole Z e = omega (arith, e)
dash-hole H e = omega (arith, e)
dash-hole N e = omega (arith, e)

pub hole-same : (a b : Option (Hole × ℕ)) → IsHoleWord a → IsHoleWord b → hole_word a ≡ hole_word b → a ≡ b
hole-same None None g h e = refl
hole-same (Some (k, i)) (Some (l, j)) g h e =
    ap (λ x. Some (x, i)) (hole-letter-same k l (ap (λ w. get_or w 0 0) e)) ∙ ap (λ n. Some (l, n)) (numbers-same i j (omega (arith, g)) (omega (arith, h)) (ap (drop 1) e))
hole-same None (Some (l, j)) g h e = absurd (dash-hole l (sym (ap (λ w. get_or w 0 0) e)))
hole-same (Some (k, i)) None g h e = absurd (dash-hole k (ap (λ w. get_or w 0 0) e))

pub digit-same : (a b : ℕ) → a < 16 → b < 16 → digit a ≡ digit b → a ≡ b
digit-same a b g h e = grind (arith, g, h, e)

take-same : (a b : Option ℕ) → IsTakeWord a → IsTakeWord b → take_word a ≡ take_word b → a ≡ b
take-same None None g h e = refl
take-same (Some a) (Some b) g h e = ap Some (digit-same a b g h (ap (λ w. get_or w 0 0) e))
take-same None (Some b) g h e = absurd (dash b (sym (ap (λ w. get_or w 0 0) e)))
  where
    dash : (d : ℕ) → digit d ≡ 45 → ⊥
    dash d e = grind (arith, e)
take-same (Some a) None g h e = absurd (dash a (ap (λ w. get_or w 0 0) e))
  where
    dash : (d : ℕ) → digit d ≡ 45 → ⊥
    dash d e = grind (arith, e)

literal-same : (a b : ℤ) → 0 < variable a → variable a < 2 ^ 31 → 0 < variable b → variable b < 2 ^ 31 → literal_word a ≡ literal_word b → a ≡ b
literal-same (pos m) (pos n) a g b h e = ap pos (numbers-same m n (omega (arith, g)) (omega (arith, h)) e)
literal-same (negsuc m) (negsuc n) a g b h e =
    ap negsuc (let f = numbers-same (suc m) (suc n) (omega (arith, g)) (omega (arith, h)) (ap (drop 1) e) in omega (arith, f))
literal-same (pos m) (negsuc n) a g b h e = absurd (let f = ap (λ w. get_or w 0 0) e in let d = first_decimal m a (omega (arith, g)) in omega (arith, f, d))
literal-same (negsuc m) (pos n) a g b h e = absurd (let f = ap (λ w. get_or w 0 0) e in let d = first_decimal n b (omega (arith, h)) in omega (arith, f, d))

pub literals-same : (i j : ℕ) (xs ys : List ℤ) → AreRising i xs → AreRising j ys → map literal_word xs ≡ map literal_word ys → xs ≡ ys
literals-same i j [] [] g h e = refl
literals-same i j (x ∷ xs) (y ∷ ys) g h e =
    ap (λ k. k ∷ xs) (literal-same x y (omega (arith, g.0)) g.1 (omega (arith, h.0)) h.1 (ap (λ ws. get_or ws 0 []) e))
    ∙ ap (λ ks. y ∷ ks) (literals-same (variable x) (variable y) xs ys g.2 h.2 (ap (drop 1) e))
literals-same i j [] (y ∷ ys) g h e = absurd (let f = ap length e in omega (arith, f))
literals-same i j (x ∷ xs) [] g h e = absurd (let f = ap length e in omega (arith, f))

pub fit-literals-same : (xs ys : List ℤ) → AllByRecursion IsLiteral xs → AllByRecursion IsLiteral ys → map literal_word xs ≡ map literal_word ys → xs ≡ ys
fit-literals-same [] [] g h e = refl
fit-literals-same (x ∷ xs) (y ∷ ys) g h e =
    ap (λ k. k ∷ xs) (literal-same x y g.0.nonzero g.0.within h.0.nonzero h.0.within (ap (λ ws. get_or ws 0 []) e))
    ∙ ap (λ ks. y ∷ ks) (fit-literals-same xs ys g.1 h.1 (ap (drop 1) e))
fit-literals-same [] (y ∷ ys) g h e = absurd (let f = ap length e in omega (arith, f))
fit-literals-same (x ∷ xs) [] g h e = absurd (let f = ap length e in omega (arith, f))

free-same : (a b : Bool) → cond a (codes "any") (codes "lit") ≡ cond b (codes "any") (codes "lit") → a ≡ b
free-same true true e = refl
free-same false false e = refl
free-same true false e = absurd (let f = ap (λ w. get_or w 0 0) e in omega (arith, f))
free-same false true e = absurd (let f = ap (λ w. get_or w 0 0) e in omega (arith, f))

-- the first and the fifth byte of the first word tell the kinds apart
tag : List (List ℕ) → ℕ
tag ws = get_or (get_or ws 0 []) 0 0 * 256 + get_or (get_or ws 0 []) 4 0

pub words-same : (x y : Item) → IsItem x → IsItem y → words_of x ≡ words_of y → x ≡ y
unfolding tag
words-same Title Title g h e = refl
words-same Open Open g h e = refl
words-same (GuestLine a) (GuestLine b) g h e =
    ap (λ w. let k : Guest = record { word = w; free = a.free } in GuestLine k) (word-same a.word b.word g h (ap (λ ws. get_or ws 1 []) e))
    ∙ ap (λ f. let k : Guest = record { word = b.word; free = f } in GuestLine k) (free-same a.free b.free (ap (λ ws. get_or ws 2 []) e))
words-same (At a) (At b) g h e = ap At (slots-same a b (ap (λ ws. get_or ws 1 []) e))
words-same (Dead a) (Dead b) g h e = ap Dead (dead-same a b g h (ap (λ ws. get_or ws 1 []) e))
words-same (Host a) (Host b) g h e =
    ap (λ (o : Op). let k : HostLine = record { op = o; hole = a.hole } in Host k) (op-same a.op b.op g.0 h.0 (ap (λ ws. get_or ws 1 []) e))
    ∙ ap (λ (o : Option (Hole × ℕ)). let k : HostLine = record { op = b.op; hole = o } in Host k) (hole-same a.hole b.hole g.1 h.1 (ap (λ ws. get_or ws 2 []) e))
words-same (Take a) (Take b) g h e = ap Take (take-same a b g h (ap (λ ws. get_or ws 1 []) e))
words-same (Clause a) (Clause b) g h e = ap Clause (literals-same 0 0 a b g h (snoc-same (map literal_word a) (map literal_word b) (codes "0") (codes "0") (ap (drop 1) e)).0)
words-same End End g h e = refl
words-same _ _ g h e = absurd (let f = ap tag e in omega (arith, f))
