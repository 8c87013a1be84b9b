-- Words and the lines that they make.
use Rattle.std.proofs.Common.{◌≡◌, ℕ, ◌<◌, ◌++◌, ◌==◌, List, [], ◌∷◌, length, get_or, drop, refl, sym, ap, subst, ◌∙◌, arith, false, length-append, append_assoc}
use Rattle.std.specs.List.{AllByRecursion, join_with_byte, slice_split}
use Rattle.std.proofs.lemmas.List.Splits.{slice_split_none, slice_split_at}
use Rattle.line_text.specs.Lines.{line_of, lines_of, IsFree}
use Rattle.line_text.proofs.Cuts.{all-free, same, cut-none}

-- words that can be told apart in a line: there is one, and none has a space or a line feed
abbrev pub AreWords : List (List ℕ) → Type 0
AreWords ws = (0 < length ws) × AllByRecursion (IsFree 32) ws × AllByRecursion (IsFree 10) ws

-- words without the separator are what is split again
pub split-join : (by : ℕ) (w : List ℕ) (ws : List (List ℕ)) → AllByRecursion (IsFree by) (w ∷ ws) → slice_split (λ b. b == by) (join_with_byte by (w ∷ ws)) ≡ w ∷ ws
split-join by w [] h = slice_split_none (λ b. b == by) w (all-free by w h.0)
split-join by w (v ∷ ws) h = slice_split_at (λ b. b == by) w by (join_with_byte by (v ∷ ws)) (all-free by w h.0) (same by) ∙ ap (λ vs. w ∷ vs) (split-join by v ws h.1)

free-append : (by : ℕ) (xs ys : List ℕ) → IsFree by xs → IsFree by ys → IsFree by (xs ++ ys)
free-append by [] ys a b = b
free-append by (x ∷ xs) ys a b = (a.0, free-append by xs ys a.1 b)

free-join : (by by' : ℕ) (ws : List (List ℕ)) → (by' == by) ≡ false → AllByRecursion (IsFree by) ws → IsFree by (join_with_byte by' ws)
free-join by by' [] not h = tt
free-join by by' (w ∷ []) not h = h.0
free-join by by' (w ∷ v ∷ ws) not h = free-append by w (by' ∷ join_with_byte by' (v ∷ ws)) h.0 (not, free-join by by' (v ∷ ws) not h.1)

-- a line ends at its line feed
pub line-first : (line rest : List ℕ) → IsFree 10 line → lines_of (line ++ 10 ∷ rest) ≡ (line ++ 10 ∷ []) ∷ lines_of rest
line-first [] rest h = refl
line-first (b ∷ bs) rest h = rw h.0 (rw (line-first bs rest h.1) refl)

-- bytes without a line feed are one line
pub line-last : (b : ℕ) (bs : List ℕ) → IsFree 10 (b ∷ bs) → lines_of (b ∷ bs) ≡ (b ∷ bs) ∷ []
line-last b [] h = rw h.0 refl
line-last b (c ∷ bs) h = rw h.0 (rw (line-last c bs h.1) refl)

pub snoc-same : {A : Type 0} (xs ys : List A) (a b : A) → xs ++ a ∷ [] ≡ ys ++ b ∷ [] → (xs ≡ ys) × (a ≡ b)
snoc-same [] [] a b e = (refl, ap (λ zs. get_or zs 0 a) e)
snoc-same (x ∷ xs) (y ∷ ys) a b e =
    let h = snoc-same xs ys a b (ap (drop 1) e) in
    let f : x ≡ y = ap (λ zs. get_or zs 0 x) e in
    (ap (λ z. z ∷ xs) f ∙ ap (λ zs. y ∷ zs) h.0, h.1)
snoc-same [] (y ∷ ys) a b e = absurd (let f = ap length e in let g = length-append ys (b ∷ []) in omega (arith, f, g))
snoc-same (x ∷ xs) [] a b e = absurd (let f = ap length e in let g = length-append xs (a ∷ []) in omega (arith, f, g))

pub split-words : (ws : List (List ℕ)) → AreWords ws → slice_split (λ b. b == 32) (join_with_byte 32 ws) ≡ ws
split-words [] h = absurd (let f = h.0 in omega (arith, f))
split-words (w ∷ ws) h = split-join 32 w ws h.1

-- a line is that of one list of words
pub words-of-line : (vs ws : List (List ℕ)) → AreWords vs → AreWords ws → line_of vs ≡ line_of ws → vs ≡ ws
words-of-line vs ws g h e = sym (split-words vs g) ∙ ap (slice_split (λ b. b == 32)) (snoc-same _ _ 10 10 e).0 ∙ split-words ws h

pub free-line : (ws : List (List ℕ)) → AreWords ws → IsFree 10 (join_with_byte 32 ws)
free-line ws h = free-join 10 32 ws refl h.2

-- the line before more bytes
pub line-then : (ws : List (List ℕ)) (rest : List ℕ) → AreWords ws → lines_of (line_of ws ++ rest) ≡ line_of ws ∷ lines_of rest
line-then ws rest h = ap lines_of (append_assoc (join_with_byte 32 ws) (10 ∷ []) rest) ∙ line-first (join_with_byte 32 ws) rest (free-line ws h)

-- bytes without a line feed are no line
pub no-line : (bs : List ℕ) (ws : List (List ℕ)) → IsFree 10 bs → bs ≡ line_of ws → ⊥
no-line bs ws free is = cut-none 10 (join_with_byte 32 ws) [] (subst (IsFree 10) is free)
