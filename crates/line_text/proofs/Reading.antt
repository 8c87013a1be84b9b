-- What was read of a text decides which line is the first bad one.
use Rattle.std.proofs.Common.{◌≡◌, ◌≢◌, ◌⊎◌, inl, inr, ℕ, zero, suc, ◌+◌, ◌<◌, ◌≤◌, ◌++◌, List, [], ◌∷◌, length, take, drop, map, Some, refl, sym, ap, subst, ◌∙◌, arith, append_assoc, length-append}
use Rattle.std.specs.List.{flat_map}
use Rattle.std.proofs.lemmas.Bool.{cases_lt}
use Rattle.std.proofs.lemmas.List.{map-append, length-map, take-append-drop}
use Rattle.std.proofs.lemmas.Grind.{flat_map-append}
use Rattle.std.proofs.Math.Seq.{take-append_seam, take-append-add, take-length}
use Rattle.line_text.specs.Lines.{lines_of, IsFree}
use Rattle.line_text.specs.FirstBad.{Begins, IsFirstBad}
use Rattle.line_text.proofs.Lines.{line-last, line-first, line-then, no-line}
use Rattle.line_text.proofs.Grammars.{Grammar, IsGrammar, run, line, IsText, append-nil, run-append, items-fit, ended-shows, lines-of, unknown, refused, whole, begins-shown}

-- a good state and the bytes that follow the lines that lead to it; n is the number of the next line
pub record IsRead (g : Grammar) (text rest : List ℕ) (s : g.State) (n : ℕ) : Type 0 where
  pub good : g.IsGood s
  pub ran : run g (Some g.start) (g.shown s) ≡ Some s
  pub lines : lines_of text ≡ map (line g) (g.shown s) ++ lines_of rest
  pub count : n ≡ length (g.shown s) + 1
  pub bytes : text ≡ flat_map (line g) (g.shown s) ++ rest

module _ (g : Grammar) (h : IsGrammar g) where
  -- before the first line
  pub begun : (text : List ℕ) → IsRead g text text g.start 1
  begun text = record {
    good = h.start_good;
    ran = ap (run g (Some g.start)) h.starts;
    lines = ap (λ xs. map (line g) xs ++ lines_of text) (sym h.starts);
    count = ap (λ xs. length xs + 1) (sym h.starts);
    bytes = ap (λ xs. flat_map (line g) xs ++ text) (sym h.starts);
  }

  -- a further line
  pub read-on : (text rest after words : List ℕ) (s t : g.State) (n : ℕ) (x : g.Item) → IsRead g text rest s n → g.IsItem x → g.next s x ≡ Some t → g.IsGood t
      → rest ≡ words ++ 10 ∷ after → words ++ 10 ∷ [] ≡ line g x → IsRead g text after t (n + 1)
  read-on text rest after words s t n x r one is good split same =
      let shown = h.shows s x t is in
      let same_line : rest ≡ line g x ++ after = split ∙ sym (append_assoc words (10 ∷ []) after) ∙ ap (λ l. l ++ after) same in
      record {
        good = good;
        ran = ap (run g (Some g.start)) shown ∙ run-append g (Some g.start) (g.shown s) (x ∷ []) ∙ ap (λ u. run g u (x ∷ [])) r.ran ∙ is;
        lines = r.lines
            ∙ ap (λ bs. map (line g) (g.shown s) ++ lines_of bs) same_line
            ∙ ap (λ ls. map (line g) (g.shown s) ++ ls) (line-then (g.words_of x) after (h.are_words x one))
            ∙ sym (append_assoc (map (line g) (g.shown s)) (line g x ∷ []) (lines_of after))
            ∙ ap (λ ls. ls ++ lines_of after) (sym (map-append (line g) (g.shown s) (x ∷ [])) ∙ ap (map (line g)) (sym shown));
        count = let f = length-append (g.shown s) (x ∷ []) in let k = ap length shown in omega (arith, f, k, r.count);
        bytes = r.bytes ∙ ap (λ bs. flat_map (line g) (g.shown s) ++ bs) same_line ∙ sym (append_assoc (flat_map (line g) (g.shown s)) (line g x) after)
            ∙ ap (λ bs. bs ++ after) (ap (λ bs. flat_map (line g) (g.shown s) ++ bs) (sym (append-nil (line g x))) ∙ sym (flat_map-append (line g) (g.shown s) (x ∷ [])) ∙ ap (flat_map (line g)) (sym shown));
      }

  -- the line after those that were read is bad
  bad-line : (text rest : List ℕ) (s : g.State) (n : ℕ) (l : List ℕ) (more : List (List ℕ)) → IsRead g text rest s n → lines_of rest ≡ l ∷ more
      → (Begins (IsText g) (map (line g) (g.shown s) ++ l ∷ []) → ⊥) → IsFirstBad (IsText g) text n
  bad-line text rest s n l more r is none =
      let shown = map (line g) (g.shown s) in
      let all : lines_of text ≡ shown ++ l ∷ more = r.lines ∙ ap (λ ls. shown ++ ls) is in
      let count : n ≡ length shown + 1 = (let f = length-map (g.shown s) (line g) in omega (arith, f, r.count)) in
      let front : take (length shown) (lines_of text) ≡ shown = ap (take (length shown)) all ∙ take-append_seam shown (l ∷ more) in
      let longer : take n (lines_of text) ≡ shown ++ l ∷ [] = ap (take n) all ∙ ap (λ k. take k (shown ++ l ∷ more)) count ∙ take-append-add shown (l ∷ more) 1 in
      let lengths : length (lines_of text) ≡ length shown + length (l ∷ more) = ap length all ∙ length-append shown (l ∷ more) in
      record {
        good = length shown;
        is = count;
        before = subst (Begins (IsText g)) (sym front) (begins-shown g h s r.good);
        bad = inl (omega (arith, lengths), λ b. none (subst (Begins (IsText g)) longer b));
      }

  lines-rest : (rest words after : List ℕ) → IsFree 10 words → rest ≡ words ++ 10 ∷ after → lines_of rest ≡ (words ++ 10 ∷ []) ∷ lines_of after
  lines-rest rest words after free is = ap lines_of is ∙ line-first words after free

  -- a line that is none
  pub bad-unknown : (text rest words after : List ℕ) (s : g.State) (n : ℕ) → IsRead g text rest s n → IsFree 10 words → rest ≡ words ++ 10 ∷ after
      → ((x : g.Item) → g.IsItem x → words ++ 10 ∷ [] ≢ line g x) → IsFirstBad (IsText g) text n
  bad-unknown text rest words after s n r free is none =
      bad-line text rest s n (words ++ 10 ∷ []) (lines_of after) r (lines-rest rest words after free is) (unknown g h (map (line g) (g.shown s)) (words ++ 10 ∷ []) none)

  -- a line that may not stand there
  pub bad-place : (text rest words after : List ℕ) (s : g.State) (n : ℕ) (x : g.Item) → IsRead g text rest s n → IsFree 10 words → rest ≡ words ++ 10 ∷ after
      → g.IsItem x → words ++ 10 ∷ [] ≡ line g x → ((t : g.State) → g.next s x ≡ Some t → g.IsGood t → ⊥) → IsFirstBad (IsText g) text n
  bad-place text rest words after s n x r free is one same none =
      bad-line text rest s n (line g x) (lines_of after) r (lines-rest rest words after free is ∙ ap (λ l. l ∷ lines_of after) same)
      (refused g h (g.shown s) s x r.ran none (h.fits s r.good) one)

  -- bytes behind the last line feed
  pub bad-rest : (text rest : List ℕ) (s : g.State) (n : ℕ) → IsRead g text rest s n → IsFree 10 rest → 0 < length rest → IsFirstBad (IsText g) text n
  bad-rest text [] s n r free some = absurd (omega (arith, some))
  bad-rest text (b ∷ bs) s n r free some =
      bad-line text (b ∷ bs) s n (b ∷ bs) [] r (line-last b bs free) (unknown g h (map (line g) (g.shown s)) (b ∷ bs) (λ x one e. no-line (b ∷ bs) (g.words_of x) free e))

  -- the text ends early
  pub bad-end : (text : List ℕ) (s : g.State) (n : ℕ) → IsRead g text [] s n → ((w : g.Whole) → s ≢ g.ended w) → IsFirstBad (IsText g) text n
  bad-end text s n r not =
      let shown = map (line g) (g.shown s) in
      let all : lines_of text ≡ shown = r.lines ∙ append-nil shown in
      record {
        good = length shown;
        is = (let f = length-map (g.shown s) (line g) in omega (arith, f, r.count));
        before = subst (Begins (IsText g)) (sym (ap (λ ls. take (length shown) ls) all ∙ take-length shown)) (begins-shown g h s r.good);
        bad = inr (
          sym (ap length all),
          λ t.
              let ran = whole g h (g.shown s) t.0 (h.fits s r.good) t.1 (sym all ∙ t.2) in
              let same : s ≡ g.ended t.0 = (let f : Some s ≡ Some (g.ended t.0) = sym r.ran ∙ ran in cc) in
              not t.0 same,
        );
      }

  -- the text ends where it may
  pub good-end : (text : List ℕ) (w : g.Whole) (n : ℕ) → IsRead g text [] (g.ended w) n → g.IsWhole w × (text ≡ flat_map (line g) (g.items_of w))
  good-end text w n r =
      (h.good_whole w r.good, r.bytes ∙ append-nil (flat_map (line g) (g.shown (g.ended w))) ∙ ap (flat_map (line g)) (ended-shows g h w))

  -- what has one text is one
  pub text-same : (v w : g.Whole) → g.IsWhole v → g.IsWhole w → flat_map (line g) (g.items_of v) ≡ flat_map (line g) (g.items_of w) → v ≡ w
  text-same v w a b e =
      let ran = whole g h (g.items_of v) w (items-fit g h v a) b (sym (lines-of g h (g.items_of v) (items-fit g h v a)) ∙ ap lines_of e ∙ lines-of g h (g.items_of w) (items-fit g h w b)) in
      h.ended_same v w (let f : Some (g.ended v) ≡ Some (g.ended w) = sym (h.runs v) ∙ ran in cc)

  -- no line of a text is bad
  pub text-good : (text : List ℕ) (n : ℕ) (w : g.Whole) → g.IsWhole w → text ≡ flat_map (line g) (g.items_of w) → IsFirstBad (IsText g) text n → ⊥
  text-good text n w a is f = go f.bad
    where
      lines : lines_of text ≡ map (line g) (g.items_of w)
      lines = ap lines_of is ∙ lines-of g h (g.items_of w) (items-fit g h w a)

      go : ((f.good < length (lines_of text)) × (Begins (IsText g) (take n (lines_of text)) → ⊥)) ⊎ ((f.good ≡ length (lines_of text)) × (IsText g (lines_of text) → ⊥)) → ⊥
      go (inl k) = k.1 (record { more = drop n (lines_of text); whole = (w, a, take-append-drop n (lines_of text) ∙ lines) })
      go (inr k) = k.1 (w, a, lines)

take-take : {A : Type 0} (m n : ℕ) (xs : List A) → m ≤ n → take m (take n xs) ≡ take m xs
take-take zero n xs below = refl
take-take (suc m) zero xs below = absurd (omega (arith, below))
take-take (suc m) (suc n) [] below = refl
take-take (suc m) (suc n) (x ∷ xs) below = ap (λ ys. x ∷ ys) (take-take m n xs (omega (arith, below)))

module _ (P : List (List ℕ) → Type 0) where
  -- fewer lines begin a text too
  begins-less : (lines : List (List ℕ)) (m : ℕ) → Begins P lines → Begins P (take m lines)
  begins-less lines m b = record {
    more = drop m lines ++ b.more;
    whole = subst P (ap (λ ls. ls ++ b.more) (sym (take-append-drop m lines)) ∙ append_assoc (take m lines) (drop m lines) b.more) b.whole;
  }

  -- a bad line is no earlier than another
  not-before : (text : List ℕ) (m n : ℕ) → IsFirstBad P text m → IsFirstBad P text n → m < n → ⊥
  not-before text m n f g less = go f.bad
    where
      inside : g.good ≤ length (lines_of text)
      inside = elim g.bad as (λ _. g.good ≤ length (lines_of text)) [ inl k ↦ omega (arith, k.0) | inr k ↦ omega (arith, k.0) ]

      go : ((f.good < length (lines_of text)) × (Begins P (take m (lines_of text)) → ⊥)) ⊎ ((f.good ≡ length (lines_of text)) × (P (lines_of text) → ⊥)) → ⊥
      go (inl k) = k.1 (subst (Begins P) (take-take m g.good (lines_of text) (omega (arith, less, g.is))) (begins-less (take g.good (lines_of text)) m g.before))
      go (inr k) = absurd (omega (arith, less, f.is, g.is, k.0, inside))

  pub first-once : (text : List ℕ) (m n : ℕ) → IsFirstBad P text m → IsFirstBad P text n → m ≡ n
  first-once text m n f g = go (cases_lt m n) (cases_lt n m)
    where
      go : (m < n) ⊎ (n ≤ m) → (n < m) ⊎ (m ≤ n) → m ≡ n
      go (inl less) more = absurd (not-before text m n f g less)
      go (inr a) (inl less) = absurd (not-before text n m g f less)
      go (inr a) (inr b) = omega (arith, a, b)
