-- A grammar of lines that are read one by one, and what it takes for its first bad lines to be found.
use Rattle.std.proofs.Common.{◌≡◌, ℕ, ◌++◌, List, [], ◌∷◌, length, get_or, drop, map, Option, Some, None, refl, sym, ap, subst, ◌∙◌, arith, append_assoc, length-append}
use Rattle.std.specs.List.{AllByRecursion, flat_map}
use Rattle.std.proofs.lemmas.List.{map-append, length-map}
use Rattle.line_text.specs.Lines.{line_of, lines_of}
use Rattle.line_text.specs.FirstBad.{Begins}
use Rattle.line_text.proofs.Lines.{AreWords, words-of-line, line-then}

-- What lines say, what is known after some of them, and what a whole text says.
pub record Grammar : Type 1 where
  pub Item : Type 0
  pub State : Type 0
  pub Whole : Type 0
  -- how an item is written, for the items that can be
  pub words_of : Item → List (List ℕ)
  pub IsItem : Item → Type 0
  pub items_of : Whole → List Item
  pub IsWhole : Whole → Type 0
  -- what is known before the first line, after one more line, and after a whole text
  pub start : State
  pub next : State → Item → Option State
  pub ended : Whole → State
  -- the lines that lead to a state, and the states that a text can reach
  pub shown : State → List Item
  pub IsGood : State → Type 0

abbrev pub after : (g : Grammar) → Option g.State → g.Item → Option g.State
after g None x = None
after g (Some s) x = g.next s x

abbrev pub run : (g : Grammar) → Option g.State → List g.Item → Option g.State
run g s [] = s
run g s (x ∷ xs) = run g (after g s x) xs

pub record IsGrammar (g : Grammar) : Type 0 where
  pub are_words : (x : g.Item) → g.IsItem x → AreWords (g.words_of x)
  pub words_same : (x y : g.Item) → g.IsItem x → g.IsItem y → g.words_of x ≡ g.words_of y → x ≡ y
  -- each text is read whole, and what was read is shown
  pub runs : (w : g.Whole) → run g (Some g.start) (g.items_of w) ≡ Some (g.ended w)
  pub starts : g.shown g.start ≡ []
  pub shows : (s : g.State) (x : g.Item) (t : g.State) → g.next s x ≡ Some t → g.shown t ≡ g.shown s ++ x ∷ []
  pub ended_same : (v w : g.Whole) → g.ended v ≡ g.ended w → v ≡ w
  -- a good state was reached by good ones alone, its lines can be written, and a text begins with them
  pub start_good : g.IsGood g.start
  pub before : (s : g.State) (x : g.Item) (t : g.State) → g.next s x ≡ Some t → g.IsGood t → g.IsGood s
  pub fits : (s : g.State) → g.IsGood s → AllByRecursion g.IsItem (g.shown s)
  pub closes : (s : g.State) → g.IsGood s → (w : g.Whole) × g.IsWhole w × (zs : List g.Item) × (g.items_of w ≡ g.shown s ++ zs)
  pub whole_good : (w : g.Whole) → g.IsWhole w → g.IsGood (g.ended w)
  pub good_whole : (w : g.Whole) → g.IsGood (g.ended w) → g.IsWhole w

-- the line of an item, and the lines of a text
abbrev pub line : (g : Grammar) → g.Item → List ℕ
line g x = line_of (g.words_of x)

abbrev pub IsText : (g : Grammar) → List (List ℕ) → Type 0
IsText g lines = (w : g.Whole) × g.IsWhole w × (lines ≡ map (line g) (g.items_of w))

pub append-nil : {A : Type 0} (xs : List A) → xs ++ [] ≡ xs
append-nil [] = refl
append-nil (x ∷ xs) = ap (λ ys. x ∷ ys) (append-nil xs)

pub all-append : {X : Type 0} (P : X → Type 0) (xs ys : List X) → AllByRecursion P xs → AllByRecursion P ys → AllByRecursion P (xs ++ ys)
all-append P [] ys a b = b
all-append P (x ∷ xs) ys a b = (a.0, all-append P xs ys a.1 b)

module _ (g : Grammar) where
  pub run-append : (s : Option g.State) (xs ys : List g.Item) → run g s (xs ++ ys) ≡ run g (run g s xs) ys
  run-append s [] ys = refl
  run-append s (x ∷ xs) ys = run-append (after g s x) xs ys

  pub run-none : (xs : List g.Item) → run g None xs ≡ None
  run-none [] = refl
  run-none (x ∷ xs) = run-none xs

module _ (g : Grammar) (h : IsGrammar g) where
  pub run-shows : (xs : List g.Item) (s t : g.State) → run g (Some s) xs ≡ Some t → g.shown t ≡ g.shown s ++ xs
  run-shows [] s t e = let same : t ≡ s = cc in ap g.shown same ∙ sym (append-nil (g.shown s))
  run-shows (x ∷ xs) s t e = go (g.next s x) refl e (λ u. run-shows xs u t)
    where
      go : (o : Option g.State) → g.next s x ≡ o → run g o xs ≡ Some t → ((u : g.State) → run g (Some u) xs ≡ Some t → g.shown t ≡ g.shown u ++ xs) → g.shown t ≡ g.shown s ++ x ∷ xs
      go None is ran more = absurd (let f : None ≡ Some t = sym (run-none g xs) ∙ ran in cc)
      go (Some u) is ran more = more u ran ∙ ap (λ ys. ys ++ xs) (h.shows s x u is) ∙ append_assoc (g.shown s) (x ∷ []) xs

  -- the states on the way to a good one are good
  pub run-before : (xs : List g.Item) (s t : g.State) → run g (Some s) xs ≡ Some t → g.IsGood t → g.IsGood s
  run-before [] s t e good = let same : t ≡ s = cc in subst g.IsGood same good
  run-before (x ∷ xs) s t e good = go (g.next s x) refl e (λ u ran. run-before xs u t ran good)
    where
      go : (o : Option g.State) → g.next s x ≡ o → run g o xs ≡ Some t → ((u : g.State) → run g (Some u) xs ≡ Some t → g.IsGood u) → g.IsGood s
      go None is ran more = absurd (let f : None ≡ Some t = sym (run-none g xs) ∙ ran in cc)
      go (Some u) is ran more = h.before s x u is (more u ran)

  pub ended-shows : (w : g.Whole) → g.shown (g.ended w) ≡ g.items_of w
  ended-shows w = run-shows (g.items_of w) g.start (g.ended w) (h.runs w) ∙ ap (λ xs. xs ++ g.items_of w) h.starts

  -- the lines of a text can be written
  pub items-fit : (w : g.Whole) → g.IsWhole w → AllByRecursion g.IsItem (g.items_of w)
  items-fit w is = subst (AllByRecursion g.IsItem) (ended-shows w) (h.fits (g.ended w) (h.whole_good w is))

  pub line-same : (x y : g.Item) → g.IsItem x → g.IsItem y → line g x ≡ line g y → x ≡ y
  line-same x y a b e = h.words_same x y a b (words-of-line (g.words_of x) (g.words_of y) (h.are_words x a) (h.are_words y b) e)

  -- a text's lines are its lines again
  pub lines-of : (items : List g.Item) → AllByRecursion g.IsItem items → lines_of (flat_map (line g) items) ≡ map (line g) items
  lines-of [] a = refl
  lines-of (x ∷ xs) a = line-then (g.words_of x) (flat_map (line g) xs) (h.are_words x a.0) ∙ ap (λ ls. line g x ∷ ls) (lines-of xs a.1)

  pub prefix-items : (xs ys : List g.Item) (more : List (List ℕ)) → AllByRecursion g.IsItem xs → AllByRecursion g.IsItem ys
      → map (line g) ys ≡ map (line g) xs ++ more → (zs : List g.Item) × (ys ≡ xs ++ zs)
  prefix-items [] ys more a b e = (ys, refl)
  prefix-items (x ∷ xs) [] more a b e = absurd (let f = ap length e in omega (arith, f))
  prefix-items (x ∷ xs) (y ∷ ys) more a b e =
      let rest = prefix-items xs ys more a.1 b.1 (ap (drop 1) e) in
      let head = line-same y x b.0 a.0 (ap (λ ls. get_or ls 0 []) e) in
      (rest.0, ap (λ z. z ∷ ys) head ∙ ap (λ zs. x ∷ zs) rest.1)

  member : (xs : List (List ℕ)) (ys : List g.Item) (l : List ℕ) (more : List (List ℕ)) → AllByRecursion g.IsItem ys → map (line g) ys ≡ xs ++ l ∷ more → (x : g.Item) × g.IsItem x × (l ≡ line g x)
  member xs [] l more a e = absurd (let f = ap length e in let k = length-append xs (l ∷ more) in omega (arith, f, k))
  member [] (y ∷ ys) l more a e = (y, a.0, sym (ap (λ ls. get_or ls 0 []) e))
  member (x ∷ xs) (y ∷ ys) l more a e = member xs ys l more a.1 (ap (drop 1) e)

  -- a line that is no item's begins no text
  pub unknown : (lines : List (List ℕ)) (l : List ℕ) → ((x : g.Item) → g.IsItem x → l ≡ line g x → ⊥) → Begins (IsText g) (lines ++ l ∷ []) → ⊥
  unknown lines l none b =
      let w = b.whole.0 in
      let m = member lines (g.items_of w) l b.more (items-fit w b.whole.1) (sym b.whole.2 ∙ append_assoc lines (l ∷ []) b.more) in
      none m.0 m.1 m.2

  -- nor does a line that leads to no good state
  pub refused : (items : List g.Item) (s : g.State) (x : g.Item) → run g (Some g.start) items ≡ Some s → ((t : g.State) → g.next s x ≡ Some t → g.IsGood t → ⊥)
      → AllByRecursion g.IsItem items → g.IsItem x → Begins (IsText g) (map (line g) items ++ line g x ∷ []) → ⊥
  refused items s x ran none all one b =
      let w = b.whole.0 in
      let p = prefix-items (items ++ x ∷ []) (g.items_of w) b.more (all-append g.IsItem items (x ∷ []) all (one, tt)) (items-fit w b.whole.1)
      (sym b.whole.2 ∙ ap (λ ls. ls ++ b.more) (sym (map-append (line g) items (x ∷ [])))) in
      let stepped : run g (Some g.start) (g.items_of w) ≡ run g (g.next s x) p.0 =
      ap (run g (Some g.start)) p.1 ∙ run-append g (Some g.start) (items ++ x ∷ []) p.0
      ∙ ap (λ t. run g t p.0) (run-append g (Some g.start) items (x ∷ []) ∙ ap (λ t. run g t (x ∷ [])) ran) in
      go w (g.next s x) refl p.0 (sym stepped ∙ h.runs w) b.whole.1
    where
      go : (w : g.Whole) (o : Option g.State) → g.next s x ≡ o → (zs : List g.Item) → run g o zs ≡ Some (g.ended w) → g.IsWhole w → ⊥
      go w None is zs whole fit = let f : None ≡ Some (g.ended w) = sym (run-none g zs) ∙ whole in cc
      go w (Some t) is zs whole fit = none t is (run-before zs t (g.ended w) whole (h.whole_good w fit))

  -- the lines of a text bring the machine to its end
  pub whole : (items : List g.Item) (w : g.Whole) → AllByRecursion g.IsItem items → g.IsWhole w → map (line g) items ≡ map (line g) (g.items_of w) → run g (Some g.start) items ≡ Some (g.ended w)
  whole items w a is e =
      let p = prefix-items items (g.items_of w) [] a (items-fit w is) (sym e ∙ sym (append-nil (map (line g) items))) in
      let same = all-same p.0 (ap length e) p.1 in
      ap (run g (Some g.start)) same ∙ h.runs w
    where
      all-same : (zs : List g.Item) → length (map (line g) items) ≡ length (map (line g) (g.items_of w)) → g.items_of w ≡ items ++ zs → items ≡ g.items_of w
      all-same [] n is = sym (is ∙ append-nil items)
      all-same (z ∷ zs) n is = absurd (let a = length-map items (line g) in let b = length-map (g.items_of w) (line g) in let c = ap length is in let d = length-append items (z ∷ zs) in omega (arith, n, a, b, c, d))

  -- a good state's lines begin a text
  pub begins-shown : (s : g.State) → g.IsGood s → Begins (IsText g) (map (line g) (g.shown s))
  begins-shown s good =
      let k = h.closes s good in
      record { more = map (line g) k.2; whole = (k.0, k.1, sym (ap (map (line g)) k.3 ∙ map-append (line g) (g.shown s) k.2)) }
