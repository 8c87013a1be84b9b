-- The grammar of plan texts: each text is read, what was read is shown, and each good state can be closed. This project's own.
use Rattle.std.proofs.Common.{◌≡◌, ℕ, ◌+◌, ◌≤◌, ◌^◌, ◌==◌, ◌++◌, List, [], ◌∷◌, length, map, Option, Some, None, refl, sym, ap, subst, ◌∙◌, arith, append_assoc, Bool, true, false, cond, length-append}
use Rattle.std.specs.List.{AllByRecursion, flat_map}
use Rattle.std.proofs.lemmas.Grind.{flat_map-append}
use Rattle.std.proofs.lemmas.List.{map-append}
use Rattle.line_text.proofs.Grammars.{Grammar, IsGrammar, run, append-nil, all-append, run-append}
use Rattle.plan_form.specs.Prelude.{Step, Item, Title, Head, Does, Row, End, BlockText, IsWrittenStep, AreWrittenLabels, IsWritten, AreWritten, rows, opened, items_of, words_of, IsItem, State, Start, Between, Within, next, shown, IsGood}
use Rattle.plan_form.proofs.TextWords.{are-words, words-same}

abbrev pub plans : Grammar
plans = record {
  Item = Item;
  State = State;
  Whole = List BlockText;
  words_of = words_of;
  IsItem = IsItem;
  items_of = items_of;
  IsWhole = AreWritten;
  start = Start;
  next = next;
  ended = Between;
  shown = shown;
  IsGood = IsGood;
}

-- Each text is read whole.
cond-true : {A : Type 0} (b : Bool) (x y : A) → b ≡ true → cond b x y ≡ x
cond-true b x y e = rw e refl

equal : (m n : ℕ) → m ≡ n → (m == n) ≡ true
equal m n e = grind (arith, e)

module _ (done : List BlockText) (b : BlockText) where
  -- the block with these steps and labels
  abbrev at : List Step → List (List ℕ) → Option State
  at steps labels = Some (Within done (record b { steps = steps; labels = labels }))

  run-steps : (steps more : List Step) → run plans (at steps []) (map Does more) ≡ at (steps ++ more) []
  run-steps steps [] = ap (λ l. at l []) (sym (append-nil steps))
  run-steps steps (step ∷ more) = run-steps (steps ++ step ∷ []) more ∙ ap (λ l. at l []) (append_assoc steps (step ∷ []) more)

  run-rows : (labels more : List (List ℕ)) (p : ℕ) → p ≡ length labels → run plans (at b.steps labels) (rows p more) ≡ at b.steps (labels ++ more)
  run-rows labels [] p is = ap (at b.steps) (sym (append-nil labels))
  run-rows labels (row ∷ more) p is =
      ap (λ s. run plans s (rows (p + 1) more)) (cond-true (p == length labels) (at b.steps (labels ++ row ∷ [])) None (equal p (length labels) is))
      ∙ run-rows (labels ++ row ∷ []) more (p + 1) (let f = length-append labels (row ∷ []) in omega (arith, is, f))
      ∙ ap (at b.steps) (append_assoc labels (row ∷ []) more)

  run-opened : run plans (Some (Between done)) (opened b) ≡ Some (Within done b)
  run-opened = run-append plans (at [] []) (map Does b.steps) (rows 0 b.labels) ∙ ap (λ s. run plans s (rows 0 b.labels)) (run-steps [] b.steps) ∙ run-rows [] b.labels 0 refl

abbrev whole : BlockText → List Item
whole b = opened b ++ End ∷ []

run-blocks : (done more : List BlockText) → run plans (Some (Between done)) (flat_map whole more) ≡ Some (Between (done ++ more))
run-blocks done [] = ap (λ l. Some (Between l)) (sym (append-nil done))
run-blocks done (b ∷ more) =
    run-append plans (Some (Between done)) (whole b) (flat_map whole more)
    ∙ ap (λ s. run plans s (flat_map whole more)) (run-append plans (Some (Between done)) (opened b) (End ∷ []) ∙ ap (λ s. run plans s (End ∷ [])) (run-opened done b))
    ∙ run-blocks (done ++ b ∷ []) more ∙ ap (λ l. Some (Between l)) (append_assoc done (b ∷ []) more)

-- What was read is shown.
items-append : (done : List BlockText) (b : BlockText) → items_of (done ++ b ∷ []) ≡ items_of done ++ whole b
items-append done b = ap (λ xs. Title ∷ xs) (flat_map-append whole done (b ∷ []) ∙ ap (λ l. flat_map whole done ++ l) (append-nil (whole b)))

some-same : (a b : State) → Some a ≡ Some b → a ≡ b
some-same a b e = cc

chosen : (b : Bool) (s t : State) → cond b (Some s) None ≡ Some t → (b ≡ true) × (s ≡ t)
chosen true s t e = (refl, some-same s t e)
chosen false s t e = absurd (let none : None ≡ Some t = e in cc)

equal-from : (m n : ℕ) → (m == n) ≡ true → m ≡ n
equal-from m n e = grind (arith, e)

pub rows-more : (p q : ℕ) (labels : List (List ℕ)) (row : List ℕ) → q ≡ p + length labels → rows p (labels ++ row ∷ []) ≡ rows p labels ++ Row q row ∷ []
rows-more p q [] row is = ap (λ n. Row n row ∷ []) (omega (arith, is))
rows-more p q (first ∷ labels) row is = ap (λ xs. Row p first ∷ xs) (rows-more (p + 1) q labels row (omega (arith, is)))

empty : {A : Type 0} (xs : List A) → length xs ≡ 0 → xs ≡ []
empty [] e = refl
empty (x ∷ xs) e = absurd (omega (arith, e))

opened-step : (b : BlockText) (step : Step) → length b.labels ≡ 0 → opened (record b { steps = b.steps ++ step ∷ [] }) ≡ opened b ++ Does step ∷ []
opened-step b step none =
    ap (λ xs. Head b.at b.words b.entry b.exit ∷ xs)
    (ap (λ ls. map Does (b.steps ++ step ∷ []) ++ rows 0 ls) (empty b.labels none) ∙ append-nil (map Does (b.steps ++ step ∷ []))
    ∙ map-append Does b.steps (step ∷ [])
    ∙ ap (λ xs. xs ++ Does step ∷ []) (sym (append-nil (map Does b.steps)) ∙ ap (λ ls. map Does b.steps ++ rows 0 ls) (sym (empty b.labels none))))

opened-row : (b : BlockText) (p : ℕ) (row : List ℕ) → p ≡ length b.labels → opened (record b { labels = b.labels ++ row ∷ [] }) ≡ opened b ++ Row p row ∷ []
opened-row b p row is = ap (λ xs. Head b.at b.words b.entry b.exit ∷ xs) (ap (λ xs. map Does b.steps ++ xs) (rows-more 0 p b.labels row (omega (arith, is))) ∙ sym (append_assoc (map Does b.steps) (rows 0 b.labels) (Row p row ∷ [])))

-- a line more of a block
line-more : (done : List BlockText) (b c : BlockText) (x : Item) (t : State) → Within done c ≡ t → opened c ≡ opened b ++ x ∷ [] → shown t ≡ (items_of done ++ opened b) ++ x ∷ []
line-more done b c x t e is = ap shown (sym e) ∙ ap (λ xs. items_of done ++ xs) is ∙ sym (append_assoc (items_of done) (opened b) (x ∷ []))

shows : (s : State) (x : Item) (t : State) → next s x ≡ Some t → shown t ≡ shown s ++ x ∷ []
shows Start Title t e = ap shown (sym (some-same (Between []) t e))
shows (Between done) (Head a w n x) t e = ap shown (sym (some-same (Within done (record { at = a; words = w; entry = n; exit = x; steps = []; labels = [] })) t e))
shows (Within done b) (Does step) t e =
    let c = record b { steps = b.steps ++ step ∷ [] } in
    let h = chosen (length b.labels == 0) (Within done c) t e in
    line-more done b c (Does step) t h.1 (opened-step b step (equal-from (length b.labels) 0 h.0))
shows (Within done b) (Row p row) t e =
    let c = record b { labels = b.labels ++ row ∷ [] } in
    let h = chosen (p == length b.labels) (Within done c) t e in
    line-more done b c (Row p row) t h.1 (opened-row b p row (equal-from p (length b.labels) h.0))
shows (Within done b) End t e = ap shown (sym (some-same (Between (done ++ b ∷ [])) t e)) ∙ items-append done b ∙ sym (append_assoc (items_of done) (opened b) (End ∷ []))
shows _ _ t e = absurd (let none : None ≡ Some t = e in cc)

-- Good states come from good ones, and a line that fits leads to one.
all-less : {X : Type 0} (P : X → Type 0) (xs ys : List X) → AllByRecursion P (xs ++ ys) → AllByRecursion P xs
all-less P [] ys h = tt
all-less P (x ∷ xs) ys h = (h.0, all-less P xs ys h.1)

all-last : {X : Type 0} (P : X → Type 0) (xs : List X) (y : X) → AllByRecursion P (xs ++ y ∷ []) → P y
all-last P [] y h = h.0
all-last P (x ∷ xs) y h = all-last P xs y h.1

back : (s t : State) → s ≡ t → IsGood t → IsGood s
back s t e h = subst IsGood (sym e) h

before : (s : State) (x : Item) (t : State) → next s x ≡ Some t → IsGood t → IsGood s
before Start Title t e h = tt
before (Between done) (Head a w n x) t e h = (back (Within done (record { at = a; words = w; entry = n; exit = x; steps = []; labels = [] })) t (some-same _ t e) h).0
before (Within done b) (Does step) t e h =
    let c = record b { steps = b.steps ++ step ∷ [] } in
    let k = back (Within done c) t (chosen (length b.labels == 0) (Within done c) t e).1 h in
    (k.0, record { at = k.1.at; words = k.1.words; entry = k.1.entry; exit = k.1.exit; steps = all-less IsWrittenStep b.steps (step ∷ []) k.1.steps; places = k.1.places; labels = k.1.labels })
before (Within done b) (Row p row) t e h =
    let c = record b { labels = b.labels ++ row ∷ [] } in
    let k = back (Within done c) t (chosen (p == length b.labels) (Within done c) t e).1 h in
    let l = length-append b.labels (row ∷ []) in
    let few = k.1.places in
    (k.0, record { at = k.1.at; words = k.1.words; entry = k.1.entry; exit = k.1.exit; steps = k.1.steps; places = omega (arith, l, few); labels = all-less AreWrittenLabels b.labels (row ∷ []) k.1.labels })
before (Within done b) End t e h = let k = back (Between (done ++ b ∷ [])) t (some-same (Between (done ++ b ∷ [])) t e) h in (all-less IsWritten done (b ∷ []) k, all-last IsWritten done b k)
before _ _ t e h = absurd (let none : None ≡ Some t = e in cc)

to : (s t : State) → s ≡ t → IsGood s → IsGood t
to s t e h = subst IsGood e h

pub goes-on : (s : State) (x : Item) (t : State) → IsGood s → IsItem x → next s x ≡ Some t → IsGood t
goes-on Start Title t good fit e = to (Between []) t (some-same (Between []) t e) tt
goes-on (Between done) (Head a w n x) t good fit e =
    let b : BlockText = record { at = a; words = w; entry = n; exit = x; steps = []; labels = [] } in
    to (Within done b) t (some-same (Within done b) t e) (good, record { at = fit.0; words = fit.1; entry = fit.2; exit = fit.3; steps = tt; places = omega arith; labels = tt })
goes-on (Within done b) (Does step) t good fit e =
    let c = record b { steps = b.steps ++ step ∷ [] } in
    let g = good.1 in
    to (Within done c) t (chosen (length b.labels == 0) (Within done c) t e).1
    (good.0, record { at = g.at; words = g.words; entry = g.entry; exit = g.exit; steps = all-append IsWrittenStep b.steps (step ∷ []) g.steps (fit, tt); places = g.places; labels = g.labels })
goes-on (Within done b) (Row p row) t good fit e =
    let c = record b { labels = b.labels ++ row ∷ [] } in
    let h = chosen (p == length b.labels) (Within done c) t e in
    let l = length-append b.labels (row ∷ []) in
    let place = equal-from p (length b.labels) h.0 in
    let low = fit.0 in
    let g = good.1 in
    to (Within done c) t h.1
    (good.0, record { at = g.at; words = g.words; entry = g.entry; exit = g.exit; steps = g.steps; places = omega (arith, l, place, low); labels = all-append AreWrittenLabels b.labels (row ∷ []) g.labels (fit.1, tt) })
goes-on (Within done b) End t good fit e = to (Between (done ++ b ∷ [])) t (some-same (Between (done ++ b ∷ [])) t e) (all-append IsWritten done (b ∷ []) good.0 (good.1, tt))
goes-on _ _ t good fit e = absurd (let none : None ≡ Some t = e in cc)

-- Their lines can be written.
fit-steps : (steps : List Step) → AllByRecursion IsWrittenStep steps → AllByRecursion IsItem (map Does steps)
fit-steps [] h = tt
fit-steps (s ∷ steps) h = (h.0, fit-steps steps h.1)

fit-rows : (p : ℕ) (labels : List (List ℕ)) → p + length labels ≤ 2 ^ 32 → AllByRecursion AreWrittenLabels labels → AllByRecursion IsItem (rows p labels)
fit-rows p [] few h = tt
fit-rows p (row ∷ labels) few h = ((omega (arith, few), h.0), fit-rows (p + 1) labels (omega (arith, few)) h.1)

fit-opened : (b : BlockText) → IsWritten b → AllByRecursion IsItem (opened b)
fit-opened b h =
    let few = h.places in
    ((h.at, h.words, h.entry, h.exit), all-append IsItem (map Does b.steps) (rows 0 b.labels) (fit-steps b.steps h.steps) (fit-rows 0 b.labels (omega (arith, few)) h.labels))

fit-blocks : (done : List BlockText) → AreWritten done → AllByRecursion IsItem (flat_map whole done)
fit-blocks [] h = tt
fit-blocks (b ∷ done) h = all-append IsItem (whole b) (flat_map whole done) (all-append IsItem (opened b) (End ∷ []) (fit-opened b h.0) (tt, tt)) (fit-blocks done h.1)

fits : (s : State) → IsGood s → AllByRecursion IsItem (shown s)
fits Start h = tt
fits (Between done) h = (tt, fit-blocks done h)
fits (Within done b) h = all-append IsItem (items_of done) (opened b) (tt, fit-blocks done h.0) (fit-opened b h.1)

-- Each good state can be closed.
closes : (s : State) → IsGood s → (w : List BlockText) × AreWritten w × ((zs : List Item) × (items_of w ≡ shown s ++ zs))
closes Start h = ([], tt, (Title ∷ [], refl))
closes (Between done) h = (done, h, ([], sym (append-nil (items_of done))))
closes (Within done b) h =
    (done ++ b ∷ [], all-append IsWritten done (b ∷ []) h.0 (h.1, tt), (End ∷ [], items-append done b ∙ sym (append_assoc (items_of done) (opened b) (End ∷ []))))

between-same : (v w : List BlockText) → Between v ≡ Between w → v ≡ w
between-same v w e = cc

pub is-grammar : IsGrammar plans
is-grammar = record {
  are_words = are-words;
  words_same = words-same;
  runs = λ w. run-blocks [] w;
  starts = refl;
  shows = shows;
  ended_same = λ v w e. between-same v w e;
  start_good = tt;
  before = before;
  fits = fits;
  closes = λ s h. let c = closes s h in (c.0, c.1, c.2.0, c.2.1);
  whole_good = λ w h. h;
  good_whole = λ w h. h;
}
