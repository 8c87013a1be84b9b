-- What is written of a plan text, piece by piece. This project's own.
use Rattle.std.proofs.Common.{◌≡◌, ℕ, zero, suc, ◌+◌, ◌<◌, ◌++◌, List, [], ◌∷◌, length, get_or, take, map, refl, sym, ap, ◌∙◌, arith, append_assoc, add-one, decimal, codes, Vec, Global, length-take}
use Rattle.std.specs.List.{flat_map, join_with_byte}
use Rattle.std.proofs.lemmas.Grind.{flat_map-append}
use Rattle.std.proofs.lemmas.List.{map-append, length-map}
use Rattle.line_text.specs.Lines.{line_of}
use Rattle.line_text.proofs.Grammars.{append-nil}
use Rattle.plan_form.specs.declared.problem.BlockPlan.{BlockPlan}
use Rattle.plan_form.specs.Prelude.{Step, Item, Title, Head, Does, Row, End, BlockText, written, words_of, rows, opened, text_of}
use Rattle.plan_form.proofs.PlanGrammar.{rows-more}

-- The lines of items.
abbrev pub lines : List Item → List ℕ
lines items = flat_map (λ x. line_of (words_of x)) items

lines-append : (xs ys : List Item) → lines (xs ++ ys) ≡ lines xs ++ lines ys
lines-append xs ys = flat_map-append (λ x. line_of (words_of x)) xs ys

-- a piece more
pub more : (new old piece start : List ℕ) → new ≡ old ++ piece → old ≡ start → new ≡ start ++ piece
more new old piece start e f = e ∙ ap (λ l. l ++ piece) f

take-more : {A : Type 0} (xs : List A) (i : ℕ) (d : A) → i < length xs → take (i + 1) xs ≡ take i xs ++ get_or xs i d ∷ []
take-more {A} xs i d below = ap (λ k. take k xs) (add-one i) ∙ go xs i below
  where
    go : (xs : List A) (i : ℕ) → i < length xs → take (suc i) xs ≡ take i xs ++ get_or xs i d ∷ []
    go [] i below = absurd (omega (arith, below))
    go (x ∷ xs) zero below = refl
    go (x ∷ xs) (suc i) below = ap (λ ys. x ∷ ys) (go xs i (omega (arith, below)))

-- a word more
join-more : (w : List ℕ) (ws : List (List ℕ)) (v : List ℕ) → join_with_byte 32 (w ∷ ws ++ v ∷ []) ≡ join_with_byte 32 (w ∷ ws) ++ 32 ∷ v
join-more w [] v = refl
join-more w (u ∷ ws) v = ap (λ l. w ++ 32 ∷ l) (join-more u ws v) ∙ sym (append_assoc w (32 ∷ join_with_byte 32 (u ∷ ws)) (32 ∷ v))

pub put-label : (new mid out start : List ℕ) (place : ℕ) (labels : List ℕ) (i d : ℕ) → i < length labels → new ≡ mid ++ decimal (get_or labels i d) → mid ≡ out ++ 32 ∷ []
    → out ≡ start ++ join_with_byte 32 (codes "at" ∷ decimal place ∷ map decimal (take i labels))
    → new ≡ start ++ join_with_byte 32 (codes "at" ∷ decimal place ∷ map decimal (take (i + 1) labels))
put-label new mid out start place labels i d below e f g =
    let ws = map decimal (take i labels) in
    let v = decimal (get_or labels i d) in
    let words : map decimal (take (i + 1) labels) ≡ ws ++ v ∷ [] = ap (map decimal) (take-more labels i d below) ∙ map-append decimal (take i labels) (get_or labels i d ∷ []) in
    let grown : join_with_byte 32 (codes "at" ∷ decimal place ∷ map decimal (take (i + 1) labels)) ≡ join_with_byte 32 (codes "at" ∷ decimal place ∷ ws) ++ 32 ∷ v =
    ap (λ l. join_with_byte 32 (codes "at" ∷ decimal place ∷ l)) words ∙ join-more (codes "at") (decimal place ∷ ws) v in
    e ∙ ap (λ l. l ++ v) (f ∙ ap (λ l. l ++ 32 ∷ []) g)
    ∙ append_assoc (start ++ join_with_byte 32 (codes "at" ∷ decimal place ∷ ws)) (32 ∷ []) v
    ∙ append_assoc start (join_with_byte 32 (codes "at" ∷ decimal place ∷ ws)) (32 ∷ v)
    ∙ ap (λ l. start ++ l) (sym grown)

-- a line more
line-more : (new out start : List ℕ) (xs : List Item) (x : Item) → new ≡ out ++ line_of (words_of x) → out ≡ start ++ lines xs → new ≡ start ++ lines (xs ++ x ∷ [])
line-more new out start xs x e f =
    e ∙ ap (λ l. l ++ line_of (words_of x)) f ∙ append_assoc start (lines xs) (line_of (words_of x))
    ∙ ap (λ l. start ++ l) (ap (λ l. lines xs ++ l) (sym (append-nil (line_of (words_of x)))) ∙ sym (lines-append xs (x ∷ [])))

pub put-step : (new out start : List ℕ) (steps : List Step) (i : ℕ) (d : Step) → i < length steps → new ≡ out ++ line_of (words_of (Does (get_or steps i d))) → out ≡ start ++ lines (map Does (take i steps))
    → new ≡ start ++ lines (map Does (take (i + 1) steps))
put-step new out start steps i d below e f =
    line-more new out start (map Does (take i steps)) (Does (get_or steps i d)) e f
    ∙ ap (λ xs. start ++ lines xs) (sym (ap (map Does) (take-more steps i d below) ∙ map-append Does (take i steps) (get_or steps i d ∷ [])))

pub put-row : (new out start row : List ℕ) (labels : List (Vec ℕ Global)) (i : ℕ) (d : Vec ℕ Global) → i < length labels → row ≡ (get_or labels i d).items → new ≡ out ++ line_of (words_of (Row i row))
    → out ≡ start ++ lines (rows 0 (map (λ row. row.items) (take i labels)))
    → new ≡ start ++ lines (rows 0 (map (λ row. row.items) (take (i + 1) labels)))
put-row new out start row labels i d below is e f =
    let items : Vec ℕ Global → List ℕ = λ row. row.items in
    let before = map items (take i labels) in
    let count : i ≡ 0 + length before = (let a = length-map (take i labels) items in let b = length-take i labels in omega (arith, a, b, below)) in
    let grown : map items (take (i + 1) labels) ≡ before ++ row ∷ [] = ap (map items) (take-more labels i d below) ∙ map-append items (take i labels) (get_or labels i d ∷ []) ∙ ap (λ r. before ++ r ∷ []) (sym is) in
    line-more new out start (rows 0 before) (Row i row) e f
    ∙ ap (λ xs. start ++ lines xs) (sym (ap (rows 0) grown ∙ rows-more 0 i before row count))

-- the lines of a block
pub put-block : (new a b c start : List ℕ) (block : BlockText) → new ≡ c ++ line_of (words_of End) → c ≡ b ++ lines (rows 0 block.labels) → b ≡ a ++ lines (map Does block.steps)
    → a ≡ start ++ line_of (words_of (Head block.at block.words block.entry block.exit)) → new ≡ start ++ lines (opened block ++ End ∷ [])
put-block new a b c start block e f g h =
    let head = line_of (words_of (Head block.at block.words block.entry block.exit)) in
    let steps = lines (map Does block.steps) in
    let labels = lines (rows 0 block.labels) in
    let end = line_of (words_of End) in
    let parts : lines (opened block ++ End ∷ []) ≡ head ++ (steps ++ (labels ++ end)) =
    lines-append (opened block) (End ∷ [])
    ∙ ap (λ l. (head ++ l) ++ end) (lines-append (map Does block.steps) (rows 0 block.labels))
    ∙ append_assoc head (steps ++ labels) end
    ∙ ap (λ l. head ++ l) (append_assoc steps labels end) in
    e ∙ ap (λ l. l ++ end) (f ∙ ap (λ l. l ++ labels) (g ∙ ap (λ l. l ++ steps) h))
    ∙ append_assoc ((start ++ head) ++ steps) labels end
    ∙ append_assoc (start ++ head) steps (labels ++ end)
    ∙ append_assoc start head (steps ++ (labels ++ end))
    ∙ ap (λ l. start ++ l) (sym parts)

-- a plan more
pub put-plan : (new out : List ℕ) (plans : List BlockPlan) (i : ℕ) (plan d : BlockPlan) → i < length plans → plan ≡ get_or plans i d → new ≡ out ++ lines (opened (written plan) ++ End ∷ [])
    → out ≡ text_of (map written (take i plans)) → new ≡ text_of (map written (take (i + 1) plans))
put-plan new out plans i plan d below is e f =
    let whole : BlockText → List Item = λ b. opened b ++ End ∷ [] in
    let before = map written (take i plans) in
    let grown : map written (take (i + 1) plans) ≡ before ++ written plan ∷ [] = ap (map written) (take-more plans i d below) ∙ map-append written (take i plans) (get_or plans i d ∷ []) ∙ ap (λ p. before ++ written p ∷ []) (sym is) in
    e ∙ ap (λ l. l ++ lines (whole (written plan))) f
    ∙ sym (ap text_of grown
    ∙ ap (λ xs. line_of (words_of Title) ++ lines xs) (flat_map-append whole before (written plan ∷ []) ∙ ap (λ l. flat_map whole before ++ l) (append-nil (whole (written plan))))
    ∙ ap (λ l. line_of (words_of Title) ++ l) (lines-append (flat_map whole before) (whole (written plan)))
    ∙ sym (append_assoc (line_of (words_of Title)) (lines (flat_map whole before)) (lines (whole (written plan)))))

-- the words of a head
pub put-head : (start a w n x : List ℕ) → (((((((((start ++ codes "block ") ++ a) ++ 32 ∷ []) ++ w) ++ 32 ∷ []) ++ n) ++ 32 ∷ []) ++ x) ++ 10 ∷ [])
    ≡ start ++ ((codes "block" ++ 32 ∷ (a ++ 32 ∷ (w ++ 32 ∷ (n ++ 32 ∷ x)))) ++ 10 ∷ [])
put-head start a w n x = simp append_assoc refl
