-- A rule is told by its lists: what is past them in its arrays is fixed.
use Rattle.std.proofs.Common.{◌≡◌, ℕ, zero, suc, ◌+◌, ◌≤◌, ◌++◌, Bool, false, List, [], ◌∷◌, length, take, drop, refl, sym, ap, ◌∙◌, arith, Option, ℤ}
use Rattle.std.specs.List.{AllByRecursion}
use Rattle.std.proofs.lemmas.List.{take-append-drop}
use Rattle.rule_body.specs.declared.goal.Goal.{Goal}
use Rattle.rule_body.specs.declared.goal.Guest.{Guest}
use Rattle.rule_body.specs.declared.line.HostLine.{HostLine}
use Rattle.rule_body.specs.declared.body.Body.{Body}
use Rattle.rule_body.specs.declared.rule.Rule.{Rule}
use Rattle.rule_body.specs.Prelude.{guests, guests_of, lines_of, no_line, IsRule}
use Rattle.rule_body.proofs.Guests.{length-guests}
use Rattle.rule_form.specs.Prelude.{RuleText, written, HasRoom}
use Rattle.rule_form.proofs.Growing.{length-take}

-- lists of one length whose elements are all the same are one
all-same : {A : Type 0} (d : A) (xs ys : List A) → length xs ≡ length ys → AllByRecursion (λ x. x ≡ d) xs → AllByRecursion (λ y. y ≡ d) ys → xs ≡ ys
all-same d [] [] n g h = refl
all-same d (x ∷ xs) (y ∷ ys) n g h = ap (λ z. z ∷ xs) (g.0 ∙ sym h.0) ∙ ap (λ zs. y ∷ zs) (all-same d xs ys (omega (arith, n)) g.1 h.1)
all-same d [] (y ∷ ys) n g h = absurd (omega (arith, n))
all-same d (x ∷ xs) [] n g h = absurd (omega (arith, n))

drops : {A : Type 0} (n : ℕ) (xs : List A) → n ≤ length xs → length (drop n xs) + n ≡ length xs
drops zero xs below = omega arith
drops (suc n) [] below = absurd (omega (arith, below))
drops (suc n) (x ∷ xs) below = let f = drops n xs (omega (arith, below)) in omega (arith, f)

-- arrays with the same front and nothing behind it are one
array-same : {A : Type 0} (d : A) (xs ys : List A) (m n : ℕ) → m ≡ n → length xs ≡ length ys → m ≤ length xs → take m xs ≡ take n ys → AllByRecursion (λ x. x ≡ d) (drop m xs) → AllByRecursion (λ y. y ≡ d) (drop n ys) → xs ≡ ys
array-same d xs ys m n same long below front g h =
    let rest : drop m xs ≡ drop n ys = all-same d (drop m xs) (drop n ys) (let a = drops m xs below in let b = drops n ys (omega (arith, same, long, below)) in omega (arith, a, b, same, long)) g h in
    sym (take-append-drop m xs) ∙ ap (λ l. l ++ drop m xs) front ∙ ap (λ l. take n ys ++ l) rest ∙ take-append-drop n ys

words : List Guest → List ℕ
words [] = []
words (g ∷ gs) = g.word ∷ words gs

frees : List Guest → List Bool
frees [] = []
frees (g ∷ gs) = g.free ∷ frees gs

words-guests : (n : ℕ) (ws : List ℕ) (fs : List Bool) → length fs ≡ length ws → words (take n (guests ws fs)) ≡ take n ws
unfolding words
words-guests zero ws fs e = refl
words-guests (suc n) [] fs e = refl
words-guests (suc n) (w ∷ ws) [] e = absurd (omega (arith, e))
words-guests (suc n) (w ∷ ws) (f ∷ fs) e = ap (λ l. w ∷ l) (words-guests n ws fs (omega (arith, e)))

frees-guests : (n : ℕ) (ws : List ℕ) (fs : List Bool) → length fs ≡ length ws → frees (take n (guests ws fs)) ≡ take n fs
unfolding frees
frees-guests zero ws fs e = refl
frees-guests (suc n) [] [] e = refl
frees-guests (suc n) [] (f ∷ fs) e = absurd (omega (arith, e))
frees-guests (suc n) (w ∷ ws) [] e = absurd (omega (arith, e))
frees-guests (suc n) (w ∷ ws) (f ∷ fs) e = ap (λ l. f ∷ l) (frees-guests n ws fs (omega (arith, e)))

goal_of : List ℕ → List Bool → ℕ → List Bool → ℕ → ℕ → Goal
goal_of words free count slots parameters dead = record { words = words; free = free; count = count; slots = slots; parameters = parameters; dead = record { bits = dead } }

body_of : List HostLine → ℕ → Option ℕ → Body
body_of lines count take = record { lines = lines; count = count; take = take }

rule_of : Goal → Body → List (List ℤ) → Rule
rule_of goal body clauses = record { goal = goal; body = body; log = record { clauses = clauses } }

pub rule-same : (r s : Rule) → IsRule r → IsRule s → HasRoom r → HasRoom s → written r ≡ written s → r ≡ s
unfolding goal_of body_of rule_of
rule-same r s g h a b e =
    let gs : guests_of r.goal ≡ guests_of s.goal = ap (λ (t : RuleText). t.template.guests) e in
    let slots : take r.goal.parameters r.goal.slots ≡ take s.goal.parameters s.goal.slots = ap (λ (t : RuleText). t.template.slots) e in
    let dead : r.goal.dead.bits ≡ s.goal.dead.bits = ap (λ (t : RuleText). t.template.dead) e in
    let lines : lines_of r.body ≡ lines_of s.body = ap (λ (t : RuleText). t.lines) e in
    let condition : r.body.take ≡ s.body.take = ap (λ (t : RuleText). t.take) e in
    let clauses : r.log.clauses ≡ s.log.clauses = ap (λ (t : RuleText). t.clauses) e in
    let p = g.goal.tidy in
    let q = h.goal.tidy in
    let rs : length r.goal.free ≡ length r.goal.words = omega (arith, a.words, a.free) in
    let ss : length s.goal.free ≡ length s.goal.words = omega (arith, b.words, b.free) in
    let count : r.goal.count ≡ s.goal.count = (
    let m = length-guests r.goal.words r.goal.free r.goal.count (omega (arith, p.count, a.words)) rs in
    let n = length-guests s.goal.words s.goal.free s.goal.count (omega (arith, q.count, b.words)) ss in
    let k = ap length gs in
    omega (arith, m, n, k)) in
    let parameters : r.goal.parameters ≡ s.goal.parameters = (
    let m = length-take r.goal.parameters r.goal.slots (omega (arith, p.parameters, a.slots)) in
    let n = length-take s.goal.parameters s.goal.slots (omega (arith, q.parameters, b.slots)) in
    let k = ap length slots in
    omega (arith, m, n, k)) in
    let host : r.body.count ≡ s.body.count = (
    let m = length-take r.body.count r.body.lines (omega (arith, g.body.count, a.lines)) in
    let n = length-take s.body.count s.body.lines (omega (arith, h.body.count, b.lines)) in
    let k = ap length lines in
    omega (arith, m, n, k)) in
    let ws : r.goal.words ≡ s.goal.words = array-same 0 r.goal.words s.goal.words r.goal.count s.goal.count count (omega (arith, a.words, b.words)) (omega (arith, p.count, a.words))
    (sym (words-guests r.goal.count r.goal.words r.goal.free rs) ∙ ap words gs ∙ words-guests s.goal.count s.goal.words s.goal.free ss) p.words q.words in
    let fs : r.goal.free ≡ s.goal.free = array-same false r.goal.free s.goal.free r.goal.count s.goal.count count (omega (arith, a.free, b.free)) (omega (arith, p.count, a.free))
    (sym (frees-guests r.goal.count r.goal.words r.goal.free rs) ∙ ap frees gs ∙ frees-guests s.goal.count s.goal.words s.goal.free ss) p.free q.free in
    let places : r.goal.slots ≡ s.goal.slots = array-same false r.goal.slots s.goal.slots r.goal.parameters s.goal.parameters parameters (omega (arith, a.slots, b.slots)) (omega (arith, p.parameters, a.slots)) slots p.slots q.slots in
    let ops : r.body.lines ≡ s.body.lines = array-same no_line r.body.lines s.body.lines r.body.count s.body.count host (omega (arith, a.lines, b.lines)) (omega (arith, g.body.count, a.lines)) lines g.body.clear h.body.clear in
    let goals : r.goal ≡ s.goal =
    ap (λ x. goal_of x r.goal.free r.goal.count r.goal.slots r.goal.parameters r.goal.dead.bits) ws
    ∙ ap (λ x. goal_of s.goal.words x r.goal.count r.goal.slots r.goal.parameters r.goal.dead.bits) fs
    ∙ ap (λ x. goal_of s.goal.words s.goal.free x r.goal.slots r.goal.parameters r.goal.dead.bits) count
    ∙ ap (λ x. goal_of s.goal.words s.goal.free s.goal.count x r.goal.parameters r.goal.dead.bits) places
    ∙ ap (λ x. goal_of s.goal.words s.goal.free s.goal.count s.goal.slots x r.goal.dead.bits) parameters
    ∙ ap (λ x. goal_of s.goal.words s.goal.free s.goal.count s.goal.slots s.goal.parameters x) dead in
    let bodies : r.body ≡ s.body =
    ap (λ x. body_of x r.body.count r.body.take) ops ∙ ap (λ x. body_of s.body.lines x r.body.take) host ∙ ap (λ x. body_of s.body.lines s.body.count x) condition in
    ap (λ x. rule_of x r.body r.log.clauses) goals ∙ ap (λ x. rule_of s.goal x r.log.clauses) bodies ∙ ap (λ x. rule_of s.goal s.body x) clauses
