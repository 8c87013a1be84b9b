-- How many bytes items have.
use Rattle.std.proofs.Common.{◌≡◌, ◌≤◌, ◌<◌, ◌+◌, ℕ, suc, take, true, false, List, [], ◌∷◌, length, get_or, drop, refl, ap, ◌∙◌, drop-cons, arith, rules}
use Rattle.std.proofs.lemmas.Grind.{common_steps}
use Rattle.symbolic_tiles.specs.declared.flow_op.FlowOp.{FlowOp}
use Rattle.symbolic_tiles.specs.declared.flow_op.FlowOp.TheVariants.{Mark}
use Rattle.code_layout.specs.Prelude.{no_moves, item_length, items_length, is_mark, before_mark}

none-left : (xs : List FlowOp) (i : ℕ) → length xs ≤ i → drop i xs ≡ []
none-left xs i le = grind (arith, common_steps)

one-more : (xs : List FlowOp) (i : ℕ) (d : FlowOp) → i < length xs → drop i xs ≡ get_or xs i d ∷ drop (i + 1) xs
one-more xs i d lt =
    let next : suc i ≡ i + 1 = omega arith in
    drop-cons xs i d lt ∙ ap (λ (k : ℕ). get_or xs i d ∷ drop k xs) next

length-drop : (xs : List FlowOp) (i : ℕ) (d : FlowOp) → i < length xs → items_length no_moves (drop i xs) ≡ item_length no_moves (get_or xs i d) + items_length no_moves (drop (i + 1) xs)
unfolding items_length
length-drop xs i d lt = ap (items_length no_moves) (one-more xs i d lt)

-- what is counted already, and the items that are left, are the whole
pub length-more : (xs : List FlowOp) (i n m k whole : ℕ) (d : FlowOp) → i < length xs → k ≡ item_length no_moves (get_or xs i d) → m ≡ n + k → n + items_length no_moves (drop i xs) ≡ whole → m + items_length no_moves (drop (i + 1) xs) ≡ whole
length-more xs i n m k whole d lt here made so = omega (arith, length-drop xs i d lt, here, made, so)

pub length-all : (xs : List FlowOp) (i n whole : ℕ) → length xs ≤ i → n + items_length no_moves (drop i xs) ≡ whole → n ≡ whole
unfolding items_length
length-all xs i n whole le so =
    let e : items_length no_moves (drop i xs) ≡ 0 = ap (items_length no_moves) (none-left xs i le) in
    omega (arith, e, so)

mark-drop : (xs : List FlowOp) (i mark : ℕ) (d : FlowOp) → i < length xs → is_mark (get_or xs i d) mark ≡ false → before_mark no_moves (drop i xs) mark ≡ item_length no_moves (get_or xs i d) + before_mark no_moves (drop (i + 1) xs) mark
unfolding before_mark
mark-drop xs i mark d lt other = rw (one-more xs i d lt, other) refl

pub mark-more : (xs : List FlowOp) (i mark n m k whole : ℕ) (d : FlowOp) → i < length xs → is_mark (get_or xs i d) mark ≡ false → k ≡ item_length no_moves (get_or xs i d) → m ≡ n + k → n + before_mark no_moves (drop i xs) mark ≡ whole → m + before_mark no_moves (drop (i + 1) xs) mark ≡ whole
mark-more xs i mark n m k whole d lt other here made so = omega (arith, mark-drop xs i mark d lt other, here, made, so)

pub mark-found : (xs : List FlowOp) (i mark n whole : ℕ) (d : FlowOp) → i < length xs → is_mark (get_or xs i d) mark ≡ true → n + before_mark no_moves (drop i xs) mark ≡ whole → n ≡ whole
unfolding before_mark
mark-found xs i mark n whole d lt found so =
    let e : before_mark no_moves (drop i xs) mark ≡ 0 = rw (one-more xs i d lt, found) refl in
    omega (arith, e, so)

pub mark-all : (xs : List FlowOp) (i mark n whole : ℕ) → length xs ≤ i → n + before_mark no_moves (drop i xs) mark ≡ whole → n ≡ whole
unfolding before_mark
mark-all xs i mark n whole le so =
    let e : before_mark no_moves (drop i xs) mark ≡ 0 = ap (λ (v : List FlowOp). before_mark no_moves v mark) (none-left xs i le) in
    omega (arith, e, so)

-- as many bytes as the spelling has
pub spelled-length : (bytes spelt : List ℕ) (n : ℕ) → n ≤ length bytes → take n bytes ≡ spelt → n ≡ length spelt
spelled-length bytes spelt n le so = grind (arith, common_steps, ap (λ (v : List ℕ). length v) so)

pub found-mark : (item : FlowOp) (here mark : ℕ) → item ≡ Mark here → here ≡ mark → is_mark item mark ≡ true
found-mark item here mark is same = rw (is, same) (search rules)
