-- What is written, piece by piece.
use Rattle.std.proofs.Common.{◌≡◌, ℕ, ◌-◌, ◌/◌, ◌%◌, ◌≤◌, ◌++◌, ◌==◌, List, [], ◌∷◌, length, map, take, drop, get_or, refl, sym, ap, ◌∙◌, arith, append_assoc, codes, cond, Bor, Result, Ok, Err, OnOk, Some, None, slice_get, zero, suc, ◌+◌, ◌<◌, add-one}
use Rattle.std.proofs.Math.Seq.{take-length}
use Rattle.std.specs.declared.alloc.AllocError.{AllocError}
use Rattle.std.specs.List.{flat_map, join_with_byte}
use Rattle.line_text.specs.Lines.{line_of}
use Rattle.std.proofs.lemmas.Grind.{flat_map-append}
use Rattle.std.proofs.lemmas.List.{map-append}
use Rattle.std.specs.List.{AllByRecursion}
use Rattle.rule_form.specs.Prelude.{chosen, listed, Item, Open, GuestLine, At, Dead, Host, Take, Clause, End, words_of, RuleText, front_of, opened, written}

join-all : (by : ℕ) (w : List ℕ) (ws : List (List ℕ)) → join_with_byte by (w ∷ ws) ≡ w ++ flat_map (λ v. by ∷ v) ws
join-all by w [] = sym (nil w)
  where
    nil : (xs : List ℕ) → xs ++ [] ≡ xs
    nil [] = refl
    nil (x ∷ xs) = ap (λ ys. x ∷ ys) (nil xs)
join-all by w (v ∷ ws) = ap (λ l. w ++ by ∷ l) (join-all by v ws)

words-last : {X : Type 0} (f : X → List ℕ) (xs : List X) (v : List ℕ) → flat_map (λ w. 32 ∷ w) (map f xs ++ v ∷ []) ≡ flat_map (λ x. 32 ∷ f x) xs ++ (32 ∷ (v ++ []))
words-last f [] v = refl
words-last f (x ∷ xs) v = ap (λ l. (32 ∷ f x) ++ l) (words-last f xs v) ∙ sym (append_assoc (32 ∷ f x) (flat_map (λ x. 32 ∷ f x) xs) (32 ∷ (v ++ [])))

-- a line of words between the first and the last
pub line-between : {X : Type 0} (f : X → List ℕ) (xs : List X) (start first : List ℕ) → ((start ++ first) ++ flat_map (λ x. 32 ∷ f x) xs) ++ codes " 0\n" ≡ start ++ line_of (first ∷ (map f xs ++ codes "0" ∷ []))
line-between f xs start first =
    let mid = flat_map (λ x. 32 ∷ f x) xs in
    append_assoc (start ++ first) mid (codes " 0\n") ∙ append_assoc start first (mid ++ codes " 0\n")
    ∙ ap (λ l. start ++ l) (ap (λ l. first ++ l) (sym (append_assoc mid (codes " 0") (10 ∷ []))) ∙ sym (append_assoc first (mid ++ codes " 0") (10 ∷ []))
    ∙ ap (λ l. l ++ 10 ∷ []) (ap (λ l. first ++ l) (sym (words-last f xs (codes "0"))) ∙ sym (join-all 32 first (map f xs ++ codes "0" ∷ []))))

all-taken : {X : Type 0} (xs : List X) (n : ℕ) → n ≡ length xs → take n xs ≡ xs
all-taken xs n e = ap (λ k. take k xs) e ∙ take-length xs

-- the first chosen name, and the others behind commas
pub put-names : (r : Result (Unit {0}) AllocError) (new mid old : List ℕ) (ns : List (Bor (List ℕ))) (bits : ℕ) (d : Bor (List ℕ)) → 1 ≤ length ns → bits % 2 ≡ 1
    → OnOk r (new ≡ mid ++ flat_map (λ w. 44 ∷ w) (chosen (map (λ n. n.now) (take (length ns - 1) (drop 1 ns))) (bits / 2))) → mid ≡ old ++ (get_or ns 0 d).now
    → OnOk r (new ≡ old ++ listed (chosen (map (λ n. n.now) ns) bits))
put-names r new mid old [] bits d some odd h e = absurd (omega (arith, some))
put-names (Err x) new mid old (n ∷ ns) bits d some odd h e = h
put-names (Ok x) new mid old (n ∷ ns) bits d some odd h e =
    let more = chosen (map (λ m. m.now) ns) (bits / 2) in
    let left : take (length (n ∷ ns) - 1) ns ≡ ns = all-taken ns (length (n ∷ ns) - 1) (omega arith) in
    let here : chosen (map (λ m. m.now) (n ∷ ns)) bits ≡ n.now ∷ more = ap (λ b. cond (b == 1) (n.now ∷ more) more) odd in
    h ∙ ap (λ l. mid ++ flat_map (λ w. 44 ∷ w) (chosen (map (λ m. m.now) l) (bits / 2))) left
    ∙ ap (λ l. l ++ flat_map (λ w. 44 ∷ w) more) e ∙ append_assoc old n.now (flat_map (λ w. 44 ∷ w) more)
    ∙ ap (λ l. old ++ l) (sym (join-all 44 n.now more) ∙ ap listed (sym here))

-- a piece more
pub more : (new old piece start : List ℕ) → new ≡ old ++ piece → old ≡ start → new ≡ start ++ piece
more new old piece start e f = e ∙ ap (λ l. l ++ piece) f

-- The lines of items.
abbrev pub lines : List Item → List ℕ
lines items = flat_map (λ x. line_of (words_of x)) items

append-nil : {A : Type 0} (xs : List A) → xs ++ [] ≡ xs
append-nil [] = refl
append-nil (x ∷ xs) = ap (λ ys. x ∷ ys) (append-nil xs)

lines-append : (xs ys : List Item) → lines (xs ++ ys) ≡ lines xs ++ lines ys
lines-append xs ys = flat_map-append (λ x. line_of (words_of x)) xs ys

-- one more line
pub line-more : (new out start : List ℕ) (xs : List Item) (x : Item) → new ≡ out ++ line_of (words_of x) → out ≡ start ++ lines xs → new ≡ start ++ lines (xs ++ x ∷ [])
line-more new out start xs x e f =
    e ∙ ap (λ l. l ++ line_of (words_of x)) f ∙ append_assoc start (lines xs) (line_of (words_of x))
    ∙ ap (λ l. start ++ l) (ap (λ l. lines xs ++ l) (sym (append-nil (line_of (words_of x)))) ∙ sym (lines-append xs (x ∷ [])))

pub take-more : {A : Type 0} (xs : List A) (i : ℕ) (x : A) → slice_get xs i ≡ Some x → take (i + 1) xs ≡ take i xs ++ x ∷ []
take-more {A} xs i x is = ap (λ k. take k xs) (add-one i) ∙ go xs i is
  where
    go : (xs : List A) (i : ℕ) → slice_get xs i ≡ Some x → take (suc i) xs ≡ take i xs ++ x ∷ []
    go [] i is = absurd (let none : None ≡ Some x = is in cc)
    go (y ∷ xs) zero is = let same : y ≡ x = (let e : Some y ≡ Some x = is in cc) in ap (λ z. z ∷ []) same
    go (y ∷ xs) (suc i) is = ap (λ ys. y ∷ ys) (go xs i is)

-- nothing stands at the place, so all was taken
pub take-rest : {A : Type 0} (xs : List A) (i : ℕ) → ((x : A) → slice_get xs i ≡ Some x → ⊥) → take i xs ≡ xs
take-rest {A} [] i none = nil i
  where
    nil : (i : ℕ) → (let xs : List A = [] in take i xs) ≡ []
    nil zero = refl
    nil (suc i) = refl
take-rest (x ∷ xs) zero none = absurd (none x refl)
take-rest (x ∷ xs) (suc i) none = ap (λ ys. x ∷ ys) (take-rest xs i none)

pub taken-below : {A : Type 0} (xs : List A) (n i : ℕ) (x : A) → slice_get (take n xs) i ≡ Some x → i < n
taken-below xs zero i x e = absurd (let none : None ≡ Some x = e in cc)
taken-below [] (suc n) i x e = absurd (let none : None ≡ Some x = e in cc)
taken-below (y ∷ xs) (suc n) zero x e = omega arith
taken-below (y ∷ xs) (suc n) (suc i) x e = let f = taken-below xs n i x e in omega (arith, f)

pub all-at : {X : Type 0} (P : X → Type 0) (xs : List X) (i : ℕ) (d : X) → AllByRecursion P xs → i < length xs → P (get_or xs i d)
all-at P [] i d h below = absurd (omega (arith, below))
all-at P (x ∷ xs) zero d h below = h.0
all-at P (x ∷ xs) (suc i) d h below = all-at P xs i d h.1 (omega (arith, below))

-- one more element, by its item
pub item-more : {A : Type 0} (f : A → Item) (new out start : List ℕ) (xs : List A) (i : ℕ) (x : A) → slice_get xs i ≡ Some x → new ≡ out ++ line_of (words_of (f x)) → out ≡ start ++ lines (map f (take i xs))
    → new ≡ start ++ lines (map f (take (i + 1) xs))
item-more f new out start xs i x at e is =
    line-more new out start (map f (take i xs)) (f x) e is ∙ ap (λ l. start ++ lines l) (sym (ap (map f) (take-more xs i x at) ∙ map-append f (take i xs) (x ∷ [])))

-- the lines of a rule
pub put-rule : (new a b c d start : List ℕ) (r : RuleText) → new ≡ d ++ line_of (words_of End) → d ≡ c ++ lines (map Clause r.clauses) → c ≡ b ++ line_of (words_of (Take r.take)) → b ≡ a ++ lines (map Host r.lines)
    → a ≡ start ++ lines (front_of r.template) → new ≡ start ++ lines (opened r ++ End ∷ [])
put-rule new a b c d start r e f g h i =
    let front = lines (front_of r.template) in
    let hosts = lines (map Host r.lines) in
    let take = line_of (words_of (Take r.take)) in
    let clauses = lines (map Clause r.clauses) in
    let end = line_of (words_of End) in
    let tail = map Host r.lines ++ (Take r.take ∷ map Clause r.clauses) in
    let split : opened r ≡ front_of r.template ++ tail = ap (λ l. Open ∷ l) (sym (append_assoc (map GuestLine r.template.guests) (At r.template.slots ∷ Dead r.template.dead ∷ []) tail)) in
    let parts : lines (opened r ++ End ∷ []) ≡ front ++ (hosts ++ (take ++ (clauses ++ end))) =
    lines-append (opened r) (End ∷ [])
    ∙ ap (λ l. lines l ++ end) split
    ∙ ap (λ l. l ++ end) (lines-append (front_of r.template) tail ∙ ap (λ l. front ++ l) (lines-append (map Host r.lines) (Take r.take ∷ map Clause r.clauses)))
    ∙ append_assoc front (hosts ++ (take ++ clauses)) end ∙ ap (λ l. front ++ l) (append_assoc hosts (take ++ clauses) end ∙ ap (λ l. hosts ++ l) (append_assoc take clauses end)) in
    e ∙ ap (λ l. l ++ end) (f ∙ ap (λ l. l ++ clauses) (g ∙ ap (λ l. l ++ take) (h ∙ ap (λ l. l ++ hosts) i)))
    ∙ append_assoc (((start ++ front) ++ hosts) ++ take) clauses end
    ∙ append_assoc ((start ++ front) ++ hosts) take (clauses ++ end)
    ∙ append_assoc (start ++ front) hosts (take ++ (clauses ++ end))
    ∙ append_assoc start front (hosts ++ (take ++ (clauses ++ end)))
    ∙ ap (λ l. start ++ l) (sym parts)
