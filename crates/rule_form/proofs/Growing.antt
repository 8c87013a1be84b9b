-- Goals that grow by a word.
use Rattle.std.proofs.Common.{◌≡◌, ◌≢◌, ◌⊎◌, inl, inr, ℕ, zero, suc, ◌+◌, ◌<◌, ◌≤◌, ◌++◌, List, [], ◌∷◌, length, take, drop, slice_get, slice_set, count_by, refl, sym, ap, subst, ◌∙◌, arith, add-one, Bool, true, false, cond, IsTrue, Some, None, Contains, length-append, fold, max}
use Rattle.std.specs.Prelude.{if◌then◌else◌, ◌||◌}
use Rattle.std.proofs.lemmas.Bool.{cases_lt}
use Rattle.std.proofs.lemmas.List.Elements.{Contains-append_left, Contains-append_right, Contains-append_cases}
use Rattle.std.proofs.lemmas.List.Sums.{sum_by-cons}
use Rattle.std.specs.List.{AllByRecursion, flat_map}
use Rattle.ppc_isa.specs.declared.instr.Instr.{Instr}
use Rattle.ppc_isa.specs.Legal.{IsWordOf}
use Rattle.ppc_isa.specs.Locations.{locations_written}
use Rattle.rule_body.specs.declared.goal.Guest.{Guest}
use Rattle.rule_body.specs.Prelude.{is_open, is_ending, is_plain, has_access, numbers, AreNumbered, highest, AreGuests, IsWindow, IsBranching, guests, Template, accesses, IsHostLine, AreHostLines}
use Rattle.line_text.proofs.Grammars.{all-append}
use Rattle.rule_body.specs.declared.line.HostLine.{HostLine}
use Rattle.rule_form.specs.Prelude.{IsFront, AccessAt, WrittenAt}
use Rattle.rule_form.proofs.Windows.{one-instruction, one-window, window-less, ends, branching, not-branching, fold-max-append, numbers-append, count-append}

pub guests-set : (ws : List ℕ) (fs : List Bool) (n w : ℕ) (f : Bool) → n < length ws → length fs ≡ length ws
    → take (n + 1) (guests (slice_set ws n w) (slice_set fs n f)) ≡ take n (guests ws fs) ++ (let g : Guest = record { word = w; free = f } in g) ∷ []
guests-set ws fs n w f below same = ap (λ k. take k (guests (slice_set ws n w) (slice_set fs n f))) (add-one n) ∙ go ws fs n below same
  where
    go : (ws : List ℕ) (fs : List Bool) (n : ℕ) → n < length ws → length fs ≡ length ws
        → take (suc n) (guests (slice_set ws n w) (slice_set fs n f)) ≡ take n (guests ws fs) ++ (let g : Guest = record { word = w; free = f } in g) ∷ []
    go [] fs n below same = absurd (omega (arith, below))
    go (x ∷ ws) [] n below same = absurd (omega (arith, same))
    go (x ∷ ws) (b ∷ fs) zero below same = refl
    go (x ∷ ws) (b ∷ fs) (suc n) below same = ap (λ l. (let g : Guest = record { word = x; free = b } in g) ∷ l) (go ws fs n (omega (arith, below)) (omega (arith, same)))

pub clear-set : {A : Type 0} (P : A → Type 0) (xs : List A) (n : ℕ) (x : A) → n < length xs → AllByRecursion P (drop n xs) → AllByRecursion P (drop (n + 1) (slice_set xs n x))
clear-set {A} P xs n x below h = subst (λ k. AllByRecursion P (drop k (slice_set xs n x))) (sym (add-one n)) (go xs n below h)
  where
    go : (xs : List A) (n : ℕ) → n < length xs → AllByRecursion P (drop n xs) → AllByRecursion P (drop (suc n) (slice_set xs n x))
    go [] n below h = absurd (omega (arith, below))
    go (y ∷ xs) zero below h = h.1
    go (y ∷ xs) (suc n) below h = go xs n (omega (arith, below)) h

-- what a window with one more word must meet
pub record Meets (gs : List Guest) (v : List Instr) (g : Guest) (i : Instr) : Type 0 where
  pub few : length gs < 3
  pub straight : ends v ≡ false
  pub row : IsTrue (if g.free then is_open i || is_ending i else is_plain i)
  pub access : count_by has_access v + count_by has_access (i ∷ []) ≤ 1
  pub numbered : AreNumbered (highest (flat_map numbers v)) (numbers i)

pub meets : (gs : List Guest) (v : List Instr) (g : Guest) (i : Instr) → IsWindow gs v → IsWordOf g.word i → IsFront (gs ++ g ∷ []) → Meets gs v g i
meets gs v g i h w front =
    let m = window-less gs g front.0 front.1 in
    let same = one-window gs m.front v m.window.words h.words in
    let one = one-instruction g.word m.last i m.one.word w in
    record {
      few = m.few;
      straight = ap ends (sym same) ∙ m.straight;
      row = subst (λ j. IsTrue (if g.free then is_open j || is_ending j else is_plain j)) one m.one.row;
      access = subst (λ j. count_by has_access v + count_by has_access (j ∷ []) ≤ 1) one (subst (λ l. count_by has_access l + count_by has_access (m.last ∷ []) ≤ 1) same m.access);
      numbered = subst (λ j. AreNumbered (highest (flat_map numbers v)) (numbers j)) one (subst (λ l. AreNumbered (highest (flat_map numbers l)) (numbers m.last)) same m.numbered);
    }

-- a window that ends in a branch goes no further
pub goes-no-further : (gs : List Guest) (v : List Instr) (g : Guest) → IsWindow gs v → IsBranching gs → IsFront (gs ++ g ∷ []) → ⊥
goes-no-further gs v g h b front =
    let m = window-less gs g front.0 front.1 in
    not-branching gs m.front m.window.words m.straight b

pub three-are-full : (gs : List Guest) (g : Guest) → 3 ≤ length gs → IsFront (gs ++ g ∷ []) → ⊥
three-are-full gs g full front = let m = window-less gs g front.0 front.1 in let f = m.few in omega (arith, full, f)

pub no-word : (gs : List Guest) (g : Guest) → ((i : Instr) → IsWordOf g.word i → ⊥) → IsFront (gs ++ g ∷ []) → ⊥
no-word gs g none front = let m = window-less gs g front.0 front.1 in none m.last m.one.word

-- The word at a place.
abbrev At : (Instr → Type 0) → List Guest → ℕ → Type 0
At Q gs k = (g : Guest) × (slice_get gs k ≡ Some g) × ((i : Instr) × IsWordOf g.word i × Q i)

no-place : {A : Type 0} (k : ℕ) (x : A) → slice_get [] k ≡ Some x → ⊥
no-place k x e = let none : None ≡ Some x = e in cc

some-same : {A : Type 0} (a b : A) → Some a ≡ Some b → a ≡ b
some-same a b e = cc

at-some : (Q : Instr → Type 0) (gs : List Guest) (v : List Instr) (k : ℕ) → AreGuests gs v → At Q gs k → (i : Instr) × (slice_get v k ≡ Some i) × Q i
at-some Q [] v k h a = absurd (no-place k a.0 a.1)
at-some Q (x ∷ gs) [] k h a = absurd h
at-some Q (x ∷ gs) (j ∷ v) zero h a =
    let same : x ≡ a.0 = some-same x a.0 a.1 in
    let one = one-instruction x.word j a.2.0 h.0.word (subst (λ (g : Guest). IsWordOf g.word a.2.0) (sym same) a.2.1) in
    (j, refl, subst Q (sym one) a.2.2)
at-some Q (x ∷ gs) (j ∷ v) (suc k) h a = at-some Q gs v k h.1 a

some-at : (Q : Instr → Type 0) (gs : List Guest) (v : List Instr) (k : ℕ) (i : Instr) → AreGuests gs v → slice_get v k ≡ Some i → Q i → At Q gs k
some-at Q [] [] k i h e q = absurd (no-place k i e)
some-at Q [] (j ∷ v) k i h e q = absurd h
some-at Q (x ∷ gs) [] k i h e q = absurd h
some-at Q (x ∷ gs) (j ∷ v) zero i h e q = (x, refl, (j, h.0.word, subst Q (sym (some-same j i e)) q))
some-at Q (x ∷ gs) (j ∷ v) (suc k) i h e q = some-at Q gs v k i h.1 e q

pub lengths : (gs : List Guest) (v : List Instr) → AreGuests gs v → length v ≡ length gs
lengths [] [] h = refl
lengths [] (j ∷ v) h = absurd h
lengths (x ∷ gs) [] h = absurd h
lengths (x ∷ gs) (j ∷ v) h = let f = lengths gs v h.1 in omega (arith, f)

get-below : {A : Type 0} (xs : List A) (k : ℕ) (x : A) → slice_get xs k ≡ Some x → k < length xs
get-below [] k x e = absurd (no-place k x e)
get-below (y ∷ xs) zero x e = omega arith
get-below (y ∷ xs) (suc k) x e = let f = get-below xs k x e in omega (arith, f)

-- one of the three places
pick : (D : ℕ → Type 0) (k : ℕ) → k < 3 → D k → D 0 ⊎ (D 1 ⊎ D 2)
pick D zero below d = inl d
pick D (suc zero) below d = inr (inl d)
pick D (suc (suc zero)) below d = inr (inr d)
pick D (suc (suc (suc k))) below d = absurd (omega (arith, below))

three : (D : ℕ → Type 0) → D 0 ⊎ (D 1 ⊎ D 2) → (k : ℕ) × D k
three D (inl d) = (0, d)
three D (inr (inl d)) = (1, d)
three D (inr (inr d)) = (2, d)

-- a number
abbrev number : ℕ → ℕ
number n = n

count-some : (p : Instr → Bool) (v : List Instr) (k : ℕ) (i : Instr) → slice_get v k ≡ Some i → IsTrue (p i) → 0 < count_by p v
count-some p [] k i e t = absurd (no-place k i e)
count-some p (j ∷ v) zero i e t =
    let f = sum_by-cons (λ x. cond (p x) 1 0) j v in
    let one : number (cond (p j) 1 0) ≡ 1 = ap (λ (x : Instr). cond (p x) 1 0) (some-same j i e) ∙ ap (λ b. cond b 1 0) t in
    omega (arith, f, one)
count-some p (j ∷ v) (suc k) i e t = let f = sum_by-cons (λ x. cond (p x) 1 0) j v in let r = count-some p v k i e t in omega (arith, f, r)

counted : (p : Instr → Bool) (v : List Instr) → 0 < count_by p v → (k : ℕ) × ((i : Instr) × (slice_get v k ≡ Some i) × IsTrue (p i))
counted p [] some = absurd (omega (arith, some))
counted p (j ∷ v) some = go (p j) refl (λ more. counted p v more)
  where
    f : count_by p (j ∷ v) ≡ cond (p j) 1 0 + count_by p v
    f = sum_by-cons (λ x. cond (p x) 1 0) j v

    go : (b : Bool) → p j ≡ b → (0 < count_by p v → (k : ℕ) × ((i : Instr) × (slice_get v k ≡ Some i) × IsTrue (p i))) → (k : ℕ) × ((i : Instr) × (slice_get (j ∷ v) k ≡ Some i) × IsTrue (p i))
    go true is later = (0, (j, refl, is))
    go false is later =
        let none : number (cond (p j) 1 0) ≡ 0 = ap (λ b. cond b 1 0) is in
        let q = f in
        let r = later (omega (arith, q, none, some)) in
        (suc r.0, r.1)

pub accesses-counted : (gs : List Guest) (v : List Instr) → AreGuests gs v → AccessAt gs 0 ⊎ (AccessAt gs 1 ⊎ AccessAt gs 2) → 0 < count_by has_access v
accesses-counted gs v h a =
    let t = three (λ k. AccessAt gs k) a in
    let s = at-some (λ i. IsTrue (has_access i)) gs v t.0 h t.1 in
    count-some has_access v t.0 s.0 s.1 s.2

pub counted-accesses : (gs : List Guest) (v : List Instr) → AreGuests gs v → length gs ≤ 3 → 0 < count_by has_access v → AccessAt gs 0 ⊎ (AccessAt gs 1 ⊎ AccessAt gs 2)
counted-accesses gs v h few some =
    let r = counted has_access v some in
    pick (λ k. AccessAt gs k) r.0 (let b = get-below v r.0 r.1.0 r.1.1 in let l = lengths gs v h in omega (arith, b, l, few)) (some-at (λ i. IsTrue (has_access i)) gs v r.0 r.1.0 h r.1.1 r.1.2)

contains-some : (v : List Instr) (k : ℕ) (i : Instr) (x : ℕ) → slice_get v k ≡ Some i → Contains (locations_written i) x → Contains (flat_map locations_written v) x
contains-some [] k i x e c = absurd (no-place k i e)
contains-some (j ∷ v) zero i x e c = Contains-append_left (locations_written j) (flat_map locations_written v) x (subst (λ (l : Instr). Contains (locations_written l) x) (sym (some-same j i e)) c)
contains-some (j ∷ v) (suc k) i x e c = Contains-append_right (locations_written j) (flat_map locations_written v) x (contains-some v k i x e c)

none-contained : (x : ℕ) → Contains [] x → ⊥
none-contained x c = let f = c.1 in omega (arith, f)

contained : (v : List Instr) (x : ℕ) → Contains (flat_map locations_written v) x → (k : ℕ) × ((i : Instr) × (slice_get v k ≡ Some i) × Contains (locations_written i) x)
contained [] x c = absurd (none-contained x c)
contained (j ∷ v) x c = go (Contains-append_cases (locations_written j) (flat_map locations_written v) x c) (λ d. contained v x d)
  where
    go : Contains (locations_written j) x ⊎ Contains (flat_map locations_written v) x → (Contains (flat_map locations_written v) x → (k : ℕ) × ((i : Instr) × (slice_get v k ≡ Some i) × Contains (locations_written i) x))
        → (k : ℕ) × ((i : Instr) × (slice_get (j ∷ v) k ≡ Some i) × Contains (locations_written i) x)
    go (inl d) later = (0, (j, refl, d))
    go (inr d) later = let r = later d in (suc r.0, r.1)

pub written-contained : (gs : List Guest) (v : List Instr) (x : ℕ) → AreGuests gs v → WrittenAt gs 0 x ⊎ (WrittenAt gs 1 x ⊎ WrittenAt gs 2 x) → Contains (flat_map locations_written v) x
written-contained gs v x h a =
    let t = three (λ k. WrittenAt gs k x) a in
    let s = at-some (λ i. Contains (locations_written i) x) gs v t.0 h t.1 in
    contains-some v t.0 s.0 x s.1 s.2

pub contained-written : (gs : List Guest) (v : List Instr) (x : ℕ) → AreGuests gs v → length gs ≤ 3 → Contains (flat_map locations_written v) x → WrittenAt gs 0 x ⊎ (WrittenAt gs 1 x ⊎ WrittenAt gs 2 x)
contained-written gs v x h few c =
    let r = contained v x c in
    pick (λ k. WrittenAt gs k x) r.0 (let b = get-below v r.0 r.1.0 r.1.1 in let l = lengths gs v h in omega (arith, b, l, few)) (some-at (λ i. Contains (locations_written i) x) gs v r.0 r.1.0 h r.1.1 r.1.2)

pub straight-so-far : (gs : List Guest) (v : List Instr) → AreGuests gs v → (IsBranching gs → ⊥) → ends v ≡ false
straight-so-far gs v h not = go (ends v) refl
  where
    go : (b : Bool) → ends v ≡ b → ends v ≡ false
    go true e = absurd (not (branching gs v h e))
    go false e = e

-- one more of what there may be once
pub counts-on : {X : Type 0} (p : X → Bool) (v : List X) (i : X) → count_by p v ≤ 1 → (IsTrue (p i) → 0 < count_by p v → ⊥) → count_by p v + count_by p (i ∷ []) ≤ 1
counts-on p v i most not = go (p i) refl
  where
    last : count_by p (i ∷ []) ≡ number (cond (p i) 1 0)
    last = sum_by-cons (λ x. cond (p x) 1 0) i [] ∙ omega arith

    go : (b : Bool) → p i ≡ b → count_by p v + count_by p (i ∷ []) ≤ 1
    go true is =
        let l = last in
        let k : number (cond (p i) 1 0) ≡ 1 = ap (λ b. cond b 1 0) is in
        elim (cases_lt 0 (count_by p v)) [ inl some ↦ absurd (not is some) | inr none ↦ omega (arith, l, k, none) ]
    go false is =
        let l = last in
        let k : number (cond (p i) 1 0) ≡ 0 = ap (λ b. cond b 1 0) is in
        omega (arith, l, k, most)

-- an access more
pub access-fits : (v : List Instr) (i : Instr) → count_by has_access v ≤ 1 → (IsTrue (has_access i) → 0 < count_by has_access v → ⊥) → count_by has_access v + count_by has_access (i ∷ []) ≤ 1
access-fits v i most not = counts-on has_access v i most not

pub too-many : (v : List Instr) (i : Instr) → 0 < count_by has_access v → IsTrue (has_access i) → count_by has_access v + count_by has_access (i ∷ []) ≤ 1 → ⊥
too-many v i some is few = let k = count-some has_access (i ∷ []) 0 i refl is in omega (arith, some, k, few)

-- the parameters behind one more word
pub parameters-more : (v : List Instr) (i : Instr) (seen n : ℕ) → seen ≡ highest (flat_map numbers v) → n ≡ fold max seen (numbers i) → n ≡ highest (flat_map numbers (v ++ i ∷ []))
parameters-more v i seen n before is =
    is ∙ ap (λ k. fold max k (numbers i)) before ∙ sym (fold-max-append 0 (flat_map numbers v) (numbers i)) ∙ ap (fold max 0) (sym (numbers-append v i))

pub at-or-below : (P : ℕ → Type 0) (n : ℕ) → ((k : ℕ) → k < n → P k) → P n → (k : ℕ) → k < n + 1 → P k
at-or-below P n below here k less = elim (cases_lt k n) [ inl lt ↦ below k lt | inr ge ↦ subst P (let e : n ≡ k = omega (arith, ge, less) in e) here ]

pub length-take : {A : Type 0} (n : ℕ) (xs : List A) → n ≤ length xs → length (take n xs) ≡ n
length-take zero xs below = refl
length-take (suc n) [] below = absurd (omega (arith, below))
length-take (suc n) (x ∷ xs) below = let f = length-take n xs (omega (arith, below)) in omega (arith, f)

-- the places of another number of parameters
pub other-count : (gs : List Guest) (v w : List Instr) (slots : List Bool) (n : ℕ) → AreGuests gs v → AreGuests gs w → n ≡ highest (flat_map numbers v) → length slots ≡ highest (flat_map numbers w) → length slots ≢ n → ⊥
other-count gs v w slots n g h is parameters other = other (parameters ∙ ap (λ l. highest (flat_map numbers l)) (one-window gs w v h g) ∙ sym is)

pub take-set : {A : Type 0} (xs : List A) (n : ℕ) (x : A) → n < length xs → take (n + 1) (slice_set xs n x) ≡ take n xs ++ x ∷ []
take-set {A} xs n x below = ap (λ k. take k (slice_set xs n x)) (add-one n) ∙ go xs n below
  where
    go : (xs : List A) (n : ℕ) → n < length xs → take (suc n) (slice_set xs n x) ≡ take n xs ++ x ∷ []
    go [] n below = absurd (omega (arith, below))
    go (y ∷ xs) zero below = refl
    go (y ∷ xs) (suc n) below = ap (λ l. y ∷ l) (go xs n (omega (arith, below)))

-- one more line of a body
pub hosts-more : (t : Template) (hs : List HostLine) (x : HostLine) → AreHostLines t hs → length hs < 4 → IsHostLine t x → (IsTrue (accesses x.op) → 0 < count_by (λ (l : HostLine). accesses l.op) hs → ⊥)
    → AreHostLines t (hs ++ x ∷ [])
hosts-more t hs x h few fits not =
    let p : HostLine → Bool = λ l. accesses l.op in
    record {
      few = let f = length-append hs (x ∷ []) in omega (arith, f, few);
      each = all-append (IsHostLine t) hs (x ∷ []) h.each (fits, tt);
      one_access = let f = count-append p hs (x ∷ []) in let k = counts-on p hs x h.one_access not in omega (arith, f, k);
    }
