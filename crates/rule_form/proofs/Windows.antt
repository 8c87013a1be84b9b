-- Windows that grow by a word.
use Rattle.std.proofs.Common.{◌≡◌, ℕ, ◌+◌, ◌-◌, ◌*◌, ◌<◌, ◌≤◌, ◌^◌, ◌++◌, List, [], ◌∷◌, length, max, fold, slice_get, refl, sym, ap, subst, ◌∙◌, arith, Bool, true, false, cond, Some, count_by, length-append}
use Rattle.std.specs.List.{flat_map}
use Rattle.std.proofs.lemmas.Grind.{flat_map-append}
use Rattle.std.proofs.lemmas.List.Sums.{sum_by-append}
use Rattle.std.proofs.lemmas.Nat.{pow-add, mul-add-lt}
use Rattle.std.proofs.Math.Nat.{mul_comm}
use Rattle.ppc_isa.specs.declared.instr.Instr.{Instr}
use Rattle.ppc_isa.specs.declared.instr.Instr.TheVariants.{Immediate, LogicImmediate, Load, Store, LoadUpdate, StoreUpdate, Multiple, TrapImmediate, CompareImmediate, Rotate, Branch, BranchConditional, SystemCall, Arithmetic, ArithmeticUnary, Logic, ShiftImmediate, LogicUnary, Compare, Trap, MoveFromCr, MoveToCr, MoveFromSpr, MoveToSpr, Sync, LoadIndexed, StoreIndexed, LoadIndexedUpdate, StoreIndexedUpdate, MoveCrField, CrLogic, Isync, BranchRegister}
use Rattle.ppc_isa.specs.Legal.{IsWordOf, layout}
use Rattle.ppc_isa.specs.Word.{Field, Fit, word, width}
use Rattle.ppc_isa.proofs.ReadWords.{read_legal}
use Rattle.rule_body.specs.declared.goal.Guest.{Guest}
use Rattle.rule_body.specs.Prelude.{is_ending, has_access, numbers, AreNumbered, highest, IsGuest, AreGuests, AreStraight, IsWindow, IsBranching}

append-nil : {A : Type 0} (xs : List A) → xs ++ [] ≡ xs
append-nil [] = refl
append-nil (x ∷ xs) = ap (λ ys. x ∷ ys) (append-nil xs)

-- a word is that of one instruction
pub one-instruction : (w : ℕ) (i j : Instr) → IsWordOf w i → IsWordOf w j → i ≡ j
one-instruction w i j g h = let e : Some i ≡ Some j = sym (read_legal w i g) ∙ read_legal w j h in cc

pub one-window : (gs : List Guest) (v w : List Instr) → AreGuests gs v → AreGuests gs w → v ≡ w
one-window [] [] [] g h = refl
one-window (x ∷ gs) (i ∷ v) (j ∷ w) g h = ap (λ k. k ∷ v) (one-instruction x.word i j g.0.word h.0.word) ∙ ap (λ l. j ∷ l) (one-window gs v w g.1 h.1)
one-window [] (i ∷ v) w g h = absurd g
one-window [] [] (j ∷ w) g h = absurd h
one-window (x ∷ gs) [] w g h = absurd g
one-window (x ∷ gs) (i ∷ v) [] g h = absurd h

pub guests-more : (gs : List Guest) (v : List Instr) (g : Guest) (i : Instr) → AreGuests gs v → IsGuest g i → AreGuests (gs ++ g ∷ []) (v ++ i ∷ [])
guests-more [] [] g i a one = (one, tt)
guests-more (x ∷ gs) (j ∷ v) g i a one = (a.0, guests-more gs v g i a.1 one)
guests-more [] (j ∷ v) g i a one = absurd a
guests-more (x ∷ gs) [] g i a one = absurd a

pub guests-less : (gs : List Guest) (g : Guest) (w : List Instr) → AreGuests (gs ++ g ∷ []) w → (v : List Instr) × (i : Instr) × (w ≡ v ++ i ∷ []) × AreGuests gs v × IsGuest g i
guests-less [] g (i ∷ []) a = ([], i, refl, tt, a.0)
guests-less [] g [] a = absurd a
guests-less [] g (i ∷ j ∷ w) a = absurd a.1
guests-less (x ∷ gs) g [] a = absurd a
guests-less (x ∷ gs) g (j ∷ w) a = let r = guests-less gs g w a.1 in (j ∷ r.0, r.1, ap (λ l. j ∷ l) r.2, (a.0, r.3), r.4)

pub straight-less : (v : List Instr) (i : Instr) → AreStraight (v ++ i ∷ []) → AreStraight v
straight-less [] i h = tt
straight-less (a ∷ []) i h = tt
straight-less (a ∷ b ∷ v) i h = (h.0, straight-less (b ∷ v) i h.1)

-- whether the last instruction is a branch
abbrev pub ends : List Instr → Bool
ends [] = false
ends (i ∷ []) = is_ending i
ends (i ∷ j ∷ window) = ends (j ∷ window)

pub straight-more : (v : List Instr) (i : Instr) → AreStraight v → ends v ≡ false → AreStraight (v ++ i ∷ [])
straight-more [] i h e = tt
straight-more (a ∷ []) i h e = (e, tt)
straight-more (a ∷ b ∷ v) i h e = (h.0, straight-more (b ∷ v) i h.1 e)

pub straight-ends : (v : List Instr) (i : Instr) → AreStraight (v ++ i ∷ []) → ends v ≡ false
straight-ends [] i h = refl
straight-ends (a ∷ []) i h = h.0
straight-ends (a ∷ b ∷ v) i h = straight-ends (b ∷ v) i h.1

pub count-append : {X : Type 0} (p : X → Bool) (xs ys : List X) → count_by p (xs ++ ys) ≡ count_by p xs + count_by p ys
count-append p xs ys = sum_by-append (λ x. cond (p x) 1 0) xs ys

pub numbered-less : (seen : ℕ) (xs ys : List ℕ) → AreNumbered seen (xs ++ ys) → AreNumbered seen xs × AreNumbered (fold max seen xs) ys
numbered-less seen [] ys h = (tt, h)
numbered-less seen (x ∷ xs) ys h = let r = numbered-less (max seen x) xs ys h.3 in ((h.0, h.1, h.2, r.0), r.1)

pub numbered-more : (seen : ℕ) (xs ys : List ℕ) → AreNumbered seen xs → AreNumbered (fold max seen xs) ys → AreNumbered seen (xs ++ ys)
numbered-more seen [] ys g h = h
numbered-more seen (x ∷ xs) ys g h = (g.0, g.1, g.2, numbered-more (max seen x) xs ys g.3 h)

pub fold-max-append : (seen : ℕ) (xs ys : List ℕ) → fold max seen (xs ++ ys) ≡ fold max (fold max seen xs) ys
fold-max-append seen [] ys = refl
fold-max-append seen (x ∷ xs) ys = fold-max-append (max seen x) xs ys

pub highest-few : (seen : ℕ) (xs : List ℕ) → AreNumbered seen xs → seen ≤ 6 → fold max seen xs ≤ 6
highest-few seen [] h few = few
highest-few seen (x ∷ xs) h few = highest-few (max seen x) xs h.3 (let k = h.1 in omega (arith, k, few))

pub numbers-append : (v : List Instr) (i : Instr) → flat_map numbers (v ++ i ∷ []) ≡ flat_map numbers v ++ numbers i
numbers-append v i = flat_map-append numbers v (i ∷ []) ∙ ap (λ l. flat_map numbers v ++ l) (append-nil (numbers i))

-- a window with a word more
pub window-more : (gs : List Guest) (v : List Instr) (g : Guest) (i : Instr) → IsWindow gs v → IsGuest g i → length gs < 3 → ends v ≡ false
    → count_by has_access v + count_by has_access (i ∷ []) ≤ 1 → AreNumbered (highest (flat_map numbers v)) (numbers i) → IsWindow (gs ++ g ∷ []) (v ++ i ∷ [])
window-more gs v g i h one few straight access numbered = record {
  few = let f = length-append gs (g ∷ []) in omega (arith, f, few);
  words = guests-more gs v g i h.words one;
  straight = straight-more v i h.straight straight;
  one_access = let f = count-append has_access v (i ∷ []) in omega (arith, f, access);
  numbered = subst (AreNumbered 0) (sym (numbers-append v i)) (numbered-more 0 (flat_map numbers v) (numbers i) h.numbered numbered);
}

-- what holds of a window with a word more
pub record IsMore (gs : List Guest) (g : Guest) (w : List Instr) : Type 0 where
  pub front : List Instr
  pub last : Instr
  pub is : w ≡ front ++ last ∷ []
  pub window : IsWindow gs front
  pub one : IsGuest g last
  pub few : length gs < 3
  pub straight : ends front ≡ false
  pub access : count_by has_access front + count_by has_access (last ∷ []) ≤ 1
  pub numbered : AreNumbered (highest (flat_map numbers front)) (numbers last)

pub window-less : (gs : List Guest) (g : Guest) (w : List Instr) → IsWindow (gs ++ g ∷ []) w → IsMore gs g w
window-less gs g w h =
    let r = guests-less gs g w h.words in
    let s = subst AreStraight r.2 h.straight in
    let n = numbered-less 0 (flat_map numbers r.0) (numbers r.1) (subst (AreNumbered 0) (ap (flat_map numbers) r.2 ∙ numbers-append r.0 r.1) h.numbered) in
    let a = ap (count_by has_access) r.2 ∙ count-append has_access r.0 (r.1 ∷ []) in
    let f = length-append gs (g ∷ []) in
    record {
      front = r.0;
      last = r.1;
      is = r.2;
      window = record {
        few = omega (arith, f, h.few);
        words = r.3;
        straight = straight-less r.0 r.1 s;
        one_access = omega (arith, a, h.one_access);
        numbered = n.0;
      };
      one = r.4;
      few = omega (arith, f, h.few);
      straight = straight-ends r.0 r.1 s;
      access = omega (arith, a, h.one_access);
      numbered = n.1;
    }

-- a window ends in a branch, or in none
last-guest : (gs : List Guest) (g : Guest) (i : Instr) (v : List Instr) → AreGuests (g ∷ gs) (i ∷ v) → (x : Guest) × (slice_get (g ∷ gs) (length gs) ≡ Some x) × ((j : Instr) × IsWordOf x.word j × (ends (i ∷ v) ≡ is_ending j))
last-guest [] g i [] h = (g, refl, (i, h.0.word, refl))
last-guest [] g i (j ∷ v) h = absurd h.1
last-guest (y ∷ gs) g i [] h = absurd h.1
last-guest (y ∷ gs) g i (j ∷ v) h = last-guest gs y j v h.1

place : (gs : List Guest) (g : Guest) → slice_get (g ∷ gs) (length (g ∷ gs) - 1) ≡ slice_get (g ∷ gs) (length gs)
place gs g = ap (slice_get (g ∷ gs)) (omega arith)

none-last : (x : Guest) → slice_get [] 0 ≡ Some x → ⊥
none-last x e = cc

branching-from : (gs : List Guest) (x : Guest) (j : Instr) → slice_get gs (length gs - 1) ≡ Some x → IsWordOf x.word j → is_ending j ≡ false → IsBranching gs → ⊥
branching-from gs x j at w not (y, is, (k, u, t)) =
    let same : x ≡ y = (let e : Some x ≡ Some y = sym at ∙ is in cc) in
    let one : j ≡ k = one-instruction y.word j k (subst (λ (z : Guest). IsWordOf z.word j) same w) u in
    let f : false ≡ true = sym not ∙ ap is_ending one ∙ t in
    cc

pub branching : (gs : List Guest) (v : List Instr) → AreGuests gs v → ends v ≡ true → IsBranching gs
branching [] [] h e = absurd (let f : false ≡ true = e in cc)
branching [] (i ∷ v) h e = absurd h
branching (g ∷ gs) [] h e = absurd h
branching (g ∷ gs) (i ∷ v) h e = let r = last-guest gs g i v h in (r.0, place gs g ∙ r.1, (r.2.0, r.2.1, sym r.2.2 ∙ e))

pub not-branching : (gs : List Guest) (v : List Instr) → AreGuests gs v → ends v ≡ false → IsBranching gs → ⊥
not-branching [] [] h e b = none-last b.0 b.1
not-branching [] (i ∷ v) h e b = absurd h
not-branching (g ∷ gs) [] h e b = absurd h
not-branching (g ∷ gs) (i ∷ v) h e b = let r = last-guest gs g i v h in branching-from (g ∷ gs) r.0 r.2.0 (place gs g ∙ r.1) r.2.1 (sym r.2.2 ∙ e) b

-- The words of instructions have 32 bits.
word-fits : (fs : List Field) → Fit fs → word fs < 2 ^ width fs
word-fits [] h = omega arith
word-fits (f ∷ fs) h = subst (λ k. f.value * 2 ^ width fs + word fs < k) (sym (pow-add 2 f.width (width fs))) (subst (λ k. f.value * 2 ^ width fs + word fs < k) (mul_comm (2 ^ width fs) (2 ^ f.width)) (mul-add-lt f.value (2 ^ width fs) (word fs) (2 ^ f.width) h.0 (word-fits fs h.1)))

long : (i : Instr) → width (layout i) ≡ 32
long (Immediate op d a imm) = refl
long (LogicImmediate op d a imm) = refl
long (Load op d a imm) = refl
long (Store op d a imm) = refl
long (LoadUpdate op d a imm) = refl
long (StoreUpdate op d a imm) = refl
long (Multiple op d a imm) = refl
long (TrapImmediate to a imm) = refl
long (CompareImmediate op field a imm) = refl
long (Rotate op s a by mb me r) = refl
long (Branch t a l) = refl
long (BranchConditional bo bi t a l) = refl
long SystemCall = refl
long (Arithmetic op d a b r) = refl
long (ArithmeticUnary op d a r) = refl
long (Logic op s a b r) = refl
long (ShiftImmediate s a by r) = refl
long (LogicUnary op s a r) = refl
long (Compare op f a b) = refl
long (Trap to a b) = refl
long (MoveFromCr d) = refl
long (MoveToCr s m) = refl
long (MoveFromSpr d s) = refl
long (MoveToSpr s n) = refl
long Sync = refl
long (LoadIndexed op d a b) = refl
long (StoreIndexed op d a b) = refl
long (LoadIndexedUpdate op d a b) = refl
long (StoreIndexedUpdate op d a b) = refl
long (MoveCrField t f) = refl
long (CrLogic op d a b) = refl
long Isync = refl
long (BranchRegister op bo bi l) = refl

pub word-below : (w : ℕ) (i : Instr) → IsWordOf w i → w < 2 ^ 32
word-below w i h = subst (λ k. k < 2 ^ 32) (sym h.spelled) (subst (λ n. word (layout i) < 2 ^ n) (long i) (word-fits (layout i) h.legal.fit))
