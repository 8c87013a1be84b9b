-- What two states that agree where an instruction reads leave where it writes.
use Rattle.std.proofs.Common.{◌≡◌, ℕ, ◌+◌, ◌-◌, ◌*◌, ◌/◌, ◌%◌, ◌^◌, ◌<◌, ◌≤◌, ◌==◌, Bool, true, false, cond, eqb, leb, ltb, ◌&&◌, ◌||◌, List, [], ◌∷◌, ◌++◌, refl, sym, ap, ◌∙◌, subst, inl, inr, arith}
use Rattle.std.proofs.lemmas.Bool.Decides.{nat_tests}
use Rattle.machines.specs.Prelude.{Exit, Outside, ListedCall, Read, Write, Close, Given, Gives as GivesResult, Fails, given, Outcome, Goes, Ends, one_if, same, is_less, sum_word, bit_of, with_bit, word_and, IsSpr, bo_0, bo_2, when, count, special, registers_from, chosen_fields, cr, GuestValues, Effect, place, with_ca, with_field, compared, cr_bit, special_put, bo_bit, counted, count_allows, condition_allows, update, load_big, block, put_block, each_byte, Rights, Guest, cr_word, xer_word, put_cr, results, puts_cr, puts_xer, put_special, put_loaded, linked, behind, at_next, branches, load_outcome, store_outcome, after_guest_call, without_so, with_so, guest_asks, guest_system_call}
use Rattle.ppc_isa.specs.Locations.{ca}
use Rattle.ppc_isa.specs.Recording.{so}
use Rattle.row_laws.specs.Laws.{Alike, AreSame}
use Rattle.row_laws.proofs.Digits.{digit, bit_in_digit, with_bit_own}
use Rattle.row_laws.proofs.Fields.{InRange, field_of_word, ca_of_word, so_of_word, ca_put, four_bits, with_field_own, put_cr_at, put_cr_off, put_xer_off}
use Rattle.row_laws.proofs.Chosen.{put_fields, field_chosen}
use Rattle.row_laws.proofs.Lists.{SameIn, same_first, in_none, in_more, in_both, in_when, in_registers, in_chosen}
use Rattle.row_laws.proofs.Shapes.{Gives}
use Rattle.row_laws.proofs.Kept.{update_same}
use Rattle.row_laws.proofs.Numbers.{both}
use Rattle.row_laws.proofs.Accesses.{SameAccess}

-- a state with these locations
abbrev pub state : (ℕ → ℕ) → ℕ → (ℕ → ℕ) → Guest
state locs next bytes = record { locs = locs; next = next; bytes = bytes }

pub alike_cond : (R : Guest → Guest → Type 0) (b c : Bool) (x x' y y' : Outcome Guest) → b ≡ c → Alike R x x' → Alike R y y' → Alike R (cond b x y) (cond c x' y')
alike_cond R true true x x' y y' e hx hy = hx
alike_cond R false false x x' y y' e hx hy = hy
alike_cond R true false x x' y y' e hx hy = absurd cc
alike_cond R false true x x' y y' e hx hy = absurd cc

-- an update of the same location by the same value
pub update_alike : (k v w x : ℕ) (p q : ℕ → ℕ) → v ≡ w → p x ≡ q x → update p k v x ≡ update q k w x
update_alike k v w x p q e h = both (λ m n. cond (eqb x k) m n) e h

pub one_same : (k v w : ℕ) (p q : ℕ → ℕ) → v ≡ w → SameIn (k ∷ []) (update p k v) (update q k w)
one_same k v w p q e = in_more k [] (update p k v) (update q k w) (update_same p k v ∙ e ∙ sym (update_same q k w)) (in_none (update p k v) (update q k w))

pub two_same : (d a v w v' w' : ℕ) (p q : ℕ → ℕ) → v ≡ v' → w ≡ w' → SameIn (d ∷ a ∷ []) (update (update p d v) a w) (update (update q d v') a w')
two_same d a v w v' w' p q e h =
    let f = update (update p d v) a w in
    let g = update (update q d v') a w' in
    in_more d (a ∷ []) f g (update_alike a w w' d (update p d v) (update q d v') h (update_same p d v ∙ e ∙ sym (update_same q d v')))
    (in_more a [] f g (update_same (update p d v) a w ∙ h ∙ sym (update_same (update q d v') a w')) (in_none f g))

-- a field of CR whose four bits are the same
pub field_same : (f c c' : ℕ) (a b d e a' b' d' e' : Bool) (p q : ℕ → ℕ) → f < 8 → a ≡ a' → b ≡ b' → d ≡ d' → e ≡ e' →
    SameIn ((34 + f) ∷ []) (put_cr (with_field c f a b d e) p) (put_cr (with_field c' f a' b' d' e') q)
field_same f c c' a b d e a' b' d' e' p q lt ha hb hd he =
    in_more (34 + f) [] (put_cr (with_field c f a b d e) p) (put_cr (with_field c' f a' b' d' e') q)
    (put_cr_at (with_field c f a b d e) f p lt ∙ with_field_own c f a b d e lt
    ∙ ap (λ x. four_bits x b d e) ha ∙ ap (λ x. four_bits a' x d e) hb ∙ ap (λ x. four_bits a' b' x e) hd ∙ ap (λ x. four_bits a' b' d' x) he
    ∙ sym (with_field_own c' f a' b' d' e' lt) ∙ sym (put_cr_at (with_field c' f a' b' d' e') f q lt))
    (in_none (put_cr (with_field c f a b d e) p) (put_cr (with_field c' f a' b' d' e') q))

pub compared_same : (signed : Bool) (f : ℕ) (x y x' y' : ℕ) (v w : GuestValues) (p q : ℕ → ℕ) → f < 8 → x ≡ x' → y ≡ y' → so v ≡ so w →
    SameIn ((34 + f) ∷ []) (put_cr (compared signed f x y v) p) (put_cr (compared signed f x' y' w) q)
compared_same signed f x y x' y' v w p q lt hx hy hs =
    field_same f v.cr w.cr (is_less x y signed) (is_less y x signed) (eqb x y) (so v) (is_less x' y' signed) (is_less y' x' signed) (eqb x' y') (so w) p q lt
    (both (λ m n. is_less m n signed) hx hy) (both (λ m n. is_less n m signed) hx hy) (both (λ m n. eqb m n) hx hy) hs

-- a bit of CR stands in its field
pub bit_told : (i : ℕ) (p : ℕ → ℕ) → i < 32 → InRange p → bit_of (cr_word p) (place i) ≡ eqb (p (34 + i / 4) / 2 ^ (3 - i % 4) % 2) 1
bit_told i p lt fits =
    let e : place i ≡ 4 * (7 - i / 4) + (3 - i % 4) = omega arith in
    ap (λ n. bit_of (cr_word p) n) e ∙ ap (λ n. eqb n 1) (bit_in_digit (cr_word p) (7 - i / 4) (3 - i % 4) (omega arith)) ∙ ap (λ n. eqb (n / 2 ^ (3 - i % 4) % 2) 1) (field_of_word p fits (i / 4) (omega arith))

pub bit_same : (i : ℕ) (p q : ℕ → ℕ) → i < 32 → InRange p → InRange q → p (34 + i / 4) ≡ q (34 + i / 4) → bit_of (cr_word p) (place i) ≡ bit_of (cr_word q) (place i)
bit_same i p q lt fp fq e = bit_told i p lt fp ∙ ap (λ n. eqb (n / 2 ^ (3 - i % 4) % 2) 1) e ∙ sym (bit_told i q lt fq)

-- a field of which one bit is put
pub bit_put_same : (d : ℕ) (b c : Bool) (p q : ℕ → ℕ) → d < 32 → InRange p → InRange q → b ≡ c → p (34 + d / 4) ≡ q (34 + d / 4) →
    SameIn ((34 + d / 4) ∷ []) (put_cr (with_bit (cr_word p) (place d) b) p) (put_cr (with_bit (cr_word q) (place d) c) q)
bit_put_same d b c p q lt fp fq e h =
    let f = put_cr (with_bit (cr_word p) (place d) b) p in
    let g = put_cr (with_bit (cr_word q) (place d) c) q in
    in_more (34 + d / 4) [] f g
    (told b p fp ∙ both (λ n m. n - n / 2 ^ (3 - d % 4) % 2 * 2 ^ (3 - d % 4) + m * 2 ^ (3 - d % 4)) h (ap one_if e) ∙ sym (told c q fq)) (in_none f g)
  where
    told : (b : Bool) (p : ℕ → ℕ) → InRange p → put_cr (with_bit (cr_word p) (place d) b) p (34 + d / 4) ≡ with_bit (p (34 + d / 4)) (3 - d % 4) b
    told b p fits =
        let e : place d ≡ 4 * (7 - d / 4) + (3 - d % 4) = omega arith in
        put_cr_at (with_bit (cr_word p) (place d) b) (d / 4) p (omega arith) ∙ ap (λ n. digit (7 - d / 4) (with_bit (cr_word p) n b)) e
        ∙ with_bit_own (cr_word p) (7 - d / 4) (3 - d % 4) b (omega arith) ∙ ap (λ n. with_bit n (3 - d % 4) b) (field_of_word p fits (d / 4) (omega arith))

-- SO and CA stand in their locations
pub so_same : (p q : ℕ → ℕ) → InRange p → InRange q → p 43 ≡ q 43 → bit_of (xer_word p) 31 ≡ bit_of (xer_word q) 31
so_same p q fp fq e = ap (λ n. eqb n 1) (so_of_word p fp ∙ e ∙ sym (so_of_word q fq))

pub ca_same : (p q : ℕ → ℕ) → InRange p → InRange q → p 42 ≡ q 42 → bit_of (xer_word p) 29 ≡ bit_of (xer_word q) 29
ca_same p q fp fq e = ap (λ n. eqb n 1) (ca_of_word p fp ∙ e ∙ sym (ca_of_word q fq))

-- one result, recorded and with its carry
record_at : (carries records : Bool) (k r : ℕ) (e : Effect) (p : ℕ → ℕ) → k < 32 → results carries records k r e p k ≡ r
record_at carries records k r e p lt = xer carries ∙ cr records ∙ update_same p k r
  where
    xer : (b : Bool) → puts_xer b e (puts_cr records e (update p k r)) k ≡ puts_cr records e (update p k r) k
    xer true = put_xer_off e.xer k (puts_cr records e (update p k r)) (omega arith)
    xer false = refl

    cr : (b : Bool) → puts_cr b e (update p k r) k ≡ update p k r k
    cr true = put_cr_off e.cr k (update p k r) (inl (omega arith))
    cr false = refl

field_at : (carries : Bool) (e : Effect) (l : ℕ → ℕ) → puts_xer carries e (put_cr e.cr l) 34 ≡ digit 7 e.cr
field_at true e l = refl
field_at false e l = refl

pub results_same : (carries records : Bool) (k r r' n n' : ℕ) (c c' : Bool) (e e' : Effect) (v w : GuestValues) (p q : ℕ → ℕ) → k < 32 → r ≡ r' → n ≡ n' → c ≡ c' → (records ≡ true → so v ≡ so w) →
    Gives carries records n c e v → Gives carries records n' c' e' w →
    SameIn (k ∷ (when carries ca ++ when records (cr 0))) (results carries records k r e p) (results carries records k r' e' q)
results_same carries records k r r' n n' c c' e e' v w p q lt hr hn hc hs g g' =
    let f = results carries records k r e p in
    let h = results carries records k r' e' q in
    in_more k (when carries ca ++ when records (cr 0)) f h (record_at carries records k r e p lt ∙ hr ∙ sym (record_at carries records k r' e' q lt))
    (in_both (when carries ca) (when records (cr 0)) f h (in_when carries ca f h (at_ca carries g.xer g'.xer)) (in_when records (cr 0) f h (at_cr records g.cr g'.cr hs)))
  where
    at_ca : (b : Bool) → (b ≡ true → e.xer ≡ with_ca v.xer c) → (b ≡ true → e'.xer ≡ with_ca w.xer c') → b ≡ true → results b records k r e p 42 ≡ results b records k r' e' q 42
    at_ca true hv hw i = ap (λ x. x / 2 ^ 29 % 2) (hv refl) ∙ ca_put v.xer c ∙ ap one_if hc ∙ sym (ca_put w.xer c') ∙ sym (ap (λ x. x / 2 ^ 29 % 2) (hw refl))
    at_ca false hv hw i = absurd cc

    told : (n : ℕ) (v : GuestValues) → digit 7 (compared true 0 n 0 v) ≡ four_bits (is_less n 0 true) (is_less 0 n true) (eqb n 0) (so v)
    told n v = with_field_own v.cr 0 (is_less n 0 true) (is_less 0 n true) (eqb n 0) (so v) (omega arith)

    at_cr : (b : Bool) → (b ≡ true → e.cr ≡ compared true 0 n 0 v) → (b ≡ true → e'.cr ≡ compared true 0 n' 0 w) → (b ≡ true → so v ≡ so w) → b ≡ true → results carries b k r e p 34 ≡ results carries b k r' e' q 34
    at_cr true hv hw hs i =
        field_at carries e (update p k r) ∙ ap (digit 7) (hv refl) ∙ told n v
        ∙ ap (λ m. four_bits (is_less m 0 true) (is_less 0 m true) (eqb m 0) (so v)) hn ∙ ap (λ s. four_bits (is_less n' 0 true) (is_less 0 n' true) (eqb n' 0) s) (hs refl)
        ∙ sym (told n' w) ∙ sym (ap (digit 7) (hw refl)) ∙ sym (field_at carries e' (update q k r'))
    at_cr false hv hw hs i = absurd cc

-- accesses
pub loading_same : (written : List ℕ) (rights : Rights) (e e' : Effect) (f h p q : ℕ → ℕ) (next : ℕ) (bytes : ℕ → ℕ) → SameAccess e e' → SameIn written f h →
    Alike (AreSame written) (load_outcome rights f e (state p next bytes)) (load_outcome rights h e' (state q next bytes))
loading_same written rights e e' f h p q next bytes s locs =
    alike_cond (AreSame written) (each_byte rights.held e.width e.address) (each_byte rights.held e'.width e'.address) (Goes (at_next f (state p next bytes))) (Goes (at_next h (state q next bytes))) (Ends Outside) (Ends Outside)
    (both (λ n a. each_byte rights.held n a) s.width s.address) (record { locs = locs; next = refl; bytes = refl }) refl

pub storing_same : (written : List ℕ) (rights : Rights) (e e' : Effect) (b b' f h p q : ℕ → ℕ) (next : ℕ) (bytes : ℕ → ℕ) → SameAccess e e' → b ≡ b' → SameIn written f h →
    Alike (AreSame written) (store_outcome rights b f e (state p next bytes)) (store_outcome rights b' h e' (state q next bytes))
storing_same written rights e e' b b' f h p q next bytes s i locs =
    alike_cond (AreSame written) (each_byte rights.writable e.width e.address) (each_byte rights.writable e'.width e'.address)
    (Goes (record (at_next f (state p next bytes)) { bytes = b })) (Goes (record (at_next h (state q next bytes)) { bytes = b' })) (Ends Outside) (Ends Outside)
    (both (λ n a. each_byte rights.writable n a) s.width s.address) (record { locs = locs; next = refl; bytes = i }) refl

-- lmw loads the registers that it writes
pub loaded_alike : (d at at' : ℕ) (bytes p q : ℕ → ℕ) → d < 32 → at ≡ at' → SameIn (registers_from d) (put_loaded d at bytes p) (put_loaded d at' bytes q)
loaded_alike d at at' bytes p q lt e x c =
    let r = in_registers d x lt c in
    by_tests (leb d x) (ltb x 32) (inside d x r.0 r.1)
  where
    inside : (d x : ℕ) → d ≤ x → x < 32 → (leb d x && ltb x 32) ≡ true
    inside d x le lt = grind (arith, nat_tests)

    by_tests : (a b : Bool) → (a && b) ≡ true → cond (a && b) (load_big 4 (at + 4 * (x - d)) bytes) (p x) ≡ cond (a && b) (load_big 4 (at' + 4 * (x - d)) bytes) (q x)
    by_tests true true h = ap (λ n. load_big 4 (n + 4 * (x - d)) bytes) e
    by_tests true false h = absurd cc
    by_tests false b h = absurd cc

-- mtcrf
pub fields_same : (mask s s' : ℕ) (p q : ℕ → ℕ) → s ≡ s' → SameIn (chosen_fields mask) (put_cr (put_fields mask s (cr_word p)) p) (put_cr (put_fields mask s' (cr_word q)) q)
fields_same mask s s' p q e x c =
    let i = in_chosen mask x c in
    told s p i.0 i.1 i.2 i.3 ∙ ap (digit (7 - i.0)) e ∙ sym (told s' q i.0 i.1 i.2 i.3)
  where
    told : (s : ℕ) (p : ℕ → ℕ) (f : ℕ) → f < 8 → x ≡ 34 + f → bit_of mask (7 - f) ≡ true → put_cr (put_fields mask s (cr_word p)) p x ≡ digit (7 - f) s
    told s p f lt i on = ap (put_cr (put_fields mask s (cr_word p)) p) i ∙ put_cr_at (put_fields mask s (cr_word p)) f p lt ∙ field_chosen mask s (cr_word p) (7 - f) (omega arith) on

-- CR and XER whole
pub cr_same : (p q : ℕ → ℕ) → SameIn (34 ∷ 35 ∷ 36 ∷ 37 ∷ 38 ∷ 39 ∷ 40 ∷ 41 ∷ []) p q → cr_word p ≡ cr_word q
cr_same p q s =
    let a : p 34 ≡ q 34 = s 34 (0, omega arith, refl) in
    let b : p 35 ≡ q 35 = s 35 (1, omega arith, refl) in
    let c : p 36 ≡ q 36 = s 36 (2, omega arith, refl) in
    let d : p 37 ≡ q 37 = s 37 (3, omega arith, refl) in
    let e : p 38 ≡ q 38 = s 38 (4, omega arith, refl) in
    let f : p 39 ≡ q 39 = s 39 (5, omega arith, refl) in
    let g : p 40 ≡ q 40 = s 40 (6, omega arith, refl) in
    let h : p 41 ≡ q 41 = s 41 (7, omega arith, refl) in
    omega arith

pub xer_same : (p q : ℕ → ℕ) → SameIn (42 ∷ 43 ∷ 44 ∷ 45 ∷ []) p q → xer_word p ≡ xer_word q
xer_same p q s =
    let a : p 42 ≡ q 42 = s 42 (0, omega arith, refl) in
    let b : p 43 ≡ q 43 = s 43 (1, omega arith, refl) in
    let c : p 44 ≡ q 44 = s 44 (2, omega arith, refl) in
    let d : p 45 ≡ q 45 = s 45 (3, omega arith, refl) in
    omega arith

-- a special register read, and written
pub special_read : (spr : ℕ) (p q : ℕ → ℕ) → IsSpr spr → SameIn (special spr) p q → cond (eqb spr 1) (xer_word p) (cond (eqb spr 8) (p 32) (p 33)) ≡ cond (eqb spr 1) (xer_word q) (cond (eqb spr 8) (q 32) (q 33))
special_read spr p q is = at spr is
  where
    P : ℕ → Type 0
    P n = SameIn (special n) p q → cond (eqb n 1) (xer_word p) (cond (eqb n 8) (p 32) (p 33)) ≡ cond (eqb n 1) (xer_word q) (cond (eqb n 8) (q 32) (q 33))

    at : (n : ℕ) → IsSpr n → P n
    at n (inl i) = subst P (sym i) (λ s. xer_same p q s)
    at n (inr (inl i)) = subst P (sym i) (λ s. same_first 32 [] p q s)
    at n (inr (inr i)) = subst P (sym i) (λ s. same_first 33 [] p q s)

pub special_same : (spr : ℕ) (v w : GuestValues) (p q : ℕ → ℕ) → IsSpr spr → v.s ≡ w.s → SameIn (special spr) (put_special spr (special_put spr v) p) (put_special spr (special_put spr w) q)
special_same spr v w p q is e = at spr is
  where
    P : ℕ → Type 0
    P n = SameIn (special n) (put_special n (special_put n v) p) (put_special n (special_put n w) q)

    f : ℕ → ℕ
    f = put_special 1 (special_put 1 v) p

    h : ℕ → ℕ
    h = put_special 1 (special_put 1 w) q

    at : (n : ℕ) → IsSpr n → P n
    at n (inl i) = subst P (sym i)
        (in_more 42 (43 ∷ 44 ∷ 45 ∷ []) f h (ap (λ s. word_and s 0xE000007F / 2 ^ 29 % 2) e) (in_more 43 (44 ∷ 45 ∷ []) f h (ap (λ s. word_and s 0xE000007F / 2 ^ 31 % 2) e)
        (in_more 44 (45 ∷ []) f h (ap (λ s. word_and s 0xE000007F / 2 ^ 30 % 2) e) (in_more 45 [] f h (ap (λ s. word_and s 0xE000007F % 2 ^ 7) e) (in_none f h)))))
    at n (inr (inl i)) = subst P (sym i) (one_same 32 v.s w.s p q e)
    at n (inr (inr i)) = subst P (sym i) (one_same 33 v.s w.s p q e)

-- branches: LR, and CTR where it is counted
link_same : (link : Bool) (at : ℕ) (f h : ℕ → ℕ) → link ≡ true → linked link at f 32 ≡ linked link at h 32
link_same true at f h i = refl
link_same false at f h i = absurd cc

pub linked_same : (link : Bool) (at : ℕ) (p q : ℕ → ℕ) → SameIn (when link 32) (linked link at p) (linked link at q)
linked_same link at p q = in_when link 32 (linked link at p) (linked link at q) (link_same link at p q)

counts : (bo : ℕ) → bo_bit bo 2 ≡ false → (bo_2 bo == 0) ≡ true
counts bo i = grind (arith, nat_tests)

conditional : (bo : ℕ) → bo_bit bo 0 ≡ false → (bo_0 bo == 0) ≡ true
conditional bo i = grind (arith, nat_tests)

counted_same : (bo : ℕ) (v w : GuestValues) → v.ctr ≡ w.ctr → counted bo v ≡ counted bo w
counted_same bo v w e = ap (λ c. cond (bo_bit bo 2) c (sum_word c (2 ^ 32 - 1) false)) e

or_same : (b x y : Bool) → (b ≡ false → x ≡ y) → (b || x) ≡ (b || y)
or_same true x y e = refl
or_same false x y e = e refl

pub branching_same : (bo bi : ℕ) (link : Bool) (target target' : ℕ) (v w : GuestValues) (p q : ℕ → ℕ) (next : ℕ) (bytes : ℕ → ℕ) → target ≡ target' →
    ((bo_2 bo == 0) ≡ true → v.ctr ≡ w.ctr) → ((bo_0 bo == 0) ≡ true → cr_bit bi v ≡ cr_bit bi w) →
    AreSame (count bo ++ when link 32)
    (branches (linked link next (update p 33 (counted bo v))) (count_allows bo (counted bo v) && condition_allows bo (cr_bit bi v)) target (state p next bytes))
    (branches (linked link next (update q 33 (counted bo w))) (count_allows bo (counted bo w) && condition_allows bo (cr_bit bi w)) target' (state q next bytes))
branching_same bo bi link target target' v w p q next bytes ht hc hb = record {
  locs = in_both (count bo) (when link 32) f h (in_when (bo_2 bo == 0) 33 f h (λ i. at_count link p (counted bo v) ∙ counted_same bo v w (hc i) ∙ sym (at_count link q (counted bo w)))) (linked_same link next (update p 33 (counted bo v)) (update q 33 (counted bo w)));
  next = ap (λ b. cond b target (behind next)) taken ∙ ap (λ n. cond (count_allows bo (counted bo w) && condition_allows bo (cr_bit bi w)) n (behind next)) ht;
  bytes = refl;
}
  where
    f : ℕ → ℕ
    f = linked link next (update p 33 (counted bo v))

    h : ℕ → ℕ
    h = linked link next (update q 33 (counted bo w))

    at_count : (b : Bool) (l : ℕ → ℕ) (c : ℕ) → linked b next (update l 33 c) 33 ≡ c
    at_count true l c = refl
    at_count false l c = refl

    taken : (count_allows bo (counted bo v) && condition_allows bo (cr_bit bi v)) ≡ (count_allows bo (counted bo w) && condition_allows bo (cr_bit bi w))
    taken =
        ap (λ b. b && condition_allows bo (cr_bit bi v)) (or_same (bo_bit bo 2) (same (bo_bit bo 3) (eqb (counted bo v) 0)) (same (bo_bit bo 3) (eqb (counted bo w) 0)) (λ i. ap (λ c. same (bo_bit bo 3) (eqb c 0)) (counted_same bo v w (hc (counts bo i)))))
        ∙ ap (λ b. count_allows bo (counted bo w) && b) (or_same (bo_bit bo 0) (same (bo_bit bo 1) (cr_bit bi v)) (same (bo_bit bo 1) (cr_bit bi w)) (λ i. ap (same (bo_bit bo 1)) (hb (conditional bo i))))

-- calls
given_same : (r r' : Given) (p q : ℕ → ℕ) (next : ℕ) (bytes : ℕ → ℕ) → r ≡ r' → p 4 ≡ q 4 → p 34 ≡ q 34 → AreSame (3 ∷ 34 ∷ []) (after_guest_call r (state p next bytes)) (after_guest_call r' (state q next bytes))
given_same r r' p q next bytes e buffer field = let P : Given → Type 0 = λ x. AreSame (3 ∷ 34 ∷ []) (after_guest_call r (state p next bytes)) (after_guest_call x (state q next bytes)) in subst P e (alike r)
  where
    locs : (v : ℕ) (g : ℕ → ℕ) → SameIn (3 ∷ 34 ∷ []) (update (update p 3 v) 34 (g (p 34))) (update (update q 3 v) 34 (g (q 34)))
    locs v g = two_same 3 34 v (g (p 34)) v (g (q 34)) p q refl (ap g field)

    alike : (r : Given) → AreSame (3 ∷ 34 ∷ []) (after_guest_call r (state p next bytes)) (after_guest_call r (state q next bytes))
    alike (GivesResult result to_buffer) = record { locs = locs result without_so; next = refl; bytes = ap (λ b. put_block b to_buffer bytes) buffer }
    alike (Fails error) = record { locs = locs error with_so; next = refl; bytes = refl }

asks_same : (call call' : ListedCall) (p q : ℕ → ℕ) (next : ℕ) (bytes : ℕ → ℕ) → call ≡ call' → p 4 ≡ q 4 → p 34 ≡ q 34 → Alike (AreSame (3 ∷ 34 ∷ [])) (guest_asks call (state p next bytes)) (guest_asks call' (state q next bytes))
asks_same call call' p q next bytes e buffer field = (e, λ a. given_same (given call a) (given call' a) p q next bytes (ap (λ c. given c a) e) buffer field)

pub call_same : (rights : Rights) (p q : ℕ → ℕ) (next : ℕ) (bytes : ℕ → ℕ) → SameIn (0 ∷ 3 ∷ 4 ∷ 5 ∷ 34 ∷ []) p q →
    Alike (AreSame (3 ∷ 34 ∷ [])) (guest_system_call rights (state p next bytes)) (guest_system_call rights (state q next bytes))
call_same rights p q next bytes s =
    test (eqb (p 0) 1 || eqb (p 0) 234) (eqb (q 0) 1 || eqb (q 0) 234) (Ends (Exit (p 3))) (Ends (Exit (q 3))) (reads p) (reads q) (ap (λ n. eqb n 1 || eqb n 234) number) (ap Exit fd)
    (test (eqb (p 0) 3) (eqb (q 0) 3) (read p) (read q) (writes p) (writes q) (ap (λ n. eqb n 3) number)
    (test (each_byte rights.writable (p 5) (p 4)) (each_byte rights.writable (q 5) (q 4)) (guest_asks (Read (p 3) (p 5)) (at p)) (guest_asks (Read (q 3) (q 5)) (at q)) (Ends Outside) (Ends Outside) (both (λ n b. each_byte rights.writable n b) size buffer)
    (asks_same (Read (p 3) (p 5)) (Read (q 3) (q 5)) p q next bytes (both (λ f n. Read f n) fd size) buffer field) refl)
    (test (eqb (p 0) 4) (eqb (q 0) 4) (write p) (write q) (closes p) (closes q) (ap (λ n. eqb n 4) number)
    (test (each_byte rights.held (p 5) (p 4)) (each_byte rights.held (q 5) (q 4)) (guest_asks (Write (p 3) (block (p 5) (p 4) bytes)) (at p)) (guest_asks (Write (q 3) (block (q 5) (q 4) bytes)) (at q)) (Ends Outside) (Ends Outside) (both (λ n b. each_byte rights.held n b) size buffer)
    (asks_same (Write (p 3) (block (p 5) (p 4) bytes)) (Write (q 3) (block (q 5) (q 4) bytes)) p q next bytes
    (ap (λ f. Write f (block (p 5) (p 4) bytes)) fd ∙ both (λ n b. Write (q 3) (block n b bytes)) size buffer) buffer field) refl)
    (test (eqb (p 0) 6) (eqb (q 0) 6) (guest_asks (Close (p 3)) (at p)) (guest_asks (Close (q 3)) (at q)) (unknown p) (unknown q) (ap (λ n. eqb n 6) number)
    (asks_same (Close (p 3)) (Close (q 3)) p q next bytes (ap Close fd) buffer field)
    (given_same (Fails 38) (Fails 38) p q next bytes refl buffer field))))
  where
    at : (ℕ → ℕ) → Guest
    at l = state l next bytes

    unknown : (ℕ → ℕ) → Outcome Guest
    unknown l = Goes (after_guest_call (Fails 38) (at l))

    closes : (ℕ → ℕ) → Outcome Guest
    closes l = cond (eqb (l 0) 6) (guest_asks (Close (l 3)) (at l)) (unknown l)

    write : (ℕ → ℕ) → Outcome Guest
    write l = cond (each_byte rights.held (l 5) (l 4)) (guest_asks (Write (l 3) (block (l 5) (l 4) bytes)) (at l)) (Ends Outside)

    writes : (ℕ → ℕ) → Outcome Guest
    writes l = cond (eqb (l 0) 4) (write l) (closes l)

    read : (ℕ → ℕ) → Outcome Guest
    read l = cond (each_byte rights.writable (l 5) (l 4)) (guest_asks (Read (l 3) (l 5)) (at l)) (Ends Outside)

    reads : (ℕ → ℕ) → Outcome Guest
    reads l = cond (eqb (l 0) 3) (read l) (writes l)

    test : (b c : Bool) (x x' y y' : Outcome Guest) → b ≡ c → Alike (AreSame (3 ∷ 34 ∷ [])) x x' → Alike (AreSame (3 ∷ 34 ∷ [])) y y' → Alike (AreSame (3 ∷ 34 ∷ [])) (cond b x y) (cond c x' y')
    test = alike_cond (AreSame (3 ∷ 34 ∷ []))

    number : p 0 ≡ q 0
    number = s 0 (0, omega arith, refl)

    fd : p 3 ≡ q 3
    fd = s 3 (1, omega arith, refl)

    buffer : p 4 ≡ q 4
    buffer = s 4 (2, omega arith, refl)

    size : p 5 ≡ q 5
    size = s 5 (3, omega arith, refl)

    field : p 34 ≡ q 34
    field = s 34 (4, omega arith, refl)
