-- What stays as it was where an instruction doesn't write.
use Rattle.std.proofs.Common.{◌≡◌, ◌≢◌, ℕ, ◌+◌, ◌-◌, ◌*◌, ◌/◌, ◌%◌, ◌^◌, ◌<◌, ◌≤◌, Bool, true, false, cond, eqb, leb, ltb, ◌==◌, ◌&&◌, ◌||◌, Contains, [], ◌∷◌, ◌++◌, refl, sym, ap, ◌∙◌, subst, inl, inr, arith}
use Rattle.std.proofs.lemmas.Bool.{eqb-true}
use Rattle.std.proofs.lemmas.Bool.Decides.{nat_tests}
use Rattle.machines.specs.Prelude.{Exit, Outside, Read, Write, Close, Given, Gives as GivesResult, Fails, given, Outcome, Goes, Ends, is_less, sum_word, bit_of, with_bit, IsSpr, bo_2, when, count, special, registers_from, chosen_fields, cr, GuestValues, Effect, place, with_ca, with_field, bo_bit, counted, update, load_big, block, each_byte, Rights, Guest, cr_word, xer_word, put_cr, put_xer, results, puts_cr, puts_xer, put_special, put_loaded, linked, behind, after_guest_call, without_so, with_so, guest_asks, guest_system_call}
use Rattle.ppc_isa.specs.Locations.{ca}
use Rattle.ppc_isa.specs.Recording.{so}
use Rattle.row_laws.specs.Laws.{Next, AgreeBut}
use Rattle.row_laws.proofs.Digits.{digit, with_bit_other}
use Rattle.row_laws.proofs.Fields.{InRange, field_of_word, so_of_word, ov_of_word, xc_of_word, so_with_ca, ov_with_ca, xc_with_ca, with_field_other, put_cr_keeps, put_xer_keeps}
use Rattle.row_laws.proofs.Chosen.{put_fields, field_kept}
use Rattle.row_laws.proofs.Lists.{Lacks, not_first, not_later, not_left, not_right, not_when, registers_in, chosen_in}
use Rattle.row_laws.proofs.Shapes.{Gives}

pub next_cond : (P : Guest → Type 0) (b : Bool) (x y : Outcome Guest) → Next P x → Next P y → Next P (cond b x y)
next_cond P true x y hx hy = hx
next_cond P false x y hx hy = hy

pub update_same : (f : ℕ → ℕ) (k v : ℕ) → update f k v k ≡ v
update_same f k v = grind (arith, nat_tests)

pub update_other : (f : ℕ → ℕ) (k v x : ℕ) → x ≢ k → update f k v x ≡ f x
update_other f k v x ne = grind (arith, nat_tests)

-- a location that gets the value that it has
update_idle : (f : ℕ → ℕ) (k v x : ℕ) → v ≡ f k → update f k v x ≡ f x
update_idle f k v x e = by_test (eqb x k) refl
  where
    by_test : (b : Bool) → eqb x k ≡ b → cond b v (f x) ≡ f x
    by_test true i = e ∙ ap f (sym (eqb-true x k i))
    by_test false i = refl

-- all fields of CR but one stay
pub cr_kept : (w but : ℕ) (p l : ℕ → ℕ) (x : ℕ) → InRange p → l x ≡ p x → x ≢ 34 + but → ((f : ℕ) → f < 8 → f ≢ but → digit (7 - f) w ≡ digit (7 - f) (cr_word p)) → put_cr w l x ≡ p x
cr_kept w but p l x fits e ne same = put_cr_keeps w l x (p x) e (λ f lt i. same f lt (λ j. ne (i ∙ ap (λ n. 34 + n) j)) ∙ field_of_word p fits f lt ∙ sym (ap p i))

pub field_alone : (but : ℕ) (lt gt eq so : Bool) (p l : ℕ → ℕ) (x : ℕ) → but < 8 → InRange p → l x ≡ p x → x ≢ 34 + but → put_cr (with_field (cr_word p) but lt gt eq so) l x ≡ p x
field_alone but lt gt eq so p l x h fits e ne = cr_kept (with_field (cr_word p) but lt gt eq so) but p l x fits e ne (λ f hf nf. with_field_other (cr_word p) but (7 - f) lt gt eq so h (λ i. nf (omega arith)))

pub bit_alone : (d : ℕ) (b : Bool) (p : ℕ → ℕ) (x : ℕ) → d < 32 → InRange p → x ≢ 34 + d / 4 → put_cr (with_bit (cr_word p) (place d) b) p x ≡ p x
bit_alone d b p x h fits ne =
    let e : place d ≡ 4 * (7 - d / 4) + (3 - d % 4) = omega arith in
    cr_kept (with_bit (cr_word p) (place d) b) (d / 4) p p x fits refl ne
    (λ f hf nf. ap (λ n. digit (7 - f) (with_bit (cr_word p) n b)) e ∙ with_bit_other (cr_word p) (7 - f) (7 - d / 4) (3 - d % 4) b (omega arith) (λ i. nf (omega arith)))

-- XER stays but for CA
carry_alone : (b : Bool) (p l : ℕ → ℕ) (x : ℕ) → InRange p → l x ≡ p x → x ≢ 42 → put_xer (with_ca (xer_word p) b) l x ≡ p x
carry_alone b p l x fits e ne = put_xer_keeps (with_ca (xer_word p) b) l x (p x) e
    (λ i. absurd (ne i))
    (λ i. so_with_ca (xer_word p) b ∙ so_of_word p fits ∙ sym (ap p i))
    (λ i. ov_with_ca (xer_word p) b ∙ ov_of_word p fits ∙ sym (ap p i))
    (λ i. xc_with_ca (xer_word p) b ∙ xc_of_word p fits ∙ sym (ap p i))

recorded_kept : (records : Bool) (x : ℕ) (e : Effect) (p l : ℕ → ℕ) (lt gt eq so : Bool) → InRange p → l x ≡ p x → (records ≡ true → x ≢ 34) → (records ≡ true → e.cr ≡ with_field (cr_word p) 0 lt gt eq so) → puts_cr records e l x ≡ p x
recorded_kept true x e p l lt gt eq so fits i ne h = ap (λ w. put_cr w l x) (h refl) ∙ field_alone 0 lt gt eq so p l x (omega arith) fits i (ne refl)
recorded_kept false x e p l lt gt eq so fits i ne h = i

carried_kept : (carries : Bool) (x : ℕ) (e : Effect) (p l : ℕ → ℕ) (b : Bool) → InRange p → l x ≡ p x → (carries ≡ true → x ≢ 42) → (carries ≡ true → e.xer ≡ with_ca (xer_word p) b) → puts_xer carries e l x ≡ p x
carried_kept true x e p l b fits i ne h = ap (λ w. put_xer w l x) (h refl) ∙ carry_alone b p l x fits i (ne refl)
carried_kept false x e p l b fits i ne h = i

-- where what was there before stands in CR and XER
pub record Stands (v : GuestValues) (p : ℕ → ℕ) : Type 0 where
  pub cr : v.cr ≡ cr_word p
  pub xer : v.xer ≡ xer_word p

pub results_kept : (carries records : Bool) (k r n : ℕ) (carry : Bool) (e : Effect) (v : GuestValues) (p : ℕ → ℕ) (x : ℕ) → InRange p → Stands v p → Gives carries records n carry e v →
    Lacks (k ∷ (when carries ca ++ when records (cr 0))) x → results carries records k r e p x ≡ p x
results_kept carries records k r n carry e v p x fits s g lacks =
    let ne : x ≢ k = not_first k x (when carries ca ++ when records (cr 0)) lacks in
    let others = not_later k x (when carries ca ++ when records (cr 0)) lacks in
    let not_ca : carries ≡ true → x ≢ 42 = not_when carries ca x (not_left (when carries ca) (when records (cr 0)) x others) in
    let not_cr : records ≡ true → x ≢ 34 = not_when records (cr 0) x (not_right (when carries ca) (when records (cr 0)) x others) in
    carried_kept carries x e p (puts_cr records e (update p k r)) carry fits
    (recorded_kept records x e p (update p k r) (is_less n 0 true) (is_less 0 n true) (eqb n 0) (so v) fits (update_other p k r x ne) not_cr
    (λ i. g.cr i ∙ ap (λ w. with_field w 0 (is_less n 0 true) (is_less 0 n true) (eqb n 0) (so v)) s.cr))
    not_ca (λ i. g.xer i ∙ ap (λ w. with_ca w carry) s.xer)

-- one of the special registers
pub special_kept : (spr : ℕ) (e : Effect) (p : ℕ → ℕ) (x : ℕ) → IsSpr spr → Lacks (special spr) x → put_special spr e p x ≡ p x
special_kept spr e p x is lacks = at spr is lacks
  where
    at : (spr : ℕ) → IsSpr spr → Lacks (special spr) x → put_special spr e p x ≡ p x
    at spr (inl i) = let P : ℕ → Type 0 = λ n. Lacks (special n) x → put_special n e p x ≡ p x in subst P (sym i)
        (λ l. put_xer_keeps e.xer p x (p x) refl
        (λ j. absurd (not_first 42 x (43 ∷ 44 ∷ 45 ∷ []) l j))
        (λ j. absurd (not_first 43 x (44 ∷ 45 ∷ []) (not_later 42 x (43 ∷ 44 ∷ 45 ∷ []) l) j))
        (λ j. absurd (not_first 44 x (45 ∷ []) (not_later 43 x (44 ∷ 45 ∷ []) (not_later 42 x (43 ∷ 44 ∷ 45 ∷ []) l)) j))
        (λ j. absurd (not_first 45 x [] (not_later 44 x (45 ∷ []) (not_later 43 x (44 ∷ 45 ∷ []) (not_later 42 x (43 ∷ 44 ∷ 45 ∷ []) l))) j)))
    at spr (inr (inl i)) = let P : ℕ → Type 0 = λ n. Lacks (special n) x → put_special n e p x ≡ p x in subst P (sym i) (λ l. update_other p 32 e.lr x (not_first 32 x [] l))
    at spr (inr (inr i)) = let P : ℕ → Type 0 = λ n. Lacks (special n) x → put_special n e p x ≡ p x in subst P (sym i) (λ l. update_other p 33 e.ctr x (not_first 33 x [] l))

-- the fields that mtcrf doesn't choose
pub fields_kept : (mask s : ℕ) (p : ℕ → ℕ) (x : ℕ) → InRange p → Lacks (chosen_fields mask) x → put_cr (put_fields mask s (cr_word p)) p x ≡ p x
fields_kept mask s p x fits lacks =
    put_cr_keeps (put_fields mask s (cr_word p)) p x (p x) refl (λ f lt i. by_test f lt i (bit_of mask (7 - f)) refl)
  where
    by_test : (f : ℕ) → f < 8 → x ≡ 34 + f → (b : Bool) → bit_of mask (7 - f) ≡ b → digit (7 - f) (put_fields mask s (cr_word p)) ≡ p x
    by_test f lt i true on = absurd (lacks (subst (λ (z : ℕ). Contains (chosen_fields mask) z) (sym i) (chosen_in mask f lt on)))
    by_test f lt i false off = field_kept mask s (cr_word p) (7 - f) (omega arith) off ∙ field_of_word p fits f lt ∙ sym (ap p i)

-- the registers below those that lmw loads, and what isn't a register
pub loaded_kept : (d at : ℕ) (bytes p : ℕ → ℕ) (x : ℕ) → Lacks (registers_from d) x → put_loaded d at bytes p x ≡ p x
loaded_kept d at bytes p x lacks = by_tests (leb d x) (ltb x 32) (λ le lt. lacks (registers_in d x le lt)) (grind (arith, nat_tests)) (grind (arith, nat_tests))
  where
    by_tests : (a b : Bool) → (d ≤ x → x < 32 → ⊥) → (a ≡ true → d ≤ x) → (b ≡ true → x < 32) → cond (a && b) (load_big 4 (at + 4 * (x - d)) bytes) (p x) ≡ p x
    by_tests true true out le lt = absurd (out (le refl) (lt refl))
    by_tests true false out le lt = refl
    by_tests false b out le lt = refl

-- LR
pub linked_kept : (link : Bool) (at : ℕ) (l : ℕ → ℕ) (x v : ℕ) → Lacks (when link 32) x → l x ≡ v → linked link at l x ≡ v
linked_kept true at l x v lacks e = update_other l 32 (behind at) x (not_first 32 x [] lacks) ∙ e
linked_kept false at l x v lacks e = e

-- CTR
pub counted_kept : (bo : ℕ) (v : GuestValues) (p : ℕ → ℕ) (x : ℕ) → v.ctr ≡ p 33 → Lacks (count bo) x → update p 33 (counted bo v) x ≡ p x
counted_kept bo v p x e lacks = by_test (bo_bit bo 2) refl
  where
    by_test : (b : Bool) → bo_bit bo 2 ≡ b → update p 33 (counted bo v) x ≡ p x
    by_test true i = update_idle p 33 (counted bo v) x (ap (λ b. cond b v.ctr (sum_word v.ctr (2 ^ 32 - 1) false)) i ∙ e)
    by_test false i = update_other p 33 (counted bo v) x (not_when (bo_2 bo == 0) 33 x lacks (grind (arith, nat_tests)))

-- what a call leaves
pub given_kept : (r : Given) (g : Guest) → AgreeBut (3 ∷ 34 ∷ []) (after_guest_call r g) g
given_kept (GivesResult result to_buffer) g x lt lacks =
    update_other (update g.locs 3 result) 34 (without_so (g.locs 34)) x (not_first 34 x [] (not_later 3 x (34 ∷ []) lacks)) ∙ update_other g.locs 3 result x (not_first 3 x (34 ∷ []) lacks)
given_kept (Fails error) g x lt lacks =
    update_other (update g.locs 3 error) 34 (with_so (g.locs 34)) x (not_first 34 x [] (not_later 3 x (34 ∷ []) lacks)) ∙ update_other g.locs 3 error x (not_first 3 x (34 ∷ []) lacks)

pub call_kept : (rights : Rights) (g : Guest) → Next (λ h. AgreeBut (3 ∷ 34 ∷ []) h g) (guest_system_call rights g)
call_kept rights g =
    let P : Guest → Type 0 = λ h. AgreeBut (3 ∷ 34 ∷ []) h g in
    let fd = g.locs 3 in
    let buffer = g.locs 4 in
    let size = g.locs 5 in
    let unknown = Goes (after_guest_call (Fails 38) g) in
    let closes = cond (eqb (g.locs 0) 6) (guest_asks (Close fd) g) unknown in
    let write = cond (each_byte rights.held size buffer) (guest_asks (Write fd (block size buffer g.bytes)) g) (Ends Outside) in
    let writes = cond (eqb (g.locs 0) 4) write closes in
    let read = cond (each_byte rights.writable size buffer) (guest_asks (Read fd size) g) (Ends Outside) in
    let reads = cond (eqb (g.locs 0) 3) read writes in
    next_cond P (eqb (g.locs 0) 1 || eqb (g.locs 0) 234) (Ends (Exit fd)) reads tt
    (next_cond P (eqb (g.locs 0) 3) read writes
    (next_cond P (each_byte rights.writable size buffer) (guest_asks (Read fd size) g) (Ends Outside) (λ a. given_kept (given (Read fd size) a) g) tt)
    (next_cond P (eqb (g.locs 0) 4) write closes
    (next_cond P (each_byte rights.held size buffer) (guest_asks (Write fd (block size buffer g.bytes)) g) (Ends Outside) (λ a. given_kept (given (Write fd (block size buffer g.bytes)) a) g) tt)
    (next_cond P (eqb (g.locs 0) 6) (guest_asks (Close fd) g) unknown (λ a. given_kept (given (Close fd) a) g) (given_kept (Fails 38) g))))
