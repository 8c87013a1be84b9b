-- Tiles of lmw and stmw.
use Rattle.symbolic_tiles.proofs.Lengths.{room_append}
use Rattle.std.proofs.Common.{◌≡◌, ◌≢◌, ℕ, zero, suc, ◌+◌, ◌-◌, ◌*◌, ◌%◌, ◌^◌, ◌<◌, ◌≤◌, ◌⊎◌, inl, inr, Bool, true, false, cond, ◌&&◌, eqb, leb, ltb, List, ◌++◌, refl, sym, ap, ◌∙◌, subst, arith}
use Rattle.std.proofs.lemmas.Bool.Decides.{nat_tests}
use Rattle.machines.specs.Prelude.{sign_extended, Multiple, Lmw, Stmw, IsLegal, swapped, update, load, store, load_big, store_big, each_byte, Rights, Guest, at_next, put_loaded, store_registers, Choice}
use Rattle.reg_map.specs.Prelude.{location_range, AreInRange}
use Rattle.symbolic_tiles.specs.Prelude.{AreWellFormed, SymbolicState, execute_ops, can_load, can_store, IsTileOf, room_of}
use Rattle.base_mem.specs.Addresses.{immediate_address}
use Rattle.base_mem.specs.Multiple.{one_load, lmw_ops, one_store, stmw_ops}
use Rattle.symbolic_tiles.proofs.Memory.{update_same, update_other, store_same}
use Rattle.machines.proofs.Stack.{each_true as each_of}
use Rattle.symbolic_tiles.proofs.Shows.{bytes_held}
use Rattle.symbolic_tiles.proofs.Done.{state_of, IsStateOf}
use Rattle.symbolic_tiles.proofs.TileOf.{ops_are_tile, then_more}
use Rattle.symbolic_tiles.proofs.Small.{both_true}
use Rattle.symbolic_tiles.proofs.Results.{Then, both_ops, ops_then}
use Rattle.symbolic_tiles.proofs.Registers.{gpr, extended_word}
use Rattle.base_mem.proofs.Accesses.{goes_inside, each_in_span, all_held, inside_then, Inside, HasAddress, immediate_addressed, immediate_are, immediate_short, swapped_word_is, stored_word_is}

-- addresses wrap
load_wraps : (a : ℕ) (f : ℕ → ℕ) → load_big 4 (a % 2 ^ 32) f ≡ load_big 4 a f
unfolding load_big
load_wraps a f =
    let e0 : a % 2 ^ 32 % 2 ^ 32 ≡ a % 2 ^ 32 = omega arith in
    let e1 : (a % 2 ^ 32 + 1) % 2 ^ 32 ≡ (a + 1) % 2 ^ 32 = omega arith in
    let e2 : (a % 2 ^ 32 + 1 + 1) % 2 ^ 32 ≡ (a + 1 + 1) % 2 ^ 32 = omega arith in
    let e3 : (a % 2 ^ 32 + 1 + 1 + 1) % 2 ^ 32 ≡ (a + 1 + 1 + 1) % 2 ^ 32 = omega arith in
    rw (e0, e1, e2, e3) refl

store_wraps : (a v : ℕ) (f : ℕ → ℕ) (x : ℕ) → store_big 4 (a % 2 ^ 32) v f x ≡ store_big 4 a v f x
unfolding store_big
store_wraps a v f x =
    let e0 : a % 2 ^ 32 % 2 ^ 32 ≡ a % 2 ^ 32 = omega arith in
    let e1 : (a % 2 ^ 32 + 1) % 2 ^ 32 ≡ (a + 1) % 2 ^ 32 = omega arith in
    let e2 : (a % 2 ^ 32 + 1 + 1) % 2 ^ 32 ≡ (a + 1 + 1) % 2 ^ 32 = omega arith in
    let e3 : (a % 2 ^ 32 + 1 + 1 + 1) % 2 ^ 32 ≡ (a + 1 + 1 + 1) % 2 ^ 32 = omega arith in
    rw (e0, e1, e2, e3) refl

-- four bytes inside many
part_held : (test : ℕ → Bool) (W A k : ℕ) → k + 4 ≤ W → each_byte test W A ≡ true → each_byte test 4 ((A + k) % 2 ^ 32) ≡ true
part_held test W A k le h = each_of test 4 ((A + k) % 2 ^ 32) (λ i li. let e : ((A + k) % 2 ^ 32 + i) % 2 ^ 32 ≡ (A + (k + i)) % 2 ^ 32 = omega arith in ap test e ∙ bytes_held test W A h (k + i) (omega arith))

part_bytes : (f : ℕ → ℕ) (W A k : ℕ) → k + 4 ≤ W → ((i : ℕ) → i < W → f ((A + i) % 2 ^ 32) < 256) → (i : ℕ) → i < 4 → f (((A + k) % 2 ^ 32 + i) % 2 ^ 32) < 256
part_bytes f W A k le h i li = let e : (A + (k + i)) % 2 ^ 32 ≡ ((A + k) % 2 ^ 32 + i) % 2 ^ 32 = omega arith in subst (λ m. f m < 256) e (h (k + i) (omega arith))

module _ (guest host : Rights) (d A : ℕ) (g : Guest) (ld : d < 32) (inside : Inside guest host (4 * (32 - d)) A g) where
  -- the registers below 32 - n are done
  abbrev IsLoadedAt : ℕ → ℕ → (ℕ → ℕ) → (ℕ → ℕ) → Type 0
  IsLoadedAt n edx locs bytes = (edx ≡ A) × ((x : ℕ) → x < 32 - n → locs x ≡ put_loaded d A g.bytes g.locs x) × ((x : ℕ) → 32 - n ≤ x → locs x ≡ g.locs x) × (bytes ≡ g.bytes)

  abbrev IsLoadedTo : ℕ → SymbolicState → Type 0
  IsLoadedTo n t = IsLoadedAt n (t.regs 2) t.locs t.bytes

  put_at : (r : ℕ) → d ≤ r → r < 32 → put_loaded d A g.bytes g.locs r ≡ load_big 4 (A + 4 * (r - d)) g.bytes
  put_at r le lt = grind (arith, nat_tests)

  one_word : (n : ℕ) → suc n ≤ 32 - d → (choices : List Choice) (t : SymbolicState) → IsLoadedTo (suc n) t → Then (IsLoadedTo n) (execute_ops guest host (one_load (31 - n) d) choices t)
  one_word n le choices t h =
      let k = 4 * (31 - n - d) in
      let at : (t.regs 2 + k) % 2 ^ 32 ≡ (A + k) % 2 ^ 32 = ap (λ m. (m + k) % 2 ^ 32) h.0 in
      let both = both_true (each_byte guest.held (4 * (32 - d)) A) (each_byte host.held (4 * (32 - d)) A) inside.can in
      let p = part_held guest.held (4 * (32 - d)) A k (omega arith) both.0 in
      let q = part_held host.held (4 * (32 - d)) A k (omega arith) both.1 in
      let can : can_load guest host 4 ((t.regs 2 + k) % 2 ^ 32) ≡ true = ap (can_load guest host 4) at ∙ simp (p, q) in
      let v : swapped (load 4 ((t.regs 2 + k) % 2 ^ 32) t.bytes) ≡ put_loaded d A g.bytes g.locs (31 - n) =
      ap (λ m. swapped (load 4 m t.bytes)) at ∙ ap (λ f. swapped (load 4 ((A + k) % 2 ^ 32) f)) h.3 ∙ swapped_word_is g.bytes ((A + k) % 2 ^ 32) (part_bytes g.bytes (4 * (32 - d)) A k (omega arith) inside.bytes) ∙ load_wraps (A + k) g.bytes ∙ sym (put_at (31 - n) (omega arith) (omega arith)) in
      inside_then (IsLoadedTo n) _ _ (can_load guest host 4 ((t.regs 2 + k) % 2 ^ 32)) can
      (h.0, (λ x lx. by_same x lx (swapped (load 4 ((t.regs 2 + k) % 2 ^ 32) t.bytes)) v (grind arith)), λ x lx. update_other t.locs (31 - n) _ x (λ e. omega arith) ∙ h.2 x (omega arith), h.3)
    where
      by_same : (x : ℕ) → x < 32 - n → (v : ℕ) → v ≡ put_loaded d A g.bytes g.locs (31 - n) → (x ≡ 31 - n) ⊎ (x ≢ 31 - n) → update t.locs (31 - n) v x ≡ put_loaded d A g.bytes g.locs x
      by_same x lx v e (inl q) = ap (update t.locs (31 - n) v) q ∙ update_same t.locs (31 - n) v ∙ e ∙ sym (ap (put_loaded d A g.bytes g.locs) q)
      by_same x lx v e (inr ne) = update_other t.locs (31 - n) v x ne ∙ h.1 x (omega arith)

  all_words : (n : ℕ) → n ≤ 32 - d → (choices : List Choice) (t : SymbolicState) → IsLoadedTo n t → Then (IsLoadedTo 0) (execute_ops guest host (lmw_ops n d) choices t)
  unfolding lmw_ops
  all_words zero le choices t h = h
  all_words (suc n) le choices t h = ops_then guest host (IsLoadedTo n) (IsLoadedTo 0) (one_load (31 - n) d) (lmw_ops n d) choices t (one_word n le choices t h) (λ choices u k. all_words n (omega arith) choices u k)

lmw_are : (n d : ℕ) → n ≤ 32 → AreWellFormed (lmw_ops n d)
unfolding lmw_ops
lmw_are zero d le = tt
lmw_are (suc n) d le = both_ops (one_load (31 - n) d) (lmw_ops n d) ((tt, tt, omega arith), (tt, ((omega arith, tt), tt))) (lmw_are n d (omega arith))

lmw_short : (n d : ℕ) → room_of (lmw_ops n d) ≤ 18 * n
unfolding lmw_ops
lmw_short zero d = omega arith
lmw_short (suc n) d = let h = lmw_short n d in omega (arith, h)

pub lmw_does : (d a imm : ℕ) → IsLegal (Multiple Lmw d a imm) → IsTileOf (Multiple Lmw d a imm) (immediate_address (eqb a 0) a imm ++ lmw_ops (32 - d) d)
lmw_does d a imm legal =
    ops_are_tile (Multiple Lmw d a imm) (immediate_address (eqb a 0) a imm ++ lmw_ops (32 - d) d) legal (both_ops (immediate_address (eqb a 0) a imm) (lmw_ops (32 - d) d) (immediate_are (eqb a 0) a imm la lv) (lmw_are (32 - d) d (omega arith))) (let h = immediate_short (eqb a 0) a imm in let k = lmw_short (32 - d) d in let e = room_append (immediate_address (eqb a 0) a imm) (lmw_ops (32 - d) d) in omega (arith, h, k, e))
    (λ guest g g' range leads.
    let e = (goes_inside (each_byte guest.held (4 * (32 - d)) (address g)) (after g) g' leads).1 in
    subst (λ h. (z : ℕ) → 34 ≤ z → z < 46 → h.locs z < location_range z) e (λ z lz uz. subst (λ v. v < location_range z) (sym (past (address g) g z (omega arith))) (range z uz)))
    (λ guest host g g' regs flags choices given words leads.
    let e = goes_inside (each_byte guest.held (4 * (32 - d)) (address g)) (after g) g' leads in
    let can : can_load guest host (4 * (32 - d)) (address g) ≡ true = let p = e.0 in let q = each_in_span host.held (4 * (32 - d)) (address g) given.loads in simp (p, q) in
    let inside : Inside guest host (4 * (32 - d)) (address g) g = record { low = omega arith; can = can; bytes = λ k lk. given.bytes ((address g + k) % 2 ^ 32) (bytes_held guest.held (4 * (32 - d)) (address g) e.0 k lk) } in
    ops_then guest host (HasAddress (address g) g) (IsStateOf guest g') (immediate_address (eqb a 0) a imm) (lmw_ops (32 - d) d) choices (state_of g regs flags) (immediate_addressed guest host (eqb a 0) a imm g regs flags choices lv)
    (λ choices s h. then_more (IsLoadedTo guest host d (address g) g ld inside 0) (IsStateOf guest g') (execute_ops guest host (lmw_ops (32 - d) d) choices s)
    (λ t k. (λ x lx. by_end g t.locs x k.1 k.2 (grind arith) ∙ ap (λ j. j.locs x) e.1, λ j held. ap (λ f. f j) k.3 ∙ ap (λ o. o.bytes j) e.1))
    (all_words guest host d (address g) g ld inside (32 - d) (omega arith) choices s (h.0, (λ x lx. ap (λ f. f x) h.1 ∙ sym (before (address g) g x (omega (arith, lx)))), (λ x lx. ap (λ f. f x) h.1), h.2))))
  where
    ld : d < 32
    ld = legal.fit.1.0

    la : a < 32
    la = legal.fit.1.1.0

    lv : sign_extended 16 imm < 2 ^ 32
    lv = extended_word imm (legal.fit.1.1.1.0)

    address : Guest → ℕ
    address g = (cond (eqb a 0) 0 (g.locs a) + sign_extended 16 imm) % 2 ^ 32

    after : Guest → Guest
    after g = at_next (put_loaded d (address g) g.bytes g.locs) g

    past : (A : ℕ) (g : Guest) (x : ℕ) → 32 ≤ x → put_loaded d A g.bytes g.locs x ≡ g.locs x
    past A g x h = by_tests (leb d x) (let e : ltb x 32 ≡ false = grind (arith, nat_tests) in e)
      where
        by_tests : (p : Bool) → ltb x 32 ≡ false → cond (p && ltb x 32) (load_big 4 (A + 4 * (x - d)) g.bytes) (g.locs x) ≡ g.locs x
        by_tests true e = ap (λ (t : Bool). cond t (load_big 4 (A + 4 * (x - d)) g.bytes) (g.locs x)) e
        by_tests false e = refl

    before : (A : ℕ) (g : Guest) (x : ℕ) → x < d → put_loaded d A g.bytes g.locs x ≡ g.locs x
    before A g x h = let e : leb d x ≡ false = grind (arith, nat_tests) in ap (λ (t : Bool). cond (t && ltb x 32) (load_big 4 (A + 4 * (x - d)) g.bytes) (g.locs x)) e

    by_end : (g : Guest) (locs : ℕ → ℕ) (x : ℕ) → ((y : ℕ) → y < 32 → locs y ≡ put_loaded d (address g) g.bytes g.locs y) → ((y : ℕ) → 32 ≤ y → locs y ≡ g.locs y) → (x < 32) ⊎ (32 ≤ x) → locs x ≡ put_loaded d (address g) g.bytes g.locs x
    by_end g locs x p q (inl l) = p x l
    by_end g locs x p q (inr l) = q x l ∙ sym (past (address g) g x l)

module _ (guest host : Rights) (s A : ℕ) (g : Guest) (range : AreInRange g) (can : can_store guest host (4 * (32 - s)) A ≡ true) where
  abbrev HasStoredTo : (ℕ → ℕ) → SymbolicState → Type 0
  HasStoredTo bytes t = (t.regs 2 ≡ A) × (t.locs ≡ g.locs) × ((x : ℕ) → t.bytes x ≡ bytes x)

  one_put : (r : ℕ) → s ≤ r → r < 32 → (bytes : ℕ → ℕ) (choices : List Choice) (t : SymbolicState) → HasStoredTo bytes t → Then (HasStoredTo (store_big 4 (A + 4 * (r - s)) (g.locs r) bytes)) (execute_ops guest host (one_store r s) choices t)
  one_put r le lt bytes choices t h =
      let k = 4 * (r - s) in
      let at : (t.regs 2 + k) % 2 ^ 32 ≡ (A + k) % 2 ^ 32 = ap (λ m. (m + k) % 2 ^ 32) h.0 in
      let both = both_true (each_byte guest.held (4 * (32 - s)) A) (each_byte host.writable (4 * (32 - s)) A) can in
      let p = part_held guest.held (4 * (32 - s)) A k (omega arith) both.0 in
      let q = part_held host.writable (4 * (32 - s)) A k (omega arith) both.1 in
      let ok : can_store guest host 4 ((t.regs 2 + k) % 2 ^ 32) ≡ true = ap (can_store guest host 4) at ∙ simp (p, q) in
      inside_then (HasStoredTo (store_big 4 (A + k) (g.locs r) bytes)) _ _ (can_store guest host 4 ((t.regs 2 + k) % 2 ^ 32)) ok (
        h.0,
        h.1,
        λ x. ap (λ m. store 4 m (swapped (t.locs r)) t.bytes x) at ∙ ap (λ (l : ℕ → ℕ). store 4 ((A + k) % 2 ^ 32) (swapped (l r)) t.bytes x) h.1
            ∙ store_same 4 ((A + k) % 2 ^ 32) (swapped (g.locs r)) t.bytes bytes x (h.2 x) ∙ stored_word_is bytes ((A + k) % 2 ^ 32) (g.locs r) x (gpr g r range lt) ∙ store_wraps (A + k) (g.locs r) bytes x,
      )

  all_puts : (n r : ℕ) → r + n ≡ 32 → s ≤ r → (bytes : ℕ → ℕ) (choices : List Choice) (t : SymbolicState) → HasStoredTo bytes t → Then (HasStoredTo (store_registers n r (A + 4 * (r - s)) g.locs bytes)) (execute_ops guest host (stmw_ops n s) choices t)
  unfolding stmw_ops store_registers
  all_puts zero r e le bytes choices t h = h
  all_puts (suc n) r e le bytes choices t h =
      let q : 31 - n ≡ r = omega arith in
      let z : A + 4 * (r + 1 - s) ≡ A + 4 * (r - s) + 4 = omega arith in
      ops_then guest host (HasStoredTo (store_big 4 (A + 4 * (r - s)) (g.locs r) bytes)) (HasStoredTo (store_registers n (r + 1) (A + 4 * (r - s) + 4) g.locs (store_big 4 (A + 4 * (r - s)) (g.locs r) bytes))) (one_store (31 - n) s) (stmw_ops n s) choices t
      (subst (λ (m : ℕ). Then (HasStoredTo (store_big 4 (A + 4 * (r - s)) (g.locs r) bytes)) (execute_ops guest host (one_store m s) choices t)) (sym q) (one_put r le (omega arith) bytes choices t h))
      (λ choices u k. subst (λ (m : ℕ). Then (HasStoredTo (store_registers n (r + 1) m g.locs (store_big 4 (A + 4 * (r - s)) (g.locs r) bytes))) (execute_ops guest host (stmw_ops n s) choices u)) z (all_puts n (r + 1) (omega arith) (omega arith) (store_big 4 (A + 4 * (r - s)) (g.locs r) bytes) choices u k))

stmw_are : (n s : ℕ) → n ≤ 32 → AreWellFormed (stmw_ops n s)
unfolding stmw_ops
stmw_are zero s le = tt
stmw_are (suc n) s le = both_ops (one_store (31 - n) s) (stmw_ops n s) ((tt, omega arith), (tt, ((tt, tt, omega arith), tt))) (stmw_are n s (omega arith))

stmw_short : (n s : ℕ) → room_of (stmw_ops n s) ≤ 18 * n
unfolding stmw_ops
stmw_short zero s = omega arith
stmw_short (suc n) s = let h = stmw_short n s in omega (arith, h)

pub stmw_does : (s a imm : ℕ) → IsLegal (Multiple Stmw s a imm) → IsTileOf (Multiple Stmw s a imm) (immediate_address (eqb a 0) a imm ++ stmw_ops (32 - s) s)
stmw_does s a imm legal =
    ops_are_tile (Multiple Stmw s a imm) (immediate_address (eqb a 0) a imm ++ stmw_ops (32 - s) s) legal (both_ops (immediate_address (eqb a 0) a imm) (stmw_ops (32 - s) s) (immediate_are (eqb a 0) a imm la lv) (stmw_are (32 - s) s (omega arith))) (let h = immediate_short (eqb a 0) a imm in let k = stmw_short (32 - s) s in let e = room_append (immediate_address (eqb a 0) a imm) (stmw_ops (32 - s) s) in omega (arith, h, k, e))
    (λ guest g g' range leads.
    let e = (goes_inside (each_byte guest.writable (4 * (32 - s)) (address g)) (after g) g' leads).1 in
    subst (λ h. (z : ℕ) → 34 ≤ z → z < 46 → h.locs z < location_range z) e (λ z lz uz. range z uz))
    (λ guest host g g' regs flags choices given words leads.
    let e = goes_inside (each_byte guest.writable (4 * (32 - s)) (address g)) (after g) g' leads in
    let can : can_store guest host (4 * (32 - s)) (address g) ≡ true = let p = all_held guest given.writes_held (4 * (32 - s)) (address g) e.0 in let q = each_in_span host.writable (4 * (32 - s)) (address g) given.stores in simp (p, q) in
    let zero_on : address g + 4 * (s - s) ≡ address g = omega arith in
    ops_then guest host (HasAddress (address g) g) (IsStateOf guest g') (immediate_address (eqb a 0) a imm) (stmw_ops (32 - s) s) choices (state_of g regs flags) (immediate_addressed guest host (eqb a 0) a imm g regs flags choices lv)
    (λ choices t h. then_more (HasStoredTo guest host s (address g) g given.in_range can (store_registers (32 - s) s (address g + 4 * (s - s)) g.locs g.bytes)) (IsStateOf guest g') (execute_ops guest host (stmw_ops (32 - s) s) choices t)
    (λ u k. (λ x lx. ap (λ f. f x) k.1 ∙ ap (λ j. j.locs x) e.1, λ j held. k.2 j ∙ ap (λ m. store_registers (32 - s) s m g.locs g.bytes j) zero_on ∙ ap (λ o. o.bytes j) e.1))
    (all_puts guest host s (address g) g given.in_range can (32 - s) s (omega arith) (omega arith) g.bytes choices t (h.0, h.1, λ x. ap (λ f. f x) h.2))))
  where
    ls : s < 32
    ls = legal.fit.1.0

    la : a < 32
    la = legal.fit.1.1.0

    lv : sign_extended 16 imm < 2 ^ 32
    lv = extended_word imm (legal.fit.1.1.1.0)

    address : Guest → ℕ
    address g = (cond (eqb a 0) 0 (g.locs a) + sign_extended 16 imm) % 2 ^ 32

    after : Guest → Guest
    after g = record (at_next g.locs g) { bytes = store_registers (32 - s) s (address g) g.locs g.bytes }
