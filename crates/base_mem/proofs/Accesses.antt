-- Tiles of loads and stores.
use Rattle.symbolic_tiles.proofs.Lengths.{room_append}
use Rattle.std.proofs.Common.{◌≡◌, ℕ, zero, suc, ◌+◌, ◌/◌, ◌%◌, ◌^◌, ◌<◌, ◌≤◌, Bool, true, false, cond, List, ◌++◌, Contains, Option, Some, None, refl, sym, ap, ◌∙◌, subst, arith}
use Rattle.machines.specs.Prelude.{sign_extended, Outside, Instr, IsLegal, Flags, swapped, Goes, Ends, update, load, store, load_big, store_big, each_byte, Rights, Guest, effect_of, guest_acts, at_next, load_outcome, Choice}
use Rattle.reg_map.specs.Prelude.{location_range, AreInRange}
use Rattle.symbolic_tiles.specs.Prelude.{span, WritesHeld, AreWellFormed, SymbolicState, execute_ops, then_ops, can_load, can_store, IsTileOf, room_of}
use Rattle.symbolic_tiles.specs.declared.symbolic_op.SymbolicOp.{SymbolicOp}
use Rattle.base_mem.specs.Addresses.{immediate_address}
use Rattle.base_mem.specs.Loads.{lwz_ops, lhz_ops, put_ops}
use Rattle.base_mem.specs.Stores.{stw_ops, update_ops}
use Rattle.row_laws.proofs.Lists.{first_in, later_in}
use Rattle.symbolic_tiles.proofs.Shows.{bytes_held}
use Rattle.symbolic_tiles.proofs.Done.{state_of, Given, IsStateOf}
use Rattle.symbolic_tiles.proofs.TileOf.{ops_are_tile}
use Rattle.symbolic_tiles.proofs.Small.{both_true}
use Rattle.symbolic_tiles.proofs.Written.{AreFields, fields_put_word}
use Rattle.symbolic_tiles.proofs.Results.{goes_same, Then, both_ops, ops_then}
use Rattle.symbolic_tiles.proofs.Registers.{word, gpr}

-- an access that goes on was inside
pub goes_inside : (b : Bool) (x y : Guest) → cond b (Goes x) (Ends Outside) ≡ Goes y → (b ≡ true) × (x ≡ y)
goes_inside true x y e = (refl, goes_same x y e)
goes_inside false x y e = absurd cc

pub each_in_span : (test : ℕ → Bool) (n a : ℕ) → ((k : ℕ) → Contains (span n a) k → test k ≡ true) → each_byte test n a ≡ true
unfolding each_byte
each_in_span test zero a h = refl
each_in_span test (suc n) a h =
    let here = h (a % 2 ^ 32) (first_in (a % 2 ^ 32) (span n (a + 1))) in
    let rest = each_in_span test n (a + 1) (λ k c. h k (later_in (a % 2 ^ 32) k (span n (a + 1)) c)) in
    simp (here, rest)

-- a line that needs an access goes on where it is inside
pub inside_then : (Q : SymbolicState → Type 0) (rest : SymbolicState → Option SymbolicState) (t : SymbolicState) (b : Bool) → b ≡ true → Then Q (rest t) → Then Q (then_ops rest (cond b (Some t) None))
inside_then Q rest t b e h = subst (λ (k : Bool). Then Q (then_ops rest (cond k (Some t) None))) (sym e) h

-- the bytes of an access, one by one
module _ (f : ℕ → ℕ) (a : ℕ) where
  abbrev pub Bytes : ℕ → Type 0
  Bytes n = (i : ℕ) → i < n → f ((a + i) % 2 ^ 32) < 256

  pub byte_at : (n i : ℕ) (k : ℕ) → k ≡ a + i → i < n → Bytes n → f (k % 2 ^ 32) < 256
  byte_at n i k e lt h = subst (λ m. f (m % 2 ^ 32) < 256) (sym e) (h i lt)

  pub swapped_word_is : Bytes 4 → swapped (load 4 a f) ≡ load_big 4 a f
  unfolding load load_big
  swapped_word_is h =
      let b0 = byte_at 4 0 a (omega arith) (omega arith) h in
      let b1 = byte_at 4 1 (a + 1) (omega arith) (omega arith) h in
      let b2 = byte_at 4 2 (a + 1 + 1) (omega arith) (omega arith) h in
      let b3 = byte_at 4 3 (a + 1 + 1 + 1) (omega arith) (omega arith) h in
      omega arith

  pub swapped_half_is : Bytes 2 → swapped (load 2 a f % 2 ^ 16) / 2 ^ 16 ≡ load_big 2 a f
  unfolding load load_big
  swapped_half_is h =
      let b0 = byte_at 2 0 a (omega arith) (omega arith) h in
      let b1 = byte_at 2 1 (a + 1) (omega arith) (omega arith) h in
      omega arith

-- the address in edx, the number in eax, and nothing else has changed
abbrev pub HasAddress : ℕ → Guest → SymbolicState → Type 0
HasAddress A g s = (s.regs 2 ≡ A) × (s.locs ≡ g.locs) × (s.bytes ≡ g.bytes)

abbrev pub HasNumber : ℕ → ℕ → Guest → SymbolicState → Type 0
HasNumber n A g s = (s.regs 0 ≡ n) × (s.regs 2 ≡ A) × (s.locs ≡ g.locs) × (s.bytes ≡ g.bytes)

-- what a load needs, and what it finds
pub record Inside (guest host : Rights) (n A : ℕ) (g : Guest) : Type 0 where
  pub low : A < 2 ^ 32
  pub can : can_load guest host n A ≡ true
  pub bytes : (i : ℕ) → i < n → g.bytes ((A + i) % 2 ^ 32) < 256

module _ (guest host : Rights) where
  pub immediate_addressed : (z : Bool) (a imm : ℕ) (g : Guest) (regs : ℕ → ℕ) (flags : Flags) (choices : List Choice) → sign_extended 16 imm < 2 ^ 32 →
      Then (HasAddress ((cond z 0 (g.locs a) + sign_extended 16 imm) % 2 ^ 32) g) (execute_ops guest host (immediate_address z a imm) choices (state_of g regs flags))
  immediate_addressed true a imm g regs flags choices lv = (omega (arith, lv), refl, refl)
  immediate_addressed false a imm g regs flags choices lv = (omega arith, refl, refl)

  -- what each load makes of its bytes
  abbrev pub Loads : ℕ → List SymbolicOp → (ℕ → (ℕ → ℕ) → ℕ) → Type 0
  Loads n ops value = (A : ℕ) (g : Guest) (choices : List Choice) (s : SymbolicState) → Inside guest host n A g → HasAddress A g s → Then (HasNumber (value A g.bytes) A g) (execute_ops guest host ops choices s)

  pub at_zero : (A : ℕ) (s : SymbolicState) (g : Guest) → A < 2 ^ 32 → HasAddress A g s → (s.regs 2 + 0) % 2 ^ 32 ≡ A
  at_zero A s g low h = ap (λ k. (k + 0) % 2 ^ 32) h.0 ∙ omega arith

  pub lwz_loads : Loads 4 lwz_ops (λ A bytes. load_big 4 A bytes)
  lwz_loads A g choices s inside h =
      let at = at_zero A s g inside.low h in
      inside_then (HasNumber (load_big 4 A g.bytes) A g) _ _ (can_load guest host 4 ((s.regs 2 + 0) % 2 ^ 32)) (ap (can_load guest host 4) at ∙ inside.can)
      (ap (λ k. swapped (load 4 k s.bytes)) at ∙ ap (λ m. swapped (load 4 A m)) h.2 ∙ swapped_word_is g.bytes A inside.bytes, h.0, h.1, h.2)

  pub lhz_loads : Loads 2 lhz_ops (λ A bytes. load_big 2 A bytes)
  lhz_loads A g choices s inside h =
      let at = at_zero A s g inside.low h in
      inside_then (HasNumber (load_big 2 A g.bytes) A g) _ _ (can_load guest host 2 ((s.regs 2 + 0) % 2 ^ 32)) (ap (can_load guest host 2) at ∙ inside.can)
      (ap (λ k. swapped (load 2 k s.bytes % 2 ^ 16) / 2 ^ 16) at ∙ ap (λ m. swapped (load 2 A m % 2 ^ 16) / 2 ^ 16) h.2 ∙ swapped_half_is g.bytes A inside.bytes, h.0, h.1, h.2)

-- with update or without
abbrev pub updated : Bool → ℕ → ℕ → (ℕ → ℕ) → ℕ → ℕ
updated true a A l = update l a A
updated false a A l = l

put_ops_do : (guest host : Rights) (u : Bool) (d a n A : ℕ) (g : Guest) (choices : List Choice) (s : SymbolicState) → HasNumber n A g s →
    Then (λ t. (t.locs ≡ updated u a A (update g.locs d n)) × (t.bytes ≡ g.bytes)) (execute_ops guest host (put_ops u d a) choices s)
put_ops_do guest host true d a n A g choices s h = let p = h.0 in let q = h.1 in let r = h.2 in (ap (λ k. update (update s.locs d (s.regs 0)) a k) q ∙ ap (λ k. update (update s.locs d k) a A) p ∙ ap (λ l. update (update l d n) a A) r, h.3)
put_ops_do guest host false d a n A g choices s h = let p = h.0 in let r = h.2 in (ap (λ k. update s.locs d k) p ∙ ap (λ l. update l d n) r, h.3)

put_are_ops : (u : Bool) (d a : ℕ) → d < 32 → a < 32 → AreWellFormed (put_ops u d a)
put_are_ops true d a ld la = ((word d ld, tt), ((word a la, tt), tt))
put_are_ops false d a ld la = ((word d ld, tt), tt)

put_short : (u : Bool) (d a : ℕ) → room_of (put_ops u d a) ≤ 12
put_short true d a = omega arith
put_short false d a = omega arith

whole_short : (xs ys zs : List SymbolicOp) → room_of xs ≤ 12 → room_of ys ≤ 25 → room_of zs ≤ 12 → room_of (xs ++ (ys ++ zs)) ≤ 595
whole_short xs ys zs lx ly lz = let e = room_append xs (ys ++ zs) in let f = room_append ys zs in omega (arith, e, f, lx, ly, lz)

updated_fields : (u : Bool) (a A : ℕ) (l : ℕ → ℕ) → a < 32 → AreFields l → AreFields (updated u a A l)
updated_fields true a A l la h = fields_put_word a A l (word a la) h
updated_fields false a A l la h = h

module _ (i : Instr) (u : Bool) (d a n : ℕ) (A : Guest → ℕ) (value : ℕ → (ℕ → ℕ) → ℕ) (ld : d < 32) (la : a < 32) where
  abbrev pub loaded_guest : Guest → Guest
  loaded_guest g = at_next (updated u a (A g) (update g.locs d (value (A g) g.bytes))) g

  abbrev pub IsLoad : Type 0
  IsLoad = (guest : Rights) (g : Guest) → guest_acts guest i (effect_of i g) g ≡ cond (each_byte guest.held n (A g)) (Goes (loaded_guest g)) (Ends Outside)

  pub load_does : (address ops : List SymbolicOp) → IsLegal i → AreWellFormed address → AreWellFormed ops → room_of address ≤ 12 → room_of ops ≤ 25 → IsLoad →
      ((guest host : Rights) (g : Guest) → Given i guest host g → (k : ℕ) → Contains (span n (A g)) k → host.held k ≡ true) →
      ((guest host : Rights) (g : Guest) → AreInRange g → (regs : ℕ → ℕ) (flags : Flags) (choices : List Choice) → (A g < 2 ^ 32) × Then (HasAddress (A g) g) (execute_ops guest host address choices (state_of g regs flags))) →
      ((guest host : Rights) → Loads guest host n ops value) →
      IsTileOf i (address ++ (ops ++ put_ops u d a))
  load_does address ops legal are are' short short' row held addressed load_outcome =
      ops_are_tile i (address ++ (ops ++ put_ops u d a)) legal (both_ops address (ops ++ put_ops u d a) are (both_ops ops (put_ops u d a) are' (put_are_ops u d a ld la))) (whole_short address ops (put_ops u d a) short short' (put_short u d a))
      (λ guest g g' range leads.
      let e = (goes_inside (each_byte guest.held n (A g)) (loaded_guest g) g' (sym (row guest g) ∙ leads)).1 in
      subst (λ h. (x : ℕ) → 34 ≤ x → x < 46 → h.locs x < location_range x) e (updated_fields u a (A g) (update g.locs d (value (A g) g.bytes)) la (fields_put_word d (value (A g) g.bytes) g.locs (word d ld) (λ x lx ux. range x ux))))
      (λ guest host g g' regs flags choices given words leads.
      let e = goes_inside (each_byte guest.held n (A g)) (loaded_guest g) g' (sym (row guest g) ∙ leads) in
      let r = addressed guest host g given.in_range regs flags choices in
      let can : can_load guest host n (A g) ≡ true = let p = e.0 in let q = each_in_span host.held n (A g) (held guest host g given) in simp (p, q) in
      let inside : Inside guest host n (A g) g = record { low = r.0; can = can; bytes = λ k lk. given.bytes ((A g + k) % 2 ^ 32) (bytes_held guest.held n (A g) e.0 k lk) } in
      ops_then guest host (HasAddress (A g) g) (IsStateOf guest g') address (ops ++ put_ops u d a) choices (state_of g regs flags) r.1
      (λ choices s h. ops_then guest host (HasNumber (value (A g) g.bytes) (A g) g) (IsStateOf guest g') ops (put_ops u d a) choices s (load_outcome guest host (A g) g choices s inside h)
      (λ choices s h. ops_last guest host g g' choices s (put_ops_do guest host u d a (value (A g) g.bytes) (A g) g choices s h) e.1)))
    where
      ops_last : (guest host : Rights) (g g' : Guest) (choices : List Choice) (s : SymbolicState) → Then (λ t. (t.locs ≡ updated u a (A g) (update g.locs d (value (A g) g.bytes))) × (t.bytes ≡ g.bytes)) (execute_ops guest host (put_ops u d a) choices s) → loaded_guest g ≡ g' → Then (IsStateOf guest g') (execute_ops guest host (put_ops u d a) choices s)
      ops_last guest host g g' choices s h e = by_state (execute_ops guest host (put_ops u d a) choices s) h
        where
          by_state : (o : Option SymbolicState) → Then (λ t. (t.locs ≡ updated u a (A g) (update g.locs d (value (A g) g.bytes))) × (t.bytes ≡ g.bytes)) o → Then (IsStateOf guest g') o
          by_state None h = absurd h
          by_state (Some t) h = (λ x lx. ap (λ l. l x) h.0 ∙ ap (λ k. k.locs x) e, λ k held. ap (λ l. l k) h.1 ∙ ap (λ k'. k'.bytes k) e)

pub immediate_short : (z : Bool) (a imm : ℕ) → room_of (immediate_address z a imm) ≤ 12
immediate_short true a imm = omega arith
immediate_short false a imm = omega arith

pub immediate_are : (z : Bool) (a imm : ℕ) → a < 32 → sign_extended 16 imm < 2 ^ 32 → AreWellFormed (immediate_address z a imm)
immediate_are true a imm la lv = ((tt, lv), tt)
immediate_are false a imm la lv = ((tt, word a la), ((tt, lv), tt))

-- the bytes that a store leaves
module _ (f : ℕ → ℕ) (a v x : ℕ) where
  pub stored_word_is : v < 2 ^ 32 → store 4 a (swapped v) f x ≡ store_big 4 a v f x
  unfolding store store_big
  stored_word_is h =
      let b0 : swapped v % 256 ≡ v / 2 ^ 24 % 256 = omega arith in
      let b1 : swapped v / 256 % 256 ≡ v / 2 ^ 16 % 256 = omega arith in
      let b2 : swapped v / 256 / 256 % 256 ≡ v / 2 ^ 8 % 256 = omega arith in
      let b3 : swapped v / 256 / 256 / 256 % 256 ≡ v / 2 ^ 0 % 256 = omega arith in
      rw (b0, b1, b2, b3) refl

-- the number is stored at the address
abbrev pub HasStored : ℕ → (ℕ → ℕ) → Guest → SymbolicState → Type 0
HasStored A bytes g s = (s.regs 2 ≡ A) × (s.locs ≡ g.locs) × ((x : ℕ) → s.bytes x ≡ bytes x)

module _ (guest host : Rights) where
  -- what each store puts
  abbrev pub Stores : ℕ → List SymbolicOp → (ℕ → Guest → ℕ → ℕ) → Type 0
  Stores n ops bytes = (A : ℕ) (g : Guest) (choices : List Choice) (s : SymbolicState) → AreInRange g → A < 2 ^ 32 → can_store guest host n A ≡ true → HasAddress A g s → Then (HasStored A (bytes A g) g) (execute_ops guest host ops choices s)

  pub stw_stores : (k : ℕ) → k < 32 → Stores 4 (stw_ops k) (λ A g. store_big 4 A (g.locs k) g.bytes)
  stw_stores k lk A g choices s range low can h =
      let at = at_zero guest host A s g low h in
      inside_then (HasStored A (store_big 4 A (g.locs k) g.bytes) g) _ _ (can_store guest host 4 ((s.regs 2 + 0) % 2 ^ 32)) (ap (can_store guest host 4) at ∙ can)
      (h.0, h.1, λ x. ap (λ m. store 4 m (swapped (s.locs k)) s.bytes x) at ∙ ap (λ l. store 4 A (swapped (l k)) s.bytes x) h.1 ∙ ap (λ m. store 4 A (swapped (g.locs k)) m x) h.2 ∙ stored_word_is g.bytes A (g.locs k) x (gpr g k range lk))

update_ops_do : (guest host : Rights) (u : Bool) (a A : ℕ) (bytes : ℕ → ℕ) (g : Guest) (choices : List Choice) (s : SymbolicState) → HasStored A bytes g s →
    Then (λ t. (t.locs ≡ updated u a A g.locs) × ((x : ℕ) → t.bytes x ≡ bytes x)) (execute_ops guest host (update_ops u a) choices s)
update_ops_do guest host true a A bytes g choices s h = let p = h.0 in let q = h.1 in (ap (λ k. update s.locs a k) p ∙ ap (λ l. update l a A) q, h.2)
update_ops_do guest host false a A bytes g choices s h = (h.1, h.2)

update_are_ops : (u : Bool) (a : ℕ) → a < 32 → AreWellFormed (update_ops u a)
update_are_ops true a la = ((word a la, tt), tt)
update_are_ops false a la = tt

update_short : (u : Bool) (a : ℕ) → room_of (update_ops u a) ≤ 12
update_short true a = omega arith
update_short false a = omega arith

pub all_held : (guest : Rights) → WritesHeld guest → (n a : ℕ) → each_byte guest.writable n a ≡ true → each_byte guest.held n a ≡ true
unfolding each_byte
all_held guest w zero a h = refl
all_held guest w (suc n) a h =
    let p = both_true (guest.writable (a % 2 ^ 32)) (each_byte guest.writable n (a + 1)) h in
    let here = w (a % 2 ^ 32) p.0 in
    let rest = all_held guest w n (a + 1) p.1 in
    simp (here, rest)

module _ (i : Instr) (u : Bool) (a n : ℕ) (A : Guest → ℕ) (bytes : ℕ → Guest → ℕ → ℕ) (la : a < 32) where
  abbrev pub stored_guest : Guest → Guest
  stored_guest g = record (at_next (updated u a (A g) g.locs) g) { bytes = bytes (A g) g }

  abbrev pub IsStore : Type 0
  IsStore = (guest : Rights) (g : Guest) → guest_acts guest i (effect_of i g) g ≡ cond (each_byte guest.writable n (A g)) (Goes (stored_guest g)) (Ends Outside)

  pub store_does : (address ops : List SymbolicOp) → IsLegal i → AreWellFormed address → AreWellFormed ops → room_of address ≤ 12 → room_of ops ≤ 25 → IsStore →
      ((guest host : Rights) (g : Guest) → Given i guest host g → (k : ℕ) → Contains (span n (A g)) k → host.writable k ≡ true) →
      ((guest host : Rights) (g : Guest) → AreInRange g → (regs : ℕ → ℕ) (flags : Flags) (choices : List Choice) → (A g < 2 ^ 32) × Then (HasAddress (A g) g) (execute_ops guest host address choices (state_of g regs flags))) →
      ((guest host : Rights) → Stores guest host n ops bytes) →
      IsTileOf i (address ++ (ops ++ update_ops u a))
  store_does address ops legal are are' short short' row writable addressed puts =
      ops_are_tile i (address ++ (ops ++ update_ops u a)) legal (both_ops address (ops ++ update_ops u a) are (both_ops ops (update_ops u a) are' (update_are_ops u a la))) (whole_short address ops (update_ops u a) short short' (update_short u a))
      (λ guest g g' range leads.
      let e = (goes_inside (each_byte guest.writable n (A g)) (stored_guest g) g' (sym (row guest g) ∙ leads)).1 in
      subst (λ h. (x : ℕ) → 34 ≤ x → x < 46 → h.locs x < location_range x) e (updated_fields u a (A g) g.locs la (λ x lx ux. range x ux)))
      (λ guest host g g' regs flags choices given words leads.
      let e = goes_inside (each_byte guest.writable n (A g)) (stored_guest g) g' (sym (row guest g) ∙ leads) in
      let r = addressed guest host g given.in_range regs flags choices in
      let can : can_store guest host n (A g) ≡ true = let p = all_held guest given.writes_held n (A g) e.0 in let q = each_in_span host.writable n (A g) (writable guest host g given) in simp (p, q) in
      ops_then guest host (HasAddress (A g) g) (IsStateOf guest g') address (ops ++ update_ops u a) choices (state_of g regs flags) r.1
      (λ choices s h. ops_then guest host (HasStored (A g) (bytes (A g) g) g) (IsStateOf guest g') ops (update_ops u a) choices s (puts guest host (A g) g choices s given.in_range r.0 can h)
      (λ choices s h. ops_last guest host g g' choices s (update_ops_do guest host u a (A g) (bytes (A g) g) g choices s h) e.1)))
    where
      ops_last : (guest host : Rights) (g g' : Guest) (choices : List Choice) (s : SymbolicState) → Then (λ t. (t.locs ≡ updated u a (A g) g.locs) × ((x : ℕ) → t.bytes x ≡ bytes (A g) g x)) (execute_ops guest host (update_ops u a) choices s) → stored_guest g ≡ g' → Then (IsStateOf guest g') (execute_ops guest host (update_ops u a) choices s)
      ops_last guest host g g' choices s h e = by_state (execute_ops guest host (update_ops u a) choices s) h
        where
          by_state : (o : Option SymbolicState) → Then (λ t. (t.locs ≡ updated u a (A g) g.locs) × ((x : ℕ) → t.bytes x ≡ bytes (A g) g x)) o → Then (IsStateOf guest g') o
          by_state None h = absurd h
          by_state (Some t) h = (λ x lx. ap (λ l. l x) h.0 ∙ ap (λ k. k.locs x) e, λ k held. h.1 k ∙ ap (λ k'. k'.bytes k) e)
