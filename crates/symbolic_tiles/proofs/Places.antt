-- Under every map, the places of the locations: what is read there, and what a write there leaves.
use Rattle.std.proofs.Common.{◌≡◌, ◌≢◌, ℕ, zero, suc, ◌+◌, ◌%◌, ◌^◌, ◌<◌, ◌≤◌, Bool, true, false, cond, eqb, ◌⊎◌, Option, Some, None, if◌then◌else◌, refl, sym, ap, ◌∙◌, subst, arith}
use Rattle.std.proofs.lemmas.Bool.{eqb-true}
use Rattle.std.proofs.lemmas.Bool.Decides.{nat_tests}
use Rattle.machines.specs.Prelude.{Map, IsMap, IsHeld, load, each_byte, Rights, Core, Place, Register, value_at, put_at, reads, puts}
use Rattle.reg_map.specs.Prelude.{home, home_size, slot_of, holds, in_slot, location_place, IsHomePage}
use Rattle.machines.specs.Host.{Memory}
use Rattle.reg_map.proofs.Homes.{homes_apart}
use Rattle.symbolic_tiles.specs.Prelude.{IsFree, IsUnowned}
use Rattle.symbolic_tiles.proofs.Memory.{update_same, update_other, store_other, load_store, load_apart}
use Rattle.machines.proofs.Stack.{each_true as each_of}

-- the GPR in a register
abbrev pub content : Map → ℕ → Option ℕ
content m r = cond (eqb r 3) m.ebx (cond (eqb r 6) m.esi (cond (eqb r 7) m.edi None))

some_same : (x y : ℕ) → Some x ≡ Some y → x ≡ y
some_same x y e = cc

held_is : (o : Option ℕ) (x : ℕ) → holds o x ≡ true → o ≡ Some x
held_is None x h = absurd cc
held_is (Some y) x h = ap Some (eqb-true y x h)

pub slot_content : (m : Map) (x r : ℕ) → slot_of m x ≡ Some r → content m r ≡ Some x
slot_content m x r = by_tests (holds m.ebx x) (holds m.esi x) (holds m.edi x) refl refl refl
  where
    at : (k : ℕ) (o : Option ℕ) → Some k ≡ Some r → content m k ≡ o → o ≡ Some x → content m r ≡ Some x
    at k o e c h = ap (content m) (sym (some_same k r e)) ∙ c ∙ h

    by_tests : (a b c : Bool) → holds m.ebx x ≡ a → holds m.esi x ≡ b → holds m.edi x ≡ c → (if a then Some 3 else if b then Some 6 else if c then Some 7 else None) ≡ Some r → content m r ≡ Some x
    by_tests true b c ha hb hc e = at 3 m.ebx e refl (held_is m.ebx x ha)
    by_tests false true c ha hb hc e = at 6 m.esi e refl (held_is m.esi x hb)
    by_tests false false true ha hb hc e = at 7 m.edi e refl (held_is m.edi x hc)
    by_tests false false false ha hb hc e = absurd cc

-- two locations are never in one register
pub slots_apart : (m : Map) (x y r : ℕ) → slot_of m x ≡ Some r → slot_of m y ≡ Some r → x ≡ y
slots_apart m x y r hx hy = some_same x y (sym (slot_content m x r hx) ∙ slot_content m y r hy)

-- only GPRs are in registers
pub slot_gpr : (m : Map) (x r : ℕ) → IsMap m → slot_of m x ≡ Some r → x < 32
slot_gpr m x r is h = by_tests (eqb r 3) (eqb r 6) (eqb r 7) (slot_content m x r h)
  where
    held : (o : Option ℕ) → IsHeld o → o ≡ Some x → x < 32
    held None i e = absurd cc
    held (Some y) i e = subst (λ k. k < 32) (some_same y x e) i

    by_tests : (a b c : Bool) → cond a m.ebx (cond b m.esi (cond c m.edi None)) ≡ Some x → x < 32
    by_tests true b c e = held m.ebx is.ebx e
    by_tests false true c e = held m.esi is.esi e
    by_tests false false true e = held m.edi is.edi e
    by_tests false false false e = absurd cc

-- the temporaries are in no slot
pub slot_cached : (m : Map) (x r : ℕ) → slot_of m x ≡ Some r → 3 ≤ r
slot_cached m x zero h = absurd (let e = slot_content m x 0 h in cc)
slot_cached m x (suc zero) h = absurd (let e = slot_content m x 1 h in cc)
slot_cached m x (suc (suc zero)) h = absurd (let e = slot_content m x 2 h in cc)
slot_cached m x (suc (suc (suc r))) h = omega arith

pub home_within : (x i : ℕ) → x < 46 → i < home_size x → home x + i < 148
home_within x i lx li = grind (arith, nat_tests)

pub free_low : (m : Map) (r : ℕ) → r < 3 → IsFree m r
free_low m r lr x e = let h = slot_cached m x r e in omega arith

-- places that share nothing
abbrev pub Apart : Place → Place → Type 0
Apart (Register r) (Register s) = r ≢ s
Apart (Register r) (Memory n a) = Unit {0}
Apart (Memory n a) (Register r) = Unit {0}
Apart (Memory n a) (Memory k b) = (i j : ℕ) → i < n → j < k → (a + i) % 2 ^ 32 ≢ (b + j) % 2 ^ 32

-- a number that the place can hold
abbrev pub Fits : Place → ℕ → Type 0
Fits (Register r) v = Unit {0}
Fits (Memory n a) v = (n ≤ 4) × (v < 256 ^ n)

pub put_other : (core : Core) (p q : Place) (v : ℕ) → Apart q p → value_at (put_at core p v) q ≡ value_at core q
put_other core (Register r) (Register s) v far = update_other core.regs r v s far
put_other core (Register r) (Memory n a) v far = refl
put_other core (Memory n a) (Register r) v far = refl
put_other core (Memory k b) (Memory n a) v far = load_apart n k a b v core.bytes far

pub put_same : (core : Core) (p : Place) (v : ℕ) → Fits p v → value_at (put_at core p v) p ≡ v
put_same core (Register r) v fits = update_same core.regs r v
put_same core (Memory n a) v fits = load_store n a v core.bytes fits.0 fits.1

module _ (m : Map) (area : ℕ) (low : area + 4096 ≤ 2 ^ 32) where
  abbrev home_place : ℕ → Place
  home_place x = Memory (home_size x) (area + home x)

  pub place_apart : (x y : ℕ) → x < 46 → y < 46 → x ≢ y → Apart (location_place m area x) (location_place m area y)
  place_apart x y lx ly ne = by_slots (slot_of m x) (slot_of m y) refl refl
    where
      by_slots : (s t : Option ℕ) → slot_of m x ≡ s → slot_of m y ≡ t → Apart (in_slot s (home_place x)) (in_slot t (home_place y))
      by_slots None None es et = λ i j li lj e.
          (homes_apart x y i j lx ly ne li lj).1 (omega (arith, low, e, home_within x i lx li, home_within y j ly lj))
      by_slots None (Some t) es et = tt
      by_slots (Some s) None es et = tt
      by_slots (Some s) (Some t) es et = λ e. ne (slots_apart m x y s es (et ∙ ap Some (sym e)))

  pub place_fits : (x v : ℕ) → x < 46 → v < 256 ^ home_size x → Fits (location_place m area x) v
  place_fits x v lx lt = by_slot (slot_of m x)
    where
      by_slot : (s : Option ℕ) → Fits (in_slot s (home_place x)) v
      by_slot None = (grind (arith, nat_tests), lt)
      by_slot (Some s) = tt

  -- a write there leaves every byte outside the home page
  pub place_bytes : (x v a : ℕ) (core : Core) → x < 46 → (a < area) ⊎ (area + 4096 ≤ a) → (put_at core (location_place m area x) v).bytes a ≡ core.bytes a
  place_bytes x v a core lx far = by_slot (slot_of m x)
    where
      by_slot : (s : Option ℕ) → (put_at core (in_slot s (home_place x)) v).bytes a ≡ core.bytes a
      by_slot None = store_other (home_size x) (area + home x) v core.bytes a (λ i li e. omega (arith, low, e, far, home_within x i lx li))
      by_slot (Some s) = refl

  -- and every byte in no home in use
  pub place_unowned : (held : ℕ → Bool) (x v a : ℕ) (core : Core) → x < 46 → IsUnowned m area held a → (put_at core (location_place m area x) v).bytes a ≡ core.bytes a
  place_unowned held x v a core lx un = by_slot (slot_of m x) refl
    where
      by_slot : (s : Option ℕ) → slot_of m x ≡ s → (put_at core (in_slot s (home_place x)) v).bytes a ≡ core.bytes a
      by_slot None e = store_other (home_size x) (area + home x) v core.bytes a (λ i li q. un.no_home x i lx li e (let w = home_within x i lx li in omega (arith, low, q)))
      by_slot (Some s) e = refl

  -- and every register in which the location isn't
  pub place_registers : (x v r : ℕ) (core : Core) → slot_of m x ≢ Some r → (put_at core (location_place m area x) v).regs r ≡ core.regs r
  place_registers x v r core ne = by_slot (slot_of m x) refl
    where
      by_slot : (s : Option ℕ) → slot_of m x ≡ s → (put_at core (in_slot s (home_place x)) v).regs r ≡ core.regs r
      by_slot None e = refl
      by_slot (Some s) e = update_other core.regs s v r (λ q. ne (e ∙ ap Some (sym q)))

  pub place_flags : (x v : ℕ) (core : Core) → (put_at core (location_place m area x) v).flags ≡ core.flags
  place_flags x v core = by_slot (slot_of m x)
    where
      by_slot : (s : Option ℕ) → (put_at core (in_slot s (home_place x)) v).flags ≡ core.flags
      by_slot None = refl
      by_slot (Some s) = refl

module _ (m : Map) (area : ℕ) (guest host : Rights) (page : IsHomePage area guest host) where
  page_byte : (test : ℕ → Bool) → ((i : ℕ) → i < 4096 → test (area + i) ≡ true) → (x : ℕ) → x < 46 → each_byte test (home_size x) (area + home x) ≡ true
  page_byte test h x lx = each_of test (home_size x) (area + home x) at
    where
      at : (i : ℕ) → i < home_size x → test ((area + home x + i) % 2 ^ 32) ≡ true
      at i li =
          let w = home_within x i lx li in
          let e : area + (home x + i) ≡ (area + home x + i) % 2 ^ 32 = omega (arith, page.low, w) in
          subst (λ k. test k ≡ true) e (h (home x + i) (omega (arith, w)))

  -- a read there gives what stands there
  pub read_place : (x : ℕ) (core : Core) → x < 46 → reads host core (location_place m area x) ≡ Some (value_at core (location_place m area x))
  read_place x core lx = by_slot (slot_of m x)
    where
      by_slot : (s : Option ℕ) → reads host core (in_slot s (Memory (home_size x) (area + home x))) ≡ Some (value_at core (in_slot s (Memory (home_size x) (area + home x))))
      by_slot None = ap (λ b. cond b (Some (load (home_size x) (area + home x) core.bytes)) None) (page_byte host.held page.held x lx)
      by_slot (Some r) = refl

  -- a write there goes through
  pub write_place : (x v : ℕ) (core : Core) → x < 46 → puts host core (location_place m area x) v ≡ Some (put_at core (location_place m area x) v)
  write_place x v core lx = by_slot (slot_of m x)
    where
      by_slot : (s : Option ℕ) → puts host core (in_slot s (Memory (home_size x) (area + home x))) v ≡ Some (put_at core (in_slot s (Memory (home_size x) (area + home x))) v)
      by_slot None = ap (λ b. cond b (Some (put_at core (Memory (home_size x) (area + home x)) v)) None) (page_byte host.writable page.writable x lx)
      by_slot (Some r) = refl
