-- Two hosts that differ in the names of registers and homes do the same by ops that have these names: what an op does to the
-- one is, under the names, what it does to the other. This project's own.
use Rattle.std.proofs.Common.{◌≡◌, ◌≢◌, ℕ, zero, suc, ◌+◌, ◌*◌, ◌/◌, ◌%◌, ◌^◌, ◌<◌, ◌≤◌, ◌⊎◌, inl, inr, ⊎_elim, Bool, true, false, cond, eqb, List, [], ◌∷◌, ◌++◌, drop, map as list_map, Option, Some, None, Contains, refl, sym, ap, ◌∙◌, subst, arith}
use Rattle.std.proofs.lemmas.Bool.Decides.{nat_tests}
use Rattle.std.proofs.lemmas.List.Elements.{Contains-append_left, Contains-append_right}
use Rattle.machines.specs.Prelude.{Operand, Reg, Abs, Base, Pair, Op, AluTo, AluFrom, AluImm, TestReg, TestImm, Unary, Imul, MovTo, MovFrom, MovImm, MovToImm, MovHalfTo, MovByteTo, MovByteFrom, Shift, ShiftByCl, Lea, Extend, Bswap, Set, Cmov, Bsr, Cdq, Not, Neg, Mul, Imul1, MovzxByte, MovzxHalf, MovsxByte, MovsxHalf, Flags, HostValues, HostEffect, host_row, Outcome, update, load, store, each_byte, Rights, Choice, Core, Host, Place, Register, place_of, put_at, host_values, chosen_word, chosen_flags, has_result, extend_size, address_in, byte_for, puts_both, bind, reads, puts, leaves, does, choice_at, goes_to}
use Rattle.machines.specs.Host.{Memory}
use Rattle.symbolic_tiles.specs.Prelude.{is_jump, op_outcome, core_behind, perform, operand_at, op_at, span}
use Rattle.rule_soundness.specs.Prelude.{Match, register_of, offset_of, placed_operand, placed, summed, op_loads, op_stores, accessed, accessed_behind}
use Rattle.row_laws.proofs.Lists.{none_in, first_in, later_in}
use Rattle.symbolic_tiles.proofs.Memory.{update_same, update_other, store_other, store_same}
use Rattle.machines.proofs.Stack.{each_true as each_of}

-- both are there and R holds of them, or neither is
abbrev pub Both : (Core → Core → Type 0) → Option Core → Option Core → Type 0
Both R (Some x) (Some y) = R x y
Both R None None = Unit {0}
Both R _ _ = ⊥

-- the same number is stored at two places, and read at two
pub store_alike : (n a b v : ℕ) (f g : ℕ → ℕ) (i : ℕ) → n ≤ 4 → i < n → store n a v f ((a + i) % 2 ^ 32) ≡ store n b v g ((b + i) % 2 ^ 32)
unfolding store
store_alike zero a b v f g i few lt = absurd (omega arith)
store_alike (suc n) a b v f g zero few lt =
    let e : (a + 0) % 2 ^ 32 ≡ a % 2 ^ 32 = omega arith in
    let d : (b + 0) % 2 ^ 32 ≡ b % 2 ^ 32 = omega arith in
    let p = store_other n (a + 1) (v / 256) (update f (a % 2 ^ 32) (v % 256)) (a % 2 ^ 32) (λ i h e. omega arith) ∙ update_same f (a % 2 ^ 32) (v % 256) in
    let q = store_other n (b + 1) (v / 256) (update g (b % 2 ^ 32) (v % 256)) (b % 2 ^ 32) (λ i h e. omega arith) ∙ update_same g (b % 2 ^ 32) (v % 256) in
    ap (store (suc n) a v f) e ∙ p ∙ sym q ∙ ap (store (suc n) b v g) (sym d)
store_alike (suc n) a b v f g (suc i) few lt =
    let e : (a + suc i) % 2 ^ 32 ≡ (a + 1 + i) % 2 ^ 32 = ap (λ k. k % 2 ^ 32) (omega arith) in
    let d : (b + suc i) % 2 ^ 32 ≡ (b + 1 + i) % 2 ^ 32 = ap (λ k. k % 2 ^ 32) (omega arith) in
    ap (store (suc n) a v f) e ∙ store_alike n (a + 1) (b + 1) (v / 256) (update f (a % 2 ^ 32) (v % 256)) (update g (b % 2 ^ 32) (v % 256)) i (omega arith) (omega arith) ∙ ap (store (suc n) b v g) (sym d)

pub load_alike : (n a b : ℕ) (f g : ℕ → ℕ) → ((i : ℕ) → i < n → f ((a + i) % 2 ^ 32) ≡ g ((b + i) % 2 ^ 32)) → load n a f ≡ load n b g
unfolding load
load_alike zero a b f g same = refl
load_alike (suc n) a b f g same =
    let e : a + 0 ≡ a = omega arith in
    let d : b + 0 ≡ b = omega arith in
    let here : f (a % 2 ^ 32) ≡ g (b % 2 ^ 32) = ap (λ k. f (k % 2 ^ 32)) (sym e) ∙ same 0 (omega arith) ∙ ap (λ k. g (k % 2 ^ 32)) d in
    let rest = load_alike n (a + 1) (b + 1) f g (λ i lt. let p : a + 1 + i ≡ a + (i + 1) = omega arith in let q : b + (i + 1) ≡ b + 1 + i = omega arith in ap (λ k. f (k % 2 ^ 32)) p ∙ same (i + 1) (omega arith) ∙ ap (λ k. g (k % 2 ^ 32)) q) in
    omega (arith, here, rest)

is_same : (x n : ℕ) → (x ≡ n) ⊎ (x ≢ n)
is_same x n = by_test (eqb x n) refl
  where
    by_test : (b : Bool) → eqb x n ≡ b → (x ≡ n) ⊎ (x ≢ n)
    by_test true e = inl (grind (arith, nat_tests))
    by_test false e = inr (λ q. grind (arith, nat_tests))

is_within : (o q size : ℕ) → ((i : ℕ) × (i < size) × (q ≡ o + i)) ⊎ ((i : ℕ) → i < size → q ≢ o + i)
is_within o q zero = inr (λ i lt e. omega (arith, lt))
is_within o q (suc n) = ⊎_elim (λ w. inl (w.0, omega (arith, w.1), w.2)) (λ no. ⊎_elim (λ e. inl (n, omega arith, e)) (λ ne. inr (λ i lt e. ⊎_elim (λ (h : i ≡ n). ne (e ∙ ap (λ k. o + k) h)) (λ h. no i (omega (arith, lt, h)) e) (is_same i n))) (is_same q (o + n))) (is_within o q n)

-- the addresses of an access
span_has : (n a i : ℕ) → i < n → Contains (span n a) ((a + i) % 2 ^ 32)
span_has zero a i lt = absurd (omega (arith, lt))
span_has (suc n) a zero lt = let e : a % 2 ^ 32 ≡ (a + 0) % 2 ^ 32 = omega arith in subst (λ (k : ℕ). Contains (span (suc n) a) k) e (first_in (a % 2 ^ 32) (span n (a + 1)))
span_has (suc n) a (suc i) lt =
    let e : (a + 1 + i) % 2 ^ 32 ≡ (a + suc i) % 2 ^ 32 = ap (λ k. k % 2 ^ 32) (omega arith) in
    subst (λ (k : ℕ). Contains (span (suc n) a) k) e (later_in (a % 2 ^ 32) ((a + 1 + i) % 2 ^ 32) (span n (a + 1)) (span_has n (a + 1) i (omega (arith, lt))))

the_same : (n : ℕ) → Some n ≡ Some n
the_same n = refl

abbrev values_with : Choice → ℕ → ℕ → ℕ → Flags → HostValues
values_with c x y h f = record { x = x; y = y; high = h; flags = f; free = chosen_word c; free_flags = chosen_flags c }

-- the address isn't in the home page
abbrev pub IsFar : ℕ → ℕ → Type 0
IsFar area a = (a < area) ⊎ (area + 4096 ≤ a)

far_apart : (area i a : ℕ) → i < 4096 → IsFar area a → area + i ≢ a
far_apart area i a lt (inl low) e = absurd (omega (arith, lt, low, e))
far_apart area i a lt (inr high) e = absurd (omega (arith, lt, high, e))

abbrev AreFar : ℕ → List ℕ → Type 0
AreFar area list = (a : ℕ) → Contains list a → IsFar area a

-- U are the registers that the ops name and O the bytes of the home page; both are given other names one to one.
module _ (m : Match) (area : ℕ) (host : Rights) (U O : ℕ → Type 0) where
  pub record Renames : Type 0 where
    pub temps : (r : ℕ) → r < 3 → U r
    pub low : area + 4096 ≤ 2 ^ 32
    pub held : (i : ℕ) → i < 4096 → host.held (area + i) ≡ true
    pub writable : (i : ℕ) → i < 4096 → host.writable (area + i) ≡ true
    pub regs_apart : (r q : ℕ) → U r → U q → register_of m r ≡ register_of m q → r ≡ q
    pub homes_apart : (o q : ℕ) → O o → O q → offset_of m o ≡ offset_of m q → o ≡ q
    pub homes : (o : ℕ) → O o → o < 4096
    pub homes_named : (o : ℕ) → O o → offset_of m o < 4096

  -- The first core has under the other names what the second has, and the same outside the home page; nothing else of it has
  -- changed since the start.
  pub record Renamed (start core other : Core) : Type 0 where
    pub regs : (r : ℕ) → U r → core.regs (register_of m r) ≡ other.regs r
    pub flags : core.flags ≡ other.flags
    pub bytes : (o : ℕ) → O o → core.bytes (area + offset_of m o) ≡ other.bytes (area + o)
    pub far : (a : ℕ) → IsFar area a → core.bytes a ≡ other.bytes a
    pub kept_regs : (r : ℕ) → ((q : ℕ) → U q → r ≢ register_of m q) → core.regs r ≡ start.regs r
    pub kept_bytes : (i : ℕ) → i < 4096 → ((o : ℕ) → O o → i ≢ offset_of m o) → core.bytes (area + i) ≡ start.bytes (area + i)

  -- an operand in a register or a home that is named
  abbrev pub IsOwn : ℕ → Operand → Type 0
  IsOwn size (Reg r) = U r
  IsOwn size (Abs o) = (size ≤ 4) × ((i : ℕ) → i < size → O (o + i) × (offset_of m (o + i) ≡ offset_of m o + i))
  IsOwn size operand = ⊥

  abbrev pub IsAddress : Operand → Type 0
  IsAddress (Base b d) = U b
  IsAddress (Pair b x s d) = U b × U x
  IsAddress operand = ⊥

  -- or at an address of named registers
  abbrev pub IsWithin : ℕ → Operand → Type 0
  IsWithin size (Reg r) = IsOwn size (Reg r)
  IsWithin size (Abs o) = IsOwn size (Abs o)
  IsWithin size (Base b d) = IsAddress (Base b d)
  IsWithin size (Pair b x s d) = IsAddress (Pair b x s d)

  -- an op over these
  abbrev pub IsNamed : Op → Type 0
  IsNamed (AluTo op to from) = IsOwn 4 to × U from
  IsNamed (AluFrom op to from) = U to × IsOwn 4 from
  IsNamed (AluImm op to imm) = IsOwn 4 to
  IsNamed (TestReg a b) = IsOwn 4 a × U b
  IsNamed (TestImm a imm) = IsOwn 4 a
  IsNamed (Unary Not on) = IsOwn 4 on
  IsNamed (Unary Neg on) = IsOwn 4 on
  IsNamed (Unary Mul on) = IsOwn 4 on
  IsNamed (Unary Imul1 on) = IsOwn 4 on
  IsNamed (Imul to from) = U to × IsOwn 4 from
  IsNamed (MovTo to from) = IsWithin 4 to × U from
  IsNamed (MovFrom to from) = U to × IsWithin 4 from
  IsNamed (MovImm to imm) = U to
  IsNamed (MovToImm to imm) = IsWithin 4 to
  IsNamed (MovHalfTo to from) = IsWithin 2 to × U from
  IsNamed (MovByteTo to from) = IsWithin 1 to × U from
  IsNamed (MovByteFrom to from) = U to × IsWithin 1 from
  IsNamed (Shift op to by) = IsOwn 4 to
  IsNamed (ShiftByCl op to) = IsOwn 4 to
  IsNamed (Lea to from) = U to × IsAddress from
  IsNamed (Extend op to from) = U to × IsWithin (extend_size op) from
  IsNamed (Bswap r) = U r
  IsNamed (Set condition to) = IsOwn 1 to
  IsNamed (Cmov condition to from) = U to × IsOwn 4 from
  IsNamed (Bsr to from) = U to × IsOwn 4 from
  IsNamed Cdq = Unit {0}
  IsNamed op = ⊥

  module _ (names : Renames) (start : Core) where
    abbrev pub R : Core → Core → Type 0
    R = Renamed start

    abbrev there : ℕ → Operand → Core → Place
    there size operand core = place_of size (operand_at area (placed_operand m operand)) core.regs

    abbrev here : ℕ → Operand → Core → Place
    here size operand other = place_of size (operand_at area operand) other.regs

    cancel : (x y : ℕ) → area + x ≡ area + y → x ≡ y
    cancel x y e = omega arith

    at_own : (o i size : ℕ) → IsOwn size (Abs o) → i < size → (area + o + i) % 2 ^ 32 ≡ area + (o + i)
    at_own o i size own lt = let w = names.homes (o + i) (own.1 i lt).0 in let low = names.low in omega (arith, w, low)

    at_named : (o i size : ℕ) → IsOwn size (Abs o) → i < size → (area + offset_of m o + i) % 2 ^ 32 ≡ area + offset_of m (o + i)
    at_named o i size own lt = named (offset_of m o) (offset_of m (o + i)) i (own.1 i lt).1 (names.homes_named (o + i) (own.1 i lt).0)
      where
        named : (x y i : ℕ) → y ≡ x + i → y < 4096 → (area + x + i) % 2 ^ 32 ≡ area + y
        named x y i e w = let low = names.low in omega (arith, w, low, e)

    -- the same is read in a register or a home
    read_own : (size : ℕ) (operand : Operand) (core other : Core) → IsOwn size operand → R core other → reads host core (there size operand core) ≡ reads host other (here size operand other)
    read_own size (Reg r) core other own r1 = ap Some (r1.regs r own)
    read_own size (Abs o) core other own r1 =
        let e = each_of host.held size (area + offset_of m o) (λ i lt. ap host.held (at_named o i size own lt) ∙ names.held (offset_of m (o + i)) (names.homes_named (o + i) (own.1 i lt).0)) in
        let d = each_of host.held size (area + o) (λ i lt. ap host.held (at_own o i size own lt) ∙ names.held (o + i) (names.homes (o + i) (own.1 i lt).0)) in
        let l = load_alike size (area + offset_of m o) (area + o) core.bytes other.bytes (λ i lt. ap core.bytes (at_named o i size own lt) ∙ r1.bytes (o + i) (own.1 i lt).0 ∙ ap other.bytes (sym (at_own o i size own lt))) in
        ap (λ b. cond b (Some (load size (area + offset_of m o) core.bytes)) None) e ∙ ap Some l ∙ sym (ap (λ b. cond b (Some (load size (area + o) other.bytes)) None) d)
    read_own size (Base b d) core other own r1 = absurd own
    read_own size (Pair b x s d) core other own r1 = absurd own

    -- the addresses of sums are the same
    base_same : (b d : ℕ) (core other : Core) → U b → R core other → (core.regs (register_of m b) + d) % 2 ^ 32 ≡ (other.regs b + d) % 2 ^ 32
    base_same b d core other is r1 = ap (λ k. (k + d) % 2 ^ 32) (r1.regs b is)

    pair_same : (b x s d : ℕ) (core other : Core) → U b → U x → R core other → (core.regs (register_of m b) + core.regs (register_of m x) * 2 ^ s + d) % 2 ^ 32 ≡ (other.regs b + other.regs x * 2 ^ s + d) % 2 ^ 32
    pair_same b x s d core other is it r1 = ap (λ k. (k + core.regs (register_of m x) * 2 ^ s + d) % 2 ^ 32) (r1.regs b is) ∙ ap (λ k. (other.regs b + k * 2 ^ s + d) % 2 ^ 32) (r1.regs x it)

    -- the same is read outside the home page
    read_far : (size a : ℕ) (core other : Core) → AreFar area (span size a) → R core other → reads host core (Memory size a) ≡ reads host other (Memory size a)
    read_far size a core other far r1 = ap (λ v. cond (each_byte host.held size a) (Some v) None) (load_alike size a a core.bytes other.bytes (λ i lt. r1.far ((a + i) % 2 ^ 32) (far ((a + i) % 2 ^ 32) (span_has size a i lt))))

    read : (size : ℕ) (operand : Operand) (core other : Core) → IsWithin size operand → AreFar area (summed size (operand_at area operand) other.regs) → R core other → reads host core (there size operand core) ≡ reads host other (here size operand other)
    read size (Reg r) core other own far r1 = read_own size (Reg r) core other own r1
    read size (Abs o) core other own far r1 = read_own size (Abs o) core other own r1
    read size (Base b d) core other own far r1 = ap (λ a. reads host core (Memory size a)) (base_same b d core other own r1) ∙ read_far size ((other.regs b + d) % 2 ^ 32) core other far r1
    read size (Pair b x s d) core other own far r1 = ap (λ a. reads host core (Memory size a)) (pair_same b x s d core other own.0 own.1 r1) ∙ read_far size ((other.regs b + other.regs x * 2 ^ s + d) % 2 ^ 32) core other far r1

    -- the same is put in a register or a home
    put_own : (size : ℕ) (operand : Operand) (v : ℕ) (core other : Core) → IsOwn size operand → R core other → Both R (puts host core (there size operand core) v) (puts host other (here size operand other) v)
    put_own size (Reg r) v core other own r1 = record {
      regs = λ q u. ⊎_elim (λ (e : q ≡ r). ap (λ k. update core.regs (register_of m r) v (register_of m k)) e ∙ update_same core.regs (register_of m r) v ∙ sym (update_same other.regs r v) ∙ ap (update other.regs r v) (sym e))
          (λ ne. update_other core.regs (register_of m r) v (register_of m q) (λ e. ne (names.regs_apart q r u own e)) ∙ r1.regs q u ∙ sym (update_other other.regs r v q ne)) (is_same q r);
      flags = r1.flags;
      bytes = r1.bytes;
      far = r1.far;
      kept_regs = λ x no. update_other core.regs (register_of m r) v x (no r own) ∙ r1.kept_regs x no;
      kept_bytes = r1.kept_bytes;
    }
    put_own size (Abs o) v core other own r1 =
        let e = each_of host.writable size (area + offset_of m o) (λ i lt. ap host.writable (at_named o i size own lt) ∙ names.writable (offset_of m (o + i)) (names.homes_named (o + i) (own.1 i lt).0)) in
        let d = each_of host.writable size (area + o) (λ i lt. ap host.writable (at_own o i size own lt) ∙ names.writable (o + i) (names.homes (o + i) (own.1 i lt).0)) in
        subst (λ b. Both R (cond b (Some (put_at core (Memory size (area + offset_of m o)) v)) None) (puts host other (Memory size (area + o)) v)) (sym e)
        (subst (λ b. Both R (Some (put_at core (Memory size (area + offset_of m o)) v)) (cond b (Some (put_at other (Memory size (area + o)) v)) None)) (sym d) (record {
          regs = r1.regs;
          flags = r1.flags;
          bytes = λ q u. ⊎_elim (λ w. within q u w.0 w.1 w.2) (λ far. beyond q u far) (is_within o q size);
          far = λ a f. store_other size (area + offset_of m o) v core.bytes a (λ i lt h. far_apart area (offset_of m (o + i)) a (names.homes_named (o + i) (own.1 i lt).0) f (sym (h ∙ at_named o i size own lt))) ∙ r1.far a f
              ∙ sym (store_other size (area + o) v other.bytes a (λ i lt h. far_apart area (o + i) a (names.homes (o + i) (own.1 i lt).0) f (sym (h ∙ at_own o i size own lt))));
          kept_regs = r1.kept_regs;
          kept_bytes = λ k lk no. store_other size (area + offset_of m o) v core.bytes (area + k) (λ i lt h. no (o + i) (own.1 i lt).0 (cancel k (offset_of m (o + i)) (h ∙ at_named o i size own lt))) ∙ r1.kept_bytes k lk no;
        }))
      where
        within : (q : ℕ) → O q → (i : ℕ) → i < size → q ≡ o + i → store size (area + offset_of m o) v core.bytes (area + offset_of m q) ≡ store size (area + o) v other.bytes (area + q)
        within q u i lt h =
            ap (λ k. store size (area + offset_of m o) v core.bytes (area + offset_of m k)) h ∙ ap (store size (area + offset_of m o) v core.bytes) (sym (at_named o i size own lt))
            ∙ store_alike size (area + offset_of m o) (area + o) v core.bytes other.bytes i own.0 lt ∙ ap (store size (area + o) v other.bytes) (at_own o i size own lt) ∙ ap (λ k. store size (area + o) v other.bytes (area + k)) (sym h)

        beyond : (q : ℕ) → O q → ((i : ℕ) → i < size → q ≢ o + i) → store size (area + offset_of m o) v core.bytes (area + offset_of m q) ≡ store size (area + o) v other.bytes (area + q)
        beyond q u far =
            store_other size (area + offset_of m o) v core.bytes (area + offset_of m q) (λ i lt h. far i lt (names.homes_apart q (o + i) u (own.1 i lt).0 (cancel (offset_of m q) (offset_of m (o + i)) (h ∙ at_named o i size own lt))))
            ∙ r1.bytes q u ∙ sym (store_other size (area + o) v other.bytes (area + q) (λ i lt h. far i lt (cancel q (o + i) (h ∙ at_own o i size own lt))))
    put_own size (Base b d) v core other own r1 = absurd own
    put_own size (Pair b x s d) v core other own r1 = absurd own

    -- the same is put outside the home page
    put_far : (size a v : ℕ) (core other : Core) → AreFar area (span size a) → R core other → Both R (puts host core (Memory size a) v) (puts host other (Memory size a) v)
    put_far size a v core other far r1 = by_test (each_byte host.writable size a)
      where
        apart : (i : ℕ) → i < 4096 → (j : ℕ) → j < size → area + i ≢ (a + j) % 2 ^ 32
        apart i li j lj = far_apart area i ((a + j) % 2 ^ 32) li (far ((a + j) % 2 ^ 32) (span_has size a j lj))

        by_test : (b : Bool) → Both R (cond b (Some (put_at core (Memory size a) v)) None) (cond b (Some (put_at other (Memory size a) v)) None)
        by_test true = record {
          regs = r1.regs;
          flags = r1.flags;
          bytes = λ o u. store_other size a v core.bytes (area + offset_of m o) (apart (offset_of m o) (names.homes_named o u)) ∙ r1.bytes o u ∙ sym (store_other size a v other.bytes (area + o) (apart o (names.homes o u)));
          far = λ k f. store_same size a v core.bytes other.bytes k (r1.far k f);
          kept_regs = r1.kept_regs;
          kept_bytes = λ i li no. store_other size a v core.bytes (area + i) (apart i li) ∙ r1.kept_bytes i li no;
        }
        by_test false = tt

    put : (size : ℕ) (operand : Operand) (v : ℕ) (core other : Core) → IsWithin size operand → AreFar area (summed size (operand_at area operand) other.regs) → R core other → Both R (puts host core (there size operand core) v) (puts host other (here size operand other) v)
    put size (Reg r) v core other own far r1 = put_own size (Reg r) v core other own r1
    put size (Abs o) v core other own far r1 = put_own size (Abs o) v core other own r1
    put size (Base b d) v core other own far r1 = subst (λ a. Both R (puts host core (Memory size a) v) (puts host other (Memory size ((other.regs b + d) % 2 ^ 32)) v)) (sym (base_same b d core other own r1)) (put_far size ((other.regs b + d) % 2 ^ 32) v core other far r1)
    put size (Pair b x s d) v core other own far r1 =
        subst (λ a. Both R (puts host core (Memory size a) v) (puts host other (Memory size ((other.regs b + other.regs x * 2 ^ s + d) % 2 ^ 32)) v)) (sym (pair_same b x s d core other own.0 own.1 r1)) (put_far size ((other.regs b + other.regs x * 2 ^ s + d) % 2 ^ 32) v core other far r1)

    -- what is told of an op's values is the same
    values_same : (c : Choice) (x y : ℕ) (core other : Core) → R core other → host_values c core x y ≡ host_values c other x y
    values_same c x y core other r1 = ap2v (core.regs 2) (other.regs 2) (r1.regs 2 (names.temps 2 (omega arith))) core.flags other.flags r1.flags
      where
        ap2v : (h k : ℕ) → h ≡ k → (f g : Flags) → f ≡ g → values_with c x y h f ≡ values_with c x y k g
        ap2v h k e f g d = ap (λ z. values_with c x y z f) e ∙ ap (values_with c x y k) d

    abbrev flagged : Flags → Core → Core
    flagged f core = record core { flags = f }

    with_flags : (f : Flags) (core other : Core) → R core other → R (flagged f core) (flagged f other)
    with_flags f core other r1 = record { regs = r1.regs; flags = refl; bytes = r1.bytes; far = r1.far; kept_regs = r1.kept_regs; kept_bytes = r1.kept_bytes }

    leave : (b : Bool) (e : HostEffect) (size : ℕ) (operand : Operand) (core other : Core) → IsOwn size operand → R core other → Both R (leaves host b e (there size operand core) core) (leaves host b e (here size operand other) other)
    leave true e size operand core other own r1 = put_own size operand e.result (flagged e.flags core) (flagged e.flags other) own (with_flags e.flags core other r1)
    leave false e size operand core other own r1 = with_flags e.flags core other r1

    -- an op that reads and writes its first operand
    change : (F : HostValues → HostEffect) (b : Bool) (c : Choice) (size : ℕ) (operand : Operand) (core other : Core) (p q : Option ℕ) → IsOwn size operand → R core other → p ≡ q →
        Both R (bind (reads host core (there size operand core)) (λ x. bind p (λ y. leaves host b (F (host_values c core x y)) (there size operand core) core))) (bind (reads host other (here size operand other)) (λ x. bind q (λ y. leaves host b (F (host_values c other x y)) (here size operand other) other)))
    change F b c size operand core other p q own r1 e =
        subst (λ o. Both R (bind o (λ x. bind p (λ y. leaves host b (F (host_values c core x y)) (there size operand core) core))) (bind (reads host other (here size operand other)) (λ x. bind q (λ y. leaves host b (F (host_values c other x y)) (here size operand other) other)))) (sym (read_own size operand core other own r1))
        (subst (λ o. Both R (bind (reads host other (here size operand other)) (λ x. bind o (λ y. leaves host b (F (host_values c core x y)) (there size operand core) core))) (bind (reads host other (here size operand other)) (λ x. bind q (λ y. leaves host b (F (host_values c other x y)) (here size operand other) other)))) (sym e)
        (by_values (reads host other (here size operand other)) q))
      where
        by_values : (o q : Option ℕ) → Both R (bind o (λ x. bind q (λ y. leaves host b (F (host_values c core x y)) (there size operand core) core))) (bind o (λ x. bind q (λ y. leaves host b (F (host_values c other x y)) (here size operand other) other)))
        by_values None q = tt
        by_values (Some x) None = tt
        by_values (Some x) (Some y) = subst (λ v. Both R (leaves host b (F v) (there size operand core) core) (leaves host b (F (host_values c other x y)) (here size operand other) other)) (sym (values_same c x y core other r1)) (leave b (F (host_values c other x y)) size operand core other own r1)

    -- and one that only writes it
    sets_it : (F : HostValues → HostEffect) (c : Choice) (size : ℕ) (operand : Operand) (core other : Core) (p q : Option ℕ) → IsWithin size operand → AreFar area (summed size (operand_at area operand) other.regs) → R core other → p ≡ q →
        Both R (bind p (λ y. leaves host true (F (host_values c core 0 y)) (there size operand core) core)) (bind q (λ y. leaves host true (F (host_values c other 0 y)) (here size operand other) other))
    sets_it F c size operand core other p q own far r1 e =
        subst (λ o. Both R (bind o (λ y. leaves host true (F (host_values c core 0 y)) (there size operand core) core)) (bind q (λ y. leaves host true (F (host_values c other 0 y)) (here size operand other) other))) (sym e) (by_value q)
      where
        by_value : (q : Option ℕ) → Both R (bind q (λ y. leaves host true (F (host_values c core 0 y)) (there size operand core) core)) (bind q (λ y. leaves host true (F (host_values c other 0 y)) (here size operand other) other))
        by_value None = tt
        by_value (Some y) =
            let v = F (host_values c other 0 y) in
            subst (λ k. Both R (leaves host true (F k) (there size operand core) core) (leaves host true v (here size operand other) other)) (sym (values_same c 0 y core other r1))
            (put size operand v.result (flagged v.flags core) (flagged v.flags other) own far (with_flags v.flags core other r1))

    -- in a register or a home
    sets_own : (F : HostValues → HostEffect) (c : Choice) (size : ℕ) (operand : Operand) (core other : Core) (p q : Option ℕ) → IsOwn size operand → R core other → p ≡ q →
        Both R (bind p (λ y. leaves host true (F (host_values c core 0 y)) (there size operand core) core)) (bind q (λ y. leaves host true (F (host_values c other 0 y)) (here size operand other) other))
    sets_own F c size (Reg r) core other p q own r1 e = sets_it F c size (Reg r) core other p q own (λ a k. none_in a k) r1 e
    sets_own F c size (Abs o) core other p q own r1 e = sets_it F c size (Abs o) core other p q own (λ a k. none_in a k) r1 e
    sets_own F c size (Base b d) core other p q own r1 e = absurd own
    sets_own F c size (Pair b x s d) core other p q own r1 e = absurd own

    byte_same : (operand : Operand) (core other : Core) (v : ℕ) → IsOwn 1 operand → R core other → byte_for (operand_at area (placed_operand m operand)) core v ≡ byte_for (operand_at area operand) other v
    byte_same (Reg r) core other v own r1 = ap (λ k. 256 * (k / 256) + v) (r1.regs r own)
    byte_same (Abs o) core other v own r1 = refl
    byte_same (Base b d) core other v own r1 = absurd own
    byte_same (Pair b x s d) core other v own r1 = absurd own

    sets_byte_it : (F : HostValues → HostEffect) (c : Choice) (operand : Operand) (core other : Core) (p q : Option ℕ) → IsOwn 1 operand → R core other → p ≡ q →
        Both R (bind p (λ y. puts host core (there 1 operand core) (byte_for (operand_at area (placed_operand m operand)) core (F (host_values c core 0 y)).result))) (bind q (λ y. puts host other (here 1 operand other) (byte_for (operand_at area operand) other (F (host_values c other 0 y)).result)))
    sets_byte_it F c operand core other p q own r1 e =
        subst (λ o. Both R (bind o (λ y. puts host core (there 1 operand core) (byte_for (operand_at area (placed_operand m operand)) core (F (host_values c core 0 y)).result))) (bind q (λ y. puts host other (here 1 operand other) (byte_for (operand_at area operand) other (F (host_values c other 0 y)).result)))) (sym e) (by_value q)
      where
        by_value : (q : Option ℕ) → Both R (bind q (λ y. puts host core (there 1 operand core) (byte_for (operand_at area (placed_operand m operand)) core (F (host_values c core 0 y)).result))) (bind q (λ y. puts host other (here 1 operand other) (byte_for (operand_at area operand) other (F (host_values c other 0 y)).result)))
        by_value None = tt
        by_value (Some y) =
            let v = (F (host_values c other 0 y)).result in
            let d = ap (λ (v : HostValues). byte_for (operand_at area (placed_operand m operand)) core (F v).result) (values_same c 0 y core other r1) ∙ byte_same operand core other v own r1 in
            subst (λ k. Both R (puts host core (there 1 operand core) k) (puts host other (here 1 operand other) (byte_for (operand_at area operand) other v))) (sym d) (put_own 1 operand (byte_for (operand_at area operand) other v) core other own r1)

    -- a product of eax, whose halves go to eax and edx
    both_put : (e : HostEffect) (core other : Core) → R core other → R (puts_both e core) (puts_both e other)
    both_put e core other r1 =
        put_own 4 (Reg 2) e.high (put_at (flagged e.flags core) (Register 0) e.result) (put_at (flagged e.flags other) (Register 0) e.result) (names.temps 2 (omega arith))
        (put_own 4 (Reg 0) e.result (flagged e.flags core) (flagged e.flags other) (names.temps 0 (omega arith)) (with_flags e.flags core other r1))

    multiplies_it : (F : HostValues → HostEffect) (c : Choice) (core other : Core) (p q : Option ℕ) → R core other → p ≡ q →
        Both R (bind p (λ y. Some (puts_both (F (host_values c core (core.regs 0) y)) core))) (bind q (λ y. Some (puts_both (F (host_values c other (other.regs 0) y)) other)))
    multiplies_it F c core other p q r1 e = subst (λ o. Both R (bind o (λ y. Some (puts_both (F (host_values c core (core.regs 0) y)) core))) (bind q (λ y. Some (puts_both (F (host_values c other (other.regs 0) y)) other)))) (sym e) (by_value q)
      where
        by_value : (q : Option ℕ) → Both R (bind q (λ y. Some (puts_both (F (host_values c core (core.regs 0) y)) core))) (bind q (λ y. Some (puts_both (F (host_values c other (other.regs 0) y)) other)))
        by_value None = tt
        by_value (Some y) =
            let d = values_same c (core.regs 0) y core other r1 ∙ ap (λ k. host_values c other k y) (r1.regs 0 (names.temps 0 (omega arith))) in
            subst (λ v. R (puts_both (F v) core) (puts_both (F (host_values c other (other.regs 0) y)) other)) (sym d) (both_put (F (host_values c other (other.regs 0) y)) core other r1)

    reg : (r : ℕ) (core other : Core) → U r → R core other → Some (core.regs (register_of m r)) ≡ Some (other.regs r)
    reg r core other u r1 = ap Some (r1.regs r u)

    address_same : (operand : Operand) (core other : Core) → IsAddress operand → R core other → Some (address_in (there 4 operand core)) ≡ Some (address_in (here 4 operand other))
    address_same (Reg r) core other is r1 = absurd is
    address_same (Abs o) core other is r1 = absurd is
    address_same (Base b d) core other is r1 = ap Some (base_same b d core other is r1)
    address_same (Pair b x s d) core other is r1 = ap Some (pair_same b x s d core other is.0 is.1 r1)

    -- what an op accesses outside the home page, by the second core
    abbrev pub OpIsFar : Op → Core → Type 0
    OpIsFar op other = AreFar area (op_loads (op_at area op) other.regs) × AreFar area (op_stores (op_at area op) other.regs)

    -- an op by the other names
    op_renamed : (op : Op) (c : Choice) (core other : Core) → IsNamed op → OpIsFar op other → R core other → Both R (does host (op_at area (placed m op)) c core) (does host (op_at area op) c other)
    op_renamed (AluTo op to from) c core other named far r1 = change (host_row (AluTo op to from)) (has_result op) c 4 to core other _ _ named.0 r1 (reg from core other named.1 r1)
    op_renamed (AluFrom op to from) c core other named far r1 = change (host_row (AluFrom op to from)) (has_result op) c 4 (Reg to) core other _ _ named.0 r1 (read_own 4 from core other named.1 r1)
    op_renamed (AluImm op to imm) c core other named far r1 = change (host_row (AluImm op to imm)) (has_result op) c 4 to core other _ _ named r1 (the_same imm)
    op_renamed (TestReg a b) c core other named far r1 = change (host_row (TestReg a b)) false c 4 a core other _ _ named.0 r1 (reg b core other named.1 r1)
    op_renamed (TestImm a imm) c core other named far r1 = change (host_row (TestImm a imm)) false c 4 a core other _ _ named r1 (the_same imm)
    op_renamed (Unary Not on) c core other named far r1 = sets_own (host_row (Unary Not on)) c 4 on core other _ _ named r1 (read_own 4 on core other named r1)
    op_renamed (Unary Neg on) c core other named far r1 = sets_own (host_row (Unary Neg on)) c 4 on core other _ _ named r1 (read_own 4 on core other named r1)
    op_renamed (Unary Mul on) c core other named far r1 = multiplies_it (host_row (Unary Mul on)) c core other _ _ r1 (read_own 4 on core other named r1)
    op_renamed (Unary Imul1 on) c core other named far r1 = multiplies_it (host_row (Unary Imul1 on)) c core other _ _ r1 (read_own 4 on core other named r1)
    op_renamed (Imul to from) c core other named far r1 = change (host_row (Imul to from)) true c 4 (Reg to) core other _ _ named.0 r1 (read_own 4 from core other named.1 r1)
    op_renamed (MovTo to from) c core other named far r1 = sets_it (host_row (MovTo to from)) c 4 to core other _ _ named.0 far.1 r1 (reg from core other named.1 r1)
    op_renamed (MovFrom to from) c core other named far r1 = sets_own (host_row (MovFrom to from)) c 4 (Reg to) core other _ _ named.0 r1 (read 4 from core other named.1 far.0 r1)
    op_renamed (MovImm to imm) c core other named far r1 = sets_own (host_row (MovImm to imm)) c 4 (Reg to) core other _ _ named r1 (the_same imm)
    op_renamed (MovToImm to imm) c core other named far r1 = sets_it (host_row (MovToImm to imm)) c 4 to core other _ _ named far.1 r1 (the_same imm)
    op_renamed (MovHalfTo to from) c core other named far r1 = sets_it (host_row (MovHalfTo to from)) c 2 to core other _ _ named.0 far.1 r1 (reg from core other named.1 r1)
    op_renamed (MovByteTo to from) c core other named far r1 = sets_it (host_row (MovByteTo to from)) c 1 to core other _ _ named.0 far.1 r1 (reg from core other named.1 r1)
    op_renamed (MovByteFrom to from) c core other named far r1 = sets_byte_it (host_row (MovByteFrom to from)) c (Reg to) core other _ _ named.0 r1 (read 1 from core other named.1 far.0 r1)
    op_renamed (Shift op to by) c core other named far r1 = change (host_row (Shift op to by)) true c 4 to core other _ _ named r1 (the_same by)
    op_renamed (ShiftByCl op to) c core other named far r1 = change (host_row (ShiftByCl op to)) true c 4 to core other _ _ named r1 (ap (λ k. Some (k % 2 ^ 8)) (r1.regs 1 (names.temps 1 (omega arith))))
    op_renamed (Lea to from) c core other named far r1 = sets_own (host_row (Lea to from)) c 4 (Reg to) core other _ _ named.0 r1 (address_same from core other named.1 r1)
    op_renamed (Extend MovzxByte to from) c core other named far r1 = sets_own (host_row (Extend MovzxByte to from)) c 4 (Reg to) core other _ _ named.0 r1 (read (extend_size MovzxByte) from core other named.1 far.0 r1)
    op_renamed (Extend MovzxHalf to from) c core other named far r1 = sets_own (host_row (Extend MovzxHalf to from)) c 4 (Reg to) core other _ _ named.0 r1 (read (extend_size MovzxHalf) from core other named.1 far.0 r1)
    op_renamed (Extend MovsxByte to from) c core other named far r1 = sets_own (host_row (Extend MovsxByte to from)) c 4 (Reg to) core other _ _ named.0 r1 (read (extend_size MovsxByte) from core other named.1 far.0 r1)
    op_renamed (Extend MovsxHalf to from) c core other named far r1 = sets_own (host_row (Extend MovsxHalf to from)) c 4 (Reg to) core other _ _ named.0 r1 (read (extend_size MovsxHalf) from core other named.1 far.0 r1)
    op_renamed (Bswap r) c core other named far r1 = sets_own (host_row (Bswap r)) c 4 (Reg r) core other _ _ named r1 (ap Some (r1.regs r named))
    op_renamed (Set condition to) c core other named far r1 = sets_byte_it (host_row (Set condition to)) c to core other _ _ named r1 (the_same 0)
    op_renamed (Cmov condition to from) c core other named far r1 = change (host_row (Cmov condition to from)) true c 4 (Reg to) core other _ _ named.0 r1 (read_own 4 from core other named.1 r1)
    op_renamed (Bsr to from) c core other named far r1 = change (host_row (Bsr to from)) true c 4 (Reg to) core other _ _ named.0 r1 (read_own 4 from core other named.1 r1)
    op_renamed Cdq c core other named far r1 =
        let e = ap (λ (v : HostValues). (host_row Cdq v).high) (values_same c (core.regs 0) 0 core other r1 ∙ ap (λ k. host_values c other k 0) (r1.regs 0 (names.temps 0 (omega arith)))) in
        subst (λ k. Both R (puts host core (Register 2) k) (puts host other (Register 2) (host_row Cdq (host_values c other (other.regs 0) 0)).high)) (sym e) (put_own 4 (Reg 2) (host_row Cdq (host_values c other (other.regs 0) 0)).high core other (names.temps 2 (omega arith)) r1)
    op_renamed _ c core other named far r1 = absurd named

    -- what it accesses is the same
    summed_same : (size : ℕ) (operand : Operand) (core other : Core) → IsWithin size operand → R core other → summed size (operand_at area (placed_operand m operand)) core.regs ≡ summed size (operand_at area operand) other.regs
    summed_same size (Reg r) core other is r1 = refl
    summed_same size (Abs o) core other is r1 = refl
    summed_same size (Base b d) core other is r1 = ap (span size) (base_same b d core other is r1)
    summed_same size (Pair b x s d) core other is r1 = ap (span size) (pair_same b x s d core other is.0 is.1 r1)

    loads_same : (op : Op) (core other : Core) → IsNamed op → R core other → op_loads (op_at area (placed m op)) core.regs ≡ op_loads (op_at area op) other.regs
    loads_same (AluTo op to from) core other named r1 = refl
    loads_same (AluFrom op to from) core other named r1 = refl
    loads_same (AluImm op to imm) core other named r1 = refl
    loads_same (TestReg a b) core other named r1 = refl
    loads_same (TestImm a imm) core other named r1 = refl
    loads_same (Unary Not on) core other named r1 = refl
    loads_same (Unary Neg on) core other named r1 = refl
    loads_same (Unary Mul on) core other named r1 = refl
    loads_same (Unary Imul1 on) core other named r1 = refl
    loads_same (Imul to from) core other named r1 = refl
    loads_same (MovTo to from) core other named r1 = refl
    loads_same (MovFrom to from) core other named r1 = summed_same 4 from core other named.1 r1
    loads_same (MovImm to imm) core other named r1 = refl
    loads_same (MovToImm to imm) core other named r1 = refl
    loads_same (MovHalfTo to from) core other named r1 = refl
    loads_same (MovByteTo to from) core other named r1 = refl
    loads_same (MovByteFrom to from) core other named r1 = summed_same 1 from core other named.1 r1
    loads_same (Shift op to by) core other named r1 = refl
    loads_same (ShiftByCl op to) core other named r1 = refl
    loads_same (Lea to from) core other named r1 = refl
    loads_same (Extend op to from) core other named r1 = summed_same (extend_size op) from core other named.1 r1
    loads_same (Bswap r) core other named r1 = refl
    loads_same (Set condition to) core other named r1 = refl
    loads_same (Cmov condition to from) core other named r1 = refl
    loads_same (Bsr to from) core other named r1 = refl
    loads_same Cdq core other named r1 = refl
    loads_same _ core other named r1 = absurd named

    stores_same : (op : Op) (core other : Core) → IsNamed op → R core other → op_stores (op_at area (placed m op)) core.regs ≡ op_stores (op_at area op) other.regs
    stores_same (AluTo op to from) core other named r1 = refl
    stores_same (AluFrom op to from) core other named r1 = refl
    stores_same (AluImm op to imm) core other named r1 = refl
    stores_same (TestReg a b) core other named r1 = refl
    stores_same (TestImm a imm) core other named r1 = refl
    stores_same (Unary Not on) core other named r1 = refl
    stores_same (Unary Neg on) core other named r1 = refl
    stores_same (Unary Mul on) core other named r1 = refl
    stores_same (Unary Imul1 on) core other named r1 = refl
    stores_same (Imul to from) core other named r1 = refl
    stores_same (MovTo to from) core other named r1 = summed_same 4 to core other named.0 r1
    stores_same (MovFrom to from) core other named r1 = refl
    stores_same (MovImm to imm) core other named r1 = refl
    stores_same (MovToImm to imm) core other named r1 = summed_same 4 to core other named r1
    stores_same (MovHalfTo to from) core other named r1 = summed_same 2 to core other named.0 r1
    stores_same (MovByteTo to from) core other named r1 = summed_same 1 to core other named.0 r1
    stores_same (MovByteFrom to from) core other named r1 = refl
    stores_same (Shift op to by) core other named r1 = refl
    stores_same (ShiftByCl op to) core other named r1 = refl
    stores_same (Lea to from) core other named r1 = refl
    stores_same (Extend op to from) core other named r1 = refl
    stores_same (Bswap r) core other named r1 = refl
    stores_same (Set condition to) core other named r1 = refl
    stores_same (Cmov condition to from) core other named r1 = refl
    stores_same (Bsr to from) core other named r1 = refl
    stores_same Cdq core other named r1 = refl
    stores_same _ core other named r1 = absurd named

    -- a named op is no jump, and goes on or ends the run outside
    abbrev behind : List Choice → Core → Option Core → Outcome Host
    behind choices core o = goes_to host 0 (record { core = core; eip = 0; choices = choices }) o

    abbrev IsCalm : Op → Type 0
    IsCalm op = (choices : List Choice) (core : Core) → (is_jump op ≡ false) × (op_outcome host op choices core ≡ behind choices core (does host op (choice_at choices 0) core))

    calm_there : (op : Op) → IsNamed op → IsCalm (op_at area (placed m op))
    calm_there (AluTo op to from) named = λ choices core. (refl, refl)
    calm_there (AluFrom op to from) named = λ choices core. (refl, refl)
    calm_there (AluImm op to imm) named = λ choices core. (refl, refl)
    calm_there (TestReg a b) named = λ choices core. (refl, refl)
    calm_there (TestImm a imm) named = λ choices core. (refl, refl)
    calm_there (Unary Not on) named = λ choices core. (refl, refl)
    calm_there (Unary Neg on) named = λ choices core. (refl, refl)
    calm_there (Unary Mul on) named = λ choices core. (refl, refl)
    calm_there (Unary Imul1 on) named = λ choices core. (refl, refl)
    calm_there (Imul to from) named = λ choices core. (refl, refl)
    calm_there (MovTo to from) named = λ choices core. (refl, refl)
    calm_there (MovFrom to from) named = λ choices core. (refl, refl)
    calm_there (MovImm to imm) named = λ choices core. (refl, refl)
    calm_there (MovToImm to imm) named = λ choices core. (refl, refl)
    calm_there (MovHalfTo to from) named = λ choices core. (refl, refl)
    calm_there (MovByteTo to from) named = λ choices core. (refl, refl)
    calm_there (MovByteFrom to from) named = λ choices core. (refl, refl)
    calm_there (Shift op to by) named = λ choices core. (refl, refl)
    calm_there (ShiftByCl op to) named = λ choices core. (refl, refl)
    calm_there (Lea to from) named = λ choices core. (refl, refl)
    calm_there (Extend op to from) named = λ choices core. (refl, refl)
    calm_there (Bswap r) named = λ choices core. (refl, refl)
    calm_there (Set condition to) named = λ choices core. (refl, refl)
    calm_there (Cmov condition to from) named = λ choices core. (refl, refl)
    calm_there (Bsr to from) named = λ choices core. (refl, refl)
    calm_there Cdq named = λ choices core. (refl, refl)
    calm_there _ named = absurd named

    calm_here : (op : Op) → IsNamed op → IsCalm (op_at area op)
    calm_here (AluTo op to from) named = λ choices core. (refl, refl)
    calm_here (AluFrom op to from) named = λ choices core. (refl, refl)
    calm_here (AluImm op to imm) named = λ choices core. (refl, refl)
    calm_here (TestReg a b) named = λ choices core. (refl, refl)
    calm_here (TestImm a imm) named = λ choices core. (refl, refl)
    calm_here (Unary Not on) named = λ choices core. (refl, refl)
    calm_here (Unary Neg on) named = λ choices core. (refl, refl)
    calm_here (Unary Mul on) named = λ choices core. (refl, refl)
    calm_here (Unary Imul1 on) named = λ choices core. (refl, refl)
    calm_here (Imul to from) named = λ choices core. (refl, refl)
    calm_here (MovTo to from) named = λ choices core. (refl, refl)
    calm_here (MovFrom to from) named = λ choices core. (refl, refl)
    calm_here (MovImm to imm) named = λ choices core. (refl, refl)
    calm_here (MovToImm to imm) named = λ choices core. (refl, refl)
    calm_here (MovHalfTo to from) named = λ choices core. (refl, refl)
    calm_here (MovByteTo to from) named = λ choices core. (refl, refl)
    calm_here (MovByteFrom to from) named = λ choices core. (refl, refl)
    calm_here (Shift op to by) named = λ choices core. (refl, refl)
    calm_here (ShiftByCl op to) named = λ choices core. (refl, refl)
    calm_here (Lea to from) named = λ choices core. (refl, refl)
    calm_here (Extend op to from) named = λ choices core. (refl, refl)
    calm_here (Bswap r) named = λ choices core. (refl, refl)
    calm_here (Set condition to) named = λ choices core. (refl, refl)
    calm_here (Cmov condition to from) named = λ choices core. (refl, refl)
    calm_here (Bsr to from) named = λ choices core. (refl, refl)
    calm_here Cdq named = λ choices core. (refl, refl)
    calm_here _ named = absurd named

    abbrev pub AreNamed : List Op → Type 0
    AreNamed [] = Unit {0}
    AreNamed (op ∷ ops) = IsNamed op × AreNamed ops

    abbrev ops_there : List Op → List Op
    ops_there ops = list_map (op_at area) (list_map (placed m) ops)

    abbrev ops_here : List Op → List Op
    ops_here ops = list_map (op_at area) ops

    -- the ops access nothing in the home page by sums of registers, from the second core
    pub record AreAway (ops : List Op) (choices : List Choice) (other : Core) : Type 0 where
      pub loads : AreFar area (accessed op_loads host (ops_here ops) choices other)
      pub stores : AreFar area (accessed op_stores host (ops_here ops) choices other)

    -- ops do the same, and access the same
    pub record DoSame (ops : List Op) (choices : List Choice) (core other : Core) : Type 0 where
      pub both : Both R (perform host (ops_there ops) choices core) (perform host (ops_here ops) choices other)
      pub loads : accessed op_loads host (ops_there ops) choices core ≡ accessed op_loads host (ops_here ops) choices other
      pub stores : accessed op_stores host (ops_there ops) choices core ≡ accessed op_stores host (ops_here ops) choices other

    -- ops that do so behind an op, from the outcomes of the op
    record DoBehind (ops : List Op) (choices : List Choice) (core other : Core) (o q : Option Core) : Type 0 where
      pub both : Both R (core_behind (perform host (ops_there ops)) (behind choices core o)) (core_behind (perform host (ops_here ops)) (behind choices other q))
      pub loads : accessed_behind (accessed op_loads host (ops_there ops)) (behind choices core o) ≡ accessed_behind (accessed op_loads host (ops_here ops)) (behind choices other q)
      pub stores : accessed_behind (accessed op_stores host (ops_there ops)) (behind choices core o) ≡ accessed_behind (accessed op_stores host (ops_here ops)) (behind choices other q)

    performed : (op : Op) (ops : List Op) (choices : List Choice) (core : Core) → IsCalm op → perform host (op ∷ ops) choices core ≡ core_behind (perform host ops) (behind choices core (does host op (choice_at choices 0) core))
    performed op ops choices core calm =
        ap (λ b. cond b None (core_behind (perform host ops) (op_outcome host op choices core))) (calm choices core).0 ∙ ap (core_behind (perform host ops)) (calm choices core).1

    -- and ops one after another
    pub ops_renamed : (ops : List Op) (choices : List Choice) (core other : Core) → AreNamed ops → AreAway ops choices other → R core other → DoSame ops choices core other
    unfolding accessed
    ops_renamed [] choices core other named away r1 = record { both = r1; loads = refl; stores = refl }
    ops_renamed (op ∷ ops) choices core other named away r1 =
        let far : OpIsFar op other = (
          (λ a c. away.loads a (Contains-append_left (op_loads (op_at area op) other.regs) _ a c)),
          (λ a c. away.stores a (Contains-append_left (op_stores (op_at area op) other.regs) _ a c)),
        ) in
        let e = (calm_here op named.0 choices other).1 in
        let rest = by_both (λ x y w r2. ops_renamed ops (drop 1 choices) x y named.1 w r2) (does host (op_at area (placed m op)) (choice_at choices 0) core) (does host (op_at area op) (choice_at choices 0) other) (op_renamed op (choice_at choices 0) core other named.0 far r1)
        (λ a c. away.loads a (Contains-append_right (op_loads (op_at area op) other.regs) _ a (subst (λ o. Contains (accessed_behind (accessed op_loads host (ops_here ops)) o) a) (sym e) c)))
        (λ a c. away.stores a (Contains-append_right (op_stores (op_at area op) other.regs) _ a (subst (λ o. Contains (accessed_behind (accessed op_stores host (ops_here ops)) o) a) (sym e) c))) in
        record {
          both = subst (λ o. Both R o (perform host (ops_here (op ∷ ops)) choices other)) (sym (performed (op_at area (placed m op)) (ops_there ops) choices core (calm_there op named.0)))
              (subst (λ o. Both R (core_behind (perform host (ops_there ops)) (behind choices core (does host (op_at area (placed m op)) (choice_at choices 0) core))) o) (sym (performed (op_at area op) (ops_here ops) choices other (calm_here op named.0))) rest.both);
          loads = ap (λ o. op_loads (op_at area (placed m op)) core.regs ++ accessed_behind (accessed op_loads host (ops_there ops)) o) (calm_there op named.0 choices core).1
              ∙ ap (λ l. l ++ accessed_behind (accessed op_loads host (ops_there ops)) (behind choices core (does host (op_at area (placed m op)) (choice_at choices 0) core))) (loads_same op core other named.0 r1)
              ∙ ap (λ l. op_loads (op_at area op) other.regs ++ l) rest.loads ∙ sym (ap (λ o. op_loads (op_at area op) other.regs ++ accessed_behind (accessed op_loads host (ops_here ops)) o) e);
          stores = ap (λ o. op_stores (op_at area (placed m op)) core.regs ++ accessed_behind (accessed op_stores host (ops_there ops)) o) (calm_there op named.0 choices core).1
              ∙ ap (λ l. l ++ accessed_behind (accessed op_stores host (ops_there ops)) (behind choices core (does host (op_at area (placed m op)) (choice_at choices 0) core))) (stores_same op core other named.0 r1)
              ∙ ap (λ l. op_stores (op_at area op) other.regs ++ l) rest.stores ∙ sym (ap (λ o. op_stores (op_at area op) other.regs ++ accessed_behind (accessed op_stores host (ops_here ops)) o) e);
        }
      where
        by_both : ((x y : Core) → AreAway ops (drop 1 choices) y → R x y → DoSame ops (drop 1 choices) x y) → (o q : Option Core) → Both R o q →
            AreFar area (accessed_behind (accessed op_loads host (ops_here ops)) (behind choices other q)) → AreFar area (accessed_behind (accessed op_stores host (ops_here ops)) (behind choices other q)) → DoBehind ops choices core other o q
        by_both rest (Some x) (Some y) r2 loads stores = let s = rest x y (record { loads = loads; stores = stores }) r2 in record { both = s.both; loads = s.loads; stores = s.stores }
        by_both rest None None r2 loads stores = record { both = tt; loads = refl; stores = refl }
        by_both rest (Some x) None r2 loads stores = absurd r2
        by_both rest None (Some y) r2 loads stores = absurd r2
