-- The words of lmw and stmw, one by one.
use Rattle.std.proofs.Common.{◌≡◌, ◌≢◌, inl, inr, subst, ℕ, zero, suc, ◌+◌, ◌-◌, ◌*◌, ◌/◌, ◌%◌, ◌^◌, ◌<◌, ◌≤◌, Bool, true, false, cond, ◌&&◌, leb, ltb, eqb, Some, None, refl, sym, ◌∙◌, ap, add-one, arith}
use Rattle.std.specs.Prelude.{if◌then◌else◌}
use Rattle.std.proofs.lemmas.Bool.Decides.{nat_tests}
use Rattle.std.proofs.lemmas.Bool.{cases_eq, cases_lt}
use Rattle.access.proofs.Bytes.{each_at}
use Rattle.machines.proofs.Stack.{each_true as each_of}
use Rattle.machines.specs.Prelude.{Program, rights_of, update, load_big, store_big, each_byte, Guest, put_loaded, store_registers}
use Rattle.ppc_step.specs.Prelude.{State, IsState}

-- an address modulo 2^32 is the same address
pub load_wraps : (n a b : ℕ) (f : ℕ → ℕ) → a % 2 ^ 32 ≡ b % 2 ^ 32 → load_big n a f ≡ load_big n b f
unfolding load_big
load_wraps zero a b f e = refl
load_wraps (suc n) a b f e =
    let on : (a + 1) % 2 ^ 32 ≡ (b + 1) % 2 ^ 32 = omega arith in
    rw (e, load_wraps n (a + 1) (b + 1) f on) refl

pub store_wraps : (n a b v : ℕ) (f : ℕ → ℕ) → a % 2 ^ 32 ≡ b % 2 ^ 32 → store_big n a v f ≡ store_big n b v f
unfolding store_big
store_wraps zero a b v f e = refl
store_wraps (suc n) a b v f e =
    let on : (a + 1) % 2 ^ 32 ≡ (b + 1) % 2 ^ 32 = omega arith in
    rw e (store_wraps n (a + 1) (b + 1) v (update f (b % 2 ^ 32) (v / 256 ^ n % 256)) on)

-- a further register is put
puts_next : (n s a : ℕ) (locs f : ℕ → ℕ) → store_registers (suc n) s a locs f ≡ store_big 4 (a + 4 * n) (locs (s + n)) (store_registers n s a locs f)
unfolding store_registers
puts_next zero s a locs f =
    let e : a + 4 * 0 ≡ a = omega arith in
    let i : s + 0 ≡ s = omega arith in
    rw (e, i) refl
puts_next (suc n) s a locs f =
    let e : a + 4 * suc n ≡ a + 4 + 4 * n = omega arith in
    let i : s + suc n ≡ s + 1 + n = omega arith in
    rw (e, i) (puts_next n (s + 1) (a + 4) locs (store_big 4 a (locs s) f))

pub store_next : (n s a : ℕ) (locs f : ℕ → ℕ) → store_registers (n + 1) s a locs f ≡ store_big 4 (a + 4 * n) (locs (s + n)) (store_registers n s a locs f)
store_next n s a locs f = rw add-one (puts_next n s a locs f)

none_of : (b : Bool) (n : ℕ) → b ≡ true → None ≡ (if b then Some n else None) → ⊥
none_of b n e h = let t = rw e at h in cc

some_of : (b : Bool) (m n : ℕ) → b ≡ true → Some m ≡ (if b then Some n else None) → m ≡ n
some_of b m n e h = let t = rw e at h in cc

-- a word that is inside is loaded
module _ (p : Program) (n at : ℕ) where
  pub loaded_word : (f : ℕ → ℕ) → each_byte (rights_of p).held n at ≡ true
      → None ≡ (if each_byte (rights_of p).held n at then Some (load_big n at f) else None) → ⊥
  loaded_word f inside h = none_of (each_byte (rights_of p).held n at) (load_big n at f) inside h

  pub some_loaded : (w : ℕ) (f : ℕ → ℕ) → each_byte (rights_of p).held n at ≡ true
      → Some w ≡ (if each_byte (rights_of p).held n at then Some (load_big n at f) else None) → w ≡ load_big n at f
  some_loaded w f inside h = some_of (each_byte (rights_of p).held n at) w (load_big n at f) inside h

is_equal : (a b : ℕ) → a ≡ b → eqb a b ≡ true
is_equal a b h = grind (arith, nat_tests)

is_other : (a b : ℕ) → a ≢ b → eqb a b ≡ false
is_other a b h = grind (arith, nat_tests)

same_below : (x y : ℕ) → y ≢ x → ltb y x ≡ ltb y (x + 1)
same_below x y other = elim (cases_lt y x) as (λ _. ltb y x ≡ ltb y (x + 1)) [
  | inl low ↦ grind (arith, nat_tests)
  | inr high ↦ grind (arith, nat_tests)
]

same_test : (d x y : ℕ) → y ≢ x → (leb d y && ltb y x) ≡ (leb d y && ltb y (x + 1))
same_test d x y other = ap (λ b. leb d y && b) (same_below x y other)

-- the registers from d on, below x, have the words from an address on
abbrev pub put_below : ℕ → ℕ → ℕ → (ℕ → ℕ) → (ℕ → ℕ) → ℕ → ℕ
put_below x d at bytes locs y = cond (leb d y && ltb y x) (load_big 4 (at + 4 * (y - d)) bytes) (locs y)

same_state : (p : Program) (s : State) (g : Guest) (h : ℕ → ℕ) → IsState p s g → ((y : ℕ) → g.locs y ≡ h y) → IsState p s (record g { locs = h })
same_state p s g h is same = record { registers = is.registers ∙ (λ i y. same y i); next = is.next; memory = is.memory }

below_none : (d : ℕ) (y : ℕ) → (leb d y && ltb y d) ≡ false
below_none d y = grind (arith, nat_tests)

-- each word of the run is inside where the run is
pub part_inside : (test : ℕ → Bool) (d x at address : ℕ) → d ≤ x → x < 32 → address ≡ (at + 4 * (x - d)) % 2 ^ 32 → each_byte test (4 * (32 - d)) at ≡ true → each_byte test 4 address ≡ true
part_inside test d x at address begins ends e inside =
    each_of test 4 address (λ k lt.
    let place : (address + k) % 2 ^ 32 ≡ (at + (4 * (x - d) + k)) % 2 ^ 32 = omega arith in
    ap test place ∙ each_at test (4 * (32 - d)) at (4 * (x - d) + k) inside (omega arith))

module _ (p : Program) (s : State) (g : Guest) where
  pub none_below : (d at : ℕ) → IsState p s g → IsState p s (record g { locs = put_below d d at g.bytes g.locs })
  none_below d at is = same_state p s g (put_below d d at g.bytes g.locs) is (λ y. rw (below_none d y) refl)

  next_at : (x d at address : ℕ) → d ≤ x → address ≡ (at + 4 * (x - d)) % 2 ^ 32 → (y : ℕ)
      → update (put_below x d at g.bytes g.locs) x (load_big 4 address g.bytes) y ≡ put_below (x + 1) d at g.bytes g.locs y
  next_at x d at address begins e y = elim (cases_eq y x) as (λ _. update (put_below x d at g.bytes g.locs) x (load_big 4 address g.bytes) y ≡ put_below (x + 1) d at g.bytes g.locs y) [
    | inl same ↦
        let wraps : load_big 4 address g.bytes ≡ load_big 4 (at + 4 * (x - d)) g.bytes = load_wraps 4 address (at + 4 * (x - d)) g.bytes (omega arith) in
        let inside : (leb d x && ltb x (x + 1)) ≡ true = grind (arith, nat_tests) in
        rw (same, is_equal x x refl, inside) wraps
    | inr other ↦
        let test : (leb d y && ltb y x) ≡ (leb d y && ltb y (x + 1)) = same_test d x y other in
        rw (is_other y x other, test) refl
  ]

  pub next_below : (x d at address : ℕ) → d ≤ x → address ≡ (at + 4 * (x - d)) % 2 ^ 32
      → IsState p s (record g { locs = update (put_below x d at g.bytes g.locs) x (load_big 4 address g.bytes) })
      → IsState p s (record g { locs = put_below (x + 1) d at g.bytes g.locs })
  next_below x d at address begins e is =
      same_state p s (record g { locs = update (put_below x d at g.bytes g.locs) x (load_big 4 address g.bytes) }) (put_below (x + 1) d at g.bytes g.locs) is (next_at x d at address begins e)

  pub all_below : (x d at : ℕ) → x ≡ 32 → IsState p s (record g { locs = put_below x d at g.bytes g.locs }) → IsState p s (record g { locs = put_loaded d at g.bytes g.locs })
  all_below x d at e is = subst (λ n. IsState p s (record g { locs = put_below n d at g.bytes g.locs })) e is

  no_words : (s_at at : ℕ) → IsState p s g → IsState p s (record g { bytes = store_registers 0 s_at at g.locs g.bytes })
  unfolding store_registers
  no_words s_at at is = is

  pub none_left : (first at : ℕ) → IsState p s g → IsState p s (record g { bytes = store_registers (first - first) first at g.locs g.bytes })
  none_left first at is =
      let e : 0 ≡ first - first = omega arith in
      subst (λ n. IsState p s (record g { bytes = store_registers n first at g.locs g.bytes })) e (no_words first at is)

  pub next_words : (x first at address : ℕ) → first ≤ x → address ≡ (at + 4 * (x - first)) % 2 ^ 32
      → IsState p s (record g { bytes = store_big 4 address (g.locs x) (store_registers (x - first) first at g.locs g.bytes) })
      → IsState p s (record g { bytes = store_registers (x + 1 - first) first at g.locs g.bytes })
  next_words x first at address begins e is =
      let count : x + 1 - first ≡ x - first + 1 = omega arith in
      let register : first + (x - first) ≡ x = omega arith in
      let kept = store_registers (x - first) first at g.locs g.bytes in
      let wraps : store_big 4 address (g.locs x) kept ≡ store_big 4 (at + 4 * (x - first)) (g.locs x) kept = store_wraps 4 address (at + 4 * (x - first)) (g.locs x) kept (omega arith) in
      let next : store_registers (x + 1 - first) first at g.locs g.bytes ≡ store_big 4 address (g.locs x) kept =
      ap (λ n. store_registers n first at g.locs g.bytes) count ∙ store_next (x - first) first at g.locs g.bytes
      ∙ ap (λ r. store_big 4 (at + 4 * (x - first)) (g.locs r) kept) register ∙ sym wraps in
      subst (λ b. IsState p s (record g { bytes = b })) (sym next) is
