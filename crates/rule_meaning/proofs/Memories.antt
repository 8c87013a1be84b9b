-- Memory behind accesses. This project's own.
use Rattle.std.proofs.Common.{◌≡◌, ℕ, zero, suc, ◌+◌, ◌/◌, ◌%◌, ◌^◌, ◌<◌, ◌≤◌, Bool, true, false, cond, eqb, List, [], ◌∷◌, Contains, refl, sym, ap, ◌∙◌, subst, arith}
use Rattle.std.specs.List.{flat_map}
use Rattle.std.proofs.lemmas.Bool.Decides.{nat_tests}
use Rattle.std.proofs.lemmas.List.Elements.{Contains-append_left, Contains-append_right}
use Rattle.machines.specs.Prelude.{store_big, update, load}
use Rattle.symbolic_tiles.specs.Prelude.{span}
use Rattle.row_laws.proofs.Lists.{first_in, later_in}
use Rattle.row_runs.specs.Accesses.{Accessed}
use Rattle.rule_places.specs.Accesses.{stores_at, behind_access, behind_accesses}

-- where two memories have the same byte they have it behind a store
store_same : (n a v : ℕ) (f h : ℕ → ℕ) (x : ℕ) → f x ≡ h x → store_big n a v f x ≡ store_big n a v h x
unfolding store_big
store_same zero a v f h x e = e
store_same (suc n) a v f h x e = store_same n (a + 1) v (update f (a % 2 ^ 32) (v / 256 ^ n % 256)) (update h (a % 2 ^ 32) (v / 256 ^ n % 256)) x (ap (λ w. cond (eqb x (a % 2 ^ 32)) (v / 256 ^ n % 256) w) e)

is_other : (x y : ℕ) → (y ≡ x → ⊥) → eqb x y ≡ false
is_other x y not_so = by_test (eqb x y) refl
  where
    by_test : (b : Bool) → eqb x y ≡ b → eqb x y ≡ false
    by_test false e = e
    by_test true e = absurd (not_so (grind (arith, nat_tests)))

-- a byte that isn't stored stays
store_kept : (n a v : ℕ) (f : ℕ → ℕ) (x : ℕ) → (Contains (span n a) x → ⊥) → store_big n a v f x ≡ f x
unfolding store_big
store_kept zero a v f x not_so = refl
store_kept (suc n) a v f x not_so =
    store_kept n (a + 1) v (update f (a % 2 ^ 32) (v / 256 ^ n % 256)) x (λ c. not_so (later_in (a % 2 ^ 32) x (span n (a + 1)) c))
    ∙ ap (λ b. cond b (v / 256 ^ n % 256) (f x)) (is_other x (a % 2 ^ 32) (λ e. not_so (subst (λ (k : ℕ). Contains (a % 2 ^ 32 ∷ span n (a + 1)) k) e (first_in (a % 2 ^ 32) (span n (a + 1))))))

-- where two memories have the same byte they have it behind accesses
pub behind_same : (xs : List Accessed) (f h : ℕ → ℕ) (x : ℕ) → f x ≡ h x → behind_accesses xs f x ≡ behind_accesses xs h x
unfolding behind_accesses
behind_same [] f h x e = e
behind_same (y ∷ ys) f h x e = behind_same ys (behind_access y f) (behind_access y h) x (one y.loads)
  where
    one : (b : Bool) → (cond b f (store_big y.width y.address y.stored f)) x ≡ (cond b h (store_big y.width y.address y.stored h)) x
    one true = e
    one false = store_same y.width y.address y.stored f h x e

-- a byte that no access stores stays
pub behind_kept : (xs : List Accessed) (f : ℕ → ℕ) (x : ℕ) → (Contains (flat_map stores_at xs) x → ⊥) → behind_accesses xs f x ≡ f x
unfolding behind_accesses
behind_kept [] f x not_so = refl
behind_kept (y ∷ ys) f x not_so =
    behind_kept ys (behind_access y f) x (λ c. not_so (Contains-append_right (stores_at y) (flat_map stores_at ys) x c))
    ∙ one y.loads refl
  where
    one : (b : Bool) → y.loads ≡ b → (cond b f (store_big y.width y.address y.stored f)) x ≡ f x
    one true e = refl
    one false e = store_kept y.width y.address y.stored f x (λ c. not_so (Contains-append_left (stores_at y) (flat_map stores_at ys) x (subst (λ (b : Bool). Contains (cond b [] (span y.width y.address)) x) (sym e) c)))

-- the number of four bytes, and of one
pub load_four : (a : ℕ) (f : ℕ → ℕ) (v : ℕ) → a + 4 ≤ 2 ^ 32 → v < 2 ^ 32 → f a ≡ v / 2 ^ 0 % 2 ^ 8 → f (a + 1) ≡ v / 2 ^ 8 % 2 ^ 8 → f (a + 2) ≡ v / 2 ^ 16 % 2 ^ 8 → f (a + 3) ≡ v / 2 ^ 24 % 2 ^ 8 → load 4 a f ≡ v
unfolding load
load_four a f v low lt h0 h1 h2 h3 =
    let e0 : a % 2 ^ 32 ≡ a = omega (arith, low) in
    let e1 : (a + 1) % 2 ^ 32 ≡ a + 1 = omega (arith, low) in
    let e2 : (a + 1 + 1) % 2 ^ 32 ≡ a + 2 = omega (arith, low) in
    let e3 : (a + 1 + 1 + 1) % 2 ^ 32 ≡ a + 3 = omega (arith, low) in
    let g0 : f (a % 2 ^ 32) ≡ v / 2 ^ 0 % 2 ^ 8 = ap f e0 ∙ h0 in
    let g1 : f ((a + 1) % 2 ^ 32) ≡ v / 2 ^ 8 % 2 ^ 8 = ap f e1 ∙ h1 in
    let g2 : f ((a + 1 + 1) % 2 ^ 32) ≡ v / 2 ^ 16 % 2 ^ 8 = ap f e2 ∙ h2 in
    let g3 : f ((a + 1 + 1 + 1) % 2 ^ 32) ≡ v / 2 ^ 24 % 2 ^ 8 = ap f e3 ∙ h3 in
    omega (arith, g0, g1, g2, g3, lt)

-- the bytes of a number of four bytes
pub record BytesOf (a : ℕ) (f : ℕ → ℕ) (v : ℕ) : Type 0 where
  pub byte0 : f a ≡ v / 2 ^ 0 % 2 ^ 8
  pub byte1 : f (a + 1) ≡ v / 2 ^ 8 % 2 ^ 8
  pub byte2 : f (a + 2) ≡ v / 2 ^ 16 % 2 ^ 8
  pub byte3 : f (a + 3) ≡ v / 2 ^ 24 % 2 ^ 8

pub four_bytes : (a : ℕ) (f : ℕ → ℕ) → a + 4 ≤ 2 ^ 32 → ((k : ℕ) → f k < 256) → BytesOf a f (load 4 a f)
unfolding load
four_bytes a f low small =
    let e0 : a % 2 ^ 32 ≡ a = omega (arith, low) in
    let e1 : (a + 1) % 2 ^ 32 ≡ a + 1 = omega (arith, low) in
    let e2 : (a + 1 + 1) % 2 ^ 32 ≡ a + 2 = omega (arith, low) in
    let e3 : (a + 1 + 1 + 1) % 2 ^ 32 ≡ a + 3 = omega (arith, low) in
    let b0 = small (a % 2 ^ 32) in
    let b1 = small ((a + 1) % 2 ^ 32) in
    let b2 = small ((a + 1 + 1) % 2 ^ 32) in
    let b3 = small ((a + 1 + 1 + 1) % 2 ^ 32) in
    record {
      byte0 = ap f (sym e0) ∙ omega (arith, b0, b1, b2, b3);
      byte1 = ap f (sym e1) ∙ omega (arith, b0, b1, b2, b3);
      byte2 = ap f (sym e2) ∙ omega (arith, b0, b1, b2, b3);
      byte3 = ap f (sym e3) ∙ omega (arith, b0, b1, b2, b3);
    }

-- a number of four bytes that are below 256 is a word
pub load_word : (a : ℕ) (f : ℕ → ℕ) → ((k : ℕ) → f k < 256) → load 4 a f < 2 ^ 32
unfolding load
load_word a f small =
    let b0 = small (a % 2 ^ 32) in
    let b1 = small ((a + 1) % 2 ^ 32) in
    let b2 = small ((a + 1 + 1) % 2 ^ 32) in
    let b3 = small ((a + 1 + 1 + 1) % 2 ^ 32) in
    omega (arith, b0, b1, b2, b3)

-- a number of one byte
pub load_one : (a : ℕ) (f : ℕ → ℕ) → a < 2 ^ 32 → load 1 a f ≡ f a
unfolding load
load_one a f low = let e : a % 2 ^ 32 ≡ a = omega (arith, low) in omega arith ∙ ap f e
