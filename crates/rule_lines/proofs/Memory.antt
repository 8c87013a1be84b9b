-- Bytes of the home page and of the guest's memory, and the numbers that they are. This project's own.
use Rattle.std.proofs.Common.{◌≡◌, ◌≢◌, ℕ, zero, suc, ◌+◌, ◌*◌, ◌/◌, ◌%◌, ◌^◌, ◌<◌, ◌≤◌, ◌⊎◌, inl, inr, ⊎_elim, Bool, true, Contains, refl, sym, ap, ◌∙◌, subst, arith}
use Rattle.std.proofs.lemmas.Bool.Decides.{nat_tests}
use Rattle.word_kit.specs.Prelude.{byte_of}
use Rattle.machines.specs.Prelude.{update, load, store, store_big, each_byte}
use Rattle.machines.proofs.Stack.{each_true as each_of}
use Rattle.row_laws.proofs.Lists.{first_in, later_in}
use Rattle.symbolic_tiles.specs.Prelude.{span}
use Rattle.symbolic_tiles.proofs.Memory.{update_same, store_other, load_store}
use Rattle.row_runs.specs.Accesses.{little_number, cut, turned}
use Rattle.place_circuits.specs.Places.{with_place}
use Rattle.place_circuits.specs.Sources.{IsWidth}
use Rattle.place_circuits.specs.Results.{with_lowest, with_bytes}

pub by_width : (P : ℕ → Type 0) (size : ℕ) → IsWidth size → P 1 → P 2 → P 4 → P size
by_width P size (inl e) one two four = subst P (sym e) one
by_width P size (inr (inl e)) one two four = subst P (sym e) two
by_width P size (inr (inr e)) one two four = subst P (sym e) four

pub width_few : (size : ℕ) → IsWidth size → size ≤ 4
width_few size is = by_width (λ n. n ≤ 4) size is (omega arith) (omega arith) (omega arith)

-- a number that is loaded is that of its bytes
pub load_bytes : (size a : ℕ) (f g : ℕ → ℕ) → IsWidth size → ((k : ℕ) → f k < 256) → ((i : ℕ) → i < size → f ((a + i) % 2 ^ 32) ≡ g i) → load size a f ≡ little_number size g
unfolding load
load_bytes size a f g is small = by_width (λ n. ((i : ℕ) → i < n → f ((a + i) % 2 ^ 32) ≡ g i) → load n a f ≡ little_number n g) size is
    (λ h.
    let e0 : (a + 0) % 2 ^ 32 ≡ a % 2 ^ 32 = omega arith in
    let h0 : f (a % 2 ^ 32) ≡ g 0 = ap f (sym e0) ∙ h 0 (omega arith) in
    let b0 = small (a % 2 ^ 32) in
    omega (arith, h0, b0))
    (λ h.
    let e0 : (a + 0) % 2 ^ 32 ≡ a % 2 ^ 32 = omega arith in
    let h0 : f (a % 2 ^ 32) ≡ g 0 = ap f (sym e0) ∙ h 0 (omega arith) in
    let h1 : f ((a + 1) % 2 ^ 32) ≡ g 1 = h 1 (omega arith) in
    let b0 = small (a % 2 ^ 32) in
    let b1 = small ((a + 1) % 2 ^ 32) in
    omega (arith, h0, h1, b0, b1))
    (λ h.
    let e0 : (a + 0) % 2 ^ 32 ≡ a % 2 ^ 32 = omega arith in
    let e2 : (a + 2) % 2 ^ 32 ≡ (a + 1 + 1) % 2 ^ 32 = omega arith in
    let e3 : (a + 3) % 2 ^ 32 ≡ (a + 1 + 1 + 1) % 2 ^ 32 = omega arith in
    let h0 : f (a % 2 ^ 32) ≡ g 0 = ap f (sym e0) ∙ h 0 (omega arith) in
    let h1 : f ((a + 1) % 2 ^ 32) ≡ g 1 = h 1 (omega arith) in
    let h2 : f ((a + 1 + 1) % 2 ^ 32) ≡ g 2 = ap f (sym e2) ∙ h 2 (omega arith) in
    let h3 : f ((a + 1 + 1 + 1) % 2 ^ 32) ≡ g 3 = ap f (sym e3) ∙ h 3 (omega arith) in
    let b0 = small (a % 2 ^ 32) in
    let b1 = small ((a + 1) % 2 ^ 32) in
    let b2 = small ((a + 1 + 1) % 2 ^ 32) in
    let b3 = small ((a + 1 + 1 + 1) % 2 ^ 32) in
    omega (arith, h0, h1, h2, h3, b0, b1, b2, b3))

-- the bytes of a word that is loaded
pub loaded_byte : (a i : ℕ) (f : ℕ → ℕ) → ((k : ℕ) → f k < 256) → i < 4 → f ((a + i) % 2 ^ 32) ≡ byte_of (load 4 a f) i
unfolding load
loaded_byte a zero f small lt =
    let e : (a + 0) % 2 ^ 32 ≡ a % 2 ^ 32 = omega arith in
    let b = small (a % 2 ^ 32) in
    let h : f (a % 2 ^ 32) ≡ (f (a % 2 ^ 32) + 256 * (f ((a + 1) % 2 ^ 32) + 256 * (f ((a + 1 + 1) % 2 ^ 32) + 256 * (f ((a + 1 + 1 + 1) % 2 ^ 32) + 256 * 0)))) / 1 % 256 = omega (arith, b) in
    ap f e ∙ h
loaded_byte a (suc zero) f small lt = let b = small (a % 2 ^ 32) in let c = small ((a + 1) % 2 ^ 32) in omega (arith, b, c)
loaded_byte a (suc (suc zero)) f small lt =
    let e : (a + 2) % 2 ^ 32 ≡ (a + 1 + 1) % 2 ^ 32 = omega arith in
    let b = small (a % 2 ^ 32) in
    let c = small ((a + 1) % 2 ^ 32) in
    let d = small ((a + 1 + 1) % 2 ^ 32) in
    let h : f ((a + 1 + 1) % 2 ^ 32) ≡ (f (a % 2 ^ 32) + 256 * (f ((a + 1) % 2 ^ 32) + 256 * (f ((a + 1 + 1) % 2 ^ 32) + 256 * (f ((a + 1 + 1 + 1) % 2 ^ 32) + 256 * 0)))) / 65536 % 256 = omega (arith, b, c, d) in
    ap f e ∙ h
loaded_byte a (suc (suc (suc zero))) f small lt =
    let e : (a + 3) % 2 ^ 32 ≡ (a + 1 + 1 + 1) % 2 ^ 32 = omega arith in
    let b = small (a % 2 ^ 32) in
    let c = small ((a + 1) % 2 ^ 32) in
    let d = small ((a + 1 + 1) % 2 ^ 32) in
    let k = small ((a + 1 + 1 + 1) % 2 ^ 32) in
    let h : f ((a + 1 + 1 + 1) % 2 ^ 32) ≡ (f (a % 2 ^ 32) + 256 * (f ((a + 1) % 2 ^ 32) + 256 * (f ((a + 1 + 1) % 2 ^ 32) + 256 * (f ((a + 1 + 1 + 1) % 2 ^ 32) + 256 * 0)))) / 16777216 % 256 = omega (arith, b, c, d, k) in
    ap f e ∙ h
loaded_byte a (suc (suc (suc (suc i)))) f small lt = absurd (omega arith)

-- the lowest bytes of a word that is loaded
pub load_cut : (size a : ℕ) (f : ℕ → ℕ) → IsWidth size → ((k : ℕ) → f k < 256) → load size a f ≡ cut size (load 4 a f)
load_cut size a f is small = load_bytes size a f (byte_of (load 4 a f)) is small (λ i lt. let few = width_few size is in loaded_byte a i f small (omega (arith, lt, few)))

next_byte : (v i : ℕ) → i < 3 → byte_of (v / 256) i ≡ byte_of v (suc i)
next_byte v zero lt = let e : v / 256 / 1 % 256 ≡ v / 256 % 256 = omega arith in e
next_byte v (suc zero) lt = let e : v / 256 / 256 % 256 ≡ v / 65536 % 256 = omega arith in e
next_byte v (suc (suc zero)) lt = let e : v / 256 / 65536 % 256 ≡ v / 16777216 % 256 = omega arith in e
next_byte v (suc (suc (suc i))) lt = absurd (omega arith)

-- the bytes that are stored
pub stored_byte : (n a v : ℕ) (f : ℕ → ℕ) (i : ℕ) → n ≤ 4 → i < n → store n a v f ((a + i) % 2 ^ 32) ≡ byte_of v i
unfolding store
stored_byte zero a v f i few lt = absurd (omega arith)
stored_byte (suc n) a v f zero few lt =
    let e : (a + 0) % 2 ^ 32 ≡ a % 2 ^ 32 = omega arith in
    let d : v % 256 ≡ v / 1 % 256 = omega arith in
    ap (store (suc n) a v f) e ∙ store_other n (a + 1) (v / 256) (update f (a % 2 ^ 32) (v % 256)) (a % 2 ^ 32) (λ i h q. omega arith) ∙ update_same f (a % 2 ^ 32) (v % 256) ∙ d
stored_byte (suc n) a v f (suc i) few lt =
    let e : (a + suc i) % 2 ^ 32 ≡ (a + 1 + i) % 2 ^ 32 = ap (λ k. k % 2 ^ 32) (omega arith) in
    ap (store (suc n) a v f) e ∙ stored_byte n (a + 1) (v / 256) (update f (a % 2 ^ 32) (v % 256)) i (omega arith) (omega arith) ∙ next_byte v i (omega arith)

kept_byte : (n a v : ℕ) (f : ℕ → ℕ) (i : ℕ) → n ≤ i → i < 4 → store n a v f ((a + i) % 2 ^ 32) ≡ f ((a + i) % 2 ^ 32)
kept_byte n a v f i le lt = store_other n a v f ((a + i) % 2 ^ 32) (λ j h e. omega arith)

-- the lowest byte or two of a number, and the others of another
abbrev low_byte : (ℕ → ℕ) → (ℕ → ℕ) → ℕ → ℕ
low_byte new old zero = new 0
low_byte new old (suc i) = old (suc i)

abbrev low_half : (ℕ → ℕ) → (ℕ → ℕ) → ℕ → ℕ
low_half new old zero = new 0
low_half new old (suc zero) = new 1
low_half new old (suc (suc i)) = old (suc (suc i))

is_split : (i n : ℕ) → (i < n) ⊎ (n ≤ i)
is_split i n = grind arith

module _ (a v : ℕ) (f : ℕ → ℕ) (small : (k : ℕ) → f k < 256) where
  abbrev IsMixed : ℕ → (ℕ → ℕ) → ℕ → Type 0
  IsMixed n g i = (i < n → byte_of v i ≡ g i) × (n ≤ i → byte_of (load 4 a f) i ≡ g i)

  mixed_byte : (i : ℕ) → IsMixed 1 (low_byte (byte_of v) (byte_of (load 4 a f))) i
  mixed_byte zero = (λ l. refl, λ l. absurd (omega arith))
  mixed_byte (suc i) = (λ l. absurd (omega arith), λ l. refl)

  mixed_half : (i : ℕ) → IsMixed 2 (low_half (byte_of v) (byte_of (load 4 a f))) i
  mixed_half zero = (λ l. refl, λ l. absurd (omega arith))
  mixed_half (suc zero) = (λ l. refl, λ l. absurd (omega arith))
  mixed_half (suc (suc i)) = (λ l. absurd (omega arith), λ l. refl)

  mixed : (n : ℕ) (g : ℕ → ℕ) → n ≤ 4 → ((i : ℕ) → IsMixed n g i) → (i : ℕ) → i < 4 → store n a v f ((a + i) % 2 ^ 32) ≡ g i
  mixed n g few each i l = ⊎_elim (λ (h : i < n). stored_byte n a v f i few h ∙ (each i).0 h) (λ (h : n ≤ i). kept_byte n a v f i h l ∙ loaded_byte a i f small l ∙ (each i).1 h) (is_split i n)

  -- a word of which the lowest bytes are stored
  pub load_put : (size : ℕ) → IsWidth size → v < 2 ^ 32 → ((k : ℕ) → store size a v f k < 256) → load 4 a (store size a v f) ≡ with_lowest size v (load 4 a f)
  load_put size is lt = by_width (λ n. ((k : ℕ) → store n a v f k < 256) → load 4 a (store n a v f) ≡ with_lowest n v (load 4 a f)) size is
      (λ s. load_bytes 4 a (store 1 a v f) (low_byte (byte_of v) (byte_of (load 4 a f))) (inr (inr refl)) s (mixed 1 (low_byte (byte_of v) (byte_of (load 4 a f))) (omega arith) mixed_byte))
      (λ s. load_bytes 4 a (store 2 a v f) (low_half (byte_of v) (byte_of (load 4 a f))) (inr (inr refl)) s (mixed 2 (low_half (byte_of v) (byte_of (load 4 a f))) (omega arith) mixed_half))
      (λ s. load_store 4 a v f (omega arith) (let e : v < 4294967296 = lt in e))

with_same : (p n : ℕ) (t : ℕ → ℕ) → with_place p n t p ≡ n
with_same p n t = grind (arith, nat_tests)

pub with_other : (p n : ℕ) (t : ℕ → ℕ) (k : ℕ) → k ≢ p → with_place p n t k ≡ t k
with_other p n t k ne = grind (arith, nat_tests)

pub with_same_at : (p n : ℕ) (t : ℕ → ℕ) (k : ℕ) → k ≡ p → with_place p n t k ≡ n
with_same_at p n t k e = grind (arith, nat_tests)

-- places that the bytes of a number are put at, and those past them
pub put_byte_at : (first size v : ℕ) (t : ℕ → ℕ) (j k : ℕ) → IsWidth size → j < size → k ≡ first + j → with_bytes first size v t k ≡ byte_of v j
put_byte_at first size v t j k is lt e = ap (with_bytes first size v t) e ∙ by_width (λ n. (j : ℕ) → j < n → with_bytes first n v t (first + j) ≡ byte_of v j) size is one two four j lt
  where
    none : (n : ℕ) → n + 0 ≡ n
    none n = omega arith

    one : (j : ℕ) → j < 1 → with_bytes first 1 v t (first + j) ≡ byte_of v j
    one zero l = with_same_at first (byte_of v 0) t (first + 0) (none first)
    one (suc j) l = absurd (omega arith)

    two : (j : ℕ) → j < 2 → with_bytes first 2 v t (first + j) ≡ byte_of v j
    two zero l = with_other (first + 1) (byte_of v 1) (with_place first (byte_of v 0) t) (first + 0) (λ q. omega arith) ∙ with_same_at first (byte_of v 0) t (first + 0) (none first)
    two (suc zero) l = with_same_at (first + 1) (byte_of v 1) (with_place first (byte_of v 0) t) (first + 1) refl
    two (suc (suc j)) l = absurd (omega arith)

    past : (k : ℕ) → k ≢ first + 2 → k ≢ first + 3 → with_bytes first 4 v t k ≡ with_bytes first 2 v t k
    past k p q = with_other (first + 3) (byte_of v 3) (with_place (first + 2) (byte_of v 2) (with_bytes first 2 v t)) k q ∙ with_other (first + 2) (byte_of v 2) (with_bytes first 2 v t) k p

    four : (j : ℕ) → j < 4 → with_bytes first 4 v t (first + j) ≡ byte_of v j
    four zero l = past (first + 0) (λ q. omega arith) (λ q. omega arith) ∙ two 0 (omega arith)
    four (suc zero) l = past (first + 1) (λ q. omega arith) (λ q. omega arith) ∙ two 1 (omega arith)
    four (suc (suc zero)) l =
        with_other (first + 3) (byte_of v 3) (with_place (first + 2) (byte_of v 2) (with_bytes first 2 v t)) (first + 2) (λ q. omega arith) ∙ with_same_at (first + 2) (byte_of v 2) (with_bytes first 2 v t) (first + 2) refl
    four (suc (suc (suc zero))) l = with_same_at (first + 3) (byte_of v 3) (with_place (first + 2) (byte_of v 2) (with_bytes first 2 v t)) (first + 3) refl
    four (suc (suc (suc (suc j)))) l = absurd (omega arith)

pub put_byte_past : (first size v : ℕ) (t : ℕ → ℕ) (k : ℕ) → IsWidth size → ((j : ℕ) → j < size → k ≢ first + j) → with_bytes first size v t k ≡ t k
put_byte_past first size v t k is far = by_width (λ n. ((j : ℕ) → j < n → k ≢ first + j) → with_bytes first n v t k ≡ t k) size is one two four far
  where
    none : (n : ℕ) → n ≡ n + 0
    none n = omega arith

    one : ((j : ℕ) → j < 1 → k ≢ first + j) → with_bytes first 1 v t k ≡ t k
    one far = with_other first (byte_of v 0) t k (λ e. far 0 (omega arith) (e ∙ none first))

    two : ((j : ℕ) → j < 2 → k ≢ first + j) → with_bytes first 2 v t k ≡ t k
    two far = with_other (first + 1) (byte_of v 1) (with_place first (byte_of v 0) t) k (far 1 (omega arith)) ∙ one (λ j l. far j (omega (arith, l)))

    four : ((j : ℕ) → j < 4 → k ≢ first + j) → with_bytes first 4 v t k ≡ t k
    four far =
        with_other (first + 3) (byte_of v 3) (with_place (first + 2) (byte_of v 2) (with_bytes first 2 v t)) k (far 3 (omega arith)) ∙ with_other (first + 2) (byte_of v 2) (with_bytes first 2 v t) k (far 2 (omega arith))
        ∙ two (λ j l. far j (omega (arith, l)))

-- what is stored with the lowest byte first is stored with the highest first where its bytes are turned
pub store_turned : (size a n : ℕ) (f : ℕ → ℕ) (x : ℕ) → IsWidth size → store size a n f x ≡ store_big size a (turned size n) f x
unfolding store store_big
store_turned size a n f x is = by_width (λ s. store s a n f x ≡ store_big s a (turned s n) f x) size is
    (let e : n % 256 ≡ turned 1 n / 1 % 256 = omega arith in ap (λ b. update f (a % 2 ^ 32) b x) e)
    (let e : n % 256 ≡ turned 2 n / 256 % 256 = omega arith in
    let d : n / 256 % 256 ≡ turned 2 n / 1 % 256 = omega arith in
    ap (λ b. update (update f (a % 2 ^ 32) b) ((a + 1) % 2 ^ 32) (n / 256 % 256) x) e ∙ ap (λ b. update (update f (a % 2 ^ 32) (turned 2 n / 256 % 256)) ((a + 1) % 2 ^ 32) b x) d)
    (let e : n % 256 ≡ turned 4 n / 16777216 % 256 = omega arith in
    let d : n / 256 % 256 ≡ turned 4 n / 65536 % 256 = omega arith in
    let c : n / 256 / 256 % 256 ≡ turned 4 n / 256 % 256 = omega arith in
    let b : n / 256 / 256 / 256 % 256 ≡ turned 4 n / 1 % 256 = omega arith in
    ap (λ k. update (update (update (update f (a % 2 ^ 32) k) ((a + 1) % 2 ^ 32) (n / 256 % 256)) ((a + 1 + 1) % 2 ^ 32) (n / 256 / 256 % 256)) ((a + 1 + 1 + 1) % 2 ^ 32) (n / 256 / 256 / 256 % 256) x) e
    ∙ ap (λ k. update (update (update (update f (a % 2 ^ 32) (turned 4 n / 16777216 % 256)) ((a + 1) % 2 ^ 32) k) ((a + 1 + 1) % 2 ^ 32) (n / 256 / 256 % 256)) ((a + 1 + 1 + 1) % 2 ^ 32) (n / 256 / 256 / 256 % 256) x) d
    ∙ ap (λ k. update (update (update (update f (a % 2 ^ 32) (turned 4 n / 16777216 % 256)) ((a + 1) % 2 ^ 32) (turned 4 n / 65536 % 256)) ((a + 1 + 1) % 2 ^ 32) k) ((a + 1 + 1 + 1) % 2 ^ 32) (n / 256 / 256 / 256 % 256) x) c
    ∙ ap (λ k. update (update (update (update f (a % 2 ^ 32) (turned 4 n / 16777216 % 256)) ((a + 1) % 2 ^ 32) (turned 4 n / 65536 % 256)) ((a + 1 + 1) % 2 ^ 32) (turned 4 n / 256 % 256)) ((a + 1 + 1 + 1) % 2 ^ 32) k x) b)

-- the addresses of an access
pub span_has : (n a i : ℕ) → i < n → Contains (span n a) ((a + i) % 2 ^ 32)
span_has zero a i lt = absurd (omega (arith, lt))
span_has (suc n) a zero lt = let e : a % 2 ^ 32 ≡ (a + 0) % 2 ^ 32 = omega arith in subst (λ (k : ℕ). Contains (span (suc n) a) k) e (first_in (a % 2 ^ 32) (span n (a + 1)))
span_has (suc n) a (suc i) lt =
    let e : (a + 1 + i) % 2 ^ 32 ≡ (a + suc i) % 2 ^ 32 = ap (λ k. k % 2 ^ 32) (omega arith) in
    subst (λ (k : ℕ). Contains (span (suc n) a) k) e (later_in (a % 2 ^ 32) ((a + 1 + i) % 2 ^ 32) (span n (a + 1)) (span_has n (a + 1) i (omega (arith, lt))))

pub each_in_span : (test : ℕ → Bool) (n a : ℕ) → ((k : ℕ) → Contains (span n a) k → test k ≡ true) → each_byte test n a ≡ true
each_in_span test n a h = each_of test n a (λ i lt. h ((a + i) % 2 ^ 32) (span_has n a i lt))
