-- The bytes that move: as a run's accesses have them, and as the machine does. This project's own.
use Rattle.std.proofs.Common.{◌≡◌, ℕ, zero, suc, ◌+◌, ◌/◌, ◌%◌, ◌^◌, ◌<◌, inl, inr, Bool, true, false, ◌&&◌, List, [], ◌∷◌, ◌++◌, Contains, refl, sym, ap, ◌∙◌, subst, arith}
use Rattle.machines.specs.Prelude.{update, load_big, store_big, each_byte}
use Rattle.symbolic_tiles.specs.Prelude.{span}
use Rattle.row_laws.proofs.Lists.{first_in, later_in}
use Rattle.row_runs.specs.Accesses.{Accessed, big_number, cut}
use Rattle.place_circuits.specs.Sources.{IsWidth}
use Rattle.rule_places.specs.Accesses.{seen, behind_access, behind_accesses}

-- so many bytes from an address on are bytes
abbrev pub AreBytes : ℕ → ℕ → (ℕ → ℕ) → Type 0
AreBytes n a f = (i : ℕ) → i < n → f ((a + i) % 2 ^ 32) < 256

at_start : (a : ℕ) (f : ℕ → ℕ) → f ((a + 0) % 2 ^ 32) ≡ f (a % 2 ^ 32)
at_start a f = ap (λ x. f (x % 2 ^ 32)) (omega arith)

at_second : (a : ℕ) (f : ℕ → ℕ) → f ((a + 2) % 2 ^ 32) ≡ f ((a + 1 + 1) % 2 ^ 32)
at_second a f = ap (λ x. f (x % 2 ^ 32)) (omega arith)

at_third : (a : ℕ) (f : ℕ → ℕ) → f ((a + 3) % 2 ^ 32) ≡ f ((a + 1 + 1 + 1) % 2 ^ 32)
at_third a f = ap (λ x. f (x % 2 ^ 32)) (omega arith)

-- what a memory answers to a load is what the machine loads
pub big_seen : (n a : ℕ) (f : ℕ → ℕ) → IsWidth n → AreBytes n a f → big_number n (seen n f a) ≡ load_big n a f
unfolding load_big
big_seen n a f (inl e) small = subst (λ k. AreBytes k a f → big_number k (seen k f a) ≡ load_big k a f) (sym e) (λ h. let p = at_start a f in let b = h 0 (omega arith) in omega (arith, p, b)) small
big_seen n a f (inr (inl e)) small =
    subst (λ k. AreBytes k a f → big_number k (seen k f a) ≡ load_big k a f) (sym e) (λ h. let p = at_start a f in let b = h 0 (omega arith) in let c = h 1 (omega arith) in omega (arith, p, b, c)) small
big_seen n a f (inr (inr e)) small =
    subst (λ k. AreBytes k a f → big_number k (seen k f a) ≡ load_big k a f) (sym e)
    (λ h. let p = at_start a f in let q = at_second a f in let r = at_third a f in let b = h 0 (omega arith) in let c = h 1 (omega arith) in let d = h 2 (omega arith) in let k = h 3 (omega arith) in omega (arith, p, q, r, b, c, d, k)) small

-- a store stores the lowest bytes of a number
pub stored_cut : (n a v : ℕ) (f : ℕ → ℕ) → IsWidth n → store_big n a (cut n v) f ≡ store_big n a v f
unfolding store_big
stored_cut n a v f (inl e) = subst (λ k. store_big k a (cut k v) f ≡ store_big k a v f) (sym e) (ap (λ x. update f (a % 2 ^ 32) x) (omega arith))
stored_cut n a v f (inr (inl e)) =
    subst (λ k. store_big k a (cut k v) f ≡ store_big k a v f) (sym e)
    (ap (λ x. update (update f (a % 2 ^ 32) x) ((a + 1) % 2 ^ 32) (cut 2 v / 256 ^ 0 % 256)) (omega arith) ∙ ap (λ x. update (update f (a % 2 ^ 32) (v / 256 ^ 1 % 256)) ((a + 1) % 2 ^ 32) x) (omega arith))
stored_cut n a v f (inr (inr e)) =
    subst (λ k. store_big k a (cut k v) f ≡ store_big k a v f) (sym e)
    (four (cut 4 v / 256 ^ 3 % 256) (v / 256 ^ 3 % 256) (cut 4 v / 256 ^ 2 % 256) (v / 256 ^ 2 % 256) (cut 4 v / 256 ^ 1 % 256) (v / 256 ^ 1 % 256) (cut 4 v / 256 ^ 0 % 256) (v / 256 ^ 0 % 256) (omega arith) (omega arith) (omega arith) (omega arith))
  where
    put : ℕ → ℕ → ℕ → ℕ → ℕ → ℕ
    put b c d k = update (update (update (update f (a % 2 ^ 32) b) ((a + 1) % 2 ^ 32) c) ((a + 1 + 1) % 2 ^ 32) d) ((a + 1 + 1 + 1) % 2 ^ 32) k

    four : (b b' c c' d d' k k' : ℕ) → b ≡ b' → c ≡ c' → d ≡ d' → k ≡ k' → put b c d k ≡ put b' c' d' k'
    four b b' c c' d d' k k' p q r s = ap (λ x. put x c d k) p ∙ ap (λ x. put b' x d k) q ∙ ap (λ x. put b' c' x k) r ∙ ap (put b' c' d') s

-- each byte passes a test that the addresses pass
pub each_of : (test : ℕ → Bool) (n a : ℕ) → ((x : ℕ) → Contains (span n a) x → test x ≡ true) → each_byte test n a ≡ true
unfolding each_byte
each_of test zero a h = refl
each_of test (suc n) a h = both (test (a % 2 ^ 32)) (each_byte test n (a + 1)) (h (a % 2 ^ 32) (first_in (a % 2 ^ 32) (span n (a + 1)))) (each_of test n (a + 1) (λ x c. h x (later_in (a % 2 ^ 32) x (span n (a + 1)) c)))
  where
    both : (p q : Bool) → p ≡ true → q ≡ true → (p && q) ≡ true
    both true true e d = refl
    both true false e d = absurd cc
    both false q e d = absurd cc

-- accesses after others
pub behind_more : (xs ys : List Accessed) (f : ℕ → ℕ) → behind_accesses (xs ++ ys) f ≡ behind_accesses ys (behind_accesses xs f)
unfolding behind_accesses
behind_more [] ys f = refl
behind_more (x ∷ xs) ys f = behind_more xs ys (behind_access x f)
