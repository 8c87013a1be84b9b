-- Lists of segments: which addresses they have, and which bytes stand there.
use Rattle.std.proofs.Common.{◌≡◌, ℕ, ◌+◌, ◌-◌, ◌<◌, ◌≤◌, Bool, true, false, cond, ◌&&◌, ◌||◌, leb, ltb, List, [], ◌∷◌, ◌++◌, length, map, get_or, refl, ap, arith}
use Rattle.std.specs.List.{All}
use Rattle.std.proofs.lemmas.List.Elements.{All-head, All-tail, All-get_or}
use Rattle.machines.specs.Prelude.{Segment, is_within, is_held, is_writable, first_bytes}
use Rattle.elf_load.specs.Prelude.{MeetsArea}
use Rattle.machines.proofs.Tests.{both, first_of_both, second_of_both, below, is_below, upto, is_upto}
use Rattle.upkeep.specs.Loaded.{AreBytes, HaveBytes}
use Rattle.elf_emit.specs.Prelude.{as_data}

pub within : (at count a : ℕ) → at ≤ a → a < at + count → is_within at count a ≡ true
within at count a low high = both (leb at a) (ltb a (at + count)) (is_upto at a low) (is_below a (at + count) high)

pub from_within : (at count a : ℕ) → is_within at count a ≡ true → (at ≤ a) × (a < at + count)
from_within at count a h = (upto at a (first_of_both (leb at a) (ltb a (at + count)) h), below a (at + count) (second_of_both (leb at a) (ltb a (at + count)) h))

pub not_true : (b : Bool) → (b ≡ true → ⊥) → b ≡ false
not_true true h = absurd (h refl)
not_true false h = refl

or_more : (b x y : Bool) → (b || x) ≡ true → (x ≡ true → y ≡ true) → (b || y) ≡ true
or_more true x y h f = refl
or_more false x y h f = f h

or_less : (b x y z : Bool) → (b || x) ≡ false → (x ≡ false → y ≡ z) → (b || y) ≡ z
or_less true x y z h f = cc
or_less false x y z h f = f h

write_less : (w b x y z : Bool) → (b || x) ≡ false → (x ≡ false → y ≡ z) → ((w && b) || y) ≡ z
write_less true true x y z h f = cc
write_less false true x y z h f = cc
write_less true false x y z h f = f h
write_less false false x y z h f = f h

byte_more : (b x : Bool) (m n k : ℕ) → (b || x) ≡ true → (x ≡ true → n ≡ k) → cond b m n ≡ cond b m k
byte_more true x m n k h f = refl
byte_more false x m n k h f = f h

byte_less : (b x : Bool) (m n k : ℕ) → (b || x) ≡ false → (x ≡ false → n ≡ k) → cond b m n ≡ k
byte_less true x m n k h f = cc
byte_less false x m n k h f = f h

-- An address of the first segments is that of the whole; elsewhere those behind decide.
module _ (ys : List Segment) (a : ℕ) where
  pub held_in_front : (xs : List Segment) → is_held xs a ≡ true → is_held (map as_data xs ++ ys) a ≡ true
  unfolding is_held
  held_in_front [] h = cc
  held_in_front (s ∷ ss) h = or_more (is_within s.at (length s.bytes) a) (is_held ss a) (is_held (map as_data ss ++ ys) a) h (held_in_front ss)

  pub held_behind : (xs : List Segment) → is_held xs a ≡ false → is_held (map as_data xs ++ ys) a ≡ is_held ys a
  unfolding is_held
  held_behind [] h = refl
  held_behind (s ∷ ss) h = or_less (is_within s.at (length s.bytes) a) (is_held ss a) (is_held (map as_data ss ++ ys) a) (is_held ys a) h (held_behind ss)

  pub writable_in_front : (xs : List Segment) → is_writable ys a ≡ false → is_writable (map as_data xs ++ ys) a ≡ is_writable xs a
  unfolding is_writable
  writable_in_front [] off = off
  writable_in_front (s ∷ ss) off = ap (λ b. (s.write && is_within s.at (length s.bytes) a) || b) (writable_in_front ss off)

  pub writable_behind : (xs : List Segment) → is_held xs a ≡ false → is_writable (map as_data xs ++ ys) a ≡ is_writable ys a
  unfolding is_held is_writable
  writable_behind [] h = refl
  writable_behind (s ∷ ss) h = write_less s.write (is_within s.at (length s.bytes) a) (is_held ss a) (is_writable (map as_data ss ++ ys) a) (is_writable ys a) h (writable_behind ss)

  pub byte_in_front : (xs : List Segment) → is_held xs a ≡ true → first_bytes (map as_data xs ++ ys) a ≡ first_bytes xs a
  unfolding is_held first_bytes
  byte_in_front [] h = cc
  byte_in_front (s ∷ ss) h = byte_more (is_within s.at (length s.bytes) a) (is_held ss a) (get_or s.bytes (a - s.at) 0) (first_bytes (map as_data ss ++ ys) a) (first_bytes ss a) h (byte_in_front ss)

  pub byte_behind : (xs : List Segment) → is_held xs a ≡ false → first_bytes (map as_data xs ++ ys) a ≡ first_bytes ys a
  unfolding is_held first_bytes
  byte_behind [] h = refl
  byte_behind (s ∷ ss) h = byte_less (is_within s.at (length s.bytes) a) (is_held ss a) (get_or s.bytes (a - s.at) 0) (first_bytes (map as_data ss ++ ys) a) (first_bytes ys a) h (byte_behind ss)

-- no segment has an address in a free area
pub free_of : (area a : ℕ) → area ≤ a → a < area + 0x0A000000 → (ss : List Segment) → All (λ s. ¬ MeetsArea s area) ss → is_held ss a ≡ false
unfolding is_held
free_of area a low high [] free = refl
free_of area a low high (s ∷ ss) free = by_test (is_within s.at (length s.bytes) a) refl (free_of area a low high ss (All-tail (λ s. ¬ MeetsArea s area) s ss free))
  where
    by_test : (b : Bool) → is_within s.at (length s.bytes) a ≡ b → is_held ss a ≡ false → (b || is_held ss a) ≡ false
    by_test true e rest = let inside = from_within s.at (length s.bytes) a e in absurd (All-head (λ s. ¬ MeetsArea s area) s ss free (a, inside.0, inside.1, low, high))
    by_test false e rest = rest

-- memory has bytes
pub first_byte : (a : ℕ) (ss : List Segment) → HaveBytes ss → first_bytes ss a < 256
unfolding first_bytes
first_byte a [] are = omega arith
first_byte a (s ∷ ss) are = by_test (is_within s.at (length s.bytes) a) refl (first_byte a ss (All-tail (λ s. AreBytes s.bytes) s ss are))
  where
    by_test : (b : Bool) → is_within s.at (length s.bytes) a ≡ b → first_bytes ss a < 256 → cond b (get_or s.bytes (a - s.at) 0) (first_bytes ss a) < 256
    by_test true e rest =
        let inside = from_within s.at (length s.bytes) a e in
        let low = inside.0 in
        let high = inside.1 in
        All-get_or (λ b. b < 256) s.bytes (a - s.at) 0 (omega arith) (All-head (λ s. AreBytes s.bytes) s ss are)
    by_test false e rest = rest
