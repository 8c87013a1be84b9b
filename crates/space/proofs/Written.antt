-- A byte is put into the one segment that has its address.
use Rattle.std.proofs.Common.{◌≡◌, ◌≢◌, inl, inr, ℕ, ◌-◌, ◌<◌, Bool, true, false, cond, Some, List, length, get_or, set, map, refl, sym, ◌∙◌, ap, subst, arith, length-set, get_or-set_same, get_or-set_other}
use Rattle.std.specs.Prelude.{position, slice_set}
use Rattle.std.proofs.lemmas.List.{same_lists, length-map, get_or-map, get_or_read}
use Rattle.std.proofs.lemmas.Bool.{cases_eq, cases_lt, false_from_ne_true}
use Rattle.space.specs.declared.program.Segment.{Segment}
use Rattle.space.specs.Memory.{Memory, AreApart, has_address, permits, put_byte, with_byte}
use Rattle.space.proofs.Lookup.{found_within, found_passes, has_of_permits}

-- a segment has the same addresses as before
pub same_addresses : (a b x : ℕ) (s : Segment) → has_address x (put_byte a b s) ≡ has_address x s
same_addresses a b x s = at (has_address a s)
  where
    at : (c : Bool) → has_address x (cond c (record s { bytes = slice_set s.bytes (a - s.at) b }) s) ≡ has_address x s
    at true = rw (length-set s.bytes (a - s.at) b) refl
    at false = refl

pub others_lack : (segments : List Segment) (a i k : ℕ) (d : Segment) → AreApart segments → i < length segments → k < length segments
    → k ≢ i → has_address a (get_or segments i d) ≡ true → has_address a (get_or segments k d) ≡ false
others_lack segments a i k d apart i_in k_in ne has =
    elim (cases_lt k i) as (λ _. has_address a (get_or segments k d) ≡ false) [
      | inl below ↦ false_from_ne_true _ (λ both. apart k i d below i_in a both has)
      | inr above ↦ false_from_ne_true _ (λ both. apart i k d (omega arith) k_in a has both)
    ]

pub unchanged : (a b : ℕ) (s : Segment) → has_address a s ≡ false → put_byte a b s ≡ s
unchanged a b s e = rw e refl

-- the segment that has the address takes the byte, and the others stay
pub set_puts : (segments : List Segment) (a b i : ℕ) (s : Segment) → AreApart segments → Some i ≡ position (permits true a) segments
    → s ≡ get_or segments i s → set segments i (put_byte a b s) ≡ map (put_byte a b) segments
set_puts segments a b i s apart some at =
    let i_in : i < length segments = found_within (permits true a) segments i s some in
    let has : has_address a s ≡ true = has_of_permits true a s (found_passes (permits true a) segments i s some at) in
    same_lists (set segments i (put_byte a b s)) (map (put_byte a b) segments)
    (length-set segments i (put_byte a b s) ∙ sym (length-map segments (put_byte a b)))
    (λ k d within.
    let k_in : k < length segments = omega (arith, length-set segments i (put_byte a b s)) in
    let mapped : get_or (map (put_byte a b) segments) k d ≡ put_byte a b (get_or segments k d) = get_or-map (put_byte a b) segments k d d k_in in
    elim (cases_eq k i) as (λ _. get_or (set segments i (put_byte a b s)) k d ≡ get_or (map (put_byte a b) segments) k d) [
      | inl same ↦
          let there : s ≡ get_or segments i d = get_or_read segments i s i_in at d in
          let e : get_or segments k d ≡ s = ap (λ j. get_or segments j d) same ∙ sym there in
          ap (λ j. get_or (set segments i (put_byte a b s)) j d) same ∙ get_or-set_same segments i (put_byte a b s) d i_in
          ∙ sym (ap (put_byte a b) e) ∙ sym mapped
      | inr other ↦
          let there : s ≡ get_or segments i d = get_or_read segments i s i_in at d in
          let has_there : has_address a (get_or segments i d) ≡ true = sym (ap (has_address a) there) ∙ has in
          get_or-set_other segments i k (put_byte a b s) d other
          ∙ sym (unchanged a b (get_or segments k d) (others_lack segments a i k d apart i_in k_in other has_there)) ∙ sym mapped
    ])

-- no two segments share an address after it
pub still_apart : (segments : List Segment) (a b : ℕ) → AreApart segments → AreApart (map (put_byte a b) segments)
still_apart segments a b apart i j d below within x first second =
    let j_in : j < length segments = omega (arith, length-map segments (put_byte a b)) in
    let i_in : i < length segments = omega arith in
    let at : (k : ℕ) → k < length segments → has_address x (get_or segments k d) ≡ has_address x (get_or (map (put_byte a b) segments) k d) =
    λ k k_in. sym (ap (has_address x) (get_or-map (put_byte a b) segments k d d k_in) ∙ same_addresses a b x (get_or segments k d)) in
    apart i j d below j_in x (at i i_in ∙ first) (at j j_in ∙ second)

pub set_keeps_apart : (segments : List Segment) (a b i : ℕ) (s new : Segment) → AreApart segments → Some i ≡ position (permits true a) segments
    → s ≡ get_or segments i s → new ≡ put_byte a b s → AreApart (set segments i new)
set_keeps_apart segments a b i s new apart some at e =
    subst AreApart (sym (ap (set segments i) e ∙ set_puts segments a b i s apart some at)) (still_apart segments a b apart)

pub put_is_with_byte : (m : Memory) (a b i : ℕ) (s new : Segment) → AreApart m.segments → Some i ≡ position (permits true a) m.segments
    → s ≡ get_or m.segments i s → new ≡ put_byte a b s → record m { segments = set m.segments i new } ≡ with_byte m a b
put_is_with_byte m a b i s new apart some at e =
    ap (λ (ss : List Segment). record m { segments = ss }) (ap (set m.segments i) e ∙ set_puts m.segments a b i s apart some at)
