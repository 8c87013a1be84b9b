-- The segment of an address.
use Rattle.std.proofs.Common.{◌≡◌, ℕ, ◌+◌, ◌-◌, ◌<◌, ◌≤◌, Bool, true, false, cond, nat_lt, Some, None, List, [], ◌∷◌, length, get_or, refl, sym, ◌∙◌, ap, arith}
use Rattle.std.specs.Prelude.{option_and_then, find, position, slice_get}
use Rattle.std.specs.List.{list_any, position_or_len}
use Rattle.std.proofs.lemmas.Option.{slice_get_past, slice_get_read, slice_get-get_or}
use Rattle.std.proofs.lemmas.List.Folds.{find_at, list_any_at}
use Rattle.std.proofs.lemmas.List.Quantifiers.{position-Some}
use borrow.Author.Tests.{ltb-false}
use Rattle.space.specs.declared.program.Segment.{Segment}
use Rattle.space.specs.Memory.{Memory, has_address, permits, byte_at}

not_chosen : (b : Bool) (i : ℕ) → None ≡ cond b (Some i) None → b ≡ false
not_chosen true i e = cc
not_chosen false i e = refl

chosen : (b : Bool) (i j : ℕ) → Some i ≡ cond b (Some j) None → i ≡ j
chosen true i j e = cc
chosen false i j e = cc

module _ {X : Type 0} (p : X → Bool) (xs : List X) where
  past : None ≡ position p xs → length xs ≤ position_or_len p xs
  past none = ltb-false (position_or_len p xs) (length xs) (not_chosen (nat_lt (position_or_len p xs) (length xs)) (position_or_len p xs) none)

  pub find_none : None ≡ position p xs → find p xs ≡ None
  find_none none = find_at p xs ∙ slice_get_past xs (position_or_len p xs) (past none)

  pub found_within : (i : ℕ) (x : X) → Some i ≡ position p xs → i < length xs
  found_within i x some = (position-Some p xs i x (sym some)).0

  pub found_passes : (i : ℕ) (x : X) → Some i ≡ position p xs → x ≡ get_or xs i x → p x ≡ true
  found_passes i x some at = ap p at ∙ (position-Some p xs i x (sym some)).1

  pub find_some : (i : ℕ) (x : X) → Some i ≡ position p xs → x ≡ get_or xs i x → find p xs ≡ Some x
  find_some i x some at =
      let same : i ≡ position_or_len p xs = chosen (nat_lt (position_or_len p xs) (length xs)) i (position_or_len p xs) some in
      find_at p xs ∙ ap (slice_get xs) (sym same) ∙ slice_get_read xs (length xs) i x refl (found_within i x some) at

  pub any_some : (i : ℕ) (x : X) → Some i ≡ position p xs → list_any p xs ≡ true
  any_some i x some =
      let e = position-Some p xs i x (sym some) in
      list_any_at p xs i x e.0 e.1

any_of_find : {X : Type 0} (p : X → Bool) (xs : List X) → find p xs ≡ None → list_any p xs ≡ false
any_of_find p [] none = refl
any_of_find p (x ∷ xs) none = at (p x) (any_of_find p xs) refl none
  where
    at : (b : Bool) → (find p xs ≡ None → list_any p xs ≡ false) → p x ≡ b → cond b (Some x) (find p xs) ≡ None → list_any p (x ∷ xs) ≡ false
    at true rest e none = cc
    at false rest e none = rw e (rest none)

pub any_none : {X : Type 0} (p : X → Bool) (xs : List X) → None ≡ position p xs → list_any p xs ≡ false
any_none p xs none = any_of_find p xs (find_none p xs none)

pub no_byte : (m : Memory) (a : ℕ) → None ≡ position (permits false a) m.segments → None ≡ byte_at m a
no_byte m a none = rw (find_none (has_address a) m.segments none) refl

pub byte_found : (m : Memory) (a i : ℕ) (s : Segment) → Some i ≡ position (permits false a) m.segments → s ≡ get_or m.segments i s
    → slice_get s.bytes (a - s.at) ≡ byte_at m a
byte_found m a i s some at = rw (find_some (has_address a) m.segments i s some at) refl

within_segment : (a : ℕ) (s : Segment) → has_address a s ≡ true → slice_get s.bytes (a - s.at) ≡ None → ⊥
within_segment a s has none =
    let inside : a - s.at < length s.bytes = grind arith in
    let some = slice_get-get_or s.bytes (a - s.at) 0 inside in
    cc

-- an address that lies in a segment has a byte
pub byte_of_permitted : (segments : List Segment) (code a : ℕ) → list_any (has_address a) segments ≡ true
    → None ≡ byte_at (record { segments = segments; code = code }) a → ⊥
byte_of_permitted [] code a given none = cc
byte_of_permitted (s ∷ ss) code a given none = at (has_address a s) (byte_of_permitted ss code a) refl given none
  where
    at : (b : Bool) → (list_any (has_address a) ss ≡ true → None ≡ byte_at (record { segments = ss; code = code }) a → ⊥)
        → has_address a s ≡ b → list_any (has_address a) (s ∷ ss) ≡ true
        → None ≡ option_and_then (λ (t : Segment). slice_get t.bytes (a - t.at)) (cond b (Some s) (find (has_address a) ss)) → ⊥
    at true rest e given none = within_segment a s e (sym none)
    at false rest e given none =
        let below : list_any (has_address a) ss ≡ true = rw e at given in
        rest below none

permits_on : (writable : Bool) (a k : ℕ) (s : Segment) → permits writable a s ≡ true → a + k < s.at + length s.bytes → permits writable (a + k) s ≡ true
permits_on true a k s e below = grind arith
permits_on false a k s e below = grind arith

pub has_of_permits : (writable : Bool) (a : ℕ) (s : Segment) → permits writable a s ≡ true → has_address a s ≡ true
has_of_permits true a s e = grind arith
has_of_permits false a s e = e

-- a segment permits the addresses up to its end
pub run_is_permitted : (segments : List Segment) (writable : Bool) (a i n : ℕ) (s : Segment) → Some i ≡ position (permits writable a) segments
    → s ≡ get_or segments i s → a + n ≤ s.at + length s.bytes → (k : ℕ) → k < n → list_any (permits writable (a + k)) segments ≡ true
run_is_permitted segments writable a i n s some at end k below =
    list_any_at (permits writable (a + k)) segments i s (found_within (permits writable a) segments i s some)
    (ap (permits writable (a + k)) (sym at)
    ∙ permits_on writable a k s (found_passes (permits writable a) segments i s some at) (omega arith))
