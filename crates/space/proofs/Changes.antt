-- What a byte that is put changes, and what it leaves.
use Rattle.std.proofs.Common.{◌≡◌, ◌≢◌, ℕ, zero, suc, ◌-◌, ◌<◌, Bool, true, false, cond, Option, Some, List, [], ◌∷◌, length, get_or, set, map, refl, sym, ◌∙◌, ap, arith}
use Rattle.std.specs.Prelude.{option_and_then, option_map, find, slice_get, slice_set, ◌||◌}
use Rattle.std.specs.List.{list_any}
use Rattle.std.proofs.lemmas.Option.{slice_get-map, slice_get_within, get_or_from_slice_get}
use Rattle.std.proofs.lemmas.List.Folds.{Any-from_list_any}
use Rattle.space.specs.declared.program.Segment.{Segment}
use Rattle.space.specs.Memory.{AreApart, has_address, permits, put_byte}
use Rattle.space.proofs.Lookup.{has_of_permits}
use Rattle.space.proofs.Written.{same_addresses, others_lack, unchanged}

-- the byte of an address, in these segments
abbrev pub byte_in : List Segment → ℕ → Option ℕ
byte_in segments x = option_and_then (λ (s : Segment). slice_get s.bytes (x - s.at)) (find (has_address x) segments)

set_there : (xs : List ℕ) (i b : ℕ) → i < length xs → slice_get (set xs i b) i ≡ Some b
set_there [] i b below = absurd (omega arith)
set_there (x ∷ xs) zero b below = refl
set_there (x ∷ xs) (suc i) b below = set_there xs i b (omega arith)

set_elsewhere : (xs : List ℕ) (i j b : ℕ) → j ≢ i → slice_get (set xs i b) j ≡ slice_get xs j
set_elsewhere [] i j b ne = refl
set_elsewhere (x ∷ xs) zero zero b ne = absurd (ne refl)
set_elsewhere (x ∷ xs) zero (suc j) b ne = refl
set_elsewhere (x ∷ xs) (suc i) zero b ne = refl
set_elsewhere (x ∷ xs) (suc i) (suc j) b ne = set_elsewhere xs i j b (λ e. ne (ap suc e))

puts : (a b : ℕ) (s : Segment) → has_address a s ≡ true → put_byte a b s ≡ record s { bytes = slice_set s.bytes (a - s.at) b }
puts a b s e = rw e refl

offset_within : (a : ℕ) (s : Segment) → has_address a s ≡ true → a - s.at < length s.bytes
offset_within a s e = grind arith

offsets_differ : (a x : ℕ) (s : Segment) → has_address a s ≡ true → has_address x s ≡ true → x ≢ a → x - s.at ≢ a - s.at
offsets_differ a x s first second ne e = ne (grind arith)

there : (a b : ℕ) (s : Segment) → has_address a s ≡ true → slice_get (put_byte a b s).bytes (a - (put_byte a b s).at) ≡ Some b
there a b s e =
    rw (puts a b s e) (set_there s.bytes (a - s.at) b (offset_within a s e))

elsewhere : (a b x : ℕ) (s : Segment) → x ≢ a → has_address x s ≡ true
    → slice_get (put_byte a b s).bytes (x - (put_byte a b s).at) ≡ slice_get s.bytes (x - s.at)
elsewhere a b x s ne in_s = at (has_address a s) refl
  where
    at : (c : Bool) → has_address a s ≡ c → slice_get (put_byte a b s).bytes (x - (put_byte a b s).at) ≡ slice_get s.bytes (x - s.at)
    at true e = rw (puts a b s e) (set_elsewhere s.bytes (a - s.at) (x - s.at) b (offsets_differ a x s e in_s ne))
    at false e = rw (unchanged a b s e) refl

pub byte_stands : (segments : List Segment) (a b : ℕ) → list_any (has_address a) segments ≡ true
    → byte_in (map (put_byte a b) segments) a ≡ Some b
byte_stands [] a b given = cc
byte_stands (s ∷ ss) a b given = at (has_address a s) (byte_stands ss a b) refl given
  where
    at : (c : Bool) → (list_any (has_address a) ss ≡ true → byte_in (map (put_byte a b) ss) a ≡ Some b)
        → has_address a s ≡ c → list_any (has_address a) (s ∷ ss) ≡ true → byte_in (put_byte a b s ∷ map (put_byte a b) ss) a ≡ Some b
    at true rest e given =
        let same : has_address a (put_byte a b s) ≡ true = same_addresses a b a s ∙ e in
        rw same (there a b s e)
    at false rest e given =
        let same : has_address a (put_byte a b s) ≡ false = same_addresses a b a s ∙ e in
        let below : list_any (has_address a) ss ≡ true = rw e at given in
        rw same (rest below)

pub bytes_stay : (segments : List Segment) (a b x : ℕ) → x ≢ a → byte_in (map (put_byte a b) segments) x ≡ byte_in segments x
bytes_stay [] a b x ne = refl
bytes_stay (s ∷ ss) a b x ne = at (has_address x s) (bytes_stay ss a b x ne) refl
  where
    at : (c : Bool) → byte_in (map (put_byte a b) ss) x ≡ byte_in ss x → has_address x s ≡ c
        → byte_in (put_byte a b s ∷ map (put_byte a b) ss) x ≡ byte_in (s ∷ ss) x
    at true rest e =
        let same : has_address x (put_byte a b s) ≡ true = same_addresses a b x s ∙ e in
        rw (same, e) (elsewhere a b x s ne e)
    at false rest e =
        let same : has_address x (put_byte a b s) ≡ false = same_addresses a b x s ∙ e in
        rw (same, e) rest

same_write : (a b : ℕ) (s : Segment) → (put_byte a b s).write ≡ s.write
same_write a b s = at (has_address a s)
  where
    at : (c : Bool) → (cond c (record s { bytes = slice_set s.bytes (a - s.at) b }) s).write ≡ s.write
    at true = refl
    at false = refl

same_permits : (a b : ℕ) (writable : Bool) (x : ℕ) (s : Segment) → permits writable x (put_byte a b s) ≡ permits writable x s
same_permits a b true x s = rw (same_write a b s, same_addresses a b x s) refl
same_permits a b false x s = same_addresses a b x s

pub same_rights : (segments : List Segment) (a b : ℕ) (writable : Bool) (x : ℕ)
    → list_any (permits writable x) (map (put_byte a b) segments) ≡ list_any (permits writable x) segments
same_rights [] a b writable x = refl
same_rights (s ∷ ss) a b writable x =
    ap (λ (c : Bool). c || list_any (permits writable x) (map (put_byte a b) ss)) (same_permits a b writable x s)
    ∙ ap (λ (c : Bool). permits writable x s || c) (same_rights ss a b writable x)

write_of_permits : (a : ℕ) (s : Segment) → permits true a s ≡ true → s.write ≡ true
write_of_permits a s e = grind arith

pub code_is_kept : (segments : List Segment) (code a b : ℕ) (s : Segment) → AreApart segments → slice_get segments code ≡ Some s
    → s.write ≡ false → list_any (permits true a) segments ≡ true → slice_get (map (put_byte a b) segments) code ≡ Some s
code_is_kept segments code a b s apart here closed given =
    let some = Any-from_list_any (permits true a) segments given in
    let code_in : code < length segments = slice_get_within segments code s here in
    let there : get_or segments code some.1 ≡ s = get_or_from_slice_get segments code s some.1 here in
    let writes : some.1.write ≡ true = write_of_permits a some.1 some.4 in
    let ne : code ≢ some.0 = λ e. let same : s ≡ some.1 = sym there ∙ ap (λ k. get_or segments k some.1) e ∙ some.3 in
    let w : s.write ≡ some.1.write = ap (λ (t : Segment). t.write) same in cc in
    let has : has_address a (get_or segments some.0 some.1) ≡ true = ap (has_address a) some.3 ∙ has_of_permits true a some.1 some.4 in
    let lacks : has_address a s ≡ false = sym (ap (has_address a) there) ∙ others_lack segments a some.0 code some.1 apart some.2 code_in ne has in
    slice_get-map (put_byte a b) segments code ∙ ap (option_map (put_byte a b)) here ∙ ap Some (unchanged a b s lacks)
