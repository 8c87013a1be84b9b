-- What keeps the bytes of a run, and how a byte that is put changes them.
use Rattle.std.proofs.Common.{◌≡◌, ◌≢◌, ℕ, ◌-◌, ◌+◌, ◌%◌, ◌^◌, Bool, true, false, cond, eqb, ◌||◌, ◌&&◌, Option, Some, None, List, [], ◌∷◌, length, get_or, refl, sym, ◌∙◌, ap, inl, inr, arith}
use Rattle.std.specs.Prelude.{slice_get, slice_index, ◌↔◌, IsTrue, EachIndex, Result, Ok, Err, IfOk}
use Rattle.machines.specs.Prelude.{NoMemory, Segment, Program, has_address, permits, is_permitted, ArePermitted, put_byte, with_byte, update, is_held, is_writable, first_bytes, each_byte, block}
use Rattle.std.specs.List.{list_any}
use Rattle.std.proofs.lemmas.Bool.{cases_eq, false_from_ne_true}
use Rattle.std.proofs.lemmas.Bool.Decides.{nat_tests}
use Rattle.std.proofs.lemmas.Option.{slice_get-get_or, slice_get-map}
use Rattle.space.specs.Memory.{Memory, AreApart, byte_at}
use Rattle.space.proofs.Changes.{byte_in, byte_stands, bytes_stay, same_rights, code_is_kept}
use Rattle.space.proofs.Written.{still_apart}
use Rattle.access.specs.Kept.{Keeps, HasClosedCode, is_allowed}
use Rattle.access.proofs.Bytes.{each_at, is_block}
use Rattle.machines.proofs.Stack.{each_true as each_of}

is_equal : (a b : ℕ) → a ≡ b → eqb a b ≡ true
is_equal a b h = grind (arith, nat_tests)

is_other : (a b : ℕ) → a ≢ b → eqb a b ≡ false
is_other a b h = grind (arith, nat_tests)

same_held : (ss : List Segment) (a : ℕ) → list_any (permits false a) ss ≡ is_held ss a
unfolding is_held
same_held [] a = refl
same_held (s ∷ ss) a = ap (λ b. has_address a s || b) (same_held ss a)

same_writable : (ss : List Segment) (a : ℕ) → list_any (permits true a) ss ≡ is_writable ss a
unfolding is_writable
same_writable [] a = refl
same_writable (s ∷ ss) a = ap (λ b. (s.write && has_address a s) || b) (same_writable ss a)

first_rights : (p : Program) (writable : Bool) (a : ℕ) → list_any (permits writable a) p.segments ≡ is_allowed p writable a
first_rights p true a = same_writable p.segments a
first_rights p false a = same_held p.segments a

byte_of : (s : Segment) (a : ℕ) → has_address a s ≡ true → slice_get s.bytes (a - s.at) ≡ Some (get_or s.bytes (a - s.at) 0)
byte_of s a h = slice_get-get_or s.bytes (a - s.at) 0 (grind arith)

first_byte : (ss : List Segment) (a : ℕ) → is_held ss a ≡ true → byte_in ss a ≡ Some (first_bytes ss a)
unfolding is_held first_bytes
first_byte [] a h = cc
first_byte (s ∷ ss) a h = at (has_address a s) refl h (first_byte ss a)
  where
    at : (b : Bool) → has_address a s ≡ b → (b || is_held ss a) ≡ true → (is_held ss a ≡ true → byte_in ss a ≡ Some (first_bytes ss a))
        → byte_in (s ∷ ss) a ≡ Some (cond (has_address a s) (get_or s.bytes (a - s.at) 0) (first_bytes ss a))
    at true e h rest = rw e (byte_of s a e)
    at false e h rest = rw e (rest h)

-- memory before the first step keeps the program's first bytes
pub first_keeps : (p : Program) (m : Memory) → AreApart p.segments → HasClosedCode p → m ≡ record { segments = p.segments; code = p.code }
    → Keeps p (first_bytes p.segments) m
first_keeps p m apart closed e = rw e (record {
  rights = first_rights p;
  bytes_stand = first_byte p.segments;
  code_stands = refl;
  closed = closed;
  apart = apart;
})

writable_is_held : (ss : List Segment) (a : ℕ) → list_any (permits true a) ss ≡ true → list_any (has_address a) ss ≡ true
writable_is_held [] a h = cc
writable_is_held (s ∷ ss) a h = at s.write (has_address a s) h (writable_is_held ss a)
  where
    at : (w b : Bool) → ((w && b) || list_any (permits true a) ss) ≡ true → (list_any (permits true a) ss ≡ true → list_any (has_address a) ss ≡ true)
        → (b || list_any (has_address a) ss) ≡ true
    at w true h rest = refl
    at true false h rest = rest h
    at false false h rest = rest h

-- the code is changed by no byte that may be put
code_stays : (p : Program) (m : Memory) (a b : ℕ) (code : Option Segment) → slice_get p.segments p.code ≡ code → slice_get m.segments m.code ≡ code
    → HasClosedCode p → AreApart m.segments → is_permitted m true a ≡ true → slice_get (with_byte m a b).segments m.code ≡ code
code_stays p m a b None e here closed apart given = rw (slice_get-map (put_byte a b) m.segments m.code, here) refl
code_stays p m a b (Some code) e here closed apart given = code_is_kept m.segments m.code a b code apart here (closed code e) given

-- a byte that is put where that is allowed
pub keeps_byte : (p : Program) (f : ℕ → ℕ) (m : Memory) (a b : ℕ) → Keeps p f m → is_permitted m true a ≡ true → Keeps p (update f a b) (with_byte m a b)
keeps_byte p f m a b keeps given = record {
  rights = λ writable x. same_rights m.segments a b writable x ∙ keeps.rights writable x;
  bytes_stand = λ x held. elim (cases_eq x a) as (λ _. byte_at (with_byte m a b) x ≡ Some (update f a b x)) [
    | inl same ↦ rw (same, is_equal a a refl) (byte_stands m.segments a b (writable_is_held m.segments a given))
    | inr other ↦ rw (is_other x a other) (bytes_stay m.segments a b x other ∙ keeps.bytes_stand x held)
  ];
  code_stands = code_stays p m a b (slice_get p.segments p.code) refl keeps.code_stands keeps.closed keeps.apart given;
  closed = keeps.closed;
  apart = still_apart m.segments a b keeps.apart;
}

-- a byte stands at the addresses of segments alone
byte_is_held : (ss : List Segment) (a b : ℕ) → byte_in ss a ≡ Some b → list_any (has_address a) ss ≡ true
byte_is_held [] a b h = cc
byte_is_held (s ∷ ss) a b h = at (has_address a s) refl h (byte_is_held ss a b)
  where
    at : (c : Bool) → has_address a s ≡ c → byte_in (s ∷ ss) a ≡ Some b → (byte_in ss a ≡ Some b → list_any (has_address a) ss ≡ true)
        → (c || list_any (has_address a) ss) ≡ true
    at true e h rest = refl
    at false e h rest = rest (rw e at h)

pub read_held : (p : Program) (f : ℕ → ℕ) (m : Memory) (a b : ℕ) → Keeps p f m → Some b ≡ byte_at m a → is_held p.segments a ≡ true
read_held p f m a b keeps h = sym (keeps.rights false a) ∙ byte_is_held m.segments a b (sym h)

pub read_byte : (p : Program) (f : ℕ → ℕ) (m : Memory) (a b : ℕ) → Keeps p f m → Some b ≡ byte_at m a → b ≡ f a
read_byte p f m a b keeps h = let e = keeps.bytes_stand a (read_held p f m a b keeps h) in cc

pub read_none : (p : Program) (f : ℕ → ℕ) (m : Memory) (a : ℕ) → Keeps p f m → None ≡ byte_at m a → is_held p.segments a ≡ false
read_none p f m a keeps h = false_from_ne_true (is_held p.segments a) (λ held. let e = keeps.bytes_stand a held in cc)

-- what `holds` tells
pub holds_is : (p : Program) (f : ℕ → ℕ) (m : Memory) (writable : Bool) (n a : ℕ) (result : Bool) → Keeps p f m
    → (IsTrue result ↔ ArePermitted m writable a n) → result ≡ each_byte (is_allowed p writable) n a
holds_is p f m writable n a true keeps h =
    sym (each_of (is_allowed p writable) n a (λ k lt. sym (keeps.rights writable ((a + k) % 2 ^ 32)) ∙ h.0 refl k lt))
holds_is p f m writable n a false keeps h =
    sym (false_from_ne_true (each_byte (is_allowed p writable) n a)
    (λ all. let e = h.1 (λ k lt. keeps.rights writable ((a + k) % 2 ^ 32) ∙ each_at (is_allowed p writable) n a k all lt) in cc))

-- what `copy` fills in
pub copied : (p : Program) (f : ℕ → ℕ) (m : Memory) (n a : ℕ) (into : List ℕ) → Keeps p f m → length into ≡ n
    → EachIndex into (λ k. byte_at m ((a + k) % 2 ^ 32) ≡ Some (slice_index into k)) → into ≡ block n a f
copied p f m n a into keeps long h =
    is_block into a f (λ k lt. read_byte p f m ((a + k) % 2 ^ 32) (get_or into k 0) keeps (sym (h k lt))) ∙ ap (λ j. block j a f) long

pub first_result : (p : Program) (made : Result Memory NoMemory) → AreApart p.segments → HasClosedCode p
    → IfOk made (λ m. m ≡ record { segments = p.segments; code = p.code }) → IfOk made (λ m. Keeps p (first_bytes p.segments) m)
first_result p (Ok m) apart closed e = first_keeps p m apart closed e
first_result p (Err none) apart closed e = tt
