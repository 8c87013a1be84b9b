-- The words of lines have no separators, and one item is written so. This project's own.
use Rattle.std.proofs.Common.{◌≡◌, ℕ, zero, suc, ◌+◌, ◌*◌, ◌/◌, ◌%◌, ◌<◌, ◌≤◌, ◌^◌, ◌++◌, ◌==◌, ◌&&◌, not, if◌then◌else◌, List, [], ◌∷◌, length, get_or, drop, map, refl, sym, ap, ◌∙◌, arith, lit≤, decimal, codes, nat_lt, IsTrue, Bool, true, false, Option, Some, None, Ok}
use Rattle.std.specs.Int.{w32, to_be_bytes, from_be_bytes}
use Rattle.std.specs.List.{AllByRecursion, slice_index, slice_split}
use Rattle.std.specs.Str.Parse.{AllDigits}
use Rattle.std.proofs.lemmas.Fmt.{decimal_is_IsNumeral, decimal_injective}
use Rattle.std.proofs.lemmas.Str.Parse.{digit_from_value}
use Rattle.std.proofs.lemmas.Nat.{from_be_bytes-to_be_bytes_4}
use Rattle.hex.specs.Hex.{encode_lower, encode_with, decode_of, lower_digits}
use Rattle.hex.proofs.HexLemmas.{decode_of-encode_lower}
use Rattle.machines.specs.Prelude.{Map, IsHeld, IsMap}
use Rattle.reg_map.specs.declared.moves.Move.TheVariants.{Drop, Take}
use Rattle.line_text.specs.Lines.{IsFree}
use Rattle.line_text.proofs.Lines.{AreWords, split-join}
use Rattle.plan_form.specs.declared.problem.Tile.TheVariants.{Base, Rule}
use Rattle.plan_form.specs.Prelude.{Step, Go, Lay, Item, Title, Head, Does, Row, End, IsItem, IsWrittenStep, AreWrittenLabels, slot_word, content_word, map_word, step_words, words_of}

-- every byte is above those of a line feed, a space and a comma
abbrev IsHigh : List ℕ → Type 0
IsHigh bs = AllByRecursion (λ b. 44 < b) bs

high-append : (xs ys : List ℕ) → IsHigh xs → IsHigh ys → IsHigh (xs ++ ys)
high-append [] ys a b = b
high-append (x ∷ xs) ys a b = (a.0, high-append xs ys a.1 b)

high-digits : (ds : List ℕ) → AllDigits 10 ds → IsHigh ds
high-digits [] d = tt
high-digits (c ∷ cs) d = (omega (arith, digit_from_value c d.0), high-digits cs d.1)

high-decimal : (n : ℕ) → n < 2 ^ 32 → IsHigh (decimal n)
high-decimal n small = high-digits (decimal n) (decimal_is_IsNumeral n (omega (arith, small))).0.1

both : (a b : Bool) → IsTrue (a && b) → IsTrue a × IsTrue b
both true b h = (refl, h)
both false b h = absurd (let none : false ≡ true = h in cc)

is_high : List ℕ → Bool
is_high [] = true
is_high (b ∷ bs) = nat_lt 44 b && is_high bs

above : (b : ℕ) → IsTrue (nat_lt 44 b) → 44 < b
above b h = grind (arith, h)

-- a literal
literal : (bs : List ℕ) → IsTrue (is_high bs) → IsHigh bs
unfolding is_high
literal [] h = tt
literal (b ∷ bs) h = let s = both (nat_lt 44 b) (is_high bs) h in (above b s.0, literal bs s.1)

high-slot : (s : ℕ) → IsHigh (slot_word s)
unfolding is_high
high-slot s = by_tests (s == 0) (s == 1)
  where
    by_tests : (a b : Bool) → IsHigh (if a then codes "ebx" else if b then codes "esi" else codes "edi")
    by_tests true b = literal (codes "ebx") refl
    by_tests false true = literal (codes "esi") refl
    by_tests false false = literal (codes "edi") refl

high-content : (e : Option ℕ) → IsHeld e → IsHigh (content_word e)
unfolding is_high
high-content None h = literal (codes "-") refl
high-content (Some g) h = high-append (codes "r") (decimal g) (literal (codes "r") refl) (high-decimal g (omega (arith, h)))

other : (b by : ℕ) → by ≤ 44 → 44 < b → (b == by) ≡ false
other b by low high = grind (arith, low, high)

free-high : (by : ℕ) → by ≤ 44 → (bs : List ℕ) → IsHigh bs → IsFree by bs
free-high by low [] h = tt
free-high by low (b ∷ bs) h = (other b by low h.0, free-high by low bs h.1)

free-append : (by : ℕ) (xs ys : List ℕ) → IsFree by xs → IsFree by ys → IsFree by (xs ++ ys)
free-append by [] ys a b = b
free-append by (x ∷ xs) ys a b = (a.0, free-append by xs ys a.1 b)

-- hexadecimal text, whatever the bytes
is_free : ℕ → List ℕ → Bool
is_free by [] = true
is_free by (b ∷ bs) = not (b == by) && is_free by bs

not-true : (b : Bool) → IsTrue (not b) → b ≡ false
not-true true h = absurd (let none : false ≡ true = h in cc)
not-true false h = refl

tested : (by : ℕ) (bs : List ℕ) → IsTrue (is_free by bs) → IsFree by bs
unfolding is_free
tested by [] h = tt
tested by (b ∷ bs) h = let s = both (not (b == by)) (is_free by bs) h in (not-true (b == by) s.0, tested by bs s.1)

free-digit : (by i : ℕ) → IsFree by (0 ∷ lower_digits) → (slice_index lower_digits i == by) ≡ false
free-digit by i = at lower_digits i
  where
    at : (bs : List ℕ) (i : ℕ) → IsFree by (0 ∷ bs) → (get_or bs i 0 == by) ≡ false
    at [] i f = f.0
    at (b ∷ bs) zero f = f.1.0
    at (b ∷ bs) (suc i) f = at bs i (f.0, f.1.1)

free-hexadecimal : (by : ℕ) (bs : List ℕ) → IsFree by (0 ∷ lower_digits) → IsFree by (encode_lower bs)
unfolding encode_with
free-hexadecimal by [] h = tt
free-hexadecimal by (b ∷ bs) h = (free-digit by (b / 16) h, (free-digit by (b % 16) h, free-hexadecimal by bs h))

-- a space or a line feed
module _ (by : ℕ) (low : by ≤ 44) (comma : (44 == by) ≡ false) (digits : IsFree by (0 ∷ lower_digits)) where
  free : (bs : List ℕ) → IsHigh bs → IsFree by bs
  free bs h = free-high by low bs h

  free-decimal : (n : ℕ) → n < 2 ^ 32 → IsFree by (decimal n)
  free-decimal n h = free (decimal n) (high-decimal n h)

  free-map : (m : Map) → IsMap m → IsFree by (map_word m)
  free-map m h =
      let content = λ (e : Option ℕ) (held : IsHeld e). free (content_word e) (high-content e held) in
      free-append by (content_word m.ebx) (44 ∷ (content_word m.esi ++ 44 ∷ content_word m.edi)) (content m.ebx h.ebx)
      (comma, free-append by (content_word m.esi) (44 ∷ content_word m.edi) (content m.esi h.esi) (comma, content m.edi h.edi))

  free-labels : (ns : List ℕ) → AreWrittenLabels ns → AllByRecursion (IsFree by) (map decimal ns)
  free-labels [] h = tt
  free-labels (n ∷ ns) h = (free-decimal n h.0, free-labels ns h.1)

  free-step : (s : Step) → IsWrittenStep s → AllByRecursion (IsFree by) (step_words s)
  unfolding is_high
  free-step (Lay Base) h = (free (codes "base") (literal (codes "base") refl), tt)
  free-step (Lay (Rule n)) h = (free (codes "rule") (literal (codes "rule") refl), (free-decimal n h, tt))
  free-step (Go (Drop s)) h = (free (codes "drop") (literal (codes "drop") refl), (free (slot_word s) (high-slot s), tt))
  free-step (Go (Take s g)) h = (free (codes "take") (literal (codes "take") refl), (free (slot_word s) (high-slot s), (free-decimal g (omega (arith, h.1)), tt)))

  free-words : (x : Item) → IsItem x → AllByRecursion (IsFree by) (words_of x)
  unfolding is_high
  free-words Title h = (free (codes "plan") (literal (codes "plan") refl), (free (codes "1") (literal (codes "1") refl), tt))
  free-words (Head at words entry exit) h =
      (free (codes "block") (literal (codes "block") refl), (free-hexadecimal by (to_be_bytes w32 at) digits, (free-decimal words h.1, (free-map entry h.2, (free-map exit h.3, tt)))))
  free-words (Does step) h = free-step step h
  free-words (Row p labels) h = (free (codes "at") (literal (codes "at") refl), (free-decimal p h.0, free-labels labels h.1))
  free-words End h = (free (codes "end") (literal (codes "end") refl), tt)

some-words : (x : Item) → 0 < length (words_of x)
some-words Title = omega arith
some-words (Head at words entry exit) = omega arith
some-words (Does (Lay Base)) = omega arith
some-words (Does (Lay (Rule n))) = omega arith
some-words (Does (Go (Drop s))) = omega arith
some-words (Does (Go (Take s g))) = omega arith
some-words (Row p labels) = omega arith
some-words End = omega arith

pub are-words : (x : Item) → IsItem x → AreWords (words_of x)
unfolding is_free
are-words x h = (some-words x, free-words 32 (lit≤ tt) refl (tested 32 (0 ∷ lower_digits) refl) x h, free-words 10 (lit≤ tt) refl (tested 10 (0 ∷ lower_digits) refl) x h)

-- One item is written so.
numbers-same : (m n : ℕ) → m < 2 ^ 32 → n < 2 ^ 32 → decimal m ≡ decimal n → m ≡ n
numbers-same m n g h e = decimal_injective m n (omega (arith, g)) (omega (arith, h)) e

byte : (w i : ℕ) → get_or (to_be_bytes w32 w) i 0 < 256
byte w zero = omega arith
byte w (suc zero) = omega arith
byte w (suc (suc zero)) = omega arith
byte w (suc (suc (suc zero))) = omega arith
byte w (suc (suc (suc (suc i)))) = omega arith

addresses-same : (v w : ℕ) → v < 2 ^ 32 → w < 2 ^ 32 → encode_lower (to_be_bytes w32 v) ≡ encode_lower (to_be_bytes w32 w) → v ≡ w
addresses-same v w g h e =
    let f : Ok (to_be_bytes w32 v) ≡ Ok (to_be_bytes w32 w) = sym (decode_of-encode_lower (to_be_bytes w32 v) (byte v)) ∙ ap decode_of e ∙ decode_of-encode_lower (to_be_bytes w32 w) (byte w) in
    let bytes : to_be_bytes w32 v ≡ to_be_bytes w32 w = cc in
    sym (from_be_bytes-to_be_bytes_4 v g) ∙ ap (from_be_bytes w32) bytes ∙ from_be_bytes-to_be_bytes_4 w h

pub slots-same : (s t : ℕ) → s < 3 → t < 3 → slot_word s ≡ slot_word t → s ≡ t
slots-same zero zero g h e = refl
slots-same (suc zero) (suc zero) g h e = refl
slots-same (suc (suc zero)) (suc (suc zero)) g h e = refl
slots-same (suc (suc (suc s))) t g h e = absurd (omega (arith, g))
slots-same s (suc (suc (suc t))) g h e = absurd (omega (arith, h))
slots-same _ _ g h e = absurd (let f = ap (λ w. get_or w 0 0 * 256 + get_or w 1 0) e in omega (arith, f))

pub contents-same : (a b : Option ℕ) → IsHeld a → IsHeld b → content_word a ≡ content_word b → a ≡ b
contents-same None None g h e = refl
contents-same (Some m) (Some n) g h e = ap (λ (k : ℕ). Some k) (numbers-same m n (omega (arith, g)) (omega (arith, h)) (ap (drop 1) e))
contents-same None (Some n) g h e = absurd (let f = ap (λ w. get_or w 0 0) e in omega (arith, f))
contents-same (Some m) None g h e = absurd (let f = ap (λ w. get_or w 0 0) e in omega (arith, f))

differ : (b by : ℕ) → b ≡ by → (b == by) ≡ false → ⊥
differ b by e f = grind (arith, e, f)

-- what stands before the first separator, and behind it
pub cut-same : (by : ℕ) (a c x y : List ℕ) → IsFree by a → IsFree by c → a ++ by ∷ x ≡ c ++ by ∷ y → (a ≡ c) × (x ≡ y)
cut-same by [] [] x y g h e = (refl, ap (drop 1) e)
cut-same by (b ∷ a) (d ∷ c) x y g h e =
    let rest = cut-same by a c x y g.1 h.1 (ap (drop 1) e) in
    let head : b ≡ d = ap (λ l. get_or l 0 b) e in
    (ap (λ k. k ∷ a) head ∙ ap (λ l. d ∷ l) rest.0, rest.1)
cut-same by [] (d ∷ c) x y g h e = absurd (let head : by ≡ d = ap (λ l. get_or l 0 by) e in differ d by (sym head) h.0)
cut-same by (b ∷ a) [] x y g h e = absurd (let head : b ≡ by = ap (λ l. get_or l 0 b) e in differ b by head g.0)

-- no comma stands in a slot's content
pub free-content : (e : Option ℕ) → IsHeld e → IsFree 44 (content_word e)
free-content e h = free-high 44 (lit≤ tt) (content_word e) (high-content e h)

split-map : (m : Map) → IsMap m → slice_split (λ b. b == 44) (map_word m) ≡ content_word m.ebx ∷ content_word m.esi ∷ content_word m.edi ∷ []
split-map m h = split-join 44 (content_word m.ebx) (content_word m.esi ∷ content_word m.edi ∷ []) (free-content m.ebx h.ebx, (free-content m.esi h.esi, (free-content m.edi h.edi, tt)))

maps-same : (m n : Map) → IsMap m → IsMap n → map_word m ≡ map_word n → m ≡ n
maps-same m n g h e =
    let all = sym (split-map m g) ∙ ap (slice_split (λ b. b == 44)) e ∙ split-map n h in
    let a = contents-same m.ebx n.ebx g.ebx h.ebx (ap (λ ws. get_or ws 0 []) all) in
    let b = contents-same m.esi n.esi g.esi h.esi (ap (λ ws. get_or ws 1 []) all) in
    let c = contents-same m.edi n.edi g.edi h.edi (ap (λ ws. get_or ws 2 []) all) in
    ap (λ (o : Option ℕ). let k : Map = record { ebx = o; esi = m.esi; edi = m.edi } in k) a
    ∙ ap (λ (o : Option ℕ). let k : Map = record { ebx = n.ebx; esi = o; edi = m.edi } in k) b
    ∙ ap (λ (o : Option ℕ). let k : Map = record { ebx = n.ebx; esi = n.esi; edi = o } in k) c

-- the first two bytes of the first word tell the kinds apart
tag : List (List ℕ) → ℕ
tag ws = get_or (get_or ws 0 []) 0 0 * 256 + get_or (get_or ws 0 []) 1 0

steps-same : (s t : Step) → IsWrittenStep s → IsWrittenStep t → step_words s ≡ step_words t → s ≡ t
unfolding tag
steps-same (Lay Base) (Lay Base) g h e = refl
steps-same (Lay (Rule m)) (Lay (Rule n)) g h e = ap (λ k. Lay (Rule k)) (numbers-same m n g h (ap (λ ws. get_or ws 1 []) e))
steps-same (Go (Drop s)) (Go (Drop t)) g h e = ap (λ k. Go (Drop k)) (slots-same s t g h (ap (λ ws. get_or ws 1 []) e))
steps-same (Go (Take s m)) (Go (Take t n)) g h e =
    ap (λ k. Go (Take k m)) (slots-same s t g.0 h.0 (ap (λ ws. get_or ws 1 []) e))
    ∙ ap (λ k. Go (Take t k)) (numbers-same m n (omega (arith, g.1)) (omega (arith, h.1)) (ap (λ ws. get_or ws 2 []) e))
steps-same (Lay Base) (Lay (Rule n)) g h e = absurd (let f = ap tag e in omega (arith, f))
steps-same (Lay Base) (Go (Drop t)) g h e = absurd (let f = ap tag e in omega (arith, f))
steps-same (Lay Base) (Go (Take t n)) g h e = absurd (let f = ap tag e in omega (arith, f))
steps-same (Lay (Rule m)) (Lay Base) g h e = absurd (let f = ap tag e in omega (arith, f))
steps-same (Lay (Rule m)) (Go (Drop t)) g h e = absurd (let f = ap tag e in omega (arith, f))
steps-same (Lay (Rule m)) (Go (Take t n)) g h e = absurd (let f = ap tag e in omega (arith, f))
steps-same (Go (Drop s)) (Lay Base) g h e = absurd (let f = ap tag e in omega (arith, f))
steps-same (Go (Drop s)) (Lay (Rule n)) g h e = absurd (let f = ap tag e in omega (arith, f))
steps-same (Go (Drop s)) (Go (Take t n)) g h e = absurd (let f = ap tag e in omega (arith, f))
steps-same (Go (Take s m)) (Lay Base) g h e = absurd (let f = ap tag e in omega (arith, f))
steps-same (Go (Take s m)) (Lay (Rule n)) g h e = absurd (let f = ap tag e in omega (arith, f))
steps-same (Go (Take s m)) (Go (Drop t)) g h e = absurd (let f = ap tag e in omega (arith, f))

labels-same : (ms ns : List ℕ) → AreWrittenLabels ms → AreWrittenLabels ns → map decimal ms ≡ map decimal ns → ms ≡ ns
labels-same [] [] g h e = refl
labels-same (m ∷ ms) (n ∷ ns) g h e = ap (λ k. k ∷ ms) (numbers-same m n g.0 h.0 (ap (λ ws. get_or ws 0 []) e)) ∙ ap (λ ks. n ∷ ks) (labels-same ms ns g.1 h.1 (ap (drop 1) e))
labels-same [] (n ∷ ns) g h e = absurd (let f = ap length e in omega (arith, f))
labels-same (m ∷ ms) [] g h e = absurd (let f = ap length e in omega (arith, f))

pub words-same : (x y : Item) → IsItem x → IsItem y → words_of x ≡ words_of y → x ≡ y
unfolding tag
words-same Title Title g h e = refl
words-same (Head a w n x) (Head b v m y) g h e =
    ap (λ k. Head k w n x) (addresses-same a b g.0 h.0 (ap (λ ws. get_or ws 1 []) e))
    ∙ ap (λ k. Head b k n x) (numbers-same w v g.1 h.1 (ap (λ ws. get_or ws 2 []) e))
    ∙ ap (λ k. Head b v k x) (maps-same n m g.2 h.2 (ap (λ ws. get_or ws 3 []) e))
    ∙ ap (Head b v m) (maps-same x y g.3 h.3 (ap (λ ws. get_or ws 4 []) e))
words-same (Does s) (Does t) g h e = ap Does (steps-same s t g h e)
words-same (Row p ms) (Row q ns) g h e =
    ap (λ k. Row k ms) (numbers-same p q g.0 h.0 (ap (λ ws. get_or ws 1 []) e)) ∙ ap (Row q) (labels-same ms ns g.1 h.1 (ap (drop 2) e))
words-same End End g h e = refl
words-same (Does (Lay Base)) _ g h e = absurd (let f = ap tag e in omega (arith, f))
words-same (Does (Lay (Rule n))) _ g h e = absurd (let f = ap tag e in omega (arith, f))
words-same (Does (Go (Drop s))) _ g h e = absurd (let f = ap tag e in omega (arith, f))
words-same (Does (Go (Take s n))) _ g h e = absurd (let f = ap tag e in omega (arith, f))
words-same _ (Does (Lay Base)) g h e = absurd (let f = ap tag e in omega (arith, f))
words-same _ (Does (Lay (Rule n))) g h e = absurd (let f = ap tag e in omega (arith, f))
words-same _ (Does (Go (Drop s))) g h e = absurd (let f = ap tag e in omega (arith, f))
words-same _ (Does (Go (Take s n))) g h e = absurd (let f = ap tag e in omega (arith, f))
words-same _ _ g h e = absurd (let f = ap tag e in omega (arith, f))
