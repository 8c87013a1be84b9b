-- Cutting at a separator.
use Rattle.std.proofs.Common.{◌≡◌, ℕ, ◌++◌, ◌==◌, List, [], ◌∷◌, refl, sym, ap, ◌∙◌, arith, false, true}
use Rattle.std.specs.List.{All, slice_split}
use Rattle.std.proofs.lemmas.List.Splits.{slice_split_none, slice_split_at}
use Rattle.std.proofs.lemmas.List.Elements.{All-cons, All-nil}
use Rattle.line_text.specs.Lines.{IsFree}

pub all-free : (by : ℕ) (bs : List ℕ) → IsFree by bs → All (λ b. (b == by) ≡ false) bs
all-free by [] h = All-nil _
all-free by (b ∷ bs) h = All-cons (λ b. (b == by) ≡ false) b bs h.0 (all-free by bs h.1)

pub same : (n : ℕ) → (n == n) ≡ true
same n = grind arith

pub split-cut : (by : ℕ) (word after : List ℕ) → IsFree by word → slice_split (λ b. b == by) (word ++ by ∷ after) ≡ word ∷ slice_split (λ b. b == by) after
split-cut by word after h = slice_split_at (λ b. b == by) word by after (all-free by word h) (same by)

pub split-free : (by : ℕ) (word : List ℕ) → IsFree by word → slice_split (λ b. b == by) word ≡ word ∷ []
split-free by word h = slice_split_none (λ b. b == by) word (all-free by word h)

differ : (b by : ℕ) → b ≡ by → (b == by) ≡ false → ⊥
differ b by e f = let t : true ≡ false = sym (same by) ∙ ap (λ k. k == by) (sym e) ∙ f in cc

-- bytes with the separator aren't free of it
pub cut-none : (by : ℕ) (c y : List ℕ) → IsFree by (c ++ by ∷ y) → ⊥
cut-none by [] y h = differ by by refl h.0
cut-none by (d ∷ c) y h = cut-none by c y h.1
