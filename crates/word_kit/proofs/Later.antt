-- Each state is later than itself, and a state later than a later one is later.
use Rattle.std.proofs.Common.{◌∙◌, refl, ℕ, Bool, arith}
use Rattle.word_kit.specs.Frame.{IsLater, MayUntie}

module _ {S : Type 0} {extent : S → ℕ} {admits : S → (ℕ → Bool) → Type 0} {is_input : S → ℕ → Type 0} {opaque_of : S → ℕ} where
  pub later-refl : (s : S) → IsLater extent admits is_input opaque_of s s
  later-refl s = record { grows = omega arith; earlier = λ a h. h; inputs = λ k h. h; opaque = refl }

  pub later-trans : (s t u : S) → IsLater extent admits is_input opaque_of s t → IsLater extent admits is_input opaque_of t u → IsLater extent admits is_input opaque_of s u
  later-trans s t u p q = record {
    grows = omega arith;
    earlier = λ a h. p.earlier a (q.earlier a h);
    inputs = λ k h. q.inputs k (p.inputs k h);
    opaque = q.opaque ∙ p.opaque;
  }

  pub untie-refl : (s : S) → MayUntie extent admits is_input opaque_of s s
  untie-refl s = record { grows = omega arith; earlier = λ a h. h; inputs = λ k h. h; rises = omega arith }

  pub untie-trans : (s t u : S) → MayUntie extent admits is_input opaque_of s t → MayUntie extent admits is_input opaque_of t u → MayUntie extent admits is_input opaque_of s u
  untie-trans s t u p q = record {
    grows = omega arith;
    earlier = λ a h. p.earlier a (q.earlier a h);
    inputs = λ k h. q.inputs k (p.inputs k h);
    rises = omega arith;
  }
