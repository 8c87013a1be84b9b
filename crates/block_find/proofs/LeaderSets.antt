-- There is one set of leaders.
use Rattle.std.proofs.Common.{ℕ, zero, suc, ◌+◌, ◌<◌, ◌≤◌, ◌↔◌, List, Bool, refl, arith}
use Rattle.block_find.specs.Prelude.{IsIn, MayEnd, flow, leader, full, over, IsBlock, Begins, behind_full, AreLeaders}
use Rattle.block_find.specs.Blocks.{zeroth, starts, named, behind_flow}

module _ (first e : ℕ) (words : List ℕ) where
  -- where two sets have the same members below k, a word is a leader by both
  same_block : (a b : List Bool) (p : ℕ) → ((i : ℕ) → i < p + 64 → IsIn b i → IsIn a i) → IsBlock words (IsIn a) p 64 → IsBlock words (IsIn b) p 64
  same_block a b p back block = record { some = block.some; within = block.within; ends = full refl; not_before = not_before } where
    not_before : (j : ℕ) → 1 ≤ j → j < 64 → MayEnd words (IsIn b) p j → ⊥
    not_before j pos less (flow f) = block.not_before j pos less (flow f)
    not_before j pos less (leader l) = block.not_before j pos less (leader (back (p + j) (omega arith) l))
    not_before j pos less (full x) = omega arith
    not_before j pos less (over x) = block.not_before j pos less (over x)

  begins_too : (a b : List Bool) (k : ℕ) → ((i : ℕ) → i < k → IsIn a i ↔ IsIn b i) → Begins first e words (IsIn a) k → Begins first e words (IsIn b) k
  begins_too a b k same (zeroth x) = zeroth x
  begins_too a b k same (starts x) = starts x
  begins_too a b k same (named p lt x) = named p lt x
  begins_too a b k same (behind_flow p lt f x) = behind_flow p lt f x
  begins_too a b k same (behind_full p is block x) =
      behind_full p ((same p (omega arith)).0 is) (same_block a b p (λ i lt h. (same i (omega arith)).1 h) block) x

  module _ (a b : List Bool) (la : AreLeaders first e words (IsIn a)) (lb : AreLeaders first e words (IsIn b)) where
    below : (bound k : ℕ) → k < bound → IsIn a k ↔ IsIn b k
    below zero k lt = absurd (omega arith)
    below (suc bound) k lt =
        let same : (i : ℕ) → i < k → IsIn a i ↔ IsIn b i = λ i less. below bound i (omega arith) in
        let back : (i : ℕ) → i < k → IsIn b i ↔ IsIn a i = λ i less. ((same i less).1, (same i less).0) in (
          (λ is. let w = (la.each k).0 is in (lb.each k).1 (w.0, begins_too a b k same w.1)),
          (λ is. let w = (lb.each k).0 is in (la.each k).1 (w.0, begins_too b a k back w.1)),
        )

    pub same_leaders : (k : ℕ) → IsIn a k ↔ IsIn b k
    same_leaders k = below (k + 1) k (omega arith)
