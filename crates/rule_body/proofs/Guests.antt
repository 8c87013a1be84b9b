-- The words of a window in arrays.
use Rattle.std.proofs.Common.{◌≡◌, ℕ, zero, suc, ◌<◌, ◌≤◌, Bool, List, [], ◌∷◌, length, get_or, take, slice_get, Some, refl, arith}
use Rattle.rule_body.specs.Prelude.{Guest, guests}

pub guest-at : (ws : List ℕ) (fs : List Bool) (n k : ℕ) (f : Bool) → k < n → n ≤ length ws → length fs ≡ length ws
    → (let g : Guest = record { word = get_or ws k 0; free = get_or fs k f } in Some g) ≡ slice_get (take n (guests ws fs)) k
guest-at [] fs n k f below within same = absurd (omega (arith, below, within))
guest-at (w ∷ ws) [] n k f below within same = absurd (omega (arith, same))
guest-at (w ∷ ws) (b ∷ fs) zero k f below within same = absurd (omega (arith, below))
guest-at (w ∷ ws) (b ∷ fs) (suc n) zero f below within same = refl
guest-at (w ∷ ws) (b ∷ fs) (suc n) (suc k) f below within same = guest-at ws fs n k f (omega (arith, below)) (omega (arith, within)) (omega (arith, same))

pub length-guests : (ws : List ℕ) (fs : List Bool) (n : ℕ) → n ≤ length ws → length fs ≡ length ws → length (take n (guests ws fs)) ≡ n
length-guests ws fs zero within same = refl
length-guests [] fs (suc n) within same = absurd (omega (arith, within))
length-guests (w ∷ ws) [] (suc n) within same = absurd (omega (arith, same))
length-guests (w ∷ ws) (b ∷ fs) (suc n) within same = let f = length-guests ws fs n (omega (arith, within)) (omega (arith, same)) in omega (arith, f)
