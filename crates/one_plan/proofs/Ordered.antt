-- A list in strict order is known by its elements.
use Rattle.std.proofs.Common.{◌≡◌, ◌↔◌, inl, inr, suc, List, [], ◌∷◌, refl, sym, ap, subst, ◌∙◌, arith}
use Rattle.std.specs.List.{AllPairs, Contains}
use Rattle.offer_make.proofs.Elements.{first, later, none, cons-cases}

module _ {X : Type 0} (R : X → X → Type 0) where
  head : (x : X) (xs : List X) → AllPairs R (x ∷ xs) → (y : X) → Contains xs y → R x y
  head x xs pairs y c = subst (R x) c.2 (pairs 0 (suc c.0) y (omega arith) (let l = c.1 in omega arith))

  tail : (x : X) (xs : List X) → AllPairs R (x ∷ xs) → AllPairs R xs
  tail x xs pairs i j d less within = pairs (suc i) (suc j) d (omega arith) (omega arith)

  module _ (apart : (x y : X) → R x y → R y x → ⊥) where
    heads : (x y : X) (xs ys : List X) → AllPairs R (x ∷ xs) → AllPairs R (y ∷ ys) → ((z : X) → Contains (x ∷ xs) z ↔ Contains (y ∷ ys) z) → x ≡ y
    heads x y xs ys of_x of_y same = elim (cons-cases y x ys ((same x).0 (first x xs))) [
      | inl e ↦ sym e
      | inr behind ↦ elim (cons-cases x y xs ((same y).1 (first y ys))) [ inl e ↦ e | inr after ↦ absurd (apart x y (head x xs of_x y after) (head y ys of_y x behind)) ]
    ]

    smaller : (x : X) (xs ys : List X) → AllPairs R (x ∷ xs) → ((z : X) → Contains (x ∷ xs) z → Contains (x ∷ ys) z) → (z : X) → Contains xs z → Contains ys z
    smaller x xs ys of_x to z c = elim (cons-cases x z ys (to z (later x z xs c))) [
      | inl e ↦ (let r = subst (R x) (sym e) (head x xs of_x z c) in absurd (apart x x r r))
      | inr rest ↦ rest
    ]

    pub same_lists : (xs ys : List X) → AllPairs R xs → AllPairs R ys → ((z : X) → Contains xs z ↔ Contains ys z) → xs ≡ ys
    same_lists [] [] of_x of_y same = refl
    same_lists [] (y ∷ ys) of_x of_y same = absurd (none y ((same y).1 (first y ys)))
    same_lists (x ∷ xs) [] of_x of_y same = absurd (none x ((same x).0 (first x xs)))
    same_lists (x ∷ xs) (y ∷ ys) of_x of_y same =
        let e = heads x y xs ys of_x of_y same in
        let of_y' : AllPairs R (x ∷ ys) = subst (λ (w : X). AllPairs R (w ∷ ys)) (sym e) of_y in
        let same' : (z : X) → Contains (x ∷ xs) z ↔ Contains (x ∷ ys) z = subst (λ (w : X). (z : X) → Contains (x ∷ xs) z ↔ Contains (w ∷ ys) z) (sym e) same in
        let rest : xs ≡ ys = same_lists xs ys (tail x xs of_x) (tail x ys of_y') (λ z. (smaller x xs ys of_x (λ w. (same' w).0) z, smaller x ys xs of_y' (λ w. (same' w).1) z)) in
        ap (λ (w : X). w ∷ xs) e ∙ ap (λ (l : List X). y ∷ l) rest
