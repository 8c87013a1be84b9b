-- Ops that are put one behind another.
use Rattle.std.proofs.Common.{◌≡◌, ◌≤◌, ◌<◌, ◌+◌, ℕ, suc, List, ◌++◌, length, get_or, drop, ap, sym, ◌∙◌, append_assoc, length-append, drop-cons, arith}
use Rattle.std.proofs.lemmas.List.{append-nil, drop_all}
use Rattle.machines.specs.Prelude.{spelling, Op}
use Rattle.code_layout.specs.Prelude.{spelled}

spelled-drop : (ops : List Op) (i : ℕ) (d : Op) → i < length ops → spelled (drop i ops) ≡ spelling (get_or ops i d) ++ spelled (drop (i + 1) ops)
spelled-drop ops i d lt =
    let next : suc i ≡ i + 1 = omega arith in
    ap spelled (drop-cons ops i d lt) ∙ ap (λ (k : ℕ). spelling (get_or ops i d) ++ spelled (drop k ops)) next

-- what stands already, and the ops that are left, are the whole
pub spelled-more : (ops : List Op) (i : ℕ) (d : Op) (old new whole : List ℕ) → i < length ops → new ≡ old ++ spelling (get_or ops i d) → old ++ spelled (drop i ops) ≡ whole → new ++ spelled (drop (i + 1) ops) ≡ whole
spelled-more ops i d old new whole lt made so =
    ap (λ (x : List ℕ). x ++ spelled (drop (i + 1) ops)) made ∙ append_assoc old _ _ ∙ ap (λ (x : List ℕ). old ++ x) (sym (spelled-drop ops i d lt)) ∙ so

pub spelled-longer : (ops : List Op) (i : ℕ) (d : Op) (n m whole : ℕ) → i < length ops → m ≡ n + length (spelling (get_or ops i d)) → n + length (spelled (drop i ops)) ≡ whole → m + length (spelled (drop (i + 1) ops)) ≡ whole
spelled-longer ops i d n m whole lt made so =
    let e : length (spelled (drop i ops)) ≡ length (spelling (get_or ops i d)) + length (spelled (drop (i + 1) ops)) = ap length (spelled-drop ops i d lt) ∙ length-append (spelling (get_or ops i d)) _ in
    omega (arith, made, so, e)

pub spelled-all : (ops : List Op) (i : ℕ) (old whole : List ℕ) → length ops ≤ i → old ++ spelled (drop i ops) ≡ whole → old ≡ whole
spelled-all ops i old whole le so = sym (append-nil old) ∙ ap (λ (xs : List Op). old ++ spelled xs) (sym (drop_all i ops le)) ∙ so

pub spelled-whole : (ops : List Op) (i n whole : ℕ) → length ops ≤ i → n + length (spelled (drop i ops)) ≡ whole → n ≡ whole
spelled-whole ops i n whole le so = let e : length (spelled (drop i ops)) ≡ 0 = ap (λ (xs : List Op). length (spelled xs)) (drop_all i ops le) in omega (arith, e, so)

pub three-behind : (old x y z : List ℕ) → ((old ++ x) ++ y) ++ z ≡ old ++ (x ++ (y ++ z))
three-behind old x y z = append_assoc (old ++ x) y z ∙ append_assoc old x (y ++ z)
