-- Keys tell maps apart.
use Rattle.std.proofs.Common.{◌≡◌, ◌≢◌, ◌⊎◌, inl, inr, ℕ, ◌+◌, ◌*◌, ◌<◌, List, length, get_or, set, Option, Some, None, refl, sym, subst, ap, ◌∙◌, arith, get_or-set_same, get_or-set_other, length-set}
use Rattle.machines.specs.Prelude.{Map, IsMap, IsHeld}
use Rattle.plan_form.specs.Prelude.{Problem, IsFullOver, IsAt, map_at, content_key, key, IsIndex}
use Rattle.plan_form.proofs.Indexes.{below-split, map_at-is, map_at-at, map-once}

key-small : (x : Option ℕ) → IsHeld x → content_key x < 33
key-small None h = omega arith
key-small (Some g) h = omega (arith, h)

content-once : (x y : Option ℕ) → content_key x ≡ content_key y → x ≡ y
content-once None None e = refl
content-once None (Some h) e = absurd (omega (arith, e))
content-once (Some g) None e = absurd (omega (arith, e))
content-once (Some g) (Some h) e = ap Some (omega (arith, e))

digits : (a b c x y z : ℕ) → a < 33 → b < 33 → c < 33 → x < 33 → y < 33 → z < 33 → (a * 33 + b) * 33 + c ≡ (x * 33 + y) * 33 + z → (a ≡ x) × (b ≡ y) × (c ≡ z)
digits a b c x y z la lb lc lx ly lz e = (omega arith, omega arith, omega arith)

key-once : (m n : Map) → IsMap m → IsMap n → key m ≡ key n → m ≡ n
key-once m n h k e =
    let d = digits _ _ _ _ _ _ (key-small m.ebx h.ebx) (key-small m.esi h.esi) (key-small m.edi h.edi) (key-small n.ebx k.ebx) (key-small n.esi k.esi) (key-small n.edi k.edi) e in
    let a = content-once m.ebx n.ebx d.0 in let b = content-once m.esi n.esi d.1 in let c = content-once m.edi n.edi d.2 in
    ap (λ (x : Option ℕ). let w : Map = record { ebx = x; esi = m.esi; edi = m.edi } in w) a
    ∙ ap (λ (x : Option ℕ). let w : Map = record { ebx = n.ebx; esi = x; edi = m.edi } in w) b
    ∙ ap (λ (x : Option ℕ). let w : Map = record { ebx = n.ebx; esi = n.esi; edi = x } in w) c

pub record IsPartIndex (q : Problem) (table : List ℕ) (n : ℕ) : Type 0 where
  pub len : length table ≡ 35937
  pub at : (i : ℕ) → i < n → get_or table (key (map_at q i)) 0 ≡ i

key-fits : (m : Map) → IsMap m → key m < 35937
key-fits m h = let a = key-small m.ebx h.ebx in let b = key-small m.esi h.esi in let c = key-small m.edi h.edi in omega arith

pub map-small : (q : Problem) (candidates : List ℕ) (price : ℕ → ℕ → ℕ) → IsFullOver q candidates price → (i : ℕ) → i < length q.maps.items → IsMap (map_at q i)
map-small q candidates price full i inside = let a = map_at-at q i inside in ((full.maps (map_at q i)).0 (i, a.within, a.is)).is_map

pub index-more : (q : Problem) (candidates : List ℕ) (price : ℕ → ℕ → ℕ) → IsFullOver q candidates price → (table : List ℕ) (n k : ℕ) → n < length q.maps.items → k ≡ key (map_at q n)
    → IsPartIndex q table n → IsPartIndex q (set table k n) (n + 1)
index-more q candidates price full table n k within is h = record {
  len = length-set table k n ∙ h.len;
  at = λ i low. go i (below-split i n low);
}
  where
    small : (i : ℕ) → i < length q.maps.items → IsMap (map_at q i)
    small i inside = map-small q candidates price full i inside

    go : (i : ℕ) → (i < n) ⊎ (i ≡ n) → get_or (set table k n) (key (map_at q i)) 0 ≡ i
    go i (inl less) =
        let inside : i < length q.maps.items = omega (arith, less, within) in
        let ne : key (map_at q i) ≢ k = λ e.
        let same = key-once (map_at q i) (map_at q n) (small i inside) (small n within) (e ∙ is) in
        let once = map-once q candidates price full (map_at q n) i n (subst (λ m. IsAt q m i) same (map_at-at q i inside)) (map_at-at q n within) in
        omega (arith, once, less) in
        get_or-set_other table k (key (map_at q i)) n 0 ne ∙ h.at i less
    go i (inr e) =
        let fits : k < length table = let f = key-fits (map_at q n) (small n within) in omega (arith, f, is, h.len) in
        subst (λ j. get_or (set table k n) (key (map_at q j)) 0 ≡ j) (sym e) (subst (λ x. get_or (set table k n) x 0 ≡ n) is (get_or-set_same table k n 0 fits))

pub index-found : (q : Problem) (table : List ℕ) (m : Map) (i : ℕ) → IsIndex q table → IsAt q m i → get_or table (key m) 0 ≡ i
index-found q table m i h at = ap (λ n. get_or table (key n) 0) (sym (map_at-is q m i at)) ∙ h.at i at.within
