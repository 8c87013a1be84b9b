-- Maps by their numbers.
use Rattle.std.proofs.Common.{◌≡◌, ◌≢◌, ◌⊎◌, inl, inr, ℕ, zero, suc, ◌+◌, ◌*◌, ◌/◌, ◌%◌, ◌<◌, ◌≤◌, ◌==◌, true, false, List, [], ◌∷◌, ◌++◌, length, get_or, Option, Some, None, ◌↔◌, refl, sym, subst, ap, ◌∙◌, arith, eq-eqb}
use Rattle.std.specs.List.{All, AllPairs, Contains, position_or_len}
use Rattle.std.proofs.lemmas.Bool.{cases_lt, false≢true}
use Rattle.std.proofs.lemmas.Bool.Decides.{nat_tests}
use Rattle.std.proofs.lemmas.List.{get_or_append_left, get_or_at, length_push}
use Rattle.std.proofs.lemmas.List.Elements.{All-contains, Contains-append_left, Contains-append_cases, Contains-push, Contains-get_or}
use Rattle.std.proofs.lemmas.List.Sums.{position_or_len_is, passes_at_first, fails_before_first}
use Rattle.machines.specs.Prelude.{Map, IsHeld}
use Rattle.ppc_isa.specs.Map.{AreApart}
use Rattle.plan_form.specs.Prelude.{IsContentOf, IsMapOver, content_number, map_number}
use Rattle.offer_make.specs.Maps.{content_of, AreMapsOver}

same : (g h : ℕ) → (g == h) ≡ true → g ≡ h
same g h e = grind (arith, nat_tests)

differ : (g h : ℕ) → g ≢ h → (g == h) ≡ false
differ g h ne = grind (arith, nat_tests)

module _ (candidates : List ℕ) where
  position-within : (g : ℕ) → Contains candidates g → position_or_len (λ h. h == g) candidates < length candidates
  position-within g h =
      elim (cases_lt h.0 (position_or_len (λ h. h == g) candidates)) [
        | inl before ↦
            let fails = fails_before_first (λ h. h == g) candidates h.0 g before in
            absurd (false≢true (sym fails ∙ ap (λ x. x == g) h.2 ∙ eq-eqb g g refl))
        | inr low ↦ omega (arith, low, h.1)
      ]

  pub content-low : (x : Option ℕ) → IsContentOf candidates x → content_number candidates x ≤ length candidates
  content-low None h = omega arith
  content-low (Some g) h = let k = position-within g h in omega (arith, k)

  pub content-suc : (n : ℕ) → content_of candidates (n + 1) ≡ Some (get_or candidates n 0)
  content-suc n = let e : suc n ≡ n + 1 = omega arith in subst (λ k. content_of candidates k ≡ Some (get_or candidates n 0)) e refl

  pub content-back : (x : Option ℕ) → IsContentOf candidates x → content_of candidates (content_number candidates x) ≡ x
  content-back None h = refl
  content-back (Some g) h =
      let found = passes_at_first (λ h. h == g) candidates 0 (position-within g h) in
      content-suc (position_or_len (λ h. h == g) candidates) ∙ ap Some (same _ g found)

  pub content-is : (n : ℕ) → n ≤ length candidates → IsContentOf candidates (content_of candidates n)
  content-is zero low = tt
  content-is (suc n) low = Contains-get_or candidates n 0 (omega (arith, low))

  pub content-number : AllPairs (λ g h. g ≢ h) candidates → (n : ℕ) → n ≤ length candidates → content_number candidates (content_of candidates n) ≡ n
  content-number distinct zero low = refl
  content-number distinct (suc n) low =
      let at = position_or_len_is (λ h. h == get_or candidates n 0) candidates n 0 (omega (arith, low))
      (λ k before. differ (get_or candidates k 0) (get_or candidates n 0) (distinct k n 0 before (omega (arith, low))))
      (λ within. eq-eqb (get_or candidates n 0) (get_or candidates n 0) refl) in
      omega (arith, at)

  held : All (λ g. g < 32) candidates → (x : Option ℕ) → IsContentOf candidates x → IsHeld x
  held small None h = tt
  held small (Some g) h = All-contains (λ g. g < 32) candidates g small h

  digits : (a b c n : ℕ) → a ≤ 6 → b ≤ 6 → c ≤ 6 → 49 * a + 7 * b + c ≡ n → (a ≡ n / 49) × (b ≡ n / 7 % 7) × (c ≡ n % 7)
  digits a b c n la lb lc e = (omega arith, omega arith, omega arith)

  -- the maps of the numbers below n
  pub record AreBelow (n : ℕ) (maps : List Map) : Type 0 where
    pub each : (m : Map) → Contains maps m ↔ (IsMapOver candidates m × (map_number candidates m < n))
    pub in_order : AllPairs (λ m k. map_number candidates m < map_number candidates k) maps

  record IsNumbered (m : Map) (n : ℕ) : Type 0 where
    pub ebx : content_of candidates (n / 49) ≡ m.ebx
    pub esi : content_of candidates (n / 7 % 7) ≡ m.esi
    pub edi : content_of candidates (n % 7) ≡ m.edi
    pub x : n / 49 ≤ length candidates
    pub y : n / 7 % 7 ≤ length candidates
    pub z : n % 7 ≤ length candidates

  module _ (few : length candidates ≤ 6) where
    numbered : (m : Map) (n : ℕ) → IsMapOver candidates m → map_number candidates m ≡ n → IsNumbered m n
    numbered m n over e =
        let a = content-low m.ebx over.ebx in let b = content-low m.esi over.esi in let c = content-low m.edi over.edi in
        let d = digits _ _ _ n (omega (arith, a, few)) (omega (arith, b, few)) (omega (arith, c, few)) e in
        record {
          ebx = ap (content_of candidates) (sym d.0) ∙ content-back m.ebx over.ebx;
          esi = ap (content_of candidates) (sym d.1) ∙ content-back m.esi over.esi;
          edi = ap (content_of candidates) (sym d.2) ∙ content-back m.edi over.edi;
          x = omega (arith, a, d.0);
          y = omega (arith, b, d.1);
          z = omega (arith, c, d.2);
        }

    pub number-low : (m : Map) → IsMapOver candidates m → map_number candidates m < 343
    number-low m over =
        let a = content-low m.ebx over.ebx in let b = content-low m.esi over.esi in let c = content-low m.edi over.edi in
        omega (arith, a, b, c, few)

    pub number-once : (m k : Map) → IsMapOver candidates m → IsMapOver candidates k → map_number candidates m ≡ map_number candidates k → m ≡ k
    number-once m k over other e =
        let f = numbered m (map_number candidates k) over e in let g = numbered k (map_number candidates k) other refl in
        ap (λ (x : Option ℕ). let w : Map = record { ebx = x; esi = m.esi; edi = m.edi } in w) (sym f.ebx ∙ g.ebx)
        ∙ ap (λ (x : Option ℕ). let w : Map = record { ebx = k.ebx; esi = x; edi = m.edi } in w) (sym f.esi ∙ g.esi)
        ∙ ap (λ (x : Option ℕ). let w : Map = record { ebx = k.ebx; esi = k.esi; edi = x } in w) (sym f.edi ∙ g.edi)

    -- a digit past the candidates
    pub no-digit : (n : ℕ) → (length candidates < n / 49) ⊎ (length candidates < n / 7 % 7) ⊎ (length candidates < n % 7)
        → (m : Map) → IsMapOver candidates m → map_number candidates m ≡ n → ⊥
    no-digit n h m over e =
        let f = numbered m n over e in
        elim h [ inl a ↦ omega (arith, a, f.x) | inr r ↦ elim r [ inl b ↦ omega (arith, b, f.y) | inr c ↦ omega (arith, c, f.z) ] ]

    pub apart-of : (m : Map) (n : ℕ) → IsMapOver candidates m → map_number candidates m ≡ n
        → AreApart (content_of candidates (n / 49)) (content_of candidates (n / 7 % 7)) × AreApart (content_of candidates (n / 49)) (content_of candidates (n % 7))
        × AreApart (content_of candidates (n / 7 % 7)) (content_of candidates (n % 7))
    apart-of m n over e =
        let f = numbered m n over e in (
          subst (λ x. AreApart x (content_of candidates (n / 7 % 7))) (sym f.ebx) (subst (AreApart m.ebx) (sym f.esi) over.is_map.ebx_esi),
          subst (λ x. AreApart x (content_of candidates (n % 7))) (sym f.ebx) (subst (AreApart m.ebx) (sym f.edi) over.is_map.ebx_edi),
          subst (λ x. AreApart x (content_of candidates (n % 7))) (sym f.esi) (subst (AreApart m.esi) (sym f.edi) over.is_map.esi_edi),
        )

    -- the map of a number
    pub made : All (λ g. g < 32) candidates → AllPairs (λ g h. g ≢ h) candidates → (n x y z : ℕ) (m : Map) → x ≡ n / 49 → y ≡ n / 7 % 7 → z ≡ n % 7
        → x ≤ length candidates → y ≤ length candidates → z ≤ length candidates
        → m.ebx ≡ content_of candidates x → m.esi ≡ content_of candidates y → m.edi ≡ content_of candidates z
        → AreApart m.ebx m.esi → AreApart m.ebx m.edi → AreApart m.esi m.edi → IsMapOver candidates m × (map_number candidates m ≡ n)
    made small distinct n x y z m ex ey ez lx ly lz a b c ab ac bc =
        let ix = subst (IsContentOf candidates) (sym a) (content-is x lx) in
        let iy = subst (IsContentOf candidates) (sym b) (content-is y ly) in
        let iz = subst (IsContentOf candidates) (sym c) (content-is z lz) in
        let nx : content_number candidates m.ebx ≡ x = ap (content_number candidates) a ∙ content-number distinct x lx in
        let ny : content_number candidates m.esi ≡ y = ap (content_number candidates) b ∙ content-number distinct y ly in
        let nz : content_number candidates m.edi ≡ z = ap (content_number candidates) c ∙ content-number distinct z lz in (
          record {
            is_map = record { ebx = held small m.ebx ix; esi = held small m.esi iy; edi = held small m.edi iz; ebx_esi = ab; ebx_edi = ac; esi_edi = bc };
            ebx = ix;
            esi = iy;
            edi = iz;
          },
          omega (arith, nx, ny, nz, ex, ey, ez),
        )

    pub below-none : (n : ℕ) (maps : List Map) → AreBelow n maps → ((m : Map) → IsMapOver candidates m → map_number candidates m ≢ n) → AreBelow (n + 1) maps
    below-none n maps h none = record {
      each = λ m. (
        λ inside. let f = (h.each m).0 inside in (f.0, omega (arith, f.1)),
        λ f. (h.each m).1 (f.0, let ne = none m f.0 in omega (arith, f.1, ne)),
      );
      in_order = h.in_order;
    }

    pub below-some : (n : ℕ) (maps new : List Map) (m : Map) → new ≡ maps ++ m ∷ [] → AreBelow n maps → IsMapOver candidates m → map_number candidates m ≡ n → AreBelow (n + 1) new
    below-some n maps new m e h over is = subst (AreBelow (n + 1)) (sym e) (record { each = each; in_order = order })
      where
        single : (k : Map) → Contains (m ∷ []) k → m ≡ k
        single k c = let z : c.0 ≡ 0 = omega (arith, c.1) in ap (λ i. get_or (m ∷ []) i k) (sym z) ∙ c.2

        each : (k : Map) → Contains (maps ++ m ∷ []) k ↔ (IsMapOver candidates k × (map_number candidates k < n + 1))
        each k = (
          λ inside. elim (Contains-append_cases maps (m ∷ []) k inside) [
            | inl c ↦ let f = (h.each k).0 c in (f.0, omega (arith, f.1))
            | inr c ↦ let f = single k c in (subst (IsMapOver candidates) f over, let g = ap (map_number candidates) f in omega (arith, g, is))
          ],
          λ f. elim (cases_lt (map_number candidates k) n) [
            | inl less ↦ Contains-append_left maps (m ∷ []) k ((h.each k).1 (f.0, less))
            | inr more ↦
                let g = number-once m k over f.0 (omega (arith, is, more, f.1)) in
                subst (Contains (maps ++ m ∷ [])) g (Contains-push maps m)
          ],
        )

        order : AllPairs (λ a b. map_number candidates a < map_number candidates b) (maps ++ m ∷ [])
        order i j d less within =
            let size = length_push maps m in
            elim (cases_lt j (length maps)) [
              | inl inside ↦
                  let a = get_or_append_left maps (m ∷ []) d i (omega (arith, less, inside)) in
                  let b = get_or_append_left maps (m ∷ []) d j inside in
                  let k = h.in_order i j d less inside in
                  let ea = ap (map_number candidates) a in let eb = ap (map_number candidates) b in
                  omega (arith, k, ea, eb)
              | inr past ↦
                  let last : j ≡ length maps = omega (arith, past, within, size) in
                  let a = get_or_append_left maps (m ∷ []) d i (omega (arith, less, last)) in
                  let b = ap (λ k. get_or (maps ++ m ∷ []) k d) last ∙ get_or_at maps m [] d (length maps) refl in
                  let f = (h.each (get_or maps i d)).0 (Contains-get_or maps i d (omega (arith, less, last))) in
                  let ea = ap (map_number candidates) a in let eb = ap (map_number candidates) b in
                  omega (arith, f.1, ea, eb, is)
            ]

    pub below-begins : AreBelow 0 []
    below-begins = record { each = λ m. (λ inside. absurd (omega (arith, inside.1)), λ f. absurd (omega (arith, f.1))); in_order = λ i j d less within. absurd (omega (arith, within)) }

    pub below-all : (n : ℕ) (maps : List Map) → 343 ≤ n → AreBelow n maps → AreMapsOver candidates maps
    below-all n maps end h = record {
      each = λ m. (λ inside. ((h.each m).0 inside).0, λ over. (h.each m).1 (over, let k = number-low m over in omega (arith, k, end)));
      in_order = h.in_order;
    }
