-- One word more that may be a single.
use Rattle.std.proofs.Common.{◌≡◌, ℕ, zero, suc, ◌+◌, List, [], ◌∷◌, ◌++◌, Bool, true, false, cond, not, filter, map, sym, ◌∙◌, ap, arith}
use Rattle.std.specs.Prelude.{slice_index_or}
use Rattle.std.specs.List.{range_with_len}
use Rattle.std.proofs.lemmas.List.{append-nil, map-append}
use Rattle.std.proofs.lemmas.List.Elements.{filter-append}
use Rattle.block_find.specs.Prelude.{alone, singles_of}

range_more : (a n : ℕ) → range_with_len a (n + 1) ≡ range_with_len a n ++ (a + n) ∷ []
range_more a zero = let e : a + 0 ≡ a = omega arith in ap (λ (x : ℕ). x ∷ []) (sym e)
range_more a (suc n) =
    let e : suc n + 1 ≡ suc (n + 1) = omega arith in
    let f : a + 1 + n ≡ a + suc n = omega arith in
    ap (λ (m : ℕ). range_with_len a m) e ∙ ap (λ (xs : List ℕ). a ∷ xs) (range_more (a + 1) n ∙ ap (λ (x : ℕ). range_with_len (a + 1) n ++ x ∷ []) f)

map_more : (xs ys : List ℕ) → map alone (xs ++ ys) ≡ map alone xs ++ map alone ys
map_more xs ys = map-append alone xs ys

module _ (leads : List Bool) (n : ℕ) where
  abbrev is_single : ℕ → Bool
  is_single k = not (slice_index_or leads k false)

  step : singles_of leads (n + 1) ≡ singles_of leads n ++ map alone (cond (is_single n) (n ∷ []) [])
  step =
      let e : 0 + n ≡ n = omega arith in
      ap (λ (xs : List ℕ). map alone (filter is_single xs)) (range_more 0 n ∙ ap (λ (x : ℕ). range_with_len 0 n ++ x ∷ []) e)
      ∙ ap (λ (xs : List ℕ). map alone xs) (filter-append is_single (range_with_len 0 n) (n ∷ []))
      ∙ map_more (filter is_single (range_with_len 0 n)) (cond (is_single n) (n ∷ []) [])

  pub single_more : slice_index_or leads n false ≡ false → singles_of leads (n + 1) ≡ singles_of leads n ++ alone n ∷ []
  single_more off = step ∙ ap (λ (x : Bool). singles_of leads n ++ map alone (cond (not x) (n ∷ []) [])) off

  pub single_less : slice_index_or leads n false ≡ true → singles_of leads (n + 1) ≡ singles_of leads n
  single_less on = step ∙ ap (λ (x : Bool). singles_of leads n ++ map alone (cond (not x) (n ∷ []) [])) on ∙ append-nil _
