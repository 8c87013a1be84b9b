-- How many words use a GPR, and GPRs in order of that.
use Rattle.std.proofs.Common.{◌≡◌, inl, inr, ℕ, ◌+◌, ◌-◌, ◌<◌, ◌≤◌, ◌==◌, true, List, [], ◌∷◌, ◌++◌, length, get_or, filter, refl, sym, subst, ◌∙◌, arith}
use Rattle.std.specs.List.{Contains, flat_map, range_with_len}
use Rattle.std.proofs.lemmas.Bool.Decides.{nat_tests}
use Rattle.std.proofs.lemmas.List.Kept.{AllPairs-filter}
use Rattle.offer_make.specs.Candidates.{Uses, IsCount, IsUsedBefore, AreInOrderOfUse}
use Rattle.offer_make.proofs.Elements.{none, first, later, cons-cases, flat_map-from, flat_map-to, filter-from, filter-to, range-from, range-to, pairs-with, pairs-flat_map, pairs-range, range-more}

module _ (g : ℕ) where
  pub count-once : (words : List ℕ) (m n : ℕ) → IsCount words g m → IsCount words g n → m ≡ n
  count-once [] m n a b = a ∙ sym b
  count-once (word ∷ words) m n (inl a) (inl b) = let e = count-once words a.1.0 b.1.0 a.1.1 b.1.1 in omega (arith, e, a.1.2, b.1.2)
  count-once (word ∷ words) m n (inl a) (inr b) = absurd (b.0 a.0)
  count-once (word ∷ words) m n (inr a) (inl b) = absurd (a.0 b.0)
  count-once (word ∷ words) m n (inr a) (inr b) = count-once words m n a.1 b.1

  pub count-more : (words : List ℕ) (word n : ℕ) → IsCount words g n → Uses word g → IsCount (words ++ word ∷ []) g (n + 1)
  count-more [] word n c u = inl (u, (0, refl, omega (arith, c)))
  count-more (w ∷ words) word n (inl c) u = inl (c.0, (c.1.0 + 1, count-more words word c.1.0 c.1.1 u, omega (arith, c.1.2)))
  count-more (w ∷ words) word n (inr c) u = inr (c.0, count-more words word n c.1 u)

  pub count-same : (words : List ℕ) (word n : ℕ) → IsCount words g n → ¬ (Uses word g) → IsCount (words ++ word ∷ []) g n
  count-same [] word n c u = inr (u, c)
  count-same (w ∷ words) word n (inl c) u = inl (c.0, (c.1.0, count-same words word c.1.0 c.1.1 u, c.1.2))
  count-same (w ∷ words) word n (inr c) u = inr (c.0, count-same words word n c.1 u)

  pub some-used : (words : List ℕ) (n : ℕ) → IsCount words g n → 0 < n → (word : ℕ) × Contains words word × Uses word g
  some-used [] n c more = absurd (omega (arith, c, more))
  some-used (word ∷ words) n (inl c) more = (word, first word words, c.0)
  some-used (word ∷ words) n (inr c) more = let r = some-used words n c.1 more in (r.0, later word r.0 words r.1, r.2)

  pub used-some : (words : List ℕ) (n word : ℕ) → IsCount words g n → Contains words word → Uses word g → 0 < n
  used-some [] n word c has u = absurd (none word has)
  used-some (w ∷ words) n word (inl c) has u = omega (arith, c.1.2)
  used-some (w ∷ words) n word (inr c) has u = elim (cons-cases w word words has) [
    | inl e ↦ absurd (c.0 (subst (λ x. Uses x g) (sym e) u))
    | inr rest ↦ used-some words n word c.1 rest u
  ]

module _ (counts : List ℕ) where
  abbrev pub with_count : ℕ → List ℕ
  with_count n = filter (λ g. get_or counts g 0 == n) (range_with_len 0 (length counts))

  abbrev pub ordered_to : ℕ → List ℕ
  ordered_to n = flat_map (λ fewer. with_count (64 - fewer)) (range_with_len 0 n)

  pub ordered-more : (n : ℕ) → ordered_to (n + 1) ≡ ordered_to n ++ with_count (64 - n)
  ordered-more n = range-more (λ fewer. with_count (64 - fewer)) n

  counted : (n g : ℕ) → Contains (with_count n) g → (g < length counts) × (get_or counts g 0 ≡ n)
  counted n g c =
      let f = filter-to (λ g. get_or counts g 0 == n) (range_with_len 0 (length counts)) g c in
      (range-to (length counts) g f.0, is (get_or counts g 0) n f.1)
    where
      is : (a b : ℕ) → (a == b) ≡ true → a ≡ b
      is a b e = grind (arith, nat_tests)

  module _ (words : List ℕ) (len : length counts ≡ 32) (are : (g : ℕ) → g < 32 → IsCount words g (get_or counts g 0)) (low : (g : ℕ) → g < 32 → get_or counts g 0 ≤ 64) where
    before : (x y m n c d : ℕ) → m ≡ c → n ≡ d → c ≡ 64 - x → d ≡ 64 - y → x < y → y < 64 → n < m
    before x y m n c d em en ec ed less small = omega arith

    pub in-order : AreInOrderOfUse words (ordered_to 64)
    in-order = record {
      each = λ g. (
        λ c. (let f = flat_map-to (λ fewer. with_count (64 - fewer)) (range_with_len 0 64) g c in
            let r = range-to 64 f.0 f.1 in let k = counted (64 - f.0) g f.2 in
            let small : g < 32 = omega (arith, len, k.0) in
            (small, some-used g words (get_or counts g 0) (are g small) (omega (arith, r, k.1)))),
        λ h. (let c = get_or counts g 0 in
            let some = used-some g words c h.1.0 (are g h.0) h.1.1 h.1.2 in
            let most = low g h.0 in
            flat_map-from (λ fewer. with_count (64 - fewer)) (range_with_len 0 64) (64 - c) g (range-from 64 (64 - c) (omega (arith, some)))
            (filter-from (λ g. get_or counts g 0 == 64 - (64 - c)) (range_with_len 0 (length counts)) g (range-from (length counts) g (omega (arith, len, h.0))) (equal c (64 - (64 - c)) (omega (arith, most))))),
      );
      in_order = pairs-flat_map (IsUsedBefore words) (λ fewer. with_count (64 - fewer)) (λ a b. a < b) (range_with_len 0 64) (pairs-range 64)
          (λ fewer c. pairs-with (IsUsedBefore words) (λ a b. a < b) (with_count (64 - fewer))
          (AllPairs-filter (λ a b. a < b) (λ g. get_or counts g 0 == 64 - fewer) (range_with_len 0 (length counts)) (pairs-range (length counts)))
          (λ a b less ca cb m n im in'. (let ka = counted (64 - fewer) a ca in let kb = counted (64 - fewer) b cb in
          let em = count-once a words m (get_or counts a 0) im (are a (omega (arith, len, ka.0))) in let en = count-once b words n (get_or counts b 0) in' (are b (omega (arith, len, kb.0))) in
          inr (omega (arith, em, en, ka.1, kb.1), less))))
          (λ x y a b less cx cy ca cb m n im in'. (let ka = counted (64 - x) a ca in let kb = counted (64 - y) b cb in
          let em = count-once a words m (get_or counts a 0) im (are a (omega (arith, len, ka.0))) in let en = count-once b words n (get_or counts b 0) in' (are b (omega (arith, len, kb.0))) in
          let ry = range-to 64 y cy in
          inl (before x y m n (get_or counts a 0) (get_or counts b 0) em en ka.1 kb.1 less ry)));
    }
      where
        equal : (a b : ℕ) → a ≡ b → (a == b) ≡ true
        equal a b e = grind (arith, nat_tests)
