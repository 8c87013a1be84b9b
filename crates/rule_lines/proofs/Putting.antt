-- Where a laid op puts its results is where its line puts them; all else stays. This project's own.
use Rattle.std.proofs.Common.{◌≡◌, ◌≢◌, ℕ, zero, suc, ◌+◌, ◌-◌, ◌*◌, ◌/◌, ◌%◌, ◌^◌, ◌<◌, ◌≤◌, ◌⊎◌, inl, inr, ⊎_elim, Bool, true, false, cond, if◌then◌else◌, eqb, nat_lt, List, [], ◌∷◌, ◌++◌, slice_get, Option, Some, None, Contains, IsBitSet, refl, sym, ap, ◌∙◌, subst, arith}
use Rattle.std.specs.List.{flat_map}
use Rattle.std.proofs.lemmas.Bool.Decides.{nat_tests}
use Rattle.std.proofs.lemmas.Option.{slice_get_within}
use Rattle.std.proofs.lemmas.List.{append-nil}
use Rattle.machines.specs.Prelude.{Operand, Reg, Abs, Base, Pair, Flags, HostEffect, HostValues, update, load, store, store_big, Rights, Core, place_of, put_at, puts, byte_for, eax, ecx, edx}
use Rattle.machines.specs.Host.{Memory}
use Rattle.symbolic_tiles.specs.Prelude.{span}
use Rattle.symbolic_tiles.proofs.Memory.{update_same, update_other, update_keeps, store_other, store_byte, load_apart}
use Rattle.rule_body.specs.declared.goal.Goal.{Goal}
use Rattle.rule_body.specs.declared.line.Hole.{Hole}
use Rattle.rule_body.specs.declared.line.HostLine.{HostLine}
use Rattle.rule_body.specs.Lines.{IsKept}
use Rattle.rule_body.specs.Prelude.{IsHome}
use Rattle.rule_soundness.specs.Prelude.{Match, body_slot, summed}
use Rattle.rule_soundness.specs.Shapes.{Destination, Nowhere, ToOperand, ToByte, ToBoth, ToHigh, put_result}
use Rattle.row_runs.specs.Accesses.{Accessed, turned}
use Rattle.row_runs.specs.Bodies.{result_accesses}
use Rattle.place_circuits.specs.declared.results.Results.TheVariants.{Lowest, Bytes}
use Rattle.place_circuits.specs.Places.{with_place}
use Rattle.place_circuits.specs.Sources.{IsWidth, address_value}
use Rattle.place_circuits.specs.Results.{with_lowest, with_bytes, put_values}
use Rattle.row_circuits.specs.Bodies.{stored_to}
use Rattle.rule_places.specs.Accesses.{stores_at, behind_access, behind_accesses}
use Rattle.rule_places.specs.Hosts.{IsNoHome}
use Rattle.rule_lines.specs.Lines.{register_place, displacement_hole, home_results, address_for, results_for}
use Rattle.rule_lines.specs.Runs.{AreAnswered}
use Rattle.rule_lines.proofs.Registers.{IsNamed, places_apart, place_low, place_no_home}
use Rattle.rule_lines.proofs.Fits.{Fits, FitsSum, Kept as KeptHome, FitsDestination}
use Rattle.rule_lines.proofs.Laid.{laid_operand, laid_destination, IsTamePut, AreWords, destination_span}
use Rattle.rule_lines.proofs.Memory.{width_few, stored_byte, load_put, with_other, with_same_at, put_byte_at, put_byte_past, store_turned, each_in_span, span_has}
use Rattle.rule_lines.proofs.Reading.{IsFilled, laid_reg, laid_abs, IsFar, slots, Setting, Shown, home_at, home_each, sum_at, sum_span}

-- the access of a store
abbrev pub stored_at : ℕ → ℕ → ℕ → List Accessed
stored_at size a v = record { loads = false; width = size; address = a; stored = turned size v } ∷ []

-- memory behind accesses, at an address
big_same : (n a v : ℕ) (f g : ℕ → ℕ) (x : ℕ) → f x ≡ g x → store_big n a v f x ≡ store_big n a v g x
unfolding store_big
big_same zero a v f g x e = e
big_same (suc n) a v f g x e = big_same n (a + 1) v (update f (a % 2 ^ 32) (v / 256 ^ n % 256)) (update g (a % 2 ^ 32) (v / 256 ^ n % 256)) x (ap (λ y. cond (eqb x (a % 2 ^ 32)) (v / 256 ^ n % 256) y) e)

access_same : (y : Accessed) (f g : ℕ → ℕ) (x : ℕ) → f x ≡ g x → behind_access y f x ≡ behind_access y g x
access_same y f g x e = by_test y.loads
  where
    by_test : (b : Bool) → (if b then f else store_big y.width y.address y.stored f) x ≡ (if b then g else store_big y.width y.address y.stored g) x
    by_test true = e
    by_test false = big_same y.width y.address y.stored f g x e

pub behind_same : (ys : List Accessed) (f g : ℕ → ℕ) (x : ℕ) → f x ≡ g x → behind_accesses ys f x ≡ behind_accesses ys g x
unfolding behind_accesses
behind_same [] f g x e = e
behind_same (y ∷ ys) f g x e = behind_same ys (behind_access y f) (behind_access y g) x (access_same y f g x e)

pub behind_append : (xs ys : List Accessed) (f : ℕ → ℕ) (x : ℕ) → behind_accesses (xs ++ ys) f x ≡ behind_accesses ys (behind_accesses xs f) x
unfolding behind_accesses
behind_append [] ys f x = refl
behind_append (y ∷ xs) ys f x = behind_append xs ys (behind_access y f) x

is_same : (x n : ℕ) → (x ≡ n) ⊎ (x ≢ n)
is_same x n = by_test (eqb x n) refl
  where
    by_test : (b : Bool) → eqb x n ≡ b → (x ≡ n) ⊎ (x ≢ n)
    by_test true e = inl (grind (arith, nat_tests))
    by_test false e = inr (λ q. grind (arith, nat_tests))

is_within : (o q size : ℕ) → ((i : ℕ) × (i < size) × (q ≡ o + i)) ⊎ ((i : ℕ) → i < size → q ≢ o + i)
is_within o q zero = inr (λ i lt e. omega (arith, lt))
is_within o q (suc n) = ⊎_elim (λ w. inl (w.0, omega (arith, w.1), w.2)) (λ no. ⊎_elim (λ e. inl (n, omega arith, e)) (λ ne. inr (λ i lt e. ⊎_elim (λ (h : i ≡ n). ne (e ∙ ap (λ k. o + k) h)) (λ h. no i (omega (arith, lt, h)) e) (is_same i n))) (is_same q (o + n))) (is_within o q n)

is_low : (o : ℕ) → o < 128 → nat_lt o 128 ≡ true
is_low o lt = grind (arith, nat_tests)

is_high : (o : ℕ) → 128 ≤ o → nat_lt o 128 ≡ false
is_high o le = grind (arith, nat_tests)

far_apart : (area i a : ℕ) → i < 4096 → IsFar area a → area + i ≢ a
far_apart area i a lt (inl low) e = absurd (omega (arith, lt, low, e))
far_apart area i a lt (inr high) e = absurd (omega (arith, lt, high, e))

-- the lowest byte of a register is another
byte_lowest : (r b : ℕ) → r < 2 ^ 32 → b < 256 → 256 * (r / 256) + b ≡ with_lowest 1 b r
byte_lowest r b lr lb = omega (arith, lr, lb)

module _ (goal : Goal) (m : Match) (area : ℕ) (host : Rights) where
  -- Of registers and memory there is kept what is no home of the body: outside the home page memory is as behind these accesses.
  pub record Keeps (regs bytes regs' bytes' : ℕ → ℕ) (accesses : List Accessed) : Type 0 where
    pub outside : (a : ℕ) → IsFar area a → bytes' a ≡ behind_accesses accesses bytes a
    pub page : (i : ℕ) → i < 4096 → IsNoHome goal i → bytes' (area + i) ≡ bytes (area + i)
    pub dead : (b : ℕ) → 136 ≤ b → b < 148 → IsBitSet goal.dead.bits (b - 128) → bytes' (area + b) ≡ bytes (area + b)
    pub registers : (r : ℕ) → r ≢ eax → r ≢ ecx → r ≢ edx → ((k : ℕ) → slice_get (slots goal m area host) k ≡ Some true → r ≢ body_slot (slots goal m area host) k) → regs' r ≡ regs r

  pub kept_same : (regs bytes : ℕ → ℕ) → Keeps regs bytes regs bytes []
  unfolding behind_accesses
  kept_same regs bytes = record { outside = λ a far. refl; page = λ i lt no. refl; dead = λ b le lt is. refl; registers = λ r a c d no. refl }

  pub kept_then : (regs bytes regs' bytes' regs'' bytes'' : ℕ → ℕ) (xs ys : List Accessed) → Keeps regs bytes regs' bytes' xs → Keeps regs' bytes' regs'' bytes'' ys → Keeps regs bytes regs'' bytes'' (xs ++ ys)
  kept_then regs bytes regs' bytes' regs'' bytes'' xs ys k l = record {
    outside = λ a far. l.outside a far ∙ behind_same ys bytes' (behind_accesses xs bytes) a (k.outside a far) ∙ sym (behind_append xs ys bytes a);
    page = λ i lt no. l.page i lt no ∙ k.page i lt no;
    dead = λ b le lt is. l.dead b le lt is ∙ k.dead b le lt is;
    registers = λ r a c d no. l.registers r a c d no ∙ k.registers r a c d no;
  }

  -- behind a write the places show what there is, and the rest is kept
  pub record Put (regs bytes regs' bytes' t' : ℕ → ℕ) (accesses : List Accessed) : Type 0 where
    pub shown : Shown goal m area host regs' bytes' t'
    pub keeps : Keeps regs bytes regs' bytes' accesses

  module _ (set : Setting goal m area host) where
    abbrev here : List Bool
    here = slots goal m area host

    named_not : (r q : ℕ) → IsNamed here q → r ≢ eax → r ≢ ecx → r ≢ edx → ((k : ℕ) → slice_get here k ≡ Some true → r ≢ body_slot here k) → r ≢ q
    named_not r q (inl lt) a c d none e = below r (omega (arith, lt, e)) a c d
      where
        below : (r : ℕ) → r < 3 → r ≢ 0 → r ≢ 1 → r ≢ 2 → ⊥
        below zero lt a c d = a refl
        below (suc zero) lt a c d = c refl
        below (suc (suc zero)) lt a c d = d refl
        below (suc (suc (suc r))) lt a c d = omega (arith, lt)
    named_not r q (inr w) a c d none e = none w.0 w.1 (e ∙ w.2)

    module _ (regs bytes t : ℕ → ℕ) (shown : Shown goal m area host regs bytes t) where
      -- in a register
      pub put_register : (r v : ℕ) → IsNamed here r → v < 2 ^ 32 → Put regs bytes (update regs r v) bytes (with_place (register_place here r) v t) []
      unfolding behind_accesses
      put_register r v is lt = record {
        shown = record {
          named = λ q u. ⊎_elim (λ (e : q ≡ r). ap (update regs r v) e ∙ update_same regs r v ∙ sym (with_same_at (register_place here r) v t (register_place here q) (ap (register_place here) e)))
              (λ ne. update_other regs r v q ne ∙ shown.named q u ∙ sym (with_other (register_place here r) v t (register_place here q) (λ e. ne (places_apart here q r set.few set.three u is e)))) (is_same q r);
          at_home = λ k h. shown.at_home k h ∙ sym (with_other (register_place here r) v t k (λ e. place_no_home here r k set.few set.three is h (sym e)));
          homes = λ i l. shown.homes i l ∙ sym (with_other (register_place here r) v t (32 + i) (λ e. let low = place_low here r set.few set.three is in omega (arith, low, e)));
          constants = λ j h. with_other (register_place here r) v t (20 + j) (λ e. let low = place_low here r set.few set.three is in omega (arith, low, e)) ∙ shown.constants j h;
          words = λ q. update_keeps (λ n. n < 2 ^ 32) regs r v q lt (shown.words q);
          small = shown.small;
        };
        keeps = record {
          outside = λ a far. refl;
          page = λ i l no. refl;
          dead = λ b le l d. refl;
          registers = λ q a c d no. update_other regs r v q (named_not q r is a c d no);
        };
      }

      -- in the home page
      home_others : (size o v : ℕ) → IsWidth size → IsHome here o size → (x : ℕ) → ((i : ℕ) → i < size → x ≢ o + i) → store size (area + o) v bytes (area + x) ≡ bytes (area + x)
      home_others size o v is home x far = store_other size (area + o) v bytes (area + x) (λ i lt e. far i lt (cancel x (o + i) (e ∙ (home_at goal m area host set size o i is home lt).0)))
        where
          cancel : (x y : ℕ) → area + x ≡ area + y → x ≡ y
          cancel x y e = omega (arith, e)

      home_keeps : (size o v : ℕ) → IsWidth size → IsHome here o size → IsKept goal.dead.bits o size → Keeps regs bytes regs (store size (area + o) v bytes) []
      unfolding behind_accesses
      home_keeps size o v is home kept = record {
        outside = λ a far. store_other size (area + o) v bytes a (λ i lt e. let w = home_at goal m area host set size o i is home lt in far_apart area (o + i) a (let l = w.1 in omega (arith, l)) far (sym (e ∙ w.0)));
        page = λ i lt no. home_others size o v is home i (λ j l e. apart home i j no l e);
        dead = λ b le lt d. home_others size o v is home b (λ j l e. kept b (omega (arith, e)) (omega (arith, e, l)) le d);
        registers = λ r a c d no. refl;
      }
        where
          apart : IsHome here o size → (i j : ℕ) → IsNoHome goal i → j < size → i ≡ o + j → ⊥
          apart (inl w) i j none l e =
              let f = width_few size is in
              let q = w.1 in
              ⊎_elim (λ (x : i < 4 * (w.0 + 1)). absurd (omega (arith, x, e, q))) (λ (x : 4 * (w.0 + 1) + 4 ≤ i). absurd (omega (arith, x, e, q, l, f))) (none.no_parameter w.0 w.2)
          apart (inr w) i j none l e =
              let a = w.0 in
              let b = w.1 in
              ⊎_elim (λ (x : i < 128). absurd (omega (arith, x, e, a))) (λ (x : 148 ≤ i). absurd (omega (arith, x, e, b, l))) none.no_other

      home_shown : (size o v high : ℕ) → IsWidth size → IsHome here o size → v < 2 ^ 32 → Shown goal m area host regs (store size (area + o) v bytes) (put_values (home_results size o) v high t)
      home_shown size o v high is (inl w) lt =
          let g = slice_get_within here w.0 false w.2 in
          let few = set.few in
          let f = width_few size is in
          let q = w.1 in
          let under : o < 128 = omega (arith, g, few, q) in
          let back : o / 4 - 1 ≡ w.0 = omega (arith, q) in
          let small : (a : ℕ) → store size (area + o) v bytes a < 256 = λ a. store_byte size (area + o) v bytes a (shown.small a) in
          let home : load 4 (area + o) bytes ≡ t w.0 = ap (λ k. load 4 (area + k) bytes) q ∙ shown.at_home w.0 w.2 in
          subst (λ s. Shown goal m area host regs (store size (area + o) v bytes) s) (ap (λ k. put_values (Lowest k size) v high t) (sym back) ∙ ap (λ b. put_values (if b then Lowest (o / 4 - 1) size else Bytes (o - 96) size) v high t) (sym (is_low o under)))
          (record {
            named = λ r u. shown.named r u ∙ sym (with_other w.0 (with_lowest size v (t w.0)) t (register_place here r) (place_no_home here r w.0 set.few set.three u w.2));
            at_home = λ k h. ⊎_elim
                (λ (e : k ≡ w.0). ap (λ n. load 4 (area + n) (store size (area + o) v bytes)) (ap (λ n. 4 * (n + 1)) e ∙ sym q) ∙ load_put (area + o) v bytes shown.small size is lt small ∙ ap (with_lowest size v) home
                ∙ sym (with_same_at w.0 (with_lowest size v (t w.0)) t k e))
                (λ ne. load_apart 4 size (area + 4 * (k + 1)) (area + o) v bytes
                (λ i j li lj e. let p = slice_get_within here k false h in let low = set.page.low in ne (omega (arith, li, lj, e, q, f, p, g, few, low)))
                ∙ shown.at_home k h ∙ sym (with_other w.0 (with_lowest size v (t w.0)) t k ne)) (is_same k w.0);
            homes = λ i l. home_others size o v is (inl w) (128 + i) (λ j lj e. omega (arith, e, lj, q, g, few, f)) ∙ shown.homes i l ∙ sym (with_other w.0 (with_lowest size v (t w.0)) t (32 + i) (λ e. omega (arith, e, g, few)));
            constants = λ j h. with_other w.0 (with_lowest size v (t w.0)) t (20 + j) (λ e. omega (arith, e, g, few)) ∙ shown.constants j h;
            words = shown.words;
            small = small;
          })
      home_shown size o v high is (inr w) lt =
          let le = w.0 in
          let top = w.1 in
          let few = set.few in
          let f = width_few size is in
          subst (λ s. Shown goal m area host regs (store size (area + o) v bytes) s) (ap (λ b. put_values (if b then Lowest (o / 4 - 1) size else Bytes (o - 96) size) v high t) (sym (is_high o le)))
          (record {
            named = λ r u. shown.named r u ∙ sym (put_byte_past (o - 96) size v t (register_place here r) is (λ j l e. let low = place_low here r set.few set.three u in omega (arith, low, e, le)));
            at_home = λ k h. load_apart 4 size (area + 4 * (k + 1)) (area + o) v bytes
                (λ i j li lj e. let p = slice_get_within here k false h in let low = set.page.low in omega (arith, li, lj, e, le, top, p, few, low))
                ∙ shown.at_home k h ∙ sym (put_byte_past (o - 96) size v t k is (λ j l e. let p = slice_get_within here k false h in omega (arith, p, few, e, le)));
            homes = λ i l. ⊎_elim (λ x. inside i l x.0 x.1 x.2) (λ no. home_others size o v is (inr w) (128 + i) no ∙ shown.homes i l ∙ sym (put_byte_past (o - 96) size v t (32 + i) is (λ j lj e. no j lj (omega (arith, e, le))))) (is_within o (128 + i) size);
            constants = λ j h. put_byte_past (o - 96) size v t (20 + j) is (λ k l e. let u = set.words j h in omega (arith, u, e, le)) ∙ shown.constants j h;
            words = shown.words;
            small = λ a. store_byte size (area + o) v bytes a (shown.small a);
          })
        where
          inside : (i : ℕ) → i < 20 → (j : ℕ) → j < size → 128 + i ≡ o + j → store size (area + o) v bytes (area + (128 + i)) ≡ with_bytes (o - 96) size v t (32 + i)
          inside i l j lj e =
              let le = w.0 in
              let few = width_few size is in
              ap (λ k. store size (area + o) v bytes (area + k)) e ∙ ap (store size (area + o) v bytes) (sym (home_at goal m area host set size o j is (inr w) lj).0)
              ∙ stored_byte size (area + o) v bytes j few lj ∙ sym (put_byte_at (o - 96) size v t j (32 + i) is lj (omega (arith, e, le)))

      -- outside the home page
      span_far : (size a : ℕ) → ((k : ℕ) → Contains (span size a) k → IsFar area k) → (i : ℕ) → i < 4096 → (j : ℕ) → j < size → area + i ≢ (a + j) % 2 ^ 32
      span_far size a far i li j lj = far_apart area i ((a + j) % 2 ^ 32) li (far ((a + j) % 2 ^ 32) (span_has size a j lj))

      put_far : (size a v : ℕ) → IsWidth size → ((k : ℕ) → Contains (span size a) k → IsFar area k) → Put regs bytes regs (store size a v bytes) t (stored_at size a v)
      unfolding behind_accesses
      put_far size a v is far = record {
        shown = record {
          named = shown.named;
          at_home = λ k h. load_apart 4 size (area + 4 * (k + 1)) a v bytes
              (λ i j li lj e. let p = slice_get_within here k false h in let few = set.few in let low = set.page.low in
              let q : (area + 4 * (k + 1) + i) % 2 ^ 32 ≡ area + (4 * (k + 1) + i) = omega (arith, p, few, low, li) in
              span_far size a far (4 * (k + 1) + i) (omega (arith, p, few, li)) j lj (sym q ∙ e))
              ∙ shown.at_home k h;
          homes = λ i l. store_other size a v bytes (area + (128 + i)) (span_far size a far (128 + i) (omega (arith, l))) ∙ shown.homes i l;
          constants = shown.constants;
          words = shown.words;
          small = λ k. store_byte size a v bytes k (shown.small k);
        };
        keeps = record {
          outside = λ k f. store_turned size a v bytes k is;
          page = λ i l no. store_other size a v bytes (area + i) (span_far size a far i l);
          dead = λ b le l d. store_other size a v bytes (area + b) (span_far size a far b (omega (arith, l)));
          registers = λ r a c d no. refl;
        };
      }

    -- in eax and edx
    both_put : (regs bytes t : ℕ → ℕ) (low high : ℕ) → Shown goal m area host regs bytes t → low < 2 ^ 32 → high < 2 ^ 32 → Put regs bytes (update (update regs eax low) edx high) bytes (with_place 15 high (with_place 13 low t)) []
    both_put regs bytes t low high shown l h =
        let p = put_register regs bytes t shown 0 low (inl (omega arith)) l in
        let q = put_register (update regs eax low) bytes (with_place 13 low t) p.shown 2 high (inl (omega arith)) h in
        record { shown = q.shown; keeps = kept_then regs bytes (update regs eax low) bytes (update (update regs eax low) edx high) bytes [] [] p.keeps q.keeps }

    module _ (regs bytes t : ℕ → ℕ) (shown : Shown goal m area host regs bytes t) where
      -- the core behind a write shows the results of the line
      pub record Written (flags : Flags) (o : Option Core) (t' : ℕ → ℕ) (accesses : List Accessed) : Type 0 where
        pub after : Core
        pub is : o ≡ Some after
        pub flags_are : after.flags ≡ flags
        pub put : Put regs bytes after.regs after.bytes t' accesses

      module _ (line : HostLine) (at : IsFilled goal (displacement_hole line)) (oracle : ℕ → ℕ → ℕ) where
        abbrev pub stored_by : Destination → ℕ → List Accessed
        stored_by d v = result_accesses (stored_to (results_for here line d)) v t

        abbrev hole : Option (Hole × ℕ)
        hole = displacement_hole line

        abbrev with_flags : Flags → Core
        with_flags f = record { regs = regs; flags = f; bytes = bytes }

        sum_written : (f : Flags) (size : ℕ) (operand : Operand) (v : ℕ) → IsWidth size → FitsSum here goal.dead.bits operand → AreAnswered area host oracle bytes (stored_at size (address_value (address_for here hole operand) t) v) →
            Written f (puts host (with_flags f) (place_of size (laid_operand m area hole operand) regs) v) t (stored_at size (address_value (address_for here hole operand) t) v)
        sum_written f size operand v is fits answered =
            let a = address_value (address_for here hole operand) t in
            let put_there = each_in_span host.writable size a (λ k c. answered.inside.stored k (subst (λ (l : List ℕ). Contains l k) (sym (append-nil (span size a))) c)) in
            record {
              after = record { regs = regs; flags = f; bytes = store size a v bytes };
              is = ap (λ p. puts host (with_flags f) p v) (sum_at goal m area host set regs bytes t shown hole size operand at fits) ∙ ap (λ b. cond b (Some (put_at (with_flags f) (Memory size a) v)) None) put_there;
              flags_are = refl;
              put = put_far regs bytes t shown size a v is (λ k c. answered.far k (subst (λ (l : List ℕ). Contains l k) (sym (append-nil (span size a))) c));
            }

        home_written : (f : Flags) (size o v high : ℕ) → IsWidth size → IsHome here o size → IsKept goal.dead.bits o size → v < 2 ^ 32 →
            Written f (puts host (with_flags f) (place_of size (laid_operand m area hole (Abs o)) regs) v) (put_values (home_results size o) v high t) (result_accesses (stored_to (home_results size o)) v t)
        home_written f size o v high is home kept lt = record {
          after = record { regs = regs; flags = f; bytes = store size (area + o) v bytes };
          is = ap (λ p. puts host (with_flags f) (place_of size p regs) v) (laid_abs m area hole o)
              ∙ ap (λ b. cond b (Some (put_at (with_flags f) (Memory size (area + o)) v)) None) (home_each goal m area host set host.writable set.page.writable size o is home);
          flags_are = refl;
          put = record { shown = home_shown regs bytes t shown size o v high is home lt; keeps = subst (λ l. Keeps regs bytes regs (store size (area + o) v bytes) l) (sym (none (nat_lt o 128))) (home_keeps regs bytes t shown size o v is home kept) };
        }
          where
            none : (b : Bool) → result_accesses (stored_to (if b then Lowest (o / 4 - 1) size else Bytes (o - 96) size)) v t ≡ []
            none true = refl
            none false = refl

        operand_written : (f : Flags) (size : ℕ) (operand : Operand) (v high : ℕ) (moves : Bool) → IsWidth size → Fits here goal.dead.bits moves size operand → KeptHome here goal.dead.bits size operand → v < 2 ^ 32 →
            AreAnswered area host oracle bytes (stored_by (ToOperand size operand) v) →
            Written f (puts host (with_flags f) (place_of size (laid_operand m area hole operand) regs) v) (put_values (results_for here line (ToOperand size operand)) v high t) (stored_by (ToOperand size operand) v)
        operand_written f size (Reg r) v high moves is fits kept lt answered = record {
          after = record { regs = update regs r v; flags = f; bytes = bytes };
          is = ap (λ p. puts host (with_flags f) (place_of size p regs) v) (laid_reg m area hole r);
          flags_are = refl;
          put = put_register regs bytes t shown r v fits lt;
        }
        operand_written f size (Abs o) v high moves is fits kept lt answered = home_written f size o v high is fits kept lt
        operand_written f size (Base b d) v high moves is fits kept lt answered = sum_written f size (Base b d) v is (fits.1, fits.2) answered
        operand_written f size (Pair b x s d) v high moves is fits kept lt answered = sum_written f size (Pair b x s d) v is (fits.1, fits.2, fits.3, fits.4) answered

        one : IsWidth 1
        one = inl refl

        sum_byte : (f : Flags) (operand : Operand) (v : ℕ) → FitsSum here goal.dead.bits operand → byte_for (laid_operand m area hole operand) (with_flags f) v ≡ v
        sum_byte f operand v is = by_place (laid_operand m area hole operand) (sum_at goal m area host set regs bytes t shown hole 1 operand at is)
          where
            by_place : (o : Operand) → place_of 1 o regs ≡ Memory 1 (address_value (address_for here hole operand) t) → byte_for o (with_flags f) v ≡ v
            by_place (Reg r) e = absurd cc
            by_place (Abs o) e = refl
            by_place (Base b d) e = refl
            by_place (Pair b x s d) e = refl

        byte_written : (f : Flags) (operand : Operand) (v high : ℕ) (moves : Bool) → Fits here goal.dead.bits moves 1 operand → KeptHome here goal.dead.bits 1 operand → v < 256 → AreAnswered area host oracle bytes (stored_by (ToByte operand) v) →
            Written f (puts host (with_flags f) (place_of 1 (laid_operand m area hole operand) regs) (byte_for (laid_operand m area hole operand) (with_flags f) v)) (put_values (results_for here line (ToByte operand)) v high t) (stored_by (ToByte operand) v)
        byte_written f (Reg r) v high moves fits kept lt answered =
            let w : 256 * (regs r / 256) + v ≡ with_lowest 1 v (t (register_place here r)) = byte_lowest (regs r) v (shown.words r) lt ∙ ap (with_lowest 1 v) (shown.named r fits) in
            let small : 256 * (regs r / 256) + v < 2 ^ 32 = let l = shown.words r in omega (arith, l, lt) in
            record {
              after = record { regs = update regs r (256 * (regs r / 256) + v); flags = f; bytes = bytes };
              is = ap (λ p. puts host (with_flags f) (place_of 1 p regs) (byte_for p (with_flags f) v)) (laid_reg m area hole r);
              flags_are = refl;
              put = subst (λ n. Put regs bytes (update regs r (256 * (regs r / 256) + v)) bytes (with_place (register_place here r) n t) []) w (put_register regs bytes t shown r (256 * (regs r / 256) + v) fits small);
            }
        byte_written f (Abs o) v high moves fits kept lt answered =
            subst (λ p. Written f (puts host (with_flags f) (place_of 1 (laid_operand m area hole (Abs o)) regs) p) (put_values (home_results 1 o) v high t) (result_accesses (stored_to (home_results 1 o)) v t))
            (sym (ap (λ p. byte_for p (with_flags f) v) (laid_abs m area hole o))) (home_written f 1 o v high one fits kept (omega (arith, lt)))
        byte_written f (Base b d) v high moves fits kept lt answered =
            subst (λ p. Written f (puts host (with_flags f) (place_of 1 (laid_operand m area hole (Base b d)) regs) p) t (stored_by (ToByte (Base b d)) v)) (sym (sum_byte f (Base b d) v (fits.1, fits.2)))
            (sum_written f 1 (Base b d) v one (fits.1, fits.2) answered)
        byte_written f (Pair b x s d) v high moves fits kept lt answered =
            subst (λ p. Written f (puts host (with_flags f) (place_of 1 (laid_operand m area hole (Pair b x s d)) regs) p) t (stored_by (ToByte (Pair b x s d)) v)) (sym (sum_byte f (Pair b x s d) v (fits.1, fits.2, fits.3, fits.4)))
            (sum_written f 1 (Pair b x s d) v one (fits.1, fits.2, fits.3, fits.4) answered)

        -- the results of an op, whose values had these flags
        pub results_written : (v : HostValues) (e : HostEffect) (d : Destination) (moves : Bool) → FitsDestination here goal.dead.bits moves d → IsTamePut d e v → AreWords e → AreAnswered area host oracle bytes (stored_by d e.result) →
            Written e.flags (put_result host (laid_destination m area hole d) e (with_flags v.flags)) (put_values (results_for here line d) e.result e.high t) (stored_by d e.result)
        results_written v e Nowhere moves fits tame words answered = record { after = with_flags e.flags; is = refl; flags_are = refl; put = record { shown = shown; keeps = kept_same regs bytes } }
        results_written v e (ToOperand size operand) moves fits tame words answered = operand_written e.flags size operand e.result e.high moves fits.0 fits.1 fits.2 words.0 answered
        results_written v e (ToByte operand) moves fits tame words answered =
            let w = byte_written v.flags operand e.result e.high moves fits.0 fits.1 tame.0 answered in
            record { after = w.after; is = w.is; flags_are = w.flags_are ∙ sym tame.1; put = w.put }
        results_written v e ToHigh moves fits tame words answered = record { after = record { regs = update regs edx e.high; flags = v.flags; bytes = bytes }; is = refl; flags_are = sym tame; put = put_register regs bytes t shown 2 e.high (inl (omega arith)) words.1 }
        results_written v e ToBoth moves fits tame words answered = record {
          after = record { regs = update (update regs eax e.result) edx e.high; flags = e.flags; bytes = bytes };
          is = refl;
          flags_are = refl;
          put = both_put regs bytes t e.result e.high shown words.0 words.1;
        }

        abbrev no_bytes : List ℕ
        no_bytes = []

        none_where : (b : Bool) → (if b then no_bytes else no_bytes) ≡ no_bytes
        none_where true = refl
        none_where false = refl

        home_stores : (size o v : ℕ) → flat_map stores_at (result_accesses (stored_to (home_results size o)) v t) ≡ []
        home_stores size o v = by_test (nat_lt o 128)
          where
            by_test : (b : Bool) → flat_map stores_at (result_accesses (stored_to (if b then Lowest (o / 4 - 1) size else Bytes (o - 96) size)) v t) ≡ []
            by_test true = refl
            by_test false = refl

        own_stores : (moves : Bool) (size : ℕ) (operand : Operand) (v : ℕ) → Fits here goal.dead.bits moves size operand →
            (if moves then summed size (laid_operand m area hole operand) regs else []) ≡ flat_map stores_at (stored_by (ToOperand size operand) v)
        own_stores moves size (Reg r) v fits = ap (λ o. if moves then summed size o regs else []) (laid_reg m area hole r) ∙ none_where moves
        own_stores moves size (Abs o) v fits = ap (λ o. if moves then summed size o regs else []) (laid_abs m area hole o) ∙ none_where moves ∙ sym (home_stores size o v)
        own_stores moves size (Base b d) v fits =
            ap (λ (z : Bool). if z then summed size (laid_operand m area hole (Base b d)) regs else []) fits.0 ∙ sum_span goal m area host set regs bytes t shown hole size (Base b d) at (fits.1, fits.2) ∙ sym (append-nil _)
        own_stores moves size (Pair b x s d) v fits =
            ap (λ (z : Bool). if z then summed size (laid_operand m area hole (Pair b x s d)) regs else []) fits.0 ∙ sum_span goal m area host set regs bytes t shown hole size (Pair b x s d) at (fits.1, fits.2, fits.3, fits.4) ∙ sym (append-nil _)

        -- what the op stores is what the line does
        pub results_stores : (moves : Bool) (d : Destination) (v : ℕ) → FitsDestination here goal.dead.bits moves d → (if moves then destination_span (laid_destination m area hole d) regs else []) ≡ flat_map stores_at (stored_by d v)
        results_stores moves Nowhere v fits = none_where moves
        results_stores moves (ToOperand size operand) v fits = own_stores moves size operand v fits.1
        results_stores moves (ToByte (Reg r)) v fits = ap (λ o. if moves then summed 1 o regs else []) (laid_reg m area hole r) ∙ none_where moves
        results_stores moves (ToByte (Abs o)) v fits = own_stores moves 1 (Abs o) v fits.0
        results_stores moves (ToByte (Base b d)) v fits = own_stores moves 1 (Base b d) v fits.0
        results_stores moves (ToByte (Pair b x s d)) v fits = own_stores moves 1 (Pair b x s d) v fits.0
        results_stores moves ToBoth v fits = none_where moves
        results_stores moves ToHigh v fits = none_where moves
