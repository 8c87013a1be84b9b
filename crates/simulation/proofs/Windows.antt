-- The guest's own steps through a window of words, and through it from a guest that is alike.
use Rattle.std.proofs.Common.{◌≡◌, ℕ, suc, ◌≤◌, List, [], ◌∷◌, length, Some, refl, sym, ap, ◌∙◌, subst, arith}
use Rattle.machines.specs.Prelude.{Outside, Instr, Outcome, Goes, Asks, Ends, Anywhere, Walks, stays, walks, Guest, guest_acts, effect_of, behind}
use Rattle.symbolic_tiles.specs.Prelude.{IsStraight}
use Rattle.simulation.specs.Prelude.{then_row, rows_of, IsQuiet, IsLinked, SimulationContext, IsGuest, LeadsToGuests, IsWordAt, Alike, AreAlike, LiveIsEnough, AreWordsAt}

module _ (s : SimulationContext) where
  -- where the words begin; with none left nothing is asked
  abbrev pub NextIs : List Instr → ℕ → Guest → Type 0
  NextIs [] w g = Unit {0}
  NextIs (_ ∷ _) w g = g.next ≡ w

  pub is_next : (words : List Instr) (g : Guest) → NextIs words g.next g
  is_next [] g = tt
  is_next (_ ∷ _) g = refl

  -- one word's row
  abbrev row : Instr → Guest → Outcome Guest
  row i g = guest_acts s.guest i (effect_of i g) g

  -- the guest walks through the words, or as far as to one whose step goes outside
  abbrev pub Passes : ℕ → Guest → Outcome Guest → Type 0
  Passes n g (Goes g') = Walks Anywhere s.guest_step n g g'
  Passes n g (Asks call next) = ⊥
  Passes n g (Ends e) = (k : ℕ) × (g1 : Guest) × (k ≤ n) × Walks Anywhere s.guest_step k g g1 × (s.guest_step g1 ≡ Ends Outside)

  one_more : (n : ℕ) (g g1 : Guest) (o : Outcome Guest) → s.guest_step g ≡ Goes g1 → Passes n g1 o → Passes (suc n) g o
  one_more n g g1 (Goes g') e r = walks tt e r
  one_more n g g1 (Asks call next) e r = r
  one_more n g g1 (Ends how) e r = (suc r.0, r.1, omega (arith, r.2), walks tt e r.3, r.4)

  -- behind a word that goes on the next one is at hand
  next_word : (w : ℕ) (i : Instr) (is : List Instr) (g g1 : Guest) → g.next ≡ w → IsLinked s.guest i is → row i g ≡ Goes g1 → NextIs is (behind w) g1
  next_word w i [] g g1 here linked e = tt
  next_word w i (_ ∷ _) g g1 here linked e = subst (IsStraight (behind g.next)) e (linked g) ∙ ap behind here

  -- a word in a window doesn't call, and ends only outside
  quiet : (i : Instr) (is : List Instr) (g : Guest) (o : Outcome Guest) → IsLinked s.guest i is → row i g ≡ o → IsQuiet o
  quiet i [] g o linked e = subst IsQuiet e (linked g)
  quiet i (_ ∷ _) g (Goes g1) linked e = tt
  quiet i (_ ∷ _) g (Asks call next) linked e = subst (IsStraight (behind g.next)) e (linked g)
  quiet i (_ ∷ _) g (Ends how) linked e = subst (IsStraight (behind g.next)) e (linked g)

  pub words_pass : (words : List Instr) (w : ℕ) (g : Guest) → AreWordsAt s w words → NextIs words w g → Passes (length words) g (rows_of s.guest words g)
  words_pass [] w g at here = stays
  words_pass (i ∷ is) w g at here = by_row (λ g1 n. words_pass is (behind w) g1 at.2 n) (row i g) refl
    where
      by_row : ((g1 : Guest) → NextIs is (behind w) g1 → Passes (length is) g1 (rows_of s.guest is g1)) → (o : Outcome Guest) → row i g ≡ o → Passes (suc (length is)) g (then_row (rows_of s.guest is) o)
      by_row rest (Goes g1) e = one_more (length is) g g1 (rows_of s.guest is g1) (at.0 g here ∙ e) (rest g1 (next_word w i is g g1 here at.1 e))
      by_row rest (Asks call next) e = quiet i is g (Asks call next) at.1 e
      by_row rest (Ends how) e = (0, g, omega arith, stays, at.0 g here ∙ e ∙ ap Ends (quiet i is g (Ends how) at.1 e))

  module _ (guests : (g : Guest) → IsGuest s g → LeadsToGuests s (s.guest_step g)) where
    -- a word's row leads to states of the guest
    row_guests : (w : ℕ) (i : Instr) (g : Guest) → IsWordAt s w (Some i) → g.next ≡ w → IsGuest s g → LeadsToGuests s (row i g)
    row_guests w i g at here is = subst (LeadsToGuests s) (at g here) (guests g is)

    -- and so do those of words
    pub words_guests : (words : List Instr) (w : ℕ) (g : Guest) → AreWordsAt s w words → NextIs words w g → IsGuest s g → LeadsToGuests s (rows_of s.guest words g)
    words_guests [] w g at here is = is
    words_guests (i ∷ is) w g at here is_guest = by_row (λ g1 n k. words_guests is (behind w) g1 at.2 n k) (row i g) refl (row_guests w i g at.0 here is_guest)
      where
        by_row : ((g1 : Guest) → NextIs is (behind w) g1 → IsGuest s g1 → LeadsToGuests s (rows_of s.guest is g1)) → (o : Outcome Guest) → row i g ≡ o → LeadsToGuests s o → LeadsToGuests s (then_row (rows_of s.guest is) o)
        by_row rest (Goes g1) e k = rest g1 (next_word w i is g g1 here at.1 e) k
        by_row rest (Asks call next) e k = k
        by_row rest (Ends how) e k = k

    module _ (live : LiveIsEnough s) where
      words_alike : (words : List Instr) (w : ℕ) (g other : Guest) → AreWordsAt s w words → NextIs words w g → IsGuest s g → IsGuest s other → Alike s g other → AreAlike s (rows_of s.guest words g) (rows_of s.guest words other)
      words_alike [] w g other at here is_guest is_other alike = alike
      words_alike (i ∷ is) w g other at here is_guest is_other alike =
          by_rows (λ g1 other1 n k l a. words_alike is (behind w) g1 other1 at.2 n k l a) (row i g) (row i other) refl
          (row_guests w i g at.0 here is_guest) (row_guests w i other at.0 (alike.next ∙ here) is_other)
          (live (Some i) g other (subst (λ a. IsWordAt s a (Some i)) (sym here) at.0) is_guest is_other alike)
        where
          by_rows : ((g1 other1 : Guest) → NextIs is (behind w) g1 → IsGuest s g1 → IsGuest s other1 → Alike s g1 other1 → AreAlike s (rows_of s.guest is g1) (rows_of s.guest is other1)) →
              (o o' : Outcome Guest) → row i g ≡ o → LeadsToGuests s o → LeadsToGuests s o' → AreAlike s o o' → AreAlike s (then_row (rows_of s.guest is) o) (then_row (rows_of s.guest is) o')
          by_rows rest (Goes g1) (Goes other1) e k l a = rest g1 other1 (next_word w i is g g1 here at.1 e) k l a
          by_rows rest (Goes g1) (Asks asked others) e k l a = absurd a
          by_rows rest (Goes g1) (Ends how) e k l a = absurd a
          by_rows rest (Asks call next) (Goes other1) e k l a = absurd a
          by_rows rest (Asks call next) (Asks asked others) e k l a = a
          by_rows rest (Asks call next) (Ends how) e k l a = absurd a
          by_rows rest (Ends e1) (Goes other1) e k l a = absurd a
          by_rows rest (Ends e1) (Asks asked others) e k l a = absurd a
          by_rows rest (Ends e1) (Ends how) e k l a = a

      -- behind words that go on, the alike guest goes on too
      pub other_goes : (words : List Instr) (w : ℕ) (g other g' : Guest) → AreWordsAt s w words → NextIs words w g → IsGuest s g → IsGuest s other → Alike s g other → rows_of s.guest words g ≡ Goes g' → (other' : Guest) × (rows_of s.guest words other ≡ Goes other') × Alike s g' other'
      other_goes words w g other g' at here is_guest is_other alike e = by_other (rows_of s.guest words other) refl (subst (λ o. AreAlike s o (rows_of s.guest words other)) e (words_alike words w g other at here is_guest is_other alike))
        where
          by_other : (o : Outcome Guest) → rows_of s.guest words other ≡ o → AreAlike s (Goes g') o → (other' : Guest) × (rows_of s.guest words other ≡ Goes other') × Alike s g' other'
          by_other (Goes other') f a = (other', f, a)
          by_other (Asks asked others) f a = absurd a
          by_other (Ends how) f a = absurd a
