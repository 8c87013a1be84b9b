-- A rule's words one after another: where they go on, what they load and store, and the next word behind them. This
-- project's own.
use Rattle.std.proofs.Common.{◌≡◌, ℕ, zero, suc, ◌+◌, Bool, true, false, cond, ⊎_elim, List, [], ◌∷◌, Contains, refl, sym, ap, ◌∙◌, subst}
use Rattle.std.proofs.lemmas.List.Elements.{Contains-append_cases}
use Rattle.machines.specs.Prelude.{Outside, Outcome, Goes, Asks, Ends, Instr, each_byte, Rights, Guest, effect_of, guest_acts, behind}
use Rattle.symbolic_tiles.specs.Prelude.{loaded, stored, IsStraight}
use Rattle.simulation.specs.Prelude.{then_row, rows_of, behind_all, IsQuiet, IsLinked}
use Rattle.rule_soundness.specs.Prelude.{everywhere, behind_row, loads_of, stores_of, taken_of, target_of}
use Rattle.rule_body.specs.Prelude.{is_plain}
use Rattle.row_laws.proofs.Lists.{none_in}
use Rattle.symbolic_tiles.proofs.Straight.{all_in_span}
use Rattle.rule_soundness.proofs.Rows.{is_fork, RowShape, calm, loading, storing, plain_shape, fork_shape}

-- the words of a rule, of which there is one at least: all are plain, but the last is a branch where that is said
abbrev pub AreRuleWords : Bool → List Instr → Type 0
AreRuleWords forks [] = ⊥
AreRuleWords true (i ∷ []) = is_fork i ≡ true
AreRuleWords false (i ∷ []) = is_plain i ≡ true
AreRuleWords forks (i ∷ j ∷ is) = (is_plain i ≡ true) × AreRuleWords forks (j ∷ is)

pub each_anywhere : (n a : ℕ) → each_byte (λ x. true) n a ≡ true
unfolding each_byte
each_anywhere zero a = refl
each_anywhere (suc n) a = each_anywhere n (a + 1)

-- behind a word that goes on with others behind it
pub record Stepped (rights : Rights) (i : Instr) (g : Guest) (next : ℕ) (rest : Guest → Outcome Guest) (g' : Guest) : Type 0 where
  pub after : Guest
  pub goes : guest_acts rights i (effect_of i g) g ≡ Goes after
  pub anywhere : guest_acts everywhere i (effect_of i g) g ≡ Goes after
  pub later : rest after ≡ Goes g'
  pub next_is : after.next ≡ next
  pub loads : (a : ℕ) → Contains (loaded (effect_of i g).kind (effect_of i g).width (effect_of i g).address) a → rights.held a ≡ true
  pub stores : (a : ℕ) → Contains (stored (effect_of i g).kind (effect_of i g).width (effect_of i g).address) a → rights.writable a ≡ true

module _ (rights : Rights) (i : Instr) (g : Guest) (next : ℕ) (rest : Guest → Outcome Guest) (g' : Guest) where
  pub stepped : RowShape i g next → then_row rest (guest_acts rights i (effect_of i g) g) ≡ Goes g' → Stepped rights i g next rest g'
  stepped (calm after n kind does) goes = record {
    after = after;
    goes = does rights;
    anywhere = does everywhere;
    later = subst (λ o. then_row rest o ≡ Goes g') (does rights) goes;
    next_is = n;
    loads = λ a c. none_in a (subst (λ x. Contains (loaded x (effect_of i g).width (effect_of i g).address) a) kind c);
    stores = λ a c. none_in a (subst (λ x. Contains (stored x (effect_of i g).width (effect_of i g).address) a) kind c);
  }
  stepped (loading after n kind does) goes = by_test (each_byte rights.held (effect_of i g).width (effect_of i g).address) refl (subst (λ o. then_row rest o ≡ Goes g') (does rights) goes)
    where
      by_test : (b : Bool) → each_byte rights.held (effect_of i g).width (effect_of i g).address ≡ b → then_row rest (cond b (Goes after) (Ends Outside)) ≡ Goes g' → Stepped rights i g next rest g'
      by_test true e later = record {
        after = after;
        goes = does rights ∙ ap (λ b. cond b (Goes after) (Ends Outside)) e;
        anywhere = does everywhere ∙ ap (λ b. cond b (Goes after) (Ends Outside)) (each_anywhere (effect_of i g).width (effect_of i g).address);
        later = later;
        next_is = n;
        loads = λ a c. all_in_span rights.held (effect_of i g).width (effect_of i g).address a e (subst (λ x. Contains (loaded x (effect_of i g).width (effect_of i g).address) a) kind c);
        stores = λ a c. none_in a (subst (λ x. Contains (stored x (effect_of i g).width (effect_of i g).address) a) kind c);
      }
      by_test false e later = absurd cc
  stepped (storing after n kind does) goes = by_test (each_byte rights.writable (effect_of i g).width (effect_of i g).address) refl (subst (λ o. then_row rest o ≡ Goes g') (does rights) goes)
    where
      by_test : (b : Bool) → each_byte rights.writable (effect_of i g).width (effect_of i g).address ≡ b → then_row rest (cond b (Goes after) (Ends Outside)) ≡ Goes g' → Stepped rights i g next rest g'
      by_test true e later = record {
        after = after;
        goes = does rights ∙ ap (λ b. cond b (Goes after) (Ends Outside)) e;
        anywhere = does everywhere ∙ ap (λ b. cond b (Goes after) (Ends Outside)) (each_anywhere (effect_of i g).width (effect_of i g).address);
        later = later;
        next_is = n;
        loads = λ a c. none_in a (subst (λ x. Contains (loaded x (effect_of i g).width (effect_of i g).address) a) kind c);
        stores = λ a c. all_in_span rights.writable (effect_of i g).width (effect_of i g).address a e (subst (λ x. Contains (stored x (effect_of i g).width (effect_of i g).address) a) kind c);
      }
      by_test false e later = absurd cc

-- a row of this shape goes on, or ends outside
straight_of : (rights : Rights) (i : Instr) (g : Guest) (next : ℕ) → RowShape i g next → IsStraight next (guest_acts rights i (effect_of i g) g)
straight_of rights i g next (calm after n kind does) = subst (IsStraight next) (sym (does rights)) n
straight_of rights i g next (loading after n kind does) = subst (IsStraight next) (sym (does rights)) (by_test (each_byte rights.held (effect_of i g).width (effect_of i g).address))
  where
    by_test : (b : Bool) → IsStraight next (cond b (Goes after) (Ends Outside))
    by_test true = n
    by_test false = refl
straight_of rights i g next (storing after n kind does) = subst (IsStraight next) (sym (does rights)) (by_test (each_byte rights.writable (effect_of i g).width (effect_of i g).address))
  where
    by_test : (b : Bool) → IsStraight next (cond b (Goes after) (Ends Outside))
    by_test true = n
    by_test false = refl

quiet_of : (next : ℕ) (o : Outcome Guest) → IsStraight next o → IsQuiet o
quiet_of next (Goes g) s = tt
quiet_of next (Asks call after) s = absurd s
quiet_of next (Ends e) s = s

-- the words go to g', with what they load and store inside, and the next word at an address
pub record Passed (rights : Rights) (words : List Instr) (g g' : Guest) (next : ℕ) : Type 0 where
  pub loads : (a : ℕ) → Contains (loads_of words g) a → rights.held a ≡ true
  pub stores : (a : ℕ) → Contains (stores_of words g) a → rights.writable a ≡ true
  pub next_is : g'.next ≡ next

-- the next word behind the words: where the last is a branch, by whether it is taken
abbrev pub next_of : Bool → List Instr → Guest → ℕ
next_of true words g = cond (taken_of words g) (target_of words g.next) (behind_all g.next words)
next_of false words g = behind_all g.next words

same_guest : (g g' : Guest) → Goes g ≡ Goes g' → g ≡ g'
same_guest g g' e = cc

module _ (rights : Rights) where
  last_word : (i : Instr) (g g' : Guest) (next : ℕ) → RowShape i g next → rows_of rights (i ∷ []) g ≡ Goes g' → Passed rights (i ∷ []) g g' next
  unfolding loads_of stores_of
  last_word i g g' next shape goes =
      let d = stepped rights i g next (rows_of rights []) g' shape goes in
      record {
        loads = λ a c. ⊎_elim (d.loads a) (λ n. none_in a (subst (λ o. Contains (behind_row [] (loads_of []) o) a) d.anywhere n)) (Contains-append_cases (loaded (effect_of i g).kind (effect_of i g).width (effect_of i g).address) _ a c);
        stores = λ a c. ⊎_elim (d.stores a) (λ n. none_in a (subst (λ o. Contains (behind_row [] (stores_of []) o) a) d.anywhere n)) (Contains-append_cases (stored (effect_of i g).kind (effect_of i g).width (effect_of i g).address) _ a c);
        next_is = sym (ap (λ (x : Guest). x.next) (same_guest d.after g' d.later)) ∙ d.next_is;
      }

  first_word : (i : Instr) (is : List Instr) (g g' : Guest) (next : ℕ) (d : Stepped rights i g (behind g.next) (rows_of rights is) g') → Passed rights is d.after g' next → Passed rights (i ∷ is) g g' next
  unfolding loads_of stores_of
  first_word i is g g' next d rest = record {
    loads = λ a c. ⊎_elim (d.loads a) (λ n. rest.loads a (subst (λ o. Contains (behind_row [] (loads_of is) o) a) d.anywhere n)) (Contains-append_cases (loaded (effect_of i g).kind (effect_of i g).width (effect_of i g).address) _ a c);
    stores = λ a c. ⊎_elim (d.stores a) (λ n. rest.stores a (subst (λ o. Contains (behind_row [] (stores_of is) o) a) d.anywhere n)) (Contains-append_cases (stored (effect_of i g).kind (effect_of i g).width (effect_of i g).address) _ a c);
    next_is = rest.next_is;
  }

  next_later : (forks : Bool) (i j : Instr) (is : List Instr) (g after : Guest) → guest_acts everywhere i (effect_of i g) g ≡ Goes after → after.next ≡ behind g.next → next_of forks (j ∷ is) after ≡ next_of forks (i ∷ j ∷ is) g
  unfolding taken_of target_of
  next_later true i j is g after e n =
      let t : taken_of (j ∷ is) after ≡ behind_row false (taken_of (j ∷ is)) (guest_acts everywhere i (effect_of i g) g) = ap (behind_row false (taken_of (j ∷ is))) (sym e) in
      ap (λ b. cond b (target_of (j ∷ is) after.next) (behind_all after.next (j ∷ is))) t
      ∙ ap (λ w. cond (behind_row false (taken_of (j ∷ is)) (guest_acts everywhere i (effect_of i g) g)) (target_of (j ∷ is) w) (behind_all w (j ∷ is))) n
  next_later false i j is g after e n = ap (λ w. behind_all w (j ∷ is)) n

  fork_last : (i : Instr) (g : Guest) → is_fork i ≡ true → RowShape i g (next_of true (i ∷ []) g)
  unfolding taken_of target_of
  fork_last i g fork = fork_shape i fork g

  pub words_passed : (forks : Bool) (words : List Instr) → AreRuleWords forks words → (g g' : Guest) → rows_of rights words g ≡ Goes g' → Passed rights words g g' (next_of forks words g)
  words_passed forks [] are g g' goes = absurd are
  words_passed true (i ∷ []) are g g' goes = last_word i g g' (next_of true (i ∷ []) g) (fork_last i g are) goes
  words_passed false (i ∷ []) are g g' goes = last_word i g g' (behind g.next) (plain_shape i are g) goes
  words_passed forks (i ∷ j ∷ is) are g g' goes =
      let d = stepped rights i g (behind g.next) (rows_of rights (j ∷ is)) g' (plain_shape i are.0 g) goes in
      let rest = words_passed forks (j ∷ is) are.1 d.after g' d.later in
      first_word i (j ∷ is) g g' (next_of forks (i ∷ j ∷ is) g) d (subst (Passed rights (j ∷ is) d.after g') (next_later forks i j is g d.after d.anywhere d.next_is) rest)

  -- words of a rule are linked
  pub linked_of : (forks : Bool) (i : Instr) (is : List Instr) → AreRuleWords forks (i ∷ is) → IsLinked rights i is
  linked_of true i [] are = λ g. quiet_of _ _ (straight_of rights i g _ (fork_shape i are g))
  linked_of false i [] are = λ g. quiet_of _ _ (straight_of rights i g _ (plain_shape i are g))
  linked_of forks i (j ∷ is) are = λ g. straight_of rights i g (behind g.next) (plain_shape i are.0 g)
