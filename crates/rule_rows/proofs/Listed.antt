-- The rows of a window by their places. This project's own.
use Rattle.std.proofs.Common.{◌≡◌, ℕ, zero, suc, ◌+◌, ◌-◌, ◌^◌, ◌<◌, ◌≤◌, inl, inr, ⊎_elim, Bool, true, false, ◌==◌, if◌then◌else◌, List, [], ◌∷◌, ◌++◌, length, min, take, slice_get, Option, Some, None, refl, sym, ap, ◌∙◌, subst, arith}
use Rattle.std.specs.List.{All, sum_by}
use Rattle.std.proofs.lemmas.List.{take_more, take_all, length-take}
use Rattle.std.proofs.lemmas.List.Elements.{All-nil, All-cons}
use Rattle.std.proofs.lemmas.List.Sums.{sum_by_push}
use Rattle.std.proofs.lemmas.Option.{slice_get_within, get_or_from_slice_get}
use Rattle.machines.specs.Prelude.{HasOneInstruction, IsWordOf, Instr, Effect}
use Rattle.rule_body.specs.declared.goal.Goal.{Goal}
use Rattle.rule_body.specs.declared.goal.Guest.{Guest}
use Rattle.rule_body.specs.Goals.{guests}
use Rattle.rule_body.specs.Prelude.{AreGuests, IsGoal, IsWindow, guests_of, template_of}
use Rattle.rule_soundness.specs.Prelude.{Match}
use Rattle.rule_soundness.specs.Fields.{a_field, b_field, s_field, immediate, Reading, load_width, written}
use Rattle.rule_renaming.specs.Plain.{plain}
use Rattle.rule_renaming.proofs.Parameters.{par_from, par_to}
use Rattle.rule_renaming.proofs.Guests.{AreNamedWords}
use Rattle.rule_renaming.proofs.Bridge.{P}
use Rattle.rule_renaming.proofs.NamedWords.{filled_words, words_named_by}
use Rattle.place_circuits.specs.Sources.{IsSource}
use Rattle.place_circuits.specs.declared.sources.Source.TheVariants.{Zero, Place}
use Rattle.row_runs.specs.Oracles.{is_load}
use Rattle.row_circuits.specs.Windows.{IsTarget, IsLoadWidth, IsWindowRow}
use Rattle.row_circuits.specs.declared.rows.WindowRow.{WindowRow}
use Rattle.window_circuits.specs.Runs.{no_row}
use Rattle.rule_rows.specs.Rows.{register_source, second_source, register_target, row_for, rows_from, rows_for}
use Rattle.rule_rows.proofs.Parameters.{IsIn, IsBased, IsFork, IsFilled, FitsReading, number_word}
use Rattle.rule_rows.proofs.Reach.{loads_table_width}
use Rattle.rule_rows.proofs.Doing.{IsWordAt, word_at}

-- the row of a word is one over places that there are
module _ (slots : List Bool) (few : length slots ≤ 6) where
  place_is : (p : ℕ) → p ≤ 6 → IsSource (register_source (Some p))
  place_is p le = by_test (p == 0)
    where
      by_test : (b : Bool) → IsSource (if b then Zero else Place (p - 1))
      by_test true = tt
      by_test false = omega (arith, le)

  field_is : (f : Option ℕ) → IsIn slots f → IsSource (register_source f)
  field_is None is = tt
  field_is (Some p) is = let to = par_to slots p is in place_is p (omega (arith, to, few))

  base_is : (i : Instr) (f : Option ℕ) → IsBased slots i f → IsSource (register_source f)
  base_is i None is = tt
  base_is i (Some p) (inl is) = field_is (Some p) is
  base_is i (Some p) (inr e) = let z = e.1 in place_is p (omega (arith, z))

  target_is : (f : Option ℕ) → IsIn slots f → IsTarget (register_target f)
  target_is None is = tt
  target_is (Some p) is = let to = par_to slots p is in omega (arith, to, few)

  second_is : (j : ℕ) (free : Bool) (o : Option Reading) (f : Option ℕ) → j < 3 → FitsReading o → IsIn slots f → IsSource (second_source j free o f)
  second_is j free None f lt fits is = field_is f is
  second_is j true (Some reading) f lt fits is = omega (arith, lt)
  second_is j false (Some reading) f lt fits is = number_word reading fits

module _ (goal : Goal) (m : Match) (few : length (template_of goal).slots ≤ 6) where
  -- it loads as many bytes as its word
  width_is : (free : Bool) (c : ℕ) (i found : Instr) → IsFilled free c i found → IsLoadWidth i (load_width i)
  width_is free c i found is = subst (IsLoadWidth i) is.width (record {
    loads = λ v. ap (λ (e : Effect). is_load e.kind) (sym (is.row v)) ∙ has.loads v;
    wide = λ v e. has.wide v (ap (λ (e : Effect). is_load e.kind) (is.row v) ∙ e) ∙ ap (λ (e : Effect). e.width) (is.row v);
  })
    where
      of_fork : (k : Instr) → IsFork k → IsLoadWidth k (load_width k)
      of_fork k fork = subst (λ k. IsLoadWidth k (load_width k)) (sym fork.4) (record { loads = λ v. refl; wide = λ v e. absurd cc })

      has : IsLoadWidth found (load_width found)
      has = ⊎_elim (loads_table_width found) (of_fork found) is.kind

  row_is : (j : ℕ) (guest : Guest) (i found : Instr) → j < 3 → IsWordOf guest.word i → IsWordAt goal m j guest i found → IsWindowRow (row_for j guest i)
  row_is j guest i found lt word is =
      let slots = (template_of goal).slots in
      record {
        legal = word.legal;
        width = width_is guest.free (m.constant j) i found is.filled;
        a = subst (λ f. IsSource (register_source f)) is.filled.a (base_is slots few found (a_field found) is.fields.a);
        b = second_is slots few j guest.free (immediate i) (b_field i) lt is.fits (subst (IsIn slots) is.filled.b is.fields.b);
        s = subst (λ f. IsSource (register_source f)) is.filled.s (field_is slots few (s_field found) is.fields.s);
        d_to = subst (λ w. IsTarget (register_target w.d)) is.filled.writes (target_is slots few (written found).d is.fields.d_to);
        a_to = subst (λ w. IsTarget (register_target w.a)) is.filled.writes (target_is slots few (written found).a is.fields.a_to);
      }

  rows_are_from : ((w : ℕ) → HasOneInstruction w) → ((j : ℕ) → m.constant j < 2 ^ 16) → (j : ℕ) (guests : List Guest) (is : List Instr) → j + length guests ≤ 3 → AreGuests guests is →
      ((k : ℕ) → slice_get guests k ≡ slice_get (guests_of goal) (j + k)) → AreNamedWords (plain m) (P (template_of goal).slots (plain m)) (filled_words (template_of goal).slots (plain m) j guests is) → All IsWindowRow (rows_from j guests is)
  unfolding rows_from filled_words
  rows_are_from one small j [] is lt are from named = All-nil IsWindowRow
  rows_are_from one small j (guest ∷ guests) [] lt are from named = absurd are
  rows_are_from one small j (guest ∷ guests) (i ∷ is) lt are from named =
      let here : slice_get (guests_of goal) j ≡ Some guest = sym (from 0 ∙ ap (slice_get (guests_of goal)) (omega arith)) in
      All-cons IsWindowRow (row_for j guest i) (rows_from (j + 1) guests is) (row_is j guest i _ (omega (arith, lt)) are.0.word (word_at one goal m j guest i (small j) here are.0 named.0))
      (rows_are_from one small (j + 1) guests is (omega (arith, lt)) are.1 (λ k. from (suc k) ∙ ap (slice_get (guests_of goal)) (omega arith)) named.1)

abbrev no_match : Match
no_match = record { gpr = λ p. p; register = λ r. r; constant = λ j. 0; target = 0; absolute = false }

pub rows_are : ((w : ℕ) → HasOneInstruction w) → (goal : Goal) (words : List Instr) → IsGoal goal → IsWindow (guests_of goal) words → All IsWindowRow (rows_for goal words)
rows_are one goal words is window =
    let slots = (template_of goal).slots in
    let few : length slots ≤ 6 = let e = length-take goal.parameters goal.slots in let p = is.tidy.parameters in omega (arith, e, p) in
    rows_are_from goal no_match few one (λ j. omega arith) 0 (guests_of goal) words (let f = window.few in omega (arith, f)) window.words (λ k. ap (slice_get (guests_of goal)) (omega arith))
    (words_named_by one (guests_of goal) slots words (plain no_match) is.template.placed window (λ n i e p f is z. let from = par_from slots p is in absurd (omega (arith, from, z))))

-- a word of a window has its instruction, and its row stands at its place
pub row_at_place : ((w : ℕ) → HasOneInstruction w) → (j k : ℕ) (guests : List Guest) (words : List Instr) (guest : Guest) (i : Instr) → AreGuests guests words → slice_get guests k ≡ Some guest → IsWordOf guest.word i → slice_get (rows_from j guests words) k ≡ Some (row_for (j + k) guest i)
unfolding rows_from
row_at_place one j k [] words guest i are at is = absurd cc
row_at_place one j k (g ∷ gs) [] guest i are at is = absurd are
row_at_place one j zero (g ∷ gs) (w ∷ ws) guest i are at is =
    let s : g ≡ guest = cc in
    ap Some (ap (λ x. row_for j x w) s ∙ ap (row_for j guest) (one guest.word w i (subst (λ (x : Guest). IsWordOf x.word w) s are.0.word) is) ∙ ap (λ n. row_for n guest i) (omega arith))
row_at_place one j (suc k) (g ∷ gs) (w ∷ ws) guest i are at is = row_at_place one (j + 1) k gs ws guest i are.1 at is ∙ ap (λ n. Some (row_for n guest i)) (omega arith)

pub guest_word : (k : ℕ) (guests : List Guest) (words : List Instr) (guest : Guest) → AreGuests guests words → slice_get guests k ≡ Some guest → (i : Instr) × IsWordOf guest.word i
guest_word k [] words guest are at = absurd cc
guest_word k (g ∷ gs) [] guest are at = absurd are
guest_word zero (g ∷ gs) (w ∷ ws) guest are at = let s : g ≡ guest = cc in (w, subst (λ (x : Guest). IsWordOf x.word w) s are.0.word)
guest_word (suc k) (g ∷ gs) (w ∷ ws) guest are at = guest_word k gs ws guest are.1 at

-- one row more
pub take_row : (rows : List WindowRow) (k : ℕ) (row : WindowRow) → slice_get rows k ≡ Some row → take (k + 1) rows ≡ take k rows ++ row ∷ []
take_row rows k row at = take_more rows k no_row (slice_get_within rows k row at) ∙ ap (λ x. take k rows ++ x ∷ []) (get_or_from_slice_get rows k row no_row at)

pub row_more : ((w : ℕ) → HasOneInstruction w) → (goal : Goal) (words : List Instr) (k : ℕ) (guest : Guest) (i : Instr) → AreGuests (guests_of goal) words → slice_get (guests_of goal) k ≡ Some guest → IsWordOf guest.word i →
    take (k + 1) (rows_for goal words) ≡ take k (rows_for goal words) ++ row_for k guest i ∷ []
row_more one goal words k guest i are at is =
    let n : 0 + k ≡ k = omega arith in
    take_row (rows_for goal words) k (row_for k guest i) (row_at_place one 0 k (guests_of goal) words guest i are at is ∙ ap (λ n. Some (row_for n guest i)) n)

-- there are as many rows and words as guests
rows_length : (j : ℕ) (guests : List Guest) (words : List Instr) → AreGuests guests words → length (rows_from j guests words) ≡ length guests
unfolding rows_from
rows_length j [] words are = refl
rows_length j (g ∷ gs) [] are = absurd are
rows_length j (g ∷ gs) (w ∷ ws) are = ap suc (rows_length (j + 1) gs ws are.1)

words_length : (guests : List Guest) (words : List Instr) → AreGuests guests words → length words ≡ length guests
words_length [] [] are = refl
words_length [] (w ∷ ws) are = absurd are
words_length (g ∷ gs) [] are = absurd are
words_length (g ∷ gs) (w ∷ ws) are = ap suc (words_length gs ws are.1)

no_guest : (guests : List Guest) (k : ℕ) → slice_get guests k ≡ None → length guests ≤ k
no_guest [] k e = omega arith
no_guest (g ∷ gs) zero e = absurd cc
no_guest (g ∷ gs) (suc k) e = let h = no_guest gs k e in omega (arith, h)

pub no_row_more : (goal : Goal) (words : List Instr) (k : ℕ) → AreGuests (guests_of goal) words → slice_get (guests_of goal) k ≡ None → take (k + 1) (rows_for goal words) ≡ take k (rows_for goal words)
no_row_more goal words k are e =
    let n = rows_length 0 (guests_of goal) words are in
    let h = no_guest (guests_of goal) k e in
    take_all (k + 1) (rows_for goal words) (omega (arith, n, h)) ∙ sym (take_all k (rows_for goal words) (omega (arith, n, h)))

few_guests : (goal : Goal) → length (guests_of goal) ≤ goal.count
few_guests goal = let e = length-take goal.count (guests goal.words goal.free) in let l = min_left goal.count (length (guests goal.words goal.free)) in omega (arith, e, l)
  where
    min_left : (n k : ℕ) → min n k ≤ n
    min_left n k = grind arith

pub all_rows : (goal : Goal) (words : List Instr) (k : ℕ) → AreGuests (guests_of goal) words → goal.count ≤ k → take k (rows_for goal words) ≡ rows_for goal words
all_rows goal words k are le = let n = rows_length 0 (guests_of goal) words are in let f = few_guests goal in take_all k (rows_for goal words) (omega (arith, n, f, le))

-- the words likewise
word_at_place : ((w : ℕ) → HasOneInstruction w) → (k : ℕ) (guests : List Guest) (words : List Instr) (guest : Guest) (i : Instr) → AreGuests guests words → slice_get guests k ≡ Some guest → IsWordOf guest.word i → slice_get words k ≡ Some i
word_at_place one k [] words guest i are at is = absurd cc
word_at_place one k (g ∷ gs) [] guest i are at is = absurd are
word_at_place one zero (g ∷ gs) (w ∷ ws) guest i are at is = let s : g ≡ guest = cc in ap Some (one guest.word w i (subst (λ (x : Guest). IsWordOf x.word w) s are.0.word) is)
word_at_place one (suc k) (g ∷ gs) (w ∷ ws) guest i are at is = word_at_place one k gs ws guest i are.1 at is

pub width_more : ((w : ℕ) → HasOneInstruction w) → (goal : Goal) (words : List Instr) (k : ℕ) (guest : Guest) (i : Instr) → AreGuests (guests_of goal) words → slice_get (guests_of goal) k ≡ Some guest → IsWordOf guest.word i →
    sum_by load_width (take (k + 1) words) ≡ sum_by load_width (take k words) + load_width i
width_more one goal words k guest i are at is =
    let w = word_at_place one k (guests_of goal) words guest i are at is in
    ap (sum_by load_width) (take_more words k i (slice_get_within words k i w) ∙ ap (λ x. take k words ++ x ∷ []) (get_or_from_slice_get words k i i w)) ∙ sum_by_push load_width (take k words) i

pub no_width_more : (goal : Goal) (words : List Instr) (k : ℕ) → AreGuests (guests_of goal) words → slice_get (guests_of goal) k ≡ None → sum_by load_width (take (k + 1) words) ≡ sum_by load_width (take k words)
no_width_more goal words k are e =
    let n = words_length (guests_of goal) words are in
    let h = no_guest (guests_of goal) k e in
    ap (sum_by load_width) (take_all (k + 1) words (omega (arith, n, h)) ∙ sym (take_all k words (omega (arith, n, h))))

pub all_words : (goal : Goal) (words : List Instr) (k : ℕ) → AreGuests (guests_of goal) words → goal.count ≤ k → take k words ≡ words
all_words goal words k are le = let n = words_length (guests_of goal) words are in let f = few_guests goal in take_all k words (omega (arith, n, f, le))
