-- The rows of a window over numbers, one after another, do what its words do on the guest. This project's own.
use Rattle.std.proofs.Common.{◌≡◌, ◌≢◌, ℕ, zero, suc, ◌+◌, ◌^◌, ◌<◌, ◌≤◌, Bool, true, false, cond, if◌then◌else◌, List, [], ◌∷◌, ◌++◌, length, slice_get, Some, Contains, refl, sym, ap, ◌∙◌, subst, arith}
use Rattle.std.specs.List.{All, flat_map, count_by, sum_by}
use Rattle.std.proofs.lemmas.Grind.{flat_map-append}
use Rattle.std.proofs.lemmas.List.{append-nil, append_assoc, length-append, length-take}
use Rattle.std.proofs.lemmas.List.Elements.{All-nil, All-append, Contains-append_left, Contains-append_right}
use Rattle.std.proofs.lemmas.List.Sums.{sum_by-cons}
use Rattle.machines.specs.Prelude.{HasOneInstruction, Goes, effect_of, guest_acts, Rights, Guest, Instr}
use Rattle.reg_map.specs.Prelude.{AreInRange}
use Rattle.symbolic_tiles.specs.Prelude.{loaded, stored}
use Rattle.simulation.specs.Prelude.{rows_of, then_row}
use Rattle.rule_body.specs.declared.goal.Goal.{Goal}
use Rattle.rule_body.specs.declared.goal.Guest.{Guest as Word}
use Rattle.rule_body.specs.Prelude.{has_access, AreGuests, guests_of, template_of}
use Rattle.rule_soundness.specs.Prelude.{Match, everywhere, behind_row, loads_of, stores_of, taken_of, filled}
use Rattle.rule_soundness.specs.Fields.{load_width}
use Rattle.rule_renaming.specs.Plain.{plain}
use Rattle.rule_renaming.proofs.Parameters.{par_from}
use Rattle.rule_renaming.proofs.Guests.{AreNamedWords}
use Rattle.rule_renaming.proofs.Bridge.{P}
use Rattle.rule_renaming.proofs.NamedWords.{filled_words, words_named_by}
use Rattle.rule_renaming.proofs.PlainNames.{plain_words}
use Rattle.row_runs.specs.Accesses.{Accessed}
use Rattle.row_runs.specs.Windows.{Row, WindowRun, guest_step, guest_steps}
use Rattle.row_circuits.specs.Windows.{row_of}
use Rattle.row_circuits.specs.declared.rows.WindowRow.{WindowRow}
use Rattle.window_circuits.specs.Runs.{row_at}
use Rattle.rule_places.specs.Accesses.{seen, loads_at, stores_at, behind_accesses}
use Rattle.rule_places.specs.Guests.{ShowsGuest, plain_window}
use Rattle.rule_rows.specs.Rows.{row_for, rows_from, rows_for, window_width}
use Rattle.rule_rows.specs.Laws.{rows_run, WindowsRun}
use Rattle.rule_rows.proofs.Moved.{behind_more}
use Rattle.rule_rows.proofs.Reach.{calm_width, few_wide}
use Rattle.rule_rows.proofs.Doing.{word_at}
use Rattle.rule_rows.proofs.Step.{Stepped, step}

-- the first row before the others
first_before : (n : ℕ) (oracle : ℕ → ℕ → ℕ) (rows : ℕ → Row) (r : WindowRun) → guest_steps (suc n) oracle rows r ≡ guest_steps n oracle (λ k. rows (suc k)) (guest_step oracle (rows 0) r)
unfolding guest_steps
first_before zero oracle rows r = refl
first_before (suc n) oracle rows r = ap (guest_step oracle (rows (suc n))) (first_before n oracle rows r)

abbrev count_of : Bool → ℕ
count_of b = cond b 1 0

-- words without an access load nothing
count_next : (i : Instr) (is : List Instr) → count_by has_access (i ∷ is) ≡ cond (has_access i) 1 0 + count_by has_access is
count_next i is = sum_by-cons (λ i. cond (has_access i) 1 0) i is

nothing_loaded : (is : List Instr) → count_by has_access is ≡ 0 → sum_by load_width is ≡ 0
nothing_loaded [] none = refl
nothing_loaded (i ∷ is) none =
    let c = count_next i is in
    let e = calm (has_access i) refl (omega (arith, c, none)) in
    let rest = nothing_loaded is (omega (arith, c, none)) in
    sum_by-cons load_width i is ∙ add_zeros (load_width i) (sum_by load_width is) e rest
  where
    calm : (b : Bool) → has_access i ≡ b → count_of b ≡ 0 → load_width i ≡ 0
    calm true has e = absurd (omega (arith, e))
    calm false none e = calm_width i none

    add_zeros : (x y : ℕ) → x ≡ 0 → y ≡ 0 → x + y ≡ 0
    add_zeros x y a b = omega (arith, a, b)

-- a window, which has one access at most, loads 4 bytes at most
pub few_loaded : (is : List Instr) → count_by has_access is ≤ 1 → sum_by load_width is ≤ 4
few_loaded [] one = omega arith
few_loaded (i ∷ is) one = by_access (has_access i) refl (few_loaded is)
  where
    by_access : (b : Bool) → has_access i ≡ b → (count_by has_access is ≤ 1 → sum_by load_width is ≤ 4) → sum_by load_width (i ∷ is) ≤ 4
    by_access true has rest =
        let c = count_next i is in let t = ap count_of has in let e = nothing_loaded is (omega (arith, c, t, one)) in
        let s = sum_by-cons load_width i is in let w = few_wide i in omega (arith, s, e, w)
    by_access false none rest =
        let c = count_next i is in let t = ap count_of none in let r = rest (omega (arith, c, t, one)) in
        let s = sum_by-cons load_width i is in let z = calm_width i none in omega (arith, s, z, r)

-- whether the last of the words is a branch that is taken, and what was before where there is none
abbrev taken_behind : Bool → List Instr → Guest → Bool
taken_behind t [] g = t
taken_behind t (i ∷ is) g = taken_of (i ∷ is) g

-- the accesses of the first word are among those of the words
in_first_loads : (found : Instr) (words : List Instr) (g : Guest) (a : ℕ) → Contains (loaded (effect_of found g).kind (effect_of found g).width (effect_of found g).address) a → Contains (loads_of (found ∷ words) g) a
unfolding loads_of
in_first_loads found words g a c = Contains-append_left (loaded (effect_of found g).kind (effect_of found g).width (effect_of found g).address) (behind_row [] (loads_of words) (guest_acts everywhere found (effect_of found g) g)) a c

in_first_stores : (found : Instr) (words : List Instr) (g : Guest) (a : ℕ) → Contains (stored (effect_of found g).kind (effect_of found g).width (effect_of found g).address) a → Contains (stores_of (found ∷ words) g) a
unfolding stores_of
in_first_stores found words g a c = Contains-append_left (stored (effect_of found g).kind (effect_of found g).width (effect_of found g).address) (behind_row [] (stores_of words) (guest_acts everywhere found (effect_of found g) g)) a c

module _ (one : (w : ℕ) → HasOneInstruction w) (goal : Goal) (m : Match) (rights : Rights) (width : ℕ) (memory : ℕ → ℕ) (six : length (template_of goal).slots ≤ 6) (small : (j : ℕ) → m.constant j < 2 ^ 16) (held_bytes : (a : ℕ) → rights.held a ≡ true → memory a < 256) where
  abbrev slots : List Bool
  slots = (template_of goal).slots

  abbrev run_of : List WindowRow → WindowRun → WindowRun
  run_of rows r = guest_steps (length rows) (seen width memory) (row_at rows) r

  -- words go to a state, and their rows to a run that shows it
  record Ran (words : List Instr) (rows : List WindowRow) (accesses : ℕ) (g : Guest) (r : WindowRun) : Type 0 where
    after : Guest
    goes : rows_of rights words g ≡ Goes after
    shows : ShowsGuest goal m after.locs (run_of rows r).places
    others : (x : ℕ) → x < 32 → ((k : ℕ) → k < length slots → x ≢ k + 1) → after.locs x ≡ g.locs x
    in_range : AreInRange after
    added : List Accessed
    grown : (run_of rows r).accesses ≡ r.accesses ++ added
    few : length added ≤ accesses
    widths : All (λ (x : Accessed). x.loads ≡ true → x.width ≡ width) added
    loads : loads_of words g ≡ flat_map loads_at added
    stores : stores_of words g ≡ flat_map stores_at added
    bytes : after.bytes ≡ behind_accesses added g.bytes
    taken : (run_of rows r).taken ≡ taken_behind r.taken words g

  nothing : (g : Guest) (r : WindowRun) → ShowsGuest goal m g.locs r.places → AreInRange g → Ran [] [] 0 g r
  unfolding guest_steps loads_of stores_of behind_accesses
  nothing g r shows fits = record {
    after = g;
    goes = refl;
    shows = shows;
    others = λ x lt none_of. refl;
    in_range = fits;
    added = [];
    grown = sym (append-nil r.accesses);
    few = omega arith;
    widths = All-nil (λ (x : Accessed). x.loads ≡ true → x.width ≡ width);
    loads = refl;
    stores = refl;
    bytes = refl;
    taken = refl;
  }

  -- what is behind the first word
  module _ (found : Instr) (row : WindowRow) (has : Bool) (g : Guest) (r : WindowRun) (s : Stepped goal m rights width memory six found row has g r) where
    abbrev next_run : WindowRun
    next_run = guest_step (seen width memory) (row_of row) r

    loads_next : (words : List Instr) → loads_of (found ∷ words) g ≡ loaded (effect_of found g).kind (effect_of found g).width (effect_of found g).address ++ loads_of words s.after
    unfolding loads_of
    loads_next words = ap (λ o. loaded (effect_of found g).kind (effect_of found g).width (effect_of found g).address ++ behind_row [] (loads_of words) o) s.anywhere

    stores_next : (words : List Instr) → stores_of (found ∷ words) g ≡ stored (effect_of found g).kind (effect_of found g).width (effect_of found g).address ++ stores_of words s.after
    unfolding stores_of
    stores_next words = ap (λ o. stored (effect_of found g).kind (effect_of found g).width (effect_of found g).address ++ behind_row [] (stores_of words) o) s.anywhere

    taken_next : (words : List Instr) → taken_behind next_run.taken words s.after ≡ taken_of (found ∷ words) g
    unfolding taken_of
    taken_next [] = s.taken
    taken_next (k ∷ words) = ap (behind_row false (taken_of (k ∷ words))) (sym s.anywhere)

    joined : (words : List Instr) (rows : List WindowRow) (accesses : ℕ) → Ran words rows accesses s.after next_run → Ran (found ∷ words) (row ∷ rows) (cond has 1 0 + accesses) g r
    joined words rows accesses rest =
        let first = first_before (length rows) (seen width memory) (row_at (row ∷ rows)) r in
        record {
          after = rest.after;
          goes = ap (then_row (rows_of rights words)) s.goes ∙ rest.goes;
          shows = subst (λ (x : WindowRun). ShowsGuest goal m rest.after.locs x.places) (sym first) rest.shows;
          others = λ x lt none_of. rest.others x lt none_of ∙ s.others x lt none_of;
          in_range = rest.in_range;
          added = s.added ++ rest.added;
          grown = ap (λ (x : WindowRun). x.accesses) first ∙ rest.grown ∙ ap (λ xs. xs ++ rest.added) s.grown ∙ append_assoc r.accesses s.added rest.added;
          few = let l = length-append s.added rest.added in let a = s.few in let b = rest.few in omega (arith, l, a, b);
          widths = All-append (λ (x : Accessed). x.loads ≡ true → x.width ≡ width) s.added rest.added s.widths rest.widths;
          loads = loads_next words ∙ ap (λ xs. xs ++ loads_of words s.after) s.loads ∙ ap (λ xs. flat_map loads_at s.added ++ xs) rest.loads ∙ sym (flat_map-append loads_at s.added rest.added);
          stores = stores_next words ∙ ap (λ xs. xs ++ stores_of words s.after) s.stores ∙ ap (λ xs. flat_map stores_at s.added ++ xs) rest.stores ∙ sym (flat_map-append stores_at s.added rest.added);
          bytes = rest.bytes ∙ ap (behind_accesses rest.added) s.bytes ∙ sym (behind_more s.added rest.added g.bytes);
          taken = ap (λ (x : WindowRun). x.taken) first ∙ rest.taken ∙ taken_next words;
        }

  -- the first access of the words finds the memory, and has the width
  abbrev Finds : List Instr → Guest → Type 0
  Finds is g = 0 < count_by has_access is → (g.bytes ≡ memory) × (sum_by load_width is ≡ width)

  -- these are the words of the goal from word j on
  abbrev AreFrom : ℕ → List Word → Type 0
  AreFrom j guests = (k : ℕ) → slice_get guests k ≡ slice_get (guests_of goal) (j + k)

  from_next : (j : ℕ) (guest : Word) (guests : List Word) → AreFrom j (guest ∷ guests) → AreFrom (j + 1) guests
  from_next j guest guests from k = from (suc k) ∙ ap (slice_get (guests_of goal)) (omega arith)

  module _ (i : Instr) (is : List Instr) (at_most : count_by has_access (i ∷ is) ≤ 1) (g : Guest) (finds : Finds (i ∷ is) g) where
    first_finds : has_access i ≡ true → (g.bytes ≡ memory) × (load_width i ≡ width)
    first_finds has =
        let c = count_next i is in let t = ap count_of has in let e = nothing_loaded is (omega (arith, c, t, at_most)) in let f = finds (omega (arith, c, t)) in
        (f.0, let s = sum_by-cons load_width i is in let w = f.1 in omega (arith, s, e, w))

    rest_finds : (after : Guest) → (has_access i ≡ false → after.bytes ≡ g.bytes) → Finds is after
    rest_finds after calm some = by_test (has_access i) refl
      where
        by_test : (b : Bool) → has_access i ≡ b → (after.bytes ≡ memory) × (sum_by load_width is ≡ width)
        by_test true has = let c = count_next i is in let t = ap count_of has in absurd (omega (arith, c, t, at_most, some))
        by_test false none =
            let c = count_next i is in let t = ap count_of none in let f = finds (omega (arith, c, t, some)) in
            (calm none ∙ f.0, let s = sum_by-cons load_width i is in let w = f.1 in let z = calm_width i none in omega (arith, s, w, z))

  runs : (j : ℕ) (guests : List Word) (is : List Instr) → AreGuests guests is → AreFrom j guests → AreNamedWords (plain m) (P slots (plain m)) (filled_words slots (plain m) j guests is) → count_by has_access is ≤ 1 →
      (g : Guest) (r : WindowRun) → ShowsGuest goal m g.locs r.places → AreInRange g → Finds is g →
      ((a : ℕ) → Contains (loads_of (filled_words slots (plain m) j guests is) g) a → rights.held a ≡ true) → ((a : ℕ) → Contains (stores_of (filled_words slots (plain m) j guests is) g) a → rights.writable a ≡ true) →
      Ran (filled_words slots (plain m) j guests is) (rows_from j guests is) (count_by has_access is) g r
  unfolding filled_words rows_from
  runs j [] [] are from named at_most g r shows fits finds loads stores = nothing g r shows fits
  runs j [] (i ∷ is) are from named at_most g r shows fits finds loads stores = absurd are
  runs j (guest ∷ guests) [] are from named at_most g r shows fits finds loads stores = absurd are
  runs j (guest ∷ guests) (i ∷ is) are from named at_most g r shows fits finds loads stores =
      let found = if guest.free then filled (plain m) j i else i in
      let here : slice_get (guests_of goal) j ≡ Some guest = sym (from 0 ∙ ap (slice_get (guests_of goal)) (omega arith)) in
      let word = word_at one goal m j guest i (small j) here are.0 named.0 in
      let e = effect_of found g in
      let rest_words = filled_words slots (plain m) (j + 1) guests is in
      let s = step goal m rights width memory six j guest i found word g r shows fits held_bytes
      (λ a c. loads a (in_first_loads found rest_words g a c)) (λ a c. stores a (in_first_stores found rest_words g a c)) (first_finds i is at_most g finds) in
      let c = count_next i is in
      let rest = runs (j + 1) guests is are.1 (from_next j guest guests from) named.1 (omega (arith, c, at_most)) s.after (guest_step (seen width memory) (row_of (row_for j guest i)) r) s.shows s.in_range (rest_finds i is at_most g finds s.after s.calm)
      (λ a k. loads a (subst (λ (xs : List ℕ). Contains xs a) (sym (loads_next found (row_for j guest i) (has_access i) g r s rest_words)) (Contains-append_right (loaded e.kind e.width e.address) (loads_of rest_words s.after) a k)))
      (λ a k. stores a (subst (λ (xs : List ℕ). Contains xs a) (sym (stores_next found (row_for j guest i) (has_access i) g r s rest_words)) (Contains-append_right (stored e.kind e.width e.address) (stores_of rest_words s.after) a k))) in
      subst (λ n. Ran (found ∷ rest_words) (row_for j guest i ∷ rows_from (j + 1) guests is) n g r) (sym c) (joined found (row_for j guest i) (has_access i) g r s rest_words (rows_from (j + 1) guests is) (count_by has_access is) rest)

last_taken : (words : List Instr) (g : Guest) (t : Bool) → t ≡ false → taken_behind t words g ≡ taken_of words g
unfolding taken_of
last_taken [] g t e = e
last_taken (i ∷ is) g t e = refl

pub windows_run : ((w : ℕ) → HasOneInstruction w) → WindowsRun
windows_run one goal words m rights g start starts = (
  ran.after,
  ap (λ ws. rows_of rights ws g) same ∙ ran.goes,
  record {
    shows = ran.shows;
    others = ran.others;
    in_range = ran.in_range;
    taken = ran.taken ∙ last_taken window g start.taken starts.taken ∙ ap (λ ws. taken_of ws g) (sym same);
    one_access = record { few = let a = ran.few in let b = starts.window.one_access in let e = ap length accesses in omega (arith, a, b, e); loads = subst (All (λ (x : Accessed). x.loads ≡ true → x.width ≡ window_width words)) (sym accesses) ran.widths };
    inside = record {
      loaded = λ a c. starts.loads a (subst (λ (xs : List ℕ). Contains xs a) (sym loads) c);
      stored = λ a c. starts.stores a (subst (λ (xs : List ℕ). Contains xs a) (sym stores) c);
    };
    loads = loads;
    stores = stores;
    bytes = λ a. ap (λ f. f a) (ran.bytes ∙ ap (λ xs. behind_accesses xs g.bytes) (sym accesses));
  },
)
  where
    slots : List Bool
    slots = (template_of goal).slots

    window : List Instr
    window = filled_words slots (plain m) 0 (guests_of goal) words

    named : AreNamedWords (plain m) (P slots (plain m)) window
    named = words_named_by one (guests_of goal) slots words (plain m) starts.is_goal.template.placed starts.window (λ n i e p f is z. let from = par_from slots p is in absurd (omega (arith, from, z)))

    same : plain_window goal words m ≡ window
    same = plain_words slots (plain m) 0 (guests_of goal) words named

    few : length slots ≤ 6
    few = let e = length-take goal.parameters goal.slots in let p = starts.is_goal.tidy.parameters in omega (arith, e, p)

    ran : Ran one goal m rights (window_width words) g.bytes few starts.constants starts.bytes window (rows_for goal words) (count_by has_access words) g start
    ran = runs one goal m rights (window_width words) g.bytes few starts.constants starts.bytes 0 (guests_of goal) words starts.window.words (λ k. ap (slice_get (guests_of goal)) (omega arith)) named starts.window.one_access g start starts.shows starts.in_range (λ some. (refl, refl))
        (λ a c. starts.loads a (subst (λ ws. Contains (loads_of ws g) a) (sym same) c)) (λ a c. starts.stores a (subst (λ ws. Contains (stores_of ws g) a) (sym same) c))

    accesses : (rows_run goal words g.bytes start).accesses ≡ ran.added
    accesses = ran.grown ∙ ap (λ xs. xs ++ ran.added) starts.accesses

    loads : loads_of (plain_window goal words m) g ≡ flat_map loads_at (rows_run goal words g.bytes start).accesses
    loads = ap (λ ws. loads_of ws g) same ∙ ran.loads ∙ ap (flat_map loads_at) (sym accesses)

    stores : stores_of (plain_window goal words m) g ≡ flat_map stores_at (rows_run goal words g.bytes start).accesses
    stores = ap (λ ws. stores_of ws g) same ∙ ran.stores ∙ ap (flat_map stores_at) (sym accesses)
