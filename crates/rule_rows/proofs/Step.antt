-- One row of a window over numbers does what its word does on the guest. This project's own.
use Rattle.std.proofs.Common.{◌≡◌, ◌≢◌, ℕ, ◌+◌, ◌%◌, ◌^◌, ◌<◌, ◌≤◌, inl, inr, ⊎_elim, Bool, true, false, ◌==◌, if◌then◌else◌, List, [], ◌∷◌, ◌++◌, length, Option, Some, None, Contains, refl, sym, ap, ◌∙◌, subst, arith}
use Rattle.std.specs.List.{All, flat_map}
use Rattle.std.proofs.lemmas.Bool.Decides.{nat_tests}
use Rattle.std.proofs.lemmas.List.{append-nil}
use Rattle.std.proofs.lemmas.List.Elements.{All-nil, All-cons}
use Rattle.std.proofs.lemmas.List.Concat.{flat_map-cons}
use Rattle.word_kit.specs.Prelude.{joined}
use Rattle.machines.specs.Prelude.{Outside, Goes, Ends, Access, NoAccess, LoadAccess, StoreAccess, Effect, guest_row, cr_word, xer_word, guest_values, loaded_in, loaded_by, effect_of, guest_acts, at_next, branches, store_big, load_big, each_byte, Rights, Guest, Instr, BranchConditional}
use Rattle.reg_map.specs.Prelude.{AreInRange, location_range}
use Rattle.symbolic_tiles.specs.Prelude.{loaded, stored}
use Rattle.symbolic_tiles.proofs.Shows.{bytes_held}
use Rattle.rule_body.specs.declared.goal.Goal.{Goal}
use Rattle.rule_body.specs.declared.goal.Guest.{Guest as Word}
use Rattle.rule_body.specs.Prelude.{is_plain, has_access, template_of}
use Rattle.rule_soundness.specs.Prelude.{Match, everywhere, target_at}
use Rattle.rule_soundness.specs.Fields.{a_field, b_field, s_field, immediate, Reading, load_width, is_store, written, read_field, read_second, put_written, reaches, stored_bytes}
use Rattle.rule_soundness.proofs.GuestTable.{rows_put_fields, accesses_put_fields, branches_put_fields}
use Rattle.rule_soundness.proofs.Passing.{each_anywhere}
use Rattle.rule_renaming.proofs.Parameters.{par_to}
use Rattle.row_runs.specs.Accesses.{Accessed, big_number, cut}
use Rattle.row_runs.specs.Windows.{WindowRun, unloaded, row_effect, row_accesses, guest_step}
use Rattle.row_runs.specs.Oracles.{is_load}
use Rattle.row_runs.proofs.Prompt.{prompt}
use Rattle.place_circuits.specs.Sources.{IsWidth}
use Rattle.row_circuits.specs.Windows.{row_of}
use Rattle.row_circuits.specs.declared.rows.WindowRow.{WindowRow}
use Rattle.rule_places.specs.Accesses.{seen, loads_at, stores_at, behind_accesses}
use Rattle.rule_places.specs.Guests.{ShowsGuest}
use Rattle.rule_rows.specs.Rows.{row_for}
use Rattle.rule_rows.proofs.Values.{IsXer, AreWords, Gives, plain_gives, branch_gives, of_joined}
use Rattle.rule_rows.proofs.Moved.{AreBytes, big_seen, stored_cut, each_of}
use Rattle.rule_rows.proofs.Parameters.{IsIn, IsBased, IsFork, FitsReading, number_word, constant_fits, with_constant}
use Rattle.rule_rows.proofs.Puts.{put_places, puts_shown, written_others, written_in_range}
use Rattle.rule_rows.proofs.Reach.{stored_or_loaded, Reaches, access_reaches, calm_kind}
use Rattle.rule_rows.proofs.Doing.{SameDoing, IsWordAt, same_row, reads, then_doing}

-- the accesses of a row are those of its effect
flat_one : (f : Accessed → List ℕ) (x : Accessed) → f x ≡ flat_map f (x ∷ [])
flat_one f x = sym (flat_map-cons f x [] ∙ append-nil (f x))

loads_match : (k : Access) (e : Effect) → loaded k e.width e.address ≡ flat_map loads_at (row_accesses k e)
loads_match NoAccess e = refl
loads_match LoadAccess e = flat_one loads_at (record { loads = true; width = e.width; address = e.address; stored = 0 })
loads_match StoreAccess e = flat_one loads_at (record { loads = false; width = e.width; address = e.address; stored = cut e.width e.stored })

stores_match : (k : Access) (e : Effect) → stored k e.width e.address ≡ flat_map stores_at (row_accesses k e)
stores_match NoAccess e = refl
stores_match LoadAccess e = flat_one stores_at (record { loads = true; width = e.width; address = e.address; stored = 0 })
stores_match StoreAccess e = flat_one stores_at (record { loads = false; width = e.width; address = e.address; stored = cut e.width e.stored })

one_access : (k : Access) (e : Effect) → length (row_accesses k e) ≤ 1
one_access NoAccess e = omega arith
one_access LoadAccess e = omega arith
one_access StoreAccess e = omega arith

-- memory behind a row that accesses it
abbrev bytes_behind : Bool → Effect → (ℕ → ℕ) → ℕ → ℕ
bytes_behind st e f = if st then store_big e.width e.address e.stored f else f

behind_match : (st : Bool) (e : Effect) (f : ℕ → ℕ) → IsWidth e.width → bytes_behind st e f ≡ behind_accesses (row_accesses (stored_or_loaded st) e) f
unfolding behind_accesses
behind_match true e f is = sym (stored_cut e.width e.address e.stored f is)
behind_match false e f is = refl

widths_match : (st : Bool) (e : Effect) (width : ℕ) → (st ≡ false → e.width ≡ width) → All (λ (x : Accessed). x.loads ≡ true → x.width ≡ width) (row_accesses (stored_or_loaded st) e)
widths_match true e width same = All-cons (λ (x : Accessed). x.loads ≡ true → x.width ≡ width) _ [] (λ t. absurd cc) (All-nil (λ (x : Accessed). x.loads ≡ true → x.width ≡ width))
widths_match false e width same = All-cons (λ (x : Accessed). x.loads ≡ true → x.width ≡ width) _ [] (λ t. same refl) (All-nil (λ (x : Accessed). x.loads ≡ true → x.width ≡ width))

big_word : (width : ℕ) (bytes : ℕ → ℕ) → big_number width bytes < 2 ^ 32
big_word width bytes = by_tests (width == 4) (width == 2)
  where
    by_tests : (p q : Bool) → (if p then joined (bytes 0) (bytes 1) (bytes 2) (bytes 3) else if q then joined 0 0 (bytes 0) (bytes 1) else joined 0 0 0 (bytes 0)) < 2 ^ 32
    by_tests true q = of_joined (bytes 0) (bytes 1) (bytes 2) (bytes 3)
    by_tests false true = of_joined 0 0 (bytes 0) (bytes 1)
    by_tests false false = of_joined 0 0 0 (bytes 0)

module _ (goal : Goal) (m : Match) (rights : Rights) (width : ℕ) (memory : ℕ → ℕ) (six : length (template_of goal).slots ≤ 6) where
  -- A row leads to a run that shows the guest behind its word.
  pub record Stepped (found : Instr) (row : WindowRow) (accesses : Bool) (g : Guest) (r : WindowRun) : Type 0 where
    pub after : Guest
    pub goes : guest_acts rights found (effect_of found g) g ≡ Goes after
    pub anywhere : guest_acts everywhere found (effect_of found g) g ≡ Goes after
    pub shows : ShowsGuest goal m after.locs (guest_step (seen width memory) (row_of row) r).places
    pub others : (x : ℕ) → x < 32 → ((k : ℕ) → k < length (template_of goal).slots → x ≢ k + 1) → after.locs x ≡ g.locs x
    pub in_range : AreInRange after
    pub added : List Accessed
    pub grown : (guest_step (seen width memory) (row_of row) r).accesses ≡ r.accesses ++ added
    pub few : length added ≤ (if accesses then 1 else 0)
    pub widths : All (λ (x : Accessed). x.loads ≡ true → x.width ≡ width) added
    pub loads : loaded (effect_of found g).kind (effect_of found g).width (effect_of found g).address ≡ flat_map loads_at added
    pub stores : stored (effect_of found g).kind (effect_of found g).width (effect_of found g).address ≡ flat_map stores_at added
    pub bytes : after.bytes ≡ behind_accesses added g.bytes
    pub calm : accesses ≡ false → after.bytes ≡ g.bytes
    pub taken : (guest_step (seen width memory) (row_of row) r).taken ≡ (effect_of found g).taken

  module _ (j : ℕ) (guest : Word) (i found : Instr) (is : IsWordAt goal m j guest i found) (g : Guest) (r : WindowRun) (shows : ShowsGuest goal m g.locs r.places) (fits : AreInRange g) where
    abbrev slots : List Bool
    slots = (template_of goal).slots

    abbrev row : WindowRow
    row = row_for j guest i

    abbrev before : Effect
    before = guest_row found (guest_values found 0 g.locs)

    -- what the run loads
    abbrev number : ℕ
    number = big_number (unloaded (row_of row) r.places).width (seen width memory (unloaded (row_of row) r.places).address)

    abbrev effect : Effect
    effect = effect_of found g

    abbrev as_run : Effect
    as_run = guest_row found (guest_values found number g.locs)

    abbrev run_effect : Effect
    run_effect = row_effect (seen width memory) (row_of row) r.places

    -- values are words
    register_word : (p : ℕ) → p < 34 → g.locs p < 2 ^ 32
    register_word p lt = let h = fits p (omega (arith, lt)) in grind (arith, nat_tests, h)

    in_word : (f : Option ℕ) → IsIn slots f → read_field g.locs f < 2 ^ 32
    in_word None is = omega arith
    in_word (Some p) is = let to = par_to slots p is in register_word p (omega (arith, to, six))

    based_word : (f : Option ℕ) → IsBased slots found f → read_field g.locs f < 2 ^ 32
    based_word None is = omega arith
    based_word (Some p) (inl is) = in_word (Some p) is
    based_word (Some p) (inr e) = let z = e.1 in register_word p (omega (arith, z))

    second_word : (o : Option Reading) (f : Option ℕ) → FitsReading o → IsIn slots f → read_second g.locs o f < 2 ^ 32
    second_word None f fits is = in_word f is
    second_word (Some reading) f fits is = number_word reading fits

    cr_is_word : cr_word g.locs < 2 ^ 32
    cr_is_word =
        let a : g.locs 34 < 16 = fits 34 (omega arith) in let b : g.locs 35 < 16 = fits 35 (omega arith) in let c : g.locs 36 < 16 = fits 36 (omega arith) in let d : g.locs 37 < 16 = fits 37 (omega arith) in
        let e : g.locs 38 < 16 = fits 38 (omega arith) in let f : g.locs 39 < 16 = fits 39 (omega arith) in let h : g.locs 40 < 16 = fits 40 (omega arith) in let k : g.locs 41 < 16 = fits 41 (omega arith) in
        omega (arith, a, b, c, d, e, f, h, k)

    xer_is_word : IsXer (xer_word g.locs)
    xer_is_word =
        let a : g.locs 42 < 2 = fits 42 (omega arith) in let b : g.locs 43 < 2 = fits 43 (omega arith) in let c : g.locs 44 < 2 = fits 44 (omega arith) in let d : g.locs 45 < 128 = fits 45 (omega arith) in
        (omega (arith, a, b, c, d), omega (arith, a, b, c, d))

    values_are_words : AreWords (guest_values found number g.locs)
    values_are_words =
        let rs = reads goal m j guest i found is g.locs r.places shows in
        record {
          a = subst (λ v. v < 2 ^ 32) (sym rs.a) (based_word (a_field found) is.fields.a);
          b = subst (λ v. v < 2 ^ 32) (sym (rs.b ∙ is.filled.second g.locs)) (second_word (with_constant guest.free (m.constant j) (immediate i)) (b_field i) (constant_fits guest.free (m.constant j) (immediate i) is.small is.fits) (subst (IsIn slots) is.filled.b is.fields.b));
          s = subst (λ v. v < 2 ^ 32) (sym rs.s) (in_word (s_field found) is.fields.s);
          cr = cr_is_word;
          xer = xer_is_word;
          lr = register_word 32 (omega arith);
          ctr = register_word 33 (omega arith);
          loaded = big_word (unloaded (row_of row) r.places).width (seen width memory (unloaded (row_of row) r.places).address);
        }

    fork_gives : IsFork found → Gives (written found).cr (written found).xer (written found).lr (written found).ctr (guest_values found number g.locs) as_run
    fork_gives fork =
        let of_branch : (k : Instr) → k ≡ BranchConditional fork.0 fork.1 fork.2 fork.3 false → AreWords (guest_values k number g.locs) → Gives (written k).cr (written k).xer (written k).lr (written k).ctr (guest_values k number g.locs) (guest_row k (guest_values k number g.locs)) =
        λ k e. subst (λ k. AreWords (guest_values k number g.locs) → Gives (written k).cr (written k).xer (written k).lr (written k).ctr (guest_values k number g.locs) (guest_row k (guest_values k number g.locs))) (sym e) (λ are. branch_gives _ are fork.0 fork.1) in
        of_branch found fork.4 values_are_words

    gives : Gives (written found).cr (written found).xer (written found).lr (written found).ctr (guest_values found number g.locs) as_run
    gives = ⊎_elim (plain_gives (guest_values found number g.locs) values_are_words found) fork_gives is.filled.kind

    -- where the word does what it does with what the run loads
    module _ (same : effect ≡ as_run) where
      doing : SameDoing found effect run_effect
      doing = then_doing found effect as_run run_effect same (same_row goal m j guest i found is g.locs r.places shows number)

      abbrev locs_behind : ℕ → ℕ
      locs_behind = put_written (written found) effect g.locs

      shown : ShowsGuest goal m locs_behind (guest_step (seen width memory) (row_of row) r).places
      shown =
          subst (λ t. ShowsGuest goal m locs_behind t) ((same_row goal m j guest i found is g.locs r.places shows number).places r.places ∙ ap (λ w. put_places w run_effect r.places) is.filled.writes)
          (subst (λ e. ShowsGuest goal m (put_written (written found) e g.locs) (put_places (written found) as_run r.places)) (sym same)
          (puts_shown goal m (written found) (guest_values found number g.locs) as_run g.locs r.places six is.fields.d_to is.fields.a_to gives refl refl refl refl shows))

      kept : (x : ℕ) → x < 32 → ((k : ℕ) → k < length slots → x ≢ k + 1) → locs_behind x ≡ g.locs x
      kept x lt none = ap (λ e. put_written (written found) e g.locs x) same ∙ written_others slots six (written found) is.fields.d_to is.fields.a_to (guest_values found number g.locs) as_run gives g.locs x lt none

      ranged : (x : ℕ) → x < 46 → locs_behind x < location_range x
      ranged = subst (λ e. (x : ℕ) → x < 46 → put_written (written found) e g.locs x < location_range x) (sym same) (written_in_range slots six (written found) is.fields.d_to is.fields.a_to (guest_values found number g.locs) as_run gives g.locs fits)

      loads_are : loaded effect.kind effect.width effect.address ≡ flat_map loads_at (row_accesses run_effect.kind run_effect)
      loads_are = ap (λ k. loaded k effect.width effect.address) doing.kind ∙ ap (λ n. loaded run_effect.kind n effect.address) doing.width ∙ ap (loaded run_effect.kind run_effect.width) doing.address ∙ loads_match run_effect.kind run_effect

      stores_are : stored effect.kind effect.width effect.address ≡ flat_map stores_at (row_accesses run_effect.kind run_effect)
      stores_are = ap (λ k. stored k effect.width effect.address) doing.kind ∙ ap (λ n. stored run_effect.kind n effect.address) doing.width ∙ ap (stored run_effect.kind run_effect.width) doing.address ∙ stores_match run_effect.kind run_effect

      -- a word without an access
      calm_step : (after : Guest) → effect.kind ≡ NoAccess → after.locs ≡ locs_behind → after.bytes ≡ g.bytes → ((some : Rights) → guest_acts some found effect g ≡ Goes after) → (accesses : Bool) → Stepped found row accesses g r
      unfolding behind_accesses
      calm_step after none locs bytes goes accesses =
          let nothing : row_accesses run_effect.kind run_effect ≡ [] = ap (λ k. row_accesses k run_effect) (sym doing.kind ∙ none) in
          record {
            after = after;
            goes = goes rights;
            anywhere = goes everywhere;
            shows = subst (λ l. ShowsGuest goal m l (guest_step (seen width memory) (row_of row) r).places) (sym locs) shown;
            others = λ x lt none. ap (λ l. l x) locs ∙ kept x lt none;
            in_range = subst (λ l. (x : ℕ) → x < 46 → l x < location_range x) (sym locs) ranged;
            added = [];
            grown = ap (λ xs. r.accesses ++ xs) nothing;
            few = no_less accesses;
            widths = All-nil (λ (x : Accessed). x.loads ≡ true → x.width ≡ width);
            loads = loads_are ∙ ap (flat_map loads_at) nothing;
            stores = stores_are ∙ ap (flat_map stores_at) nothing;
            bytes = bytes ∙ same_bytes;
            calm = λ e. bytes;
            taken = sym doing.taken;
          }
        where
          no_less : (b : Bool) → 0 ≤ (if b then 1 else 0)
          no_less true = omega arith
          no_less false = omega arith

          same_bytes : g.bytes ≡ behind_accesses [] g.bytes
          same_bytes = refl

      -- a word with one
      access_step : (plain : is_plain found ≡ true) (has : has_access found ≡ true) → (is_store found ≡ false → effect.width ≡ width) → reaches rights found effect ≡ true → Stepped found row true g r
      access_step plain has wide reach =
          let reached = access_reaches found (guest_values found (loaded_in before g.bytes) g.locs) plain has in
          let same_accesses : row_accesses (stored_or_loaded (is_store found)) run_effect ≡ row_accesses run_effect.kind run_effect = ap (λ k. row_accesses k run_effect) (sym reached.kind ∙ doing.kind) in
          record {
            after = record (at_next locs_behind g) { bytes = stored_bytes found effect g.bytes };
            goes = accesses_put_fields rights found effect g plain has ∙ ap (λ b. if b then Goes (record (at_next locs_behind g) { bytes = stored_bytes found effect g.bytes }) else Ends Outside) reach;
            anywhere = accesses_put_fields everywhere found effect g plain has ∙ ap (λ b. if b then Goes (record (at_next locs_behind g) { bytes = stored_bytes found effect g.bytes }) else Ends Outside) (anything (is_store found) effect.width effect.address);
            shows = shown;
            others = kept;
            in_range = ranged;
            added = row_accesses run_effect.kind run_effect;
            grown = refl;
            few = one_access run_effect.kind run_effect;
            widths = subst (All (λ (x : Accessed). x.loads ≡ true → x.width ≡ width)) same_accesses (widths_match (is_store found) run_effect width (λ st. sym doing.width ∙ wide st));
            loads = loads_are;
            stores = stores_are;
            bytes = moved (is_store found) ∙ behind_match (is_store found) run_effect g.bytes (subst IsWidth doing.width reached.width) ∙ ap (λ xs. behind_accesses xs g.bytes) same_accesses;
            calm = λ e. absurd cc;
            taken = sym doing.taken;
          }
        where
          anything : (st : Bool) (n a : ℕ) → each_byte (if st then (λ (x : ℕ). true) else (λ (x : ℕ). true)) n a ≡ true
          anything true n a = each_anywhere n a
          anything false n a = each_anywhere n a

          moved : (st : Bool) → bytes_behind st effect g.bytes ≡ bytes_behind st run_effect g.bytes
          moved true = ap (λ n. store_big n effect.address effect.stored g.bytes) doing.width ∙ ap (λ a. store_big run_effect.width a effect.stored g.bytes) doing.address ∙ ap (λ v. store_big run_effect.width run_effect.address v g.bytes) doing.stored
          moved false = refl

    -- what is loaded is none matter where nothing is
    still_same : is_load before.kind ≡ false → effect ≡ as_run
    still_same none =
        let p = prompt found (guest_values found 0 g.locs) (loaded_in before g.bytes) 0 in
        (prompt found (guest_values found 0 g.locs) (loaded_in before g.bytes) number).still (ap is_load p.kind ∙ none)

    -- and the run loads what the word loads
    load_same : is_plain found ≡ true → has_access found ≡ true → before.kind ≡ LoadAccess → before.width ≡ width → g.bytes ≡ memory → AreBytes before.width before.address g.bytes → effect ≡ as_run
    load_same plain has kind wide same small =
        let d = same_row goal m j guest i found is g.locs r.places shows 0 in
        let reached = access_reaches found (guest_values found 0 g.locs) plain has in
        let e : loaded_in before g.bytes ≡ load_big before.width before.address g.bytes = ap (λ k. loaded_by k before.width before.address g.bytes) kind in
        let seen_is : big_number before.width (seen width memory before.address) ≡ load_big before.width before.address g.bytes =
        ap (λ n. big_number before.width (seen n memory before.address)) (sym wide) ∙ ap (λ f. big_number before.width (seen before.width f before.address)) (sym same) ∙ big_seen before.width before.address g.bytes reached.width small in
        let n : number ≡ big_number before.width (seen width memory before.address) = ap (λ w. big_number w (seen width memory (unloaded (row_of row) r.places).address)) (sym d.width) ∙ ap (λ a. big_number before.width (seen width memory a)) (sym d.address) in
        ap (λ x. guest_row found (guest_values found x g.locs)) (e ∙ sym seen_is ∙ sym n)

    -- the step
    pub step : ((a : ℕ) → rights.held a ≡ true → memory a < 256) → ((a : ℕ) → Contains (loaded effect.kind effect.width effect.address) a → rights.held a ≡ true) → ((a : ℕ) → Contains (stored effect.kind effect.width effect.address) a → rights.writable a ≡ true) →
        (has_access i ≡ true → (g.bytes ≡ memory) × (load_width i ≡ width)) → Stepped found row (has_access i) g r
    step bytes inside_loads inside_stores first = ⊎_elim by_plain by_fork is.filled.kind
      where
        by_fork : IsFork found → Stepped found row (has_access i) g r
        by_fork fork =
            let kind : (n : ℕ) → (guest_row found (guest_values found n g.locs)).kind ≡ NoAccess = λ n. ap (λ k. (guest_row k (guest_values found n g.locs)).kind) fork.4 in
            let acts : (some : Rights) → guest_acts some found effect g ≡ Goes (branches (put_written (written (BranchConditional fork.0 fork.1 fork.2 fork.3 false)) effect g.locs) effect.taken (target_at (BranchConditional fork.0 fork.1 fork.2 fork.3 false) g.next) g) =
            λ some. ap (λ k. guest_acts some k effect g) fork.4 ∙ branches_put_fields some fork.0 fork.1 fork.2 fork.3 effect g in
            calm_step (still_same (ap is_load (kind 0))) _ (kind (loaded_in before g.bytes)) (ap (λ k. put_written (written k) effect g.locs) (sym fork.4)) refl acts (has_access i)

        by_calm : is_plain found ≡ true → has_access found ≡ false → Stepped found row (has_access i) g r
        by_calm plain none = calm_step (still_same (ap is_load (calm_kind found (guest_values found 0 g.locs) plain none))) _ (calm_kind found (guest_values found (loaded_in before g.bytes) g.locs) plain none) refl refl (λ some. rows_put_fields some found effect g plain none) (has_access i)

        by_access : is_plain found ≡ true → has_access found ≡ true → Stepped found row true g r
        by_access plain has = by_way (is_store found) refl
          where
            reached : Reaches found (guest_values found (loaded_in before g.bytes) g.locs)
            reached = access_reaches found (guest_values found (loaded_in before g.bytes) g.locs) plain has

            reached_before : Reaches found (guest_values found 0 g.locs)
            reached_before = access_reaches found (guest_values found 0 g.locs) plain has

            premise : (g.bytes ≡ memory) × (load_width i ≡ width)
            premise = first (sym is.filled.access ∙ has)

            by_way : (st : Bool) → is_store found ≡ st → Stepped found row true g r
            by_way true st =
                access_step (still_same (ap is_load (reached_before.kind ∙ ap stored_or_loaded st))) plain has (λ e. absurd (differ (sym st ∙ e)))
                (ap (λ b. each_byte (if b then rights.writable else rights.held) effect.width effect.address) st ∙ each_of rights.writable effect.width effect.address (λ x c. inside_stores x (subst (λ k. Contains (stored k effect.width effect.address) x) (sym (reached.kind ∙ ap stored_or_loaded st)) c)))
              where
                differ : true ≡ false → ⊥
                differ e = cc
            by_way false st =
                let p = prompt found (guest_values found 0 g.locs) (loaded_in before g.bytes) 0 in
                let held : each_byte rights.held effect.width effect.address ≡ true = each_of rights.held effect.width effect.address (λ x c. inside_loads x (subst (λ k. Contains (loaded k effect.width effect.address) x) (sym (reached.kind ∙ ap stored_or_loaded st)) c)) in
                let wide : before.width ≡ width = reached_before.loads st ∙ is.filled.width ∙ premise.1 in
                let small : AreBytes before.width before.address g.bytes = λ x lt. subst (λ f. f ((before.address + x) % 2 ^ 32) < 256) (sym premise.0) (bytes ((before.address + x) % 2 ^ 32) (bytes_held rights.held before.width before.address (ap (λ n. each_byte rights.held n before.address) (sym p.width) ∙ ap (each_byte rights.held effect.width) (sym p.address) ∙ held) x lt)) in
                access_step (load_same plain has (reached_before.kind ∙ ap stored_or_loaded st) wide premise.0 small) plain has (λ e. p.width ∙ wide)
                (ap (λ b. each_byte (if b then rights.writable else rights.held) effect.width effect.address) st ∙ held)

        by_plain : is_plain found ≡ true → Stepped found row (has_access i) g r
        by_plain plain = by_access_or (has_access found) refl
          where
            by_access_or : (b : Bool) → has_access found ≡ b → Stepped found row (has_access i) g r
            by_access_or true has = subst (λ b. Stepped found row b g r) (sym has ∙ is.filled.access) (by_access plain has)
            by_access_or false none = by_calm plain none
