-- What a row makes of places that show a guest is what its word makes of the guest. This project's own.
use Rattle.std.proofs.Common.{◌≡◌, ℕ, ◌+◌, ◌^◌, ◌<◌, ◌⊎◌, inl, inr, ⊎_elim, Bool, true, if◌then◌else◌, List, slice_get, Some, None, refl, sym, ap, ◌∙◌, subst}
use Rattle.machines.specs.Prelude.{HasOneInstruction, GuestValues, Effect, guest_row, cr_word, xer_word, guest_values, value_a, value_b, value_s, Instr, Immediate, Load, Store, LoadIndexed, StoreIndexed}
use Rattle.rule_body.specs.declared.goal.Goal.{Goal}
use Rattle.rule_body.specs.declared.goal.Guest.{Guest}
use Rattle.rule_body.specs.Prelude.{is_open, IsGuest, guests_of, template_of}
use Rattle.rule_body.specs.Templates.{HasConstant}
use Rattle.rule_soundness.specs.Prelude.{Match, base_field, filled}
use Rattle.rule_soundness.specs.Fields.{a_field, b_field, s_field, immediate, Reading, written, ReadsFields}
use Rattle.rule_soundness.proofs.GuestTable.{rows_read_fields}
use Rattle.rule_renaming.specs.Plain.{plain}
use Rattle.rule_renaming.proofs.Guests.{IsNamedWord, zero_row}
use Rattle.rule_renaming.proofs.Bridge.{P}
use Rattle.row_runs.specs.Windows.{with_loaded}
use Rattle.place_circuits.specs.Sources.{source_value}
use Rattle.row_circuits.specs.Windows.{row_reads}
use Rattle.row_circuits.specs.declared.rows.WindowRow.{WindowRow}
use Rattle.rule_places.specs.Guests.{ShowsGuest}
use Rattle.rule_rows.specs.Rows.{register_source, row_for}
use Rattle.rule_rows.proofs.Parameters.{HasParameters, IsFilled, IsFork, IsIn, FitsReading, has_parameters, word_filled, constant_of, reading_fits, of_field, of_base, of_second}
use Rattle.rule_rows.proofs.Puts.{put_places}

-- two effects are the same but for a result that is put nowhere
pub record SameDoing (i : Instr) (e e' : Effect) : Type 0 where
  pub places : (t : ℕ → ℕ) → put_places (written i) e t ≡ put_places (written i) e' t
  pub address : e.address ≡ e'.address
  pub stored : e.stored ≡ e'.stored
  pub width : e.width ≡ e'.width
  pub kind : e.kind ≡ e'.kind
  pub taken : e.taken ≡ e'.taken

same_doing : (i : Instr) (e e' : Effect) → e ≡ e' → SameDoing i e e'
same_doing i e e' same = record {
  places = λ t. ap (λ x. put_places (written i) x t) same;
  address = ap (λ (x : Effect). x.address) same;
  stored = ap (λ (x : Effect). x.stored) same;
  width = ap (λ (x : Effect). x.width) same;
  kind = ap (λ (x : Effect). x.kind) same;
  taken = ap (λ (x : Effect). x.taken) same;
}

zero_doing : (i : Instr) → base_field i ≡ Some 0 → (e : Effect) (x : ℕ) → SameDoing i (record e { a = x }) e
zero_doing (Immediate op d a imm) z e x = record { places = λ t. refl; address = refl; stored = refl; width = refl; kind = refl; taken = refl }
zero_doing (Load op d a imm) z e x = record { places = λ t. refl; address = refl; stored = refl; width = refl; kind = refl; taken = refl }
zero_doing (Store op s a imm) z e x = record { places = λ t. refl; address = refl; stored = refl; width = refl; kind = refl; taken = refl }
zero_doing (LoadIndexed op d a b) z e x = record { places = λ t. refl; address = refl; stored = refl; width = refl; kind = refl; taken = refl }
zero_doing (StoreIndexed op s a b) z e x = record { places = λ t. refl; address = refl; stored = refl; width = refl; kind = refl; taken = refl }
zero_doing _ z e x = absurd cc

pub then_doing : (i : Instr) (e f h : Effect) → e ≡ f → SameDoing i f h → SameDoing i e h
then_doing i e f h same rest = subst (λ x. SameDoing i x h) (sym same) rest

doing_then : (i : Instr) (e f h : Effect) → SameDoing i e f → f ≡ h → SameDoing i e h
doing_then i e f h first same = subst (λ x. SameDoing i e x) same first

-- word j of a rule's window, with its constant or its target
pub record IsWordAt (goal : Goal) (m : Match) (j : ℕ) (guest : Guest) (i found : Instr) : Type 0 where
  pub fields : HasParameters (template_of goal).slots found
  pub filled : IsFilled guest.free (m.constant j) i found
  pub small : m.constant j < 2 ^ 16
  pub fits : FitsReading (immediate i)
  pub constant : guest.free ≡ true → is_open i ≡ true → HasConstant (guests_of goal) j

pub word_at : ((w : ℕ) → HasOneInstruction w) → (goal : Goal) (m : Match) (j : ℕ) (guest : Guest) (i : Instr) → m.constant j < 2 ^ 16 → slice_get (guests_of goal) j ≡ Some guest → IsGuest guest i →
    IsNamedWord (plain m) (P (template_of goal).slots (plain m)) (if guest.free then filled (plain m) j i else i) → IsWordAt goal m j guest i (if guest.free then filled (plain m) j i else i)
word_at one goal m j guest i small here is named = record {
  fields = has_parameters (template_of goal).slots (plain m) (if guest.free then filled (plain m) j i else i) named;
  filled = word_filled (plain m) j (P (template_of goal).slots (plain m)) guest i is named;
  small = small;
  fits = reading_fits i is.word.legal;
  constant = λ free opens. constant_of one (guests_of goal) j guest i here is free opens;
}

module _ (goal : Goal) (m : Match) (j : ℕ) (guest : Guest) (i found : Instr) (is : IsWordAt goal m j guest i found) (l t : ℕ → ℕ) (shows : ShowsGuest goal m l t) where
  abbrev slots : List Bool
  slots = (template_of goal).slots

  abbrev row : WindowRow
  row = row_for j guest i

  fork_reads : IsFork found → ReadsFields found l
  fork_reads fork = subst (λ k. ReadsFields k l) (sym fork.4) (record { a = refl; b = refl; s = refl })

  pub reads : ReadsFields found l
  reads = ⊎_elim (rows_read_fields found l) fork_reads is.filled.kind

  first : (source_value row.a t ≡ value_a found l) ⊎ (base_field found ≡ Some 0)
  first = ⊎_elim (λ e. inl (ap (λ f. source_value (register_source f) t) (sym is.filled.a) ∙ e ∙ sym reads.a)) (λ z. inr z) (of_base goal m l t shows found (a_field found) is.fields.a)

  has : (reading : Reading) → immediate i ≡ Some reading → guest.free ≡ true → t (20 + j) ≡ m.constant j
  has reading e free = ⊎_elim (λ none. absurd (no_reading (sym none ∙ e))) (λ opens. shows.constants j (is.constant free opens)) (is.filled.constant free)
    where
      no_reading : None ≡ Some reading → ⊥
      no_reading e = cc

  second : value_b found l ≡ source_value row.b t
  second = reads.b ∙ is.filled.second l ∙ sym (of_second goal m l t shows j guest.free (immediate i) (b_field i) (subst (IsIn slots) is.filled.b is.fields.b) is.small has)

  third : value_s found l ≡ source_value row.s t
  third = reads.s ∙ sym (of_field goal m l t shows (s_field found) is.fields.s) ∙ ap (λ f. source_value (register_source f) t) is.filled.s

  -- what the row reads, with the register that the word reads as rA
  abbrev based_values : ℕ → GuestValues
  based_values n = record (with_loaded (row_reads row t) n) { a = value_a found l }

  abbrev with_values : ℕ → ℕ → ℕ → ℕ → ℕ → ℕ → ℕ → GuestValues
  with_values b s cr xer lr ctr n = record { a = value_a found l; b = b; s = s; cr = cr; xer = xer; lr = lr; ctr = ctr; loaded = n }

  values_same : (n : ℕ) → guest_values found n l ≡ based_values n
  values_same n =
      ap (λ x. with_values x (value_s found l) (cr_word l) (xer_word l) (l 32) (l 33) n) second
      ∙ ap (λ x. with_values (source_value row.b t) x (cr_word l) (xer_word l) (l 32) (l 33) n) third
      ∙ ap (λ x. with_values (source_value row.b t) (source_value row.s t) x (xer_word l) (l 32) (l 33) n) (sym shows.cr)
      ∙ ap (λ x. with_values (source_value row.b t) (source_value row.s t) (t 6) x (l 32) (l 33) n) (sym shows.xer)
      ∙ ap (λ x. with_values (source_value row.b t) (source_value row.s t) (t 6) (t 7) x (l 33) n) (sym shows.lr)
      ∙ ap (λ x. with_values (source_value row.b t) (source_value row.s t) (t 6) (t 7) (t 11) x n) (sym shows.ctr)

  -- where both have loaded the same number
  pub same_row : (n : ℕ) → SameDoing found (guest_row found (guest_values found n l)) (guest_row i (with_loaded (row_reads row t) n))
  same_row n = ⊎_elim by_value by_zero first
    where
      values : GuestValues
      values = with_loaded (row_reads row t) n

      by_value : source_value row.a t ≡ value_a found l → SameDoing found (guest_row found (guest_values found n l)) (guest_row i values)
      by_value e = same_doing found _ _ (ap (guest_row found) (values_same n ∙ ap (λ x. record values { a = x }) (sym e)) ∙ is.filled.row values)

      by_zero : base_field found ≡ Some 0 → SameDoing found (guest_row found (guest_values found n l)) (guest_row i values)
      by_zero z =
          then_doing found _ (record (guest_row found values) { a = value_a found l }) _ (ap (guest_row found) (values_same n) ∙ zero_row found z values (value_a found l))
          (doing_then found _ (guest_row found values) _ (zero_doing found z (guest_row found values) (value_a found l)) (is.filled.row values))
