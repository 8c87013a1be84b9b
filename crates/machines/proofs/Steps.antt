-- Steps of the guest at code words of each kind.
use Rattle.std.proofs.Common.{◌≡◌, ℕ, suc, ◌+◌, ◌%◌, ◌^◌, Bool, true, false, cond, ◌&&◌, eqb, ltb, List, [], ◌∷◌, Option, Some, None, refl, ap, ◌∙◌, arith}
use Rattle.machines.specs.Prelude.{Program, Outside, Dry, Illegal, End, ListedCall, AnswerValue, Report, given, ended, listed, Goes, Ends, Instr, Immediate, Arithmetic, Branch, SystemCall, Addi, Add, IsWordOf, Allowed, layout, Field, word, Fit, sign_extended, rights_of, code_of, ReadsWords, Guest, guest_machine, guest_acts, guest_executes, effect_of, is_code_word, word_of_code, branch_target, writes, guest_system_call, after_guest_call, guest_asks as asks_for}
use Rattle.ppc_isa.specs.Reading.{read}
use Rattle.ppc_isa.proofs.ReadWords.{read_legal}
use Rattle.machines.proofs.Tests.{first_of_both, second_of_both, below}
use Rattle.machines.proofs.Traces.{Trace, ends, goes, asks, dries, Silent, last, more}

-- the word at the next address
abbrev pub here : Program → Guest → ℕ
here p g = word_of_code (code_of p) g.next

module _ {words : ℕ → Option Instr} (reads : ReadsWords words) (p : Program) (g : Guest) where
  -- the step from a code word that is an instruction's
  stepped : (i : Instr) → is_code_word (code_of p) g.next ≡ true → IsWordOf (here p g) i → guest_machine words p g ≡ guest_acts (rights_of p) i (effect_of i g) g
  stepped i inside is =
      ap (λ (b : Bool). cond b (guest_executes (rights_of p) (words (here p g)) g) (Ends Outside)) inside
      ∙ ap (λ (o : Option Instr). guest_executes (rights_of p) o g) (reads.only (here p g) i is)

  pub addi : (d a imm : ℕ) → is_code_word (code_of p) g.next ≡ true → here p g ≡ word (layout (Immediate Addi d a imm)) → (ltb d 32 && (ltb a 32 && ltb imm (2 ^ 16))) ≡ true → guest_machine words p g ≡ Goes (writes d ((cond (eqb a 0) 0 (g.locs a) + sign_extended 16 imm) % 2 ^ 32) g)
  addi d a imm inside spelled fits =
      let hd = below d 32 (first_of_both (ltb d 32) (ltb a 32 && ltb imm (2 ^ 16)) fits) in
      let rest = second_of_both (ltb d 32) (ltb a 32 && ltb imm (2 ^ 16)) fits in
      let ha = below a 32 (first_of_both (ltb a 32) (ltb imm (2 ^ 16)) rest) in
      let hi = below imm (2 ^ 16) (second_of_both (ltb a 32) (ltb imm (2 ^ 16)) rest) in
      stepped (Immediate Addi d a imm) inside (record { spelled = spelled; legal = record { fit = (omega arith, (hd, (ha, (hi, tt)))); allowed = tt } })

  pub branch : (target : ℕ) → is_code_word (code_of p) g.next ≡ true → here p g ≡ word (layout (Branch target false false)) → ltb target (2 ^ 24) ≡ true → guest_machine words p g ≡ Goes (record g { next = branch_target 24 target false g.next })
  branch target inside spelled fits =
      let ht = below target (2 ^ 24) fits in
      stepped (Branch target false false) inside (record { spelled = spelled; legal = record { fit = (omega arith, (ht, (omega arith, (omega arith, tt)))); allowed = tt } })

  pub sc : is_code_word (code_of p) g.next ≡ true → here p g ≡ 0x44000002 → guest_machine words p g ≡ guest_system_call (rights_of p) g
  sc inside spelled = stepped SystemCall inside (record { spelled = spelled; legal = record { fit = (omega arith, (omega arith, (omega arith, (omega arith, tt)))); allowed = tt } })

-- each value fits its field
abbrev fit_all : List Field → Bool
fit_all [] = true
fit_all (f ∷ fs) = ltb f.value (2 ^ f.width) && fit_all fs

they_fit : (fs : List Field) → fit_all fs ≡ true → Fit fs
they_fit [] h = tt
they_fit (f ∷ fs) h = (below f.value (2 ^ f.width) (first_of_both (ltb f.value (2 ^ f.width)) (fit_all fs) h), they_fit fs (second_of_both (ltb f.value (2 ^ f.width)) (fit_all fs) h))

-- the step from an address that is no code word
pub off : (words : ℕ → Option Instr) (p : Program) (g : Guest) → is_code_word (code_of p) g.next ≡ false → guest_machine words p g ≡ Ends Outside
off words p g outside = ap (λ (b : Bool). cond b (guest_executes (rights_of p) (words (here p g)) g) (Ends Outside)) outside

-- the same as the first steps of a trace
module _ {words : ℕ → Option Instr} (reads : ReadsWords words) (p : Program) where
  -- what addi puts into its register
  abbrev sum : ℕ → ℕ → Guest → ℕ
  sum a imm g = (cond (eqb a 0) 0 (g.locs a) + sign_extended 16 imm) % 2 ^ 32

  abbrev FitsAddi : ℕ → ℕ → ℕ → Type 0
  FitsAddi d a imm = (ltb d 32 && (ltb a 32 && ltb imm (2 ^ 16))) ≡ true

  pub addi_then : {g : Guest} {k : ℕ} {answers : List AnswerValue} {r : Report} (d a imm : ℕ) → is_code_word (code_of p) g.next ≡ true → here p g ≡ word (layout (Immediate Addi d a imm)) → FitsAddi d a imm → Trace (guest_machine words p) k answers (writes d (sum a imm g) g) r → Trace (guest_machine words p) (suc k) answers g r
  addi_then {g = g} d a imm inside spelled fits rest = goes (addi reads p g d a imm inside spelled fits) rest

  pub sc_exits : {g : Guest} {answers : List AnswerValue} (e : End) → is_code_word (code_of p) g.next ≡ true → here p g ≡ 0x44000002 → guest_system_call (rights_of p) g ≡ Ends e → Trace (guest_machine words p) 1 answers g (ended e)
  sc_exits {g = g} e inside spelled does = ends (sc reads p g inside spelled ∙ does)

  pub sc_asks : {g : Guest} {k : ℕ} {answers : List AnswerValue} {r : Report} (call : ListedCall) (a : AnswerValue) → is_code_word (code_of p) g.next ≡ true → here p g ≡ 0x44000002 → guest_system_call (rights_of p) g ≡ asks_for call g → Trace (guest_machine words p) k answers (after_guest_call (given call a) g) r → Trace (guest_machine words p) (suc k) (a ∷ answers) g (listed call r)
  sc_asks {g = g} call a inside spelled does rest = asks call a (λ answer. after_guest_call (given call answer) g) (sc reads p g inside spelled ∙ does) rest

  pub sc_dries : {g : Guest} (call : ListedCall) → is_code_word (code_of p) g.next ≡ true → here p g ≡ 0x44000002 → guest_system_call (rights_of p) g ≡ asks_for call g → Trace (guest_machine words p) 1 [] g (listed call (ended Dry))
  sc_dries {g = g} call inside spelled does = dries call (λ answer. after_guest_call (given call answer) g) (sc reads p g inside spelled ∙ does)

  pub off_ends : {g : Guest} {answers : List AnswerValue} → is_code_word (code_of p) g.next ≡ false → Trace (guest_machine words p) 1 answers g (ended Outside)
  off_ends {g = g} outside = ends (off words p g outside)

  -- and of a silent one
  pub addi_more : {g : Guest} {k : ℕ} {e : End} (d a imm : ℕ) → is_code_word (code_of p) g.next ≡ true → here p g ≡ word (layout (Immediate Addi d a imm)) → FitsAddi d a imm → Silent (guest_machine words p) k (writes d (sum a imm g) g) e → Silent (guest_machine words p) (suc k) g e
  addi_more {g = g} d a imm inside spelled fits rest = more (addi reads p g d a imm inside spelled fits) rest

  pub branch_more : {g : Guest} {k : ℕ} {e : End} (target : ℕ) → is_code_word (code_of p) g.next ≡ true → here p g ≡ word (layout (Branch target false false)) → ltb target (2 ^ 24) ≡ true → Silent (guest_machine words p) k (record g { next = branch_target 24 target false g.next }) e → Silent (guest_machine words p) (suc k) g e
  branch_more {g = g} target inside spelled fits rest = more (branch reads p g target inside spelled fits) rest

  pub sc_more : {g : Guest} {k : ℕ} {e : End} (t : Guest) → is_code_word (code_of p) g.next ≡ true → here p g ≡ 0x44000002 → guest_system_call (rights_of p) g ≡ Goes t → Silent (guest_machine words p) k t e → Silent (guest_machine words p) (suc k) g e
  sc_more {g = g} t inside spelled does rest = more (sc reads p g inside spelled ∙ does) rest

  pub sc_last : {g : Guest} (e : End) → is_code_word (code_of p) g.next ≡ true → here p g ≡ 0x44000002 → guest_system_call (rights_of p) g ≡ Ends e → Silent (guest_machine words p) 1 g e
  sc_last {g = g} e inside spelled does = last (sc reads p g inside spelled ∙ does)

  pub add_more : {g : Guest} {k : ℕ} {e : End} (d a b : ℕ) → is_code_word (code_of p) g.next ≡ true → here p g ≡ word (layout (Arithmetic Add d a b false)) → (ltb d 32 && (ltb a 32 && ltb b 32)) ≡ true → Silent (guest_machine words p) k (writes d ((g.locs a + g.locs b) % 2 ^ 32) g) e → Silent (guest_machine words p) (suc k) g e
  add_more {g = g} d a b inside spelled fits rest =
      let hd = below d 32 (first_of_both (ltb d 32) (ltb a 32 && ltb b 32) fits) in
      let both_fit = second_of_both (ltb d 32) (ltb a 32 && ltb b 32) fits in
      let ha = below a 32 (first_of_both (ltb a 32) (ltb b 32) both_fit) in
      let hb = below b 32 (second_of_both (ltb a 32) (ltb b 32) both_fit) in
      more (stepped reads p g (Arithmetic Add d a b false) inside (record { spelled = spelled; legal = record { fit = (omega arith, (hd, (ha, (hb, (omega arith, (omega arith, tt)))))); allowed = tt } })) rest

  -- any instruction; one that goes on where a test says so; and one that ends the run
  pub word_more : {g t : Guest} {k : ℕ} {e : End} (i : Instr) → is_code_word (code_of p) g.next ≡ true → here p g ≡ word (layout i) → fit_all (layout i) ≡ true → Allowed i → guest_acts (rights_of p) i (effect_of i g) g ≡ Goes t → Silent (guest_machine words p) k t e → Silent (guest_machine words p) (suc k) g e
  word_more {g = g} i inside spelled fits allowed does rest = more (stepped reads p g i inside (record { spelled = spelled; legal = record { fit = they_fit (layout i) fits; allowed = allowed } }) ∙ does) rest

  pub word_more_if : {g t : Guest} {k : ℕ} {e : End} (i : Instr) (b : Bool) → is_code_word (code_of p) g.next ≡ true → here p g ≡ word (layout i) → fit_all (layout i) ≡ true → Allowed i → guest_acts (rights_of p) i (effect_of i g) g ≡ cond b (Goes t) (Ends Outside) → b ≡ true → Silent (guest_machine words p) k t e → Silent (guest_machine words p) (suc k) g e
  word_more_if {t = t} i b inside spelled fits allowed does held rest = word_more i inside spelled fits allowed (does ∙ ap (λ (x : Bool). cond x (Goes t) (Ends Outside)) held) rest

  pub word_last : {g : Guest} (e : End) (i : Instr) → is_code_word (code_of p) g.next ≡ true → here p g ≡ word (layout i) → fit_all (layout i) ≡ true → Allowed i → guest_acts (rights_of p) i (effect_of i g) g ≡ Ends e → Silent (guest_machine words p) 1 g e
  word_last {g = g} e i inside spelled fits allowed does = last (stepped reads p g i inside (record { spelled = spelled; legal = record { fit = they_fit (layout i) fits; allowed = allowed } }) ∙ does)

  -- a word that the opcodes don't name is read as nothing
  unread : (w : ℕ) → read w ≡ None → words w ≡ None
  unread w n = by_value (words w) refl
    where
      by_value : (o : Option Instr) → words w ≡ o → words w ≡ None
      by_value None e = e
      by_value (Some i) e = absurd (let h : read w ≡ Some i = read_legal w i (reads.found w i e) in let f : (none_of : Option Instr) → none_of ≡ None → none_of ≡ Some i → ⊥ = λ o p q. absurd cc in f (read w) n h)

  pub illegal_last : {g : Guest} → is_code_word (code_of p) g.next ≡ true → read (here p g) ≡ None → Silent (guest_machine words p) 1 g Illegal
  illegal_last {g = g} inside n =
      last (ap (λ (b : Bool). cond b (guest_executes (rights_of p) (words (here p g)) g) (Ends Outside)) inside
      ∙ ap (λ (o : Option Instr). guest_executes (rights_of p) o g) (unread (here p g) n))
