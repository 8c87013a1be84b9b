-- What a file has that passes the rules tried so far.
use Rattle.std.proofs.Common.{◌≡◌, ℕ, zero, suc, ◌+◌, ◌<◌, ◌≤◌, true, List, length, refl, subst, sym, ◌∙◌, ap, arith, below_more}
use Rattle.std.specs.Prelude.{◌==◌, if◌then◌else◌, IsTrue}
use Rattle.space.specs.declared.program.Kind.{Kind}
use Rattle.elf_load.specs.Prelude.{header, header_count, header_offset, HasTable, is_load, is_segment, ProgramHeader, PassesBelow, IsFirstHeader, Breaks, number_of, HeaderRule, ElfRefusal}
use Rattle.elf_load.specs.declared.faults.HeaderRule.TheVariants as header_rule
use Rattle.elf_load.specs.declared.refusal.ElfRefusal.TheVariants as refusal

abbrev rule_at : ℕ → ElfRefusal
rule_at n =
    if n == 1 then refusal.Short else if n == 2 then refusal.Magic else if n == 3 then refusal.Class else
    if n == 4 then refusal.Order else if n == 5 then refusal.Version else if n == 6 then refusal.Type else
    if n == 7 then refusal.Machine else if n == 8 then refusal.HeaderSize else if n == 9 then refusal.HeaderCount else
    if n == 10 then refusal.TableOutside else if n == 11 then refusal.Dynamic else if n == 12 then refusal.SegmentOutside else
    if n == 13 then refusal.SizesCrossed else if n == 14 then refusal.HighSegment else if n == 15 then refusal.Overlap else
    if n == 16 then refusal.TooMuchMemory else if n == 17 then refusal.CodeCount else if n == 18 then refusal.CodeLong else
    if n == 19 then refusal.Entry else if n == 20 then refusal.StackOverlap else refusal.NoRoom

rule_at-number_of : (rule : ElfRefusal) → rule_at (number_of rule) ≡ rule
rule_at-number_of refusal.Short = refl
rule_at-number_of refusal.Magic = refl
rule_at-number_of refusal.Class = refl
rule_at-number_of refusal.Order = refl
rule_at-number_of refusal.Version = refl
rule_at-number_of refusal.Type = refl
rule_at-number_of refusal.Machine = refl
rule_at-number_of refusal.HeaderSize = refl
rule_at-number_of refusal.HeaderCount = refl
rule_at-number_of refusal.TableOutside = refl
rule_at-number_of refusal.Dynamic = refl
rule_at-number_of refusal.SegmentOutside = refl
rule_at-number_of refusal.SizesCrossed = refl
rule_at-number_of refusal.HighSegment = refl
rule_at-number_of refusal.Overlap = refl
rule_at-number_of refusal.TooMuchMemory = refl
rule_at-number_of refusal.CodeCount = refl
rule_at-number_of refusal.CodeLong = refl
rule_at-number_of refusal.Entry = refl
rule_at-number_of refusal.StackOverlap = refl
rule_at-number_of refusal.NoRoom = refl

-- no two rules have one number
pub number_of-injective : (r s : ElfRefusal) → number_of r ≡ number_of s → r ≡ s
number_of-injective r s e = sym (rule_at-number_of r) ∙ ap rule_at e ∙ rule_at-number_of s

pub le_of_not-lt : (a b : ℕ) → ¬ (a < b) → b ≤ a
le_of_not-lt a b h = omega arith

pub long_enough : (kind : Kind) (bytes : List ℕ) (n : ℕ) → PassesBelow n kind bytes → 2 ≤ n → 52 ≤ length bytes
long_enough kind bytes n below h = le_of_not-lt _ _ (λ lt. below refusal.Short (omega arith) 0 (lt, refl))

pub has_table : (kind : Kind) (bytes : List ℕ) (n : ℕ) → PassesBelow n kind bytes → 11 ≤ n → HasTable kind bytes
has_table kind bytes n below h = record {
  header = long_enough kind bytes n below (omega arith);
  table = le_of_not-lt _ _ (λ lt. below refusal.TableOutside (omega arith) 28 (lt, refl));
}

-- where no header is the first to break a rule, none breaks it
pub none_breaks : (rule : HeaderRule) (kind : Kind) (bytes : List ℕ) → ((offset : ℕ) → ¬ IsFirstHeader rule kind bytes offset)
    → (n : ℕ) → n ≤ header_count kind bytes → (k : ℕ) → k < n → ¬ Breaks rule kind bytes k
none_breaks rule kind bytes never zero le k h = λ _. absurd (omega arith)
none_breaks rule kind bytes never (suc n) le k h =
    let before : (j : ℕ) → j < n → ¬ Breaks rule kind bytes j = none_breaks rule kind bytes never n (omega arith) in
    below_more (λ j. ¬ Breaks rule kind bytes j) n before
    (λ broken. never (header_offset kind bytes n) (record {
      number = n;
      within = omega arith;
      breaks = broken;
      none_before = before;
      place = refl;
    }))
    k (omega arith)

pub load_of : (h : ProgramHeader) → is_segment h ≡ true → IsTrue (is_load h)
load_of h segment = grind arith

inside_at : (kind : Kind) (bytes : List ℕ) (n : ℕ) → PassesBelow n kind bytes → 14 ≤ n → (k : ℕ) → k < header_count kind bytes
    → is_segment (header kind bytes k) ≡ true
    → ((header kind bytes k).offset + (header kind bytes k).filesz ≤ length bytes)
    × ((header kind bytes k).filesz ≤ (header kind bytes k).memsz)
inside_at kind bytes n below h k within segment =
    let load : IsTrue (is_load (header kind bytes k)) = load_of (header kind bytes k) segment in (
      le_of_not-lt _ _ (λ lt. none_breaks header_rule.SegmentOutside kind bytes (below refusal.SegmentOutside (omega arith))
          (header_count kind bytes) (omega arith) k within (load, lt)),
      le_of_not-lt _ _ (λ lt. none_breaks header_rule.SizesCrossed kind bytes (below refusal.SizesCrossed (omega arith))
          (header_count kind bytes) (omega arith) k within (load, lt)),
    )

-- the bytes of each segment lie in the file, and they are no more than its memory
pub lies_inside : (kind : Kind) (bytes : List ℕ) (n : ℕ) → PassesBelow n kind bytes → 14 ≤ n → (k : ℕ) → k < header_count kind bytes
    → (h : ProgramHeader) → h ≡ header kind bytes k → is_segment h ≡ true
    → (h.offset + h.filesz ≤ length bytes) × (h.filesz ≤ h.memsz)
lies_inside kind bytes n below late k within h is =
    subst (λ (g : ProgramHeader). is_segment g ≡ true → (g.offset + g.filesz ≤ length bytes) × (g.filesz ≤ g.memsz))
    (sym is) (inside_at kind bytes n below late k within)
