-- A file has one first fault at most, and no fault where it lays out a program.
use Rattle.std.proofs.Common.{◌≡◌, ℕ, inl, inr, List, sym, ◌∙◌, ap, subst}
use Rattle.std.proofs.lemmas.Bool.{cases_order}
use Rattle.space.specs.declared.program.Kind.{Kind}
use Rattle.elf_load.specs.Prelude.{header_offset, Fails, IsFirstHeader, IsFirstFault, number_of, HeaderRule, ElfRefusal}
use Rattle.elf_load.specs.declared.faults.HeaderRule.TheVariants as header_rule
use Rattle.elf_load.specs.declared.refusal.ElfRefusal.TheVariants as refusal
use Rattle.elf_load.proofs.Tried.{number_of-injective}

-- one header is the first to break a rule
one_header : (rule : HeaderRule) (kind : Kind) (bytes : List ℕ) (at other : ℕ)
    → IsFirstHeader rule kind bytes at → IsFirstHeader rule kind bytes other → at ≡ other
one_header rule kind bytes at other a b =
    elim (cases_order a.number b.number) [
      | inl same ↦ a.place ∙ ap (λ (n : ℕ). header_offset kind bytes n) same ∙ sym b.place
      | inr apart ↦ elim apart [
        | inl lt ↦ absurd (b.none_before a.number lt a.breaks)
        | inr gt ↦ absurd (a.none_before b.number gt b.breaks)
      ]
    ]

-- a rule refuses a file with one offset
one_offset : (rule : ElfRefusal) (kind : Kind) (bytes : List ℕ) (at other : ℕ)
    → Fails rule kind bytes at → Fails rule kind bytes other → at ≡ other
one_offset refusal.Short kind bytes at other a b = a.1 ∙ sym b.1
one_offset refusal.Magic kind bytes at other a b = a.1 ∙ sym b.1
one_offset refusal.Class kind bytes at other a b = a.1 ∙ sym b.1
one_offset refusal.Order kind bytes at other a b = a.1 ∙ sym b.1
one_offset refusal.Version kind bytes at other a b =
    elim a [
      | inl x ↦ elim b [ inl y ↦ x.1 ∙ sym y.1 | inr y ↦ absurd (x.0 y.0) ]
      | inr x ↦ elim b [ inl y ↦ absurd (y.0 x.0) | inr y ↦ x.2 ∙ sym y.2 ]
    ]
one_offset refusal.Type kind bytes at other a b = a.1 ∙ sym b.1
one_offset refusal.Machine kind bytes at other a b = a.1 ∙ sym b.1
one_offset refusal.HeaderSize kind bytes at other a b = a.1 ∙ sym b.1
one_offset refusal.HeaderCount kind bytes at other a b = a.1 ∙ sym b.1
one_offset refusal.TableOutside kind bytes at other a b = a.1 ∙ sym b.1
one_offset refusal.Dynamic kind bytes at other a b = one_header header_rule.Dynamic kind bytes at other a b
one_offset refusal.SegmentOutside kind bytes at other a b = one_header header_rule.SegmentOutside kind bytes at other a b
one_offset refusal.SizesCrossed kind bytes at other a b = one_header header_rule.SizesCrossed kind bytes at other a b
one_offset refusal.HighSegment kind bytes at other a b = one_header header_rule.HighSegment kind bytes at other a b
one_offset refusal.Overlap kind bytes at other a b = one_header header_rule.Overlap kind bytes at other a b
one_offset refusal.TooMuchMemory kind bytes at other a b = one_header header_rule.TooMuchMemory kind bytes at other a b
one_offset refusal.CodeCount kind bytes at other a b = a.1 ∙ sym b.1
one_offset refusal.CodeLong kind bytes at other a b = one_header header_rule.CodeLong kind bytes at other a.1 b.1
one_offset refusal.Entry kind bytes at other a b = a.2 ∙ sym b.2
one_offset refusal.StackOverlap kind bytes at other a b = one_header header_rule.StackOverlap kind bytes at other a.1 b.1
one_offset refusal.NoRoom kind bytes at other a b = a.2 ∙ sym b.2

pub one_first : (kind : Kind) (bytes : List ℕ) (first second : ElfRefusal) (at other : ℕ)
    → IsFirstFault kind bytes first at → IsFirstFault kind bytes second other → (first ≡ second) × (at ≡ other)
one_first kind bytes first second at other a b =
    elim (cases_order (number_of first) (number_of second)) [
      | inl same ↦
          let rule : first ≡ second = number_of-injective first second same in (
            rule,
            one_offset second kind bytes at other (subst (λ (r : ElfRefusal). Fails r kind bytes at) rule a.fails) b.fails,
          )
      | inr apart ↦ elim apart [
        | inl lt ↦ absurd (b.least first lt at a.fails)
        | inr gt ↦ absurd (a.least second gt other b.fails)
      ]
    ]
