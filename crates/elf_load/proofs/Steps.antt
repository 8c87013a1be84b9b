-- What one more header adds to what the headers before it ask for and make.
use Rattle.std.proofs.Common.{◌≡◌, ℕ, ◌+◌, ◌++◌, List, [], ◌∷◌, refl, sym, ◌∙◌, ap, subst, Bool, true, false, add-one, append-nil}
use Rattle.elf_load.specs.Prelude.{ProgramHeader, header, is_load, is_segment, memory_before, segments_before, segment_of}
use Rattle.std.specs.Prelude.{if◌then◌else◌}
use Rattle.space.specs.declared.program.Kind.{Kind}

pub memory_before-zero : (kind : Kind) (bytes : List ℕ) → memory_before kind bytes 0 ≡ 0
unfolding memory_before
memory_before-zero kind bytes = refl

pub memory_before-next : (kind : Kind) (bytes : List ℕ) (n : ℕ) → memory_before kind bytes (n + 1)
    ≡ memory_before kind bytes n + (if is_load (header kind bytes n) then (header kind bytes n).memsz else 0)
unfolding memory_before
memory_before-next kind bytes n = rw add-one

pub segments_before-zero : (kind : Kind) (bytes : List ℕ) → segments_before kind bytes 0 ≡ []
unfolding segments_before
segments_before-zero kind bytes = refl

pub segments_before-next : (kind : Kind) (bytes : List ℕ) (n : ℕ) → segments_before kind bytes (n + 1)
    ≡ segments_before kind bytes n
    ++ (if is_segment (header kind bytes n) then segment_of bytes (header kind bytes n) ∷ [] else [])
unfolding segments_before
segments_before-next kind bytes n = rw add-one

-- how the memory that is asked for grows
pub ruleset memory_steps = (memory_before-zero, memory_before-next)

pub segments_with : (kind : Kind) (bytes : List ℕ) (n : ℕ) (h : ProgramHeader) → h ≡ header kind bytes n → is_segment h ≡ true
    → segments_before kind bytes (n + 1) ≡ segments_before kind bytes n ++ segment_of bytes h ∷ []
segments_with kind bytes n h is =
    subst (λ (g : ProgramHeader). is_segment g ≡ true
    → segments_before kind bytes (n + 1) ≡ segments_before kind bytes n ++ segment_of bytes g ∷ []) (sym is)
    (λ segment. segments_before-next kind bytes n
    ∙ ap (λ (b : Bool). segments_before kind bytes n ++ (if b then segment_of bytes (header kind bytes n) ∷ [] else [])) segment)

pub segments_without : (kind : Kind) (bytes : List ℕ) (n : ℕ) (h : ProgramHeader) → h ≡ header kind bytes n → is_segment h ≡ false
    → segments_before kind bytes (n + 1) ≡ segments_before kind bytes n
segments_without kind bytes n h is none =
    segments_before-next kind bytes n
    ∙ ap (λ (b : Bool). segments_before kind bytes n ++ (if b then segment_of bytes (header kind bytes n) ∷ [] else []))
    (sym (ap is_segment is) ∙ none)
    ∙ append-nil (segments_before kind bytes n)

-- the list of segments begins empty
pub ruleset segment_steps = (segments_before-zero)
