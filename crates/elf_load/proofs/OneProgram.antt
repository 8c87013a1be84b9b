-- A file lays out one program at most.
use Rattle.std.proofs.Common.{◌≡◌, ℕ, List, Some, sym, ◌∙◌, ap}
use Rattle.space.specs.declared.program.Segment.{Segment}
use Rattle.std.specs.List.{position}
use Rattle.space.specs.declared.program.Kind.{Kind}
use Rattle.space.specs.declared.program.Program.{Program}
use Rattle.elf_load.specs.Prelude.{IsLaidOut, is_code_segment}

some_one : (m n : ℕ) → Some m ≡ Some n → m ≡ n
some_one m n e = cc

abbrev made : Kind → ℕ → List Segment → ℕ → Program
made kind entry segments code = record { kind = kind; entry = entry; segments = segments; code = code }

pub one_layout : (kind : Kind) (bytes : List ℕ) (first second : Program)
    → IsLaidOut kind bytes first → IsLaidOut kind bytes second → first ≡ second
one_layout kind bytes first second a b =
    let machine = a.machine ∙ sym b.machine in
    let start = a.start ∙ sym b.start in
    let memory = a.memory ∙ sym b.memory in
    let place : Some first.code ≡ Some second.code =
    sym a.code ∙ ap (λ (s : List Segment). position is_code_segment s) memory ∙ b.code in
    ap (λ (k : Kind). made k first.entry first.segments first.code) machine
    ∙ ap (λ (e : ℕ). made second.kind e first.segments first.code) start
    ∙ ap (λ (s : List Segment). made second.kind second.entry s first.code) memory
    ∙ ap (λ (n : ℕ). made second.kind second.entry second.segments n) (some_one first.code second.code place)
