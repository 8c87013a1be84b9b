use Rattle.std.proofs.Common.{◌≡◌, List, None, subst, ◌∙◌}
use Rattle.std.specs.List.{position}
use Rattle.space.specs.declared.program.Segment.{Segment}
use Rattle.elf_load.specs.Prelude.{is_code_segment}
use Rattle.elf_load.proofs.CodePlace.{code_is_found}
use Rattle.elf_load.proofs.loading.lay_out.Goals as goal

pub unreachable-requires : goal.unreachable-requires
unreachable-requires c =
    code_is_found c.args.kind c.args.bytes.now c.requires
    (subst (λ (segments : List Segment). None ≡ position is_code_segment segments)
    (c.as_slice-2.ensures.value ∙ c.in-Ok.ensures) c.in-None.ensures)
