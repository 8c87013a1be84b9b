use Rattle.std.proofs.Common.{refl, subst, ◌∙◌, List}
use Rattle.space.specs.declared.program.Segment.{Segment}
use Rattle.elf_load.specs.Prelude.{IsArea, NoRoom}
use Rattle.elf_load.proofs.area.host_area.Goals as goal

pub unreachable-requires : goal.unreachable-requires
unreachable-requires c =
    c.requires.1.passes NoRoom 44 (
      refl,
      λ at. subst (λ (segments : List Segment). ¬ IsArea segments at)
          (c.as_slice.ensures ∙ c.requires.1.laid_out.memory) (c.in-None.ensures at),
      refl,
    )
