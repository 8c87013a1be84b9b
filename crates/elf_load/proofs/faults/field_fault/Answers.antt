use Rattle.std.proofs.Common.{sym, subst}
use Rattle.elf_load.specs.Prelude.{IsFault, ElfRefusal}
use Rattle.elf_load.proofs.faults.field_fault.Goals as goal

pub returns-in-Version : goal.returns-in-Version
returns-in-Version c =
    subst (λ (rule : ElfRefusal). IsFault rule c.args.kind c.args.bytes.now c.wrong_version.result)
    (sym c.in-Version.is) c.wrong_version.ensures
