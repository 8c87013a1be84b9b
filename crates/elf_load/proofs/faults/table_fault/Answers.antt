use Rattle.std.proofs.Common.{sym, subst}
use Rattle.elf_load.specs.Prelude.{IsFault, ElfRefusal}
use Rattle.elf_load.proofs.faults.table_fault.Goals as goal

pub returns-in-CodeLong : goal.returns-in-CodeLong
returns-in-CodeLong c =
    subst (λ (rule : ElfRefusal). IsFault rule c.args.kind c.args.bytes.now c.first_guest_header.result)
    (sym c.in-CodeLong.is) c.first_guest_header.ensures

pub returns-in-StackOverlap : goal.returns-in-StackOverlap
returns-in-StackOverlap c =
    subst (λ (rule : ElfRefusal). IsFault rule c.args.kind c.args.bytes.now c.first_guest_header-in-StackOverlap.result)
    (sym c.in-StackOverlap.is) c.first_guest_header-in-StackOverlap.ensures
