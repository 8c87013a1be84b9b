-- What is put together of a program's code and file.
use Rattle.std.proofs.Common.{◌≡◌, ℕ, ◌+◌, ◌<◌, ◌≤◌, List, length, sym, subst, arith}
use Rattle.machines.specs.Prelude.{Ia32, Program}
use Rattle.branch_table.specs.declared.code.Code.{Code}
use Rattle.elf_load.specs.Prelude.{IsHostArea, IsProgramOf}
use Rattle.elf_emit.specs.Prelude.{elf_file, FitsArea, file_segments, translated}
use Rattle.liveness.specs.Prelude.{Sets}
use Rattle.plan_form.specs.declared.problem.Step.{Step}
use Rattle.code_layout.specs.Prelude.{IsCodeFor, IsLaidFor}
use Rattle.agreement.specs.Written.{Carries}

-- the code begins with `hold`
some_bytes : (first entry : ℕ) (words : List ℕ) (live : Sets) (plans : List (List Step)) (area : ℕ) (table code : List ℕ) → IsCodeFor first entry words live plans area table code → 0 < length code
some_bytes first entry words live plans area table code x = subst (λ (bytes : List ℕ). 0 < length bytes) (sym x.laid) (omega arith)

pub fits_area : (P : Program) (plans : List (List Step)) (area : ℕ) (code : Code) → IsLaidFor P plans area code → length code.entries ≤ 131072 → 0x81000 + length code.bytes ≤ 0x0A000000 → FitsArea code
fits_area P plans area code laid few fits =
    let within = laid.within in
    let count = laid.count in
    record {
      some_entries = omega (arith, within, count);
      table = omega (arith, few);
      some_bytes = some_bytes _ laid.entry laid.words laid.live plans area code.entries code.bytes laid.blocks;
      bytes = omega (arith, fits);
    }

pub carries : (P : Program) (plans : List (List Step)) (area : ℕ) (code : Code) (bytes file : List ℕ) → IsLaidFor P plans area code → FitsArea code → IsHostArea P.segments area → bytes ≡ elf_file code.start (file_segments P code area) → IsProgramOf Ia32 bytes (translated P code area) → file ≡ bytes → Carries P plans file
carries P plans area code bytes file laid fits free whole loaded made = record {
  area = area;
  code = code;
  in_area = free;
  laid = laid;
  fits = fits;
  whole = subst (λ (b : List ℕ). b ≡ elf_file code.start (file_segments P code area)) (sym made) whole;
  loaded = subst (λ (b : List ℕ). IsProgramOf Ia32 b (translated P code area)) (sym made) loaded;
}
