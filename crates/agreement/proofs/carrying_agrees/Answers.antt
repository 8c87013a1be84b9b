use Rattle.std.proofs.Common.{◌≡◌, ℕ, ◌+◌, ◌*◌, ◌^◌, ◌<◌, inl, List, length, refl, sym, ap, ◌∙◌, subst, arith}
use Rattle.std.specs.List.{flat_map}
use Rattle.byteorder.specs.Endian.{little_bytes}
use Rattle.branch_table.proofs.Words.{length_of_table}
use Rattle.branch_table.specs.declared.code.Code.{Code}
use Rattle.machines.specs.Prelude.{Ia32, Program}
use Rattle.elf_load.specs.Prelude.{IsArea}
use Rattle.code_layout.specs.Prelude.{entry_of, IsCodeFor, IsLaidFor}
use Rattle.code_words.specs.Words.{first_of}
use Rattle.plan_form.specs.declared.problem.Step.{Step}
use Rattle.laid_code.specs.Prelude.{code_start, context_of, laid_interface, HasCodeFor}
use Rattle.laid_code.proofs.Carried.{entry_at}
use Rattle.upkeep.specs.Written.{IsWritten, IsInPlace}
use Rattle.elf_emit.specs.Prelude.{FitsArea, translated}
use Rattle.agreement.proofs.carrying_agrees.Goals as goal

abbrev table_of : Code → List ℕ
table_of code = flat_map (little_bytes 4) code.entries

is_written : (P : Program) (area : ℕ) (code : Code) → FitsArea code → IsWritten P area (table_of code) code.bytes (translated P code area)
is_written P area code x =
    let count : length (table_of code) ≡ 4 * length code.entries = length_of_table code.entries in
    let rooms = x.table in
    let fits = x.bytes in
    record { segments = refl; place = refl; table_fits = omega (arith, rooms, count); code_fits = omega (arith, fits) }

has_code : (P : Program) (plans : List (List Step)) (area : ℕ) (code : Code) (x : IsLaidFor P plans area code) → FitsArea code → IsArea P.segments area → IsInPlace P area (table_of code) code.bytes (translated P code area) → HasCodeFor (translated P code area) (first_of P) x.entry x.words x.live plans area code.entries
has_code P plans area code x room free place =
    let is = place.code_is in
    let high = free.high in
    let fits = room.bytes in
    let low : code_start area + length code.bytes < 2 ^ 32 = omega (arith, high, fits) in
    record {
      at = ap (λ c. c.at) is;
      low = subst (λ c. code_start area + length c.bytes < 2 ^ 32) (sym is) low;
      count = x.count;
      code = subst (λ c. IsCodeFor (first_of P) x.entry x.words x.live plans area code.entries c.bytes) (sym is) x.blocks;
    }

-- the run of the file begins where the table leads at the program's first word
starts_there : (P : Program) (plans : List (List Step)) (area : ℕ) (code : Code) (x : IsLaidFor P plans area code) → code.start ≡ entry_of (first_of P) code.entries (code_start area) P.entry
starts_there P plans area code x =
    let lt = x.within in
    let count = x.count in
    let inside : x.entry < length code.entries = omega (arith, lt, count) in
    x.start ∙ sym (ap (λ (a : ℕ). entry_of (first_of P) code.entries (code_start area) a) x.begins ∙ entry_at (first_of P) code.entries (code_start area) x.entry inside)

pub returns-clause-planned : goal.returns-clause-planned
returns-clause-planned c = λ P plans file bytes x.
    let code = x.code in
    let area = x.area in
    let first : ℕ = first_of P in
    let Q : Program = translated P code area in
    let l = x.laid in
    let written = is_written P area code x.fits in
    let place = c.has_home.ensures P Q area (table_of code) code.bytes x.in_area.area written in
    let carried = has_code P plans area code l x.fits x.in_area.area place in
    let targets : ℕ → ℕ = entry_of first code.entries (code_start area) in
    record {
      area = area;
      entries = code.entries;
      code = code.bytes;
      words = l.words;
      targets = targets;
      is_area = x.in_area.area;
      written = written;
      bytes = c.loaded_has_bytes.ensures Ia32 file Q bytes x.loaded;
      has = l.has;
      count = l.count;
      low = c.entries_are_addresses.ensures Q first l.entry l.words l.live plans area code.entries carried;
      start = starts_there P plans area code l;
      plans = λ reading ops reads_words reads_ops. record {
        live = c.live_sets_are_enough.ensures (context_of (laid_interface l.live) targets reading ops P Q first area code.entries) reading P first l.words l.live (record { reads = reads_words; rights = refl; steps = λ g. refl; has = l.has; are_live = l.blocks.are_live; live = λ w y. refl });
        blocks = c.blocks_stand.ensures reading ops P Q first l.entry l.words l.live plans area code.entries reads_words reads_ops l.has carried place.page;
        doors = λ w. inl (refl, refl);
        holds = c.hold_stands.ensures (laid_interface l.live) targets reading ops P Q first l.entry l.words l.live plans area code.entries reads_ops carried;
      };
    }

pub returns-clause-agrees : goal.returns-clause-agrees
returns-clause-agrees c = λ P plans file bytes x. (c.plans_agree.ensures (laid_interface x.laid.live) P (translated P x.code x.area) (returns-clause-planned c P plans file bytes x)).1 file x.loaded
