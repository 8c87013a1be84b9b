use Rattle.std.proofs.Common.{◌≡◌, ℕ, ◌+◌, ◌*◌, ◌<◌, ◌≤◌, List, length, refl, ap, ◌∙◌, arith}
use Rattle.std.specs.List.{flat_map}
use Rattle.byteorder.specs.Endian.{little_bytes}
use Rattle.branch_table.proofs.Words.{length_of_table}
use Rattle.machines.specs.Prelude.{Program, Rights, code_of, first_bytes, guest_start, host_start, AgreesNarrowly}
use Rattle.elf_load.specs.Prelude.{IsArea}
use Rattle.code_words.specs.Words.{first_of}
use Rattle.simulation.specs.Prelude.{SimulationContext, IsTranslation}
use Rattle.laid_code.specs.Prelude.{context_of, HasTableOf}
use Rattle.upkeep.specs.Written.{narrow_rights, IsInPlace}
use Rattle.agreement.specs.Plans.{HasPlans}
use Rattle.agreement.proofs.plans_agree.Goals as goal

abbrev table_of : List ℕ → List ℕ
table_of entries = flat_map (little_bytes 4) entries

-- the table stands in the memory of a context of theirs
has_table : (P Q : Program) (area : ℕ) (entries code : List ℕ) (s : SimulationContext) → length (table_of entries) ≤ 0x80000 → IsArea P.segments area → IsInPlace P area (table_of entries) code Q →
    s.host ≡ narrow_rights Q → s.table ≡ area + 0x1000 → s.image ≡ first_bytes Q.segments → HasTableOf s entries
has_table P Q area entries code s room free place rights at image =
    let count : length (table_of entries) ≡ 4 * length entries = length_of_table entries in
    let high = free.high in
    let inside = λ (i : ℕ) (li : i < 4 * length entries). (let e : i < length (table_of entries) = omega (arith, li, count) in e) in
    record {
      low = omega (arith, room, count, high, at);
      held = λ i li. ap (λ (r : Rights). r.held (s.table + i)) rights ∙ ap (λ n. (narrow_rights Q).held (n + i)) at ∙ place.table_held i (inside i li);
      unwritable = λ i li. ap (λ (r : Rights). r.writable (s.table + i)) rights ∙ ap (λ n. (narrow_rights Q).writable (n + i)) at ∙ place.table_unwritable i (inside i li);
      bytes = λ i li. ap (λ (f : ℕ → ℕ). f (s.table + i)) image ∙ ap (λ n. first_bytes Q.segments (n + i)) at ∙ place.table_stands i (inside i li);
    }

pub returns : goal.returns
returns c = λ interface P Q x.
    let table : List ℕ = table_of x.entries in
    let place = c.has_home.ensures P Q x.area table x.code x.is_area x.written in
    let narrowly : AgreesNarrowly P Q = λ reading ops reads_words reads_ops choices.
    let s : SimulationContext = context_of interface x.targets reading ops P Q (first_of P) x.area x.entries in
    let plans : HasPlans s = x.plans reading ops reads_words reads_ops in
    let holds : IsTranslation s = record {
      page = place.page;
      segments = place.segments;
      writes_held = place.writes_held;
      guests = c.guests_stay_guests.ensures s reading P (record { reads = reads_words; rights = refl; steps = λ g. refl; page = place.page; segments = place.segments; writes_held = place.writes_held });
      keeps = c.host_keeps_unwritten.ensures.context s (code_of Q) ops (λ h. refl);
      live = plans.live;
      blocks = plans.blocks;
      has_table = c.tables_stand.ensures interface x.targets reading ops P Q (first_of P) x.words x.area x.entries x.has x.count x.low (has_table P Q x.area x.entries x.code s x.written.table_fits x.is_area place refl refl refl);
      doors = plans.doors;
      holds = plans.holds;
    } in
    let start = c.starts.ensures.start P Q x.area table x.code s choices x.is_area x.written x.bytes (record { guest = refl; area_is = refl; image = refl; entry = x.start }) in
    c.agrees.ensures s holds (guest_start P) (host_start Q choices) start in
    (let agrees = c.agrees_if_narrowly.ensures P Q narrowly in (agrees, λ file loaded. (Q, loaded, agrees)))
