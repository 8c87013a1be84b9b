use Rattle.std.proofs.Common.{◌≡◌, ◌<◌, true, false, sym, ◌∙◌, lit≤, arith}
use Rattle.elf_load.specs.Prelude.{header_count, is_segment}
use Rattle.std.proofs.lemmas.Grind.{common_steps}
use Rattle.elf_load.proofs.Steps.{segments_with, segments_without}
use Rattle.elf_load.proofs.loading.read_segments.Goals.{then-is_segment+in_ok-read_segment+in_ok-push, else-is_segment}
use Rattle.elf_load.proofs.Tried.{has_table, lies_inside}
use Rattle.elf_load.proofs.loading.read_segments.Goals as goal

pub read_header-h-requires-clause-table : goal.read_header-h-requires-clause-table
read_header-h-requires-clause-table c = has_table c.args.kind c.args.bytes.now 21 c.requires (lit≤ tt)

pub read_segment-requires-clause-inside : goal.read_segment-requires-clause-inside
read_segment-requires-clause-inside c =
    let within : c.loop-i.i < header_count c.args.kind c.args.bytes.now = omega arith in
    let segment : is_segment c.read_header-h.result ≡ true = sym c.is_segment.ensures ∙ c.if-is_segment.true in
    let both = lies_inside c.args.kind c.args.bytes.now 21 c.requires (lit≤ tt) c.loop-i.i within c.read_header-h.result
    c.read_header-h.ensures segment in
    both.0

pub read_segment-requires-clause-sizes : goal.read_segment-requires-clause-sizes
read_segment-requires-clause-sizes c =
    let within : c.loop-i.i < header_count c.args.kind c.args.bytes.now = omega arith in
    let segment : is_segment c.read_header-h.result ≡ true = sym c.is_segment.ensures ∙ c.if-is_segment.true in
    let both = lies_inside c.args.kind c.args.bytes.now 21 c.requires (lit≤ tt) c.loop-i.i within c.read_header-h.result
    c.read_header-h.ensures segment in
    both.1

pub loop-i-preserved : goal.loop-i-preserved
loop-i-preserved c =
    elim c.if-is_segment.branch [
      | then-is_segment+in_ok-read_segment+in_ok-push w ↦
          let segment : is_segment c.read_header-h.result ≡ true = sym c.is_segment.ensures ∙ w.if-is_segment.true in
          let grown = segments_with c.args.kind c.args.bytes.now c.loop-i.i c.read_header-h.result c.read_header-h.ensures segment in
          grind (arith, common_steps, grown)
      | else-is_segment w ↦
          let none : is_segment c.read_header-h.result ≡ false = sym c.is_segment.ensures ∙ w.if-is_segment.false in
          let same = segments_without c.args.kind c.args.bytes.now c.loop-i.i c.read_header-h.result c.read_header-h.ensures none in
          grind (arith, common_steps, same)
    ]
