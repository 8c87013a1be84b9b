use Rattle.std.proofs.Common.{◌≡◌, ℕ, ◌+◌, ◌-◌, ◌≤◌, ◌%◌, Option, length}
use Rattle.ppc_isa.specs.declared.instr.Instr.{Instr}
use Rattle.ppc_isa.specs.Legal.{ReadsWords}
use Rattle.listing.specs.Words.{word_lines}
use Rattle.listing.proofs.Halfway.{Halfway}
use Rattle.listing.proofs.words.list_words.Given as goal

abbrev pub invariant-loop-place : goal.invariant-loop-place
invariant-loop-place g l = record {
  even : (l.code.at + l.place) % 4 ≡ 0;
  near : l.place ≤ length l.bytes + 3;
  text : (read : ℕ → Option Instr) → ReadsWords read
      → Halfway (g.S.Sink.shown l.initial.output) (g.S.Sink.shown l.output)
      (word_lines read l.code (l.code.at + l.place) (length l.bytes - l.place))
      (word_lines read l.code l.code.at (length l.bytes));
  later : g.S.Sink.faults l.initial.output ≤ g.S.Sink.faults l.output;
}

abbrev pub decreases-loop-place : goal.decreases-loop-place
decreases-loop-place g l = length l.bytes + 4 - l.place
