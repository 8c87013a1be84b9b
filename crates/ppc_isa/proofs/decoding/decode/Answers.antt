use Rattle.std.proofs.Common.{◌∙◌, refl, sym, None}
use Rattle.std.proofs.lemmas.Bool.{false≢true}
use Rattle.ppc_isa.proofs.ReadWords.{read_legal, is_read, is_legal}
use Rattle.ppc_isa.proofs.Readings.{same, if_found}
use Rattle.ppc_isa.proofs.decoding.decode.Goals as goal

pub returns-in-Some-clause-only : goal.returns-in-Some-clause-only
returns-in-Some-clause-only c i l = c.in-Some.ensures.read ∙ read_legal c.args.word i l

pub returns-in-Some-clause-reading : goal.returns-in-Some-clause-reading
returns-in-Some-clause-reading c f r = sym (r.only c.args.word c.in-Some.instr (c.if-is_word_of.ensures.0 refl))

pub returns-in_default-clause-only : goal.returns-in_default-clause-only
returns-in_default-clause-only c i l =
    absurd (false≢true (c.if-is_word_of.ensures.1 (is_legal c.args.word i c.in-Some.instr l c.in-Some.ensures.read)))

pub returns-in_default-clause-reading : goal.returns-in_default-clause-reading
returns-in_default-clause-reading c f r =
    same c.args.word None (f c.args.word) tt (if_found c.args.word (f c.args.word) (r.found c.args.word)) (λ i l. returns-in_default-clause-only c i l) (r.only c.args.word)

pub returns-in_default-2-clause-only : goal.returns-in_default-2-clause-only
returns-in_default-2-clause-only c i l = absurd (is_read c.args.word i l (sym c.in_default.is ∙ c.candidate.ensures.read))

pub returns-in_default-2-clause-reading : goal.returns-in_default-2-clause-reading
returns-in_default-2-clause-reading c f r =
    same c.args.word None (f c.args.word) tt (if_found c.args.word (f c.args.word) (r.found c.args.word)) (λ i l. returns-in_default-2-clause-only c i l) (r.only c.args.word)
