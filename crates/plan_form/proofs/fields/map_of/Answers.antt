use Rattle.std.proofs.Common.{◌≡◌, ℕ, ◌++◌, List, ◌∷◌, Option, sym, subst, ◌∙◌, true, false}
use Rattle.machines.specs.Prelude.{IsHeld}
use Rattle.ppc_isa.specs.Map.{AreApart}
use Rattle.line_text.specs.Lines.{IsFree}
use Rattle.line_text.proofs.Cuts.{cut-none}
use Rattle.plan_form.specs.Prelude.{content_word}
use Rattle.plan_form.proofs.TextWords.{free-content, contents-same, cut-same}
use Rattle.plan_form.proofs.fields.map_of.Goals as goal

-- the parts of a map's word
first : (word a x y : List ℕ) (e : Option ℕ) → IsHeld e → IsFree 44 a → word ≡ a ++ 44 ∷ x → word ≡ content_word e ++ 44 ∷ y → (a ≡ content_word e) × (x ≡ y)
first word a x y e h free is other = cut-same 44 a (content_word e) x y free (free-content e h) (sym is ∙ other)

pub returns-in_default : goal.returns-in_default
returns-in_default c = λ m h e. cut-none 44 (content_word m.ebx) (content_word m.esi ++ 44 ∷ content_word m.edi) (subst (IsFree 44) e c.in_default.ensures)

pub returns-in_default-cut : goal.returns-in_default-cut
returns-in_default-cut c = λ m h e.
    let f = first c.args.word.now c.in-Some.first.now c.in-Some.rest.now (content_word m.esi ++ 44 ∷ content_word m.edi) m.ebx h.ebx c.in-Some.ensures.0 c.in-Some.ensures.1 e in
    cut-none 44 (content_word m.esi) (content_word m.edi) (subst (IsFree 44) f.1 c.in_default-cut.ensures)

pub returns-in_default-content_of : goal.returns-in_default-content_of
returns-in_default-content_of c = λ m h e.
    let f = first c.args.word.now c.in-Some.first.now c.in-Some.rest.now (content_word m.esi ++ 44 ∷ content_word m.edi) m.ebx h.ebx c.in-Some.ensures.0 c.in-Some.ensures.1 e in
    c.in_default-content_of.ensures m.ebx h.ebx f.0

pub returns-in_default-content_of-2 : goal.returns-in_default-content_of-2
returns-in_default-content_of-2 c = λ m h e.
    let f = first c.args.word.now c.in-Some.first.now c.in-Some.rest.now (content_word m.esi ++ 44 ∷ content_word m.edi) m.ebx h.ebx c.in-Some.ensures.0 c.in-Some.ensures.1 e in
    let g = first c.in-Some.rest.now c.in-Some-cut.second.now c.in-Some-cut.third.now (content_word m.edi) m.esi h.esi c.in-Some-cut.ensures.0 c.in-Some-cut.ensures.1 f.1 in
    c.in_default-content_of-2.ensures m.esi h.esi g.0

pub returns-in_default-content_of-3 : goal.returns-in_default-content_of-3
returns-in_default-content_of-3 c = λ m h e.
    let f = first c.args.word.now c.in-Some.first.now c.in-Some.rest.now (content_word m.esi ++ 44 ∷ content_word m.edi) m.ebx h.ebx c.in-Some.ensures.0 c.in-Some.ensures.1 e in
    let g = first c.in-Some.rest.now c.in-Some-cut.second.now c.in-Some-cut.third.now (content_word m.edi) m.esi h.esi c.in-Some-cut.ensures.0 c.in-Some-cut.ensures.1 f.1 in
    c.in_default-content_of-3.ensures m.edi h.edi g.1

apart : (a b a' b' : Option ℕ) → a ≡ a' → b ≡ b' → AreApart a' b' → AreApart a b
apart a b a' b' e f h = subst (λ x. AreApart x b) (sym e) (subst (λ y. AreApart a' y) (sym f) h)

pub returns-else-are_all_apart : goal.returns-else-are_all_apart
returns-else-are_all_apart c = λ m h e.
    let f = first c.args.word.now c.in-Some.first.now c.in-Some.rest.now (content_word m.esi ++ 44 ∷ content_word m.edi) m.ebx h.ebx c.in-Some.ensures.0 c.in-Some.ensures.1 e in
    let g = first c.in-Some.rest.now c.in-Some-cut.second.now c.in-Some-cut.third.now (content_word m.edi) m.esi h.esi c.in-Some-cut.ensures.0 c.in-Some-cut.ensures.1 f.1 in
    let x = contents-same c.in-Some-content_of.ebx m.ebx c.in-Some-content_of.ensures.0 h.ebx (sym c.in-Some-content_of.ensures.1 ∙ f.0) in
    let y = contents-same c.in-Some-content_of-2.esi m.esi c.in-Some-content_of-2.ensures.0 h.esi (sym c.in-Some-content_of-2.ensures.1 ∙ g.0) in
    let z = contents-same c.in-Some-content_of-3.edi m.edi c.in-Some-content_of-3.ensures.0 h.edi (sym c.in-Some-content_of-3.ensures.1 ∙ g.1) in
    let t = c.are_all_apart.ensures.1 (
      apart c.in-Some-content_of.ebx c.in-Some-content_of-2.esi m.ebx m.esi x y h.ebx_esi,
      apart c.in-Some-content_of.ebx c.in-Some-content_of-3.edi m.ebx m.edi x z h.ebx_edi,
      apart c.in-Some-content_of-2.esi c.in-Some-content_of-3.edi m.esi m.edi y z h.esi_edi,
    ) in
    let u : true ≡ false = sym t ∙ c.if-are_all_apart.false in
    absurd cc
