use Rattle.std.proofs.Common.{◌≡◌, pos, negsuc, suc, neg_ℤ, nat_abs, sym, ap, ◌∙◌, w32, arith}
use Rattle.std.proofs.lemmas.Int.{to_z-of_z}
use Rattle.watched_literals.specs.Prelude.{behind, name}
use Rattle.watched_literals.proofs.Numbers.{grown-insert, name-found, magnitude, negative-is, nonnegative-is}
use Rattle.std.proofs.lemmas.Bool.Decides.{Decides-eqb}
use lib.Signed.{lt_z}
use Rattle.watched_literals.proofs.numbering.Numbering.number.Goals as goal

pub returns-then-literal-lt0-clause-grown : goal.returns-then-literal-lt0-clause-grown
returns-then-literal-lt0-clause-grown c =
    let e = to_z-of_z w32 c.args.literal c.ranges.literal in
    let m : c.unsigned_abs.result ≡ nat_abs c.args.literal = c.unsigned_abs.ensures.value ∙ ap nat_abs e in
    let p = c.requires.literal.nonzero in
    grown-insert c.args.self.now.variables.keys c.insert_full.new.self.keys c.unsigned_abs.result (omega (arith, p, m, magnitude c.args.literal)) c.requires.names c.in_ok-place.ensures.keys

pub returns-else-literal-lt0-clause-grown : goal.returns-else-literal-lt0-clause-grown
returns-else-literal-lt0-clause-grown c =
    let e = to_z-of_z w32 c.args.literal c.ranges.literal in
    let m : c.unsigned_abs.result ≡ nat_abs c.args.literal = c.unsigned_abs.ensures.value ∙ ap nat_abs e in
    let p = c.requires.literal.nonzero in
    grown-insert c.args.self.now.variables.keys c.insert_full.new.self.keys c.unsigned_abs.result (omega (arith, p, m, magnitude c.args.literal)) c.requires.names c.in_ok-place.ensures.keys

pub returns-then-literal-lt0-clause-behind : goal.returns-then-literal-lt0-clause-behind
returns-then-literal-lt0-clause-behind c =
    let e = to_z-of_z w32 c.args.literal c.ranges.literal in
    let m : c.unsigned_abs.result ≡ nat_abs c.args.literal = c.unsigned_abs.ensures.value ∙ ap nat_abs e in
    let n : c.opposite.result ≡ negsuc c.in_ok-place.place = c.opposite.ensures ∙ ap neg_ℤ {y = pos (suc c.in_ok-place.place)} (c.of_variable-number.ensures ∙ ap pos (omega arith)) in
    let k = c.in_ok-place.ensures.stored in
    let f : name c.insert_full.new.self.keys c.in_ok-place.place ≡ c.unsigned_abs.result =
    name-found c.insert_full.new.self.keys c.in_ok-place.place c.unsigned_abs.result k.0 k.1 (sym ((Decides-eqb c.unsigned_abs.result k.0).0 k.2)) in
    ap (behind c.insert_full.new.self.keys) n ∙ ap (λ v. neg_ℤ (pos v)) (f ∙ m)
    ∙ negative-is c.args.literal (ap (λ z. lt_z z (pos 0)) (sym e) ∙ c.if-literal-lt0.true)

pub returns-else-literal-lt0-clause-behind : goal.returns-else-literal-lt0-clause-behind
returns-else-literal-lt0-clause-behind c =
    let e = to_z-of_z w32 c.args.literal c.ranges.literal in
    let m : c.unsigned_abs.result ≡ nat_abs c.args.literal = c.unsigned_abs.ensures.value ∙ ap nat_abs e in
    let n : c.of_variable-number.result ≡ pos (suc c.in_ok-place.place) = c.of_variable-number.ensures ∙ ap pos (omega arith) in
    let k = c.in_ok-place.ensures.stored in
    let f : name c.insert_full.new.self.keys c.in_ok-place.place ≡ c.unsigned_abs.result =
    name-found c.insert_full.new.self.keys c.in_ok-place.place c.unsigned_abs.result k.0 k.1 (sym ((Decides-eqb c.unsigned_abs.result k.0).0 k.2)) in
    ap (behind c.insert_full.new.self.keys) n ∙ ap pos (f ∙ m)
    ∙ nonnegative-is c.args.literal (ap (λ z. lt_z z (pos 0)) (sym e) ∙ c.if-literal-lt0.false)
