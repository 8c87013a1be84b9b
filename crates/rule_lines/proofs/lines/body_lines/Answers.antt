use Rattle.std.proofs.Common.{◌≡◌, length, take, List, [], ◌∷◌, ◌++◌, get_or, sym, ap, ◌∙◌, subst, arith, rules}
use Rattle.std.specs.List.{All}
use Rattle.std.proofs.lemmas.List.{take_more, take_all, get_or-map, get_or-take, length-map, length-take-le}
use Rattle.rule_body.specs.Prelude.{lines_of, template_of}
use Rattle.row_circuits.specs.declared.lines.BodyLine.{BodyLine}
use Rattle.row_circuits.specs.Bodies.{IsBodyLine}
use Rattle.rule_lines.specs.Lines.{line_for, lines_for, IsPlacedLine}
use Rattle.rule_lines.proofs.Lined.{body_line_placed, body_lines_are}
use Rattle.rule_lines.proofs.Whole.{few_taken}
use Rattle.rule_lines.proofs.lines.body_lines.Goals as goal

pub line_for-requires-clause-placed : goal.line_for-requires-clause-placed
line_for-requires-clause-placed c =
    let body = c.args.body.now in
    let four : length body.lines ≡ 4 = search rules in
    let few = c.requires.body.count in
    let n = length-take-le body.count body.lines (omega (arith, four, few)) in
    subst (IsPlacedLine (template_of c.args.goal.now).slots) (get_or-take body.count body.lines c.loop-i.i _ c.loop-i-test.true)
    (body_line_placed c.args.goal.now body c.requires.goal c.requires.body c.loop-i.i _ (let lt = c.loop-i-test.true in omega (arith, n, lt)))

pub loop-i-preserved : goal.loop-i-preserved
loop-i-preserved c =
    let body = c.args.body.now in
    let i = c.loop-i.i in
    let slots = (template_of c.args.goal.now).slots in
    let ls = lines_for c.args.goal.now body in
    let r = c.line_for.result in
    let four : length body.lines ≡ 4 = search rules in
    let few = c.requires.body.count in
    let lt = c.loop-i-test.true in
    let n = length-take-le body.count body.lines (omega (arith, four, few)) in
    let m = length-map (lines_of body) (line_for slots) in
    let same : r ≡ get_or ls i r = c.line_for.ensures ∙ ap (line_for slots) (sym (get_or-take body.count body.lines i _ lt)) ∙ sym (get_or-map (line_for slots) (lines_of body) i _ r (omega (arith, n, lt))) in
    c.in_ok-push.ensures.items ∙ ap (λ xs. xs ++ r ∷ []) c.loop-i.invariant ∙ ap (λ x. take i ls ++ x ∷ []) same ∙ sym (take_more ls i r (omega (arith, n, m, lt)))

pub returns-clause-lines : goal.returns-clause-lines
returns-clause-lines c =
    let body = c.args.body.now in
    let ls = lines_for c.args.goal.now body in
    let n = few_taken body.count body.lines in
    let m = length-map (lines_of body) (line_for (template_of c.args.goal.now).slots) in
    let le = c.loop-i-test.false in
    subst (λ (xs : List BodyLine). All IsBodyLine xs) (sym (c.loop-i.invariant ∙ take_all c.loop-i.i ls (omega (arith, n, m, le))))
    (body_lines_are c.args.goal.now body c.requires.goal c.requires.body c.ops_have_shapes.ensures.leaves)
