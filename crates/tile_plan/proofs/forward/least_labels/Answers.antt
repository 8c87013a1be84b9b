use Rattle.std.proofs.Common.{◌≡◌, ◌-◌, [], ◌∷◌, ◌++◌, length, get_or, map, sym, subst, ap, ◌∙◌, arith}
use Rattle.std.proofs.lemmas.List.{length-map, map-append}
use Rattle.tile_plan.specs.Prelude.{AreForward, IsForwardRow}
use Rattle.tile_plan.proofs.Leasts.{read-zero}
use Rattle.tile_plan.proofs.Forwards.{forward-push}
use Rattle.tile_plan.proofs.forward.least_labels.Goals as goal

pub loop-place-preserved : goal.loop-place-preserved
loop-place-preserved c =
    let q = c.args.problem.now in
    let rows = map (λ r. r.items) c.loop-place.rows.items in
    let len : length rows ≡ c.loop-place.place = rw length-map c.loop-place.invariant.len in
    let e = ap (map (λ r. r.items)) c.in_ok-push.ensures.items ∙ map-append (λ r. r.items) c.loop-place.rows.items (c.in_ok-row.row ∷ []) in
    record {
      rows = subst (AreForward q) (sym e) (forward-push q rows c.in_ok-row.row.items c.loop-place.invariant.rows
          (subst (λ p. IsForwardRow q rows p c.in_ok-row.row.items) (sym len) c.in_ok-row.ensures));
      len = omega (arith, c.in_ok-push.ensures.len, c.push.new.self.ok.0, c.loop-place.rows.ok.0, c.loop-place.invariant.len);
    }

pub returns : goal.returns
returns c =
    let q = c.args.problem.now in
    let rows = map (λ r. r.items) c.loop-place.rows.items in
    let len : length rows ≡ q.places - 1 = rw length-map (omega (arith, c.loop-place.invariant.len, c.loop-place-test.false, c.loop-place.auto.place-end)) in
    let row = c.in_ok-row-2.row.items in
    let index = c.args.exit in
    let end = c.in_ok-row-2.ensures in
    let low = read-zero row index c.index.result.now c.index.ensures (omega (arith, c.requires.exit.within, end.reached.len)) in
    let last_row : c.push-2.new.self.items ≡ get_or row index 0 ∷ [] =
    c.in_ok-push-2.ensures.items ∙ ap (λ xs. xs ++ c.index.result.now ∷ []) c.new-end.ensures.items ∙ ap (λ v. v ∷ []) low in
    let e = ap (map (λ r. r.items)) c.in_ok-push-3.ensures.items ∙ map-append (λ r. r.items) c.loop-place.rows.items (c.push-2.new.self ∷ []) in
    record {
      rows = rows;
      row = row;
      index = index;
      forward = c.loop-place.invariant.rows;
      len = len;
      end = end;
      at = c.requires.exit;
      is = e ∙ ap (λ xs. rows ++ xs ∷ []) last_row;
    }
