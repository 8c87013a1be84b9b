use Rattle.std.proofs.Common.{[], ◌∷◌, ◌++◌, sym, ap, ◌∙◌}
use Rattle.std.proofs.lemmas.List.{get_or-map}
use Rattle.tile_plan.proofs.Edges.{pushed}
use Rattle.tile_plan.proofs.arcs.push_arc.Goals as goal

pub returns : goal.returns
returns c =
    let rows = c.args.arcs.now.items in
    let old = ap (λ a. a.items) c.index_mut.ensures.value ∙ sym (get_or-map (λ a. a.items) rows c.args.place c.index_mut.result.now [] c.requires) in
    pushed rows c.args.place c.push.new.self c.args.arc c.requires (c.in_ok-push.ensures.items ∙ ap (λ xs. xs ++ c.args.arc ∷ []) old)
