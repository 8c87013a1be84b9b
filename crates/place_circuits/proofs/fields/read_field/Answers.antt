use Rattle.place_circuits.proofs.Shifted.{field_shown}
use Rattle.place_circuits.proofs.fields.read_field.Goals as goal

pub returns-clause-means : goal.returns-clause-means
returns-clause-means c = λ w t fits h.
    let field = c.args.field in
    field_shown _ _ _ _ _ field.low field.count _ (c.in_ok-lowered.ensures.means w fits) (c.in_ok-raised.ensures.means w (c.in_ok-lowered.ensures.later.earlier w fits))
    (h.each field.place c.requires.field.place) (c.lit-up.ensures.means w) (c.lit-down.ensures.means w) c.requires.field.some c.requires.field.within
