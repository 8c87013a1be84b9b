use Rattle.std.proofs.Common.{ap, ◌∙◌}
use Rattle.ppc_isa.specs.Rows.{guest_row}
use Rattle.row_circuits.specs.Windows.{loaded_number}
use Rattle.row_circuits.proofs.Running.{if_ok_map}
use Rattle.row_circuits.proofs.Loaded.{loaded_fits}
use Rattle.row_circuits.proofs.rows.row_effect.Goals as goal

pub returns-clause-means : goal.returns-clause-means
returns-clause-means c = if_ok_map _ _ c.effect.result (λ r e w t f fits h b. e.means w fits ∙ ap (guest_row c.args.row.now.instr) (c.in_ok-from.ensures.means w t (loaded_number c.args.row.now.width f) (c.effect.ensures.later.earlier w fits) h (c.loaded_word-loaded.ensures.means w f b)) ∙ loaded_fits c.rows_are_prompt.ensures c.args.row.now t f c.requires.row.width) c.effect.ensures.gives
