use Rattle.std.proofs.Common.{◌∷◌, [], ◌∙◌, decimal}
use Rattle.std.specs.Int.{w32, to_be_bytes}
use Rattle.hex.specs.Hex.{encode_lower}
use Rattle.plan_form.specs.Prelude.{map_word}
use Rattle.plan_form.proofs.TextPrinted.{more, put-head}
use Rattle.plan_form.proofs.printing.put_head.Goals as goal

pub returns : goal.returns
returns c =
    let a = encode_lower (to_be_bytes w32 c.args.block.now.at) in
    let w = decimal c.args.block.now.words in
    let n = map_word c.args.block.now.entry in
    let x = map_word c.args.block.now.exit in
    more _ _ (10 ∷ []) _ c.in_ok-push-4.ensures.items
    (more _ _ x _ c.in_ok-put_map-2.ensures
    (more _ _ (32 ∷ []) _ c.in_ok-push-3.ensures.items
    (more _ _ n _ c.in_ok-put_map.ensures
    (more _ _ (32 ∷ []) _ c.in_ok-push-2.ensures.items
    (more _ _ w _ c.in_ok-put_decimal.ensures
    (more _ _ (32 ∷ []) _ c.in_ok-push.ensures.items
    (more _ _ a _ c.in_ok-put_address.ensures c.in_ok-extend_from_slice.ensures.items)))))))
    ∙ put-head c.args.out.now.items a w n x
