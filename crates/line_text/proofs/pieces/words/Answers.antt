use Rattle.std.proofs.Common.{◌==◌, ◌++◌, ◌∷◌, [], List, ℕ, Bor, map, ap, sym, ◌∙◌, append_assoc}
use Rattle.std.specs.List.{slice_split}
use Rattle.std.proofs.lemmas.List.{map-append}
use Rattle.line_text.proofs.Cuts.{split-cut, split-free}
use Rattle.line_text.proofs.pieces.words.Goals as goal

pub loop-word-preserved : goal.loop-word-preserved
loop-word-preserved c =
    let by = c.args.by in
    ap (λ (ws : List (Bor (List ℕ))). map (λ w. w.now) ws ++ slice_split (λ b. b == by) c.in-Some.after.now) (c.in_ok-push.ensures.items)
    ∙ ap (λ ws. ws ++ slice_split (λ b. b == by) c.in-Some.after.now) (map-append (λ (w : Bor (List ℕ)). w.now) c.loop-word.words.items (c.in-Some.word ∷ []))
    ∙ append_assoc (map (λ w. w.now) c.loop-word.words.items) (c.in-Some.word.now ∷ []) (slice_split (λ b. b == by) c.in-Some.after.now)
    ∙ ap (λ ws. map (λ w. w.now) c.loop-word.words.items ++ ws) (sym (split-cut by c.in-Some.word.now c.in-Some.after.now c.in-Some.ensures.0) ∙ ap (slice_split (λ b. b == by)) (sym c.in-Some.ensures.1))
    ∙ c.loop-word.invariant

pub returns : goal.returns
returns c =
    let by = c.args.by in
    ap (λ (ws : List (Bor (List ℕ))). map (λ w. w.now) ws) (c.in_ok-push-2.ensures.items)
    ∙ map-append (λ (w : Bor (List ℕ)). w.now) c.loop-word.words.items (c.loop-word.rest ∷ [])
    ∙ ap (λ ws. map (λ w. w.now) c.loop-word.words.items ++ ws) (sym (split-free by c.loop-word.rest.now c.in_default.ensures))
    ∙ c.loop-word.invariant
