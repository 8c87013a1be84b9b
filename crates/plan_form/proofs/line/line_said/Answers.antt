use Rattle.std.proofs.Common.{◌≡◌, ◌≢◌, ℕ, ◌==◌, ◌++◌, List, [], ◌∷◌, map, Option, Some, None, MatchOption, sym, ap, ◌∙◌}
use Rattle.std.specs.List.{slice_split, join_with_byte}
use Rattle.std.proofs.lemmas.List.Splits.{join_with_byte-slice_split}
use Rattle.line_text.specs.Lines.{line_of}
use Rattle.line_text.proofs.Lines.{split-words, snoc-same}
use Rattle.plan_form.specs.Prelude.{Line, Item, words_of, IsItem, item_of}
use Rattle.plan_form.proofs.TextWords.{are-words}
use Rattle.plan_form.proofs.line.line_said.Goals as goal

said : (o : Option Line) (line : List ℕ) (ws : List (List ℕ)) → ws ≡ slice_split (λ b. b == 32) line
    → MatchOption o ((x : Item) → IsItem x → ws ≢ words_of x) (λ l. IsItem (item_of l) × (ws ≡ words_of (item_of l)))
    → MatchOption o ((x : Item) → IsItem x → line ++ 10 ∷ [] ≢ line_of (words_of x)) (λ l. IsItem (item_of l) × (line ++ 10 ∷ [] ≡ line_of (words_of (item_of l))))
said None line ws is none = λ x h e. none x h (is ∙ ap (slice_split (λ b. b == 32)) (snoc-same line (join_with_byte 32 (words_of x)) 10 10 e).0 ∙ split-words (words_of x) (are-words x h))
said (Some l) line ws is some = (some.0, ap (λ bs. bs ++ 10 ∷ []) (sym (join_with_byte-slice_split 32 line) ∙ ap (join_with_byte 32) (sym is ∙ some.1)))

pub returns : goal.returns
returns c = said c.in_ok-read_words.field-0 c.args.line.now (map (λ w. w.now) c.deref.result.now) (ap (map (λ w. w.now)) c.deref.ensures.value ∙ c.in_ok-words.ensures) c.in_ok-read_words.ensures
