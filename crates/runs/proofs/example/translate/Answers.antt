use Rattle.std.proofs.Common.{◌≡◌, ◌+◌, ◌<◌, ◌≤◌, length, take, [], ◌∷◌, ◌++◌, refl, sym, ap, ◌∙◌, subst, arith}
use Rattle.std.proofs.Math.Seq.{take-length}
use Rattle.std.proofs.lemmas.List.{append-nil}
use Rattle.runs.specs.declared.example.Op.TheVariants as op
use Rattle.runs.proofs.Carried.{Carries, nothing, one_more, silent_tile, passed_tile, added_tile, written_tile, spins_tile, exits_tile, leaves_tile, two_pushed}
use Rattle.runs.proofs.example.translate.Goals as goal
use Rattle.runs.proofs.example.translate.Goals.{in-Sync-2+in_ok-push-in-Sync-2, in-Add+in_ok-push-in-Add, in-Write+in_ok-push-in-Write+in_ok-push-in-Write-2, in-Spin+in_ok-push-in-Spin, in-Exit+in_ok-push-in-Exit, in-Leave}

pub loop-word-preserved-in-Sync : goal.loop-word-preserved-in-Sync
loop-word-preserved-in-Sync c =
    let lt : c.loop-word.word-index < length c.args.words.now = omega arith in
    let short : c.loop-word.place + 1 < 64 = omega arith in
    one_more _ _ _ (c.loop-word.place + 1) _ _ _ _ _ lt short c.loop-word.invariant c.in-Sync.is (silent_tile _ (omega arith)) refl (sym (append-nil _))

pub loop-word-preserved : goal.loop-word-preserved
loop-word-preserved c =
    let so_far = c.loop-word.invariant in
    let lt : c.loop-word.word-index < length c.args.words.now = omega arith in
    let fits : c.loop-word.place + 1 ≤ 64 = let i = so_far.in_block in omega arith in
    elim c.match-word.branch [
      | in-Sync-2+in_ok-push-in-Sync-2 w ↦ one_more _ _ _ 0 _ _ _ _ _ lt (omega arith) so_far w.in-Sync.is (passed_tile _ fits) w.place-is (ap (λ v. v.items) w.ops-is ∙ w.in_ok-push-in-Sync-2.ensures.items)
      | in-Add+in_ok-push-in-Add w ↦ one_more _ _ _ 0 _ _ _ _ _ lt (omega arith) so_far w.in-Add.is (added_tile _ fits _) w.place-is (ap (λ v. v.items) w.ops-is ∙ w.in_ok-push-in-Add.ensures.items)
      | in-Write+in_ok-push-in-Write+in_ok-push-in-Write-2 w ↦ one_more _ _ _ 0 _ _ (op.Store w.in-Write.byte ∷ op.Call ∷ []) _ _ lt (omega arith) so_far w.in-Write.is (written_tile _ fits _) w.place-is (ap (λ v. v.items) w.ops-is ∙ two_pushed _ _ _ (op.Store w.in-Write.byte) op.Call w.in_ok-push-in-Write.ensures.items w.in_ok-push-in-Write-2.ensures.items)
      | in-Spin+in_ok-push-in-Spin w ↦ one_more _ _ _ 0 _ _ _ _ _ lt (omega arith) so_far w.in-Spin.is (spins_tile _ fits) w.place-is (ap (λ v. v.items) w.ops-is ∙ w.in_ok-push-in-Spin.ensures.items)
      | in-Exit+in_ok-push-in-Exit w ↦ one_more _ _ _ 0 _ _ _ _ _ lt (omega arith) so_far w.in-Exit.is (exits_tile _ fits) w.place-is (ap (λ v. v.items) w.ops-is ∙ w.in_ok-push-in-Exit.ensures.items)
      | in-Leave w ↦ one_more _ _ _ 0 _ _ _ _ _ lt (omega arith) so_far w.in-Leave.is (leaves_tile _ fits) w.place-is (ap (λ v. v.items) w.ops-is ∙ sym (append-nil _))
    ]

pub returns : goal.returns
returns c =
    let words = c.args.words.now in
    let ops = c.loop-word.ops.items in
    let all : c.loop-word.word-index ≡ length words = omega arith in
    let every_word : take c.loop-word.word-index words ++ [] ≡ words = append-nil _ ∙ ap (λ n. take n words) all ∙ take-length words in
    let carried = c.loop-word.invariant.carried [] [] (λ b. nothing) 0 in
    let carries : Carries 0 0 0 words ops = subst (λ ws. Carries 0 0 0 ws ops) every_word (subst (λ os. Carries 0 0 0 (take c.loop-word.word-index words ++ []) os) (append-nil ops) carried) in
    c.agrees_in_larger.ensures tt tt _ _ (c.agreement.ensures tt 0 0 _ _ (record { in_block = omega arith; few = omega arith; register = refl; carries = carries }))
