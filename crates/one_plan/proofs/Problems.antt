-- A block has one problem.
use Rattle.std.proofs.Common.{◌≡◌, ◌⊎◌, inl, inr, ℕ, suc, ◌<◌, Bool, true, false, List, [], ◌∷◌, ◌++◌, length, take, Option, Some, None, refl, sym, subst, ap, ◌∙◌, arith}
use Rattle.std.specs.Prelude.{slice_index}
use Rattle.std.proofs.lemmas.List.{ext_get_or}
use Rattle.machines.specs.Prelude.{Map, Instr, HasOneInstruction}
use Rattle.block_find.specs.declared.block.Block.{Block}
use Rattle.liveness.specs.Prelude.{Sets}
use Rattle.plan_form.specs.declared.problem.Problem.{Problem}
use Rattle.plan_form.specs.Prelude.{map_number}
use Rattle.offer_make.specs.Candidates.{IsCount, IsUsedBefore, AreInOrderOfUse, AreCandidates, firsts, held_by}
use Rattle.offer_make.specs.Maps.{AreMapsOver}
use Rattle.offer_make.specs.Tables.{moves_of, offers_of, base_tiles}
use Rattle.offer_make.specs.Problem.{IsReadAs, AreReadAs, IsProblemOf, live_before}
use Rattle.one_plan.proofs.Ordered.{same_lists}
use Rattle.one_plan.proofs.Alike.{AreAlike}

-- it isn't so that no number of words uses a GPR
counted : (words : List ℕ) (g : ℕ) → ((n : ℕ) → IsCount words g n → ⊥) → ⊥
counted [] g none = none 0 refl
counted (word ∷ words) g none = counted words g (λ n c. none n (inr ((λ u. none (suc n) (inl (u, (n, c, refl)))), c)))

used_apart : (words : List ℕ) (g h : ℕ) → IsUsedBefore words g h → IsUsedBefore words h g → ⊥
used_apart words g h to back = counted words g (λ m c. counted words h (λ n d. apart m n (to m n c d) (back n m d c)))
  where
    apart : (m n : ℕ) → (n < m) ⊎ ((m ≡ n) × (g < h)) → (m < n) ⊎ ((n ≡ m) × (h < g)) → ⊥
    apart m n (inl a) (inl b) = omega (arith, a, b)
    apart m n (inl a) (inr b) = let e = b.0 in omega (arith, a, e)
    apart m n (inr a) (inl b) = let e = a.0 in omega (arith, b, e)
    apart m n (inr a) (inr b) = let e = a.1 in let f = b.1 in omega (arith, e, f)

same_used : (words a b : List ℕ) → AreInOrderOfUse words a → AreInOrderOfUse words b → a ≡ b
same_used words a b h k =
    same_lists (IsUsedBefore words) (used_apart words) a b h.in_order k.in_order (λ g. ((λ c. (k.each g).1 ((h.each g).0 c)), (λ c. (h.each g).1 ((k.each g).0 c))))

same_candidates : (words : List ℕ) (entry exit : Map) (leader : Bool) (a b : List ℕ) → AreCandidates words entry exit leader a → AreCandidates words entry exit leader b → a ≡ b
same_candidates words entry exit true a b h k =
    h.2 ∙ ap (λ (used : List ℕ). take 6 (firsts (held_by entry ++ held_by exit ++ used))) (same_used words h.0 k.0 h.1 k.1) ∙ sym k.2
same_candidates words entry exit false a b h k = h ∙ sym k

same_maps : (candidates : List ℕ) (a b : List Map) → AreMapsOver candidates a → AreMapsOver candidates b → a ≡ b
same_maps candidates a b h k =
    same_lists (λ m n. map_number candidates m < map_number candidates n) (λ m n x y. omega (arith, x, y)) a b h.in_order k.in_order
    (λ m. ((λ c. (k.each m).1 ((h.each m).0 c)), (λ c. (h.each m).1 ((k.each m).0 c))))

module _ (one : (w : ℕ) → HasOneInstruction w) where
  same_reading : (word : ℕ) (a b : Option Instr) → IsReadAs word a → IsReadAs word b → a ≡ b
  same_reading word (Some i) (Some j) h k = ap (λ (x : Instr). Some x) (one word i j h k)
  same_reading word (Some i) None h k = absurd (k i h)
  same_reading word None (Some j) h k = absurd (h j k)
  same_reading word None None h k = refl

  same_decoded : (words : List ℕ) (a b : List (Option Instr)) → AreReadAs words a → AreReadAs words b → a ≡ b
  same_decoded words a b h k = ext_get_or None a b (h.count ∙ sym k.count)
      (λ i less. let n = h.count in let within : i < length words = omega (arith, less, n) in same_reading (slice_index words i) _ _ (h.each i within) (k.each i within))

  pub one_problem : (block : Block) (entry exit : Map) (leader : Bool) (live : Sets) (q r : Problem) → IsProblemOf block entry exit leader live q → IsProblemOf block entry exit leader live r → AreAlike q r
  one_problem block entry exit leader live q r h k =
      let same = same_candidates block.words entry exit leader h.candidates k.candidates h.candidates_are k.candidates_are in
      let maps : q.maps.items ≡ r.maps.items = same_maps k.candidates q.maps.items r.maps.items (subst (λ (c : List ℕ). AreMapsOver c q.maps.items) same h.maps) k.maps in
      let decoded = same_decoded block.words h.decoded k.decoded h.decoded_are k.decoded_are in
      let n : ℕ = length block.words in
      record {
        places = h.places ∙ sym k.places;
        entry = h.entry_is ∙ sym k.entry_is;
        exit = h.exit_is ∙ sym k.exit_is;
        maps = maps;
        moves = h.moves
            ∙ ap (λ (c : List ℕ). moves_of n (live_before live block) c q.maps.items) same
            ∙ ap (λ (l : List Map). moves_of n (live_before live block) k.candidates l) maps
            ∙ sym k.moves;
        offers = h.offers
            ∙ ap (λ (l : List Map). offers_of n exit l (base_tiles block.at h.decoded)) maps
            ∙ ap (λ (d : List (Option Instr)). offers_of n exit r.maps.items (base_tiles block.at d)) decoded
            ∙ sym k.offers;
      }
