-- Tiles of tw and twi.
use Rattle.std.proofs.Common.{◌≡◌, ℕ, ◌^◌, ◌<◌, Bool, true, false, cond, ◌&&◌, ◌||◌, eqb, inr, List, [], ◌∷◌, drop, Some, None, refl, sym, ap, ◌∙◌, subst, arith}
use Rattle.std.proofs.lemmas.Bool.{eqb-true}
use Rattle.std.proofs.lemmas.Bool.Decides.{nat_tests}
use Rattle.space.specs.declared.call.End.TheVariants as endings
use Rattle.machines.specs.Prelude.{sign_extended, is_less, bit_of, Map, Trap, TrapImmediate, trap_holds, Condition, Below, Equal, Above, Less, Greater, Flags, condition_holds, difference_flags, Goes, Ends, Rights, Guest, behind, at_next, Choice}
use Rattle.reg_map.specs.Prelude.{AreInRange}
use Rattle.symbolic_tiles.specs.declared.symbolic_op.SymbolicOp.{SymbolicOp}
use Rattle.symbolic_tiles.specs.declared.tile_item.TileItem.{TileItem}
use Rattle.symbolic_tiles.specs.declared.tile_item.TileItem.TheVariants.{Label, BranchTo, Trap as Int3}
use Rattle.symbolic_tiles.specs.Prelude.{doing, AreItems, SymbolicState, execute_ops, AreWellFormed, SymbolicExit, execute}
use Rattle.base_flow.specs.Prelude.{when_jump, trap_tests, trap_items, tw_ops, twi_ops, items_of}
use Rattle.symbolic_tiles.proofs.Done.{state_of}
use Rattle.symbolic_tiles.proofs.Results.{Then}
use Rattle.symbolic_tiles.proofs.Signed.{zero_test, less_by_flags, below_by_flags, one_of_three}
use Rattle.symbolic_tiles.proofs.Registers.{word, gpr, HasFlags, extended_word}
use Rattle.symbolic_tiles.proofs.FlowDone.{FitsExit, ItemsDo, doing_are, ops_go, jump_goes}

-- greater is told by the flags
greater_by_flags : (x y : ℕ) → x < 2 ^ 32 → y < 2 ^ 32 → condition_holds Greater (difference_flags x y false) ≡ is_less y x true
greater_by_flags x y hx hy = by_tests (condition_holds Less (difference_flags x y false)) (difference_flags x y false) refl (less_by_flags x y hx hy) (zero_test x y hx hy) (one_of_three x y true hx hy).0
  where
    by_tests : (l : Bool) (f : Flags) → condition_holds Less f ≡ l → l ≡ is_less x y true → f.zf ≡ eqb x y → cond (is_less x y true) false (cond (eqb x y) false true) ≡ is_less y x true → condition_holds Greater f ≡ is_less y x true
    by_tests l f e p q t = grind (arith, nat_tests)

above_by_flags : (x y : ℕ) → x < 2 ^ 32 → y < 2 ^ 32 → condition_holds Above (difference_flags x y false) ≡ is_less y x false
above_by_flags x y hx hy = grind (arith, nat_tests)

module _ (guest host : Rights) (g : Guest) (x y : ℕ) (lx : x < 2 ^ 32) (ly : y < 2 ^ 32) (range : AreInRange g) where
  -- the symbolic_exit out of the tests
  abbrev Right : Bool → SymbolicExit → Type 0
  Right taken symbolic_exit = FitsExit guest (cond taken (Ends endings.Trap) (Goes (at_next g.locs g))) symbolic_exit

  -- from the mark on, through the tests that are left
  abbrev Traps : List TileItem → Type 0
  Traps items = (choices : List Choice) (s : SymbolicState) → FitsExit guest (Ends endings.Trap) (execute guest host items (Some 0) choices s)

  abbrev Goes_on : Bool → List TileItem → Type 0
  Goes_on rest items = (choices : List Choice) (s : SymbolicState) → HasFlags x y g s → Right rest (execute guest host items None choices s)

  skips : (b : Bool) (c : Condition) (items : List TileItem) → Traps items → Traps (when_jump b c 0 items)
  skips true c items h = h
  skips false c items h = h

  -- one test before others
  tested : (b holds rest : Bool) (c : Condition) (items : List TileItem) → condition_holds c (difference_flags x y false) ≡ holds → Traps items → Goes_on rest items → Goes_on ((b && holds) || rest) (when_jump b c 0 items)
  tested false holds rest c items e traps goes choices s h = goes choices s h
  tested true holds rest c items e traps goes choices s h =
      jump_goes guest host (Right (holds || rest)) c 0 items choices s holds (ap (condition_holds c) h.0 ∙ e)
      (λ t. subst (λ k. Right (k || rest) (execute guest host items (Some 0) (drop 1 choices) s)) (sym t) (traps (drop 1 choices) s))
      (λ t. subst (λ k. Right (k || rest) (execute guest host items None (drop 1 choices) s)) (sym t) (goes (drop 1 choices) s h))

  ends : Traps (BranchTo (behind g.next) ∷ Label 0 ∷ Int3 ∷ [])
  ends choices s = inr refl

  falls : Goes_on false (BranchTo (behind g.next) ∷ Label 0 ∷ Int3 ∷ [])
  falls choices s h = (refl, (λ z lz. ap (λ f. f z) h.1, λ a held. ap (λ f. f a) h.2), range)

  abbrev nested : Bool → Bool → Bool → Bool → Bool → Bool
  nested b4 b3 b2 b1 b0 = (b4 && is_less x y true) || ((b3 && is_less y x true) || ((b2 && eqb x y) || ((b1 && is_less x y false) || ((b0 && is_less y x false) || false))))

  all_tests : (b4 b3 b2 b1 b0 : Bool) → Goes_on (nested b4 b3 b2 b1 b0) (when_jump b4 Less 0 (when_jump b3 Greater 0 (when_jump b2 Equal 0 (when_jump b1 Below 0 (when_jump b0 Above 0 (BranchTo (behind g.next) ∷ Label 0 ∷ Int3 ∷ []))))))
  all_tests b4 b3 b2 b1 b0 =
      tested b4 _ _ Less _ (less_by_flags x y lx ly) (skips b3 Greater _ (skips b2 Equal _ (skips b1 Below _ (skips b0 Above _ ends))))
      (tested b3 _ _ Greater _ (greater_by_flags x y lx ly) (skips b2 Equal _ (skips b1 Below _ (skips b0 Above _ ends)))
      (tested b2 _ _ Equal _ (zero_test x y lx ly) (skips b1 Below _ (skips b0 Above _ ends))
      (tested b1 _ _ Below _ (below_by_flags x y) (skips b0 Above _ ends)
      (tested b0 _ _ Above _ (above_by_flags x y lx ly) ends falls))))

  -- the row's order of tests
  same_tests : (p q r s t : Bool) → (p || (q || (r || (s || (t || false))))) ≡ (p || q || r || s || t)
  same_tests true q r s t = refl
  same_tests false true r s t = refl
  same_tests false false true s t = refl
  same_tests false false false true t = refl
  same_tests false false false false true = refl
  same_tests false false false false false = refl

  pub trap_does : (to : ℕ) (compared : List SymbolicOp) (choices : List Choice) (s : SymbolicState) → s.locs ≡ g.locs → s.bytes ≡ g.bytes → Then (HasFlags x y g) (execute_ops guest host compared choices s) → Right (trap_holds to x y) (execute guest host (trap_items to compared (behind g.next)) None choices s)
  trap_does to compared choices s p q run = by_none (eqb to 0) refl
    where
      by_none : (b : Bool) → eqb to 0 ≡ b → Right (trap_holds to x y) (execute guest host (cond b (BranchTo (behind g.next) ∷ []) (doing compared (trap_tests to (behind g.next)))) None choices s)
      by_none true e = subst (λ k. Right (trap_holds k x y) (execute guest host (BranchTo (behind g.next) ∷ []) None choices s)) (sym (eqb-true to 0 e)) (refl, (λ z lz. ap (λ f. f z) p, λ a held. ap (λ f. f a) q), range)
      by_none false e =
          ops_go guest host (HasFlags x y g) (Right (trap_holds to x y)) compared (trap_tests to (behind g.next)) choices s run
          (λ choices t h. subst (λ k. Right k (execute guest host (trap_tests to (behind g.next)) None choices t)) (same_tests (bit_of to 4 && is_less x y true) (bit_of to 3 && is_less y x true) (bit_of to 2 && eqb x y) (bit_of to 1 && is_less x y false) (bit_of to 0 && is_less y x false))
          (all_tests (bit_of to 4) (bit_of to 3) (bit_of to 2) (bit_of to 1) (bit_of to 0) choices t h))

pub tw_does : (to a b : ℕ) → a < 32 → b < 32 → ItemsDo (Some (Trap to a b)) (items_of (Trap to a b))
tw_does to a b la lb guest host g regs flags choices given words =
    trap_does guest host g (g.locs a) (g.locs b) (gpr g a given.in_range la) (gpr g b given.in_range lb) given.in_range to (tw_ops a b) choices (state_of g regs flags) refl refl (refl, refl, refl)

pub twi_does : (to a imm : ℕ) → a < 32 → imm < 2 ^ 16 → ItemsDo (Some (TrapImmediate to a imm)) (items_of (TrapImmediate to a imm))
twi_does to a imm la li guest host g regs flags choices given words =
    trap_does guest host g (g.locs a) (sign_extended 16 imm) (gpr g a given.in_range la) (extended_word imm li) given.in_range to (twi_ops a imm) choices (state_of g regs flags) refl refl (refl, refl, refl)

when_are : (m : Map) (b : Bool) (c : Condition) (items : List TileItem) → AreItems m items → AreItems m (when_jump b c 0 items)
when_are m true c items h = h
when_are m false c items h = h

trap_are : (m : Map) (to : ℕ) (compared : List SymbolicOp) (next : ℕ) → AreWellFormed compared → AreItems m (trap_items to compared next)
trap_are m to compared next h = by_none (eqb to 0)
  where
    by_none : (b : Bool) → AreItems m (cond b (BranchTo next ∷ []) (doing compared (trap_tests to next)))
    by_none true = tt
    by_none false = doing_are m compared (trap_tests to next) h (when_are m (bit_of to 4) Less _ (when_are m (bit_of to 3) Greater _ (when_are m (bit_of to 2) Equal _ (when_are m (bit_of to 1) Below _ (when_are m (bit_of to 0) Above _ tt)))))

pub tw_are : (m : Map) (to a b : ℕ) (at : ℕ) → a < 32 → b < 32 → AreItems m (items_of (Trap to a b) at)
tw_are m to a b at la lb = trap_are m to (tw_ops a b) (behind at) ((tt, word a la), ((tt, word b lb), tt))

pub twi_are : (m : Map) (to a imm : ℕ) (at : ℕ) → a < 32 → imm < 2 ^ 16 → AreItems m (items_of (TrapImmediate to a imm) at)
twi_are m to a imm at la li = trap_are m to (twi_ops a imm) (behind at) ((tt, word a la), ((tt, extended_word imm li), tt))
