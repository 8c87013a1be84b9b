-- Which gates are made, in order, for each operation on literals. A gate that is there already isn't made again.
use Rattle.std.specs.Prelude.{◌+◌, Bool, true, false, cond, not, List, ℤ, pos, ltb, unsigned_abs, neg_ℤ, int_lt}
use Rattle.std.specs.Ordering.{int_eq}
use Rattle.std.specs.List.{position_or_len}
use Rattle.word_kit.specs.Prelude.{same, FlagMade, SumMade}
use Rattle.indexmap.specs.IndexSet.{insert_key}
use Rattle.circuit.specs.Types.{Lit, Const, Var, Node, And, Xor}

abbrev pub BitMade : Type 0
BitMade = FlagMade Lit (List Node)

-- a sum bit and the carry behind it
abbrev pub FullMade : Type 0
FullMade = SumMade Lit Lit (List Node)

-- the opposite literal
unfoldable pub opposite : Lit → Lit
opposite (Const b) = Const (not b)
opposite (Var z) = Var (neg_ℤ z)

-- the opposite literal where that is asked for
unfoldable pub turned : Lit → Bool → Lit
turned l minus = cond minus (opposite l) l

-- literals that are equal
abbrev pub same_lit : Lit → Lit → Bool
same_lit (Const a) (Const b) = same a b
same_lit (Const a) (Var z) = false
same_lit (Var y) (Const b) = false
same_lit (Var y) (Var z) = int_eq y z

module _ (eq : Node → Node → Bool) where
  -- the variable of a node: the one that it has, or the next
  unfoldable pub node_made : List Node → Node → BitMade
  node_made ns node = record { flag = Var (pos (position_or_len (eq node) ns + 1)); held = insert_key eq ns node }

  -- And and Xor of two variables with signs: equal and opposite ones are folded, the smaller variable goes first
  abbrev pub and_vars_made : List Node → ℤ → ℤ → BitMade
  and_vars_made ns x y = cond (int_eq x y) (record { flag = Var x; held = ns })
      (cond (int_eq x (neg_ℤ y)) (record { flag = Const false; held = ns })
      (cond (ltb (unsigned_abs x) (unsigned_abs y)) (node_made ns (And x y)) (node_made ns (And y x))))

  abbrev pub xor_node_made : List Node → ℤ → ℤ → BitMade
  xor_node_made ns x y = cond (int_lt x y) (node_made ns (Xor x y)) (node_made ns (Xor y x))

  -- the signs of Xor stand outside of it
  unfoldable pub xor_signed_made : List Node → ℤ → ℤ → BitMade
  xor_signed_made ns x y = let m = xor_node_made ns (pos (unsigned_abs x)) (pos (unsigned_abs y)) in
      record { flag = turned m.flag (not (same (int_lt x (pos 0)) (int_lt y (pos 0)))); held = m.held }

  abbrev pub xor_vars_made : List Node → ℤ → ℤ → BitMade
  xor_vars_made ns x y = cond (int_eq x y) (record { flag = Const false; held = ns })
      (cond (int_eq x (neg_ℤ y)) (record { flag = Const true; held = ns })
      (xor_signed_made ns x y))

  -- constants are folded
  unfoldable pub and_made : List Node → Lit → Lit → BitMade
  and_made ns (Const false) c = record { flag = Const false; held = ns }
  and_made ns (Const true) c = record { flag = c; held = ns }
  and_made ns (Var x) (Const false) = record { flag = Const false; held = ns }
  and_made ns (Var x) (Const true) = record { flag = Var x; held = ns }
  and_made ns (Var x) (Var y) = and_vars_made ns x y

  unfoldable pub xor_made : List Node → Lit → Lit → BitMade
  xor_made ns (Const false) c = record { flag = c; held = ns }
  xor_made ns (Const true) c = record { flag = opposite c; held = ns }
  xor_made ns (Var x) (Const false) = record { flag = Var x; held = ns }
  xor_made ns (Var x) (Const true) = record { flag = opposite (Var x); held = ns }
  xor_made ns (Var x) (Var y) = xor_vars_made ns x y

  -- Or is And with signs
  unfoldable pub or_made : List Node → Lit → Lit → BitMade
  or_made ns b c = let m = and_made ns (opposite b) (opposite c) in record { flag = opposite m.flag; held = m.held }

  -- x where it is y, else Or(And(s, x), And(not s, y))
  unfoldable pub choice_made : List Node → Lit → Lit → Lit → BitMade
  choice_made ns s x y = cond (same_lit x y) (record { flag = x; held = ns })
      (let first = and_made ns s x in
      let second = and_made first.held (opposite s) y in
      or_made second.held first.flag second.flag)

  -- The sum bit is Xor(Xor(x, y), c), the carry Or(And(x, y), And(c, Xor(x, y))).
  unfoldable pub full_made : List Node → Lit → Lit → Lit → FullMade
  full_made ns x y c =
      let differs = xor_made ns x y in
      let sum = xor_made differs.held differs.flag c in
      let both = and_made sum.held x y in
      let passed = and_made both.held c differs.flag in
      let carry = or_made passed.held both.flag passed.flag in
      record { word = sum.flag; carry = carry.flag; held = carry.held }

  -- one link of a chain that says that bits are equal: And(n, not Xor(x, y))
  unfoldable pub link_made : List Node → Lit → Lit → Lit → BitMade
  link_made ns n x y = let d = xor_made ns x y in and_made d.held n (opposite d.flag)
