-- The terms of what rows share: fields of CR, recording forms, and effects that change little.
use Rattle.std.specs.Prelude.{ℕ, ◌+◌, ◌-◌, ◌*◌, Bool, true, false}
use Rattle.word_kit.specs.Prelude.{Operations, WordMade}
use Rattle.ppc_parts.specs.Made.{RowMade}
use Rattle.ppc_parts.specs.declared.given.Access.TheVariants.{None}
use Rattle.ppc_parts.specs.declared.given.Effect.{Effect}
use Rattle.ppc_parts.specs.declared.given.GuestIn.{GuestIn}

module _ {W B H : Type 0} (ops : Operations W B H) where
  abbrev pub field_term : W → ℕ → B → B → B → B → W
  field_term cr f lt gt eq so = ops.put_bit_of (ops.put_bit_of (ops.put_bit_of (ops.put_bit_of cr (31 - 4 * f) lt) (31 - (4 * f + 1)) gt) (31 - (4 * f + 2)) eq) (31 - (4 * f + 3)) so

module _ {A W B H : Type 0} (ops : Operations W B H) where
  -- CR after x was compared with y into a field: less, greater, equal, in this order, then SO
  abbrev pub compared_term : Bool → ℕ → W → W → H → GuestIn A W B → WordMade W H
  compared_term as_signed f x y h g =
      let lt = ops.less_of h x y as_signed in
      let gt = ops.less_of lt.held y x as_signed in
      let eq = ops.equal_of gt.held x y in
      record { word = field_term ops g.cr f lt.flag gt.flag eq.flag (ops.bit_of g.xer 31); held = eq.held }

  abbrev pub recorded_term : Bool → W → H → GuestIn A W B → WordMade W H
  recorded_term true result h g = compared_term true 0 result (ops.lit_of 0) h g
  recorded_term false result h g = record { word = g.cr; held = h }

  abbrev pub unchanged_term : GuestIn A W B → Effect A W B
  unchanged_term g = record {
    d = g.s;
    a = g.a;
    cr = g.cr;
    xer = g.xer;
    lr = g.lr;
    ctr = g.ctr;
    address = ops.lit_of 0;
    stored = ops.lit_of 0;
    width = 0;
    kind = None;
    taken = ops.flag_of false;
  }

  abbrev pub gives_d_term : Bool → W → H → GuestIn A W B → RowMade A W B H
  gives_d_term records result h g =
      let cr = recorded_term records result h g in
      record { effect = record (unchanged_term g) { d = result; cr = cr.word }; held = cr.held }

  abbrev pub gives_a_term : Bool → W → H → GuestIn A W B → RowMade A W B H
  gives_a_term records result h g =
      let cr = recorded_term records result h g in
      record { effect = record (unchanged_term g) { a = result; cr = cr.word }; held = cr.held }

  -- what was made, with another XER
  abbrev pub with_xer : W → RowMade A W B H → RowMade A W B H
  with_xer xer made = record made { effect = record made.effect { xer = xer } }
