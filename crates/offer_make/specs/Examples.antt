-- Some prices and moves, worked out by hand.
use Rattle.std.specs.Prelude.{◌≡◌, ℕ, ◌^◌, false, [], ◌∷◌, Some, None}
use Rattle.machines.specs.Prelude.{Map, Immediate, CompareImmediate, BranchConditional, BranchRegister, SystemCall, Addi, Cmpi, Bclr}
use Rattle.reg_map.specs.declared.moves.Move.{Move}
use Rattle.reg_map.specs.declared.moves.Move.TheVariants.{Drop, Take}
use Rattle.plan_form.specs.declared.problem.MovePrice.{MovePrice}
use Rattle.offer_make.specs.Prices.{move_price, base_price}
use Rattle.offer_make.specs.Tables.{moves_between}

abbrev pub nothing_held : Map
nothing_held = record { ebx = None; esi = None; edi = None }

abbrev pub in_ebx : ℕ → Map
in_ebx g = record { ebx = Some g; esi = None; edi = None }

abbrev pub unpriced_move : Map → Move → MovePrice
unpriced_move m step = record { place = 0; map = m; step = step; price = 0 }

-- addi r3,0,7 with r3 at home and in ebx; cmpwi r3,0; beq; blr; sc; an illegal word; a Drop and a Take of a GPR that is live or dead
pub record PricesCompute : Type 0 where
  pub at_home : base_price (Some (Immediate Addi 3 0 7)) 0x10000000 nothing_held ≡ 4
  pub in_register : base_price (Some (Immediate Addi 3 0 7)) 0x10000000 (in_ebx 3) ≡ 2
  pub compare : base_price (Some (CompareImmediate Cmpi 0 3 0)) 0x10000000 nothing_held ≡ 16
  pub branch : base_price (Some (BranchConditional 12 2 2 false false)) 0x10000004 nothing_held ≡ 5
  pub indirect : base_price (Some (BranchRegister Bclr 20 0 false)) 0x10000004 nothing_held ≡ 11
  pub call : base_price (Some SystemCall) 0x10000008 nothing_held ≡ 51
  pub illegal : base_price None 0x10000000 nothing_held ≡ 1
  pub drop_live : move_price (2 ^ 3) (in_ebx 3) (Drop 0) ≡ 3
  pub drop_dead : move_price (2 ^ 4) (in_ebx 3) (Drop 0) ≡ 0
  pub take_live : move_price (2 ^ 3) nothing_held (Take 1 3) ≡ 3
  pub take_dead : move_price (2 ^ 4) nothing_held (Take 1 3) ≡ 0
  pub moves : moves_between (3 ∷ []) (nothing_held ∷ in_ebx 3 ∷ [])
      ≡ unpriced_move nothing_held (Take 0 3) ∷ unpriced_move nothing_held (Take 1 3) ∷ unpriced_move nothing_held (Take 2 3) ∷ unpriced_move (in_ebx 3) (Drop 0) ∷ []
