-- Where plans fail first. This project's own.
use Rattle.std.specs.Prelude.{◌≡◌, ◌⊎◌, ℕ, ◌+◌, ◌*◌, ◌<◌, ◌≤◌, Bool, nat_lt, List, [], ◌∷◌, length, take, Option, Some, None, slice_get, slice_index_or}
use Rattle.std.specs.List.{sum_by}
use Rattle.block_find.specs.declared.block.Block.{Block}
use Rattle.block_find.specs.declared.block.Blocks.{Blocks}
use Rattle.block_find.specs.Prelude.{AreBlocksOf, all_blocks, block_at}
use Rattle.code_words.specs.Words.{HasWords, first_of}
use Rattle.code_layout.specs.Prelude.{no_registers}
use Rattle.liveness.specs.Prelude.{Sets, AreLive}
use Rattle.machines.specs.Prelude.{Program}
use Rattle.offer_make.specs.Problem.{IsProblemOf}
use Rattle.plan_form.specs.declared.problem.BlockPlan.{BlockPlan}
use Rattle.plan_form.specs.declared.problem.Problem.{Problem}
use Rattle.plan_form.specs.declared.problem.Step.{Step}
use Rattle.plan_form.specs.declared.problem.BadLabel.{BadLabel}
use Rattle.plan_form.specs.Prelude.{Node, Leads, Leaves, Certifies, IsFull, IsValidPlan, IsShaped, entry_node, exit_node, last, values_of}
use Rattle.plan_form.specs.Faults.{IsFirstBad}
use Rattle.plan_form.specs.Labels.{CertifyPlan}
use Rattle.plan_verify.specs.declared.fault.PlanFault.{PlanFault}
use Rattle.plan_verify.specs.declared.fault.PlanFault.TheVariants.{Bad, Memory}

abbrev pub IsMemory : PlanFault → Type 0
IsMemory (Bad block place) = ⊥
IsMemory (Memory none) = Unit {0}

-- the plan is said to be of this block, and to begin and end with no GPR in a register
pub record IsHeaded (block : Block) (b : BlockPlan) : Type 0 where
  pub at : b.at ≡ block.at
  pub words : b.words ≡ length block.words
  pub entry : b.entry ≡ no_registers
  pub exit : b.exit ≡ no_registers

-- the step leads nowhere from the node, with so many moves in a row to begin with
abbrev pub LeadsNowhere : Problem → ℕ → Node → Step → Type 0
LeadsNowhere q moves u step = (price after : ℕ) (v : Node) → Leads q u step price v → Leaves moves step after → ⊥

-- the first step that leads nowhere starts at the place, or all steps lead on and stop there, before the last node
abbrev pub Sticks : Problem → ℕ → Node → List Step → ℕ → Type 0
Sticks q moves u [] place = ¬ (u ≡ exit_node q) × (place ≡ u.place)
Sticks q moves u (step ∷ steps) place =
    (LeadsNowhere q moves u step × (place ≡ u.place))
    ⊎ ((price : ℕ) × (after : ℕ) × (v : Node) × Leads q u step price v × Leaves moves step after × Sticks q after v steps place)

-- The place has as many labels as it needs: one for each map, at the last place one; and no list stands past that.
pub record IsCounted (q : Problem) (values : List (List ℕ)) (place : ℕ) : Type 0 where
  pub before : place < last q → length (slice_index_or values place []) ≡ length q.maps.items
  pub at_end : place ≡ last q → length (slice_index_or values place []) ≡ 1
  pub past : last q < place → length values ≤ place

-- it is the first one that has not
pub record IsMiscounted (q : Problem) (values : List (List ℕ)) (place : ℕ) : Type 0 where
  pub fails : ¬ (IsCounted q values place)
  pub first : (k : ℕ) → k < place → IsCounted q values k

-- the labels fail first at the place: the start label, then each edge, then the end
abbrev pub IsMislabelled : Problem → List Step → List (List ℕ) → ℕ → Type 0
IsMislabelled q steps values place = (bad : BadLabel) × IsFirstBad q steps values bad × (place ≡ bad.place)

-- what is tried behind the header, in order: the steps, the number of labels per place, the labels
abbrev pub FailsWithin : Problem → List Step → List (List ℕ) → ℕ → Type 0
FailsWithin q steps values place =
    Sticks q 6 (entry_node q) steps place
    ⊎ (((cost : ℕ) × IsValidPlan q steps cost) × (IsMiscounted q values place ⊎ (IsShaped q values × IsMislabelled q steps values place)))

-- the plan of the block fails behind its header
pub record FailsBehind (live : Sets) (block : Block) (leader : Bool) (b : BlockPlan) (place : ℕ) : Type 0 where
  pub headed : IsHeaded block b
  pub problem : Problem
  pub is_problem : IsProblemOf block no_registers no_registers leader live problem
  pub fails : FailsWithin problem b.plan.steps.items (values_of b.labels) place

-- the plan of the block fails first at the place; a header fails at place 0
abbrev pub FailsAt : Sets → Block → Bool → BlockPlan → ℕ → Type 0
FailsAt live block leader b place = (¬ (IsHeaded block b) × (place ≡ 0)) ⊎ FailsBehind live block leader b place

-- the label of the last place
abbrev pub end_label : BlockPlan → ℕ
end_label b = slice_index_or (slice_index_or (values_of b.labels) b.words []) 0 0

-- The plan is of the block, valid and certified. It costs what its last label says, and no valid plan of the block costs less.
pub record IsGood (live : Sets) (block : Block) (leader : Bool) (b : BlockPlan) : Type 0 where
  pub headed : IsHeaded block b
  pub problem : Problem
  pub is_problem : IsProblemOf block no_registers no_registers leader live problem
  pub is_full : IsFull problem
  pub shaped : IsShaped problem (values_of b.labels)
  pub valid : IsValidPlan problem b.plan.steps.items (end_label b)
  pub certified : Certifies problem (values_of b.labels) (end_label b)
  pub least : (steps : List Step) (cost : ℕ) → IsValidPlan problem steps cost → end_label b ≤ cost

-- each of the first n blocks has a plan, and this is good
abbrev pub AreGoodBelow : Sets → Blocks → List BlockPlan → ℕ → Type 0
AreGoodBelow live blocks plans n = (k : ℕ) → k < n
    → (b : BlockPlan) × (slice_get plans k ≡ Some b) × IsGood live (block_at (all_blocks blocks) k) (nat_lt k (length blocks.leaders)) b

-- there is a plan for each block, in order, and no more, and each is good
pub record AreGood (live : Sets) (blocks : Blocks) (plans : List BlockPlan) : Type 0 where
  pub count : length plans ≡ length (all_blocks blocks)
  pub each : AreGoodBelow live blocks plans (length (all_blocks blocks))

-- a block without a plan and a plan without a block fail at place 0
abbrev pub FailsFor : Sets → Blocks → ℕ → Option BlockPlan → ℕ → Type 0
FailsFor live blocks n None place = (n < length (all_blocks blocks)) × (place ≡ 0)
FailsFor live blocks n (Some b) place =
    ((n ≡ length (all_blocks blocks)) × (place ≡ 0))
    ⊎ ((n < length (all_blocks blocks)) × FailsAt live (block_at (all_blocks blocks) n) (nat_lt n (length blocks.leaders)) b place)

-- the first failure: at the block of this number, and there at this place
pub record IsFirstFailure (live : Sets) (blocks : Blocks) (plans : List BlockPlan) (number place : ℕ) : Type 0 where
  pub before : AreGoodBelow live blocks plans number
  pub fails : FailsFor live blocks number (slice_get plans number) place

-- among the blocks, a fault is the first failure; want of memory says nothing
abbrev pub IsFaultIn : Sets → Blocks → List BlockPlan → PlanFault → Type 0
IsFaultIn live blocks plans (Bad number place) = IsFirstFailure live blocks plans number place
IsFaultIn live blocks plans (Memory none) = Unit {0}

-- what the leaders' plans cost together
abbrev pub leaders_cost : Blocks → List BlockPlan → ℕ
leaders_cost blocks plans = sum_by end_label (take (length blocks.leaders) plans)

-- the blocks of a program, those of leaders and then the singles, and what is live before its code words
pub record HasBlocks (P : Program) (blocks : Blocks) (live : Sets) : Type 0 where
  pub words : List ℕ
  pub entry : ℕ
  pub has : HasWords P (first_of P) words
  pub begins : P.entry ≡ first_of P + 4 * entry
  pub are_blocks : AreBlocksOf (first_of P) entry words blocks
  pub are_live : AreLive (first_of P) words live

-- The plans are those of the program's blocks, in order, each valid and certified, and those of the leaders cost so much together.
pub record AreVerified (P : Program) (plans : List BlockPlan) (total : ℕ) : Type 0 where
  pub blocks : Blocks
  pub live : Sets
  pub have : HasBlocks P blocks live
  pub good : AreGood live blocks plans
  pub total_is : total ≡ leaders_cost blocks plans

-- The plans fail first at the block of this number among the program's, and there at this place.
pub record FailFirst (P : Program) (plans : List BlockPlan) (number place : ℕ) : Type 0 where
  pub blocks : Blocks
  pub live : Sets
  pub have : HasBlocks P blocks live
  pub first : IsFirstFailure live blocks plans number place

abbrev pub IsRefusal : Program → List BlockPlan → PlanFault → Type 0
IsRefusal P plans (Bad number place) = FailFirst P plans number place
IsRefusal P plans (Memory none) = Unit {0}

-- a plan that is certified fails nowhere
abbrev pub CertifiedPlansDoNotFail : Type 0
CertifiedPlansDoNotFail = (q : Problem) (steps : List Step) (values : List (List ℕ)) (place : ℕ) → IsFull q → IsShaped q values → CertifyPlan q steps values
    → ¬ (FailsWithin q steps values place)
