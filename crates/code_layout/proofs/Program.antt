-- What is put together of a program's words, blocks, table and code.
use Rattle.std.proofs.Common.{◌≡◌, ℕ, ◌+◌, ◌*◌, ◌<◌, List, length, slice_index, Option, sym, ap, ◌∙◌, subst}
use Rattle.machines.specs.Prelude.{Instr, Program}
use Rattle.branch_table.specs.declared.code.Code.{Code}
use Rattle.block_find.specs.Prelude.{address_of, AreBlocksOf, all_blocks}
use Rattle.block_find.specs.declared.block.Blocks.{Blocks}
use Rattle.code_words.specs.Words.{HasWords, first_of}
use Rattle.liveness.specs.Prelude.{Sets, AreLive}
use Rattle.plan_form.specs.declared.problem.Step.{Step}
use Rattle.code_layout.specs.Prelude.{ArePlansFor, AreDecodedAs, no_moves, Places, places_in, code_bytes, laying, BeginsAt, IsCodeFor, IsLaidFor}

pub code_for : (first entry : ℕ) (words : List ℕ) (decoded : List (Option Instr)) (blocks : Blocks) (live : Sets) (plans : List (List Step)) (area : ℕ) (table table' bytes bytes' : List ℕ) (p : Places) → AreDecodedAs words decoded → AreBlocksOf first entry words blocks →
    AreLive first words live → ArePlansFor first decoded (all_blocks blocks) plans →
    p ≡ places_in area first table' → table' ≡ table → bytes' ≡ bytes → bytes ≡ code_bytes (laying first decoded live (all_blocks blocks) plans) p (all_blocks blocks) →
    ((k : ℕ) → k < length words → BeginsAt (laying first decoded live (all_blocks blocks) plans) no_moves (area + 0x81000 + 5) (all_blocks blocks) (address_of first k) (slice_index table k)) →
    IsCodeFor first entry words live plans area table' bytes'
code_for first entry words decoded blocks live plans area table table' bytes bytes' p are are_blocks are_live are_plans places same made laid begins = record {
  decoded = decoded;
  are_decoded = are;
  blocks = blocks;
  are_blocks = are_blocks;
  are_live = are_live;
  are_plans = are_plans;
  laid = made ∙ laid ∙ ap (λ (q : Places). code_bytes (laying first decoded live (all_blocks blocks) plans) q (all_blocks blocks)) places;
  entries = subst (λ (t : List ℕ). (k : ℕ) → k < length words → BeginsAt (laying first decoded live (all_blocks blocks) plans) no_moves (area + 0x81000 + 5) (all_blocks blocks) (address_of first k) (slice_index t k)) (sym same) begins;
}

pub laid_for : (P : Program) (live : Sets) (plans : List (List Step)) (area first entry : ℕ) (code : Code) (words words' : List ℕ) → first ≡ first_of P → words' ≡ words → HasWords P (first_of P) words → P.entry ≡ first_of P + 4 * entry → entry < length words →
    IsCodeFor first entry words' live plans area code.entries code.bytes → length code.entries ≡ length words' → code.start ≡ slice_index code.entries entry → IsLaidFor P plans area code
laid_for P live plans area first entry code words words' here same has begins within laid count start = record {
  words = words;
  live = live;
  entry = entry;
  has = has;
  begins = begins;
  within = within;
  blocks = subst (λ (f : ℕ). IsCodeFor f entry words live plans area code.entries code.bytes) here (subst (λ (w : List ℕ). IsCodeFor first entry w live plans area code.entries code.bytes) same laid);
  count = subst (λ (w : List ℕ). length code.entries ≡ length w) same count;
  start = start;
}
