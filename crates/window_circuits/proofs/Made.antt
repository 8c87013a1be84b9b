-- What is made one after another, and of all that the Xors of a rule.
use Rattle.std.proofs.Common.{◌≡◌, ℕ, zero, suc, ◌+◌, ◌<◌, Bool, List, [], ◌∷◌, ◌++◌, length, refl, sym, ◌∙◌, ap, arith, add-one, get_or, slice_index_or, length-append}
use Rattle.std.specs.Prelude.{Option, Result, Ok, Err, IfOk, OnOk}
use Rattle.std.proofs.lemmas.List.{ext_get_or, get_or_default, get_or_append_left}
use Rattle.std.proofs.Math.Seq.{get_or-append_seam}
use Rattle.std.proofs.Math.Decide.{dec_lt}
use Rattle.word_kit.specs.Prelude.{Operations, WordMade}
use Rattle.circuit.specs.Prelude.{differences_made}
use Rattle.circuit.specs.WordsMade.{gates_operations}
use Rattle.circuit.specs.declared.gates.Gates.{Gates}
use Rattle.circuit.specs.declared.literals.Lit.{Lit}
use Rattle.circuit.specs.declared.nodes.Node.{Node}
use Rattle.chosen_inputs.specs.Pairs.{bit_pairs}
use Rattle.ia_codec.specs.declared.op.Op.{Op}
use Rattle.place_circuits.specs.Terms.{place_at, put_term, field_term}
use Rattle.place_circuits.specs.declared.fields.Field.{Field}
use Rattle.place_circuits.specs.declared.places.Places.{Places}
use Rattle.row_circuits.specs.BodyTerms.{BodyMade, line_made}
use Rattle.row_circuits.specs.WindowTerms.{WindowMade, row_made}
use Rattle.row_circuits.specs.declared.rows.WindowRow.{WindowRow}
use Rattle.row_circuits.specs.declared.lines.BodyLine.{BodyLine}
use Rattle.window_circuits.specs.Rules.{no_end}
use Rattle.window_circuits.specs.Runs.{no_row, no_line}
use Rattle.window_circuits.specs.Starts.{no_field}
use Rattle.window_circuits.specs.Terms.{PlacesMade, PairsMade, RunMade, words_of, inputs_term, start_bytes_term, window_start_term, homes_term, body_start_term, rows_made, lines_made, taken_term, accesses_paired, ends_term, pairs_term, run_term, rule_made}
use Rattle.window_circuits.specs.declared.pairs.End.{End}

abbrev placed_at : Places → List Node → PlacesMade
placed_at places held = record { places = places; held = held }

abbrev paired : List (Lit × Lit) → List Node → PairsMade
paired pairs held = record { pairs = pairs; held = held }

abbrev ran : WindowMade → BodyMade → RunMade
ran window body = record { window = record window { held = body.held }; body = body }

pub if_ok_with : {T E : Type 0} (P : Type 0) (Q R S : T → Type 0) (r : Result T E) → (P → (x : T) → Q x → R x → S x) → OnOk r P → IfOk r Q → IfOk r R → IfOk r S
if_ok_with P Q R S (Ok x) f p q r = f p x q r
if_ok_with P Q R S (Err e) f p q r = tt

length_words_of : (f : ℕ → List Lit) (n : ℕ) → length (words_of f n) ≡ n
unfolding words_of
length_words_of f zero = refl
length_words_of f (suc n) = length-append (words_of f n) (f n ∷ []) ∙ (let r = length_words_of f n in omega (arith, r))

at_words_of : (f : ℕ → List Lit) (n k : ℕ) → k < n → get_or (words_of f n) k [] ≡ f k
unfolding words_of
at_words_of f zero k h = absurd (omega arith)
at_words_of f (suc n) k h = let l = length_words_of f n in elim (dec_lt k n) [
  | yes lt ↦ get_or_append_left (words_of f n) (f n ∷ []) [] k (omega (arith, l, lt)) ∙ at_words_of f n k lt
  | no ge ↦ let e : k ≡ length (words_of f n) = omega (arith, l, ge, h) in let m : length (words_of f n) ≡ k = sym e in
      ap (λ j. get_or (words_of f n ++ f n ∷ []) j []) e ∙ get_or-append_seam (words_of f n) (f n) [] [] ∙ ap f (sym l ∙ m)
]

-- words that are there place by place
pub words_are : (words : List (List Lit)) (f : ℕ → List Lit) (n : ℕ) → length words ≡ n → ((k : ℕ) → k < n → slice_index_or words k [] ≡ f k) → words ≡ words_of f n
words_are words f n long h = ext_get_or [] words (words_of f n) (long ∙ sym (length_words_of f n)) (λ k l. let b : k < n = omega (arith, long, l) in h k b ∙ sym (at_words_of f n k b))

pub placed_same : (words other : List (List Lit)) (held held2 : List Node) → words ≡ other → held ≡ held2 → placed_at (record { words = words }) held ≡ placed_at (record { words = other }) held2
placed_same words other held held2 e f = rw (e, f) refl

module _ (ops : Operations (List Lit) Lit (List Node)) where
  pub homes_made_none : (homes : List Field) (inputs : Places) (h : List Node) → placed_at inputs h ≡ homes_term ops 0 homes inputs h
  unfolding homes_term
  homes_made_none homes inputs h = refl

  pub homes_made_more : (n : ℕ) (homes : List Field) (d : Field) (inputs : Places) (h : List Node) (places : Places) (held : List Node) (byte : WordMade (List Lit) (List Node)) (next : Places) → n < length homes
      → placed_at places held ≡ homes_term ops n homes inputs h → byte ≡ field_term ops (get_or homes n d) inputs held → next ≡ put_term (32 + n) byte.word places
      → placed_at next byte.held ≡ homes_term ops (n + 1) homes inputs h
  unfolding homes_term
  homes_made_more n homes d inputs h places held byte next l p q r =
      let same = get_or_default homes n d no_field l in
      rw add-one (ap (λ x. placed_at x byte.held) r
      ∙ ap (λ (b : WordMade (List Lit) (List Node)). placed_at (put_term (32 + n) b.word places) b.held) (q ∙ ap (λ f. field_term ops f inputs held) same)
      ∙ ap (λ (before : PlacesMade). let b = field_term ops (get_or homes n no_field) inputs before.held in placed_at (put_term (32 + n) b.word before.places) b.held) p)

  pub rows_made_none : (rows : List WindowRow) (bytes : List (List Lit)) (window : WindowMade) → window ≡ rows_made ops 0 rows bytes window
  unfolding rows_made
  rows_made_none rows bytes window = refl

  pub rows_made_more : (n : ℕ) (rows : List WindowRow) (d : WindowRow) (bytes : List (List Lit)) (window before after : WindowMade) → n < length rows
      → before ≡ rows_made ops n rows bytes window → after ≡ row_made Gates ops (get_or rows n d) bytes before → after ≡ rows_made ops (n + 1) rows bytes window
  unfolding rows_made
  rows_made_more n rows d bytes window before after l p q = rw add-one (q ∙ ap (λ r. row_made Gates ops r bytes before) (get_or_default rows n d no_row l) ∙ ap (row_made Gates ops (get_or rows n no_row) bytes) p)

  pub lines_made_none : (lines : List BodyLine) (bytes : List (List Lit)) (body : BodyMade) → body ≡ lines_made ops 0 lines bytes body
  unfolding lines_made
  lines_made_none lines bytes body = refl

  pub lines_made_more : (n : ℕ) (lines : List BodyLine) (d : BodyLine) (bytes : List (List Lit)) (body before after : BodyMade) → n < length lines
      → before ≡ lines_made ops n lines bytes body → after ≡ line_made Gates ops (get_or lines n d) bytes before → after ≡ lines_made ops (n + 1) lines bytes body
  unfolding lines_made
  lines_made_more n lines d bytes body before after l p q = rw add-one (q ∙ ap (λ r. line_made Gates ops r bytes before) (get_or_default lines n d no_line l) ∙ ap (line_made Gates ops (get_or lines n no_line) bytes) p)

  pub ends_made_none : (ends : List End) (window body : Places) (made : PairsMade) → made ≡ ends_term ops 0 ends window body made
  unfolding ends_term
  ends_made_none ends window body made = refl

  pub ends_made_more : (n : ℕ) (ends : List End) (d : End) (window body : Places) (made : PairsMade) (pairs : List (Lit × Lit)) (held : List Node) (from : WordMade (List Lit) (List Node)) (next : List (Lit × Lit)) → n < length ends
      → paired pairs held ≡ ends_term ops n ends window body made → from ≡ field_term ops (get_or ends n d).from window held → next ≡ pairs ++ bit_pairs 32 from.word (place_at body (get_or ends n d).to)
      → paired next from.held ≡ ends_term ops (n + 1) ends window body made
  unfolding ends_term
  ends_made_more n ends d window body made pairs held from next l p q r =
      let same = get_or_default ends n d no_end l in
      rw add-one (ap (λ x. paired x from.held) (r ∙ ap (λ (e : End). pairs ++ bit_pairs 32 from.word (place_at body e.to)) same)
      ∙ ap (λ (f : WordMade (List Lit) (List Node)). paired (pairs ++ bit_pairs 32 f.word (place_at body (get_or ends n no_end).to)) f.held) (q ∙ ap (λ (e : End). field_term ops e.from window held) same)
      ∙ ap (λ (before : PairsMade). let f = field_term ops (get_or ends n no_end).from window before.held in paired (before.pairs ++ bit_pairs 32 f.word (place_at body (get_or ends n no_end).to)) f.held) p)

  pub pairs_from : (take : Option Op) (ends : List End) (window : WindowMade) (body : BodyMade) (old : List (Lit × Lit)) (taken : PairsMade) (accesses : List (Lit × Lit)) (made : PairsMade)
      → taken ≡ taken_term ops take window.taken body old → accesses ≡ taken.pairs ++ accesses_paired window.accesses body.accesses
      → made ≡ ends_term ops (length ends) ends window.places body.places (paired accesses taken.held)
      → made ≡ pairs_term ops take ends window body old
  unfolding pairs_term
  pairs_from take ends window body old taken accesses made p q r =
      r ∙ ap (λ (ps : List (Lit × Lit)). ends_term ops (length ends) ends window.places body.places (paired ps taken.held)) q
      ∙ ap (λ (m : PairsMade). ends_term ops (length ends) ends window.places body.places (paired (m.pairs ++ accesses_paired window.accesses body.accesses) m.held)) p

  pub run_from : (rows : List WindowRow) (lines : List BodyLine) (widths : List ℕ) (homes : List Field) (h : List Node) (inputs : PlacesMade) (bytes : List (List Lit)) (start : BodyMade) (window : WindowMade) (body : BodyMade)
      → inputs ≡ inputs_term widths h → bytes ≡ start_bytes_term inputs.places → start ≡ body_start_term ops homes inputs.places inputs.held
      → window ≡ rows_made ops (length rows) rows bytes (window_start_term ops inputs.places start.held)
      → body ≡ lines_made ops (length lines) lines bytes (record start { held = window.held })
      → ran window body ≡ run_term ops rows lines widths homes h
  unfolding run_term
  run_from rows lines widths homes h inputs bytes start window body p q r s t =
      ap (ran window) t
      ∙ ap (λ (z : WindowMade). ran z (lines_made ops (length lines) lines bytes (record start { held = z.held }))) s
      ∙ ap (λ (z : BodyMade). let w = rows_made ops (length rows) rows bytes (window_start_term ops inputs.places z.held) in ran w (lines_made ops (length lines) lines bytes (record z { held = w.held }))) r
      ∙ ap (λ (z : List (List Lit)). let y = body_start_term ops homes inputs.places inputs.held in let w = rows_made ops (length rows) rows z (window_start_term ops inputs.places y.held) in ran w (lines_made ops (length lines) lines z (record y { held = w.held }))) q
      ∙ ap (λ (i : PlacesMade). let y = body_start_term ops homes i.places i.held in let w = rows_made ops (length rows) rows (start_bytes_term i.places) (window_start_term ops i.places y.held) in ran w (lines_made ops (length lines) lines (start_bytes_term i.places) (record y { held = w.held }))) p

pub rule_from : (eq : Node → Node → Bool) (rows : List WindowRow) (lines : List BodyLine) (take : Option Op) (widths : List ℕ) (homes : List Field) (ends : List End) (run : RunMade) (made : PairsMade)
    → run ≡ run_term (gates_operations eq) rows lines widths homes [] → made ≡ pairs_term (gates_operations eq) take ends run.window run.body []
    → differences_made eq made.held made.pairs ≡ rule_made eq rows lines take widths homes ends
unfolding rule_made
rule_from eq rows lines take widths homes ends run made p q = ap (λ (m : PairsMade). differences_made eq m.held m.pairs) (q ∙ ap (λ (r : RunMade). pairs_term (gates_operations eq) take ends r.window r.body []) p)
