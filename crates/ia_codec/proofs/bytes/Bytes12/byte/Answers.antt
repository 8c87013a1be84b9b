use Rattle.std.proofs.Common.{◌≡◌, ◌+◌, ℕ, List, drop, set, ◌∙◌, sym, subst, arith}
use Rattle.std.specs.List.{All}
use Rattle.std.proofs.lemmas.List.{drop-set-lt, drop-drop}
use Rattle.std.proofs.lemmas.List.Elements.{All-drop}
use Rattle.ia_codec.proofs.bytes.Bytes12.byte.Goals as goal

abbrev IsZero : ℕ → Type 0
IsZero x = x ≡ 0

zeros_after : (bytes : List ℕ) (n value : ℕ) → All IsZero (drop n bytes) → All IsZero (drop (n + 1) (set bytes n value))
zeros_after bytes n value h =
    let e : drop (n + 1) (set bytes n value) ≡ drop 1 (drop n bytes) = drop-set-lt (n + 1) bytes n value (omega arith) ∙ sym (drop-drop 1 n bytes) in
    subst (All IsZero) (sym e) (All-drop IsZero 1 (drop n bytes) h)

pub returns-clause-clear : goal.returns-clause-clear
returns-clause-clear c = zeros_after c.args.self.bytes c.args.self.len c.args.value c.requires.clear
