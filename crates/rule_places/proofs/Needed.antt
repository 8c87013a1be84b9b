-- What a body is to leave, name by name. This project's own.
use Rattle.std.proofs.Common.{◌≡◌, ℕ, ◌+◌, ◌<◌, nat_lt, if◌then◌else◌, true, false, List, [], ◌∷◌, ◌++◌, get_or, refl, sym, ap, ◌∙◌, add-one, arith}
use Rattle.std.proofs.lemmas.List.{append-nil, get_or_default}
use Rattle.std.proofs.lemmas.Bool.Decides.{nat_tests}
use Rattle.symbolic_tiles.proofs.Small.{each_true}
use Rattle.window_circuits.specs.declared.pairs.End.{End}
use Rattle.window_circuits.specs.Rules.{IsEnd}
use Rattle.rule_body.specs.declared.goal.Goal.{Goal}
use Rattle.rule_places.specs.declared.ends.NamedEnd.{NamedEnd}
use Rattle.rule_places.specs.Ends.{named_end, named_ends, named_end_at, is_needed, ends_below}

-- the table by its numbers
pub table_at : (table : List NamedEnd) (n : ℕ) (d : NamedEnd) → table ≡ named_ends → n < 26 → get_or table n d ≡ named_end_at n
table_at table n d e lt = ap (λ t. get_or t n d) e ∙ get_or_default named_ends n d (named_end 0 0 0 32 0) lt

is_below : (k n : ℕ) → nat_lt k n ≡ true → k < n
is_below k n e = grind (arith, nat_tests)

pub name_fits : (n : ℕ) → n < 26 → (named_end_at n).name < 32
name_fits n lt = is_below _ 32 (each_true (λ k. nat_lt (named_end_at k).name 32) 26 n refl lt)

pub end_fits : (n : ℕ) → n < 26 → IsEnd (named_end_at n).end
end_fits n lt =
    let place = each_true (λ k. nat_lt (named_end_at k).end.from.place 64) 26 n refl lt in
    let some = each_true (λ k. nat_lt 0 (named_end_at k).end.from.count) 26 n refl lt in
    let within = each_true (λ k. nat_lt ((named_end_at k).end.from.low + (named_end_at k).end.from.count) 33) 26 n refl lt in
    let to = each_true (λ k. nat_lt (named_end_at k).end.to 64) 26 n refl lt in
    record { from = record { place = is_below _ 64 place; some = is_below 0 _ some; within = let w = is_below _ 33 within in omega (arith, w) }; to = is_below _ 64 to }

next_ends : (n : ℕ) (goal : Goal) → ends_below (n + 1) goal ≡ ends_below n goal ++ (if is_needed goal (named_end_at n).name then (named_end_at n).end ∷ [] else [])
unfolding ends_below
next_ends n goal = ap (λ k. ends_below k goal) (add-one n)

-- a name that is needed has its end there, and one that isn't has none
pub with_end : (n : ℕ) (goal : Goal) (xs : List End) → is_needed goal (named_end_at n).name ≡ true → xs ≡ ends_below n goal → xs ++ (named_end_at n).end ∷ [] ≡ ends_below (n + 1) goal
with_end n goal xs e same = ap (λ ys. ys ++ (named_end_at n).end ∷ []) same ∙ sym (next_ends n goal ∙ ap (λ b. ends_below n goal ++ (if b then (named_end_at n).end ∷ [] else [])) e)

pub without_end : (n : ℕ) (goal : Goal) (xs : List End) → is_needed goal (named_end_at n).name ≡ false → xs ≡ ends_below n goal → xs ≡ ends_below (n + 1) goal
without_end n goal xs e same = same ∙ sym (next_ends n goal ∙ ap (λ b. ends_below n goal ++ (if b then (named_end_at n).end ∷ [] else [])) e ∙ append-nil (ends_below n goal))
