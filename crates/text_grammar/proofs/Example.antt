-- The example is a language, and four of its texts.
use Rattle.std.proofs.Common.{◌≡◌, ℕ, suc, ◌+◌, ◌≤◌, Bool, true, false, cond, List, [], ◌∷◌, ◌++◌, length, drop, Option, Some, None, refl, ap, inl, inr, arith}
use Rattle.std.specs.Prelude.{take, nat_le, ◌==◌}
use Rattle.std.specs.List.{prefix_len}
use Rattle.std.proofs.lemmas.List.{length-drop}
use Rattle.text_grammar.specs.Grammar.{Leaf, quiet, said, step, star, rule, ◌then◌}
use Rattle.text_grammar.specs.Ranks.{takes, shallow, small}
use Rattle.text_grammar.specs.Language.{Ends, one_if}
use Rattle.text_grammar.specs.Reading.{parse, read}
use Rattle.text_grammar.specs.Values.{vals, go, done}
use Rattle.text_grammar.specs.Place.{IsPlace, IsPiece, PieceAt, front, front_in}
use Rattle.text_grammar.specs.Example.{Step, opens, closes, letters, ends, Rule, text, item, word, brackets, Bytes, a_word, a_list, no_item, an_item, Value, letters_of, item_of, byte, cut, is_letter, run_step, holds, act, at_item, step_takes, example}
use Rattle.text_grammar.proofs.Rules.{rule_go}
use Rattle.text_grammar.proofs.Loops.{Loop, Loop-more}
use Rattle.text_grammar.proofs.Pieces.{front_place_at}
use Rattle.text_grammar.proofs.Tools.{chosen, some_is}

-- ---- what it owes

byte_fits : (k : ℕ) (bs m : Bytes) (x : Leaf Value) → byte k bs ≡ Some (x, m) → length m + 1 ≤ length bs
byte_fits k [] m x e = absurd cc
byte_fits k (b ∷ bs) m x e = elim (chosen (b == k) (Some (quiet, bs)) None (Some (x, m)) e) [
  | inl c ↦ let same : bs ≡ m = ap (λ (y : Leaf Value × Bytes). y.1) (some_is (quiet, bs) (x, m) c.1) in rw (← same) (omega arith)
  | inr c ↦ absurd cc
]

letters_fit_at : (b : ℕ) (bs m : Bytes) (x : Leaf Value) (t : Bool) → cond t (cut (cond t (1 + prefix_len is_letter bs) 0) (b ∷ bs)) None ≡ Some (x, m) → length m + 1 ≤ length (b ∷ bs)
letters_fit_at b bs m x true e =
    let n = 1 + prefix_len is_letter bs in
    let same : drop n (b ∷ bs) ≡ m = ap (λ (y : Leaf Value × Bytes). y.1) (some_is (said (letters_of (take n (b ∷ bs))), drop n (b ∷ bs)) (x, m) e) in
    let k = length-drop n (b ∷ bs) in rw (← same) (omega arith)
letters_fit_at b bs m x false e = absurd cc

letters_fit : (bs m : Bytes) (x : Leaf Value) → run_step letters bs ≡ Some (x, m) → length m + 1 ≤ length bs
letters_fit [] m x e = absurd cc
letters_fit (b ∷ bs) m x e = letters_fit_at b bs m x (is_letter b) e

step_fits : (p : Step) (bs m : Bytes) (x : Leaf Value) → run_step p bs ≡ Some (x, m) → length m + one_if (step_takes p) ≤ length bs
step_fits opens bs m x e = byte_fits 40 bs m x e
step_fits closes bs m x e = byte_fits 41 bs m x e
step_fits letters bs m x e = letters_fit bs m x e
step_fits ends [] m x e = let same : [] ≡ m = ap (λ (y : Leaf Value × Bytes). y.1) (some_is (quiet, []) (x, m) e) in rw (← same) (omega arith)
step_fits ends (b ∷ bs) m x e = absurd cc

rule_takes : (r : Rule) → takes example.ranks (example.body r) ≡ example.ranks.rule_takes r
unfolding example
rule_takes text = refl
rule_takes item = refl
rule_takes word = refl
rule_takes brackets = refl

rule_shallow : (r : Rule) → shallow example.ranks (example.body r) (example.ranks.rank r) ≡ true
unfolding example
rule_shallow text = refl
rule_shallow item = refl
rule_shallow word = refl
rule_shallow brackets = refl

rule_small : (r : Rule) → small example.ranks (example.body r) ≡ true
unfolding example
rule_small text = refl
rule_small item = refl
rule_small word = refl
rule_small brackets = refl

rank_below : (r : Rule) → nat_le (suc (example.ranks.rank r)) example.ranks.levels ≡ true
unfolding example
rank_below text = refl
rank_below item = refl
rank_below word = refl
rank_below brackets = refl

pub example_ends : Ends example
unfolding example
example_ends = record {
  step_fits = step_fits;
  rule_takes = rule_takes;
  rule_shallow = rule_shallow;
  rule_small = rule_small;
  weighs = refl;
  rank_below = rank_below;
}

-- ---- texts that are read

-- `ab`
words : vals example (rule text) (97 ∷ 98 ∷ []) ≡ Some (item_of (a_word (97 ∷ 98 ∷ [])) ∷ [], [])
unfolding example vals read parse
words = refl

-- `a(b)`
nested : vals example (rule text) (97 ∷ 40 ∷ 98 ∷ 41 ∷ []) ≡ Some (item_of (a_word (97 ∷ [])) ∷ item_of (a_list (an_item (a_word (98 ∷ [])) no_item)) ∷ [], [])
unfolding example vals read parse
nested = refl

-- `(a` has no end
open_bracket : vals example (rule text) (40 ∷ 97 ∷ []) ≡ None
unfolding example vals read parse
open_bracket = refl

-- `a)`: the front is the first word, and the place is that of the bracket
stray_bracket : front example.size (vals example (rule item)) (97 ∷ 41 ∷ []) ≡ 41 ∷ []
unfolding example front front_in vals read parse
stray_bracket = refl

item_is_piece : IsPiece example (rule item)
unfolding example
item_is_piece = (refl, refl)

-- so the place of the error in `a)` is 1
stray_place : IsPlace (PieceAt example (rule item)) (97 ∷ 41 ∷ []) (λ bs. length bs) 2 1
stray_place = front_place_at example example_ends (rule item) item_is_piece (97 ∷ 41 ∷ []) (λ bs. length bs) 2 1 (ap (λ (bs : Bytes). 1 + length bs) stray_bracket)

-- ---- as code reads it, one function a rule

brackets_go : (bs : Bytes) → vals example (rule brackets) bs ≡ done (act brackets) (go run_step holds (vals example) (step opens then star at_item (rule item) then step closes) [] bs)
unfolding example
brackets_go bs = rule_go example example_ends brackets bs

-- a turn of the loop over items
items_more : {X : Type 0} (view : X → List Value) (total : Option (List Value × Bytes)) (n : ℕ) (bs m : Bytes) (front : List X) (x : X) → holds at_item bs ≡ true → vals example (rule item) bs ≡ Some (view x, m) →
    Loop (λ s. length s) (vals example (star at_item (rule item))) view total n bs front → Loop (λ s. length s) (vals example (star at_item (rule item))) view total n m (front ++ x ∷ [])
unfolding example
items_more view total n bs m front x = Loop-more example example_ends view at_item (rule item) total n bs m front x refl
