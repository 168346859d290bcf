-- A search for a line, byte by byte.
use Rattle.std.proofs.Common.{◌≡◌, ℕ, ◌+◌, Bool, true, false, [], ◌∷◌, ◌++◌, drop, Option, Some, None, refl, sym, ap, ◌∙◌, Bor}
use Rattle.std.specs.Prelude.{if◌then◌else◌}
use Rattle.std.proofs.lemmas.List.{drop-drop}
use Rattle.sh_grammar.specs.Bytes.{Text}
use Rattle.sh_printer.specs.declared.search.Search.{Search}
use Rattle.sh_printing.specs.Delimiters.{Sight, sight, next_sight, one_more, goes_on}
use Rattle.sh_printer.specs.Search.{sight_of, Passed}

one_more_drops : (b : ℕ) (xs : Text) → goes_on b (Some xs) ≡ true → one_more b (Some xs) ≡ Some (drop 1 xs)
one_more_drops b [] is = absurd cc
one_more_drops b (c ∷ cs) is = rw is refl

-- of the name, what is still to come behind a byte that is the next one
pub goes_further : (name : Text) (same : Bool) (at b : ℕ) → goes_on b (if same then Some (drop at name) else None) ≡ true → one_more b (if same then Some (drop at name) else None) ≡ (if same then Some (drop (at + 1) name) else None)
goes_further name true at b is = one_more_drops b (drop at name) is ∙ ap (λ (l : Text). Some l) (drop-drop 1 at name)
goes_further name false at b is = absurd cc

pub stays_out : (b : ℕ) (rest : Option Text) → goes_on b rest ≡ false → one_more b rest ≡ None
stays_out b None is = refl
stays_out b (Some []) is = refl
stays_out b (Some (c ∷ cs)) is = rw is refl

pub sight_then : (name : Text) (s : Sight) (xs : Text) (b : ℕ) → sight name s (xs ++ b ∷ []) ≡ next_sight name (sight name s xs) b
unfolding sight
sight_then name s [] b = refl
sight_then name s (x ∷ xs) b = sight_then name (next_sight name s x) xs b

pub sight_append : (name : Text) (s : Sight) (xs ys : Text) → sight name s (xs ++ ys) ≡ sight name (sight name s xs) ys
unfolding sight
sight_append name s [] ys = refl
sight_append name s (x ∷ xs) ys = sight_append name (next_sight name s x) xs ys

pub passed_none : (s : Search) → Passed s s []
unfolding sight
passed_none s = record { sees = refl; name = refl; writes = refl }

pub passed_then : (s t u : Search) (xs : Text) (b : ℕ) → Passed s t xs → sight_of u ≡ next_sight t.name.now (sight_of t) b → u.name ≡ t.name → u.writes ≡ t.writes → Passed s u (xs ++ b ∷ [])
passed_then s t u xs b p e n w = record {
  sees = e ∙ ap (λ (name : Bor Text). next_sight name.now (sight_of t) b) p.name ∙ ap (λ (v : Sight). next_sight s.name.now v b) p.sees ∙ sym (sight_then s.name.now (sight_of s) xs b);
  name = n ∙ p.name;
  writes = w ∙ p.writes;
}
