-- One item more of a list.
use Rattle.std.proofs.Common.{◌≡◌, ℕ, ◌+◌, ◌<◌, ◌≤◌, Bool, not, ◌||◌, List, [], ◌∷◌, ◌++◌, drop, length, get_or, refl, sym, ap, ◌∙◌, append_assoc, Option, arith}
use Rattle.std.specs.Prelude.{◌==◌, map}
use Rattle.std.proofs.lemmas.Bool.Decides.{nat_tests}
use Rattle.std.proofs.lemmas.List.{drop_more}
use Rattle.shell_world.specs.Texts.{Text}
use Rattle.sh_syntax.specs.declared.tree.Assign.{Assign}
use Rattle.sh_syntax.specs.declared.tree.Part.{Part}
use Rattle.sh_syntax.specs.declared.tree.Word.{Word, out-Word}
use Rattle.sh_syntax.specs.View.{view_assign, view_part, view_part_kind, view_word, assigns_of, parts_of, words_of}
use Rattle.sh_syntax.proofs.Views.{assign_is, part_is, word_is}
use Rattle.sh_grammar.specs.Shape as shape
use Rattle.sh_meaning.specs.Lists.{depends, depends_part, depends_words}
use Rattle.sh_meaning.specs.Redirecting.{plain_text}
use Rattle.sh_meaning.specs.Simple.{has_assigns, names_of}
use Rattle.sh_checks.specs.Plain.{plain_of}
use Rattle.sh_checks.specs.Roles.{behind_inner, behind_inside, behind_part, behind_parts, then_behind}

pub next_item : {X : Type 0} (xs : List X) (i : ℕ) (x : X) → i < length xs → x ≡ get_or xs i x → drop i xs ≡ x ∷ drop (i + 1) xs
next_item {X} xs i x lt is = drop_more xs i x lt ∙ ap (λ (y : X). y ∷ drop (i + 1) xs) (sym is)

-- ---- assignments

pub some_assigns : (as' : List Assign) → has_assigns (assigns_of (map view_assign as')) ≡ not (length as' == 0)
some_assigns [] = refl
some_assigns (a ∷ as') = grind (arith, nat_tests)

pub names_next : (done : List Text) (as' : List Assign) (i : ℕ) (a : Assign) → i < length as' → a ≡ get_or as' i a → (done ++ a.name.text ∷ []) ++ names_of (assigns_of (map view_assign (drop (i + 1) as'))) ≡ done ++ names_of (assigns_of (map view_assign (drop i as')))
names_next done as' i a lt is =
    rw (next_item as' i a lt is, assign_is a) (append_assoc done (a.name.text ∷ []) (names_of (assigns_of (map view_assign (drop (i + 1) as')))))

-- ---- parts

plain_one : (p : shape.Part) (ps : shape.Parts) → plain_of p ≡ plain_text (shape.part p ps)
plain_one (shape.plain text) ps = refl
plain_one (shape.exact text) ps = refl
plain_one (shape.double qs) ps = refl
plain_one shape.tilde ps = refl
plain_one (shape.param q op) ps = refl
plain_one (shape.subst script) ps = refl
plain_one (shape.arith e ws) ps = refl

pub plain_first : (ps : List Part) (p : Part) → 1 ≤ length ps → p ≡ get_or ps 0 p → plain_of (view_part_kind p.kind) ≡ plain_text (parts_of (map view_part ps))
plain_first ps p lt is =
    let e : ps ≡ p ∷ drop 1 ps = next_item ps 0 p (omega (arith, lt)) is in
    ap plain_of (sym (part_is p)) ∙ plain_one (view_part p) (parts_of (map view_part (drop 1 ps))) ∙ ap (λ qs. plain_text (parts_of (map view_part qs))) (sym e)

pub uses_next : (names : List Text) (ps : List Part) (i : ℕ) (p : Part) (is : Bool) → i < length ps → p ≡ get_or ps i p → is ≡ depends_part names (view_part p) → depends names (parts_of (map view_part (drop i ps))) ≡ (is || depends names (parts_of (map view_part (drop (i + 1) ps))))
uses_next names ps i p is lt at' e = rw (next_item ps i p lt at', e) refl

pub word_uses_next : (names : List Text) (ws : List Word) (i : ℕ) (w : Word) (is : Bool) → i < length ws → w ≡ get_or ws i w → is ≡ depends names (parts_of (map view_part (out-Word w).parts)) → depends_words names (words_of (map view_word (drop i ws))) ≡ (is || depends_words names (words_of (map view_word (drop (i + 1) ws))))
word_uses_next names ws i w is lt at' e = rw (next_item ws i w lt at', word_is w, e) refl

-- ---- parts of a word, one by one

pub inside_next : (ps : List Part) (i : ℕ) (p : Part) (rest : Text) (found : Option Text) → i < length ps → p ≡ get_or ps i p → found ≡ behind_inner (view_part_kind p.kind) rest → behind_inside (parts_of (map view_part (drop i ps))) rest ≡ then_behind found (behind_inside (parts_of (map view_part (drop (i + 1) ps))))
inside_next ps i p rest found lt at' e = rw (next_item ps i p lt at', part_is p, e) refl

pub parts_next : (ps : List Part) (i : ℕ) (p : Part) (rest : Text) (found : Option Text) → i < length ps → p ≡ get_or ps i p → found ≡ behind_part (view_part_kind p.kind) rest → behind_parts (parts_of (map view_part (drop i ps))) rest ≡ then_behind found (behind_parts (parts_of (map view_part (drop (i + 1) ps))))
parts_next ps i p rest found lt at' e = rw (next_item ps i p lt at', part_is p, e) refl
