-- Literal words, part by part: the word is a text exactly where nothing stands behind its parts.
use Rattle.std.proofs.Common.{◌≡◌, ℕ, Bool, true, false, not, ◌&&◌, ◌||◌, [], ◌∷◌, ◌++◌, length, Option, Some, None, refl, sym, ap, ◌∙◌, append_assoc, arith}
use Rattle.std.specs.Prelude.{◌==◌, if◌then◌else◌, map, codes}
use Rattle.std.specs.List.{list_all, list_any}
use Rattle.std.proofs.lemmas.Bool.Decides.{nat_tests}
use Rattle.span_text.specs.KnownNames.{same_text}
use Rattle.shell_world.specs.Texts.{Text}
use Rattle.shell_world.specs.Paths.{behind}
use Rattle.sh_grammar.specs.Shape.{plain, exact, double, tilde, param, subst, arith as sum, Parts, no_part, part}
use Rattle.sh_syntax.specs.declared.tree.Word.{Word, out-Word}
use Rattle.sh_syntax.specs.View.{view_part, view_word, parts_of}
use Rattle.sh_syntax.proofs.Views.{word_is}
use Rattle.sh_meaning.specs.Simple.{is_literal_export, literal_inside, literal_text}
use Rattle.sh_meaning.specs.builtins.Forms.{list_of_parts}
use Rattle.sh_meaning.specs.builtins.Literals.{is_active, is_literal, is_literal_part, is_text}
use Rattle.sh_checks.specs.Roles.{behind_inside, behind_parts, then_behind}
use Rattle.std.proofs.lemmas.List.{append-nil}

-- whether what stands behind is this text
abbrev same_behind : Option Text → Text → Bool
same_behind None u = false
same_behind (Some r) u = same_text r u

and_false : (a : Bool) → (a && false) ≡ false
and_false true = refl
and_false false = refl

-- ---- fronts

front_step : (b c : ℕ) (t w u : Text) (same : Bool) → (b == c) ≡ same → (same_text w (t ++ u) ≡ same_behind (behind t w) u) → same_text (c ∷ w) (b ∷ (t ++ u)) ≡ same_behind (if b == c then behind t w else None) u
front_step b c t w u true is next = let e : (c == b) ≡ true = grind (arith, nat_tests, is) in rw (is, e) next
front_step b c t w u false is next = let e : (c == b) ≡ false = grind (arith, nat_tests, is) in rw (is, e) refl

front_same : (t w u : Text) → same_text w (t ++ u) ≡ same_behind (behind t w) u
front_same [] w u = refl
front_same (b ∷ t) [] u = refl
front_same (b ∷ t) (c ∷ w) u = front_step b c t w u (b == c) refl (front_same t w u)

front_is_step : (b c : ℕ) (t w r : Text) (same : Bool) → (b == c) ≡ same → (behind t w ≡ Some r → w ≡ t ++ r) → (if b == c then behind t w else None) ≡ Some r → c ∷ w ≡ b ∷ (t ++ r)
front_is_step b c t w r true is next found = let e : b ≡ c = grind (arith, nat_tests, is) in rw e (ap (λ x. c ∷ x) (next (rw is at found)))
front_is_step b c t w r false is next found = absurd (grind (arith, rw is at found))

front_is : (t w r : Text) → behind t w ≡ Some r → w ≡ t ++ r
front_is [] w r is = grind (arith, is)
front_is (b ∷ t) [] r is = absurd (grind (arith, is))
front_is (b ∷ t) (c ∷ w) r is = front_is_step b c t w r (b == c) refl (front_is t w r) is

text_step : (text lits w u : Text) (all : Bool) (next : Text → Option Text) (found : Option Text) → behind text w ≡ found → ((r : Text) → w ≡ text ++ r → (all && same_text r (lits ++ u)) ≡ same_behind (next r) u) → (all && same_text w ((text ++ lits) ++ u)) ≡ same_behind (then_behind (behind text w) next) u
text_step text lits w u all next None is further = rw (append_assoc text lits u, front_same text w (lits ++ u), is) (and_false all)
text_step text lits w u all next (Some r) is further = rw (append_assoc text lits u, front_same text w (lits ++ u), is) (further r (front_is text w r is))

text_is : (text lits w r : Text) (next : Text → Option Text) (found : Option Text) → behind text w ≡ found → ((s : Text) → next s ≡ Some r → s ≡ lits ++ r) → then_behind (behind text w) next ≡ Some r → w ≡ (text ++ lits) ++ r
text_is text lits w r next None is further left = absurd (grind (arith, rw is at left))
text_is text lits w r next (Some s) is further left = front_is text w s is ∙ ap (λ x. text ++ x) (further s (rw is at left)) ∙ sym (append_assoc text lits r)

-- ---- between double quotes

inside_same : (ps : Parts) (w u : Text) → (list_all is_text (list_of_parts ps) && same_text w (literal_inside ps ++ u)) ≡ same_behind (behind_inside ps w) u
inside_same no_part w u = refl
inside_same (part (plain text) ps) w u = text_step text (literal_inside ps) w u (list_all is_text (list_of_parts ps)) (behind_inside ps) (behind text w) refl (λ r is. inside_same ps r u)
inside_same (part (exact text) ps) w u = text_step text (literal_inside ps) w u (list_all is_text (list_of_parts ps)) (behind_inside ps) (behind text w) refl (λ r is. inside_same ps r u)
inside_same (part (double qs) ps) w u = refl
inside_same (part tilde ps) w u = refl
inside_same (part (param p op) ps) w u = refl
inside_same (part (subst script) ps) w u = refl
inside_same (part (sum e ws) ps) w u = refl

inside_is : (ps : Parts) (w r : Text) → behind_inside ps w ≡ Some r → w ≡ literal_inside ps ++ r
inside_is no_part w r is = grind (arith, is)
inside_is (part (plain text) ps) w r is = text_is text (literal_inside ps) w r (behind_inside ps) (behind text w) refl (λ s left. inside_is ps s r left) is
inside_is (part (exact text) ps) w r is = text_is text (literal_inside ps) w r (behind_inside ps) (behind text w) refl (λ s left. inside_is ps s r left) is
inside_is (part (double qs) ps) w r is = absurd (grind (arith, is))
inside_is (part tilde ps) w r is = absurd (grind (arith, is))
inside_is (part (param p op) ps) w r is = absurd (grind (arith, is))
inside_is (part (subst script) ps) w r is = absurd (grind (arith, is))
inside_is (part (sum e ws) ps) w r is = absurd (grind (arith, is))

-- ---- texts in which no byte begins a pattern

or_more : (a b c : Bool) → ((a || b) || c) ≡ (a || (b || c))
or_more true b c = refl
or_more false b c = refl

any_joined : (t r : Text) → list_any is_active (t ++ r) ≡ (list_any is_active t || list_any is_active r)
any_joined [] r = refl
any_joined (b ∷ t) r = ap (λ x. is_active b || x) (any_joined t r) ∙ sym (or_more (is_active b) (list_any is_active t) (list_any is_active r))

neither_first : (a b : Bool) → (a || b) ≡ false → a ≡ false
neither_first true b is = is
neither_first false b is = refl

neither_second : (a b : Bool) → (a || b) ≡ false → b ≡ false
neither_second true b is = absurd (grind (arith, is))
neither_second false b is = is

calm_front : (w t r : Text) → w ≡ t ++ r → list_any is_active w ≡ false → list_any is_active t ≡ false
calm_front w t r is calm = neither_first (list_any is_active t) (list_any is_active r) (sym (any_joined t r) ∙ rw is at calm)

calm_rest : (w t r : Text) → w ≡ t ++ r → list_any is_active w ≡ false → list_any is_active r ≡ false
calm_rest w t r is calm = neither_second (list_any is_active t) (list_any is_active r) (sym (any_joined t r) ∙ rw is at calm)

plain_step : (text lits w u : Text) (all : Bool) (next : Text → Option Text) (found : Option Text) → behind text w ≡ found → list_any is_active w ≡ false → ((r : Text) → w ≡ text ++ r → (all && same_text r (lits ++ u)) ≡ same_behind (next r) u) → ((not (list_any is_active text) && all) && same_text w ((text ++ lits) ++ u)) ≡ same_behind (then_behind (behind text w) next) u
plain_step text lits w u all next None is calm further = rw (append_assoc text lits u, front_same text w (lits ++ u), is) (and_false (not (list_any is_active text) && all))
plain_step text lits w u all next (Some r) is calm further = rw (append_assoc text lits u, front_same text w (lits ++ u), is, calm_front w text r (front_is text w r is) calm) (further r (front_is text w r is))

and_turned : (a b c : Bool) → ((a && b) && c) ≡ (b && (a && c))
and_turned true true c = refl
and_turned true false c = refl
and_turned false true c = refl
and_turned false false c = refl

double_step : (qs : Parts) (lits w u : Text) (all : Bool) (next : Text → Option Text) (found : Option Text) → behind_inside qs w ≡ found → ((r : Text) → w ≡ literal_inside qs ++ r → (all && same_text r (lits ++ u)) ≡ same_behind (next r) u) → ((list_all is_text (list_of_parts qs) && all) && same_text w ((literal_inside qs ++ lits) ++ u)) ≡ same_behind (then_behind (behind_inside qs w) next) u
double_step qs lits w u all next None is further =
    rw (append_assoc (literal_inside qs) lits u, and_turned (list_all is_text (list_of_parts qs)) all (same_text w (literal_inside qs ++ (lits ++ u))), inside_same qs w (lits ++ u), is) (and_false all)
double_step qs lits w u all next (Some r) is further =
    rw (append_assoc (literal_inside qs) lits u, and_turned (list_all is_text (list_of_parts qs)) all (same_text w (literal_inside qs ++ (lits ++ u))), inside_same qs w (lits ++ u), is) (further r (inside_is qs w r is))

-- ---- words

parts_same : (ps : Parts) (w u : Text) → list_any is_active w ≡ false → (list_all is_literal_part (list_of_parts ps) && same_text w (literal_text ps ++ u)) ≡ same_behind (behind_parts ps w) u
parts_same no_part w u calm = refl
parts_same (part (plain text) ps) w u calm = plain_step text (literal_text ps) w u (list_all is_literal_part (list_of_parts ps)) (behind_parts ps) (behind text w) refl calm (λ r is. parts_same ps r u (calm_rest w text r is calm))
parts_same (part (exact text) ps) w u calm = text_step text (literal_text ps) w u (list_all is_literal_part (list_of_parts ps)) (behind_parts ps) (behind text w) refl (λ r is. parts_same ps r u (calm_rest w text r is calm))
parts_same (part (double qs) ps) w u calm = double_step qs (literal_text ps) w u (list_all is_literal_part (list_of_parts ps)) (behind_parts ps) (behind_inside qs w) refl (λ r is. parts_same ps r u (calm_rest w (literal_inside qs) r is calm))
parts_same (part tilde ps) w u calm = refl
parts_same (part (param p op) ps) w u calm = refl
parts_same (part (subst script) ps) w u calm = refl
parts_same (part (sum e ws) ps) w u calm = refl

same_none : (r : Text) → same_text r [] ≡ (length r == 0)
same_none [] = refl
same_none (b ∷ r) = grind (arith, nat_tests)

seen_export : (ps : Parts) → is_literal_export ps ≡ same_behind (behind_parts ps (codes "export")) []
unfolding is_literal
seen_export ps = ap (λ t. list_all is_literal_part (list_of_parts ps) && same_text (codes "export") t) (sym (append-nil (literal_text ps))) ∙ parts_same ps (codes "export") [] refl

word_export : (w : Word) → same_behind (behind_parts (parts_of (map view_part (out-Word w).parts)) (codes "export")) [] ≡ is_literal_export (view_word w)
word_export w = sym (ap is_literal_export (word_is w) ∙ seen_export (parts_of (map view_part (out-Word w).parts)))

pub no_export : (w : Word) → None ≡ behind_parts (parts_of (map view_part (out-Word w).parts)) (codes "export") → false ≡ is_literal_export (view_word w)
no_export w is = ap (λ (o : Option Text). same_behind o []) is ∙ word_export w

pub export_rest : (w : Word) (r : Text) → Some r ≡ behind_parts (parts_of (map view_part (out-Word w).parts)) (codes "export") → (length r == 0) ≡ is_literal_export (view_word w)
export_rest w r is = sym (same_none r) ∙ ap (λ (o : Option Text). same_behind o []) is ∙ word_export w
