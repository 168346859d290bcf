-- Words, assignments and redirections that are checked: the first one and those behind it.
use Rattle.std.proofs.Common.{◌≡◌, ℕ, suc, ◌+◌, ◌<◌, ◌≤◌, Bool, true, false, not, ◌&&◌, List, ◌∷◌, drop, refl, sym, ap, ◌∙◌, arith}
use Rattle.std.specs.Prelude.{map, nat_lt, Option}
use Rattle.std.proofs.lemmas.Bool.{ltb-true}
use Rattle.span_text.specs.Names.{is_name}
use Rattle.sh_grammar.specs.Bytes.{Context, in_double, in_word}
use Rattle.sh_grammar.specs.Shape as shape
use Rattle.sh_grammar.specs.Steps.{limit}
use Rattle.sh_printer.specs.Checks.{Splits, front_fits, target_fits}
use Rattle.sh_printer.specs.Weights.{parts_weight, redirects_weight}
use Rattle.sh_printer.specs.declared.checking.checks.Checks.{Checks}
use Rattle.sh_printing.specs.Printable.{assigns_fit, fd_fits, has_part, is_expansion, operand_fits, part_fits, parts_fit, patterns_fit, plain_begins, redirects_fit, value_fits, word_fits, words_fit}
use Rattle.sh_syntax.specs.declared.tree.Assign.{Assign}
use Rattle.sh_syntax.specs.declared.tree.Part.{Part}
use Rattle.sh_syntax.specs.declared.tree.Redirect.{Redirect}
use Rattle.sh_syntax.specs.declared.tree.Word.{Word, out-Word}
use Rattle.sh_syntax.specs.View.{view_assign, view_part, view_redirect, view_word, assigns_of, parts_of, redirects_of, words_of}
use Rattle.sh_syntax.proofs.Views.{word_is}

-- the same pieces under another spelling of what holds, and under a greater weight
pub splitting : (x y : Bool) (m n : ℕ) (split : Checks) → x ≡ y → m ≤ n → Splits x m split → Splits y n split
splitting x y m n split is le s = record {
  whole = s.whole ∙ is;
  first_less = omega (arith, s.first_less);
  second_less = omega (arith, s.second_less);
  rest_less = omega (arith, s.rest_less);
}

-- one level deeper, where there is room for it
under_by : (d e : ℕ) (f : ℕ → Bool) (room : Bool) → nat_lt d limit ≡ room → (d < limit → e ≡ suc d) → (room && f e) ≡ (room && f (suc d))
under_by d e f false is deep = refl
under_by d e f true is deep = ap f (deep (ltb-true d limit is))

pub under : (d e : ℕ) (f : ℕ → Bool) → (d < limit → e ≡ suc d) → (nat_lt d limit && f e) ≡ (nat_lt d limit && f (suc d))
under d e f deep = under_by d e f (nat_lt d limit) refl deep

under_with_by : (d e : ℕ) (b : Bool) (f : ℕ → Bool) (room : Bool) → nat_lt d limit ≡ room → (d < limit → e ≡ suc d) → (room && b && f e) ≡ (room && b && f (suc d))
under_with_by d e b f false is deep = refl
under_with_by d e b f true is deep = ap (λ (x : Bool). b && x) (ap f (deep (ltb-true d limit is)))

-- the same, where something else holds too
pub under_with : (d e : ℕ) (b : Bool) (f : ℕ → Bool) → (d < limit → e ≡ suc d) → (nat_lt d limit && b && f e) ≡ (nat_lt d limit && b && f (suc d))
under_with d e b f deep = under_with_by d e b f (nat_lt d limit) refl deep

under2_by : (d e : ℕ) (f g : ℕ → Bool) (room : Bool) → nat_lt d limit ≡ room → (d < limit → e ≡ suc d) → (room && f e && g e) ≡ (room && f (suc d) && g (suc d))
under2_by d e f g false is deep = refl
under2_by d e f g true is deep = ap (λ (i : ℕ). f i && g i) (deep (ltb-true d limit is))

-- of two things
pub under2 : (d e : ℕ) (f g : ℕ → Bool) → (d < limit → e ≡ suc d) → (nat_lt d limit && f e && g e) ≡ (nat_lt d limit && f (suc d) && g (suc d))
under2 d e f g deep = under2_by d e f g (nat_lt d limit) refl deep

under_with2_by : (d e : ℕ) (b : Bool) (f g : ℕ → Bool) (room : Bool) → nat_lt d limit ≡ room → (d < limit → e ≡ suc d) → (room && b && f e && g e) ≡ (room && b && f (suc d) && g (suc d))
under_with2_by d e b f g false is deep = refl
under_with2_by d e b f g true is deep = ap (λ (i : ℕ). b && f i && g i) (deep (ltb-true d limit is))

pub under_with2 : (d e : ℕ) (b : Bool) (f g : ℕ → Bool) → (d < limit → e ≡ suc d) → (nat_lt d limit && b && f e && g e) ≡ (nat_lt d limit && b && f (suc d) && g (suc d))
under_with2 d e b f g deep = under_with2_by d e b f g (nat_lt d limit) refl deep

-- ---- words

pub words_split : (inside : Bool) (d : ℕ) (ws : List Word) (w : Word) → ws ≡ w ∷ drop 1 ws → (word_fits inside d true (parts_of (map view_part (out-Word w).parts)) && words_fit inside d (words_of (map view_word (drop 1 ws)))) ≡ words_fit inside d (words_of (map view_word ws))
words_split inside d ws w e = ap (λ (p : shape.Parts). word_fits inside d true p && words_fit inside d (words_of (map view_word (drop 1 ws)))) (sym (word_is w)) ∙ sym (ap (λ (l : List Word). words_fit inside d (words_of (map view_word l))) e)

front_first : (inside : Bool) (d : ℕ) (spaced : Bool) (p : shape.Part) (ps : shape.Parts) → (front_fits inside d spaced ps p && parts_fit inside d in_word ps) ≡ word_fits inside d spaced (shape.part p ps)
front_first inside d spaced (shape.plain text) ps = refl
front_first inside d spaced (shape.exact text) ps = refl
front_first inside d spaced (shape.double qs) ps = refl
front_first inside d spaced shape.tilde ps = refl
front_first inside d spaced (shape.param p o) ps = refl
front_first inside d spaced (shape.subst s) ps = refl
front_first inside d spaced (shape.arith e ws) ps = refl

pub word_split : (inside : Bool) (d : ℕ) (spaced : Bool) (ps : List Part) (p : Part) → ps ≡ p ∷ drop 1 ps → (front_fits inside d spaced (parts_of (map view_part (drop 1 ps))) (view_part p) && parts_fit inside d in_word (parts_of (map view_part (drop 1 ps)))) ≡ word_fits inside d spaced (parts_of (map view_part ps))
word_split inside d spaced ps p e = front_first inside d spaced (view_part p) (parts_of (map view_part (drop 1 ps))) ∙ sym (ap (λ (l : List Part). word_fits inside d spaced (parts_of (map view_part l))) e)

pub parts_split : (inside : Bool) (d : ℕ) (c : Context) (ps : List Part) (p : Part) → ps ≡ p ∷ drop 1 ps → (part_fits inside d c (parts_of (map view_part (drop 1 ps))) (view_part p) && parts_fit inside d c (parts_of (map view_part (drop 1 ps)))) ≡ parts_fit inside d c (parts_of (map view_part ps))
parts_split inside d c ps p e = sym (ap (λ (l : List Part). parts_fit inside d c (parts_of (map view_part l))) e)

pub operand_split : (inside : Bool) (d : ℕ) (ps : List Part) (p : Part) → ps ≡ p ∷ drop 1 ps → (is_expansion (view_part p) && not (has_part (parts_of (map view_part (drop 1 ps)))) && part_fits inside d in_double (parts_of (map view_part (drop 1 ps))) (view_part p)) ≡ operand_fits inside d (parts_of (map view_part ps))
operand_split inside d ps p e = sym (ap (λ (l : List Part). operand_fits inside d (parts_of (map view_part l))) e)

pub patterns_split : (inside : Bool) (d : ℕ) (ws : List Word) (w : Word) → ws ≡ w ∷ drop 1 ws → (has_part (parts_of (map view_part (out-Word w).parts)) && not (plain_begins 35 (parts_of (map view_part (out-Word w).parts))) && parts_fit inside d in_word (parts_of (map view_part (out-Word w).parts)) && patterns_fit inside d (words_of (map view_word (drop 1 ws)))) ≡ patterns_fit inside d (words_of (map view_word ws))
patterns_split inside d ws w e = ap (λ (p : shape.Parts). has_part p && not (plain_begins 35 p) && parts_fit inside d in_word p && patterns_fit inside d (words_of (map view_word (drop 1 ws)))) (sym (word_is w)) ∙ sym (ap (λ (l : List Word). patterns_fit inside d (words_of (map view_word l))) e)

pub assigns_split : (inside : Bool) (d : ℕ) (as' : List Assign) (a : Assign) → as' ≡ a ∷ drop 1 as' → (is_name (view_assign a).0 && value_fits inside d (view_assign a).1 && assigns_fit inside d (assigns_of (map view_assign (drop 1 as')))) ≡ assigns_fit inside d (assigns_of (map view_assign as'))
assigns_split inside d as' a e = sym (ap (λ (l : List Assign). assigns_fit inside d (assigns_of (map view_assign l))) e)

-- ---- redirections

target_first : (inside : Bool) (d : ℕ) (fd : Option ℕ) (op : shape.RedirectOp) (w : shape.Parts) (rs : shape.Redirects) → (fd_fits fd && target_fits inside d op w && redirects_fit inside d rs) ≡ redirects_fit inside d (shape.redirect fd op w rs)
target_first inside d fd shape.read w rs = refl
target_first inside d fd shape.write w rs = refl
target_first inside d fd shape.append w rs = refl
target_first inside d fd shape.here_literal w rs = refl
target_first inside d fd shape.here_expanded w rs = refl
target_first inside d fd shape.copy_in w rs = refl
target_first inside d fd shape.copy_out w rs = refl

pub redirects_split : (inside : Bool) (d : ℕ) (rs : List Redirect) (r : Redirect) → rs ≡ r ∷ drop 1 rs → (fd_fits (view_redirect r).fd && target_fits inside d (view_redirect r).op (view_redirect r).word && redirects_fit inside d (redirects_of (map view_redirect (drop 1 rs)))) ≡ redirects_fit inside d (redirects_of (map view_redirect rs))
redirects_split inside d rs r e = target_first inside d (view_redirect r).fd (view_redirect r).op (view_redirect r).word (redirects_of (map view_redirect (drop 1 rs))) ∙ sym (ap (λ (l : List Redirect). redirects_fit inside d (redirects_of (map view_redirect l))) e)

pub redirects_weigh : (rs : List Redirect) (r : Redirect) → rs ≡ r ∷ drop 1 rs → redirects_weight (redirects_of (map view_redirect rs)) ≡ 20 + (parts_weight (view_redirect r).word + redirects_weight (redirects_of (map view_redirect (drop 1 rs))))
redirects_weigh rs r e = ap (λ (l : List Redirect). redirects_weight (redirects_of (map view_redirect l))) e
