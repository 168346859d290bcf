-- The bodies of here-documents as what the table knows of them.
use Rattle.std.proofs.Common.{◌≡◌, ℕ, zero, suc, Bool, true, false, List, [], ◌∷◌, ◌++◌, Option, Some, None, refl, sym, ap, subst, ◌∙◌}
use Rattle.std.specs.Prelude.{◌&&◌}
use Rattle.std.specs.List.{list_all}
use Rattle.std.proofs.lemmas.Bool.{true≢false, false≢true}
use Rattle.std.proofs.lemmas.List.{append-nil}
use Rattle.text_grammar.specs.Grammar.{rule, step}
use Rattle.text_grammar.specs.Derivations.{At}
use Rattle.text_grammar.specs.Values.{vals, kids}
use Rattle.text_grammar.specs.Later.{Later, vals_twice}
use Rattle.text_grammar.specs.Language.{IsShallow}
use Rattle.text_grammar.proofs.Twice.{vals_twice_complete}
use Rattle.sh_grammar.specs.Shape as shape
use Rattle.sh_grammar.specs.Shape.{no_part, part, plain}
use Rattle.sh_grammar.specs.Bytes.{Text, in_body, gap}
use Rattle.sh_grammar.specs.Tokens.{code, token, front, is_token}
use Rattle.sh_grammar.specs.Expansions.{◌>>=◌}
use Rattle.sh_grammar.specs.State.{State, Node, start_at, word_node, word_in, parts_in}
use Rattle.sh_grammar.specs.Table.{body_parts, ends}
use Rattle.sh_grammar.specs.Steps.{Known, run_step, literal_parts, expanded_parts, is_empty}
use Rattle.sh_grammar.specs.Spelling.{Lang, sh}
use Rattle.sh_grammar.proofs.Known.{known_in, expand_in, sh_knows, allows_in}
use Rattle.sh_grammar.proofs.Ends.{sh_ends}
use Rattle.sh_printing.specs.Marks.{blank}
use Rattle.sh_printing.specs.Spellable.{ends_with, keeps}
use Rattle.sh_printing.specs.Printing.{part_text, parts_text, parts_open, continued, behind_opening, part_opens}
use Rattle.sh_printing.specs.Printable.{literal_body, ends_line, is_body_byte}
use Rattle.sh_printing.proofs.BackSays.{Says, silent_step, ◌then◌, by_rule, to_state}
use Rattle.sh_printing.proofs.BackDue.{Due, st, after}
use Rattle.sh_printing.proofs.BackBytes.{both}
use Rattle.sh_printing.proofs.BackHere.{is_lines}
use Rattle.sh_printing.proofs.BackWords.{Parts}
use Rattle.sh_printing.proofs.BackLines.{clean}
use Rattle.sh_printing.proofs.BackNamed.{body_of, parts_bodies, parts_closed}
use Rattle.sh_printing.proofs.BackNodes.{part_nodes, parts_back}
use Rattle.sh_printing.proofs.BackSteps.{after_clean}

later_in : (m : ℕ) → Later (λ (bodies : List Text). sh m bodies) []
later_in m = record { ends = λ a. sh_ends m a; allows = λ a. allows_in m a }

body_shallow : (m : ℕ) (bodies : List Text) → IsShallow (sh m bodies) (rule body_parts)
unfolding sh
body_shallow zero bodies = refl
body_shallow (suc m) bodies = refl

end_says : (k : Known) (d : ℕ) (f : List Text) → Says k (step ends) (st d [] (clean f) []) (st d [] (clean f) []) []
unfolding run_step is_token token gap front code
end_says k d f = silent_step refl

-- the parts of a body, as the table reads it
pub body_says : (k : Known) (d : ℕ) (w : shape.Parts) (t : Text) → Parts k in_body d [] (clean []) (after (parts_open w) (clean []) (parts_bodies w)) t [] (part_nodes w) → Says k (rule body_parts) (start_at d t) (st d [] (clean (parts_bodies w)) []) (word_node w ∷ [])
body_says k d w t a =
    let e : after (parts_open w) (clean []) (parts_bodies w) ≡ clean (parts_bodies w) = after_clean (parts_open w) [] (parts_bodies w) (parts_closed w) in
    by_rule body_parts (ap (λ (z : List Node). word_node (parts_in z) ∷ []) (append-nil (part_nodes w)) ∙ ap (λ (z : shape.Parts). word_node z ∷ []) (parts_back w))
    (to_state (ap (λ (z : Due). st d [] z []) e) a then end_says k d (parts_bodies w))

bind_word : (o : Option (List Node × State)) (f : List Node × State → Option (List Node × State)) (y : List Node × State) → Rattle.text_grammar.specs.Reading.◌>>=◌ o f ≡ Some y → (o >>= λ x. f x >>= λ y. Some (word_in y.0)) ≡ Some (word_in y.0)
bind_word None f y e = absurd cc
bind_word (Some x) f y e = ap (λ (p : Option (List Node × State)). p >>= λ y. Some (word_in y.0)) e

-- a body of bodies at most m deep is what it was printed from
pub expand_back : (m d : ℕ) (w : shape.Parts) (t : Text) → Says (known_in m (parts_bodies w)) (rule body_parts) (start_at d t) (st d [] (clean (parts_bodies w)) []) (word_node w ∷ []) → expand_in m d t ≡ Some w
unfolding vals_twice
expand_back m d w t a =
    let bs = parts_bodies w in
    let s = start_at d t in
    let e = st d [] (clean bs) [] in
    let h : At (sh m bs) a.tree (rule body_parts) s e = subst (λ (l : Lang). At l a.tree (rule body_parts) s e) (sym (sh_knows m bs)) a.spelled in
    let v = vals_twice_complete (λ (bodies : List Text). sh m bodies) (λ (x : State). x.found) [] (later_in m) a.tree (rule body_parts) s e (λ b. body_shallow m b) h in
    let x : kids (sh m bs) a.tree ≡ word_node w ∷ [] = ap (λ (l : Lang). kids l a.tree) (sh_knows m bs) ∙ a.says in
    bind_word (vals (sh m []) (rule body_parts) s) (λ y. vals (sh m y.1.found) (rule body_parts) s) (kids (sh m bs) a.tree, e) v ∙ ap (λ (z : List Node). Some (word_in z)) x

-- ---- a body's text

lines_more : (a b : Text) → is_empty b ≡ false → ends_with 10 b ≡ true → ends_with 10 (a ++ b) ≡ true
lines_more [] b s e = e
lines_more (x ∷ []) [] s e = absurd (true≢false s)
lines_more (x ∷ []) (y ∷ b) s e = e
lines_more (x ∷ y ∷ a) b s e = lines_more (y ∷ a) b s e

ends_some : (t : Text) → ends_with 10 t ≡ true → is_empty t ≡ false
ends_some [] e = absurd (false≢true e)
ends_some (b ∷ bs) e = refl

last_line : (text : Text) → ends_with 10 text ≡ true → ends_with 10 (text ++ []) ≡ true
last_line text e = ap (ends_with 10) (append-nil text) ∙ e

-- the text of parts that end with a newline does
parts_lines : (opening : Text) (ps : shape.Parts) → ends_line ps ≡ true → (ps ≡ no_part → ⊥) → ends_with 10 (parts_text true in_body opening ps) ≡ true
parts_lines opening no_part e n = absurd (n refl)
parts_lines opening (part (plain text) no_part) e n = last_line text e
parts_lines opening (part (shape.exact text) no_part) e n = absurd (false≢true e)
parts_lines opening (part (shape.double qs) no_part) e n = absurd (false≢true e)
parts_lines opening (part shape.tilde no_part) e n = absurd (false≢true e)
parts_lines opening (part (shape.param p o) no_part) e n = absurd (false≢true e)
parts_lines opening (part (shape.subst s) no_part) e n = absurd (false≢true e)
parts_lines opening (part (shape.arith x ws) no_part) e n = absurd (false≢true e)
parts_lines opening (part p (part r rs)) e n =
    let h = parts_lines (behind_opening (part_opens p) opening) (part r rs) e (λ i. absurd cc) in
    lines_more (part_text true in_body opening (continued (part r rs)) p) (parts_text true in_body (behind_opening (part_opens p) opening) (part r rs)) (ends_some _ h) h

is_lines_of : (t : Text) → ends_with 10 t ≡ true → is_lines t ≡ true
is_lines_of [] e = refl
is_lines_of (b ∷ bs) e = e

pub body_lines : (w : shape.Parts) → ends_line w ≡ true → is_lines (body_of w) ≡ true
body_lines no_part e = refl
body_lines (part p ps) e = is_lines_of (body_of (part p ps)) (parts_lines blank (part p ps) e (λ i. absurd cc))

pub some_body : (p : shape.Part) (ps : shape.Parts) → ends_line (part p ps) ≡ true → is_empty (body_of (part p ps)) ≡ false
some_body p ps e = ends_some _ (parts_lines blank (part p ps) e (λ i. absurd cc))

-- what is known of a body that isn't empty
expanded_some : (k : Known) (d : ℕ) (t : Text) → is_empty t ≡ false → expanded_parts k d t ≡ k.expand d t
expanded_some k d [] e = absurd (true≢false e)
expanded_some k d (b ∷ bs) e = refl

-- the parts of a body that is expanded
pub expanded_back : (m d : ℕ) (ds : List Text) (w : shape.Parts) → ends_line w ≡ true → Says (known_in m (parts_bodies w)) (rule body_parts) (start_at d (body_of w)) (st d [] (clean (parts_bodies w)) []) (word_node w ∷ []) → expanded_parts (known_in (suc m) ds) d (body_of w) ≡ Some w
expanded_back m d ds no_part e a = refl
expanded_back m d ds (part p ps) e a = expanded_some (known_in (suc m) ds) d (body_of (part p ps)) (some_body p ps e) ∙ expand_back m d (part p ps) (body_of (part p ps)) a

-- ---- one that isn't expanded

pub record LiteralBody (i : Bool) (w : shape.Parts) : Type 0 where
  pub lines : is_lines (body_of w) ≡ true
  pub bytes : list_all is_body_byte (body_of w) ≡ true
  pub is : literal_parts (body_of w) ≡ w

literal_text : (text : Text) → ends_with 10 text ≡ true → literal_parts text ≡ part (plain text) no_part
literal_text [] e = absurd (false≢true e)
literal_text (b ∷ bs) e = refl

pub literal_back : (i : Bool) (w : shape.Parts) → literal_body i w ≡ true → LiteralBody i w
literal_back i no_part e = record { lines = refl; bytes = refl; is = refl }
literal_back i (part (plain text) no_part) e =
    let x = both (ends_with 10 text && list_all is_body_byte text) (keeps i text) e in
    let y = both (ends_with 10 text) (list_all is_body_byte text) x.0 in
    let n = append-nil text in
    record { lines = subst (λ (z : Text). is_lines z ≡ true) (sym n) (is_lines_of text y.0); bytes = subst (λ (z : Text). list_all is_body_byte z ≡ true) (sym n) y.1; is = ap literal_parts n ∙ literal_text text y.0 }
literal_back i (part (plain text) (part p ps)) e = absurd cc
literal_back i (part (shape.exact text) ps) e = absurd cc
literal_back i (part (shape.double qs) ps) e = absurd cc
literal_back i (part shape.tilde ps) e = absurd cc
literal_back i (part (shape.param p o) ps) e = absurd cc
literal_back i (part (shape.subst s) ps) e = absurd cc
literal_back i (part (shape.arith x ws) ps) e = absurd cc
