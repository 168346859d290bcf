-- Functions that were read fit: their names are no reserved words.
use Rattle.std.proofs.Common.{◌≡◌, ℕ, Bool, true, false, cond, List, [], ◌∷◌, ◌++◌, Option, Some, None, refl, sym, ap, subst, ◌∙◌}
use Rattle.std.specs.Prelude.{◌||◌, ◌&&◌, not, ◌==◌}
use Rattle.std.proofs.lemmas.Bool.{false≢true}
use Rattle.span_text.specs.Names.{begins_name, continues_name, is_digit}
use Rattle.sh_grammar.specs.Shape as shape
use Rattle.sh_grammar.specs.Shape.{no_redirect}
use Rattle.sh_grammar.specs.Bytes.{Text, in_word, is_join, comment_end, gap, starts, with_byte, run_from, is_plain, is_literal, literal_run, begins_unit, has_single, has_double, unit_starts, name_run, digit_run}
use Rattle.sh_grammar.specs.Tokens.{Op, Open, Word, Io, Other, code, front, token, is_token, bare, digits_word, word_at, is_angle, name_next, function_next, opens, name_at, opens_compound, is_other_key}
use Rattle.sh_grammar.specs.State.{State, Node, text_node, command_node, text_in, command_in}
use Rattle.sh_grammar.specs.Steps.{Known}
use Rattle.sh_grammar.specs.Table.{body}
use Rattle.sh_grammar.specs.Table as table
use Rattle.sh_grammar.specs.Acts.{act}
use Rattle.sh_grammar.proofs.Tools.{chosen_by}
use Rattle.sh_printing.specs.Spellable.{is_reserved_text}
use Rattle.sh_printing.proofs.BackBytes.{both, isnt, neither, joins}
use Rattle.sh_printing.proofs.BackSimple.{name_byte}
use Rattle.sh_printing.proofs.BackTokens.{front_word}
use Rattle.sh_printing.proofs.BackWordFronts.{solid_front}
use Rattle.sh_printing.proofs.ExactParams.{run_each}
use Rattle.sh_printing.proofs.ExactRules.{Sat}
use Rattle.sh_printing.proofs.ExactStates.{Fine}
use Rattle.sh_printing.proofs.ExactSteps.{nothing_said, skip}
use Rattle.sh_printing.proofs.ExactClaims.{Says}
use Rattle.sh_printing.proofs.ExactFirst.{reserved_is}
use Rattle.sh_printing.proofs.ExactCompound.{named}
use Rattle.sh_grammar.specs.Tokens as tokens

-- ---- what stands before a parenthesis

abbrev NoOpen : Op × Text → Type 0
NoOpen x = (code x.0 == 7) ≡ false

newline_front : (b : ℕ) (bs : Text) → (b == 10) ≡ true → NoOpen (front (b ∷ bs))
unfolding front code
newline_front b bs e = rw e refl

comment_no_open : (t : Text) → NoOpen (front (comment_end t))
unfolding comment_end front code
comment_no_open [] = refl
comment_no_open (b ∷ bs) = chosen_by (λ (z : Text). NoOpen (front z)) (b == 10) (b ∷ bs) (comment_end bs) (λ e. newline_front b bs e) (λ e. comment_no_open bs)

word_no_open : (t : Text) → NoOpen (word_at t)
unfolding code
word_no_open t =
    chosen_by NoOpen (starts is_digit t) _ _
    (λ e. chosen_by NoOpen (starts is_angle (digit_run t).1) _ _ (λ f. chosen_by NoOpen (Rattle.std.specs.Prelude.length (digit_run t).0 == 1) _ _ (λ g. refl) (λ g. refl)) (λ f. refl))
    (λ e. refl)

hash_35 : (bs : Text) → gap (35 ∷ bs) ≡ comment_end bs
unfolding gap
hash_35 [] = refl
hash_35 (c ∷ cs) = refl

hash_gap : (b : ℕ) (bs : Text) → (b == 35) ≡ true → gap (b ∷ bs) ≡ comment_end bs
unfolding gap
hash_gap b bs e = subst (λ (z : ℕ). gap (z ∷ bs) ≡ comment_end bs) (sym (Rattle.std.proofs.Common.eqb-true b 35 e)) (hash_35 bs)

unit_no_open_at : (b : ℕ) (bs : Text) (p : Bool) → (b == 35) ≡ p → begins_unit in_word b ≡ true → is_join b bs ≡ false → NoOpen (front (gap (b ∷ bs)))
unfolding gap
unit_no_open_at b bs true p u j = subst (λ (z : Text). NoOpen (front z)) (sym (hash_gap b bs p)) (comment_no_open bs)
unit_no_open_at b bs false p u j = subst (λ (z : Text). NoOpen (front z)) (sym (solid_front b bs u j p)) (subst NoOpen (sym (front_word b bs u)) (word_no_open (b ∷ bs)))

no_unit_at : (b : ℕ) (bs : Text) (u : Bool) → begins_unit in_word b ≡ u → is_join b bs ≡ false → (code (front (gap (b ∷ bs))).0 == code Open) ≡ true → u ≡ false
unfolding code
no_unit_at b bs true e j o = absurd (false≢true (sym (unit_no_open_at b bs (b == 35) refl e j) ∙ o))
no_unit_at b bs false e j o = refl

-- no part of a word begins before a parenthesis
open_no_unit : (t : Text) → joins t ≡ false → is_token Open t ≡ true → unit_starts in_word t ≡ false
unfolding is_token token unit_starts
open_no_unit [] j o = refl
open_no_unit (b ∷ bs) j o = no_unit_at b bs (begins_unit in_word b) refl j o

-- ---- a name before a parenthesis is all that stands for itself

no_literal : (b : ℕ) (bs : Text) → begins_unit in_word b ≡ false → is_literal in_word b bs ≡ false
unfolding begins_unit is_literal
no_literal b bs e =
    let u = neither (is_plain in_word b || b == 36 || b == 92 || (b == 39 && has_single in_word)) (b == 34 && has_double in_word) e in
    let v = neither (is_plain in_word b || b == 36 || b == 92) (b == 39 && has_single in_word) u.0 in
    let w = neither (is_plain in_word b || b == 36) (b == 92) v.0 in
    let x = neither (is_plain in_word b) (b == 36) w.0 in
    rw (x.0, x.1, w.1) refl

name_literal : (b : ℕ) (bs : Text) → continues_name b ≡ true → is_literal in_word b bs ≡ true
unfolding is_literal
name_literal b bs e = rw (name_byte b e) refl

abbrev SameRun : Bool → Text → Type 0
SameRun q t = unit_starts in_word (run_from (λ b bs. continues_name b) q t).1 ≡ false → run_from (is_literal in_word) q t ≡ run_from (λ b bs. continues_name b) q t

same_byte_at : (b : ℕ) (bs : Text) (c : Bool) → continues_name b ≡ c → SameRun false bs →
    unit_starts in_word (cond c (with_byte b (run_from (λ b bs. continues_name b) false bs)) ([], b ∷ bs)).1 ≡ false →
    cond (is_literal in_word b bs) (with_byte b (run_from (is_literal in_word) false bs)) ([], b ∷ bs) ≡ cond c (with_byte b (run_from (λ b bs. continues_name b) false bs)) ([], b ∷ bs)
unfolding unit_starts
same_byte_at b bs true e h u = rw (name_literal b bs e) (ap (with_byte b) (h u))
same_byte_at b bs false e h u = rw (no_literal b bs u) refl

same_join : (b : ℕ) (bs : Text) (p : Bool) → SameRun true bs → SameRun false bs →
    unit_starts in_word (cond p (run_from (λ b bs. continues_name b) true bs) (cond (continues_name b) (with_byte b (run_from (λ b bs. continues_name b) false bs)) ([], b ∷ bs))).1 ≡ false →
    cond p (run_from (is_literal in_word) true bs) (cond (is_literal in_word b bs) (with_byte b (run_from (is_literal in_word) false bs)) ([], b ∷ bs)) ≡
    cond p (run_from (λ b bs. continues_name b) true bs) (cond (continues_name b) (with_byte b (run_from (λ b bs. continues_name b) false bs)) ([], b ∷ bs))
same_join b bs true h i u = h u
same_join b bs false h i u = same_byte_at b bs (continues_name b) refl i u

same_run : (q : Bool) (t : Text) → SameRun q t
same_run true [] u = refl
same_run false [] u = refl
same_run true (b ∷ bs) u = same_run false bs u
same_run false (b ∷ bs) u = same_join b bs (is_join b bs) (same_run true bs) (same_run false bs) u

name_bare : (g : Text) → unit_starts in_word (name_run g).1 ≡ false → literal_run in_word g ≡ name_run g
unfolding literal_run name_run
name_bare g u = same_run false g u

name_ends : (g : Text) → joins (name_run g).1 ≡ false
unfolding name_run
name_ends g = (run_each continues_name false g).free

name_run_at : (p : Bool) (x y : Text × Text) → cond p (Some x) None ≡ Some y → x ≡ y
name_run_at true x y e = cc
name_run_at false x y e = absurd cc

-- what was read as a name
name_run_is : (g n r : Text) → name_at g ≡ Some (n, r) → name_run g ≡ (n, r)
unfolding name_at
name_run_is g n r e = name_run_at (starts begins_name g) (name_run g) (n, r) e

-- a function's name
function_name : (t n r : Text) → function_next t ≡ true → name_at (gap t) ≡ Some (n, r) → is_reserved_text n ≡ false
unfolding function_next name_next
function_name t n r f e =
    let x = both (is_token Word t && not (opens_compound t || is_other_key t)) (opens (name_at (gap t))) f in
    let y = isnt (opens_compound t || is_other_key t) (both (is_token Word t) (not (opens_compound t || is_other_key t)) x.0).1 in
    let o : is_token Open r ≡ true = subst (λ (z : Option (Text × Text)). opens z ≡ true) e x.1 in
    let run = name_run_is (gap t) n r e in
    let free : joins r ≡ false = subst (λ (z : Text × Text). joins z.1 ≡ false) run (name_ends (gap t)) in
    let unit = open_no_unit r free o in
    let literal : literal_run in_word (gap t) ≡ (n, r) = name_bare (gap t) (subst (λ (z : Text × Text). unit_starts in_word z.1 ≡ false) (sym run) unit) ∙ run in
    sym (reserved_is t n (ap (λ (z : Text × Text). z.0) literal) (subst (λ (z : Text × Text). unit_starts in_word z.1 ≡ false) (sym literal) unit)) ∙ y

pub function_rule : (k : Known) (i : Bool) (d : ℕ) (s e : State) (vs : List Node) → Sat k (Fine k i) (Says i) (body table.function_command) d s e vs → Says i table.function_command d s e (act table.function_command vs)
function_rule k i d s e vs a f =
    let b = a.rest in let g = b.rest in let h = g.rest in
    let n = named a.before in let c = h.rest.claim in
    let is : vs ≡ text_node n.name ∷ command_node c.one ∷ [] =
    a.is ∙ (ap (λ (z : List Node). z ++ a.others) n.is ∙ ap (λ (z : List Node). text_node n.name ∷ z)
    (skip b.is (nothing_said (table.op tokens.Open) refl b.before) ∙ (skip g.is (nothing_said (table.op tokens.Close) refl g.before) ∙ (skip h.is h.before.claim ∙ c.is)))) in
    record {
      one = shape.command (shape.function n.name c.one) no_redirect;
      is = ap (λ (z : List Node). command_node (shape.command (shape.function (text_in z) (command_in z)) no_redirect) ∷ []) is;
      fits = rw (n.fits, function_name s.bytes n.name a.middle.bytes f n.run, c.fits.0, c.fits.1) refl;
    }
