-- What stands behind a part of a word.
use Rattle.std.proofs.Common.{◌≡◌, ℕ, Bool, true, false, [], ◌∷◌, ◌++◌, refl, sym, subst, append_assoc}
use Rattle.std.specs.Prelude.{◌&&◌, not}
use Rattle.span_text.specs.Names.{continues_name, begins_name}
use Rattle.sh_grammar.specs.Shape as shape
use Rattle.sh_grammar.specs.Shape.{plain, exact, double, tilde, param, subst as listing, arith, no_part, part}
use Rattle.sh_grammar.specs.Bytes.{Text, Context, in_word, in_double, in_body, in_brace, in_quoted_brace, in_body_brace, in_body_pattern, is_join, starts, expands, is_special_param, is_active, is_plain, has_single, has_double, is_literal, begins_unit, unit_starts, fill_context, trim_context}
use Rattle.sh_grammar.specs.Steps.{is_empty}
use Rattle.sh_printing.specs.Spellable.{is_literal_text, ends_with}
use Rattle.sh_printing.specs.Printing.{part_text, parts_text, continued, behind_opening, part_opens}
use Rattle.sh_printing.specs.Printable.{part_fits, parts_fit, plain_fits, is_plain_part, is_expansion, first_is}
use Rattle.sh_printing.proofs.BackBytes.{both, isnt, joins, no_join, Stops, goes_at, literal_joins}
use Rattle.sh_printing.proofs.BackParams.{Ends}
use Rattle.sh_printing.proofs.BackTokens.{Outside}
use Rattle.sh_printing.proofs.BackFronts.{part_marked, part_quotes, literal_unit}

-- what ends the parts of a place
pub record Closes (c : Context) (t : Text) : Type 0 where
  pub free : joins t ≡ false
  pub no_unit : unit_starts c t ≡ false
  pub no_literal : goes_at (is_literal c) t ≡ false
  pub no_expansion : starts expands t ≡ false
  pub no_name : starts continues_name t ≡ false

pub word_closes : (t : Text) → Outside t → Closes in_word t
word_closes t o = record { free = o.free; no_unit = o.no_unit; no_literal = o.no_literal; no_expansion = o.no_expansion; no_name = o.no_name }

pub double_closes : (t : Text) → Closes in_double (34 ∷ t)
unfolding unit_starts begins_unit is_literal is_plain is_active has_double has_single expands is_special_param begins_name continues_name
double_closes t = record { free = no_join 34 t refl; no_unit = refl; no_literal = refl; no_expansion = refl; no_name = refl }

pub body_closes : Closes in_body []
unfolding unit_starts
body_closes = record { free = refl; no_unit = refl; no_literal = refl; no_expansion = refl; no_name = refl }

pub fill_closes : (c : Context) (t : Text) → Closes (fill_context c) (125 ∷ t)
unfolding fill_context unit_starts begins_unit is_literal is_plain is_active has_double has_single expands is_special_param begins_name continues_name
fill_closes in_word t = record { free = no_join 125 t refl; no_unit = refl; no_literal = refl; no_expansion = refl; no_name = refl }
fill_closes in_double t = record { free = no_join 125 t refl; no_unit = refl; no_literal = refl; no_expansion = refl; no_name = refl }
fill_closes in_body t = record { free = no_join 125 t refl; no_unit = refl; no_literal = refl; no_expansion = refl; no_name = refl }
fill_closes in_brace t = record { free = no_join 125 t refl; no_unit = refl; no_literal = refl; no_expansion = refl; no_name = refl }
fill_closes in_quoted_brace t = record { free = no_join 125 t refl; no_unit = refl; no_literal = refl; no_expansion = refl; no_name = refl }
fill_closes in_body_brace t = record { free = no_join 125 t refl; no_unit = refl; no_literal = refl; no_expansion = refl; no_name = refl }
fill_closes in_body_pattern t = record { free = no_join 125 t refl; no_unit = refl; no_literal = refl; no_expansion = refl; no_name = refl }

pub trim_closes : (c : Context) (t : Text) → Closes (trim_context c) (125 ∷ t)
unfolding trim_context unit_starts begins_unit is_literal is_plain is_active has_double has_single expands is_special_param begins_name continues_name
trim_closes in_word t = record { free = no_join 125 t refl; no_unit = refl; no_literal = refl; no_expansion = refl; no_name = refl }
trim_closes in_double t = record { free = no_join 125 t refl; no_unit = refl; no_literal = refl; no_expansion = refl; no_name = refl }
trim_closes in_body t = record { free = no_join 125 t refl; no_unit = refl; no_literal = refl; no_expansion = refl; no_name = refl }
trim_closes in_brace t = record { free = no_join 125 t refl; no_unit = refl; no_literal = refl; no_expansion = refl; no_name = refl }
trim_closes in_quoted_brace t = record { free = no_join 125 t refl; no_unit = refl; no_literal = refl; no_expansion = refl; no_name = refl }
trim_closes in_body_brace t = record { free = no_join 125 t refl; no_unit = refl; no_literal = refl; no_expansion = refl; no_name = refl }
trim_closes in_body_pattern t = record { free = no_join 125 t refl; no_unit = refl; no_literal = refl; no_expansion = refl; no_name = refl }

-- ---- a plain part's facts

pub record PlainFits (c : Context) (behind : shape.Parts) (text : Text) : Type 0 where
  pub some : is_empty text ≡ false
  pub literal : is_literal_text c text ≡ true
  pub alone : first_is is_plain_part behind ≡ false
  pub no_dollar : ends_with 36 text ≡ true → first_is is_expansion behind ≡ false

not_and : (a b : Bool) → not (a && b) ≡ true → a ≡ true → b ≡ false
not_and true b e i = isnt b e
not_and false b e i = absurd cc

pub plain_facts : (c : Context) (behind : shape.Parts) (text : Text) → plain_fits c behind text ≡ true → PlainFits c behind text
plain_facts c behind text e =
    let x = both (not (is_empty text) && is_literal_text c text && not (first_is is_plain_part behind)) (not (ends_with 36 text && first_is is_expansion behind)) e in
    let y = both (not (is_empty text) && is_literal_text c text) (not (first_is is_plain_part behind)) x.0 in
    let z = both (not (is_empty text)) (is_literal_text c text) y.0 in
    record { some = isnt (is_empty text) z.0; literal = z.1; alone = isnt (first_is is_plain_part behind) y.1; no_dollar = λ i. not_and (ends_with 36 text) (first_is is_expansion behind) x.1 i }

-- ---- behind a part

-- the text of parts, with what stands behind them
abbrev pub parts_on : Context → Text → shape.Parts → Text → Text
parts_on c opening ps t = parts_text true c opening ps ++ t

pub parts_split : (c : Context) (opening : Text) (p : shape.Part) (ps : shape.Parts) (t : Text) →
    parts_on c opening (part p ps) t ≡ part_text true c opening (continued ps) p ++ parts_on c (behind_opening (part_opens p) opening) ps t
parts_split c opening p ps t = append_assoc (part_text true c opening (continued ps) p) (parts_text true c (behind_opening (part_opens p) opening) ps) t

-- a test of the first bytes
first_of : (P : Text → Type 0) (c : Context) (opening : Text) (p : shape.Part) (ps : shape.Parts) (t : Text) → ((z : Text) → P (part_text true c opening (continued ps) p ++ z)) → P (parts_on c opening (part p ps) t)
first_of P c opening p ps t h = subst P (sym (parts_split c opening p ps t)) (h (parts_on c (behind_opening (part_opens p) opening) ps t))

plain_free : (c : Context) (text z : Text) → is_empty text ≡ false → is_literal_text c text ≡ true → joins (text ++ z) ≡ false
plain_free c [] z s e = absurd cc
plain_free c (b ∷ bs) z s e = literal_joins c b bs z e

part_free : (i : Bool) (d : ℕ) (c : Context) (opening : Text) (behind : shape.Parts) (p : shape.Part) (z : Text) (plains : Bool) → is_plain_part p ≡ plains → part_fits i d c behind p ≡ true → joins (part_text true c opening (continued behind) p ++ z) ≡ false
part_free i d c opening behind (plain text) z plains x e = let f = plain_facts c behind text e in plain_free c text z f.some f.literal
part_free i d c opening behind (exact text) z plains x e = (part_marked i d c opening behind (exact text) z refl e).free
part_free i d c opening behind (double ps) z plains x e = (part_marked i d c opening behind (double ps) z refl e).free
part_free i d c opening behind tilde z plains x e = absurd cc
part_free i d c opening behind (param p o) z plains x e = (part_marked i d c opening behind (param p o) z refl e).free
part_free i d c opening behind (listing s) z plains x e = (part_marked i d c opening behind (listing s) z refl e).free
part_free i d c opening behind (arith s ws) z plains x e = (part_marked i d c opening behind (arith s ws) z refl e).free

pub parts_free : (i : Bool) (d : ℕ) (c : Context) (opening : Text) (ps : shape.Parts) (t : Text) → parts_fit i d c ps ≡ true → Closes c t → joins (parts_on c opening ps t) ≡ false
parts_free i d c opening no_part t e s = s.free
parts_free i d c opening (part p ps) t e s =
    let x = both (part_fits i d c ps p) (parts_fit i d c ps) e in
    first_of (λ z. joins z ≡ false) c opening p ps t (λ z. part_free i d c opening ps p z (is_plain_part p) refl x.0)

-- where no plain part begins, a run of bytes that stand for themselves ends
parts_stop : (i : Bool) (d : ℕ) (c : Context) (opening : Text) (ps : shape.Parts) (t : Text) → parts_fit i d c ps ≡ true → first_is is_plain_part ps ≡ false → Closes c t → goes_at (is_literal c) (parts_on c opening ps t) ≡ false
parts_stop i d c opening no_part t e n s = s.no_literal
parts_stop i d c opening (part p ps) t e n s =
    let x = both (part_fits i d c ps p) (parts_fit i d c ps) e in
    first_of (λ z. goes_at (is_literal c) z ≡ false) c opening p ps t (λ z. (part_marked i d c opening ps p z n x.0).no_literal)

parts_no_dollar : (i : Bool) (d : ℕ) (c : Context) (opening : Text) (ps : shape.Parts) (t : Text) → parts_fit i d c ps ≡ true → first_is is_plain_part ps ≡ false → first_is is_expansion ps ≡ false → Closes c t → starts expands (parts_on c opening ps t) ≡ false
parts_no_dollar i d c opening no_part t e n m s = s.no_expansion
parts_no_dollar i d c opening (part p ps) t e n m s =
    let x = both (part_fits i d c ps p) (parts_fit i d c ps) e in
    first_of (λ z. starts expands z ≡ false) c opening p ps t (λ z. part_quotes i d c opening ps p z n m x.0)

pub plain_stops : (i : Bool) (d : ℕ) (c : Context) (opening : Text) (text : Text) (ps : shape.Parts) (t : Text) → plain_fits c ps text ≡ true → parts_fit i d c ps ≡ true → Closes c t → Stops c text (parts_on c opening ps t)
plain_stops i d c opening text ps t f e s =
    let p = plain_facts c ps text f in
    record { free = parts_free i d c opening ps t e s; ends = parts_stop i d c opening ps t e p.alone s; no_dollar = λ k. parts_no_dollar i d c opening ps t e p.alone (p.no_dollar k) s }

plain_no_name : (c : Context) (text z : Text) → is_empty text ≡ false → starts continues_name text ≡ false → starts continues_name (text ++ z) ≡ false
plain_no_name c [] z s e = absurd cc
plain_no_name c (b ∷ bs) z s e = e

part_no_name : (i : Bool) (d : ℕ) (c : Context) (opening : Text) (behind : shape.Parts) (p : shape.Part) (z : Text) → continued (part p behind) ≡ false → part_fits i d c behind p ≡ true → starts continues_name (part_text true c opening (continued behind) p ++ z) ≡ false
part_no_name i d c opening behind (plain text) z n e = let f = plain_facts c behind text e in plain_no_name c text z f.some n
part_no_name i d c opening behind (exact text) z n e = (part_marked i d c opening behind (exact text) z refl e).no_name
part_no_name i d c opening behind (double ps) z n e = (part_marked i d c opening behind (double ps) z refl e).no_name
part_no_name i d c opening behind tilde z n e = absurd cc
part_no_name i d c opening behind (param p o) z n e = (part_marked i d c opening behind (param p o) z refl e).no_name
part_no_name i d c opening behind (listing s) z n e = (part_marked i d c opening behind (listing s) z refl e).no_name
part_no_name i d c opening behind (arith s ws) z n e = (part_marked i d c opening behind (arith s ws) z refl e).no_name

parts_no_name : (i : Bool) (d : ℕ) (c : Context) (opening : Text) (ps : shape.Parts) (t : Text) → parts_fit i d c ps ≡ true → continued ps ≡ false → Closes c t → starts continues_name (parts_on c opening ps t) ≡ false
parts_no_name i d c opening no_part t e n s = s.no_name
parts_no_name i d c opening (part p ps) t e n s =
    let x = both (part_fits i d c ps p) (parts_fit i d c ps) e in
    first_of (λ z. starts continues_name z ≡ false) c opening p ps t (λ z. part_no_name i d c opening ps p z n x.0)

pub name_ends : (i : Bool) (d : ℕ) (c : Context) (opening : Text) (ps : shape.Parts) (t : Text) → parts_fit i d c ps ≡ true → continued ps ≡ false → Closes c t → Ends (parts_on c opening ps t)
name_ends i d c opening ps t e n s = record { free = parts_free i d c opening ps t e s; no_name = parts_no_name i d c opening ps t e n s }

-- ---- a part begins

pub part_unit : (i : Bool) (d : ℕ) (c : Context) (opening : Text) (behind : shape.Parts) (p : shape.Part) (z : Text) → part_fits i d c behind p ≡ true → unit_starts c (part_text true c opening (continued behind) p ++ z) ≡ true
unfolding unit_starts
part_unit i d c opening behind (plain []) z e = let f = plain_facts c behind [] e in absurd (Rattle.std.proofs.lemmas.Bool.true≢false f.some)
part_unit i d c opening behind (plain (b ∷ bs)) z e =
    let f = plain_facts c behind (b ∷ bs) e in
    literal_unit c b bs (both (not (is_join b bs)) (is_literal c b bs) (both (not (is_join b bs) && is_literal c b bs) (is_literal_text c bs) f.literal).0).1
part_unit i d c opening behind (exact text) z e = (part_marked i d c opening behind (exact text) z refl e).unit
part_unit i d c opening behind (double ps) z e = (part_marked i d c opening behind (double ps) z refl e).unit
part_unit i d c opening behind tilde z e = absurd cc
part_unit i d c opening behind (param p o) z e = (part_marked i d c opening behind (param p o) z refl e).unit
part_unit i d c opening behind (listing s) z e = (part_marked i d c opening behind (listing s) z refl e).unit
part_unit i d c opening behind (arith s ws) z e = (part_marked i d c opening behind (arith s ws) z refl e).unit
