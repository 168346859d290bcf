-- Tokens and reserved words read back.
use Rattle.std.proofs.Common.{◌≡◌, ℕ, Bool, true, false, List, [], ◌∷◌, ◌++◌, refl, ◌∙◌}
use Rattle.std.specs.Prelude.{◌||◌, ◌&&◌, not, ◌==◌}
use Rattle.std.proofs.lemmas.Bool.{eq-eqb}
use Rattle.text_grammar.specs.Grammar.{step}
use Rattle.span_text.specs.Names.{is_letter, is_digit, continues_name, begins_name}
use Rattle.span_text.specs.KnownNames.{same_text}
use Rattle.span_text.proofs.Bytes.{apart}
use Rattle.sh_grammar.specs.Bytes.{Text, in_word, gap, starts, expands, is_special_param, is_meta, is_active, is_plain, has_single, has_double, is_literal, literal_run, begins_unit, unit_starts}
use Rattle.sh_grammar.specs.Tokens.{Op, Newline, Semi, SemiSemi, AndIf, OrIf, Pipe, Open, Close, Word, code, semi_at, and_at, pipe_at, is_angle, word_at, front, token, is_token, Key, If, Then, Elif, Else, Fi, For, In, Until, While, Do, Done, Case, Esac, OpenBrace, CloseBrace, Bang, key_text, is_key}
use Rattle.sh_grammar.specs.State.{Sum}
use Rattle.sh_grammar.specs.Table.{op, key}
use Rattle.sh_grammar.specs.Steps.{Known, run_step}
use Rattle.sh_printing.specs.Spellable.{is_literal_text, ends_with}
use Rattle.sh_printing.proofs.BackSays.{Says, silent_step}
use Rattle.sh_printing.proofs.BackDue.{Due, st}
use Rattle.sh_printing.proofs.BackBytes.{isnt, neither, joins, no_join, clear_is, gap_is, Stops, literal_back, goes_at}

-- ---- where a word ends

-- what is printed right behind a word: a blank, a newline, `;`, `)`
abbrev pub ends_word : ℕ → Bool
ends_word b = b == 32 || b == 10 || b == 59 || b == 41

-- a byte that no part of a word begins with, and that goes on with nothing
abbrev pub is_outside : ℕ → Bool
is_outside b = not (begins_unit in_word b || continues_name b || expands b || is_angle b || b == 92)

outside_at : (b : ℕ) (s t u v : Bool) → (b == 32) ≡ s → (b == 10) ≡ t → (b == 59) ≡ u → (b == 41) ≡ v → (s || t || u || v) ≡ true → is_outside b ≡ true
unfolding begins_unit continues_name expands is_special_param begins_name is_plain is_meta is_active has_single has_double
outside_at b true t u v i j k l e = rw (Rattle.std.proofs.Common.eqb-true b 32 i) refl
outside_at b false true u v i j k l e = rw (Rattle.std.proofs.Common.eqb-true b 10 j) refl
outside_at b false false true v i j k l e = rw (Rattle.std.proofs.Common.eqb-true b 59 k) refl
outside_at b false false false true i j k l e = rw (Rattle.std.proofs.Common.eqb-true b 41 l) refl
outside_at b false false false false i j k l e = absurd cc

-- what stands behind a word
pub record Outside (t : Text) : Type 0 where
  pub free : joins t ≡ false
  pub no_unit : unit_starts in_word t ≡ false
  pub no_literal : goes_at (is_literal in_word) t ≡ false
  pub no_expansion : starts expands t ≡ false
  pub no_name : starts continues_name t ≡ false
  pub no_digit : starts is_digit t ≡ false
  pub no_angle : starts is_angle t ≡ false

pub outside_is : (b : ℕ) (bs : Text) → is_outside b ≡ true → Outside (b ∷ bs)
unfolding unit_starts is_literal begins_unit continues_name
outside_is b bs e =
    let n = isnt (begins_unit in_word b || continues_name b || expands b || is_angle b || b == 92) e in
    let v = neither (begins_unit in_word b || continues_name b || expands b || is_angle b) (b == 92) n in
    let w = neither (begins_unit in_word b || continues_name b || expands b) (is_angle b) v.0 in
    let x = neither (begins_unit in_word b || continues_name b) (expands b) w.0 in
    let y = neither (begins_unit in_word b) (continues_name b) x.0 in
    let u = neither (is_plain in_word b || b == 36 || b == 92 || (b == 39 && has_single in_word)) (b == 34 && has_double in_word) y.0 in
    let u2 = neither (is_plain in_word b || b == 36 || b == 92) (b == 39 && has_single in_word) u.0 in
    let u3 = neither (is_plain in_word b || b == 36) (b == 92) u2.0 in
    let u4 = neither (is_plain in_word b) (b == 36) u3.0 in
    record { free = no_join b bs v.1; no_unit = y.0; no_literal = rw (u4.0, u4.1, v.1) refl; no_expansion = x.1; no_name = y.1; no_digit = (neither (is_letter b) (is_digit b) y.1).1; no_angle = w.1 }

pub word_ends : (t : Text) → starts ends_word t ≡ true → Outside t
word_ends [] e = absurd cc
word_ends (b ∷ bs) e = outside_is b bs (outside_at b (b == 32) (b == 10) (b == 59) (b == 41) refl refl refl refl e)

pub outside_stops : (text t : Text) → Outside t → Stops in_word text t
outside_stops text t o = record { free = o.free; ends = o.no_literal; no_dollar = λ e. o.no_expansion }

-- ---- operators

-- what reading a token gives
pub test_is : (o p : Op) (bytes t : Text) → token bytes ≡ (o, t) → is_token p bytes ≡ (code o == code p)
unfolding is_token
test_is o p bytes t e = rw e refl

pub op_says : (k : Known) (o : Op) (d : ℕ) (q : List Sum) (g : Due) (bytes t : Text) → token bytes ≡ (o, t) → Says k (step (op o)) (st d q g bytes) (st d q g t) []
unfolding run_step
op_says k o d q g bytes t e = silent_step (rw (test_is o o bytes t e, eq-eqb (code o) (code o) refl, e) refl)

pub newline_token : (bytes t : Text) → gap bytes ≡ 10 ∷ t → token bytes ≡ (Newline, t)
unfolding token front
newline_token bytes t e = rw e refl

pub open_token : (bytes t : Text) → gap bytes ≡ 40 ∷ t → token bytes ≡ (Open, t)
unfolding token front
open_token bytes t e = rw e refl

pub close_token : (bytes t : Text) → gap bytes ≡ 41 ∷ t → token bytes ≡ (Close, t)
unfolding token front
close_token bytes t e = rw e refl

-- `;` before a blank
pub semi_token : (bytes t : Text) → gap bytes ≡ 59 ∷ 32 ∷ t → token bytes ≡ (Semi, 32 ∷ t)
unfolding token front semi_at
semi_token bytes t e = rw (e, clear_is (32 ∷ t) (no_join 32 t refl)) refl

-- `;;` before a blank
pub semis_token : (bytes t : Text) → gap bytes ≡ 59 ∷ 59 ∷ 32 ∷ t → token bytes ≡ (SemiSemi, 32 ∷ t)
unfolding token front semi_at
semis_token bytes t e = rw (e, clear_is (59 ∷ 32 ∷ t) refl, clear_is (32 ∷ t) (no_join 32 t refl)) refl

-- a blank or a newline
abbrev pub is_space : ℕ → Bool
is_space b = b == 32 || b == 10

pub and_token : (bytes t : Text) → gap bytes ≡ 38 ∷ 38 ∷ t → token bytes ≡ (AndIf, t)
unfolding token front and_at
and_token bytes t e = rw (e, clear_is (38 ∷ t) (no_join 38 t refl)) refl

pub or_token : (bytes t : Text) → gap bytes ≡ 124 ∷ 124 ∷ t → token bytes ≡ (OrIf, t)
unfolding token front pipe_at
or_token bytes t e = rw (e, clear_is (124 ∷ t) (no_join 124 t refl)) refl

pub pipe_token : (bytes t : Text) (b : ℕ) → gap bytes ≡ 124 ∷ b ∷ t → is_space b ≡ true → token bytes ≡ (Pipe, b ∷ t)
unfolding token front pipe_at
pipe_token bytes t b e s =
    rw (e, clear_is (b ∷ t) (no_join b t (apart is_space b 92 s refl)), apart is_space b 124 s refl, apart is_space b 38 s refl) refl

-- ---- words

-- the bytes of operators and of gaps begin no part of a word
pub record Metas : Type 0 where
  pub newline : begins_unit in_word 10 ≡ false
  pub semi : begins_unit in_word 59 ≡ false
  pub ampersand : begins_unit in_word 38 ≡ false
  pub bar : begins_unit in_word 124 ≡ false
  pub opening : begins_unit in_word 40 ≡ false
  pub close : begins_unit in_word 41 ≡ false
  pub less : begins_unit in_word 60 ≡ false
  pub great : begins_unit in_word 62 ≡ false
  pub blank : begins_unit in_word 32 ≡ false
  pub tab : begins_unit in_word 9 ≡ false

pub metas : Metas
unfolding begins_unit is_plain is_meta is_active has_single has_double
metas = record { newline = refl; semi = refl; ampersand = refl; bar = refl; opening = refl; close = refl; less = refl; great = refl; blank = refl; tab = refl }

-- each byte that a part of a word begins with is no operator's
pub front_word : (b : ℕ) (bs : Text) → begins_unit in_word b ≡ true → front (b ∷ bs) ≡ word_at (b ∷ bs)
unfolding front unit_starts
front_word b bs e =
    let p = begins_unit in_word in
    rw (apart p b 10 e metas.newline, apart p b 59 e metas.semi, apart p b 38 e metas.ampersand, apart p b 124 e metas.bar, apart p b 40 e metas.opening, apart p b 41 e metas.close, apart p b 60 e metas.less, apart p b 62 e metas.great, e) refl

pub word_front : (b : ℕ) (bs : Text) → begins_unit in_word b ≡ true → is_digit b ≡ false → front (b ∷ bs) ≡ (Word, b ∷ bs)
word_front b bs e n = front_word b bs e ∙ rw n refl

-- ---- reserved words

key_literal : (w : Key) → (is_literal_text in_word (key_text w) ≡ true) × (ends_with 36 (key_text w) ≡ false)
unfolding key_text is_literal is_plain is_active is_meta
key_literal If = (refl, refl)
key_literal Then = (refl, refl)
key_literal Elif = (refl, refl)
key_literal Else = (refl, refl)
key_literal Fi = (refl, refl)
key_literal For = (refl, refl)
key_literal In = (refl, refl)
key_literal Until = (refl, refl)
key_literal While = (refl, refl)
key_literal Do = (refl, refl)
key_literal Done = (refl, refl)
key_literal Case = (refl, refl)
key_literal Esac = (refl, refl)
key_literal OpenBrace = (refl, refl)
key_literal CloseBrace = (refl, refl)
key_literal Bang = (refl, refl)

key_run : (w : Key) (t : Text) → Outside t → literal_run in_word (key_text w ++ t) ≡ (key_text w, t)
key_run w t o = let l = key_literal w in literal_back in_word (key_text w) t l.0 (outside_stops (key_text w) t o)

-- whether the word that is read is this one, by their texts
pub key_test : (v w : Key) (bytes t : Text) → gap bytes ≡ key_text w ++ t → Outside t → is_key v bytes ≡ same_text (key_text w) (key_text v)
unfolding is_key
key_test v w bytes t e o = rw (e, key_run w t o, o.no_unit) refl

same_key : (w : Key) → same_text (key_text w) (key_text w) ≡ true
unfolding key_text
same_key If = refl
same_key Then = refl
same_key Elif = refl
same_key Else = refl
same_key Fi = refl
same_key For = refl
same_key In = refl
same_key Until = refl
same_key While = refl
same_key Do = refl
same_key Done = refl
same_key Case = refl
same_key Esac = refl
same_key OpenBrace = refl
same_key CloseBrace = refl
same_key Bang = refl

pub key_says : (k : Known) (w : Key) (d : ℕ) (q : List Sum) (g : Due) (bytes t : Text) → gap bytes ≡ key_text w ++ t → Outside t → Says k (step (key w)) (st d q g bytes) (st d q g t) []
unfolding run_step
key_says k w d q g bytes t e o = silent_step (rw (key_test w w bytes t e o, same_key w, e, key_run w t o) refl)

pub key_gap : (w : Key) (t : Text) → gap (key_text w ++ t) ≡ key_text w ++ t
unfolding key_text
key_gap If t = gap_is 105 _ refl
key_gap Then t = gap_is 116 _ refl
key_gap Elif t = gap_is 101 _ refl
key_gap Else t = gap_is 101 _ refl
key_gap Fi t = gap_is 102 _ refl
key_gap For t = gap_is 102 _ refl
key_gap In t = gap_is 105 _ refl
key_gap Until t = gap_is 117 _ refl
key_gap While t = gap_is 119 _ refl
key_gap Do t = gap_is 100 _ refl
key_gap Done t = gap_is 100 _ refl
key_gap Case t = gap_is 99 _ refl
key_gap Esac t = gap_is 101 _ refl
key_gap OpenBrace t = gap_is 123 _ refl
key_gap CloseBrace t = gap_is 125 _ refl
key_gap Bang t = gap_is 33 _ refl

key_front : (w : Key) (t : Text) → front (key_text w ++ t) ≡ (Word, key_text w ++ t)
unfolding key_text begins_unit is_plain is_active is_meta
key_front If t = word_front 105 _ refl refl
key_front Then t = word_front 116 _ refl refl
key_front Elif t = word_front 101 _ refl refl
key_front Else t = word_front 101 _ refl refl
key_front Fi t = word_front 102 _ refl refl
key_front For t = word_front 102 _ refl refl
key_front In t = word_front 105 _ refl refl
key_front Until t = word_front 117 _ refl refl
key_front While t = word_front 119 _ refl refl
key_front Do t = word_front 100 _ refl refl
key_front Done t = word_front 100 _ refl refl
key_front Case t = word_front 99 _ refl refl
key_front Esac t = word_front 101 _ refl refl
key_front OpenBrace t = word_front 123 _ refl refl
key_front CloseBrace t = word_front 125 _ refl refl
key_front Bang t = word_front 33 _ refl refl

pub key_token : (w : Key) (bytes t : Text) → gap bytes ≡ key_text w ++ t → token bytes ≡ (Word, key_text w ++ t)
unfolding token
key_token w bytes t e = rw e (key_front w t)

-- ---- what comes next, where it is a reserved word

pub same_opens : Text → Bool
same_opens u = same_text u (key_text If) || same_text u (key_text For) || same_text u (key_text While) || same_text u (key_text Until) || same_text u (key_text Case) || same_text u (key_text OpenBrace)

pub same_other : Text → Bool
same_other u = same_text u (key_text Then) || same_text u (key_text Elif) || same_text u (key_text Else) || same_text u (key_text Fi) || same_text u (key_text In) || same_text u (key_text Do) || same_text u (key_text Done) || same_text u (key_text Esac) || same_text u (key_text CloseBrace) || same_text u (key_text Bang)
