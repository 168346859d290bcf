-- Simple commands read back, from their assignments, words and redirections.
use Rattle.std.proofs.Common.{◌≡◌, ℕ, Bool, true, false, List, [], ◌∷◌, ◌++◌, Some, refl, sym, ◌∙◌}
use Rattle.std.specs.Prelude.{◌||◌, ◌&&◌, not}
use Rattle.std.specs.List.{list_all}
use Rattle.std.proofs.lemmas.Bool.{true≢false}
use Rattle.span_text.specs.Names.{is_digit, continues_name, begins_name, is_name}
use Rattle.span_text.proofs.Bytes.{apart, first_is_name}
use Rattle.text_grammar.specs.Grammar.{step, rule}
use Rattle.sh_grammar.specs.Shape as shape
use Rattle.sh_grammar.specs.Shape.{no_value, value}
use Rattle.sh_grammar.specs.Bytes.{Text, in_word, gap, starts, is_plain, is_meta, is_active, unit_starts, begins_unit}
use Rattle.sh_grammar.specs.Tokens.{Op, Newline, Open, Word, Io, Less, Great, DGreat, DLess, DLessDash, LessAnd, GreatAnd, code, token, is_token, Key, is_key, opens_compound, is_other_key, name_next, simple_next, compound_next, redirect_next, here_next, copy_next, name_at, assign_at, assign_next, function_next, opens}
use Rattle.sh_grammar.specs.State.{Sum, text_node, word_node, assign_node}
use Rattle.sh_grammar.specs.Table.{assign_name, assign, value as value_rule}
use Rattle.sh_grammar.specs.Steps.{Known, run_step, holds}
use Rattle.sh_printing.proofs.BackSays.{Says, nothing, said_step, ◌then◌, the_first, the_second, by_rule}
use Rattle.sh_printing.proofs.BackDue.{Due, st}
use Rattle.sh_printing.proofs.BackBytes.{both, and_no, joins, no_join, clear_is, gap_is, name_back}
use Rattle.sh_printing.proofs.BackParams.{digit_begins}
use Rattle.sh_printing.proofs.BackTokens.{Outside, test_is, word_front}
use Rattle.sh_printing.proofs.BackWordFronts.{WordFront}
use Rattle.sh_printing.proofs.BackRedirects.{RedirectFront, token_of, redirect_begins as redirect_first}
use Rattle.sh_printing.proofs.BackKeys.{NoKeys, no_compound, no_other, by_mark, no_equals, key_bytes}

-- ---- what is behind a gap says all

pub carry_token : (o : Op) (t u : Text) → gap t ≡ gap u → is_token o t ≡ is_token o u
unfolding is_token token
carry_token o t u e = rw e refl

pub carry_key : (k : Key) (t u : Text) → gap t ≡ gap u → is_key k t ≡ is_key k u
unfolding is_key
carry_key k t u e = rw e refl

pub carry_keys : (t u : Text) → gap t ≡ gap u → NoKeys u → NoKeys t
carry_keys t u e n k = carry_key k t u e ∙ n k

pub carry_redirect : (t u : Text) → gap t ≡ gap u → redirect_next t ≡ redirect_next u
unfolding redirect_next here_next copy_next is_token token
carry_redirect t u e = rw e refl

pub carry_assign : (t u : Text) → gap t ≡ gap u → assign_next t ≡ assign_next u
unfolding assign_next assign_at
carry_assign t u e = rw e refl

pub carry_compound : (t u : Text) → gap t ≡ gap u → compound_next t ≡ compound_next u
unfolding compound_next is_token token is_key
carry_compound t u e = rw e refl

pub carry_simple : (t u : Text) → gap t ≡ gap u → simple_next t ≡ simple_next u
unfolding simple_next name_next redirect_next here_next copy_next is_token token is_key
carry_simple t u e = rw e refl

pub carry_function : (t u : Text) → gap t ≡ gap u → function_next t ≡ function_next u
unfolding function_next name_next is_token token is_key
carry_function t u e = rw e refl

-- ---- a word's token

pub word_token : (t u : Text) → gap t ≡ u → WordFront u → token t ≡ (Word, u)
word_token t u e f = token_of u t Word u e f.is_word

pub word_no_redirect : (t u : Text) → token t ≡ (Word, u) → redirect_next t ≡ false
unfolding redirect_next here_next copy_next code
word_no_redirect t u k = rw (test_is Word Io t u k, test_is Word Less t u k, test_is Word Great t u k, test_is Word DGreat t u k, test_is Word DLess t u k, test_is Word DLessDash t u k, test_is Word LessAnd t u k, test_is Word GreatAnd t u k) refl

pub word_is_word : (t u : Text) → token t ≡ (Word, u) → is_token Word t ≡ true
unfolding code
word_is_word t u k = test_is Word Word t u k

pub word_is_other : (t u : Text) → token t ≡ (Word, u) → (is_token Newline t ≡ false) × (is_token Open t ≡ false)
unfolding code
word_is_other t u k = (test_is Word Newline t u k, test_is Word Open t u k)

-- ---- where a simple command begins

pub record SimpleFront (t : Text) : Type 0 where
  pub solid : gap t ≡ t
  pub no_line : is_token Newline t ≡ false
  pub no_open : is_token Open t ≡ false
  pub keys : NoKeys t
  pub is_simple : simple_next t ≡ true
  pub no_function : function_next t ≡ false

-- a word's token, of no reserved word
pub word_simple : (t : Text) → WordFront t → NoKeys t → opens (name_at t) ≡ false → SimpleFront t
unfolding simple_next name_next function_next
word_simple t f n o =
    let k = word_token t t f.solid f in
    let x = word_is_other t t k in
    record { solid = f.solid; no_line = x.0; no_open = x.1; keys = n; is_simple = rw (word_no_redirect t t k, word_is_word t t k, no_compound t n, no_other t n) refl; no_function = rw (f.solid, o) (and_no (is_token Word t && not (opens_compound t || is_other_key t))) }

pub redirect_simple : (t : Text) → RedirectFront t → SimpleFront t
unfolding simple_next function_next
redirect_simple t f =
    let k = token_of t t f.op f.rest f.solid f.token_is in
    record {
      solid = f.solid;
      no_line = test_is f.op Newline t f.rest k ∙ f.no_line;
      no_open = test_is f.op Open t f.rest k ∙ f.no_open;
      keys = f.keys;
      is_simple = rw (redirect_first t t f f.solid) refl;
      no_function = rw (f.solid, f.no_name) (and_no (name_next t));
    }

-- ---- assignments

letter_no_digit : (p : Bool) (b : ℕ) → is_digit b ≡ p → begins_name b ≡ true → p ≡ false
letter_no_digit true b e h = absurd (true≢false (sym h ∙ digit_begins b e))
letter_no_digit false b e h = refl

letters : (begins_name 32 ≡ false) × (begins_name 9 ≡ false) × (begins_name 92 ≡ false) × (begins_name 35 ≡ false)
unfolding begins_name
letters = (refl, refl, refl, refl)

letter_solid : (b : ℕ) (t : Text) → begins_name b ≡ true → gap (b ∷ t) ≡ b ∷ t
letter_solid b t e = gap_is b t (rw (apart begins_name b 32 e letters.0, apart begins_name b 9 e letters.1, apart begins_name b 92 e letters.2, apart begins_name b 35 e letters.3) refl)

record NameLacks : Type 0 where
  dollar : continues_name 36 ≡ false
  backquote : continues_name 96 ≡ false
  backslash : continues_name 92 ≡ false
  nul : continues_name 0 ≡ false
  blank : continues_name 32 ≡ false
  tab : continues_name 9 ≡ false
  newline : continues_name 10 ≡ false
  semi : continues_name 59 ≡ false
  ampersand : continues_name 38 ≡ false
  bar : continues_name 124 ≡ false
  opening : continues_name 40 ≡ false
  closing : continues_name 41 ≡ false
  less : continues_name 60 ≡ false
  great : continues_name 62 ≡ false
  single : continues_name 39 ≡ false
  double : continues_name 34 ≡ false

name_lacks : NameLacks
unfolding continues_name
name_lacks = record { dollar = refl; backquote = refl; backslash = refl; nul = refl; blank = refl; tab = refl; newline = refl; semi = refl; ampersand = refl; bar = refl; opening = refl; closing = refl; less = refl; great = refl; single = refl; double = refl }

pub name_byte : (b : ℕ) → continues_name b ≡ true → is_plain in_word b ≡ true
unfolding is_plain is_active is_meta
name_byte b e =
    let p = continues_name in let l = name_lacks in
    rw (
      apart p b 36 e l.dollar,
      apart p b 96 e l.backquote,
      apart p b 92 e l.backslash,
      apart p b 0 e l.nul,
      apart p b 32 e l.blank,
      apart p b 9 e l.tab,
      apart p b 10 e l.newline,
      apart p b 59 e l.semi,
      apart p b 38 e l.ampersand,
      apart p b 124 e l.bar,
      apart p b 40 e l.opening,
      apart p b 41 e l.closing,
      apart p b 60 e l.less,
      apart p b 62 e l.great,
      apart p b 39 e l.single,
      apart p b 34 e l.double,
    ) refl

plain_unit : (b : ℕ) → is_plain in_word b ≡ true → begins_unit in_word b ≡ true
unfolding begins_unit
plain_unit b e = rw e refl

letter_unit : (b : ℕ) → begins_name b ≡ true → begins_unit in_word b ≡ true
letter_unit b e = plain_unit b (name_byte b (first_is_name b e))

equals_plain : is_plain in_word 61 ≡ true
unfolding is_plain is_active is_meta
equals_plain = refl

equals_unit : begins_unit in_word 61 ≡ true
equals_unit = plain_unit 61 equals_plain

pub name_plain : (name : Text) → list_all continues_name name ≡ true → list_all (is_plain in_word) name ≡ true
name_plain [] e = refl
name_plain (b ∷ bs) e = let x = both (continues_name b) (list_all continues_name bs) e in rw (name_byte b x.0, name_plain bs x.1) refl

pub name_bytes : (name : Text) → is_name name ≡ true → list_all continues_name name ≡ true
name_bytes [] e = absurd cc
name_bytes (b ∷ bs) e = let x = both (begins_name b) (list_all continues_name bs) e in rw (first_is_name b x.0, x.1) refl

-- a name and what doesn't go on with it
pub name_is : (name t : Text) → is_name name ≡ true → joins t ≡ false → starts continues_name t ≡ false → name_at (name ++ t) ≡ Some (name, t)
unfolding name_at
name_is [] t e f n = absurd cc
name_is (b ∷ bs) t e f n = rw ((both (begins_name b) (list_all continues_name bs) e).0, name_back (b ∷ bs) t e f n) refl

pub name_word : (name t : Text) → is_name name ≡ true → WordFront (name ++ t)
name_word [] t e = absurd cc
name_word (b ∷ bs) t e =
    let x = (both (begins_name b) (list_all continues_name bs) e).0 in
    record { solid = letter_solid b (bs ++ t) x; is_word = word_front b (bs ++ t) (letter_unit b x) (letter_no_digit (is_digit b) b refl x) }

equals_ends : (t : Text) → (joins (61 ∷ t) ≡ false) × (starts continues_name (61 ∷ t) ≡ false) × (is_token Open (61 ∷ t) ≡ false)
unfolding continues_name is_token token code
equals_ends t = (no_join 61 t refl, refl, rw (gap_is 61 t refl, word_front 61 t equals_unit refl) refl)

-- an assignment and where it begins
pub record AssignFront (t : Text) : Type 0 where
  pub simple : SimpleFront t
  pub no_redirect : redirect_next t ≡ false
  pub begins : assign_next t ≡ true

pub assign_front : (name t : Text) → is_name name ≡ true → AssignFront (name ++ 61 ∷ t)
unfolding assign_next assign_at
assign_front name t e =
    let f = name_word name (61 ∷ t) e in
    let q = equals_ends t in
    let i = name_is name (61 ∷ t) e q.0 q.1 in
    let v = name ++ 61 ∷ t in
    record {
      simple = word_simple v f (by_mark no_equals v name 61 t key_bytes.0 f.solid (name_plain name (name_bytes name e)) equals_plain refl) (rw i q.2);
      no_redirect = word_no_redirect v v (word_token v v f.solid f);
      begins = rw (f.solid, i, clear_is (61 ∷ t) q.0) refl;
    }

assign_step : (k : Known) (d : ℕ) (q : List Sum) (g : Due) (bytes name t : Text) → is_name name ≡ true → gap bytes ≡ name ++ 61 ∷ t → Says k (step assign_name) (st d q g bytes) (st d q g t) (text_node name ∷ [])
unfolding run_step assign_at
assign_step k d q g bytes name t n e =
    let c = equals_ends t in
    said_step (rw (e, name_is name (61 ∷ t) n c.0 c.1, clear_is (61 ∷ t) c.0) refl)

-- `n=`
pub assign_none : (k : Known) (d : ℕ) (q : List Sum) (g : Due) (bytes name t : Text) → is_name name ≡ true → gap bytes ≡ name ++ 61 ∷ t → Outside t → Says k (rule assign) (st d q g bytes) (st d q g t) (assign_node name no_value ∷ [])
unfolding holds
assign_none k d q g bytes name t n e o = by_rule assign refl (assign_step k d q g bytes name t n e then the_second (rw (clear_is t o.free) o.no_unit) (nothing k (st d q g t)))

-- `n=w`
pub assign_value : (k : Known) (d : ℕ) (q : List Sum) (g h : Due) (bytes name v t : Text) (w : shape.Parts) → is_name name ≡ true → gap bytes ≡ name ++ 61 ∷ v → joins v ≡ false → unit_starts in_word v ≡ true → Says k (rule value_rule) (st d q g v) (st d q h t) (word_node w ∷ []) → Says k (rule assign) (st d q g bytes) (st d q h t) (assign_node name (value w) ∷ [])
unfolding holds
assign_value k d q g h bytes name v t w n e f u a = by_rule assign refl (assign_step k d q g bytes name v n e then the_first (rw (clear_is v f) u) a)
