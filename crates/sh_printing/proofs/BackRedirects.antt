-- Redirections read back.
use Rattle.std.proofs.Common.{◌≡◌, ℕ, suc, ◌+◌, ◌-◌, ◌<◌, Bool, true, false, List, [], ◌∷◌, ◌++◌, length, Option, Some, None, refl, sym, ap, subst, ◌∙◌, arith, length-append}
use Rattle.std.specs.Prelude.{◌||◌, not, ◌==◌}
use Rattle.std.specs.Fmt.{decimal}
use Rattle.std.proofs.lemmas.Bool.{ltb-true}
use Rattle.std.proofs.lemmas.Fmt.{decimal_digit}
use Rattle.span_text.specs.Names.{is_digit, begins_name}
use Rattle.span_text.proofs.Bytes.{apart}
use Rattle.text_grammar.specs.Grammar.{step, rule}
use Rattle.sh_grammar.specs.Shape as shape
use Rattle.sh_grammar.specs.Shape.{plain, no_part, part, RedirectOp, read, write, append, here_literal, here_expanded, copy_in, copy_out}
use Rattle.sh_grammar.specs.Bytes.{Text, in_word, gap, starts, is_plain, is_meta, is_active, is_literal, unit_starts, begins_unit, digit_run}
use Rattle.sh_grammar.specs.Tokens.{Op, Word, Io, Less, Great, DGreat, DLess, DLessDash, LessAnd, GreatAnd, Newline, Open, code, name_at, front, token, is_token, less_at, great_at, here_at, is_angle, here_next, copy_next, redirect_next}
use Rattle.sh_grammar.specs.Bodies.{delimiter_for}
use Rattle.sh_grammar.specs.State.{Sum, Node, op_node, aimed_node, redirect_node, digit_node, word_node}
use Rattle.sh_grammar.specs.Table.{descriptor, redirect, target, file, word}
use Rattle.sh_grammar.specs.Steps.{Known, run_step, holds, here_node, is_copied}
use Rattle.sh_printing.specs.Marks.{fd_text}
use Rattle.sh_printing.specs.Printable.{fd_fits}
use Rattle.sh_printing.proofs.BackSays.{Says, nothing, said_step, ◌then◌, the_first, the_second, by_rule, to_state}
use Rattle.sh_printing.proofs.BackDue.{Due, Pending, named, st, owed_of, owing_more, owed_more, named_more}
use Rattle.sh_printing.proofs.BackBytes.{no_join, joins, clear_is, gap_is, digits_back, goes_at}
use Rattle.sh_printing.proofs.BackTokens.{Outside, test_is, front_word, metas}
use Rattle.sh_printing.proofs.BackParams.{digit_begins}
use Rattle.sh_printing.proofs.BackKeys.{NoKeys, by_none, by_mark, no_digit, key_bytes}
use Rattle.sh_printing.proofs.BackDelimiters.{plain_delimiter, digit_is, digit_at}
use Rattle.sh_printing.proofs.BackWordFronts.{WordFront, plain_front}

-- ---- which token

-- the operator's token
abbrev pub op_token : RedirectOp → Op
op_token read = Less
op_token write = Great
op_token append = DGreat
op_token here_literal = DLess
op_token here_expanded = DLess
op_token copy_in = LessAnd
op_token copy_out = GreatAnd

-- its bytes
abbrev pub op_text : RedirectOp → Text
op_text read = 60 ∷ []
op_text write = 62 ∷ []
op_text append = 62 ∷ 62 ∷ []
op_text here_literal = 60 ∷ 60 ∷ []
op_text here_expanded = 60 ∷ 60 ∷ []
op_text copy_in = 60 ∷ 38 ∷ []
op_text copy_out = 62 ∷ 38 ∷ []

-- a byte that goes on with no operator
abbrev pub is_aim : ℕ → Bool
is_aim b = not (b == 60 || b == 62 || b == 38 || b == 124 || b == 45)

-- a text that begins a word, or a digit or `-` behind `&`
pub record Aimed (t : Text) : Type 0 where
  pub free : joins t ≡ false
  pub no_less : starts (λ b. b == 60) t ≡ false
  pub no_great : starts (λ b. b == 62) t ≡ false
  pub no_and : starts (λ b. b == 38) t ≡ false
  pub no_bar : starts (λ b. b == 124) t ≡ false

pub unit_aimed : (t : Text) → joins t ≡ false → unit_starts in_word t ≡ true → Aimed t
unfolding unit_starts
unit_aimed [] f u = record { free = refl; no_less = refl; no_great = refl; no_and = refl; no_bar = refl }
unit_aimed (b ∷ bs) f u =
    let p = begins_unit in_word in
    record { free = f; no_less = apart p b 60 u metas.less; no_great = apart p b 62 u metas.great; no_and = apart p b 38 u metas.ampersand; no_bar = apart p b 124 u metas.bar }

after_no : (k : ℕ) (t : Text) (longer : Text → Op × Text) (shorter : Op × Text) → starts (λ b. b == k) t ≡ false → Rattle.sh_grammar.specs.Tokens.after_byte k t longer shorter ≡ shorter
after_no k [] longer shorter e = refl
after_no k (b ∷ bs) longer shorter e = rw e refl

goes_no : (k : ℕ) (t : Text) (longer : Text → Op × Text) (shorter : Op × Text) → joins t ≡ false → starts (λ b. b == k) t ≡ false → Rattle.sh_grammar.specs.Tokens.goes_on_with k t longer shorter ≡ shorter
goes_no k t longer shorter f e = rw (clear_is t f) (after_no k t longer shorter e)

-- `-` behind `<<` is no part of a printed delimiter
pub op_front : (op : RedirectOp) (t : Text) → Aimed t → (op_token op ≡ DLess → starts (λ b. b == 45) t ≡ false) → front (op_text op ++ t) ≡ (op_token op, t)
unfolding front less_at great_at here_at
op_front read t a d = goes_no 60 t _ _ a.free a.no_less ∙ goes_no 38 t _ _ a.free a.no_and ∙ goes_no 62 t _ _ a.free a.no_great
op_front write t a d = goes_no 62 t _ _ a.free a.no_great ∙ goes_no 38 t _ _ a.free a.no_and ∙ goes_no 124 t _ _ a.free a.no_bar
op_front append t a d = rw (clear_is (62 ∷ t) (no_join 62 t refl)) refl
op_front here_literal t a d = rw (clear_is (60 ∷ t) (no_join 60 t refl)) (goes_no 45 t _ _ a.free (d refl) ∙ goes_no 60 t _ _ a.free a.no_less)
op_front here_expanded t a d = rw (clear_is (60 ∷ t) (no_join 60 t refl)) (goes_no 45 t _ _ a.free (d refl) ∙ goes_no 60 t _ _ a.free a.no_less)
op_front copy_in t a d = rw (clear_is (38 ∷ t) (no_join 38 t refl)) refl
op_front copy_out t a d = rw (clear_is (38 ∷ t) (no_join 38 t refl)) refl

pub op_solid : (op : RedirectOp) (t : Text) → gap (op_text op ++ t) ≡ op_text op ++ t
op_solid read t = gap_is 60 t refl
op_solid write t = gap_is 62 t refl
op_solid append t = gap_is 62 _ refl
op_solid here_literal t = gap_is 60 _ refl
op_solid here_expanded t = gap_is 60 _ refl
op_solid copy_in t = gap_is 60 _ refl
op_solid copy_out t = gap_is 62 _ refl

pub op_angle : (op : RedirectOp) (t : Text) → starts is_angle (op_text op ++ t) ≡ true
op_angle read t = refl
op_angle write t = refl
op_angle append t = refl
op_angle here_literal t = refl
op_angle here_expanded t = refl
op_angle copy_in t = refl
op_angle copy_out t = refl

-- ---- targets

-- an operator and what it aims at, where no descriptor stands before them
pub record Target (k : Known) (d : ℕ) (q : List Sum) (g h : Due) (op : RedirectOp) (w : shape.Parts) (v t : Text) : Type 0 where
  pub solid : gap v ≡ v
  pub token_is : (rest : Text) × (front v ≡ (op_token op, rest))
  pub angle : starts is_angle v ≡ true
  pub says : (bytes : Text) → gap bytes ≡ v → Says k (rule target) (st d q g bytes) (st d q h t) (aimed_node op w ∷ [])

pub token_of : (v bytes : Text) (o : Op) (rest : Text) → gap bytes ≡ v → front v ≡ (o, rest) → token bytes ≡ (o, rest)
unfolding token
token_of v bytes o rest s e = rw s e

-- no here-document and no copy
abbrev IsFile : Op → Type 0
IsFile o = ((code o == code DLess) ≡ false) × ((code o == code DLessDash) ≡ false) × ((code o == code LessAnd) ≡ false) × ((code o == code GreatAnd) ≡ false)

file_begins : (k : Known) (d : ℕ) (q : List Sum) (g h : Due) (o : Op) (v rest t : Text) (xs : List Node) → token v ≡ (o, rest) → IsFile o → Says k (rule file) (st d q g v) (st d q h t) xs → Says k (rule target) (st d q g v) (st d q h t) xs
unfolding holds here_next copy_next
file_begins k d q g h o v rest t xs e f s =
    by_rule target refl
    (the_second (rw (test_is o DLess v rest e, test_is o DLessDash v rest e, f.0, f.1) refl)
    (the_second (rw (test_is o LessAnd v rest e, test_is o GreatAnd v rest e, f.2, f.3) refl) s))

-- `< w`
pub read_says : (k : Known) (d : ℕ) (q : List Sum) (g h : Due) (w : shape.Parts) (v t : Text) → Aimed v → Says k (rule word) (st d q g v) (st d q h t) (word_node w ∷ []) → Target k d q g h read w (60 ∷ v) t
unfolding run_step code
read_says k d q g h w v t a s =
    let f = op_front read v a (λ e. absurd cc) in
    record { solid = op_solid read v; token_is = (v, f); angle = refl; says = λ bytes is. (let e = token_of (60 ∷ v) bytes Less v is f in file_begins k d q g h Less bytes v t _ e (refl, refl, refl, refl) (by_rule file refl (said_step {e = st d q g v} {x = op_node read} (rw e refl) then s))) }

-- `> w`
pub write_says : (k : Known) (d : ℕ) (q : List Sum) (g h : Due) (w : shape.Parts) (v t : Text) → Aimed v → Says k (rule word) (st d q g v) (st d q h t) (word_node w ∷ []) → Target k d q g h write w (62 ∷ v) t
unfolding run_step code
write_says k d q g h w v t a s =
    let f = op_front write v a (λ e. absurd cc) in
    record { solid = op_solid write v; token_is = (v, f); angle = refl; says = λ bytes is. (let e = token_of (62 ∷ v) bytes Great v is f in file_begins k d q g h Great bytes v t _ e (refl, refl, refl, refl) (by_rule file refl (said_step {e = st d q g v} {x = op_node write} (rw e refl) then s))) }

-- `>> w`
pub append_says : (k : Known) (d : ℕ) (q : List Sum) (g h : Due) (w : shape.Parts) (v t : Text) → Aimed v → Says k (rule word) (st d q g v) (st d q h t) (word_node w ∷ []) → Target k d q g h append w (62 ∷ 62 ∷ v) t
unfolding run_step code
append_says k d q g h w v t a s =
    let f = op_front append v a (λ e. absurd cc) in
    record { solid = op_solid append v; token_is = (v, f); angle = refl; says = λ bytes is. (let e = token_of (62 ∷ 62 ∷ v) bytes DGreat v is f in file_begins k d q g h DGreat bytes v t _ e (refl, refl, refl, refl) (by_rule file refl (said_step {e = st d q g v} {x = op_node append} (rw e refl) then s))) }

-- ---- `<& 1`

copied_at : (p q : Bool) (b : ℕ) → is_digit b ≡ p → (b == 45) ≡ q → (p || q) ≡ true → is_literal in_word b [] ≡ true
unfolding is_literal is_plain is_active is_meta
copied_at p true b e f h = rw (Rattle.std.proofs.Common.eqb-true b 45 f) refl
copied_at true false b e f h =
    rw (
      apart is_digit b 36 e refl,
      apart is_digit b 96 e refl,
      apart is_digit b 92 e refl,
      apart is_digit b 0 e refl,
      apart is_digit b 32 e refl,
      apart is_digit b 9 e refl,
      apart is_digit b 10 e refl,
      apart is_digit b 59 e refl,
      apart is_digit b 38 e refl,
      apart is_digit b 124 e refl,
      apart is_digit b 40 e refl,
      apart is_digit b 41 e refl,
      apart is_digit b 60 e refl,
      apart is_digit b 62 e refl,
      apart is_digit b 39 e refl,
      apart is_digit b 34 e refl,
    ) refl
copied_at false false b e f h = absurd cc

copied_plain : (b : ℕ) → is_copied b ≡ true → is_literal in_word b [] ≡ true
copied_plain b e = copied_at (is_digit b) (b == 45) b refl refl e

-- a digit or `-` before a word's end
copied_front : (b : ℕ) (t : Text) → is_copied b ≡ true → Outside t → WordFront (b ∷ t)
copied_front b t e o = plain_front (b ∷ []) t refl (apart is_copied b 35 e refl) (rw (copied_plain b e) refl) o.free o.no_digit o.no_angle

pub copied_aimed : (b : ℕ) (t : Text) → is_copied b ≡ true → Aimed (b ∷ t)
copied_aimed b t e = record { free = no_join b t (apart is_copied b 92 e refl); no_less = apart is_copied b 60 e refl; no_great = apart is_copied b 62 e refl; no_and = apart is_copied b 38 e refl; no_bar = apart is_copied b 124 e refl }

place_of : (v : Text) → WordFront v → is_token Word v ≡ true
unfolding code
place_of v f = test_is Word Word v v (token_of v v Word v f.solid f.is_word)

pub copy_in_says : (k : Known) (d : ℕ) (q : List Sum) (g : Due) (b : ℕ) (t : Text) → is_copied b ≡ true → Outside t → Target k d q g g copy_in (part (plain (b ∷ [])) no_part) (60 ∷ 38 ∷ b ∷ t) t
unfolding run_step holds here_next copy_next code
copy_in_says k d q g b t c o =
    let f = op_front copy_in (b ∷ t) (copied_aimed b t c) (λ e. absurd cc) in
    let w = copied_front b t c o in
    record {
      solid = op_solid copy_in (b ∷ t);
      token_is = (b ∷ t, f);
      angle = refl;
      says = λ bytes is. (
          let e = token_of (60 ∷ 38 ∷ b ∷ t) bytes LessAnd (b ∷ t) is f in
          by_rule target refl
          (the_second (rw (test_is LessAnd DLess _ _ e, test_is LessAnd DLessDash _ _ e) refl)
          (the_first (rw (test_is LessAnd LessAnd _ _ e) refl)
          (said_step (rw (e, place_of (b ∷ t) w, w.solid, c, clear_is t o.free, o.no_unit) refl)))));
    }

pub copy_out_says : (k : Known) (d : ℕ) (q : List Sum) (g : Due) (b : ℕ) (t : Text) → is_copied b ≡ true → Outside t → Target k d q g g copy_out (part (plain (b ∷ [])) no_part) (62 ∷ 38 ∷ b ∷ t) t
unfolding run_step holds here_next copy_next code
copy_out_says k d q g b t c o =
    let f = op_front copy_out (b ∷ t) (copied_aimed b t c) (λ e. absurd cc) in
    let w = copied_front b t c o in
    record {
      solid = op_solid copy_out (b ∷ t);
      token_is = (b ∷ t, f);
      angle = refl;
      says = λ bytes is. (
          let e = token_of (62 ∷ 38 ∷ b ∷ t) bytes GreatAnd (b ∷ t) is f in
          by_rule target refl
          (the_second (rw (test_is GreatAnd DLess _ _ e, test_is GreatAnd DLessDash _ _ e) refl)
          (the_first (rw (test_is GreatAnd LessAnd _ _ e, test_is GreatAnd GreatAnd _ _ e) refl)
          (said_step (rw (e, place_of (b ∷ t) w, w.solid, c, clear_is t o.free, o.no_unit) refl)))));
    }

-- ---- here-documents

-- the redirection that is owed
here_state : (d : ℕ) (q : List Sum) (g : Due) (p : Pending) (t : Text) → record (st d q g t) { owed = owed_of g.owing ++ p.owed ∷ []; named = suc (length (named g)) } ≡ st d q (owing_more g p) t
here_state d q g p t =
    let n : length (named (owing_more g p)) ≡ suc (length (named g)) = ap (λ (z : List Text). length z) (named_more g p) ∙ (omega (arith, length-append (named g) (p.body ∷ []))) in
    rw (owed_more g.owing p, n) refl

-- `<<E`
pub here_says : (k : Known) (d : ℕ) (q : List Sum) (g : Due) (p : Pending) (op : RedirectOp) (w : shape.Parts) (v t : Text) → op_token op ≡ DLess → WordFront v → starts (λ b. b == 45) v ≡ false → unit_starts in_word v ≡ true → joins v ≡ false →
    delimiter_for false v ≡ Some ((p.owed.delimiter, p.owed.literal), t) → p.owed.strips ≡ false → ((bytes : Text) → here_node k (st d q g bytes) p.owed.literal ≡ Some (aimed_node op w)) → Target k d q g (owing_more g p) op w (op_text op ++ v) t
unfolding run_step holds here_next code
here_says k d q g p op w v t is f n u j x y z =
    let a = op_front op v (unit_aimed v j u) (λ e. n) in
    let b : front (op_text op ++ v) ≡ (DLess, v) = a ∙ ap (λ (o : Op). (o, v)) is in
    record {
      solid = op_solid op v;
      token_is = (v, a);
      angle = op_angle op v;
      says = λ bytes at. (
          let e = token_of (op_text op ++ v) bytes DLess v at b in
          by_rule target refl
          (the_first (rw (test_is DLess DLess _ _ e) refl)
          (to_state (here_state d q g p t) (said_step (rw (e, place_of v f, f.solid, x, z bytes) (ap (λ (s : Bool). Some (Rattle.text_grammar.specs.Grammar.said (aimed_node op w), record (st d q g t) { owed = owed_of g.owing ++ record { delimiter = p.owed.delimiter; literal = p.owed.literal; strips = s } ∷ []; named = suc (length (named g)) })) (sym y)))))));
    }

-- ---- a descriptor before the operator

-- a redirection begins
pub record RedirectFront (t : Text) : Type 0 where
  pub solid : gap t ≡ t
  pub op : Op
  pub rest : Text
  pub token_is : front t ≡ (op, rest)
  pub is_redirect : (code op == code Io || code op == code Less || code op == code Great || code op == code DGreat || (code op == code DLess || code op == code DLessDash) || (code op == code LessAnd || code op == code GreatAnd)) ≡ true
  pub no_word : (code op == code Word) ≡ false
  pub no_line : (code op == code Newline) ≡ false
  pub no_open : (code op == code Open) ≡ false
  pub keys : NoKeys t
  pub no_name : name_at t ≡ None

pub redirect_begins : (t bytes : Text) → RedirectFront t → gap bytes ≡ t → redirect_next bytes ≡ true
unfolding redirect_next here_next copy_next
redirect_begins t bytes f e =
    let k = token_of t bytes f.op f.rest e f.token_is in
    rw (test_is f.op Io bytes f.rest k, test_is f.op Less bytes f.rest k, test_is f.op Great bytes f.rest k, test_is f.op DGreat bytes f.rest k, test_is f.op DLess bytes f.rest k, test_is f.op DLessDash bytes f.rest k, test_is f.op LessAnd bytes f.rest k, test_is f.op GreatAnd bytes f.rest k) f.is_redirect

pub op_redirects : (op : RedirectOp) → (code (op_token op) == code Io || code (op_token op) == code Less || code (op_token op) == code Great || code (op_token op) == code DGreat || (code (op_token op) == code DLess || code (op_token op) == code DLessDash) || (code (op_token op) == code LessAnd || code (op_token op) == code GreatAnd)) ≡ true
unfolding code
op_redirects read = refl
op_redirects write = refl
op_redirects append = refl
op_redirects here_literal = refl
op_redirects here_expanded = refl
op_redirects copy_in = refl
op_redirects copy_out = refl

pub op_others : (op : RedirectOp) → ((code (op_token op) == code Io) ≡ false) × ((code (op_token op) == code Word) ≡ false) × ((code (op_token op) == code Newline) ≡ false) × ((code (op_token op) == code Open) ≡ false)
unfolding code
op_others read = (refl, refl, refl, refl)
op_others write = (refl, refl, refl, refl)
op_others append = (refl, refl, refl, refl)
op_others here_literal = (refl, refl, refl, refl)
op_others here_expanded = (refl, refl, refl, refl)
op_others copy_in = (refl, refl, refl, refl)
op_others copy_out = (refl, refl, refl, refl)

digit_unit : (b : ℕ) → is_digit b ≡ true → begins_unit in_word b ≡ true
unfolding begins_unit
digit_unit b e = rw (plain_delimiter b (digit_is b e)) refl

angle_no_digit_at : (p q : Bool) (b : ℕ) → (b == 60) ≡ p → (b == 62) ≡ q → (p || q) ≡ true → is_digit b ≡ false
angle_no_digit_at true q b e f h = rw (Rattle.std.proofs.Common.eqb-true b 60 e) refl
angle_no_digit_at false true b e f h = rw (Rattle.std.proofs.Common.eqb-true b 62 f) refl
angle_no_digit_at false false b e f h = absurd cc

angle_no_digit : (b : ℕ) → is_angle b ≡ true → is_digit b ≡ false
angle_no_digit b e = angle_no_digit_at (b == 60) (b == 62) b refl refl e

pub angle_facts : (v : Text) → starts is_angle v ≡ true → (joins v ≡ false) × (starts is_digit v ≡ false)
angle_facts [] a = absurd cc
angle_facts (b ∷ bs) a = (no_join b bs (apart is_angle b 92 a refl), angle_no_digit b a)

angle_stops : (p q : Bool) (b : ℕ) (bs : Text) → (b == 60) ≡ p → (b == 62) ≡ q → (p || q) ≡ true → is_literal in_word b bs ≡ false
unfolding is_literal is_plain is_active is_meta
angle_stops true q b bs e f h = rw (Rattle.std.proofs.Common.eqb-true b 60 e) refl
angle_stops false true b bs e f h = rw (Rattle.std.proofs.Common.eqb-true b 62 f) refl
angle_stops false false b bs e f h = absurd cc

angle_no_letter : (p q : Bool) (b : ℕ) → (b == 60) ≡ p → (b == 62) ≡ q → (p || q) ≡ true → begins_name b ≡ false
unfolding begins_name
angle_no_letter true q b e f h = rw (Rattle.std.proofs.Common.eqb-true b 60 e) refl
angle_no_letter false true b e f h = rw (Rattle.std.proofs.Common.eqb-true b 62 f) refl
angle_no_letter false false b e f h = absurd cc

angle_no_literal : (v : Text) → starts is_angle v ≡ true → goes_at (is_literal in_word) v ≡ false
angle_no_literal [] a = absurd cc
angle_no_literal (b ∷ bs) a = angle_stops (b == 60) (b == 62) b bs refl refl a

pub angle_no_name : (v : Text) → starts is_angle v ≡ true → name_at v ≡ None
unfolding name_at
angle_no_name [] a = absurd cc
angle_no_name (b ∷ bs) a = rw (angle_no_letter (b == 60) (b == 62) b refl refl a) refl

pub angle_keys : (v : Text) → gap v ≡ v → starts is_angle v ≡ true → NoKeys v
angle_keys v s a = by_none v s (angle_facts v a).0 (angle_no_literal v a)

pub digit_keys : (b : ℕ) (v : Text) → is_digit b ≡ true → gap (b ∷ v) ≡ b ∷ v → NoKeys (b ∷ v)
digit_keys b v e s = by_mark no_digit (b ∷ v) [] b v key_bytes.2 s refl (plain_delimiter b (digit_is b e)) (rw e refl)

pub digit_no_name : (b : ℕ) (v : Text) → is_digit b ≡ true → name_at (b ∷ v) ≡ None
unfolding name_at
digit_no_name b v e = rw (digit_begins b e) refl

-- the digit before `<` or `>`
pub digit_token : (b : ℕ) (v : Text) → is_digit b ≡ true → joins v ≡ false → starts is_digit v ≡ false → starts is_angle v ≡ true → front (b ∷ v) ≡ (Io, v)
digit_token b v e j n a =
    let r : digit_run (b ∷ v) ≡ (b ∷ [], v) = digits_back (b ∷ []) v (rw e refl) j n in
    front_word b v (digit_unit b e) ∙ rw (e, r, a) refl

pub digit_solid : (b : ℕ) (v : Text) → is_digit b ≡ true → gap (b ∷ v) ≡ b ∷ v
digit_solid b v e = gap_is b v (rw (apart is_digit b 32 e refl, apart is_digit b 9 e refl, apart is_digit b 92 e refl, apart is_digit b 35 e refl) refl)

pub io_front : (t v : Text) → gap t ≡ t → front t ≡ (Io, v) → NoKeys t → name_at t ≡ None → RedirectFront t
unfolding code
io_front t v s f n m = record { solid = s; op = Io; rest = v; token_is = f; is_redirect = refl; no_word = refl; no_line = refl; no_open = refl; keys = n; no_name = m }

io_is : (bytes v : Text) → token bytes ≡ (Io, v) → is_token Io bytes ≡ true
unfolding code
io_is bytes v e = test_is Io Io bytes v e

descriptor_says : (k : Known) (d : ℕ) (q : List Sum) (g : Due) (n : ℕ) (bytes v : Text) → gap bytes ≡ (48 + n) ∷ v → Says k (step descriptor) (st d q g bytes) (st d q g v) (digit_node n ∷ [])
unfolding run_step
descriptor_says k d q g n bytes v at =
    let back : (48 + n) - 48 ≡ n = omega arith in
    said_step (rw (at, back) refl)

-- a redirection and where it begins
pub record Redirected (k : Known) (d : ℕ) (q : List Sum) (g h : Due) (fd : Option ℕ) (op : RedirectOp) (w : shape.Parts) (v t : Text) : Type 0 where
  pub front : RedirectFront (fd_text fd ++ v)
  pub says : (bytes : Text) → gap bytes ≡ fd_text fd ++ v → Says k (rule redirect) (st d q g bytes) (st d q h t) (redirect_node fd op w ∷ [])

pub redirect_says : (k : Known) (d : ℕ) (q : List Sum) (g h : Due) (fd : Option ℕ) (op : RedirectOp) (w : shape.Parts) (v t : Text) → fd_fits fd ≡ true → Target k d q g h op w v t → Redirected k d q g h fd op w v t
unfolding holds
redirect_says k d q g h None op w v t e a =
    let o = op_others op in
    record {
      front = record { solid = a.solid; op = op_token op; rest = a.token_is.0; token_is = a.token_is.1; is_redirect = op_redirects op; no_word = o.1; no_line = o.2; no_open = o.3; keys = angle_keys v a.solid a.angle; no_name = angle_no_name v a.angle };
      says = λ bytes is. by_rule redirect refl (the_second (test_is (op_token op) Io bytes a.token_is.0 (token_of v bytes (op_token op) a.token_is.0 is a.token_is.1) ∙ o.0) (nothing k (st d q g bytes)) then a.says bytes is);
    }
redirect_says k d q g h (Some n) op w v t e a =
    let lt : n < 10 = ltb-true n 10 e in
    let dn : decimal n ≡ (48 + n) ∷ [] = decimal_digit n lt in
    let di = digit_at n lt in
    let f = angle_facts v a.angle in
    let x : decimal n ++ v ≡ (48 + n) ∷ v = ap (λ (z : Text). z ++ v) dn in
    let u = digit_token (48 + n) v di f.0 f.1 a.angle in
    let so = digit_solid (48 + n) v di in
    record {
      front = subst RedirectFront (sym x) (io_front ((48 + n) ∷ v) v so u (digit_keys (48 + n) v di so) (digit_no_name (48 + n) v di));
      says = λ bytes is. (
          let at = is ∙ x in
          let tk = token_of ((48 + n) ∷ v) bytes Io v at u in
          by_rule redirect refl (the_first (io_is bytes v tk) (descriptor_says k d q g n bytes v at) then a.says v a.solid));
    }
