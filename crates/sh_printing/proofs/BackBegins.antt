-- Where the printed words, redirections and commands begin.
use Rattle.std.proofs.Common.{◌≡◌, ℕ, ◌+◌, ◌<◌, Bool, true, false, [], ◌∷◌, ◌++◌, Option, Some, None, refl, sym, ap, subst, ◌∙◌, append_assoc}
use Rattle.std.specs.Prelude.{◌&&◌, not, ◌==◌}
use Rattle.std.specs.Fmt.{decimal}
use Rattle.std.proofs.lemmas.Bool.{true≢false, ltb-true}
use Rattle.std.proofs.lemmas.Fmt.{decimal_digit}
use Rattle.sh_grammar.specs.Shape as shape
use Rattle.sh_grammar.specs.Shape.{plain, no_part, part, no_word, word, no_redirect, redirect, no_assign, assign, RedirectOp, read, write, append, here_literal, here_expanded, copy_in, copy_out}
use Rattle.sh_grammar.specs.Bytes.{Text, in_word, in_body, gap, starts, unit_starts, begins_unit}
use Rattle.sh_grammar.specs.Tokens.{Open, DLess, is_token}
use Rattle.sh_printing.specs.Delimiters.{delimiter, free_from, tries}
use Rattle.sh_printing.specs.Marks.{End, ended, blank, led, fd_text, aimed_text}
use Rattle.sh_printing.specs.Spellable.{begins_with}
use Rattle.sh_printing.specs.Printing.{parts_text, words_text, redirects_text, assigns_text, owed_behind, parts_open}
use Rattle.sh_printing.specs.Printable.{word_fits, words_fit, redirects_fit, fd_fits, is_copied_word}
use Rattle.sh_printing.proofs.BackBytes.{both, joins, no_join, gap_is, three}
use Rattle.sh_printing.proofs.BackTokens.{Outside, word_ends, test_is}
use Rattle.sh_printing.proofs.BackBehind.{parts_on}
use Rattle.sh_printing.proofs.BackWordFronts.{WordFront, word_begins}
use Rattle.sh_printing.proofs.BackDelimiters.{delimiter_word, is_delimiter_byte, plain_delimiter, digit_at}
use Rattle.sh_printing.proofs.BackRedirects.{RedirectFront, Aimed, op_text, op_token, op_front, op_solid, op_angle, op_redirects, op_others, unit_aimed, copied_aimed, angle_keys, angle_no_name, angle_facts, digit_token, digit_solid, io_front, digit_keys, digit_no_name, token_of}
use Rattle.sh_printing.proofs.BackLines.{blank_test}
use Rattle.sh_printing.proofs.BackEnds.{any_end, end_open}
use Rattle.sh_printing.proofs.BackSimple.{word_token, word_is_other}

-- ---- a word's first byte

pub record WordFirst (t : Text) : Type 0 where
  pub free : joins t ≡ false
  pub unit : unit_starts in_word t ≡ true

delimiter_unit : (b : ℕ) → is_delimiter_byte b ≡ true → begins_unit in_word b ≡ true
unfolding begins_unit
delimiter_unit b e = rw (plain_delimiter b e) refl

-- what stands behind `<<`
pub record HereWord (t : Text) : Type 0 where
  pub first : WordFirst t
  pub front : WordFront t
  pub no_dash : starts (λ b. b == 45) t ≡ false

e_unit : begins_unit in_word 69 ≡ true
e_unit = delimiter_unit 69 refl

-- a delimiter as it is printed
bare_here : (body z : Text) → HereWord (delimiter body ++ z)
unfolding delimiter unit_starts
bare_here body z =
    let t = decimal (free_from tries 0 body) ++ z in
    record { first = record { free = no_join 69 t refl; unit = e_unit }; front = record { solid = gap_is 69 t refl; is_word = Rattle.sh_printing.proofs.BackTokens.word_front 69 t e_unit refl }; no_dash = refl }

quoted_unit : begins_unit in_word 39 ≡ true
unfolding begins_unit Rattle.sh_grammar.specs.Bytes.is_plain Rattle.sh_grammar.specs.Bytes.is_active Rattle.sh_grammar.specs.Bytes.is_meta Rattle.sh_grammar.specs.Bytes.has_single
quoted_unit = refl

quoted_here : (t : Text) → HereWord (39 ∷ t)
unfolding unit_starts
quoted_here t = record { first = record { free = no_join 39 t refl; unit = quoted_unit }; front = record { solid = gap_is 39 t refl; is_word = Rattle.sh_printing.proofs.BackTokens.word_front 39 t quoted_unit refl }; no_dash = refl }

pub here_word : (literal : Bool) (body z : Text) → HereWord (delimiter_word literal (delimiter body) ++ z)
here_word true body z = quoted_here ((delimiter body ++ 39 ∷ []) ++ z)
here_word false body z = bare_here body z

-- ---- redirections

-- the word behind an operator
pub record Aim (op : RedirectOp) (t : Text) : Type 0 where
  pub aimed : Aimed t
  pub no_dash : op_token op ≡ DLess → starts (λ b. b == 45) t ≡ false

fd_front : (fd : Option ℕ) (op : RedirectOp) (t : Text) → fd_fits fd ≡ true → Aim op t → RedirectFront (fd_text fd ++ (op_text op ++ t))
fd_front None op t e a =
    let o = op_others op in
    let v = op_text op ++ t in
    record { solid = op_solid op t; op = op_token op; rest = t; token_is = op_front op t a.aimed a.no_dash; is_redirect = op_redirects op; no_word = o.1; no_line = o.2; no_open = o.3; keys = angle_keys v (op_solid op t) (op_angle op t); no_name = angle_no_name v (op_angle op t) }
fd_front (Some n) op t e a =
    let v = op_text op ++ t in
    let lt : n < 10 = ltb-true n 10 e in
    let di = digit_at n lt in
    let f = angle_facts v (op_angle op t) in
    let x : decimal n ++ v ≡ (48 + n) ∷ v = ap (λ (z : Text). z ++ v) (decimal_digit n lt) in
    let so = digit_solid (48 + n) v di in
    subst RedirectFront (sym x) (io_front ((48 + n) ∷ v) v so (digit_token (48 + n) v di f.0 f.1 (op_angle op t)) (digit_keys (48 + n) v di so) (digit_no_name (48 + n) v di))

-- a word that is printed begins with a byte of a word
front_first : (t : Text) → WordFront t → joins t ≡ false → unit_starts in_word t ≡ true → Aimed t
front_first t f j u = unit_aimed t j u

-- ---- words

pub words_outside : (ws : shape.Words) (t : Text) → Outside t → Outside (words_text true true ws ++ t)
words_outside no_word t o = o
words_outside (word w ws) t o = word_ends _ refl

pub assigns_outside : (vs : shape.Assigns) (t : Text) → Outside t → Outside (assigns_text true true vs ++ t)
assigns_outside no_assign t o = o
assigns_outside (assign n v more) t o = word_ends _ refl

pub ended_outside : (end : End) (t owed : Text) → Outside (ended end owed ++ t)
ended_outside end t owed = (any_end end owed t).is.outside

pub redirects_outside : (last : Text → Text) (owed : Text) (rs : shape.Redirects) (t : Text) → ((x : Text) → Outside (last x ++ t)) → Outside (redirects_text true true last owed rs ++ t)
redirects_outside last owed no_redirect t o = o owed
redirects_outside last owed (redirect fd op w rs) t o = word_ends _ refl

-- no parenthesis comes next
pub words_open : (i : Bool) (d : ℕ) (ws : shape.Words) (t : Text) → words_fit i d ws ≡ true → Outside t → is_token Open t ≡ false → is_token Open (words_text true true ws ++ t) ≡ false
words_open i d no_word t e o n = n
words_open i d (word w ws) t e o n =
    let x = both (word_fits i d true w) (words_fit i d ws) e in
    let s = append_assoc (32 ∷ parts_text true in_word blank w) (words_text true true ws) t in
    let f = word_begins i d blank w (words_text true true ws ++ t) x.0 (words_outside ws t o) in
    let v = parts_on in_word blank w (words_text true true ws ++ t) in
    ap (is_token Open) s ∙ blank_test Open v ∙ (word_is_other v v (word_token v v f.solid f)).1

plain_first : (text z : Text) → Rattle.sh_grammar.specs.Steps.is_empty text ≡ false → Rattle.sh_printing.specs.Spellable.is_literal_text in_word text ≡ true → WordFirst (text ++ z)
unfolding unit_starts
plain_first [] z s e = absurd (true≢false s)
plain_first (b ∷ bs) z s e =
    let x = both (not (Rattle.sh_grammar.specs.Bytes.is_join b bs) && Rattle.sh_grammar.specs.Bytes.is_literal in_word b bs) (Rattle.sh_printing.specs.Spellable.is_literal_text in_word bs) e in
    record { free = Rattle.sh_printing.proofs.BackBytes.literal_joins in_word b bs z e; unit = Rattle.sh_printing.proofs.BackFronts.literal_unit in_word b bs (both (not (Rattle.sh_grammar.specs.Bytes.is_join b bs)) (Rattle.sh_grammar.specs.Bytes.is_literal in_word b bs) x.0).1 }

marked_first : (i : Bool) (d : ℕ) (opening : Text) (p : shape.Part) (ps : shape.Parts) (t : Text) → Rattle.sh_printing.specs.Printable.is_plain_part p ≡ false → Rattle.sh_printing.specs.Printable.part_fits i d in_word ps p ≡ true → WordFirst (parts_on in_word opening (part p ps) t)
marked_first i d opening p ps t n e =
    let z = parts_on in_word (Rattle.sh_printing.specs.Printing.behind_opening (Rattle.sh_printing.specs.Printing.part_opens p) opening) ps t in
    let m = Rattle.sh_printing.proofs.BackFronts.part_marked i d in_word opening ps p z n e in
    subst WordFirst (sym (Rattle.sh_printing.proofs.BackBehind.parts_split in_word opening p ps t)) (record { free = m.free; unit = m.unit })

tilde_unit : begins_unit in_word 126 ≡ true
unfolding begins_unit Rattle.sh_grammar.specs.Bytes.is_plain Rattle.sh_grammar.specs.Bytes.is_active Rattle.sh_grammar.specs.Bytes.is_meta
tilde_unit = refl

tilde_first : (t : Text) → WordFirst (126 ∷ t)
unfolding unit_starts
tilde_first t = record { free = no_join 126 t refl; unit = tilde_unit }

-- the first byte of a word or a value
pub word_first : (i : Bool) (d : ℕ) (spaced : Bool) (opening : Text) (w : shape.Parts) (t : Text) → word_fits i d spaced w ≡ true → WordFirst (parts_on in_word opening w t)
word_first i d spaced opening no_part t e = absurd cc
word_first i d spaced opening (part (plain text) ps) t e =
    let x = both (not (spaced && begins_with 35 text) && not (Rattle.sh_printing.specs.Printable.reads_tilde text ps) && Rattle.sh_printing.specs.Printable.plain_fits in_word ps text) (Rattle.sh_printing.specs.Printable.parts_fit i d in_word ps) e in
    let y = both (not (spaced && begins_with 35 text) && not (Rattle.sh_printing.specs.Printable.reads_tilde text ps)) (Rattle.sh_printing.specs.Printable.plain_fits in_word ps text) x.0 in
    let f = Rattle.sh_printing.proofs.BackBehind.plain_facts in_word ps text y.1 in
    subst WordFirst (sym (Rattle.sh_printing.proofs.BackBehind.parts_split in_word opening (plain text) ps t)) (plain_first text (parts_on in_word opening ps t) f.some f.literal)
word_first i d spaced opening (part shape.tilde ps) t e = tilde_first (parts_on in_word opening ps t)
word_first i d spaced opening (part (shape.exact text) ps) t e = marked_first i d opening (shape.exact text) ps t refl (both (Rattle.sh_printing.specs.Printable.part_fits i d in_word ps (shape.exact text)) (Rattle.sh_printing.specs.Printable.parts_fit i d in_word ps) e).0
word_first i d spaced opening (part (shape.double qs) ps) t e = marked_first i d opening (shape.double qs) ps t refl (both (Rattle.sh_printing.specs.Printable.part_fits i d in_word ps (shape.double qs)) (Rattle.sh_printing.specs.Printable.parts_fit i d in_word ps) e).0
word_first i d spaced opening (part (shape.param p a) ps) t e = marked_first i d opening (shape.param p a) ps t refl (both (Rattle.sh_printing.specs.Printable.part_fits i d in_word ps (shape.param p a)) (Rattle.sh_printing.specs.Printable.parts_fit i d in_word ps) e).0
word_first i d spaced opening (part (shape.subst s) ps) t e = marked_first i d opening (shape.subst s) ps t refl (both (Rattle.sh_printing.specs.Printable.part_fits i d in_word ps (shape.subst s)) (Rattle.sh_printing.specs.Printable.parts_fit i d in_word ps) e).0
word_first i d spaced opening (part (shape.arith s ws) ps) t e = marked_first i d opening (shape.arith s ws) ps t refl (both (Rattle.sh_printing.specs.Printable.part_fits i d in_word ps (shape.arith s ws)) (Rattle.sh_printing.specs.Printable.parts_fit i d in_word ps) e).0

-- ---- the first redirection

-- what stands behind an operator
abbrev pub aimed_word : RedirectOp → shape.Parts → Text → Text
aimed_word read w opening = parts_text true in_word opening w
aimed_word write w opening = parts_text true in_word opening w
aimed_word append w opening = parts_text true in_word opening w
aimed_word here_literal w opening = delimiter_word true (delimiter (Rattle.sh_printing.proofs.BackNamed.body_of w))
aimed_word here_expanded w opening = delimiter_word false (delimiter (Rattle.sh_printing.proofs.BackNamed.body_of w))
aimed_word copy_in w opening = parts_text true in_word opening w
aimed_word copy_out w opening = parts_text true in_word opening w

pub aimed_is : (op : RedirectOp) (w : shape.Parts) (opening t : Text) → aimed_text true op (Rattle.sh_printing.proofs.BackNamed.body_of w) (parts_text true in_word opening w) ++ t ≡ op_text op ++ (aimed_word op w opening ++ t)
aimed_is read w opening t = refl
aimed_is write w opening t = refl
aimed_is append w opening t = refl
aimed_is here_literal w opening t = refl
aimed_is here_expanded w opening t = refl
aimed_is copy_in w opening t = refl
aimed_is copy_out w opening t = refl

file_aim : (op : RedirectOp) (i : Bool) (d : ℕ) (w : shape.Parts) (opening t : Text) → (op_token op ≡ DLess → ⊥) → word_fits i d true w ≡ true → Aim op (parts_text true in_word opening w ++ t)
file_aim op i d w opening t n e = let f = word_first i d true opening w t e in record { aimed = unit_aimed _ f.free f.unit; no_dash = λ x. absurd (n x) }

here_aim : (op : RedirectOp) (literal : Bool) (body t : Text) → Aim op (delimiter_word literal (delimiter body) ++ t)
here_aim op literal body t = let h = here_word literal body t in record { aimed = unit_aimed _ h.first.free h.first.unit; no_dash = λ x. h.no_dash }

copy_aim : (op : RedirectOp) (w : shape.Parts) (opening t : Text) → (op_token op ≡ DLess → ⊥) → is_copied_word w ≡ true → Aim op (parts_text true in_word opening w ++ t)
copy_aim op no_part opening t n e = absurd cc
copy_aim op (part (plain []) no_part) opening t n e = absurd cc
copy_aim op (part (plain (b ∷ [])) no_part) opening t n e = record { aimed = copied_aimed b t e; no_dash = λ x. absurd (n x) }
copy_aim op (part (plain (b ∷ c ∷ bs)) no_part) opening t n e = absurd cc
copy_aim op (part (plain text) (part p ps)) opening t n e = absurd cc
copy_aim op (part (shape.exact text) ps) opening t n e = absurd cc
copy_aim op (part (shape.double qs) ps) opening t n e = absurd cc
copy_aim op (part shape.tilde ps) opening t n e = absurd cc
copy_aim op (part (shape.param p a) ps) opening t n e = absurd cc
copy_aim op (part (shape.subst s) ps) opening t n e = absurd cc
copy_aim op (part (shape.arith s ws) ps) opening t n e = absurd cc

-- the facts of a redirection
pub record RedirectFits (i : Bool) (d : ℕ) (fd : Option ℕ) (op : RedirectOp) (w : shape.Parts) (rs : shape.Redirects) : Type 0 where
  pub fd_fits : fd_fits fd ≡ true
  pub aim : (opening t : Text) → Aim op (aimed_word op w opening ++ t)
  pub more : redirects_fit i d rs ≡ true

pub redirect_facts : (i : Bool) (d : ℕ) (fd : Option ℕ) (op : RedirectOp) (w : shape.Parts) (rs : shape.Redirects) → redirects_fit i d (redirect fd op w rs) ≡ true → RedirectFits i d fd op w rs
redirect_facts i d fd read w rs e = let x = three (fd_fits fd) (word_fits i d true w) (redirects_fit i d rs) e in record { fd_fits = x.0; aim = λ o t. file_aim read i d w o t (λ y. absurd cc) x.1; more = x.2 }
redirect_facts i d fd write w rs e = let x = three (fd_fits fd) (word_fits i d true w) (redirects_fit i d rs) e in record { fd_fits = x.0; aim = λ o t. file_aim write i d w o t (λ y. absurd cc) x.1; more = x.2 }
redirect_facts i d fd append w rs e = let x = three (fd_fits fd) (word_fits i d true w) (redirects_fit i d rs) e in record { fd_fits = x.0; aim = λ o t. file_aim append i d w o t (λ y. absurd cc) x.1; more = x.2 }
redirect_facts i d fd here_literal w rs e = let x = three (fd_fits fd) (Rattle.sh_printing.specs.Printable.literal_body i w) (redirects_fit i d rs) e in record { fd_fits = x.0; aim = λ o t. here_aim here_literal true (Rattle.sh_printing.proofs.BackNamed.body_of w) t; more = x.2 }
redirect_facts i d fd here_expanded w rs e = let x = three (fd_fits fd) (Rattle.sh_printing.specs.Printable.ends_line w && Rattle.sh_printing.specs.Printable.parts_fit true d in_body w) (redirects_fit i d rs) e in record { fd_fits = x.0; aim = λ o t. here_aim here_expanded false (Rattle.sh_printing.proofs.BackNamed.body_of w) t; more = x.2 }
redirect_facts i d fd copy_in w rs e = let x = three (fd_fits fd) (is_copied_word w) (redirects_fit i d rs) e in record { fd_fits = x.0; aim = λ o t. copy_aim copy_in w o t (λ y. absurd cc) x.1; more = x.2 }
redirect_facts i d fd copy_out w rs e = let x = three (fd_fits fd) (is_copied_word w) (redirects_fit i d rs) e in record { fd_fits = x.0; aim = λ o t. copy_aim copy_out w o t (λ y. absurd cc) x.1; more = x.2 }

pub led_over : (behind : Bool) (a t : Text) → led behind a ++ t ≡ led behind (a ++ t)
led_over true a t = refl
led_over false a t = refl

-- the text of redirections, with the first one in front
pub redirects_split : (behind : Bool) (last : Text → Text) (owed : Text) (fd : Option ℕ) (op : RedirectOp) (w : shape.Parts) (rs : shape.Redirects) (t : Text) →
    redirects_text true behind last owed (redirect fd op w rs) ++ t ≡ led behind (fd_text fd ++ (op_text op ++ (aimed_word op w (Rattle.sh_printing.specs.Marks.gap owed) ++ (redirects_text true true last (owed_behind true op (parts_open w) (Rattle.sh_printing.proofs.BackNamed.body_of w) owed) rs ++ t))))
redirects_split behind last owed fd op w rs t =
    let rest = redirects_text true true last (owed_behind true op (parts_open w) (Rattle.sh_printing.proofs.BackNamed.body_of w) owed) rs in
    let a = aimed_text true op (Rattle.sh_printing.proofs.BackNamed.body_of w) (parts_text true in_word (Rattle.sh_printing.specs.Marks.gap owed) w) in
    append_assoc (led behind (fd_text fd ++ a)) rest t ∙ led_over behind (fd_text fd ++ a) (rest ++ t) ∙ ap (led behind) (append_assoc (fd_text fd) a (rest ++ t) ∙ ap (λ (z : Text). fd_text fd ++ z) (aimed_is op w (Rattle.sh_printing.specs.Marks.gap owed) (rest ++ t)))

pub redirect_at : (i : Bool) (d : ℕ) (last : Text → Text) (owed : Text) (fd : Option ℕ) (op : RedirectOp) (w : shape.Parts) (rs : shape.Redirects) (t : Text) → redirects_fit i d (redirect fd op w rs) ≡ true → RedirectFront (redirects_text true false last owed (redirect fd op w rs) ++ t)
redirect_at i d last owed fd op w rs t e =
    let f = redirect_facts i d fd op w rs e in
    subst RedirectFront (sym (redirects_split false last owed fd op w rs t)) (fd_front fd op _ f.fd_fits (f.aim (Rattle.sh_printing.specs.Marks.gap owed) (redirects_text true true last (owed_behind true op (parts_open w) (Rattle.sh_printing.proofs.BackNamed.body_of w) owed) rs ++ t)))

pub ended_open : (end : End) (t owed : Text) → is_token Open (ended end owed ++ t) ≡ false
ended_open end t owed = let x = any_end end owed t in end_open x.op (ended end owed ++ t) x.rest x.is

pub redirects_no_open : (i : Bool) (d : ℕ) (last : Text → Text) (owed : Text) (rs : shape.Redirects) (t : Text) → ((x : Text) → is_token Open (last x ++ t) ≡ false) → redirects_fit i d rs ≡ true → is_token Open (redirects_text true true last owed rs ++ t) ≡ false
redirects_no_open i d last owed no_redirect t o e = o owed
redirects_no_open i d last owed (redirect fd op w rs) t o e =
    let f = redirect_at i d last owed fd op w rs t e in
    let v = redirects_text true false last owed (redirect fd op w rs) ++ t in
    ap (is_token Open) (redirects_split true last owed fd op w rs t ∙ ap (λ (z : Text). 32 ∷ z) (sym (redirects_split false last owed fd op w rs t))) ∙ blank_test Open v ∙ test_is f.op Open v f.rest (token_of v v f.op f.rest f.solid f.token_is) ∙ f.no_open
