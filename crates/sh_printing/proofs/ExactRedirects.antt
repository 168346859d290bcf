-- Redirections that were read fit.
use Rattle.std.proofs.Common.{◌≡◌, ℕ, zero, suc, ◌+◌, ◌-◌, ◌≤◌, Bool, true, false, cond, List, [], ◌∷◌, ◌++◌, length, Option, Some, None, inl, inr, refl, sym, ap, subst, ◌∙◌, arith, leb-true, lt-ltb}
use Rattle.std.specs.Prelude.{◌&&◌, not, ◌==◌, nat_lt, nat_le}
use Rattle.std.proofs.lemmas.Bool.{false≢true}
use Rattle.span_text.specs.Names.{is_digit}
use Rattle.text_grammar.specs.Grammar.{Leaf, step, rule, choose, pass}
use Rattle.text_grammar.specs.Values.{leaf_kids}
use Rattle.sh_grammar.specs.Shape as shape
use Rattle.sh_grammar.specs.Shape.{plain, no_part, part, no_redirect, redirect, RedirectOp}
use Rattle.sh_grammar.specs.Bytes.{Text, in_word, in_body, clear, gap, starts, digit_run, unit_starts}
use Rattle.sh_grammar.specs.Tokens.{Op, Io, Less, Great, DGreat, DLess, DLessDash, LessAnd, GreatAnd, Word, code, front, token, is_token, semi_at, and_at, pipe_at, here_at, less_at, great_at, after_byte, goes_on_with, digits_word, word_at}
use Rattle.sh_grammar.specs.Expansions.{◌>>=◌}
use Rattle.sh_grammar.specs.Bodies.{Owed, delimiter_for}
use Rattle.sh_grammar.specs.State.{State, Node, digit_node, op_node, aimed_node, redirect_node, word_node, word_in, digit_in, aimed_in, op_in}
use Rattle.sh_grammar.specs.Steps.{Known, run_step, holds, is_copied, nth, literal_parts, expanded_parts, here_node, here_after, here_read, word_place, op_read, copied_read, copy_read, digit_read}
use Rattle.sh_grammar.specs.Table.{body}
use Rattle.sh_grammar.specs.Table as table
use Rattle.sh_grammar.specs.Acts.{act}
use Rattle.sh_grammar.proofs.Tools.{If, then, chosen_by}
use Rattle.sh_printing.specs.Spellable.{keeps}
use Rattle.sh_printing.specs.Printable.{fd_fits, is_copied_word, ends_line, word_fits, parts_fit, redirects_fit}
use Rattle.sh_printing.proofs.BackBytes.{both}
use Rattle.sh_printing.proofs.ExactParts.{by_step}
use Rattle.sh_printing.proofs.ExactRules.{Stepped, Sat}
use Rattle.sh_printing.proofs.ExactStates.{Fine, Forth, Back, BodyFits, Owes, is_lines}
use Rattle.sh_printing.proofs.ExactNodes.{is_redirect, is_aimed}
use Rattle.sh_printing.proofs.ExactClaims.{One, OneNode, Says}

-- ---- descriptors

abbrev NoDigit : Op × Text → Type 0
NoDigit x = (code x.0 == 16) ≡ false

not_after : (k : ℕ) (t : Text) (longer : Text → Op × Text) (shorter : Op × Text) → ((u : Text) → NoDigit (longer u)) → NoDigit shorter → NoDigit (after_byte k t longer shorter)
not_after k [] longer shorter h e = e
not_after k (b ∷ bs) longer shorter h e = chosen_by NoDigit (b == k) (longer bs) shorter (λ f. h bs) (λ f. e)

not_on : (k : ℕ) (t : Text) (longer : Text → Op × Text) (shorter : Op × Text) → ((u : Text) → NoDigit (longer u)) → NoDigit shorter → NoDigit (goes_on_with k t longer shorter)
not_on k t longer shorter h e = not_after k (clear t) longer shorter h e

semi_no : (t : Text) → NoDigit (semi_at t)
unfolding semi_at code
semi_no t = not_on 59 t _ _ (λ u. not_on 38 u _ _ (λ v. refl) refl) (not_on 38 t _ _ (λ u. refl) refl)

and_no : (t : Text) → NoDigit (and_at t)
unfolding and_at code
and_no t = not_on 38 t _ _ (λ u. refl) refl

pipe_no : (t : Text) → NoDigit (pipe_at t)
unfolding pipe_at code
pipe_no t = not_on 124 t _ _ (λ u. refl) (not_on 38 t _ _ (λ u. refl) refl)

here_no : (t : Text) → NoDigit (here_at t)
unfolding here_at code
here_no t = not_on 45 t _ _ (λ u. refl) (not_on 60 t _ _ (λ u. refl) refl)

less_no : (t : Text) → NoDigit (less_at t)
unfolding less_at code
less_no t = not_on 60 t here_at _ here_no (not_on 38 t _ _ (λ u. refl) (not_on 62 t _ _ (λ u. refl) refl))

great_no : (t : Text) → NoDigit (great_at t)
unfolding great_at code
great_no t = not_on 62 t _ _ (λ u. refl) (not_on 38 t _ _ (λ u. refl) (not_on 124 t _ _ (λ u. refl) refl))

word_no : (t : Text) → starts is_digit t ≡ false → NoDigit (word_at t)
unfolding code
word_no t e = subst (λ (z : Bool). NoDigit (cond z (digits_word t (digit_run t)) (Word, t))) (sym e) refl

front_no : (t : Text) → starts is_digit t ≡ false → NoDigit (front t)
unfolding front code
front_no [] e = refl
front_no (b ∷ bs) e =
    chosen_by NoDigit (b == 10) _ _ (λ f. refl)
    (λ f. chosen_by NoDigit (b == 59) _ _ (λ f. semi_no bs)
    (λ f. chosen_by NoDigit (b == 38) _ _ (λ f. and_no bs)
    (λ f. chosen_by NoDigit (b == 124) _ _ (λ f. pipe_no bs)
    (λ f. chosen_by NoDigit (b == 40) _ _ (λ f. refl)
    (λ f. chosen_by NoDigit (b == 41) _ _ (λ f. refl)
    (λ f. chosen_by NoDigit (b == 60) _ _ (λ f. less_no bs)
    (λ f. chosen_by NoDigit (b == 62) _ _ (λ f. great_no bs)
    (λ f. chosen_by NoDigit (unit_starts in_word (b ∷ bs)) _ _ (λ f. word_no (b ∷ bs) e) (λ f. refl)))))))))

io_code : (n : ℕ) → (n == code Io) ≡ true → (n == 16) ≡ true
unfolding code
io_code n e = e

-- where a descriptor comes, a digit does
io_digit_at : (t : Text) (p : Bool) → starts is_digit (gap t) ≡ p → is_token Io t ≡ true → p ≡ true
unfolding is_token token
io_digit_at t true e o = refl
io_digit_at t false e o = absurd (false≢true (sym (front_no (gap t) e) ∙ io_code (code (front (gap t)).0) o))

digit_less : (b : ℕ) → is_digit b ≡ true → nat_lt (b - 48) 10 ≡ true
digit_less b e =
    let x = both (nat_le 48 b) (nat_le b 57) e in
    let lo : 48 ≤ b = leb-true 48 b x.0 in
    let hi : b ≤ 57 = leb-true b 57 x.1 in
    lt-ltb (b - 48) 10 (omega arith)

record Descriptor (vs : List Node) : Type 0 where
  digit : ℕ
  is : vs ≡ digit_node digit ∷ []
  fits : nat_lt digit 10 ≡ true

digit_given : (s : State) (t : Text) → starts is_digit t ≡ true → If (λ (x : Leaf Node × State). Descriptor (leaf_kids x.0)) (digit_read s t)
digit_given s [] e = absurd (false≢true e)
digit_given s (b ∷ bs) e = record { digit = b - 48; is = refl; fits = digit_less b e }

descriptor : {k : Known} {F : State → Type 0} {d : ℕ} {s e : State} {vs : List Node} → is_token Io s.bytes ≡ true → Stepped k F table.descriptor d s e vs → Descriptor vs
unfolding run_step
descriptor {s = s} o st = by_step (λ (m : State) (ws : List Node). Descriptor ws) (digit_given s (gap s.bytes) (io_digit_at s.bytes (starts is_digit (gap s.bytes)) refl o)) st

with_digit : (i : Bool) (d : ℕ) (fd : Option ℕ) (op : RedirectOp) (w : shape.Parts) → fd_fits fd ≡ true → redirects_fit i d (redirect None op w no_redirect) ≡ true → redirects_fit i d (redirect fd op w no_redirect) ≡ true
with_digit i d fd shape.read w f e = rw f e
with_digit i d fd shape.write w f e = rw f e
with_digit i d fd shape.append w f e = rw f e
with_digit i d fd shape.here_literal w f e = rw f e
with_digit i d fd shape.here_expanded w f e = rw f e
with_digit i d fd shape.copy_in w f e = rw f e
with_digit i d fd shape.copy_out w f e = rw f e

-- a redirection behind its descriptor
aimed_fits : (i : Bool) (d : ℕ) (x : Node) (fd : Option ℕ) → is_aimed i d x ≡ true → fd_fits fd ≡ true → OneNode (is_redirect i d) (aimed_in (x ∷ []) fd)
aimed_fits i d (aimed_node op w) fd e f = record { one = redirect_node fd op w; is = refl; fits = with_digit i d fd op w f e }
aimed_fits i d x fd e f = absurd (false≢true e)

no_digit_in : (i : Bool) (d : ℕ) (x : Node) → is_aimed i d x ≡ true → digit_in (x ∷ []) ≡ None
no_digit_in i d (aimed_node op w) e = refl
no_digit_in i d x e = absurd (false≢true e)

-- with a descriptor and without
maybe_digit : (k : Known) (i : Bool) (d : ℕ) (s m : State) (ones others : List Node) → OneNode (is_aimed i d) others → Sat k (Fine k i) (Says i) (choose (table.next Io) (step table.descriptor) pass) d s m ones →
    OneNode (is_redirect i d) (aimed_in (ones ++ others) (digit_in (ones ++ others)))
unfolding holds
maybe_digit k i d s m ones others o (inl a) =
    let n = descriptor a.0 a.1 in
    let is : ones ++ others ≡ digit_node n.digit ∷ o.one ∷ [] = ap (λ (z : List Node). z ++ others) n.is ∙ ap (λ (z : List Node). digit_node n.digit ∷ z) o.is in
    subst (λ (z : List Node). OneNode (is_redirect i d) (aimed_in z (digit_in z))) (sym is) (aimed_fits i d o.one (Some n.digit) o.fits n.fits)
maybe_digit k i d s m ones others o (inr a) =
    let is : ones ++ others ≡ o.one ∷ [] = ap (λ (z : List Node). z ++ others) a.1.1 ∙ o.is in
    subst (λ (z : List Node). OneNode (is_redirect i d) (aimed_in z (digit_in z))) (sym is)
    (subst (λ (z : Option ℕ). OneNode (is_redirect i d) (aimed_in (o.one ∷ []) z)) (sym (no_digit_in i d o.one o.fits)) (aimed_fits i d o.one None o.fits refl))

pub redirect_rule : (k : Known) (i : Bool) (d : ℕ) (s e : State) (vs : List Node) → Sat k (Fine k i) (Says i) (body table.redirect) d s e vs → OneNode (is_redirect i d) (act table.redirect vs)
redirect_rule k i d s e vs a =
    subst (λ (z : List Node). OneNode (is_redirect i d) (aimed_in z (digit_in z))) (sym a.is) (maybe_digit k i d s a.middle a.ones a.others a.rest.claim a.before)

-- ---- files

abbrev is_file_op : RedirectOp → Bool
is_file_op shape.read = true
is_file_op shape.write = true
is_file_op shape.append = true
is_file_op op = false

abbrev FileOp : List Node → Type 0
FileOp vs = One op_node (λ op. is_file_op op ≡ true) vs

file_given : (s : State) (x : Op × Text) → If (λ (y : Leaf Node × State). FileOp (leaf_kids y.0)) (op_read s x)
file_given s (Less, rest) = record { one = shape.read; is = refl; fits = refl }
file_given s (Great, rest) = record { one = shape.write; is = refl; fits = refl }
file_given s (DGreat, rest) = record { one = shape.append; is = refl; fits = refl }
file_given s x = tt

file_op : {k : Known} {F : State → Type 0} {d : ℕ} {s e : State} {vs : List Node} → Stepped k F table.file_op d s e vs → FileOp vs
unfolding run_step
file_op {s = s} st = by_step (λ (m : State) (ws : List Node). FileOp ws) (file_given s (token s.bytes)) st

file_fits : (i : Bool) (d : ℕ) (op : RedirectOp) (w : shape.Parts) → is_file_op op ≡ true → word_fits i d true w ≡ true → redirects_fit i d (redirect None op w no_redirect) ≡ true
file_fits i d shape.read w e f = rw f refl
file_fits i d shape.write w e f = rw f refl
file_fits i d shape.append w e f = rw f refl
file_fits i d shape.here_literal w e f = absurd (false≢true e)
file_fits i d shape.here_expanded w e f = absurd (false≢true e)
file_fits i d shape.copy_in w e f = absurd (false≢true e)
file_fits i d shape.copy_out w e f = absurd (false≢true e)

pub file_rule : (k : Known) (i : Bool) (d : ℕ) (s e : State) (vs : List Node) → Sat k (Fine k i) (Says i) (body table.file) d s e vs → OneNode (is_aimed i d) (act table.file vs)
file_rule k i d s e vs a =
    let o = file_op a.before in let w = a.rest.claim in
    let is : vs ≡ op_node o.one ∷ word_node w.one ∷ [] = a.is ∙ (ap (λ (z : List Node). z ++ a.others) o.is ∙ ap (λ (z : List Node). op_node o.one ∷ z) w.is) in
    record { one = aimed_node o.one w.one; is = ap (λ (z : List Node). op_in z (word_in z)) is; fits = file_fits i d o.one w.one o.fits w.fits.0 }

-- ---- copies

copied_given : (i : Bool) (d : ℕ) (s : State) (op : RedirectOp) (t : Text) → ((w : shape.Parts) → is_copied_word w ≡ true → is_aimed i d (aimed_node op w) ≡ true) → If (λ (y : Leaf Node × State). OneNode (is_aimed i d) (leaf_kids y.0)) (copied_read s op t)
copied_given i d s op [] h = tt
copied_given i d s op (b ∷ bs) h =
    chosen_by (If (λ (y : Leaf Node × State). OneNode (is_aimed i d) (leaf_kids y.0))) (is_copied b && not (unit_starts in_word (clear bs))) _ _
    (λ e. record { one = aimed_node op (part (plain (b ∷ [])) no_part); is = refl; fits = h (part (plain (b ∷ [])) no_part) (both (is_copied b) (not (unit_starts in_word (clear bs))) e).0 }) (λ e. tt)

any_place : (o : Option Text) → If (λ (z : Text). Unit {0}) o
any_place None = tt
any_place (Some x) = tt

copy_given : (i : Bool) (d : ℕ) (s : State) (x : Op × Text) → If (λ (y : Leaf Node × State). OneNode (is_aimed i d) (leaf_kids y.0)) (copy_read s x)
copy_given i d s (LessAnd, rest) = then (λ (z : Text). Unit {0}) (λ (y : Leaf Node × State). OneNode (is_aimed i d) (leaf_kids y.0)) (word_place rest) _ (any_place (word_place rest)) (λ place h. copied_given i d s shape.copy_in place (λ w e. rw e refl))
copy_given i d s (GreatAnd, rest) = then (λ (z : Text). Unit {0}) (λ (y : Leaf Node × State). OneNode (is_aimed i d) (leaf_kids y.0)) (word_place rest) _ (any_place (word_place rest)) (λ place h. copied_given i d s shape.copy_out place (λ w e. rw e refl))
copy_given i d s x = tt

copy_step : {k : Known} {F : State → Type 0} {s e : State} {vs : List Node} (i : Bool) (d : ℕ) → Stepped k F table.copy d s e vs → OneNode (is_aimed i d) vs
unfolding run_step
copy_step {s = s} i d st = by_step (λ (m : State) (ws : List Node). OneNode (is_aimed i d) ws) (copy_given i d s (token s.bytes)) st

-- ---- here-documents

-- how bodies that are expanded are read
abbrev pub Expands : Known → Type 0
Expands k = (d : ℕ) (text : Text) → keeps true text ≡ true → is_lines text ≡ true → If (λ (ps : shape.Parts). (ends_line ps ≡ true) × (parts_fit true d in_body ps ≡ true)) (k.expand d text)

owes_last : (i : Bool) (os : List Owed) (o : Owed) (bodies : List Text) → Owes i (os ++ o ∷ []) bodies → BodyFits i o.literal (nth bodies (length os))
owes_last i [] o [] h = absurd h
owes_last i [] o (b ∷ bs) h = h.0
owes_last i (x ∷ os) o [] h = absurd h
owes_last i (x ∷ os) o (b ∷ bs) h = owes_last i os o bs h.1

nth_behind : (xs ys : List Text) (n m : ℕ) → m ≡ length xs + n → nth (xs ++ ys) m ≡ nth ys n
nth_behind [] ys n m e = ap (nth ys) (omega (arith, e))
nth_behind (x ∷ xs) ys n zero e = absurd (omega (arith, e))
nth_behind (x ∷ xs) ys n (suc m) e = nth_behind xs ys n m (omega (arith, e))

literal_node : (k : Known) (i : Bool) (s : State) (d : ℕ) → BodyFits i true (nth k.bodies s.named) → is_aimed i d (aimed_node shape.here_literal (literal_parts (nth k.bodies s.named))) ≡ true
literal_node k i s d h = rw h refl

aimed_parts : (i : Bool) (d : ℕ) (o : Option shape.Parts) → If (λ (ps : shape.Parts). (ends_line ps ≡ true) × (parts_fit true d in_body ps ≡ true)) o → If (λ (ps : shape.Parts). is_aimed i d (aimed_node shape.here_expanded ps) ≡ true) o
aimed_parts i d None h = tt
aimed_parts i d (Some ps) h = rw (h.0, h.1) refl

expanded_given : (k : Known) (i : Bool) (d : ℕ) (text : Text) → Expands k → BodyFits i false text → If (λ (ps : shape.Parts). is_aimed i d (aimed_node shape.here_expanded ps) ≡ true) (expanded_parts k d text)
expanded_given k i d [] x h = refl
expanded_given k i d (b ∷ bs) x h = aimed_parts i d (k.expand d (b ∷ bs)) (x d (b ∷ bs) h.0 h.1)

node_given : (k : Known) (i : Bool) (s : State) (d : ℕ) (literal : Bool) → Expands k → s.depth ≡ d → BodyFits i literal (nth k.bodies s.named) → If (λ (x : Node). is_aimed i d x ≡ true) (here_node k s literal)
node_given k i s d true x e h = literal_node k i s d h
node_given k i s d false x e h =
    then (λ (ps : shape.Parts). is_aimed i d (aimed_node shape.here_expanded ps) ≡ true) (λ (x : Node). is_aimed i d x ≡ true) (expanded_parts k s.depth (nth k.bodies s.named)) _
    (subst (λ (z : ℕ). If (λ (ps : shape.Parts). is_aimed i d (aimed_node shape.here_expanded ps) ≡ true) (expanded_parts k z (nth k.bodies s.named))) (sym e) (expanded_given k i d (nth k.bodies s.named) x h)) (λ ps p. p)

-- the body of the here-document that is named here
named_body : (k : Known) (i : Bool) (s m : State) (o : Owed) → Forth i s → Back k i m → m.owed ≡ s.owed ++ o ∷ [] → m.found ≡ s.found → BodyFits i o.literal (nth k.bodies s.named)
named_body k i s m o f b e g =
    let w : k.bodies ≡ s.found ++ b.later = b.whole ∙ ap (λ (z : List Text). z ++ b.later) g in
    let n = nth_behind s.found b.later (length s.owed) s.named f.counted in
    let h = owes_last i s.owed o b.later (subst (λ (z : List Owed). Owes i z b.later) e b.owes) in
    subst (BodyFits i o.literal) (sym (ap (λ (z : List Text). nth z s.named) w ∙ n)) h

abbrev Here : Known → Bool → ℕ → State → List Node → Type 0
Here k i d m ws = Back k i m → OneNode (is_aimed i d) ws

record Owing (s m : State) (o : Owed) : Type 0 where
  owed : m.owed ≡ s.owed ++ o ∷ []
  found : m.found ≡ s.found

named_node : (k : Known) (i : Bool) (d : ℕ) (s m : State) (o : Owed) (x : Option Node) → Owing s m o → Forth i s → (BodyFits i o.literal (nth k.bodies s.named) → If (λ (y : Node). is_aimed i d y ≡ true) x) →
    If (λ (y : Leaf Node × State). Here k i d y.1 (leaf_kids y.0)) (x >>= λ y. Some (Rattle.text_grammar.specs.Grammar.said y, m))
named_node k i d s m o None w f h = tt
named_node k i d s m o (Some y) w f h = λ b. record { one = y; is = refl; fits = h (named_body k i s m o f b w.owed w.found) }

any_delimiter : (o : Option ((Text × Bool) × Text)) → If (λ (z : (Text × Bool) × Text). Unit {0}) o
any_delimiter None = tt
any_delimiter (Some x) = tt

after_given : (k : Known) (i : Bool) (d : ℕ) (s : State) (strips : Bool) (t : Text) → Expands k → s.depth ≡ d → Forth i s → If (λ (y : Leaf Node × State). Here k i d y.1 (leaf_kids y.0)) (here_after k s strips t)
after_given k i d s strips t x e f =
    then (λ (z : Text). Unit {0}) (λ (y : Leaf Node × State). Here k i d y.1 (leaf_kids y.0)) (word_place t) _ (any_place (word_place t))
    (λ place h. then (λ (z : (Text × Bool) × Text). Unit {0}) (λ (y : Leaf Node × State). Here k i d y.1 (leaf_kids y.0)) (delimiter_for strips place) _ (any_delimiter (delimiter_for strips place))
    (λ l g. named_node k i d s (record s { bytes = l.1; owed = s.owed ++ record { delimiter = l.0.0; literal = l.0.1; strips = strips } ∷ []; named = suc s.named })
    (record { delimiter = l.0.0; literal = l.0.1; strips = strips }) (here_node k s l.0.1) (record { owed = refl; found = refl }) f (λ b. node_given k i s d l.0.1 x e b)))

here_given : (k : Known) (i : Bool) (d : ℕ) (s : State) (y : Op × Text) → Expands k → s.depth ≡ d → Forth i s → If (λ (y : Leaf Node × State). Here k i d y.1 (leaf_kids y.0)) (here_read k s y)
here_given k i d s (DLess, rest) x e f = after_given k i d s false rest x e f
here_given k i d s (DLessDash, rest) x e f = after_given k i d s true rest x e f
here_given k i d s y x e f = tt

here_step : (k : Known) (i : Bool) (d : ℕ) (s e : State) (vs : List Node) → Expands k → Stepped k (Fine k i) table.here d s e vs → OneNode (is_aimed i d) vs
unfolding run_step
here_step k i d s e vs x st = by_step (Here k i d) (here_given k i d s (token s.bytes) x st.depth st.fine.0) st st.fine_behind.1

pub target_rule : (k : Known) (i : Bool) (d : ℕ) (s e : State) (vs : List Node) → Expands k → Sat k (Fine k i) (Says i) (body table.target) d s e vs → OneNode (is_aimed i d) vs
target_rule k i d s e vs x (inl a) = here_step k i d s e vs x a.1
target_rule k i d s e vs x (inr (t, inl a)) = copy_step i d a.1
target_rule k i d s e vs x (inr (t, inr a)) = a.1.claim
