-- Parameters read back: `$a`, `${a}`, `${#a}`, and those with a word.
use Rattle.std.proofs.Common.{◌≡◌, ℕ, suc, Bool, true, false, List, [], ◌∷◌, ◌++◌, Some, refl, sym, ap, subst, ◌∙◌, append_assoc}
use Rattle.std.specs.Prelude.{◌&&◌, not, ◌==◌, nat_lt}
use Rattle.span_text.specs.Names.{begins_name, is_digit, is_name}
use Rattle.span_text.proofs.Bytes.{apart}
use Rattle.text_grammar.specs.Grammar.{rule}
use Rattle.sh_grammar.specs.Shape as shape
use Rattle.sh_grammar.specs.Shape.{Param, named, digits, count, status, at, star, FillTest, default, param, as_is, length_of, fill, trim, plain, exact, double, tilde, subst as listing, arith, no_part, part}
use Rattle.sh_grammar.specs.Bytes.{Text, Context, in_word, in_double, in_body, in_brace, in_quoted_brace, in_body_brace, in_body_pattern, is_join, clear, starts, is_literal, is_plain, is_active, fill_context, trim_context}
use Rattle.sh_grammar.specs.Expansions.{filling, trimming, is_close, head_at, param_at}
use Rattle.sh_grammar.specs.State.{Sum, Node, part_node, parts_in}
use Rattle.sh_grammar.specs.Table.{expansion}
use Rattle.sh_grammar.specs.Steps.{Known, limit, is_empty}
use Rattle.sh_printing.specs.Marks.{param_name, param_text, colon_text, test_text, trim_mark}
use Rattle.sh_printing.specs.Spellable.{is_literal_text, is_digits, param_fits, bare_fits, is_count, begins_with}
use Rattle.sh_printing.specs.Printing.{part_text, parts_text, continued, behind_opening, part_opens}
use Rattle.sh_printing.specs.Printable.{part_fits, parts_fit, has_part, plain_begins, is_length, changes_mark, trim_byte}
use Rattle.sh_printing.proofs.BackSays.{Says}
use Rattle.sh_printing.proofs.BackDue.{Due, st}
use Rattle.sh_printing.proofs.BackBytes.{both, neither, no_join, clear_is}
use Rattle.sh_printing.proofs.BackParams.{Ends, Worded, named_says, digit_says, special_says, closed_says, fill_says, trim_says, head_as_is, head_length, head_by, fill_op, fill_ends, fill_op_ends, trim_op, trim_ends, trim_op_ends, name_clear}
use Rattle.sh_printing.proofs.BackFronts.{Marked, part_marked}
use Rattle.sh_printing.proofs.BackBehind.{plain_facts, parts_on, parts_split, parts_free, fill_closes, trim_closes}

-- ---- without a word

braced_text : (name z : Text) → (name ++ 125 ∷ []) ++ z ≡ name ++ 125 ∷ z
braced_text name z = append_assoc name (125 ∷ []) z

-- `${a}`
braced_says : (k : Known) (c : Context) (d : ℕ) (q : List Sum) (g : Due) (p : Param) (z : Text) → nat_lt d limit ≡ true → is_count p ≡ false → param_fits p ≡ true →
    Says k (rule (expansion c)) (st d q g (36 ∷ 123 ∷ ((param_name p ++ 125 ∷ []) ++ z))) (st d q g z) (part_node (param p as_is) ∷ [])
braced_says k c d q g p z lt n f =
    let e = braced_text (param_name p) z in
    closed_says k c d q g ((param_name p ++ 125 ∷ []) ++ z) z p as_is lt (ap (λ (y : Text). head_at (clear y)) e ∙ ap head_at (name_clear p (125 ∷ z) f) ∙ head_as_is p z n f)

pub length_says : (k : Known) (c : Context) (d : ℕ) (q : List Sum) (g : Due) (p : Param) (z : Text) → nat_lt d limit ≡ true → param_fits p ≡ true →
    Says k (rule (expansion c)) (st d q g (36 ∷ 123 ∷ 35 ∷ ((param_name p ++ 125 ∷ []) ++ z))) (st d q g z) (part_node (param p length_of) ∷ [])
length_says k c d q g p z lt f =
    let e = braced_text (param_name p) z in
    closed_says k c d q g (35 ∷ ((param_name p ++ 125 ∷ []) ++ z)) z p length_of lt
    (ap head_at (clear_is (35 ∷ ((param_name p ++ 125 ∷ []) ++ z)) (no_join 35 _ refl)) ∙ ap (λ (y : Text). head_at (35 ∷ y)) e ∙ head_length p z f)

specials : (t : Text) → (param_at (35 ∷ t) ≡ Some (count, t)) × (param_at (63 ∷ t) ≡ Some (status, t)) × (param_at (64 ∷ t) ≡ Some (at, t)) × (param_at (42 ∷ t) ≡ Some (star, t))
unfolding param_at begins_name
specials t = (refl, refl, refl, refl)

-- `$a`
pub bare_back : (k : Known) (c : Context) (d : ℕ) (q : List Sum) (g : Due) (more : Bool) (p : Param) (z : Text) → bare_fits d more p ≡ true → (more ≡ false → Ends z) →
    Says k (rule (expansion c)) (st d q g (param_text more p ++ z)) (st d q g z) (part_node (param p as_is) ∷ [])
bare_back k c d q g true (named name) z f e = let x = both (is_name name) (nat_lt d limit) f in braced_says k c d q g (named name) z x.1 refl x.0
bare_back k c d q g false (named name) z f e = named_says k c d q g name z (both (is_name name) true f).0 (e refl)
bare_back k c d q g more (digits []) z f e = absurd cc
bare_back k c d q g more (digits (b ∷ [])) z f e = digit_says k c d q g b z (both (is_digit b) true (both (is_digits (b ∷ [])) true f).0).0
bare_back k c d q g more (digits (b ∷ x ∷ bs)) z f e = let y = both (is_digits (b ∷ x ∷ bs)) (nat_lt d limit) f in braced_says k c d q g (digits (b ∷ x ∷ bs)) z y.1 refl y.0
bare_back k c d q g more count z f e = special_says k c d q g 35 z count refl refl (specials z).0
bare_back k c d q g more status z f e = special_says k c d q g 63 z status refl refl (specials z).1
bare_back k c d q g more at z f e = special_says k c d q g 64 z at refl refl (specials z).2
bare_back k c d q g more star z f e = special_says k c d q g 42 z star refl refl (specials z).3

-- ---- the first byte of a word between braces

fill_no_close : (c : Context) (bs : Text) → is_literal (fill_context c) 125 bs ≡ false
unfolding is_literal fill_context is_plain is_active
fill_no_close in_word bs = refl
fill_no_close in_double bs = refl
fill_no_close in_body bs = refl
fill_no_close in_brace bs = refl
fill_no_close in_quoted_brace bs = refl
fill_no_close in_body_brace bs = refl
fill_no_close in_body_pattern bs = refl

trim_no_close : (c : Context) (bs : Text) → is_literal (trim_context c) 125 bs ≡ false
unfolding is_literal trim_context is_plain is_active
trim_no_close in_word bs = refl
trim_no_close in_double bs = refl
trim_no_close in_body bs = refl
trim_no_close in_brace bs = refl
trim_no_close in_quoted_brace bs = refl
trim_no_close in_body_brace bs = refl
trim_no_close in_body_pattern bs = refl

plain_no_close : (c : Context) (text z : Text) → ((bs : Text) → is_literal c 125 bs ≡ false) → is_empty text ≡ false → is_literal_text c text ≡ true → starts (λ b. b == 125) (text ++ z) ≡ false
plain_no_close c [] z h s e = absurd (Rattle.std.proofs.lemmas.Bool.true≢false s)
plain_no_close c (b ∷ bs) z h s e = apart (λ y. is_literal c y bs) b 125 (both (not (is_join b bs)) (is_literal c b bs) (both (not (is_join b bs) && is_literal c b bs) (is_literal_text c bs) e).0).1 (h bs)

part_no_close : (i : Bool) (d : ℕ) (c : Context) (opening : Text) (behind : shape.Parts) (p : shape.Part) (z : Text) → ((bs : Text) → is_literal c 125 bs ≡ false) → part_fits i d c behind p ≡ true → starts (λ b. b == 125) (part_text true c opening (continued behind) p ++ z) ≡ false
part_no_close i d c opening behind (plain text) z h e = let f = plain_facts c behind text e in plain_no_close c text z h f.some f.literal
part_no_close i d c opening behind (exact text) z h e = (part_marked i d c opening behind (exact text) z refl e).no_close
part_no_close i d c opening behind (double ps) z h e = (part_marked i d c opening behind (double ps) z refl e).no_close
part_no_close i d c opening behind tilde z h e = absurd cc
part_no_close i d c opening behind (param p o) z h e = (part_marked i d c opening behind (param p o) z refl e).no_close
part_no_close i d c opening behind (listing s) z h e = (part_marked i d c opening behind (listing s) z refl e).no_close
part_no_close i d c opening behind (arith s ws) z h e = (part_marked i d c opening behind (arith s ws) z refl e).no_close

word_no_close : (i : Bool) (d : ℕ) (c : Context) (opening : Text) (w : shape.Parts) (t : Text) → ((bs : Text) → is_literal c 125 bs ≡ false) → parts_fit i d c w ≡ true → has_part w ≡ true → is_close (parts_on c opening w t) ≡ false
word_no_close i d c opening no_part t h e n = absurd cc
word_no_close i d c opening (part p ps) t h e n =
    Rattle.std.proofs.Common.subst (λ (z : Text). starts (λ b. b == 125) z ≡ false) (sym (parts_split c opening p ps t)) (part_no_close i d c opening ps p (parts_on c (behind_opening (part_opens p) opening) ps t) h (both (part_fits i d c ps p) (parts_fit i d c ps) e).0)

-- the mark's own byte
plain_no_mark : (suffix : Bool) (text z : Text) → is_empty text ≡ false → begins_with (trim_byte suffix) text ≡ false → starts (λ b. b == trim_byte suffix) (text ++ z) ≡ false
plain_no_mark suffix [] z s e = absurd (Rattle.std.proofs.lemmas.Bool.true≢false s)
plain_no_mark suffix (b ∷ bs) z s e = e

marked_no_mark : (suffix : Bool) (c : Context) (t : Text) → Marked c t → starts (λ b. b == trim_byte suffix) t ≡ false
marked_no_mark true c t m = m.no_percent
marked_no_mark false c t m = m.no_hash

close_no_mark : (suffix : Bool) (t : Text) → starts (λ b. b == trim_byte suffix) (125 ∷ t) ≡ false
close_no_mark true t = refl
close_no_mark false t = refl

part_no_mark : (suffix i : Bool) (d : ℕ) (c : Context) (opening : Text) (p : shape.Part) (ps : shape.Parts) (z : Text) → plain_begins (trim_byte suffix) (part p ps) ≡ false → part_fits i d c ps p ≡ true → starts (λ b. b == trim_byte suffix) (part_text true c opening (continued ps) p ++ z) ≡ false
part_no_mark suffix i d c opening (plain text) ps z n e = let f = plain_facts c ps text e in plain_no_mark suffix text z f.some n
part_no_mark suffix i d c opening (exact text) ps z n e = marked_no_mark suffix c _ (part_marked i d c opening ps (exact text) z refl e)
part_no_mark suffix i d c opening (double qs) ps z n e = marked_no_mark suffix c _ (part_marked i d c opening ps (double qs) z refl e)
part_no_mark suffix i d c opening tilde ps z n e = absurd cc
part_no_mark suffix i d c opening (param p o) ps z n e = marked_no_mark suffix c _ (part_marked i d c opening ps (param p o) z refl e)
part_no_mark suffix i d c opening (listing s) ps z n e = marked_no_mark suffix c _ (part_marked i d c opening ps (listing s) z refl e)
part_no_mark suffix i d c opening (arith s ws) ps z n e = marked_no_mark suffix c _ (part_marked i d c opening ps (arith s ws) z refl e)

word_no_mark : (suffix i : Bool) (d : ℕ) (c : Context) (opening : Text) (w : shape.Parts) (t : Text) → plain_begins (trim_byte suffix) w ≡ false → parts_fit i d c w ≡ true → starts (λ b. b == trim_byte suffix) (parts_on c opening w (125 ∷ t)) ≡ false
word_no_mark suffix i d c opening no_part t n e = close_no_mark suffix t
word_no_mark suffix i d c opening (part p ps) t n e =
    Rattle.std.proofs.Common.subst (λ (z : Text). starts (λ b. b == trim_byte suffix) z ≡ false) (sym (parts_split c opening p ps (125 ∷ t))) (part_no_mark suffix i d c opening p ps (parts_on c (behind_opening (part_opens p) opening) ps (125 ∷ t)) n (both (part_fits i d c ps p) (parts_fit i d c ps) e).0)

-- ---- with a word

-- ((((a ++ b) ++ c) ++ d) ++ e), grouped to the right
pub right_five : (a b c e z : Text) → (((a ++ b) ++ c) ++ e) ++ z ≡ a ++ (b ++ (c ++ (e ++ z)))
right_five a b c e z = append_assoc ((a ++ b) ++ c) e z ∙ append_assoc (a ++ b) c (e ++ z) ∙ append_assoc a b (c ++ (e ++ z))

not_length : (p : Param) (w : shape.Parts) → is_length p default false w ≡ false → is_count p ≡ true → has_part w ≡ true
not_length p no_part e n = let x : (is_count p && true && true) ≡ false = e in absurd (Rattle.std.proofs.lemmas.Bool.true≢false (sym (rw n refl) ∙ x))
not_length p (part q w) e n = refl

-- what stands behind `${a-`
abbrev pub word_on : Context → Text → shape.Parts → Text → Text
word_on c opening w z = parts_on c opening w (125 ∷ z)

fill_close : (p : Param) (i : Bool) (d : ℕ) (c : Context) (opening : Text) (w : shape.Parts) (z : Text) (f : FillTest) (colon : Bool) → is_length p f colon w ≡ false → parts_fit i d (fill_context c) w ≡ true → is_count p ≡ true →
    f ≡ default → colon ≡ false → is_close (clear (word_on (fill_context c) opening w z)) ≡ false
fill_close p i d c opening w z f colon e a n x y =
    let l : is_length p default false w ≡ false = subst (λ (v : Bool). is_length p default v w ≡ false) y (subst (λ (v : FillTest). is_length p v colon w ≡ false) x e) in
    ap is_close (clear_is (word_on (fill_context c) opening w z) (parts_free i d (fill_context c) opening w (125 ∷ z) a (fill_closes c z)))
    ∙ word_no_close i d (fill_context c) opening w (125 ∷ z) (fill_no_close c) a (not_length p w l n)

fill_head : (p : Param) (i : Bool) (d : ℕ) (c : Context) (opening : Text) (w : shape.Parts) (z : Text) (f : FillTest) (colon : Bool) → param_fits p ≡ true → is_length p f colon w ≡ false → parts_fit i d (fill_context c) w ≡ true →
    head_at (param_name p ++ (colon_text colon ++ (test_text f ++ word_on (fill_context c) opening w z))) ≡ Some (filling p f colon, word_on (fill_context c) opening w z)
fill_head p i d c opening w z f colon n e a =
    let v = word_on (fill_context c) opening w z in
    head_by p (colon_text colon ++ (test_text f ++ v)) n (fill_ends f colon v) (λ k. fill_op_ends f colon v (λ x y. fill_close p i d c opening w z f colon e a k x y)) ∙ fill_op p f colon v

-- the text behind `${`
fill_text : (c : Context) (opening : Text) (p : Param) (f : FillTest) (colon : Bool) (w : shape.Parts) (z : Text) →
    part_text true c opening false (param p (fill f colon w)) ++ z ≡ 36 ∷ 123 ∷ (param_name p ++ (colon_text colon ++ (test_text f ++ word_on (fill_context c) opening w z)))
fill_text c opening p f colon w z =
    let t = parts_text true (fill_context c) opening w in
    ap (λ (y : Text). 36 ∷ 123 ∷ y)
    (append_assoc (((param_name p ++ colon_text colon) ++ test_text f) ++ t) (125 ∷ []) z ∙ right_five (param_name p) (colon_text colon) (test_text f) t (125 ∷ z))

pub fill_back : (k : Known) (i : Bool) (c : Context) (d : ℕ) (q : List Sum) (g h : Due) (opening : Text) (more : Bool) (p : Param) (f : FillTest) (colon : Bool) (w : shape.Parts) (z : Text) (xs : List Node) → nat_lt d limit ≡ true → param_fits p ≡ true → is_length p f colon w ≡ false → parts_fit i (suc d) (fill_context c) w ≡ true → parts_in xs ≡ w →
    Worded k (fill_context c) d q g h (word_on (fill_context c) opening w z) z xs → Says k (rule (expansion c)) (st d q g (part_text true c opening more (param p (fill f colon w)) ++ z)) (st d q h z) (part_node (param p (fill f colon w)) ∷ [])
fill_back k i c d q g h opening more p f colon w z xs lt n e a is s =
    let bytes = param_name p ++ (colon_text colon ++ (test_text f ++ word_on (fill_context c) opening w z)) in
    let r = fill_says k c d q g h bytes (word_on (fill_context c) opening w z) z p f colon xs lt (ap head_at (name_clear p (colon_text colon ++ (test_text f ++ word_on (fill_context c) opening w z)) n) ∙ fill_head p i (suc d) c opening w z f colon n e a) s in
    subst (λ (y : Text). Says k (rule (expansion c)) (st d q g y) (st d q h z) (part_node (param p (fill f colon w)) ∷ [])) (sym (fill_text c opening p f colon w z))
    (subst (λ (y : shape.Parts). Says k (rule (expansion c)) (st d q g (36 ∷ 123 ∷ bytes)) (st d q h z) (part_node (param p (fill f colon y)) ∷ [])) is r)

-- ---- `${a%w}`

mark_facts : (p : Param) (suffix : Bool) (w : shape.Parts) → changes_mark p suffix false w ≡ false → (plain_begins (trim_byte suffix) w ≡ false) × (suffix ≡ false → is_count p ≡ true → has_part w ≡ true)
mark_facts p suffix no_part e =
    (refl, λ x n. (let y : (is_count p && not suffix && true) ≡ false = e in absurd (Rattle.std.proofs.lemmas.Bool.true≢false (sym (rw (n, x) refl) ∙ y))))
mark_facts p suffix (part q w) e = ((neither (plain_begins (trim_byte suffix) (part q w)) (is_count p && not suffix && not (has_part (part q w))) e).0, λ x n. refl)

trim_mark_free : (p : Param) (suffix longest : Bool) (i : Bool) (d : ℕ) (c : Context) (opening : Text) (w : shape.Parts) (z : Text) → changes_mark p suffix longest w ≡ false → parts_fit i d (trim_context c) w ≡ true → longest ≡ false → starts (λ b. b == trim_byte suffix) (word_on (trim_context c) opening w z) ≡ false
trim_mark_free p suffix longest i d c opening w z e a x = word_no_mark suffix i d (trim_context c) opening w z (mark_facts p suffix w (subst (λ (v : Bool). changes_mark p suffix v w ≡ false) x e)).0 a

trim_close : (p : Param) (suffix longest : Bool) (i : Bool) (d : ℕ) (c : Context) (opening : Text) (w : shape.Parts) (z : Text) → changes_mark p suffix longest w ≡ false → parts_fit i d (trim_context c) w ≡ true → is_count p ≡ true → suffix ≡ false → longest ≡ false → is_close (word_on (trim_context c) opening w z) ≡ false
trim_close p suffix longest i d c opening w z e a n x y = word_no_close i d (trim_context c) opening w (125 ∷ z) (trim_no_close c) a ((mark_facts p suffix w (subst (λ (v : Bool). changes_mark p suffix v w ≡ false) y e)).1 x n)

trim_head : (p : Param) (i : Bool) (d : ℕ) (c : Context) (opening : Text) (w : shape.Parts) (z : Text) (suffix longest : Bool) → param_fits p ≡ true → changes_mark p suffix longest w ≡ false → parts_fit i d (trim_context c) w ≡ true →
    head_at (param_name p ++ (trim_mark suffix longest ++ word_on (trim_context c) opening w z)) ≡ Some (trimming p suffix longest, word_on (trim_context c) opening w z)
trim_head p i d c opening w z suffix longest n e a =
    let v = word_on (trim_context c) opening w z in
    let f = parts_free i d (trim_context c) opening w (125 ∷ z) a (trim_closes c z) in
    head_by p (trim_mark suffix longest ++ v) n (trim_ends suffix longest v) (λ k. trim_op_ends suffix longest v f (λ x y. trim_close p suffix longest i d c opening w z e a k x y))
    ∙ trim_op p suffix longest v f (λ x. trim_mark_free p suffix longest i d c opening w z e a x)

pub right_four : (a b c z : Text) → ((a ++ b) ++ c) ++ z ≡ a ++ (b ++ (c ++ z))
right_four a b c z = append_assoc (a ++ b) c z ∙ append_assoc a b (c ++ z)

trim_text : (c : Context) (opening : Text) (p : Param) (suffix longest : Bool) (w : shape.Parts) (z : Text) →
    part_text true c opening false (param p (trim suffix longest w)) ++ z ≡ 36 ∷ 123 ∷ (param_name p ++ (trim_mark suffix longest ++ word_on (trim_context c) opening w z))
trim_text c opening p suffix longest w z =
    let t = parts_text true (trim_context c) opening w in
    ap (λ (y : Text). 36 ∷ 123 ∷ y)
    (append_assoc ((param_name p ++ trim_mark suffix longest) ++ t) (125 ∷ []) z ∙ right_four (param_name p) (trim_mark suffix longest) t (125 ∷ z))

pub trim_back : (k : Known) (i : Bool) (c : Context) (d : ℕ) (q : List Sum) (g h : Due) (opening : Text) (more : Bool) (p : Param) (suffix longest : Bool) (w : shape.Parts) (z : Text) (xs : List Node) → nat_lt d limit ≡ true → param_fits p ≡ true → changes_mark p suffix longest w ≡ false → parts_fit i (suc d) (trim_context c) w ≡ true → parts_in xs ≡ w →
    Worded k (trim_context c) d q g h (word_on (trim_context c) opening w z) z xs → Says k (rule (expansion c)) (st d q g (part_text true c opening more (param p (trim suffix longest w)) ++ z)) (st d q h z) (part_node (param p (trim suffix longest w)) ∷ [])
trim_back k i c d q g h opening more p suffix longest w z xs lt n e a is s =
    let bytes = param_name p ++ (trim_mark suffix longest ++ word_on (trim_context c) opening w z) in
    let r = trim_says k c d q g h bytes (word_on (trim_context c) opening w z) z p suffix longest xs lt (ap head_at (name_clear p (trim_mark suffix longest ++ word_on (trim_context c) opening w z) n) ∙ trim_head p i (suc d) c opening w z suffix longest n e a) s in
    subst (λ (y : Text). Says k (rule (expansion c)) (st d q g y) (st d q h z) (part_node (param p (trim suffix longest w)) ∷ [])) (sym (trim_text c opening p suffix longest w z))
    (subst (λ (y : shape.Parts). Says k (rule (expansion c)) (st d q g (36 ∷ 123 ∷ bytes)) (st d q h z) (part_node (param p (trim suffix longest y)) ∷ [])) is r)
