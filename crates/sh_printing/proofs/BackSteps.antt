-- The steps of the induction over a script: each node's text from those of its children.
use Rattle.std.proofs.Common.{◌≡◌, ℕ, suc, Bool, true, false, List, [], ◌∷◌, ◌++◌, refl, sym, ap, subst, ◌∙◌, append_assoc}
use Rattle.std.specs.Prelude.{◌==◌, nat_lt}
use Rattle.std.proofs.lemmas.Bool.{true≢false}
use Rattle.std.proofs.lemmas.List.{append-nil}
use Rattle.text_grammar.specs.Grammar.{star, rule, pass, choose, seq}
use Rattle.sh_grammar.specs.Shape as shape
use Rattle.sh_grammar.specs.Shape.{plain, exact, double, tilde, subst as listing, part}
use Rattle.sh_grammar.specs.Bytes.{Text, Context, in_word, in_double, has_single, has_double, gap, starts}
use Rattle.sh_grammar.specs.Tokens.{Newline, is_token, pipeline_next}
use Rattle.sh_grammar.specs.State.{Sum, part_node, word_node, script_node}
use Rattle.sh_grammar.specs.Table.{separates, pipeline_begins, expansion, lines, chain, list, list_more, maybe_list, word, word_parts, value}
use Rattle.sh_grammar.specs.Table as table
use Rattle.sh_grammar.specs.Steps.{Known, limit, holds}
use Rattle.sh_printing.specs.Marks as marks
use Rattle.sh_printing.specs.Marks.{exact_text}
use Rattle.sh_printing.specs.Spellable.{exact_fits}
use Rattle.sh_printing.specs.Printing.{part_text, parts_text, continued, behind_opening, part_opens, parts_open, list_text}
use Rattle.sh_printing.specs.Printable.{part_fits, parts_fit, plain_fits, behind_tilde, is_plain_part, is_expansion}
use Rattle.sh_printing.proofs.BackSays.{Says, nothing, ◌then◌, the_first, the_second, by_rule, saying, to_state}
use Rattle.sh_printing.proofs.BackDue.{Due, named, settled, st, after, after_both, pending_text}
use Rattle.sh_printing.proofs.BackBytes.{joins, no_join, gap_is}
use Rattle.sh_printing.proofs.BackParts.{plain_says, exact_says, escaped_says, double_says, expansion_says}
use Rattle.sh_printing.proofs.BackParams.{listing_says}
use Rattle.sh_printing.proofs.BackTokens.{Outside, close_token}
use Rattle.sh_printing.proofs.BackFronts.{dollar_front, Quoted, by_quotes, by_backslash, quoted_by, quotes_text, part_marked}
use Rattle.sh_printing.proofs.BackBehind.{Closes, parts_on, parts_split, parts_free as parts_unjoined, plain_stops, plain_facts, part_unit}
use Rattle.sh_printing.proofs.BackWords.{Parts, one_part, first_says, tilde_says, tilde_back}
use Rattle.sh_printing.proofs.BackWordFronts.{marked_no_tilde}
use Rattle.sh_printing.proofs.BackLines.{clean, Goes, lines_say, no_lines_say}
use Rattle.sh_printing.proofs.BackLists.{carry_pipeline}
use Rattle.sh_printing.proofs.BackCommands.{ListEnd}
use Rattle.sh_printing.proofs.BackNamed.{part_bodies, parts_bodies, part_closed, parts_closed, list_bodies}
use Rattle.sh_printing.proofs.BackNodes.{part_nodes, parts_back, chain_nodes, chains_only}
use Rattle.sh_printing.proofs.BackSums.{opening_of}

-- ---- what is owed behind a part

pub opening_after : (o : Bool) (g : Due) (bs : List Text) → behind_opening o (opening_of g) ≡ opening_of (after o g bs)
opening_after true g bs = refl
opening_after false g bs = refl

pub after_clean : (o : Bool) (f bs : List Text) → (o ≡ false → bs ≡ []) → after o (clean f) bs ≡ clean (f ++ bs)
after_clean true f bs h = ap (λ (z : List Text). clean (z ++ bs)) (append-nil f)
after_clean false f bs h = ap clean (sym (ap (λ (z : List Text). f ++ z) (h refl) ∙ append-nil f))

-- ---- parts

pub plain_step : (k : Known) (c : Context) (d : ℕ) (q : List Sum) (g : Due) (i : Bool) (text : Text) (ps : shape.Parts) (opening t : Text) → plain_fits c ps text ≡ true → parts_fit i d c ps ≡ true → Closes c t →
    Says k (rule (table.part c)) (st d q g (text ++ parts_on c opening ps t)) (st d q g (parts_on c opening ps t)) (part_node (plain text) ∷ [])
plain_step k c d q g i [] ps opening t e f s = absurd (true≢false (plain_facts c ps [] e).some)
plain_step k c d q g i (b ∷ bs) ps opening t e f s = plain_says k c d q g b bs (parts_on c opening ps t) (plain_facts c ps (b ∷ bs) e).literal (plain_stops i d c opening (b ∷ bs) ps t e f s)

exact_by : (k : Known) (c : Context) (d : ℕ) (q : List Sum) (g : Due) (i : Bool) (text z : Text) → Quoted i c text → Says k (rule (table.part c)) (st d q g (exact_text (has_single c) text ++ z)) (st d q g z) (part_node (exact text) ∷ [])
exact_by k c d q g i text z (by_quotes s r a j) =
    subst (λ (y : Text). Says k (rule (table.part c)) (st d q g y) (st d q g z) (part_node (exact text) ∷ [])) (sym (quotes_text c text z s r)) (exact_says k c d q g text z s a)
exact_by k c d q g i text z (by_backslash b is e n x) =
    subst (λ (y : Text). Says k (rule (table.part c)) (st d q g y) (st d q g z) (part_node (exact text) ∷ [])) (sym (ap (λ (y : Text). y ++ z) x))
    (subst (λ (y : Text). Says k (rule (table.part c)) (st d q g (92 ∷ b ∷ z)) (st d q g z) (part_node (exact y) ∷ [])) (sym is) (escaped_says k c d q g b z e n))

pub exact_step : (k : Known) (c : Context) (d : ℕ) (q : List Sum) (g : Due) (i : Bool) (text z : Text) → exact_fits i c text ≡ true → Says k (rule (table.part c)) (st d q g (exact_text (has_single c) text ++ z)) (st d q g z) (part_node (exact text) ∷ [])
exact_step k c d q g i text z e = exact_by k c d q g i text z (quoted_by i c text e)

pub double_step : (k : Known) (c : Context) (d : ℕ) (q : List Sum) (g h : Due) (ps : shape.Parts) (opening z : Text) → has_double c ≡ true → Parts k in_double d q g h (parts_on in_double opening ps (34 ∷ z)) (34 ∷ z) (part_nodes ps) →
    Says k (rule (table.part c)) (st d q g (34 ∷ ((parts_text true in_double opening ps ++ 34 ∷ []) ++ z))) (st d q h z) (part_node (double ps) ∷ [])
double_step k c d q g h ps opening z s a =
    let t = parts_text true in_double opening ps in
    subst (λ (y : Text). Says k (rule (table.part c)) (st d q g (34 ∷ y)) (st d q h z) (part_node (double ps) ∷ [])) (sym (append_assoc t (34 ∷ []) z))
    (subst (λ (y : shape.Parts). Says k (rule (table.part c)) (st d q g (34 ∷ parts_on in_double opening ps (34 ∷ z))) (st d q h z) (part_node (double y) ∷ [])) (parts_back ps) (double_says k c d q g h (parts_on in_double opening ps (34 ∷ z)) z (part_nodes ps) s a))

-- an expansion is a part
pub expansion_step : (k : Known) (c : Context) (d : ℕ) (q : List Sum) (g h : Due) (i : Bool) (opening : Text) (behind : shape.Parts) (p : shape.Part) (z : Text) → is_expansion p ≡ true → part_fits i d c behind p ≡ true →
    Says k (rule (expansion c)) (st d q g (part_text true c opening (continued behind) p ++ z)) (st d q h z) (part_node p ∷ []) → Says k (rule (table.part c)) (st d q g (part_text true c opening (continued behind) p ++ z)) (st d q h z) (part_node p ∷ [])
expansion_step k c d q g h i opening behind p z x e a =
    let f = dollar_front i d c opening behind p z x e in
    subst (λ (y : Text). Says k (rule (table.part c)) (st d q g y) (st d q h z) (part_node p ∷ [])) (sym f.is)
    (expansion_says k c d q g h f.byte f.more z (part_node p ∷ []) f.goes (subst (λ (y : Text). Says k (rule (expansion c)) (st d q g y) (st d q h z) (part_node p ∷ [])) f.is a))

-- a part in front of others
pub parts_step : (k : Known) (c : Context) (d : ℕ) (q : List Sum) (g : Due) (i : Bool) (p : shape.Part) (ps : shape.Parts) (t : Text) → part_fits i d c ps p ≡ true → parts_fit i d c ps ≡ true → Closes c t →
    Says k (rule (table.part c)) (st d q g (part_text true c (opening_of g) (continued ps) p ++ parts_on c (behind_opening (part_opens p) (opening_of g)) ps t)) (st d q (after (part_opens p) g (part_bodies p)) (parts_on c (behind_opening (part_opens p) (opening_of g)) ps t)) (part_node p ∷ []) →
    Parts k c d q (after (part_opens p) g (part_bodies p)) (after (parts_open ps) (after (part_opens p) g (part_bodies p)) (parts_bodies ps)) (parts_on c (opening_of (after (part_opens p) g (part_bodies p))) ps t) t (part_nodes ps) →
    Parts k c d q g (after (parts_open (part p ps)) g (parts_bodies (part p ps))) (parts_on c (opening_of g) (part p ps) t) t (part_nodes (part p ps))
parts_step k c d q g i p ps t e f s a b =
    let m = after (part_opens p) g (part_bodies p) in
    let w = parts_on c (behind_opening (part_opens p) (opening_of g)) ps t in
    let v = parts_split c (opening_of g) p ps t in
    let b2 : Parts k c d q m (after (parts_open ps) m (parts_bodies ps)) w t (part_nodes ps) = subst (λ (y : Text). Parts k c d q m (after (parts_open ps) m (parts_bodies ps)) (parts_on c y ps t) t (part_nodes ps)) (sym (opening_after (part_opens p) g (part_bodies p))) b in
    let j : joins (part_text true c (opening_of g) (continued ps) p ++ w) ≡ false = subst (λ (y : Text). joins y ≡ false) v (parts_unjoined i d c (opening_of g) (part p ps) t (rw (e, f) refl) s) in
    let u = part_unit i d c (opening_of g) ps p w e in
    subst (λ (y : Text). Parts k c d q g (after (parts_open (part p ps)) g (parts_bodies (part p ps))) y t (part_nodes (part p ps))) (sym v)
    (to_state (ap (λ (z : Due). st d q z t) (after_both (part_opens p) (parts_open ps) g (part_bodies p) (parts_bodies ps) (part_closed p) (parts_closed ps)))
    (one_part k c d q g m (after (parts_open ps) m (parts_bodies ps)) (part_text true c (opening_of g) (continued ps) p ++ w) w t p (part_nodes ps) j u a b2))

-- ---- words

-- what a word's parts say
abbrev pub WordTo : Known → ℕ → List Sum → Due → shape.Parts → Text → Type 0
WordTo k d q g w t = Says k (rule word_parts) (st d q g (parts_on in_word (opening_of g) w t)) (st d q (after (parts_open w) g (parts_bodies w)) t) (part_nodes w)

-- the first part is no tilde
pub word_step : (k : Known) (d : ℕ) (q : List Sum) (g : Due) (p : shape.Part) (ps : shape.Parts) (t : Text) → Rattle.sh_grammar.specs.Tokens.tilde_next (part_text true in_word (opening_of g) (continued ps) p ++ parts_on in_word (behind_opening (part_opens p) (opening_of g)) ps t) ≡ false →
    Says k (rule (table.part in_word)) (st d q g (part_text true in_word (opening_of g) (continued ps) p ++ parts_on in_word (behind_opening (part_opens p) (opening_of g)) ps t)) (st d q (after (part_opens p) g (part_bodies p)) (parts_on in_word (behind_opening (part_opens p) (opening_of g)) ps t)) (part_node p ∷ []) →
    Parts k in_word d q (after (part_opens p) g (part_bodies p)) (after (parts_open ps) (after (part_opens p) g (part_bodies p)) (parts_bodies ps)) (parts_on in_word (opening_of (after (part_opens p) g (part_bodies p))) ps t) t (part_nodes ps) →
    WordTo k d q g (part p ps) t
word_step k d q g p ps t n a b =
    let m = after (part_opens p) g (part_bodies p) in
    let w = parts_on in_word (behind_opening (part_opens p) (opening_of g)) ps t in
    let b2 : Parts k in_word d q m (after (parts_open ps) m (parts_bodies ps)) w t (part_nodes ps) = subst (λ (y : Text). Parts k in_word d q m (after (parts_open ps) m (parts_bodies ps)) (parts_on in_word y ps t) t (part_nodes ps)) (sym (opening_after (part_opens p) g (part_bodies p))) b in
    subst (λ (y : Text). Says k (rule word_parts) (st d q g y) (st d q (after (parts_open (part p ps)) g (parts_bodies (part p ps))) t) (part_nodes (part p ps))) (sym (parts_split in_word (opening_of g) p ps t))
    (to_state (ap (λ (z : Due). st d q z t) (after_both (part_opens p) (parts_open ps) g (part_bodies p) (parts_bodies ps) (part_closed p) (parts_closed ps)))
    (first_says k d q g m (after (parts_open ps) m (parts_bodies ps)) (part_text true in_word (opening_of g) (continued ps) p ++ w) w t p (part_nodes ps) n a b2))

pub tilde_step : (k : Known) (d : ℕ) (q : List Sum) (g : Due) (i : Bool) (ps : shape.Parts) (t : Text) → behind_tilde ps ≡ true → parts_fit i d in_word ps ≡ true → Outside t →
    Parts k in_word d q g (after (parts_open ps) g (parts_bodies ps)) (parts_on in_word (opening_of g) ps t) t (part_nodes ps) → WordTo k d q g (part tilde ps) t
tilde_step k d q g i ps t b e o a = tilde_says k d q g (after (parts_open ps) g (parts_bodies ps)) (parts_on in_word (opening_of g) ps t) t (part_nodes ps) (tilde_back i d (opening_of g) ps t b e o) a

-- the first part is neither plain nor a tilde
pub marked_tilde : (i : Bool) (d : ℕ) (opening : Text) (p : shape.Part) (ps : shape.Parts) (z : Text) → is_plain_part p ≡ false → part_fits i d in_word ps p ≡ true → Rattle.sh_grammar.specs.Tokens.tilde_next (part_text true in_word opening (continued ps) p ++ z) ≡ false
marked_tilde i d opening p ps z n e = marked_no_tilde _ (part_marked i d in_word opening ps p z n e)

-- a word as a node
pub word_node_of : (k : Known) (d : ℕ) (q : List Sum) (g : Due) (bytes : Text) (w : shape.Parts) (t : Text) → gap bytes ≡ parts_on in_word (opening_of g) w t → Rattle.sh_printing.proofs.BackWordFronts.WordFront (parts_on in_word (opening_of g) w t) → WordTo k d q g w t →
    Says k (rule word) (st d q g bytes) (st d q (after (parts_open w) g (parts_bodies w)) t) (word_node w ∷ [])
word_node_of k d q g bytes w t e f a =
    saying (ap (λ (z : shape.Parts). word_node z ∷ []) (parts_back w)) (Rattle.sh_printing.proofs.BackWords.word_says k d q g (after (parts_open w) g (parts_bodies w)) bytes (parts_on in_word (opening_of g) w t) t (part_nodes w) e f.is_word a)

pub value_node_of : (k : Known) (d : ℕ) (q : List Sum) (g : Due) (w : shape.Parts) (t : Text) → WordTo k d q g w t → Says k (rule value) (st d q g (parts_on in_word (opening_of g) w t)) (st d q (after (parts_open w) g (parts_bodies w)) t) (word_node w ∷ [])
value_node_of k d q g w t a = saying (ap (λ (z : shape.Parts). word_node z ∷ []) (parts_back w)) (Rattle.sh_printing.proofs.BackWords.value_says k d q g (after (parts_open w) g (parts_bodies w)) (parts_on in_word (opening_of g) w t) t (part_nodes w) a)

-- ---- lists

-- the commands of a list that has one
abbrev pub ChainsTo : Known → ℕ → List Sum → List Text → List Text → Text → Text → shape.Script → Type 0
ChainsTo k d q f h bytes t s = Goes k (seq (rule chain) (star separates (rule list_more))) (st d q (clean f) bytes) d q (clean h) t (chain_nodes s)

-- of a list that may have none
abbrev pub MaybeTo : Known → ℕ → List Sum → List Text → List Text → Text → Text → shape.Script → Type 0
MaybeTo k d q f h bytes t s = Goes k (choose pipeline_begins (seq (rule chain) (star separates (rule list_more))) pass) (st d q (clean f) bytes) d q (clean h) t (chain_nodes s)

pub no_chains : (k : Known) (d : ℕ) (q : List Sum) (f : List Text) (bytes t : Text) → gap bytes ≡ gap t → ListEnd t → MaybeTo k d q f (f ++ []) bytes t shape.no_chain
unfolding holds
no_chains k d q f bytes t e l =
    record { ahead = bytes; same = e; says = to_state (ap (λ (z : List Text). st d q (clean z) bytes) (sym (append-nil f))) (the_second (carry_pipeline bytes t e ∙ l.no_pipeline) (nothing k (st d q (clean f) bytes))) }

pub some_chains : (k : Known) (d : ℕ) (q : List Sum) (f h : List Text) (bytes t : Text) (s : shape.Script) → pipeline_next bytes ≡ true → ChainsTo k d q f h bytes t s → MaybeTo k d q f h bytes t s
unfolding holds
some_chains k d q f h bytes t s e a = record { ahead = a.ahead; same = a.same; says = the_first e a.says }

-- `list`, where no newline stands before the commands
pub list_node_of : (k : Known) (d : ℕ) (q : List Sum) (f h : List Text) (bytes t : Text) (s : shape.Script) → is_token Newline bytes ≡ false → ChainsTo k d q f h bytes t s → Rattle.sh_printing.proofs.BackCompound.ListTo k d q f h bytes t s
list_node_of k d q f h bytes t s n a =
    record { ahead = a.ahead; same = a.same; says = by_rule list (ap (λ (z : shape.Script). script_node z ∷ []) (chains_only s)) (no_lines_say k d q (clean f) bytes n then a.says) }

pub maybe_node_of : (k : Known) (d : ℕ) (q : List Sum) (f h : List Text) (bytes t : Text) (s : shape.Script) → is_token Newline bytes ≡ false → MaybeTo k d q f h bytes t s → Goes k (rule maybe_list) (st d q (clean f) bytes) d q (clean h) t (script_node s ∷ [])
maybe_node_of k d q f h bytes t s n a =
    record { ahead = a.ahead; same = a.same; says = by_rule maybe_list (ap (λ (z : shape.Script). script_node z ∷ []) (chains_only s)) (no_lines_say k d q (clean f) bytes n then a.says) }

-- a list behind `$(`, where a newline with all that is owed may stand first
abbrev pub OpenedTo : Known → ℕ → List Sum → Due → Text → Type 0
OpenedTo k d q g t = Goes k (rule lines) (st d q g (opening_of g ++ t)) d q (settled g) t []

pub opened : (k : Known) (d : ℕ) (q : List Sum) (g : Due) (t : Text) → is_token Newline t ≡ false → OpenedTo k d q g t
opened k d q g t n = lines_say k d q g.owing g.found t n

opening_first_of : (owed t : Text) → (joins (marks.gap owed ++ t) ≡ false) × (starts (λ b. b == 40) (marks.gap owed ++ t) ≡ false)
opening_first_of [] t = (no_join 32 t refl, refl)
opening_first_of (x ∷ xs) t = (no_join 10 (x ∷ (xs ++ t)) refl, refl)

opening_first : (g : Due) (t : Text) → (joins (opening_of g ++ t) ≡ false) × (starts (λ b. b == 40) (opening_of g ++ t) ≡ false)
opening_first g t = opening_first_of (pending_text g.owing) t

pub listing_step : (k : Known) (c : Context) (d : ℕ) (q : List Sum) (g : Due) (s : shape.Script) (z : Text) → nat_lt d limit ≡ true → (l : OpenedTo k (suc d) q g (list_text true s ++ 41 ∷ z)) →
    MaybeTo k (suc d) q (named g) (named g ++ list_bodies s) l.ahead (41 ∷ z) s →
    Says k (rule (expansion c)) (st d q g (36 ∷ 40 ∷ (((opening_of g ++ list_text true s) ++ 41 ∷ []) ++ z))) (st d q (after true g (list_bodies s)) z) (part_node (listing s) ∷ [])
listing_step k c d q g s z lt l a =
    let t = list_text true s in
    let o = opening_first g (t ++ 41 ∷ z) in
    let e : ((opening_of g ++ t) ++ 41 ∷ []) ++ z ≡ opening_of g ++ (t ++ 41 ∷ z) = append_assoc (opening_of g ++ t) (41 ∷ []) z ∙ append_assoc (opening_of g) t (41 ∷ z) in
    subst (λ (y : Text). Says k (rule (expansion c)) (st d q g (36 ∷ 40 ∷ y)) (st d q (after true g (list_bodies s)) z) (part_node (listing s) ∷ [])) (sym e)
    (listing_says k c d q g (clean (named g ++ list_bodies s)) (opening_of g ++ (t ++ 41 ∷ z)) a.ahead z s lt o.0 o.1 (close_token a.ahead z (a.same ∙ gap_is 41 z refl))
    (by_rule maybe_list (ap (λ (y : shape.Script). script_node y ∷ []) (chains_only s)) (l.says then a.says)))
