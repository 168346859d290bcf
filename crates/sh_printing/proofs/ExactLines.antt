-- Bodies of here-documents that were read are lines: literal ones without NUL, expanded ones without joins.
use Rattle.std.proofs.Common.{◌≡◌, ℕ, suc, Bool, true, false, cond, List, [], ◌∷◌, ◌++◌, length, Option, Some, None, refl, sym, ap, subst, ◌∙◌}
use Rattle.std.specs.Prelude.{◌&&◌, not, ◌==◌}
use Rattle.std.specs.List.{list_all}
use Rattle.std.proofs.lemmas.Bool.{false≢true, true≢false}
use Rattle.span_text.proofs.Bytes.{apart}
use Rattle.sh_grammar.specs.Bytes.{Text, is_join, starts}
use Rattle.sh_grammar.specs.Bodies.{Owed, Place, line_start, within, join_at_start, join_within, kept_byte, last_line, or_further, with_byte, behind_byte, body_from, body_at, bodies_at}
use Rattle.sh_grammar.proofs.Tools.{If, then, chosen_by}
use Rattle.sh_printing.specs.Spellable.{ends_with, is_unjoined, keeps}
use Rattle.sh_printing.specs.Printable.{is_body_byte}
use Rattle.sh_printing.proofs.BackBytes.{both, isnt, no_join}
use Rattle.sh_printing.proofs.ExactStates.{is_lines, BodyFits, Owes}
use Rattle.sh_printing.proofs.ExactTails.{Tails, Rest}
use Rattle.sh_printing.proofs.ExactBodies.{body_ends, body_unjoined}

-- ---- what a body is from a place on

-- at the beginning of a line nothing may be left
abbrev LinesAt : Place → Text → Bool
LinesAt line_start body = is_lines body
LinesAt join_at_start body = is_lines body
LinesAt within body = ends_with 10 body
LinesAt join_within body = ends_with 10 body
LinesAt kept_byte body = ends_with 10 body

abbrev is_newline_next : Text → Bool
is_newline_next t = starts (λ b. b == 10) t

-- the next byte of the body is the next one of the text
abbrev SameNext : Place → Text → Text → Type 0
SameNext within t body = is_newline_next body ≡ is_newline_next t
SameNext kept_byte t body = is_newline_next body ≡ is_newline_next t
SameNext line_start t body = Unit {0}
SameNext join_at_start t body = Unit {0}
SameNext join_within t body = Unit {0}

newline_lines : (b : ℕ) (body : Text) → (b == 10) ≡ true → is_lines body ≡ true → ends_with 10 (b ∷ body) ≡ true
newline_lines b [] e h = e
newline_lines b (c ∷ cs) e h = h

longer_lines : (b : ℕ) (body : Text) → ends_with 10 body ≡ true → ends_with 10 (b ∷ body) ≡ true
longer_lines b [] h = absurd (false≢true h)
longer_lines b (c ∷ cs) h = h

lines_any : (p : Place) (b : ℕ) (body : Text) → ends_with 10 (b ∷ body) ≡ true → LinesAt p (b ∷ body) ≡ true
lines_any line_start b body h = h
lines_any join_at_start b body h = h
lines_any within b body h = h
lines_any join_within b body h = h
lines_any kept_byte b body h = h

same_any : (p : Place) (b : ℕ) (bs body : Text) → SameNext p (b ∷ bs) (b ∷ body)
same_any line_start b bs body = tt
same_any join_at_start b bs body = tt
same_any within b bs body = refl
same_any join_within b bs body = tt
same_any kept_byte b bs body = refl

no_and : (a : Bool) → (a && false) ≡ false
no_and true = refl
no_and false = refl

-- a join, by what its second byte is
join_next : (b : ℕ) (t : Text) → is_join b t ≡ ((b == 92) && is_newline_next t)
join_next b [] = sym (no_and (b == 92))
join_next b (c ∷ cs) = refl

-- ---- a body that isn't expanded

record Literal (i : Bool) (q : Bool) (p : Place) (t body : Text) : Type 0 where
  bytes : list_all is_body_byte body ≡ true
  lines : LinesAt p body ≡ true
  next : SameNext p t body
  kept : i ≡ true → is_unjoined q t ≡ true → is_unjoined q body ≡ true

abbrev LiteralIn : Bool → Bool → Place → Text → Text × Text → Type 0
LiteralIn i q p t x = Literal i q p t x.0

nothing_kept : (q : Bool) → is_unjoined q [] ≡ true
nothing_kept true = refl
nothing_kept false = refl

abbrev quoted_next : Bool → ℕ → Bool
quoted_next true b = false
quoted_next false b = b == 92

still_none : (b : ℕ) (bs body : Text) (p : Bool) → (b == 92) ≡ p → (p ≡ true → is_newline_next body ≡ is_newline_next bs) → is_join b bs ≡ false → is_join b body ≡ false
still_none b bs body false e s j = no_join b body e
still_none b bs body true e s j =
    let k : is_newline_next bs ≡ false = subst (λ (z : Bool). (z && is_newline_next bs) ≡ false) e (sym (join_next b bs) ∙ j) in
    join_next b body ∙ (ap (λ (z : Bool). z && is_newline_next body) e ∙ (s refl ∙ k))

-- a byte and what is kept behind it
kept_more : (q : Bool) (b : ℕ) (bs body : Text) → ((b == 92) ≡ true → is_newline_next body ≡ is_newline_next bs) → (is_unjoined (quoted_next q b) bs ≡ true → is_unjoined (quoted_next q b) body ≡ true) → is_unjoined q (b ∷ bs) ≡ true → is_unjoined q (b ∷ body) ≡ true
kept_more true b bs body s h e = h e
kept_more false b bs body s h e =
    let x = both (not (is_join b bs)) (is_unjoined (b == 92) bs) e in
    rw (still_none b bs body (b == 92) refl s (isnt (is_join b bs) x.0), h x.1) refl

newline_kept : (q : Bool) (b : ℕ) (bs body : Text) → (b == 92) ≡ false → (is_unjoined false bs ≡ true → is_unjoined false body ≡ true) → is_unjoined (quoted_next q b) bs ≡ true → is_unjoined (quoted_next q b) body ≡ true
newline_kept true b bs body n h v = h v
newline_kept false b bs body n h v = subst (λ (z : Bool). is_unjoined z body ≡ true) (sym n) (h (subst (λ (z : Bool). is_unjoined z bs ≡ true) n v))

newline_more : (i q : Bool) (p : Place) (b : ℕ) (bs : Text) (x : Text × Text) → (b == 0) ≡ false → (b == 10) ≡ true → LiteralIn i false line_start bs x → LiteralIn i q p (b ∷ bs) (b ∷ x.0, x.1)
newline_more i q p b bs x z e h =
    let n : (b == 92) ≡ false = apart (λ y. y == 10) b 92 e refl in
    record {
      bytes = rw (z, h.bytes) refl;
      lines = lines_any p b x.0 (newline_lines b x.0 e h.lines);
      next = same_any p b bs x.0;
      kept = λ f u. kept_more q b bs x.0 (λ y. absurd (true≢false (sym y ∙ n))) (λ v. newline_kept q b bs x.0 n (h.kept f) v) u;
    }

other_more : (i q : Bool) (p : Place) (b : ℕ) (bs : Text) (x : Text × Text) → (b == 0) ≡ false → LiteralIn i (quoted_next q b) within bs x → LiteralIn i q p (b ∷ bs) (b ∷ x.0, x.1)
other_more i q p b bs x z h =
    record {
      bytes = rw (z, h.bytes) refl;
      lines = lines_any p b x.0 (longer_lines b x.0 h.lines);
      next = same_any p b bs x.0;
      kept = λ f u. kept_more q b bs x.0 (λ y. h.next) (h.kept f) u;
    }

-- so much is known of every place and quotation in the rest
abbrev Further : Bool → Owed → Text → Type 0
Further i o bs = (If (LiteralIn i false line_start bs) (body_from o line_start bs)) × ((q : Bool) → If (LiteralIn i q within bs) (body_from o within bs))

bound : (P Q : Text × Text → Type 0) (b : ℕ) (o : Option (Text × Text)) → If P o → ((x : Text × Text) → P x → Q (b ∷ x.0, x.1)) → If Q (with_byte b o)
bound P Q b None h g = tt
bound P Q b (Some x) h g = g x h

literal_byte : (i q : Bool) (o : Owed) (p : Place) (b : ℕ) (bs : Text) → (b == 0) ≡ false → Further i o bs → If (LiteralIn i q p (b ∷ bs)) (with_byte b (body_from o (cond (b == 10) line_start (cond (b == 92 && not true) kept_byte within)) bs))
literal_byte i q o p b bs z f =
    chosen_by (λ (y : Place). If (LiteralIn i q p (b ∷ bs)) (with_byte b (body_from o y bs))) (b == 10) line_start (cond (b == 92 && not true) kept_byte within)
    (λ e. bound (LiteralIn i false line_start bs) (LiteralIn i q p (b ∷ bs)) b (body_from o line_start bs) f.0 (λ x h. newline_more i q p b bs x z e h))
    (λ e. subst (λ (y : Bool). If (LiteralIn i q p (b ∷ bs)) (with_byte b (body_from o (cond y kept_byte within) bs))) (sym (no_and (b == 92)))
    (bound (LiteralIn i (quoted_next q b) within bs) (LiteralIn i q p (b ∷ bs)) b (body_from o within bs) (f.1 (quoted_next q b)) (λ x h. other_more i q p b bs x z h)))

-- a tab that is dropped
dropped : (i : Bool) (b : ℕ) (bs : Text) (x : Text × Text) → (b == 9) ≡ true → LiteralIn i false line_start bs x → LiteralIn i false line_start (b ∷ bs) x
dropped i b bs x e h =
    let n : (b == 92) ≡ false = apart (λ y. y == 9) b 92 e refl in
    record { bytes = h.bytes; lines = h.lines; next = tt; kept = λ f u. h.kept f (subst (λ (z : Bool). is_unjoined z bs ≡ true) n (both (not (is_join b bs)) (is_unjoined (b == 92) bs) u).1) }

if_dropped : (i : Bool) (b : ℕ) (bs : Text) (o : Option (Text × Text)) → (b == 9) ≡ true → If (LiteralIn i false line_start bs) o → If (LiteralIn i false line_start (b ∷ bs)) o
if_dropped i b bs None e h = tt
if_dropped i b bs (Some x) e h = dropped i b bs x e h

ended : (i : Bool) (t : Text) (o : Option Text) (p : Option (Text × Text)) → If (LiteralIn i false line_start t) p → If (LiteralIn i false line_start t) (or_further o p)
ended i t None p h = h
ended i t (Some rest) p h = record { bytes = refl; lines = refl; next = tt; kept = λ f u. refl }

literal_start : (i : Bool) (o : Owed) (b : ℕ) (bs : Text) (l : Bool) → l ≡ true → Further i o bs →
    If (LiteralIn i false line_start (b ∷ bs)) (cond (b == 0) None (cond (not l && is_join b bs) (body_from o join_at_start bs) (cond (o.strips && true && b == 9) (body_from o line_start bs) (with_byte b (body_from o (behind_byte l b) bs)))))
literal_start i o b bs false e f = absurd (false≢true e)
literal_start i o b bs true e f =
    let P = If (LiteralIn i false line_start (b ∷ bs)) in
    chosen_by P (b == 0) _ _ (λ z. tt)
    (λ z. chosen_by P (o.strips && true && b == 9) _ _ (λ t. if_dropped i b bs (body_from o line_start bs) (both (o.strips && true) (b == 9) t).1 f.0) (λ t. literal_byte i false o line_start b bs z f))

literal_within : (i : Bool) (o : Owed) (q : Bool) (b : ℕ) (bs : Text) (l : Bool) → l ≡ true → Further i o bs →
    If (LiteralIn i q within (b ∷ bs)) (cond (b == 0) None (cond (not l && is_join b bs) (body_from o join_within bs) (cond (o.strips && false && b == 9) (body_from o within bs) (with_byte b (body_from o (behind_byte l b) bs)))))
literal_within i o q b bs false e f = absurd (false≢true e)
literal_within i o q b bs true e f =
    let P = If (LiteralIn i q within (b ∷ bs)) in
    chosen_by P (b == 0) _ _ (λ z. tt)
    (λ z. chosen_by P (o.strips && false && b == 9) _ _ (λ t. absurd (true≢false (sym (both o.strips false (both (o.strips && false) (b == 9) t).0).1))) (λ t. literal_byte i q o within b bs z f))

literal_from : (i : Bool) (o : Owed) → o.literal ≡ true → (t : Text) → Further i o t
unfolding body_from
literal_from i o l [] = (tt, λ q. tt)
literal_from i o l (b ∷ bs) =
    let f = literal_from i o l bs in
    let P = LiteralIn i false line_start (b ∷ bs) in (
      ended i (b ∷ bs) (last_line o line_start (b ∷ bs)) _ (literal_start i o b bs o.literal l f),
      λ q. literal_within i o q b bs o.literal l f,
    )

-- ---- a body that is expanded

-- the byte behind a backslash that makes no join is kept
abbrev NextKept : Place → Text → Text → Type 0
NextKept kept_byte t body = is_newline_next body ≡ is_newline_next t
NextKept p t body = Unit {0}

-- a backslash stands before
abbrev is_quoted : Place → Bool
is_quoted kept_byte = true
is_quoted p = false

record Expanded (p : Place) (t body : Text) : Type 0 where
  lines : LinesAt p body ≡ true
  next : NextKept p t body
  kept : is_unjoined (is_quoted p) body ≡ true

abbrev ExpandedIn : Place → Text → Text × Text → Type 0
ExpandedIn p t x = Expanded p t x.0

abbrev Each : Owed → Text → Type 0
Each o bs = (p : Place) → If (ExpandedIn p bs) (body_from o p bs)

-- behind a place that reads a byte
abbrev reads_byte : Place → Bool
reads_byte line_start = true
reads_byte within = true
reads_byte p = false

byte_facts : (p : Place) (b : ℕ) (bs body : Text) → reads_byte p ≡ true → ends_with 10 (b ∷ body) ≡ true → is_unjoined false (b ∷ body) ≡ true → Expanded p (b ∷ bs) (b ∷ body)
byte_facts line_start b bs body r l u = record { lines = l; next = tt; kept = u }
byte_facts within b bs body r l u = record { lines = l; next = tt; kept = u }
byte_facts join_at_start b bs body r l u = absurd (false≢true r)
byte_facts join_within b bs body r l u = absurd (false≢true r)
byte_facts kept_byte b bs body r l u = absurd (false≢true r)

unjoined_more : (b : ℕ) (body : Text) → (b == 92) ≡ false → is_unjoined false body ≡ true → is_unjoined false (b ∷ body) ≡ true
unjoined_more b body n u = rw (no_join b body n, n) u

unjoined_quote : (b : ℕ) (bs body : Text) → (b == 92) ≡ true → is_join b bs ≡ false → is_newline_next body ≡ is_newline_next bs → is_unjoined true body ≡ true → is_unjoined false (b ∷ body) ≡ true
unjoined_quote b bs body e j s u = rw (still_none b bs body (b == 92) refl (λ x. s) j, e) u

and_left : (a : Bool) → (a && not false) ≡ false → a ≡ false
and_left true e = e
and_left false e = refl

expanded_byte : (o : Owed) (p : Place) (b : ℕ) (bs : Text) → reads_byte p ≡ true → is_join b bs ≡ false → Each o bs → If (ExpandedIn p (b ∷ bs)) (with_byte b (body_from o (cond (b == 10) line_start (cond (b == 92 && not false) kept_byte within)) bs))
expanded_byte o p b bs r j f =
    chosen_by (λ (y : Place). If (ExpandedIn p (b ∷ bs)) (with_byte b (body_from o y bs))) (b == 10) line_start (cond (b == 92 && not false) kept_byte within)
    (λ e. bound (ExpandedIn line_start bs) (ExpandedIn p (b ∷ bs)) b (body_from o line_start bs) (f line_start)
    (λ x h. byte_facts p b bs x.0 r (newline_lines b x.0 e h.lines) (unjoined_more b x.0 (apart (λ y. y == 10) b 92 e refl) h.kept)))
    (λ e. chosen_by (λ (y : Place). If (ExpandedIn p (b ∷ bs)) (with_byte b (body_from o y bs))) (b == 92 && not false) kept_byte within
    (λ q. bound (ExpandedIn kept_byte bs) (ExpandedIn p (b ∷ bs)) b (body_from o kept_byte bs) (f kept_byte)
    (λ x h. byte_facts p b bs x.0 r (longer_lines b x.0 h.lines) (unjoined_quote b bs x.0 (both (b == 92) (not false) q).0 j h.next h.kept)))
    (λ q. bound (ExpandedIn within bs) (ExpandedIn p (b ∷ bs)) b (body_from o within bs) (f within)
    (λ x h. byte_facts p b bs x.0 r (longer_lines b x.0 h.lines) (unjoined_more b x.0 (and_left (b == 92) q) h.kept))))

-- what is known of a join's end, and of a tab that is dropped, is known before it
start_over : (t u : Text) (o : Option (Text × Text)) → If (ExpandedIn line_start t) o → If (ExpandedIn line_start u) o
start_over t u None h = tt
start_over t u (Some x) h = record { lines = h.lines; next = tt; kept = h.kept }

start_of_join : (t u : Text) (o : Option (Text × Text)) → If (ExpandedIn join_at_start t) o → If (ExpandedIn line_start u) o
start_of_join t u None h = tt
start_of_join t u (Some x) h = record { lines = h.lines; next = tt; kept = h.kept }

join_of_start : (t u : Text) (o : Option (Text × Text)) → If (ExpandedIn line_start t) o → If (ExpandedIn join_at_start u) o
join_of_start t u None h = tt
join_of_start t u (Some x) h = record { lines = h.lines; next = tt; kept = h.kept }

within_of_join : (t u : Text) (o : Option (Text × Text)) → If (ExpandedIn join_within t) o → If (ExpandedIn within u) o
within_of_join t u None h = tt
within_of_join t u (Some x) h = record { lines = h.lines; next = tt; kept = h.kept }

join_of_within : (t u : Text) (o : Option (Text × Text)) → If (ExpandedIn within t) o → If (ExpandedIn join_within u) o
join_of_within t u None h = tt
join_of_within t u (Some x) h = record { lines = h.lines; next = tt; kept = h.kept }

ended_expanded : (t : Text) (o : Option Text) (p : Option (Text × Text)) → If (ExpandedIn line_start t) p → If (ExpandedIn line_start t) (or_further o p)
ended_expanded t None p h = h
ended_expanded t (Some rest) p h = record { lines = refl; next = tt; kept = refl }

expanded_start : (o : Owed) (b : ℕ) (bs : Text) (l : Bool) → l ≡ false → Each o bs →
    If (ExpandedIn line_start (b ∷ bs)) (cond (b == 0) None (cond (not l && is_join b bs) (body_from o join_at_start bs) (cond (o.strips && true && b == 9) (body_from o line_start bs) (with_byte b (body_from o (behind_byte l b) bs)))))
expanded_start o b bs true e f = absurd (true≢false e)
expanded_start o b bs false e f =
    let P = If (ExpandedIn line_start (b ∷ bs)) in
    chosen_by P (b == 0) _ _ (λ z. tt)
    (λ z. chosen_by P (is_join b bs) _ _ (λ j. start_of_join bs (b ∷ bs) (body_from o join_at_start bs) (f join_at_start))
    (λ j. chosen_by P (o.strips && true && b == 9) _ _ (λ t. start_over bs (b ∷ bs) (body_from o line_start bs) (f line_start)) (λ t. expanded_byte o line_start b bs refl j f)))

expanded_within : (o : Owed) (b : ℕ) (bs : Text) (l : Bool) → l ≡ false → Each o bs →
    If (ExpandedIn within (b ∷ bs)) (cond (b == 0) None (cond (not l && is_join b bs) (body_from o join_within bs) (cond (o.strips && false && b == 9) (body_from o within bs) (with_byte b (body_from o (behind_byte l b) bs)))))
expanded_within o b bs true e f = absurd (true≢false e)
expanded_within o b bs false e f =
    let P = If (ExpandedIn within (b ∷ bs)) in
    chosen_by P (b == 0) _ _ (λ z. tt)
    (λ z. chosen_by P (is_join b bs) _ _ (λ j. within_of_join bs (b ∷ bs) (body_from o join_within bs) (f join_within))
    (λ j. chosen_by P (o.strips && false && b == 9) _ _ (λ t. absurd (true≢false (sym (both o.strips false (both (o.strips && false) (b == 9) t).0).1))) (λ t. expanded_byte o within b bs refl j f)))

kept_byte_read : (o : Owed) (b : ℕ) (bs : Text) → Each o bs → If (ExpandedIn kept_byte (b ∷ bs)) (cond (b == 0) None (with_byte b (body_from o within bs)))
kept_byte_read o b bs f =
    chosen_by (If (ExpandedIn kept_byte (b ∷ bs))) (b == 0) _ _ (λ z. tt)
    (λ z. bound (ExpandedIn within bs) (ExpandedIn kept_byte (b ∷ bs)) b (body_from o within bs) (f within) (λ x h. record { lines = longer_lines b x.0 h.lines; next = refl; kept = h.kept }))

expanded_from : (o : Owed) → o.literal ≡ false → (t : Text) → Each o t
unfolding body_from
expanded_from o l [] line_start = tt
expanded_from o l [] within = tt
expanded_from o l [] join_at_start = tt
expanded_from o l [] join_within = tt
expanded_from o l [] kept_byte = tt
expanded_from o l (b ∷ bs) join_at_start = join_of_start bs (b ∷ bs) (body_from o line_start bs) (expanded_from o l bs line_start)
expanded_from o l (b ∷ bs) join_within = join_of_within bs (b ∷ bs) (body_from o within bs) (expanded_from o l bs within)
expanded_from o l (b ∷ bs) kept_byte = kept_byte_read o b bs (expanded_from o l bs)
expanded_from o l (b ∷ bs) line_start = ended_expanded (b ∷ bs) (last_line o line_start (b ∷ bs)) _ (expanded_start o b bs o.literal l (expanded_from o l bs))
expanded_from o l (b ∷ bs) within = expanded_within o b bs o.literal l (expanded_from o l bs)

-- ---- bodies one behind the other

keeps_by : (i : Bool) (t : Text) → (i ≡ true → is_unjoined false t ≡ true) → keeps i t ≡ true
keeps_by false t h = refl
keeps_by true t h = h refl

weaken : (P Q : Text × Text → Type 0) (o : Option (Text × Text)) → If P o → ((x : Text × Text) → P x → Q x) → If Q o
weaken P Q None h g = tt
weaken P Q (Some x) h g = g x h

both_of : (P Q : Text × Text → Type 0) (o : Option (Text × Text)) → If P o → If Q o → If (λ x. P x × Q x) o
both_of P Q None h g = tt
both_of P Q (Some x) h g = (h, g)

literal_ok : (i : Bool) (t : Text) (x : Text × Text) → (i ≡ true → is_unjoined false t ≡ true) → LiteralIn i false line_start t x → BodyFits i true x.0
literal_ok i t ([], rest) u h = refl
literal_ok i t (b ∷ bs, rest) u h = rw (h.lines, h.bytes, keeps_by i (b ∷ bs) (λ e. h.kept e (u e))) refl

body_fits_at : (i : Bool) (o : Owed) (t : Text) (l : Bool) → o.literal ≡ l → (i ≡ true → is_unjoined false t ≡ true) → If (λ (x : Text × Text). BodyFits i l x.0) (body_at o t)
unfolding body_at
body_fits_at i o t true l u = weaken (LiteralIn i false line_start t) (λ x. BodyFits i true x.0) (body_from o line_start t) (literal_from i o l t).0 (λ x h. literal_ok i t x u h)
body_fits_at i o t false l u = weaken (ExpandedIn line_start t) (λ x. BodyFits i false x.0) (body_from o line_start t) (expanded_from o l t line_start) (λ x h. (h.kept, h.lines))

any_body : (o : Option (Text × Text)) → If (λ (x : Text × Text). Unit {0}) o
any_body None = tt
any_body (Some x) = tt

rest_unjoined : (i : Bool) (o : Owed) (t : Text) → (i ≡ true → is_unjoined false t ≡ true) → If (λ (x : Text × Text). i ≡ true → is_unjoined false x.1 ≡ true) (body_at o t)
rest_unjoined false o t u = weaken (λ x. Unit {0}) (λ x. false ≡ true → is_unjoined false x.1 ≡ true) (body_at o t) (any_body (body_at o t)) (λ x h e. absurd (false≢true e))
rest_unjoined true o t u = weaken (λ x. is_unjoined false x.1 ≡ true) (λ x. true ≡ true → is_unjoined false x.1 ≡ true) (body_at o t) (body_unjoined o t (false, u refl)) (λ x h e. h)

body_and_rest : (i : Bool) (o : Owed) (t : Text) → (i ≡ true → is_unjoined false t ≡ true) → If (λ (x : Text × Text). BodyFits i o.literal x.0 × (i ≡ true → is_unjoined false x.1 ≡ true)) (body_at o t)
body_and_rest i o t u = both_of (λ x. BodyFits i o.literal x.0) (λ x. i ≡ true → is_unjoined false x.1 ≡ true) (body_at o t) (body_fits_at i o t o.literal refl u) (rest_unjoined i o t u)

-- what bodies are
pub record Bodies (i : Bool) (os : List Owed) (x : List Text × Text) : Type 0 where
  pub owes : (later : List Text) → Owes i os (x.0 ++ later)
  pub many : length x.0 ≡ length os

pub bodies_fit : (i : Bool) (os : List Owed) (t : Text) → (i ≡ true → is_unjoined false t ≡ true) → If (Bodies i os) (bodies_at os t)
unfolding bodies_at
bodies_fit i [] t u = record { owes = λ later. tt; many = refl }
bodies_fit i (o ∷ os) t u =
    then (λ (x : Text × Text). BodyFits i o.literal x.0 × (i ≡ true → is_unjoined false x.1 ≡ true)) (Bodies i (o ∷ os)) (body_at o t) _ (body_and_rest i o t u)
    (λ x h. then (Bodies i os) (Bodies i (o ∷ os)) (bodies_at os x.1) _ (bodies_fit i os x.1 h.1)
    (λ y g. record { owes = λ later. (h.0, g.owes later); many = ap suc g.many }))

pub bodies_end : (P : Text → Type 0) → Tails P → (os : List Owed) (t : Text) → P t → If (Rest {A = List Text} P) (bodies_at os t)
unfolding bodies_at
bodies_end P k [] t h = h
bodies_end P k (o ∷ os) t h =
    then (Rest {A = Text} P) (Rest {A = List Text} P) (body_at o t) _ (body_ends P k o t h) (λ x i. then (Rest {A = List Text} P) (Rest {A = List Text} P) (bodies_at os x.1) _ (bodies_end P k os x.1 i) (λ y j. j))
