-- Words of a command that were read: no comment, and the first one no assignment and no reserved word.
use Rattle.std.proofs.Common.{◌≡◌, ℕ, Bool, true, false, cond, List, [], ◌∷◌, Some, refl, sym, ap, subst, ◌∙◌}
use Rattle.std.specs.Prelude.{◌||◌, not, ◌==◌}
use Rattle.std.proofs.lemmas.Bool.{false≢true}
use Rattle.span_text.specs.Names.{begins_name, continues_name}
use Rattle.span_text.specs.KnownNames.{same_text}
use Rattle.span_text.proofs.Bytes.{apart, first_is_name}
use Rattle.text_grammar.specs.Grammar.{Leaf}
use Rattle.sh_grammar.specs.Shape as shape
use Rattle.sh_grammar.specs.Shape.{plain, exact, double, tilde, param, subst as listing, arith, no_part, part, no_word, word, no_assign, assign}
use Rattle.sh_grammar.specs.Bytes.{Text, in_word, is_join, clear, comment_end, is_blank, gap_from, gap, starts, with_byte, run_from, is_literal, literal_run, unit_starts, name_run}
use Rattle.sh_grammar.specs.Tokens.{Key, Then, Elif, Else, Fi, For, In, Until, While, Do, Done, Case, Esac, OpenBrace, CloseBrace, Bang, key_text, Word, is_token, bare, is_whole, is_key, opens_compound, is_other_key, name_next, name_at, assign_at, assign_next, behind, is_something, ◌>>=◌}
use Rattle.sh_grammar.specs.Tokens as tokens
use Rattle.sh_grammar.specs.State.{State, Node, word_node, parts_in}
use Rattle.sh_grammar.specs.Steps.{Known, run_step, word_place}
use Rattle.sh_grammar.specs.Table.{Rule, body}
use Rattle.sh_grammar.specs.Table as table
use Rattle.sh_grammar.specs.Acts.{act}
use Rattle.sh_grammar.proofs.Tools.{If, then, chosen_by}
use Rattle.sh_printing.specs.Spellable.{is_text, is_reserved_text, begins_with, begins_assign, equals_behind}
use Rattle.sh_printing.specs.Printable.{plain_begins, is_assignment, is_reserved_word, word_fits, patterns_fit}
use Rattle.sh_printing.proofs.BackBytes.{both, isnt, joins, no_join, clear_is}
use Rattle.sh_printing.proofs.ExactBytes.{Ran, literal_ran}
use Rattle.sh_printing.proofs.ExactParts.{Fronts, OnePart, same_byte, by_step}
use Rattle.sh_printing.proofs.ExactRules.{Stepped, Sat}
use Rattle.sh_printing.proofs.ExactStates.{Fine}
use Rattle.sh_printing.proofs.ExactSteps.{nothing_said, skip}
use Rattle.sh_printing.proofs.ExactClaims.{WordFront, Says}
use Rattle.sh_printing.proofs.ExactExpansions.{parts_behind}

-- ---- behind a gap

abbrev Solid : Text → Type 0
Solid t = (joins t ≡ false) × (starts (λ b. b == 35) t ≡ false)

comment_solid : (t : Text) → Solid (comment_end t)
unfolding comment_end
comment_solid [] = (refl, refl)
comment_solid (b ∷ bs) =
    chosen_by Solid (b == 10) (b ∷ bs) (comment_end bs)
    (λ e. (no_join b bs (apart (λ z. z == 10) b 92 e refl), apart (λ z. z == 10) b 35 e refl)) (λ e. comment_solid bs)

gap_from_solid : (q : Bool) (t : Text) → Solid (gap_from q t)
gap_from_solid true [] = (refl, refl)
gap_from_solid false [] = (refl, refl)
gap_from_solid true (b ∷ bs) = gap_from_solid false bs
gap_from_solid false (b ∷ bs) =
    let hash = cond (b == 35) (comment_end bs) (b ∷ bs) in
    let join = cond (is_join b bs) (gap_from true bs) hash in
    chosen_by Solid (is_blank b) (gap_from false bs) join (λ e. gap_from_solid false bs)
    (λ e. chosen_by Solid (is_join b bs) (gap_from true bs) hash (λ j. gap_from_solid true bs)
    (λ j. chosen_by Solid (b == 35) (comment_end bs) (b ∷ bs) (λ h. comment_solid bs) (λ h. (j, h))))

-- no join and no comment begins there
pub gap_solid : (t : Text) → (joins (gap t) ≡ false) × (starts (λ b. b == 35) (gap t) ≡ false)
unfolding gap
gap_solid t = gap_from_solid false t

-- ---- assignments

abbrev is_equals : Text → Bool
is_equals t = starts (λ b. b == 61) t

abbrev EqualsAt : Bool → Text → Type 0
EqualsAt q t = equals_behind (run_from (is_literal in_word) q t).0 ≡ true → is_equals (clear (run_from (λ b bs. continues_name b) q t).1) ≡ true

equals_byte : (b : ℕ) (bs : Text) (g c : Bool) → is_join b bs ≡ false → is_literal in_word b bs ≡ g → continues_name b ≡ c → EqualsAt false bs →
    equals_behind (cond g (with_byte b (run_from (is_literal in_word) false bs)) ([], b ∷ bs)).0 ≡ true → is_equals (clear (cond c (with_byte b (run_from (λ b bs. continues_name b) false bs)) ([], b ∷ bs)).1) ≡ true
equals_byte b bs false c j g k h e = absurd (false≢true e)
equals_byte b bs true true j g k h e = h (subst (λ (z : Bool). cond z (equals_behind (run_from (is_literal in_word) false bs).0) (b == 61) ≡ true) k e)
equals_byte b bs true false j g k h e =
    let f : (b == 61) ≡ true = subst (λ (z : Bool). cond z (equals_behind (run_from (is_literal in_word) false bs).0) (b == 61) ≡ true) k e in
    subst (λ (z : Text). is_equals z ≡ true) (sym (clear_is (b ∷ bs) j)) f

equals_join : (b : ℕ) (bs : Text) (p : Bool) → is_join b bs ≡ p → EqualsAt true bs → EqualsAt false bs →
    equals_behind (cond p (run_from (is_literal in_word) true bs) (cond (is_literal in_word b bs) (with_byte b (run_from (is_literal in_word) false bs)) ([], b ∷ bs))).0 ≡ true →
    is_equals (clear (cond p (run_from (λ b bs. continues_name b) true bs) (cond (continues_name b) (with_byte b (run_from (λ b bs. continues_name b) false bs)) ([], b ∷ bs))).1) ≡ true
equals_join b bs true j h i e = h e
equals_join b bs false j h i e = equals_byte b bs (is_literal in_word b bs) (continues_name b) j refl refl i e

equals_from : (q : Bool) (t : Text) → EqualsAt q t
equals_from true [] e = absurd (false≢true e)
equals_from false [] e = absurd (false≢true e)
equals_from true (b ∷ bs) e = equals_from false bs e
equals_from false (b ∷ bs) e = equals_join b bs (is_join b bs) refl (equals_from true bs) (equals_from false bs) e

equals_continue : (b : ℕ) (text : Text) → begins_name b ≡ true → equals_behind text ≡ true → equals_behind (b ∷ text) ≡ true
equals_continue b text n e = rw (first_is_name b n) e

behind_equals : (n t : Text) → is_equals t ≡ true → is_something {A = Text × Text} (behind 61 t >>= λ rest. Some (n, rest)) ≡ true
behind_equals n [] e = absurd (false≢true e)
behind_equals n (b ∷ bs) e = rw e refl

-- bytes that begin as an assignment does are one
assign_ahead_at : (text g : Text) → (literal_run in_word g).0 ≡ text → starts begins_name g ≡ true → begins_assign text ≡ true → is_something {A = Text × Text} (name_at g >>= λ x. behind 61 (clear x.1) >>= λ rest. Some (x.0, rest)) ≡ true
unfolding name_at literal_run name_run
assign_ahead_at [] g r n e = absurd (false≢true e)
assign_ahead_at (b ∷ bs) g r n e =
    let x = both (begins_name b) (equals_behind bs) e in
    let q = equals_from false g (subst (λ (z : Text). equals_behind z ≡ true) (sym r) (equals_continue b bs x.0 x.1)) in
    rw n (behind_equals (run_from (λ b bs. continues_name b) false g).0 (clear (run_from (λ b bs. continues_name b) false g).1) q)

first_of_run : (t : Text) (b : ℕ) (bs : Text) → joins t ≡ false → (literal_run in_word t).0 ≡ b ∷ bs → starts (λ z. z == b) t ≡ true
first_of_run t b bs j r =
    let ran = literal_ran in_word t in
    let f = subst (λ (z : Text). Ran in_word (clear t) z (literal_run in_word t).1) r ran in
    subst (λ (z : Text). starts (λ y. y == b) z ≡ true) (clear_is t j) f.front.0

no_assignment : (bytes text : Text) → (literal_run in_word (gap bytes)).0 ≡ text → assign_next bytes ≡ false → begins_assign text ≡ true → ⊥
unfolding assign_next assign_at
no_assignment bytes [] r n e = false≢true e
no_assignment bytes (b ∷ bs) r n e =
    let x = both (begins_name b) (equals_behind bs) e in
    let f = first_of_run (gap bytes) b bs (gap_solid bytes).0 r in
    false≢true (sym n ∙ assign_ahead_at (b ∷ bs) (gap bytes) r (same_byte begins_name b (gap bytes) f ∙ x.0) e)

not_so : (a : Bool) → (a ≡ true → ⊥) → a ≡ false
not_so true h = absurd (h refl)
not_so false h = refl

pub no_assign_word : (bytes : Text) (w : shape.Parts) → WordFront w (gap bytes) → assign_next bytes ≡ false → is_assignment w ≡ false
no_assign_word bytes no_part f n = refl
no_assign_word bytes (part (plain text) no_part) f n = not_so (begins_assign text) (λ e. no_assignment bytes text f.0 n e)
no_assign_word bytes (part (plain text) (part q qs)) f n = not_so (begins_assign text) (λ e. no_assignment bytes text f n e)
no_assign_word bytes (part (exact text) ps) f n = refl
no_assign_word bytes (part (double qs) ps) f n = refl
no_assign_word bytes (part tilde ps) f n = refl
no_assign_word bytes (part (param p o) ps) f n = refl
no_assign_word bytes (part (listing s) ps) f n = refl
no_assign_word bytes (part (arith x ws) ps) f n = refl

-- ---- reserved words

key_is : (k : Key) (bytes text : Text) → (bare bytes).0 ≡ text → unit_starts in_word (bare bytes).1 ≡ false → is_key k bytes ≡ is_text k text
unfolding is_key
key_is k bytes text r u = rw u (ap (λ (z : Text). same_text z (key_text k)) r)

pub reserved_is : (bytes text : Text) → (bare bytes).0 ≡ text → unit_starts in_word (bare bytes).1 ≡ false → (opens_compound bytes || is_other_key bytes) ≡ is_reserved_text text
reserved_is bytes text r u =
    rw (
      key_is tokens.If bytes text r u,
      key_is For bytes text r u,
      key_is While bytes text r u,
      key_is Until bytes text r u,
      key_is Case bytes text r u,
      key_is OpenBrace bytes text r u,
      key_is Then bytes text r u,
      key_is Elif bytes text r u,
      key_is Else bytes text r u,
      key_is Fi bytes text r u,
      key_is In bytes text r u,
      key_is Do bytes text r u,
      key_is Done bytes text r u,
      key_is Esac bytes text r u,
      key_is CloseBrace bytes text r u,
      key_is Bang bytes text r u,
    ) refl

pub no_reserved_word : (bytes : Text) (w : shape.Parts) → WordFront w (gap bytes) → name_next bytes ≡ true → is_reserved_word w ≡ false
unfolding name_next
no_reserved_word bytes no_part f n = refl
no_reserved_word bytes (part (plain text) no_part) f n =
    sym (reserved_is bytes text f.0 f.1) ∙ isnt (opens_compound bytes || is_other_key bytes) (both (is_token Word bytes) (not (opens_compound bytes || is_other_key bytes)) n).1
no_reserved_word bytes (part (plain text) (part q qs)) f n = refl
no_reserved_word bytes (part (exact text) ps) f n = refl
no_reserved_word bytes (part (double qs) ps) f n = refl
no_reserved_word bytes (part tilde ps) f n = refl
no_reserved_word bytes (part (param p o) ps) f n = refl
no_reserved_word bytes (part (listing s) ps) f n = refl
no_reserved_word bytes (part (arith x ws) ps) f n = refl

-- ---- the rules

no_comment : (text g : Text) → joins g ≡ false → starts (λ b. b == 35) g ≡ false → (literal_run in_word g).0 ≡ text → begins_with 35 text ≡ false
no_comment [] g j h r = refl
no_comment (b ∷ bs) g j h r = sym (same_byte (λ z. z == 35) b g (first_of_run g b bs j r)) ∙ h

-- behind a blank a word fits as anywhere, for no comment begins there
spaced_fits : (i : Bool) (d : ℕ) (g : Text) (w : shape.Parts) → joins g ≡ false → starts (λ b. b == 35) g ≡ false → WordFront w g → word_fits i d false w ≡ true → word_fits i d true w ≡ true
spaced_fits i d g no_part j h f e = e
spaced_fits i d g (part (plain text) no_part) j h f e = rw (no_comment text g j h f.0) e
spaced_fits i d g (part (plain text) (part q qs)) j h f e = rw (no_comment text g j h f) e
spaced_fits i d g (part (exact text) ps) j h f e = e
spaced_fits i d g (part (double qs) ps) j h f e = e
spaced_fits i d g (part tilde ps) j h f e = e
spaced_fits i d g (part (param p o) ps) j h f e = e
spaced_fits i d g (part (listing s) ps) j h f e = e
spaced_fits i d g (part (arith x ws) ps) j h f e = e

pub to_word_is : {k : Known} {F : State → Type 0} {d : ℕ} {s e : State} {vs : List Node} → Stepped k F table.to_word d s e vs → e.bytes ≡ gap s.bytes
unfolding run_step
to_word_is {s = s} st =
    by_step (λ (m : State) (ws : List Node). m.bytes ≡ gap s.bytes)
    (then (λ (z : Text). z ≡ gap s.bytes) (λ (x : Leaf Node × State). x.1.bytes ≡ gap s.bytes) (word_place s.bytes) _
    (chosen_by (If (λ (z : Text). z ≡ gap s.bytes)) (is_token Word s.bytes) _ _ (λ e. refl) (λ e. tt)) (λ place h. h)) st

at_gap : (s m : State) → m.bytes ≡ gap s.bytes → clear m.bytes ≡ gap s.bytes
at_gap s m h = ap clear h ∙ clear_is (gap s.bytes) (gap_solid s.bytes).0

pub word_rule : (k : Known) (i : Bool) (d : ℕ) (s e : State) (vs : List Node) → Sat k (Fine k i) (Says i) (body table.word) d s e vs → Says i table.word d s e (act table.word vs)
word_rule k i d s e vs a =
    let r = a.rest.claim in
    let is : vs ≡ a.others = skip a.is (nothing_said table.to_word refl a.before) in
    let g = gap_solid s.bytes in
    let f = subst (WordFront (parts_in a.others)) (at_gap s a.middle (to_word_is a.before)) r.front in
    record {
      one = parts_in a.others;
      is = ap (λ (z : List Node). word_node (parts_in z) ∷ []) is;
      fits = (spaced_fits i d (gap s.bytes) (parts_in a.others) g.0 g.1 f r.fits, λ n. no_assign_word s.bytes (parts_in a.others) f n, λ n. no_reserved_word s.bytes (parts_in a.others) f n);
    }

pub value_rule : (k : Known) (i : Bool) (d : ℕ) (s e : State) (vs : List Node) → Sat k (Fine k i) (Says i) (body table.value) d s e vs → Says i table.value d s e (act table.value vs)
value_rule k i d s e vs a = record { one = parts_in vs; is = refl; fits = a.claim.fits }

begins_hash : (p : shape.Part) (ps : shape.Parts) (t : Text) → Rattle.sh_printing.proofs.ExactParts.Begins in_word p t → starts (λ b. b == 35) t ≡ false → plain_begins 35 (part p ps) ≡ false
begins_hash (plain []) ps t b h = refl
begins_hash (plain (x ∷ xs)) ps t b h = sym (same_byte (λ z. z == 35) x t b.0) ∙ h
begins_hash (exact text) ps t b h = refl
begins_hash (double qs) ps t b h = refl
begins_hash tilde ps t b h = refl
begins_hash (param p o) ps t b h = refl
begins_hash (listing s) ps t b h = refl
begins_hash (arith x ws) ps t b h = refl

-- a pattern begins with a part of any kind but a tilde
pub pattern_rule : (k : Known) (i : Bool) (d : ℕ) (s e : State) (vs : List Node) → Sat k (Fine k i) (Says i) (body table.pattern) d s e vs → Says i table.pattern d s e (act table.pattern vs)
pattern_rule k i d s e vs a =
    let b = a.rest in
    let p = b.before.claim in
    let r = b.rest.claim in
    let is : parts_in vs ≡ part p.one (parts_in b.others) = ap parts_in (skip a.is (nothing_said table.to_word refl a.before)) ∙ (ap parts_in b.is ∙ parts_behind p.one b.ones b.others p.is) in
    let g = at_gap s a.middle (to_word_is a.before) in
    let hash : plain_begins 35 (part p.one (parts_in b.others)) ≡ false =
    begins_hash p.one (parts_in b.others) (clear a.middle.bytes) p.ok.begins (subst (λ (z : Text). starts (λ b. b == 35) z ≡ false) (sym g) (gap_solid s.bytes).1) in
    record {
      one = word_node (parts_in vs);
      is = refl;
      fits = subst (λ (z : shape.Parts). patterns_fit i d (word z no_word) ≡ true) (sym is) (rw (hash, p.ok.fits (parts_in b.others) r.front, r.fits) refl);
    }
