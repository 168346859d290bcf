-- A body that was read ends with bytes that stand for themselves, and a newline.
use Rattle.std.proofs.Common.{◌≡◌, ℕ, zero, suc, Bool, true, false, cond, List, [], ◌∷◌, ◌++◌, length, Option, Some, None, inl, inr, refl, sym, ap, subst, ◌∙◌, eqb-true}
use Rattle.std.specs.Prelude.{◌||◌, ◌&&◌, not, ◌==◌}
use Rattle.std.proofs.lemmas.Bool.{false≢true, true≢false}
use Rattle.span_text.specs.Names.{is_digit}
use Rattle.span_text.proofs.Bytes.{apart}
use Rattle.text_grammar.specs.Grammar.{Leaf, rule}
use Rattle.text_grammar.specs.Derivations.{Tree, At}
use Rattle.text_grammar.specs.Values.{kids, leaf_kids}
use Rattle.sh_grammar.specs.Shape as shape
use Rattle.sh_grammar.specs.Shape.{plain, exact, double, tilde, param, as_is, subst as listing, arith, no_part, part}
use Rattle.sh_grammar.specs.Bytes.{Text, Context, in_body, is_join, clear, comment_end, is_blank, gap_from, gap, starts, with_byte, run_from, is_literal, literal_run, digit_run, is_escaped, is_bare_backslash}
use Rattle.sh_grammar.specs.Tokens.{End, Newline, Close, code, front, token, is_token, semi_at, and_at, pipe_at, here_at, less_at, great_at, is_angle, word_at}
use Rattle.sh_grammar.specs.Expansions.{Head, closed as closed_head, filling, trimming, dollar_param, dollar_head}
use Rattle.sh_grammar.specs.State.{State, start_at, Node, part_node, parts_in, word_in, filled_in, script_in, sum_in, operands_in}
use Rattle.sh_grammar.specs.Steps.{Known, limit, run_step, behind, literal_read, escaped_read, quoted_run, closed_read, none_owed}
use Rattle.sh_grammar.specs.Table.{Test, Rule, unit_begins, body, part as a_part, double_quotes, expansion, braces, fill, trim, subst as substitution, sum, body_parts, piece, line_piece, complete, complete_more, list, maybe_list, list_more, lines, chain, link, and_link, or_link, pipeline, bang, stage, command, compound_command, compound, other_compound, group, subshell, if_command, if_branch, elif_branch, else_part, while_loop, until_loop, do_body, for_loop, for_words, for_in, case_command, case_in, case_item, pattern_more, item_end, function_command, simple_command, prefixed, called, suffix, prefix_item, suffix_item, assign, redirect, target, file, word, value, word_parts, more_parts, pattern, sum_part, sum_group}
use Rattle.sh_grammar.specs.Table as table
use Rattle.sh_grammar.specs.Acts.{act}
use Rattle.sh_grammar.specs.Spelling.{knowing}
use Rattle.sh_grammar.proofs.Tools.{If, then, chosen, chosen_by}
use Rattle.sh_printing.specs.Spellable.{ends_with, is_unjoined, keeps}
use Rattle.sh_printing.specs.Printable.{ends_line}
use Rattle.sh_printing.proofs.BackBytes.{both, isnt, neither, joins, no_join, clear_is}
use Rattle.sh_printing.proofs.ExactBytes.{clear_free, escapes_backslash, backslash_bare}
use Rattle.sh_printing.proofs.ExactParts.{by_step, behind_is}
use Rattle.sh_printing.proofs.ExactRules.{Claim, Stepped, Turns, Ruled, Sat, sat_at}
use Rattle.sh_printing.proofs.ExactStates.{Forth, Unjoined, Clean, is_lines}
use Rattle.sh_printing.proofs.ExactTails.{Tails, clear_ends}
use Rattle.sh_printing.proofs.ExactBodies.{unjoined_tails, unjoined_after}
use Rattle.sh_printing.proofs.ExactInvariants.{deep, even, forth}
use Rattle.sh_printing.proofs.ExactBack.{Isnt, Others, not_on, front_other}
use Rattle.sh_printing.proofs.ExactLast.{no_last, literal_last}
use Rattle.sh_printing.proofs.ExactSteps.{nothing_said, stop}
use Rattle.sh_printing.proofs.ExactClaims.{One}
use Rattle.sh_printing.proofs.ExactEnding.{Solid, Ends, solid_dollar, solid_closed, solid_quote, solid_brace, solid_close, solid_sum, leaves_bytes}

-- ---- claims

abbrev LastLine : shape.Part → Type 0
LastLine (plain text) = ends_with 10 text ≡ true
LastLine (exact text) = ⊥
LastLine (double ps) = ⊥
LastLine tilde = ⊥
LastLine (param p o) = ⊥
LastLine (listing s) = ⊥
LastLine (arith e ws) = ⊥

abbrev PartOf : List Node → Type 0
PartOf vs = One part_node (λ p. Unit {0}) vs

record PartEnd (s e : State) (vs : List Node) : Type 0 where
  one : shape.Part
  is : vs ≡ part_node one ∷ []
  rests : is_unjoined false s.bytes ≡ true → is_unjoined false e.bytes ≡ true
  last : e.bytes ≡ [] → LastLine one

abbrev SolidPart : State → List Node → Type 0
SolidPart e vs = PartOf vs × Solid e.bytes

abbrev Last : Claim
Last (a_part c) d s e vs = PartEnd s e vs
Last double_quotes d s e vs = SolidPart e vs
Last (expansion c) d s e vs = SolidPart e vs
Last (braces c) d s e vs = SolidPart e vs
Last (fill c) d s e vs = SolidPart e vs
Last (trim c) d s e vs = SolidPart e vs
Last substitution d s e vs = SolidPart e vs
Last sum d s e vs = SolidPart e vs
Last body_parts d s e vs = is_unjoined false s.bytes ≡ true → ends_line (word_in vs) ≡ true
Last r d s e vs = Unit {0}

solid_part : (s e : State) (vs : List Node) → SolidPart e vs → PartEnd s e vs
solid_part s e vs o = record { one = o.0.one; is = o.0.is; rests = λ u. o.1.0; last = λ n. absurd (o.1.1 n) }

solid_over : (s e : State) → s.bytes ≡ e.bytes → Solid s.bytes → Solid e.bytes
solid_over s e h o = subst Solid h o

-- ---- parts

-- the bytes behind what was quoted
quoted_end : (t : Text) → If (λ (x : Text × Text). t ≡ x.0 ++ 39 ∷ x.1) (quoted_run t)
unfolding quoted_run
quoted_end [] = tt
quoted_end (b ∷ bs) =
    chosen_by (If (λ (x : Text × Text). b ∷ bs ≡ x.0 ++ 39 ∷ x.1)) (b == 39) _ _ (λ e. ap (λ (z : ℕ). z ∷ bs) (eqb-true b 39 e))
    (λ e. chosen (If (λ (x : Text × Text). b ∷ bs ≡ x.0 ++ 39 ∷ x.1)) (b == 0) _ _ tt
    (then (λ (x : Text × Text). bs ≡ x.0 ++ 39 ∷ x.1) (λ (x : Text × Text). b ∷ bs ≡ x.0 ++ 39 ∷ x.1) (quoted_run bs) _ (quoted_end bs) (λ x h. ap (λ (z : Text). b ∷ z) h)))

behind_front : (P : Text → Type 0) → Tails P → (xs ys : Text) → P (xs ++ ys) → P ys
behind_front P k [] ys h = h
behind_front P k (x ∷ xs) ys h = behind_front P k xs ys (k x (xs ++ ys) h)

exact_end : {k : Known} {d : ℕ} {s e : State} {vs : List Node} → Clean true s.bytes → Stepped k Ends table.exact d s e vs → PartEnd s e vs
unfolding run_step
exact_end {s = s} c st =
    by_step (PartEnd s)
    (then (λ (z : Text). clear s.bytes ≡ 39 ∷ z) (λ (x : Leaf Node × State). PartEnd s x.1 (leaf_kids x.0)) (behind 39 (clear s.bytes)) _ (behind_is 39 (clear s.bytes))
    (λ rest h. then (λ (x : Text × Text). rest ≡ x.0 ++ 39 ∷ x.1) (λ (x : Leaf Node × State). PartEnd s x.1 (leaf_kids x.0)) (quoted_run rest) _ (quoted_end rest)
    (λ x q. let whole : clear s.bytes ≡ (39 ∷ x.0) ++ 39 ∷ x.1 = h ∙ ap (λ (z : Text). 39 ∷ z) q in
    record {
      one = exact x.0;
      is = refl;
      rests = λ u. unjoined_after 39 x.1 (behind_front Unjoined unjoined_tails (39 ∷ x.0) (39 ∷ x.1) (subst Unjoined whole (clear_ends Unjoined unjoined_tails s.bytes c.0))) refl;
      last = λ n. no_last true s.bytes (39 ∷ x.0) 39 c refl (whole ∙ ap (λ (z : Text). (39 ∷ x.0) ++ 39 ∷ z) n) refl;
    }))) st

free_clear : (t : Text) → is_unjoined false t ≡ true → clear t ≡ t
free_clear [] u = clear_is [] refl
free_clear (b ∷ bs) u = clear_is (b ∷ bs) (isnt (is_join b bs) (both (not (is_join b bs)) (is_unjoined (b == 92) bs) u).0)

behind_escape : (b : ℕ) (bs : Text) → is_unjoined false (92 ∷ b ∷ bs) ≡ true → is_unjoined false bs ≡ true
behind_escape b bs u = (both (not (is_join 92 (b ∷ bs))) (is_unjoined true (b ∷ bs)) u).1

escaped_gives : (c : Context) (s : State) (t : Text) → Clean true s.bytes → clear s.bytes ≡ 92 ∷ t → If (λ (x : Leaf Node × State). PartEnd s x.1 (leaf_kids x.0)) (escaped_read c s t)
escaped_gives c s [] k h = tt
escaped_gives c s (b ∷ bs) k h =
    let j : is_join 92 (b ∷ bs) ≡ false = subst (λ (z : Text). joins z ≡ false) h (clear_free s.bytes) in
    chosen (If (λ (x : Leaf Node × State). PartEnd s x.1 (leaf_kids x.0))) (is_escaped c b) _ _
    (record {
      one = exact (b ∷ []);
      is = refl;
      rests = λ u. behind_escape b bs (subst (λ (z : Text). is_unjoined false z ≡ true) (sym (free_clear s.bytes u) ∙ h) u);
      last = λ n. no_last true s.bytes (92 ∷ []) b k refl (h ∙ ap (λ (z : Text). 92 ∷ b ∷ z) n) j;
    }) tt

escaped_end : {k : Known} {d : ℕ} {s e : State} {vs : List Node} (c : Context) → Clean true s.bytes → Stepped k Ends (table.escaped c) d s e vs → PartEnd s e vs
unfolding run_step
escaped_end {s = s} c k st =
    by_step (PartEnd s) (then (λ (z : Text). clear s.bytes ≡ 92 ∷ z) (λ (x : Leaf Node × State). PartEnd s x.1 (leaf_kids x.0)) (behind 92 (clear s.bytes)) _ (behind_is 92 (clear s.bytes)) (λ rest h. escaped_gives c s rest k h)) st

-- behind a run no backslash quotes the next byte
unjoined_next : (q : Bool) (b : ℕ) (bs : Text) → is_unjoined q (b ∷ bs) ≡ true → Unjoined bs
unjoined_next q b bs u = unjoined_tails b bs (q, u)

any_start : (q : Bool) (t : Text) → is_unjoined q t ≡ true → (q ≡ true → starts (λ b. b == 92) t ≡ false) → is_unjoined false t ≡ true
any_start false t u h = u
any_start true [] u h = refl
any_start true (b ∷ bs) u h = rw (no_join b bs (h refl), h refl) u

unescaped : (c : Context) (y : ℕ) → (is_escaped c y || y == 0) ≡ false → (y == 92) ≡ false
unescaped c y e =
    let n : not (is_escaped c y) ≡ true = rw (neither (is_escaped c y) (y == 0) e).0 refl in
    apart (λ z. not (is_escaped c z)) y 92 n (rw (escapes_backslash c) refl)

no_backslash : (c : Context) (bs : Text) → is_bare_backslash c bs ≡ true → starts (λ b. b == 92) bs ≡ false
no_backslash c [] e = refl
no_backslash c (y ∷ ys) e = unescaped c y (isnt (is_escaped c y || y == 0) e)

next_start : (c : Context) (q : Bool) (b : ℕ) (bs : Text) (p : Bool) → (b == 92) ≡ p → is_unjoined q (b ∷ bs) ≡ true → is_literal c b bs ≡ true → is_unjoined false bs ≡ true
next_start c q b bs false n u l = unjoined_after b bs (q, u) n
next_start c q b bs true n u l =
    let bare = backslash_bare c bs (subst (λ (z : ℕ). is_literal c z bs ≡ true) (eqb-true b 92 n) l) in
    let w = unjoined_next q b bs u in
    any_start w.0 bs w.1 (λ x. no_backslash c bs bare)

run_rests : (c : Context) (t : Text) → is_unjoined false t ≡ true → is_unjoined false (run_from (is_literal c) false t).1 ≡ true
run_rests c [] u = refl
run_rests c (b ∷ bs) u =
    let j = isnt (is_join b bs) (both (not (is_join b bs)) (is_unjoined (b == 92) bs) u).0 in
    rw j (chosen_by (λ (x : Text × Text). is_unjoined false x.1 ≡ true) (is_literal c b bs) (with_byte b (run_from (is_literal c) false bs)) ([], b ∷ bs)
    (λ l. run_rests c bs (next_start c false b bs (b == 92) refl u l)) (λ l. u))

literal_rests : (c : Context) (t : Text) → is_unjoined false t ≡ true → is_unjoined false (literal_run c (clear t)).1 ≡ true
unfolding literal_run
literal_rests c t u = run_rests c (clear t) (subst (λ (z : Text). is_unjoined false z ≡ true) (sym (free_clear t u)) u)

literal_gives : (c : Context) (s : State) (text rest : Text) → Clean true s.bytes → literal_run c (clear s.bytes) ≡ (text, rest) → If (λ (x : Leaf Node × State). PartEnd s x.1 (leaf_kids x.0)) (literal_read s (text, rest))
literal_gives c s [] rest k r = tt
literal_gives c s (b ∷ bs) rest k r =
    record {
      one = plain (b ∷ bs);
      is = refl;
      rests = λ u. subst (λ (z : Text × Text). is_unjoined false z.1 ≡ true) r (literal_rests c s.bytes u);
      last = λ n. literal_last true c s.bytes b bs rest k refl r n;
    }

literal_end : {k : Known} {d : ℕ} {s e : State} {vs : List Node} (c : Context) → Clean true s.bytes → Stepped k Ends (table.literal c) d s e vs → PartEnd s e vs
unfolding run_step
literal_end {s = s} c k st = by_step (PartEnd s) (literal_gives c s (literal_run c (clear s.bytes)).0 (literal_run c (clear s.bytes)).1 k refl) st

part_end : (k : Known) (c : Context) (d : ℕ) (s e : State) (vs : List Node) → Forth true s → Sat k Ends Last (body (a_part c)) d s e vs → PartEnd s e vs
part_end k c d s e vs f (inl a) = exact_end f.clean a.1
part_end k c d s e vs f (inr (t, inl a)) = solid_part s e vs a.1.claim
part_end k c d s e vs f (inr (t, inr (u, inl a))) = escaped_end c f.clean a.1
part_end k c d s e vs f (inr (t, inr (u, inr (v, inl a)))) = solid_part s e vs a.1.claim
part_end k c d s e vs f (inr (t, inr (u, inr (v, inr a)))) = literal_end c f.clean a.1

-- ---- expansions

any_if : {A : Type 0} (o : Option A) → If (λ (x : A). Unit {0}) o
any_if None = tt
any_if (Some x) = tt

dollar_one : {k : Known} {d : ℕ} {s e : State} {vs : List Node} → Stepped k Ends table.dollar d s e vs → PartOf vs
unfolding run_step
dollar_one {s = s} st =
    by_step (λ (m : State) (ws : List Node). PartOf ws) (then (λ (x : shape.Param × Text). Unit {0}) (λ (x : Leaf Node × State). PartOf (leaf_kids x.0)) (dollar_param s.bytes) _ (any_if (dollar_param s.bytes)) (λ x h. record { one = param x.0 as_is; is = refl; fits = tt })) st

closed_given : (s : State) (x : Head × Text) → If (λ (y : Leaf Node × State). PartOf (leaf_kids y.0)) (closed_read s x)
closed_given s (closed_head p o, rest) = record { one = param p o; is = refl; fits = tt }
closed_given s (filling p t c, rest) = tt
closed_given s (trimming p x l, rest) = tt

closed_one : {k : Known} {d : ℕ} {s e : State} {vs : List Node} → Stepped k Ends table.closed d s e vs → PartOf vs
unfolding run_step
closed_one {s = s} st =
    by_step (λ (m : State) (ws : List Node). PartOf ws)
    (chosen (If (λ (x : Leaf Node × State). PartOf (leaf_kids x.0))) (Rattle.std.specs.Prelude.nat_lt s.depth limit) _ _
    (then (λ (x : Head × Text). Unit {0}) (λ (x : Leaf Node × State). PartOf (leaf_kids x.0)) (dollar_head s.bytes) _ (any_if (dollar_head s.bytes)) (λ x h. closed_given s x)) tt) st

made : (p : shape.Part) → PartOf (part_node p ∷ [])
made p = record { one = p; is = refl; fits = tt }

-- ---- the end of a body

word_isnt_0 : (t : Text) → Isnt 0 (word_at t)
unfolding code
word_isnt_0 t =
    chosen (Isnt 0) (starts is_digit t) _ _
    (chosen (Isnt 0) (starts is_angle (digit_run t).1) _ _ (chosen (Isnt 0) (length (digit_run t).0 == 1) _ _ refl refl) refl) refl

newline_0 : (bs : Text) → Isnt 0 (Newline, bs)
unfolding code
newline_0 bs = refl

close_0 : (bs : Text) → Isnt 0 (Close, bs)
unfolding code
close_0 bs = refl

end_code : (n : ℕ) → (n == code End) ≡ true → (n == 0) ≡ true
unfolding code
end_code n e = e

others_end : Others 0
unfolding code semi_at and_at pipe_at less_at here_at great_at
others_end = record {
  semi = λ t. not_on 0 59 t _ _ (λ u. not_on 0 38 u _ _ (λ v. refl) refl) (not_on 0 38 t _ _ (λ u. refl) refl);
  and' = λ t. not_on 0 38 t _ _ (λ u. refl) refl;
  pipe = λ t. not_on 0 124 t _ _ (λ u. refl) (not_on 0 38 t _ _ (λ u. refl) refl);
  less = λ t. not_on 0 60 t _ _ (λ u. not_on 0 45 u _ _ (λ v. refl) (not_on 0 60 u _ _ (λ v. refl) refl)) (not_on 0 38 t _ _ (λ u. refl) (not_on 0 62 t _ _ (λ u. refl) refl));
  great = λ t. not_on 0 62 t _ _ (λ u. refl) (not_on 0 38 t _ _ (λ u. refl) (not_on 0 124 t _ _ (λ u. refl) refl));
  word = λ t. word_isnt_0 t;
  open' = λ t. refl;
  other = λ t. refl;
}

some_token : (t : Text) → (code (front t).0 == 0) ≡ true → t ≡ []
unfolding code
some_token [] e = refl
some_token (b ∷ bs) e = absurd (false≢true (sym (front_other 0 others_end b bs (λ f. newline_0 bs) (λ f. close_0 bs)) ∙ e))

end_gap : (t : Text) → is_token End t ≡ true → gap t ≡ []
unfolding is_token token
end_gap t e = some_token (gap t) (end_code (code (front (gap t)).0) e)

no_cons : (b : ℕ) (bs : Text) → b ∷ bs ≡ [] → ⊥
no_cons b bs e = absurd cc

no_ten : (b : ℕ) (p : Bool) → (b == 10) ≡ p → cond p (b ∷ []) [] ≡ [] → (b == 10) ≡ false
no_ten b true e h = absurd (no_cons b [] h)
no_ten b false e h = e

comment_more : (b x : ℕ) (xs : Text) (p : Bool) → cond p (b ∷ x ∷ xs) (comment_end (x ∷ xs)) ≡ [] → (comment_end (x ∷ xs) ≡ [] → ⊥) → ⊥
comment_more b x xs true h g = no_cons b (x ∷ xs) h
comment_more b x xs false h g = g h

comment_lines : (b : ℕ) (bs : Text) → ends_with 10 (b ∷ bs) ≡ true → comment_end (b ∷ bs) ≡ [] → ⊥
unfolding comment_end
comment_lines b [] e h = true≢false (sym e ∙ no_ten b (b == 10) refl h)
comment_lines b (x ∷ xs) e h = comment_more b x xs (b == 10) h (λ n. comment_lines x xs e n)

gap_free : (b : ℕ) (bs : Text) → is_join b bs ≡ false → gap_from false (b ∷ bs) ≡ [] → cond (is_blank b) (gap_from false bs) (cond (b == 35) (comment_end bs) (b ∷ bs)) ≡ []
gap_free b bs j h = subst (λ (z : Bool). cond (is_blank b) (gap_from false bs) (cond z (gap_from true bs) (cond (b == 35) (comment_end bs) (b ∷ bs))) ≡ []) j h

blank_byte : (b : ℕ) → is_blank b ≡ true → ((b == 92) ≡ false) × ((b == 10) ≡ false)
blank_byte b e = (apart is_blank b 92 e refl, apart is_blank b 10 e refl)

behind_blank : (b : ℕ) (bs : Text) → (b == 10) ≡ false → is_lines (b ∷ bs) ≡ true → (bs ≡ [] → ⊥) × (is_lines bs ≡ true)
behind_blank b [] n l = absurd (true≢false (sym l ∙ n))
behind_blank b (c ∷ cs) n l = (no_cons c cs, l)

hash_lines : (b : ℕ) (bs : Text) → (b == 10) ≡ false → is_lines (b ∷ bs) ≡ true → comment_end bs ≡ [] → ⊥
hash_lines b [] n l h = true≢false (sym l ∙ n)
hash_lines b (c ∷ cs) n l h = comment_lines c cs l h

gap_byte : (b : ℕ) (bs : Text) (p h : Bool) → is_blank b ≡ p → (b == 35) ≡ h → is_unjoined false (b ∷ bs) ≡ true → is_lines (b ∷ bs) ≡ true → cond p (gap_from false bs) (cond h (comment_end bs) (b ∷ bs)) ≡ [] →
    (is_unjoined false bs ≡ true → is_lines bs ≡ true → gap_from false bs ≡ [] → bs ≡ []) → ⊥
gap_byte b bs true h e f u l g k =
    let x = blank_byte b e in let y = behind_blank b bs x.1 l in
    y.0 (k (unjoined_after b bs (false, u) x.0) y.1 g)
gap_byte b bs false true e f u l g k = hash_lines b bs (apart (λ z. z == 35) b 10 f refl) l g
gap_byte b bs false false e f u l g k = no_cons b bs g

-- what ends with a newline isn't all gap
gap_lines : (t : Text) → is_unjoined false t ≡ true → is_lines t ≡ true → gap_from false t ≡ [] → t ≡ []
gap_lines [] u l h = refl
gap_lines (b ∷ bs) u l h =
    let j = isnt (is_join b bs) (both (not (is_join b bs)) (is_unjoined (b == 92) bs) u).0 in
    absurd (gap_byte b bs (is_blank b) (b == 35) refl refl u l (gap_free b bs j h) (λ v n m. gap_lines bs v n m))

ends_bytes : {k : Known} {d : ℕ} {s e : State} {vs : List Node} → is_unjoined false s.bytes ≡ true → Clean true s.bytes → Stepped k Ends table.ends d s e vs → s.bytes ≡ []
unfolding run_step gap
ends_bytes {s = s} u c st =
    by_step (λ (m : State) (ws : List Node). s.bytes ≡ [])
    (chosen_by (If (λ (x : Leaf Node × State). s.bytes ≡ [])) (is_token End s.bytes && none_owed s.owed) _ _
    (λ t. gap_lines s.bytes u c.1 (end_gap s.bytes (both (is_token End s.bytes) (none_owed s.owed) t).0)) (λ t. tt)) st

ends_on : (p q : shape.Part) (qs : shape.Parts) → ends_line (part p (part q qs)) ≡ ends_line (part q qs)
ends_on (plain text) q qs = refl
ends_on (exact text) q qs = refl
ends_on (double ps) q qs = refl
ends_on tilde q qs = refl
ends_on (param p o) q qs = refl
ends_on (listing s) q qs = refl
ends_on (arith e ws) q qs = refl

ends_alone : (p : shape.Part) → LastLine p → ends_line (part p no_part) ≡ true
ends_alone (plain text) h = h
ends_alone (exact text) h = absurd h
ends_alone (double ps) h = absurd h
ends_alone tilde h = absurd h
ends_alone (param p o) h = absurd h
ends_alone (listing s) h = absurd h
ends_alone (arith e ws) h = absurd h

abbrev PartTurns : Known → ℕ → ℕ → State → State → List Node → Type 0
PartTurns k d n s e vs = Turns Ends (unit_begins in_body) (Ruled Ends (Last (a_part in_body)) d) n s e vs

one_part : (p : shape.Part) (ones others : List Node) → ones ≡ part_node p ∷ [] → parts_in (ones ++ others) ≡ part p (parts_in others)
one_part p ones others e = ap (λ (z : List Node). parts_in (z ++ others)) e

-- parts up to a state where nothing quotes the next byte
turns_rest : (k : Known) (d n : ℕ) (s e : State) (vs : List Node) → PartTurns k d n s e vs → is_unjoined false s.bytes ≡ true → is_unjoined false e.bytes ≡ true
turns_rest k d zero s e vs t u = subst (λ (z : State). is_unjoined false z.bytes ≡ true) t.1 u
turns_rest k d (suc n) s e vs t u = let b = t.1 in turns_rest k d n b.middle e b.others b.rest (b.before.claim.rests u)

turns_last : (k : Known) (d n : ℕ) (s e : State) (vs : List Node) → PartTurns k d n s e vs → e.bytes ≡ [] → ends_line (parts_in vs) ≡ true
turns_last k d zero s e vs t n = subst (λ (z : List Node). ends_line (parts_in z) ≡ true) (sym t.2) refl
turns_last k d (suc zero) s e vs t n =
    let b = t.1 in let o = b.before.claim in
    let is : parts_in vs ≡ part o.one no_part = ap parts_in b.is ∙ (one_part o.one b.ones b.others o.is ∙ ap (λ (z : List Node). part o.one (parts_in z)) b.rest.2) in
    subst (λ (z : shape.Parts). ends_line z ≡ true) (sym is) (ends_alone o.one (o.last (ap (λ (z : State). z.bytes) b.rest.1 ∙ n)))
turns_last k d (suc (suc m)) s e vs t n =
    let b = t.1 in let o = b.before.claim in
    let c = b.rest.1 in let p = c.before.claim in
    let i = turns_last k d (suc m) b.middle e b.others b.rest n in
    let more : parts_in b.others ≡ part p.one (parts_in c.others) = ap parts_in c.is ∙ one_part p.one c.ones c.others p.is in
    let is : parts_in vs ≡ part o.one (part p.one (parts_in c.others)) = ap parts_in b.is ∙ (one_part o.one b.ones b.others o.is ∙ ap (λ (z : shape.Parts). part o.one z) more) in
    subst (λ (z : shape.Parts). ends_line z ≡ true) (sym is) (ends_on o.one p.one (parts_in c.others) ∙ subst (λ (z : shape.Parts). ends_line z ≡ true) more i)

body_end : (k : Known) (d : ℕ) (s e : State) (vs : List Node) → is_unjoined false s.bytes ≡ true → Sat k Ends Last (body body_parts) d s e vs → ends_line (word_in (act body_parts vs)) ≡ true
body_end k d s e vs u a =
    let v = turns_rest k d a.before.0 s a.middle a.ones a.before.1 u in
    let n = ends_bytes v a.fine.0.clean a.rest in
    subst (λ (z : List Node). ends_line (parts_in z) ≡ true) (sym (stop a.is (nothing_said table.ends refl a.rest))) (turns_last k d a.before.0 s a.middle a.ones a.before.1 n)

last_rule : (k : Known) (r : Rule) (d : ℕ) (s e : State) (vs : List Node) → Forth true s → Sat k Ends Last (body r) d s e vs → Last r d s e (act r vs)
last_rule k (a_part c) d s e vs f a = part_end k c d s e vs f a
last_rule k double_quotes d s e vs f a = (made (double (parts_in vs)), solid_quote a.rest.fine.0.clean a.rest.rest)
last_rule k (expansion c) d s e vs f (inl a) = a.1.claim
last_rule k (expansion c) d s e vs f (inr (t, inl a)) = a.1.claim
last_rule k (expansion c) d s e vs f (inr (t, inr (u, inl a))) = a.1.claim
last_rule k (expansion c) d s e vs f (inr (t, inr (u, inr a))) = (dollar_one a.1, solid_dollar f.clean a.1)
last_rule k (braces c) d s e vs f (inl a) = (closed_one a.1, solid_closed f.clean a.1)
last_rule k (braces c) d s e vs f (inr (t, inl a)) = a.1.claim
last_rule k (braces c) d s e vs f (inr (t, inr a)) = a.1.claim
last_rule k (fill c) d s e vs f a = let g = a.rest.rest in (made (filled_in vs (parts_in vs)), solid_over g.rest.middle e (leaves_bytes g.rest.rest) (solid_brace g.fine.0.clean g.rest.before))
last_rule k (trim c) d s e vs f a = let g = a.rest.rest in (made (filled_in vs (parts_in vs)), solid_over g.rest.middle e (leaves_bytes g.rest.rest) (solid_brace g.fine.0.clean g.rest.before))
last_rule k substitution d s e vs f a = let g = a.rest.rest in (made (listing (script_in vs)), solid_over g.rest.middle e (leaves_bytes g.rest.rest) (solid_close g.fine.0.clean g.rest.before))
last_rule k sum d s e vs f a = let g = a.rest.rest in (made (sum_in vs (operands_in vs)), solid_over g.rest.middle e (leaves_bytes g.rest.rest) (solid_sum g.fine.0.clean g.rest.before))
last_rule k body_parts d s e vs f a = λ u. body_end k d s e vs u a
last_rule k r d s e vs f a = tt

pub ending : (k : Known) (d : ℕ) (text : Text) (t : Tree Rule Node) (e : State) → keeps true text ≡ true → is_lines text ≡ true → At (knowing k) t (rule body_parts) (start_at d text) e → ends_line (word_in (kids (knowing k) t)) ≡ true
ending k d text t e u l a =
    let j = sat_at k (Forth true) (λ s. Unit {0}) Last (record { forth = forth k true; back = λ p s e x h f b. tt }) (deep k) even
    (λ q d s e vs h f g c. last_rule k q d s e vs f.0 c) t (rule body_parts) d (start_at d text) e refl refl (record { clean = ((false, u), l); counted = refl }) tt a in
    j.claim u
