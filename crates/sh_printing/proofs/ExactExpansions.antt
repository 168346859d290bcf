-- Parts one behind the other, and expansions, when they were read.
use Rattle.std.proofs.Common.{◌≡◌, ℕ, zero, suc, Bool, true, false, List, [], ◌∷◌, ◌++◌, Option, Some, None, inl, inr, refl, sym, ap, subst, ◌∙◌}
use Rattle.std.specs.Prelude.{◌&&◌, not, ◌==◌, nat_lt}
use Rattle.std.proofs.lemmas.Bool.{false≢true}
use Rattle.text_grammar.specs.Grammar.{Leaf}
use Rattle.text_grammar.specs.Values.{leaf_kids}
use Rattle.sh_grammar.specs.Shape as shape
use Rattle.sh_grammar.specs.Shape.{plain, exact, double, tilde, param, as_is, length_of, subst as listing, arith, no_part, part}
use Rattle.sh_grammar.specs.Bytes.{Text, Context, in_word, in_double, in_body, in_brace, in_quoted_brace, in_body_brace, in_body_pattern, clear, starts, is_escaped, has_single, has_double, fill_context, trim_context, unit_starts}
use Rattle.sh_grammar.specs.Expansions.{◌>>=◌, Head, closed as closed_head, filling, trimming, dollar_head, dollar_param, is_close, is_filling, filling_next}
use Rattle.sh_grammar.specs.State.{State, Node, part_node, head_node, script_node, parts_in, filled, filled_in, script_in}
use Rattle.sh_grammar.specs.Steps.{Known, limit, run_step, holds, behind, head_read, closed_read, byte_next, dollar_behind}
use Rattle.sh_grammar.specs.Table.{Rule, unit_begins, body}
use Rattle.sh_grammar.specs.Table as table
use Rattle.sh_grammar.specs.Acts.{act}
use Rattle.sh_grammar.proofs.Tools.{If, then, chosen_by}
use Rattle.sh_printing.specs.Spellable.{is_count}
use Rattle.sh_printing.specs.Printing.{continued}
use Rattle.sh_printing.specs.Printable.{has_part, is_expansion, plain_begins, part_fits, parts_fit}
use Rattle.sh_printing.proofs.BackBytes.{both}
use Rattle.sh_printing.proofs.ExactBytes.{is_stuck}
use Rattle.sh_printing.proofs.ExactParams.{HeadFits, HeadIn, closed_bare, dollar_head_fits, dollar_param_bare}
use Rattle.sh_printing.proofs.ExactParts.{Begins, Fronts, fronts_on, same_byte, PlainRun, OnePart, OneExpansion, by_step, behind_is, literal_part, exact_part, escaped_part}
use Rattle.sh_printing.proofs.ExactRules.{Stepped, Turns, Ruled, Sat}
use Rattle.sh_printing.proofs.ExactStates.{Fine}
use Rattle.sh_printing.proofs.ExactSteps.{nothing_said, skip, stop, enters, enter_bytes}
use Rattle.sh_printing.proofs.ExactClaims.{PartsOk, Anywhere, Says}

-- ---- parts

-- the parts behind a part
pub parts_behind : (p : shape.Part) (ones others : List Node) → ones ≡ part_node p ∷ [] → parts_in (ones ++ others) ≡ part p (parts_in others)
parts_behind p ones others e = ap (λ (z : List Node). parts_in (z ++ others)) e

more_ok : (i : Bool) (d : ℕ) (c : Context) (s m e : State) (ones : List Node) (ps : shape.Parts) → unit_starts c (clear s.bytes) ≡ true → (o : OnePart i d c s m ones) → PartsOk i d c m e ps → PartsOk i d c s e (part o.one ps)
more_ok i d c s m e ones ps t o r =
    record { fits = rw (o.ok.fits ps r.front, r.fits) refl; front = (t, o.ok.begins); none = λ f. absurd (false≢true (sym f)) }

pub parts_turns : (k : Known) (i : Bool) (c : Context) (d n : ℕ) (s e : State) (vs : List Node) → Turns (Fine k i) (unit_begins c) (Ruled (Fine k i) (Says i (table.part c)) d) n s e vs → starts (is_stuck c) (clear e.bytes) ≡ false →
    PartsOk i d c s e (parts_in vs)
unfolding holds
parts_turns k i c d zero s e vs t u =
    subst (λ (z : List Node). PartsOk i d c s e (parts_in z)) (sym t.2)
    (record { fits = refl; front = (t.0, subst (λ (z : State). starts (is_stuck c) (clear z.bytes) ≡ false) (sym t.1) u); none = λ f. t.1 })
parts_turns k i c d (suc n) s e vs t u =
    let b = t.1 in
    let o = b.before.claim in
    let r = parts_turns k i c d n b.middle e b.others b.rest u in
    subst (λ (z : List Node). PartsOk i d c s e (parts_in z)) (sym b.is)
    (subst (PartsOk i d c s e) (sym (parts_behind o.one b.ones b.others o.is)) (more_ok i d c s b.middle e b.ones (parts_in b.others) t.0 o r))

-- a byte that closes is no stuck one
pub closes_at : (c : Context) (b : ℕ) (t rest : Text) → is_stuck c b ≡ false → t ≡ b ∷ rest → starts (is_stuck c) t ≡ false
closes_at c b t rest e h = subst (λ (z : Text). starts (is_stuck c) z ≡ false) (sym h) e

quote_free : is_stuck in_double 34 ≡ false
unfolding is_escaped
quote_free = refl

fill_free : (c : Context) → is_stuck (fill_context c) 125 ≡ false
unfolding is_escaped fill_context
fill_free in_word = refl
fill_free in_double = refl
fill_free in_body = refl
fill_free in_brace = refl
fill_free in_quoted_brace = refl
fill_free in_body_brace = refl
fill_free in_body_pattern = refl

trim_free : (c : Context) → is_stuck (trim_context c) 125 ≡ false
unfolding is_escaped trim_context
trim_free in_word = refl
trim_free in_double = refl
trim_free in_body = refl
trim_free in_brace = refl
trim_free in_quoted_brace = refl
trim_free in_body_brace = refl
trim_free in_body_pattern = refl

-- the byte that a step takes
record Took (b : ℕ) (s e : State) : Type 0 where
  rest : Text
  is : clear s.bytes ≡ b ∷ rest

takes_quote : {k : Known} {F : State → Type 0} {d : ℕ} {s e : State} {vs : List Node} → Stepped k F table.quote d s e vs → Took 34 s e
unfolding run_step
takes_quote {s = s} st = by_step (λ (m : State) (ws : List Node). Took 34 s m) (then (λ (z : Text). clear s.bytes ≡ 34 ∷ z) (λ (x : Leaf Node × State). Took 34 s x.1) (behind 34 (clear s.bytes)) _ (behind_is 34 (clear s.bytes)) (λ rest h. record { rest = rest; is = h })) st

takes_brace : {k : Known} {F : State → Type 0} {d : ℕ} {s e : State} {vs : List Node} → Stepped k F table.close_brace d s e vs → Took 125 s e
unfolding run_step
takes_brace {s = s} st = by_step (λ (m : State) (ws : List Node). Took 125 s m) (then (λ (z : Text). clear s.bytes ≡ 125 ∷ z) (λ (x : Leaf Node × State). Took 125 s x.1) (behind 125 (clear s.bytes)) _ (behind_is 125 (clear s.bytes)) (λ rest h. record { rest = rest; is = h })) st

-- ---- double quotes

pub double_quotes_says : (k : Known) (i : Bool) (d : ℕ) (s e : State) (vs : List Node) → Sat k (Fine k i) (Says i) (body table.double_quotes) d s e vs → Says i table.double_quotes d s e (act table.double_quotes vs)
double_quotes_says k i d s e vs a =
    let b = a.rest in
    let q = takes_quote b.rest in
    let r = parts_turns k i in_double d b.before.0 a.middle b.middle b.ones b.before.1 (closes_at in_double 34 (clear b.middle.bytes) q.rest quote_free q.is) in
    let is : vs ≡ b.ones = skip a.is (nothing_said table.quote refl a.before) ∙ stop b.is (nothing_said table.quote refl b.rest) in
    record { one = parts_in vs; is = refl; fits = subst (λ (z : List Node). parts_fit i d in_double (parts_in z) ≡ true) (sym is) r.fits }

-- ---- `$a`, `${a}`

pub dollar_says : (k : Known) (i : Bool) (d : ℕ) (c : Context) (s e : State) (vs : List Node) → Stepped k (Fine k i) table.dollar d s e vs → OneExpansion i d c s e vs
unfolding run_step
dollar_says k i d c s e vs st =
    by_step (OneExpansion i d c s)
    (then (λ (x : shape.Param × Text). Rattle.sh_printing.proofs.ExactParams.IsBare x.0 x.1) (λ (x : Leaf Node × State). OneExpansion i d c s x.1 (leaf_kids x.0)) (dollar_param s.bytes) _ (dollar_param_bare s.bytes)
    (λ x h. record { one = param x.0 as_is; is = refl; expands = refl; fits = λ behind n. h d (continued behind) n })) st

closed_gives : (i : Bool) (d : ℕ) (c : Context) (s : State) (h : Head) (rest : Text) → nat_lt d limit ≡ true → HeadFits h rest →
    If (λ (x : Leaf Node × State). OneExpansion i d c s x.1 (leaf_kids x.0)) (closed_read s (h, rest))
closed_gives i d c s (closed_head p as_is) rest l f = record { one = param p as_is; is = refl; expands = refl; fits = λ behind n. closed_bare d (continued behind) p l f }
closed_gives i d c s (closed_head p length_of) rest l f = record { one = param p length_of; is = refl; expands = refl; fits = λ behind n. rw (l, f) refl }
closed_gives i d c s (closed_head p (shape.fill t x w)) rest l f = absurd f
closed_gives i d c s (closed_head p (shape.trim x y w)) rest l f = absurd f
closed_gives i d c s (filling p t x) rest l f = tt
closed_gives i d c s (trimming p x y) rest l f = tt

pub closed_says : (k : Known) (i : Bool) (d : ℕ) (c : Context) (s e : State) (vs : List Node) → Stepped k (Fine k i) table.closed d s e vs → OneExpansion i d c s e vs
unfolding run_step
closed_says k i d c s e vs st =
    by_step (OneExpansion i d c s)
    (chosen_by (If (λ (x : Leaf Node × State). OneExpansion i d c s x.1 (leaf_kids x.0))) (nat_lt s.depth limit) _ _
    (λ l. then HeadIn (λ (x : Leaf Node × State). OneExpansion i d c s x.1 (leaf_kids x.0)) (dollar_head s.bytes) _ (dollar_head_fits s.bytes)
    (λ x h. closed_gives i d c s x.0 x.1 (subst (λ (z : ℕ). nat_lt z limit ≡ true) st.depth l) h))
    (λ l. tt)) st

-- ---- `${a-`, `${a%`

abbrev opens : Head → Option Bool
opens (closed_head p o) = None
opens (filling p t c) = Some true
opens (trimming p s l) = Some false

record Opened (fills : Bool) (e : State) (vs : List Node) : Type 0 where
  head : Head
  is : vs ≡ head_node head ∷ []
  kind : opens head ≡ Some fills
  fits : HeadFits head e.bytes

head_gives : (s : State) (o : Option (Head × Text)) → If HeadIn o → If (λ (x : Leaf Node × State). Opened (is_filling o) x.1 (leaf_kids x.0)) (o >>= λ x. head_read s x)
head_gives s None h = tt
head_gives s (Some (closed_head p o, rest)) h = tt
head_gives s (Some (filling p t c, rest)) h = record { head = filling p t c; is = refl; kind = refl; fits = h }
head_gives s (Some (trimming p x l, rest)) h = record { head = trimming p x l; is = refl; kind = refl; fits = h }

opened : {k : Known} {F : State → Type 0} {d : ℕ} {s e : State} {vs : List Node} → Stepped k F table.open_head d s e vs → Opened (filling_next s.bytes) e vs
unfolding run_step filling_next
opened {s = s} st = by_step (Opened (is_filling (dollar_head s.bytes))) (head_gives s (dollar_head s.bytes) (dollar_head_fits s.bytes)) st

lone_at : (a b close : Bool) → (a ≡ true → close ≡ false) → (b ≡ false → close ≡ true) → (a && not b) ≡ false
lone_at false b close f g = refl
lone_at true true close f g = refl
lone_at true false close f g = absurd (false≢true (sym (f refl) ∙ g refl))

lone_fill : (a b : Bool) → (a && not b) ≡ false → not (a && true && not b) ≡ true
lone_fill true true e = refl
lone_fill true false e = absurd cc
lone_fill false b e = refl

no_colon : (a b : Bool) → not (a && false && not b) ≡ true
no_colon true b = refl
no_colon false b = refl

-- no word stands behind `${#-` or `${##`
is_lone : (p : shape.Param) (w : shape.Parts) (close : Bool) → (is_count p ≡ true → close ≡ false) → (has_part w ≡ false → close ≡ true) → (is_count p && not (has_part w)) ≡ false
is_lone p w close f g = lone_at (is_count p) (has_part w) close f g

fill_says : (i : Bool) (d : ℕ) (c : Context) (behind : shape.Parts) (h : Head) (w : shape.Parts) (rest : Text) → opens h ≡ Some true → HeadFits h rest → nat_lt d limit ≡ true → parts_fit i (suc d) (fill_context c) w ≡ true → (has_part w ≡ false → is_close (clear rest) ≡ true) →
    part_fits i d c behind (filled h w) ≡ true
fill_says i d c behind (closed_head p o) w rest k f l e n = absurd cc
fill_says i d c behind (trimming p x y) w rest k f l e n = absurd cc
fill_says i d c behind (filling p shape.default false) w rest k f l e n = rw (l, f.0, lone_fill (is_count p) (has_part w) (is_lone p w (is_close (clear rest)) f.1 n), e) refl
fill_says i d c behind (filling p shape.default true) w rest k f l e n = rw (l, f, no_colon (is_count p) (has_part w), e) refl
fill_says i d c behind (filling p shape.assigning x) w rest k f l e n = rw (l, f, e) refl
fill_says i d c behind (filling p shape.alternate x) w rest k f l e n = rw (l, f, e) refl

no_suffix : (a b : Bool) → (a && false && not b) ≡ false
no_suffix true b = refl
no_suffix false b = refl

lone_trim : (a b : Bool) → (a && not b) ≡ false → (a && true && not b) ≡ false
lone_trim true b e = e
lone_trim false b e = refl

-- the word doesn't make the mark longer
pub plain_front : (c : Context) (k : ℕ) (w : shape.Parts) (t : Text) → Fronts c w t → starts (λ b. b == k) t ≡ false → plain_begins k w ≡ false
plain_front c k no_part t f e = refl
plain_front c k (part (plain []) ps) t f e = refl
plain_front c k (part (plain (b ∷ bs)) ps) t f e = sym (same_byte (λ z. z == k) b t f.1.0) ∙ e
plain_front c k (part (exact text) ps) t f e = refl
plain_front c k (part (double qs) ps) t f e = refl
plain_front c k (part tilde ps) t f e = refl
plain_front c k (part (param p o) ps) t f e = refl
plain_front c k (part (listing s) ps) t f e = refl
plain_front c k (part (arith x ws) ps) t f e = refl

trim_says : (i : Bool) (d : ℕ) (c : Context) (behind : shape.Parts) (h : Head) (w : shape.Parts) (rest : Text) → opens h ≡ Some false → HeadFits h rest → nat_lt d limit ≡ true → parts_fit i (suc d) (trim_context c) w ≡ true →
    Fronts (trim_context c) w (clear rest) → (has_part w ≡ false → is_close (clear rest) ≡ true) → part_fits i d c behind (filled h w) ≡ true
trim_says i d c behind (closed_head p o) w rest k f l e g n = absurd cc
trim_says i d c behind (filling p x y) w rest k f l e g n = absurd cc
trim_says i d c behind (trimming p x true) w rest k f l e g n = rw (l, f, e) refl
trim_says i d c behind (trimming p true false) w rest k f l e g n = rw (l, f.0, plain_front (trim_context c) 37 w (clear rest) g f.1, no_suffix (is_count p) (has_part w), e) refl
trim_says i d c behind (trimming p false false) w rest k f l e g n =
    rw (l, f.0, plain_front (trim_context c) 35 w (clear rest) g f.1, lone_trim (is_count p) (has_part w) (is_lone p w (is_close (clear rest)) f.2 n), e) refl

-- where no part stood, the brace closes at once
closes_word : (ps : shape.Parts) (s m e : State) → (has_part ps ≡ false → s ≡ m) → Took 125 m e → has_part ps ≡ false → is_close (clear s.bytes) ≡ true
closes_word ps s m e n q f =
    subst (λ (z : State). is_close (clear z.bytes) ≡ true) (sym (n f)) (subst (λ (z : Text). is_close z ≡ true) (sym q.is) refl)

head_parts : (h : Head) (xs : List Node) → filled_in (head_node h ∷ xs) (parts_in (head_node h ∷ xs)) ≡ filled h (parts_in xs)
head_parts h xs = refl

filled_expands : (h : Head) (w : shape.Parts) → is_expansion (filled h w) ≡ true
filled_expands (closed_head p o) w = refl
filled_expands (filling p t c) w = refl
filled_expands (trimming p x y) w = refl

pub fill_rule : (k : Known) (i : Bool) (c : Context) (d : ℕ) (s e : State) (vs : List Node) → Sat k (Fine k i) (Says i) (body (table.fill c)) d s e vs → Says i (table.fill c) d s e (act (table.fill c) vs)
fill_rule k i c d s e vs a t =
    let o = opened a.before in
    let b = a.rest in
    let g = b.rest in
    let q = takes_brace g.rest.before in
    let r = parts_turns k i (fill_context c) (suc d) g.before.0 b.middle g.middle g.ones g.before.1 (closes_at (fill_context c) 125 (clear g.middle.bytes) q.rest (fill_free c) q.is) in
    let enter_is : b.middle.bytes ≡ a.middle.bytes = enter_bytes b.before in
    let quiet_end : g.others ≡ [] = skip g.rest.is (nothing_said table.close_brace refl g.rest.before) ∙ nothing_said table.leave refl g.rest.rest in
    let inner : a.others ≡ g.ones = skip b.is (nothing_said table.enter refl b.before) ∙ stop g.is quiet_end in
    let is : vs ≡ head_node o.head ∷ g.ones = a.is ∙ (ap (λ (z : List Node). z ++ a.others) o.is ∙ ap (λ (z : List Node). head_node o.head ∷ z) inner) in
    let kind : opens o.head ≡ Some true = o.kind ∙ ap (λ (z : Bool). Some z) t in
    let none = λ (f : has_part (parts_in g.ones) ≡ false). subst (λ (z : Text). is_close (clear z) ≡ true) enter_is (closes_word (parts_in g.ones) b.middle g.middle g.rest.middle r.none q f) in
    record {
      one = filled o.head (parts_in g.ones);
      is = ap (λ (z : List Node). part_node (filled_in z (parts_in z)) ∷ []) is;
      expands = filled_expands o.head (parts_in g.ones);
      fits = λ behind n. fill_says i d c behind o.head (parts_in g.ones) a.middle.bytes kind o.fits (enters b.before) r.fits none;
    }

pub trim_rule : (k : Known) (i : Bool) (c : Context) (d : ℕ) (s e : State) (vs : List Node) → Sat k (Fine k i) (Says i) (body (table.trim c)) d s e vs → Says i (table.trim c) d s e (act (table.trim c) vs)
trim_rule k i c d s e vs a t =
    let o = opened a.before in
    let b = a.rest in
    let g = b.rest in
    let q = takes_brace g.rest.before in
    let r = parts_turns k i (trim_context c) (suc d) g.before.0 b.middle g.middle g.ones g.before.1 (closes_at (trim_context c) 125 (clear g.middle.bytes) q.rest (trim_free c) q.is) in
    let enter_is : b.middle.bytes ≡ a.middle.bytes = enter_bytes b.before in
    let quiet_end : g.others ≡ [] = skip g.rest.is (nothing_said table.close_brace refl g.rest.before) ∙ nothing_said table.leave refl g.rest.rest in
    let inner : a.others ≡ g.ones = skip b.is (nothing_said table.enter refl b.before) ∙ stop g.is quiet_end in
    let is : vs ≡ head_node o.head ∷ g.ones = a.is ∙ (ap (λ (z : List Node). z ++ a.others) o.is ∙ ap (λ (z : List Node). head_node o.head ∷ z) inner) in
    let kind : opens o.head ≡ Some false = o.kind ∙ ap (λ (z : Bool). Some z) t in
    let none = λ (f : has_part (parts_in g.ones) ≡ false). subst (λ (z : Text). is_close (clear z) ≡ true) enter_is (closes_word (parts_in g.ones) b.middle g.middle g.rest.middle r.none q f) in
    let front = subst (λ (z : Text). Fronts (trim_context c) (parts_in g.ones) (clear z)) enter_is r.front in
    record {
      one = filled o.head (parts_in g.ones);
      is = ap (λ (z : List Node). part_node (filled_in z (parts_in z)) ∷ []) is;
      expands = filled_expands o.head (parts_in g.ones);
      fits = λ behind n. trim_says i d c behind o.head (parts_in g.ones) a.middle.bytes kind o.fits (enters b.before) r.fits front none;
    }

pub braces_rule : (k : Known) (i : Bool) (c : Context) (d : ℕ) (s e : State) (vs : List Node) → Sat k (Fine k i) (Says i) (body (table.braces c)) d s e vs → Says i (table.braces c) d s e vs
unfolding holds
braces_rule k i c d s e vs (inl a) = closed_says k i d c s e vs a.1
braces_rule k i c d s e vs (inr (t, inl a)) = a.1.claim a.0
braces_rule k i c d s e vs (inr (t, inr a)) = a.1.claim a.0

-- ---- `$( )`

pub subst_rule : (k : Known) (i : Bool) (d : ℕ) (s e : State) (vs : List Node) → Sat k (Fine k i) (Says i) (body table.subst) d s e vs → Says i table.subst d s e (act table.subst vs)
subst_rule k i d s e vs a =
    let b = a.rest in
    let g = b.rest in
    let o = g.before.claim in
    let quiet_end : g.others ≡ [] = skip g.rest.is (nothing_said (table.op Rattle.sh_grammar.specs.Tokens.Close) refl g.rest.before) ∙ nothing_said table.leave refl g.rest.rest in
    let is : vs ≡ script_node o.one ∷ [] = skip a.is (nothing_said table.open_subst refl a.before) ∙ (skip b.is (nothing_said table.enter refl b.before) ∙ (stop g.is quiet_end ∙ o.is)) in
    record { one = listing o.one; is = ap (λ (z : List Node). part_node (listing (script_in z)) ∷ []) is; fits = (refl, λ c behind. rw (enters b.before, o.fits) refl) }

any_expansion : (i : Bool) (d : ℕ) (c : Context) (s e : State) (vs : List Node) → Anywhere i d vs → OneExpansion i d c s e vs
any_expansion i d c s e vs a = record { one = a.one; is = a.is; expands = a.fits.0; fits = λ behind n. a.fits.1 c behind }

pub expansion_rule : (k : Known) (i : Bool) (c : Context) (d : ℕ) (s e : State) (vs : List Node) → Sat k (Fine k i) (Says i) (body (table.expansion c)) d s e vs → Says i (table.expansion c) d s e vs
expansion_rule k i c d s e vs (inl a) = any_expansion i d c s e vs a.1.claim
expansion_rule k i c d s e vs (inr (t, inl a)) = any_expansion i d c s e vs a.1.claim
expansion_rule k i c d s e vs (inr (t, inr (u, inl a))) = a.1.claim
expansion_rule k i c d s e vs (inr (t, inr (u, inr a))) = dollar_says k i d c s e vs a.1

-- ---- a part

is_byte : (b : ℕ) (t : Text) → starts (λ z. z == b) t ≡ true → (p : ℕ → Bool) → p b ≡ true → starts p t ≡ true
is_byte b t e p f = same_byte p b t e ∙ f

dollar_ahead : (t : Text) → dollar_behind t ≡ true → starts (λ z. z == 36) t ≡ true
dollar_ahead [] e = absurd (false≢true e)
dollar_ahead (b ∷ bs) e = (both (b == 36) (not (Rattle.sh_grammar.specs.Bytes.is_bare_dollar bs)) e).0

expansion_begins : (c : Context) (p : shape.Part) (t : Text) → is_expansion p ≡ true → starts (λ z. z == 36) t ≡ true → Begins c p t
expansion_begins c (plain text) t e h = absurd (false≢true e)
expansion_begins c (exact text) t e h = absurd (false≢true e)
expansion_begins c (double ps) t e h = absurd (false≢true e)
expansion_begins c tilde t e h = absurd (false≢true e)
expansion_begins c (param p o) t e h = h
expansion_begins c (listing s) t e h = h
expansion_begins c (arith x ws) t e h = h

expansion_runs : (c : Context) (p : shape.Part) (s e : State) → is_expansion p ≡ true → PlainRun c p s e
expansion_runs c (plain text) s e h = absurd (false≢true h)
expansion_runs c (exact text) s e h = tt
expansion_runs c (double ps) s e h = tt
expansion_runs c tilde s e h = tt
expansion_runs c (param p o) s e h = tt
expansion_runs c (listing x) s e h = tt
expansion_runs c (arith x ws) s e h = tt

pub part_rule : (k : Known) (i : Bool) (c : Context) (d : ℕ) (s e : State) (vs : List Node) → Fine k i s → Sat k (Fine k i) (Says i) (body (table.part c)) d s e vs → Says i (table.part c) d s e vs
unfolding holds
part_rule k i c d s e vs fine (inl a) = exact_part k i d c s e vs (both (has_single c) (byte_next 39 s.bytes) a.0).0 fine a.1
part_rule k i c d s e vs fine (inr (t, inl a)) =
    let o = a.1.claim in
    let b = both (has_double c) (byte_next 34 s.bytes) a.0 in
    record { one = double o.one; is = o.is; ok = record { begins = b.1; runs = tt; fits = λ behind f. rw (b.0, o.fits) refl } }
part_rule k i c d s e vs fine (inr (t, inr (u, inl a))) = escaped_part k i d c s e vs a.1
part_rule k i c d s e vs fine (inr (t, inr (u, inr (v, inl a)))) =
    let o = a.1.claim in
    record {
      one = o.one;
      is = o.is;
      ok = record {
        begins = expansion_begins c o.one (clear s.bytes) o.expands (dollar_ahead (clear s.bytes) a.0);
        runs = expansion_runs c o.one s e o.expands;
        fits = λ behind f. o.fits behind (fronts_on c behind (clear e.bytes) f);
      };
    }
part_rule k i c d s e vs fine (inr (t, inr (u, inr (v, inr a)))) = literal_part k i d c s e vs a.1
