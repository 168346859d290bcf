-- What is said of each rule holds: the induction over derivations, but for arithmetic expansions, of which more has to be said.
use Rattle.std.proofs.Common.{◌≡◌, ℕ, zero, suc, Bool, true, false, List, [], ◌∷◌, inl, inr, refl, sym, subst}
use Rattle.text_grammar.specs.Grammar.{pass, fail, step, seq, choose, star, rule}
use Rattle.text_grammar.specs.Derivations.{Tree, At}
use Rattle.text_grammar.specs.Values.{kids}
use Rattle.sh_grammar.specs.State.{State, Node, parts_in}
use Rattle.std.specs.Prelude.{◌||◌, not, ◌==◌}
use Rattle.sh_grammar.specs.Bytes.{Text, in_body, clear, starts, is_escaped, is_plain, is_active}
use Rattle.sh_grammar.specs.Steps.{Known}
use Rattle.sh_grammar.specs.Table.{Test, Rule, Gram, piece, line_piece, complete, complete_more, list, maybe_list, list_more, lines, chain, link, and_link, or_link, pipeline, bang, stage, command, compound_command, compound, other_compound, group, subshell, if_command, if_branch, elif_branch, else_part, while_loop, until_loop, do_body, for_loop, for_words, for_in, case_command, case_in, case_item, pattern_more, item_end, function_command, simple_command, prefixed, called, suffix, prefix_item, suffix_item, assign, redirect, target, file, word, value, word_parts, more_parts, pattern, part, double_quotes, expansion, braces, fill, trim, subst as substitution, sum, sum_part, sum_group, body_parts, body, ends}
use Rattle.sh_grammar.specs.Acts.{act}
use Rattle.sh_grammar.specs.Spelling.{knowing}
use Rattle.sh_printing.specs.Printable.{parts_fit}
use Rattle.sh_printing.proofs.ExactRules.{Reading, Claim, Stepped, Both, Turns, Ruled, Sat, All, is_even, sat_at}
use Rattle.sh_printing.proofs.ExactBytes.{is_stuck}
use Rattle.sh_printing.proofs.ExactStates.{Forth, Back, Fine}
use Rattle.sh_printing.proofs.ExactInvariants.{deep, even}
use Rattle.sh_printing.proofs.ExactBack.{keeps}
use Rattle.sh_printing.proofs.ExactSteps.{nothing_said, stop}
use Rattle.sh_printing.proofs.ExactClaims.{Says}
use Rattle.sh_printing.proofs.ExactExpansions.{parts_turns, double_quotes_says, fill_rule, trim_rule, braces_rule, subst_rule, expansion_rule, part_rule}
use Rattle.sh_printing.proofs.ExactWords.{more_parts_rule, word_parts_rule}
use Rattle.sh_printing.proofs.ExactFirst.{word_rule, value_rule, pattern_rule}
use Rattle.sh_printing.proofs.ExactLists.{lines_rule, complete_more_rule, complete_rule, piece_rule, line_piece_rule, list_rule, maybe_list_rule, list_more_rule, chain_rule, link_rule, and_link_rule, or_link_rule, pipeline_rule, bang_rule, stage_rule, command_rule}
use Rattle.sh_printing.proofs.ExactCompound.{compound_command_rule, compound_rule, other_compound_rule, group_rule, subshell_rule, if_rule, if_branch_rule, elif_rule, else_rule, do_body_rule, while_rule, until_rule, for_rule, for_words_rule, for_in_rule, case_rule, case_in_rule, case_item_rule, pattern_more_rule, item_end_rule}
use Rattle.sh_printing.proofs.ExactSimple.{assign_rule, prefix_item_rule, suffix_item_rule, suffix_rule, prefixed_rule, called_rule, simple_rule}
use Rattle.sh_printing.proofs.ExactFunctions.{function_rule}
use Rattle.sh_printing.proofs.ExactRedirects.{Expands, redirect_rule, file_rule, target_rule}

-- ---- a claim that says less

turns_map : (F : State → Type 0) (p : Test) (one other : State → State → List Node → Type 0) → ((s e : State) (vs : List Node) → one s e vs → other s e vs) → (n : ℕ) (s e : State) (vs : List Node) → Turns F p one n s e vs → Turns F p other n s e vs
turns_map F p one other h zero s e vs t = t
turns_map F p one other h (suc n) s e vs t =
    let b = t.1 in
    (t.0, record { middle = b.middle; fine = b.fine; ones = b.ones; others = b.others; before = h s b.middle b.ones b.before; rest = turns_map F p one other h n b.middle e b.others b.rest; is = b.is })

pub sat_map : (k : Known) (F : State → Type 0) (Q R : Claim) → ((r : Rule) (d : ℕ) (s e : State) (vs : List Node) → Q r d s e vs → R r d s e vs) → (g : Gram) (d : ℕ) (s e : State) (vs : List Node) → Sat k F Q g d s e vs → Sat k F R g d s e vs
sat_map k F Q R h pass d s e vs a = a
sat_map k F Q R h fail d s e vs a = a
sat_map k F Q R h (step p) d s e vs a = a
sat_map k F Q R h (seq f g) d s e vs a =
    record {
      middle = a.middle;
      fine = a.fine;
      ones = a.ones;
      others = a.others;
      before = sat_map k F Q R h f d s a.middle a.ones a.before;
      rest = sat_map k F Q R h g (Rattle.sh_printing.proofs.ExactRules.after f d) a.middle e a.others a.rest;
      is = a.is;
    }
sat_map k F Q R h (choose p f g) d s e vs (inl a) = inl (a.0, sat_map k F Q R h f d s e vs a.1)
sat_map k F Q R h (choose p f g) d s e vs (inr a) = inr (a.0, sat_map k F Q R h g d s e vs a.1)
sat_map k F Q R h (star p g) d s e vs a = (a.0, turns_map F p (Sat k F Q g d) (Sat k F R g d) (λ s e vs x. sat_map k F Q R h g d s e vs x) a.0 s e vs a.1)
sat_map k F Q R h (rule r) d s e vs a = record { depth = a.depth; depth_behind = a.depth_behind; fine = a.fine; fine_behind = a.fine_behind; claim = h r d s e vs a.claim }

-- ---- bodies

stuck_by : (a b c d : Bool) → not ((a || b || c) || d || not (a || b || c || d)) ≡ false
stuck_by true b c d = refl
stuck_by false true c d = refl
stuck_by false false true d = refl
stuck_by false false false true = refl
stuck_by false false false false = refl

-- in a body each byte is quoted by a backslash, or stands for itself
body_free : (t : Text) → starts (is_stuck in_body) t ≡ false
unfolding is_escaped is_plain is_active
body_free [] = refl
body_free (b ∷ bs) = stuck_by (b == 36) (b == 96) (b == 92) (b == 0)

pub body_rule : (k : Known) (i : Bool) (d : ℕ) (s e : State) (vs : List Node) → Sat k (Fine k i) (Says i) (body body_parts) d s e vs → Says i body_parts d s e (act body_parts vs)
body_rule k i d s e vs a =
    let r = parts_turns k i in_body d a.before.0 s a.middle a.ones a.before.1 (body_free (clear a.middle.bytes)) in
    record { one = parts_in vs; is = refl; fits = subst (λ (z : List Node). parts_fit i d in_body (parts_in z) ≡ true) (sym (stop a.is (nothing_said ends refl a.rest))) r.fits }

-- ---- each rule

-- What more is said of each rule, so that an arithmetic expansion fits.
pub record Held (k : Known) (i : Bool) : Type 1 where
  pub more : Claim
  pub rules : (r : Rule) (d : ℕ) (s e : State) (vs : List Node) → s.depth ≡ d → Fine k i s → Fine k i e → Sat k (Fine k i) (λ r d s e vs. Says i r d s e vs × more r d s e vs) (body r) d s e vs → more r d s e (act r vs)
  pub sums : (d : ℕ) (s e : State) (vs : List Node) → Sat k (Fine k i) (λ r d s e vs. Says i r d s e vs × more r d s e vs) (body sum) d s e vs → Says i sum d s e (act sum vs)

says_rule : (k : Known) (i : Bool) → Expands k → (r : Rule) (d : ℕ) (s e : State) (vs : List Node) → Fine k i s → (Sat k (Fine k i) (Says i) (body r) d s e vs → r ≡ sum → Says i sum d s e (act sum vs)) → Sat k (Fine k i) (Says i) (body r) d s e vs → Says i r d s e (act r vs)
says_rule k i x piece d s e vs f h a = piece_rule k i d s e vs a
says_rule k i x line_piece d s e vs f h a = line_piece_rule k i d s e vs a
says_rule k i x complete d s e vs f h a = complete_rule k i d s e vs a
says_rule k i x complete_more d s e vs f h a = complete_more_rule k i d s e vs a
says_rule k i x list d s e vs f h a = list_rule k i d s e vs a
says_rule k i x maybe_list d s e vs f h a = maybe_list_rule k i d s e vs a
says_rule k i x list_more d s e vs f h a = list_more_rule k i d s e vs a
says_rule k i x lines d s e vs f h a = lines_rule k i d s e vs a
says_rule k i x chain d s e vs f h a = chain_rule k i d s e vs a
says_rule k i x link d s e vs f h a = link_rule k i d s e vs a
says_rule k i x and_link d s e vs f h a = and_link_rule k i d s e vs a
says_rule k i x or_link d s e vs f h a = or_link_rule k i d s e vs a
says_rule k i x pipeline d s e vs f h a = pipeline_rule k i d s e vs a
says_rule k i x bang d s e vs f h a = bang_rule k i d s e vs a
says_rule k i x stage d s e vs f h a = stage_rule k i d s e vs a
says_rule k i x command d s e vs f h a = command_rule k i d s e vs a
says_rule k i x compound_command d s e vs f h a = compound_command_rule k i d s e vs a
says_rule k i x compound d s e vs f h a = compound_rule k i d s e vs a
says_rule k i x other_compound d s e vs f h a = other_compound_rule k i d s e vs a
says_rule k i x group d s e vs f h a = group_rule k i d s e vs a
says_rule k i x subshell d s e vs f h a = subshell_rule k i d s e vs a
says_rule k i x if_command d s e vs f h a = if_rule k i d s e vs a
says_rule k i x if_branch d s e vs f h a = if_branch_rule k i d s e vs a
says_rule k i x elif_branch d s e vs f h a = elif_rule k i d s e vs a
says_rule k i x else_part d s e vs f h a = else_rule k i d s e vs a
says_rule k i x while_loop d s e vs f h a = while_rule k i d s e vs a
says_rule k i x until_loop d s e vs f h a = until_rule k i d s e vs a
says_rule k i x do_body d s e vs f h a = do_body_rule k i d s e vs a
says_rule k i x for_loop d s e vs f h a = for_rule k i d s e vs a
says_rule k i x for_words d s e vs f h a = for_words_rule k i d s e vs a
says_rule k i x for_in d s e vs f h a = for_in_rule k i d s e vs a
says_rule k i x case_command d s e vs f h a = case_rule k i d s e vs a
says_rule k i x case_in d s e vs f h a = case_in_rule k i d s e vs a
says_rule k i x case_item d s e vs f h a = case_item_rule k i d s e vs a
says_rule k i x pattern_more d s e vs f h a = pattern_more_rule k i d s e vs a
says_rule k i x item_end d s e vs f h a = item_end_rule k i d s e vs a
says_rule k i x function_command d s e vs f h a = function_rule k i d s e vs a
says_rule k i x simple_command d s e vs f h a = simple_rule k i d s e vs a
says_rule k i x prefixed d s e vs f h a = prefixed_rule k i d s e vs a
says_rule k i x called d s e vs f h a = called_rule k i d s e vs a
says_rule k i x suffix d s e vs f h a = suffix_rule k i d s e vs a
says_rule k i x prefix_item d s e vs f h a = prefix_item_rule k i d s e vs a
says_rule k i x suffix_item d s e vs f h a = suffix_item_rule k i d s e vs a
says_rule k i x assign d s e vs f h a = assign_rule k i d s e vs a
says_rule k i x redirect d s e vs f h a = redirect_rule k i d s e vs a
says_rule k i x target d s e vs f h a = target_rule k i d s e vs x a
says_rule k i x file d s e vs f h a = file_rule k i d s e vs a
says_rule k i x word d s e vs f h a = word_rule k i d s e vs a
says_rule k i x value d s e vs f h a = value_rule k i d s e vs a
says_rule k i x word_parts d s e vs f h a = word_parts_rule k i d s e vs a
says_rule k i x more_parts d s e vs f h a = more_parts_rule k i d s e vs a
says_rule k i x pattern d s e vs f h a = pattern_rule k i d s e vs a
says_rule k i x (part c) d s e vs f h a = part_rule k i c d s e vs f a
says_rule k i x double_quotes d s e vs f h a = double_quotes_says k i d s e vs a
says_rule k i x (expansion c) d s e vs f h a = expansion_rule k i c d s e vs a
says_rule k i x (braces c) d s e vs f h a = braces_rule k i c d s e vs a
says_rule k i x (fill c) d s e vs f h a = fill_rule k i c d s e vs a
says_rule k i x (trim c) d s e vs f h a = trim_rule k i c d s e vs a
says_rule k i x substitution d s e vs f h a = subst_rule k i d s e vs a
says_rule k i x sum d s e vs f h a = h a refl
says_rule k i x sum_part d s e vs f h a = tt
says_rule k i x sum_group d s e vs f h a = tt
says_rule k i x body_parts d s e vs f h a = body_rule k i d s e vs a

sum_of : (k : Known) (i : Bool) (m : Held k i) (r : Rule) (d : ℕ) (s e : State) (vs : List Node) → r ≡ sum → Sat k (Fine k i) (λ r d s e vs. Says i r d s e vs × m.more r d s e vs) (body r) d s e vs → Says i sum d s e (act sum vs)
sum_of k i m r d s e vs z c = m.sums d s e vs (subst (λ (q : Rule). Sat k (Fine k i) (λ r d s e vs. Says i r d s e vs × m.more r d s e vs) (body q) d s e vs) z c)

-- what is said of the values of each derivation
pub says_at : (k : Known) (i : Bool) → Expands k → Held k i → (t : Tree Rule Node) (r : Rule) (d : ℕ) (s e : State) → s.depth ≡ d → Forth i s → Back k i e → At (knowing k) t (rule r) s e → Says i r d s e (kids (knowing k) t)
says_at k i x m t r d s e h f b a =
    let Q : Claim = λ r d s e vs. Says i r d s e vs × m.more r d s e vs in
    let j = sat_at k (Forth i) (Back k i) Q (keeps k i) (deep k) even
    (λ q d s e vs h f g c. (says_rule k i x q d s e vs f (λ y z. sum_of k i m q d s e vs z c) (sat_map k (Fine k i) Q (Says i) (λ r d s e vs p. p.0) (body q) d s e vs c), m.rules q d s e vs h f g c))
    t (rule r) d s e refl h f b a in
    j.claim.0
