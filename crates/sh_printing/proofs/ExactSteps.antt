-- What steps give: nothing, a level, the head of an expansion.
use Rattle.std.proofs.Common.{◌≡◌, ℕ, Bool, true, false, cond, List, [], ◌∷◌, ◌++◌, Option, Some, None, refl, ap, subst, ◌∙◌, append-nil}
use Rattle.std.specs.Prelude.{◌&&◌, nat_lt}
use Rattle.std.proofs.lemmas.Bool.{false≢true}
use Rattle.text_grammar.specs.Grammar.{Leaf}
use Rattle.text_grammar.specs.Values.{leaf_kids}
use Rattle.sh_grammar.specs.Bytes.{Text, clear}
use Rattle.sh_grammar.specs.Tokens.{End, Newline, token, is_token, is_key}
use Rattle.sh_grammar.specs.Expansions.{◌>>=◌, behind_two, dollar_sum}
use Rattle.sh_grammar.specs.Bodies.{bodies_at}
use Rattle.sh_grammar.specs.State.{State, Node}
use Rattle.sh_grammar.specs.Steps.{Known, Read, limit, run_step, behind, word_place, bytes_read, none_owed}
use Rattle.sh_grammar.specs.Sums.{sum_run}
use Rattle.sh_grammar.specs.Table.{Step, op, key, line, ends, to_word, quote, open_subst, close_brace, open_sum, sum_bytes, operand, sum_open, sum_close, enter, leave}
use Rattle.sh_grammar.proofs.Tools.{If, chosen_by}
use Rattle.sh_printing.proofs.ExactParts.{by_step}
use Rattle.sh_printing.proofs.ExactRules.{Stepped}

-- ---- steps that give nothing to the tree

abbrev pub Quiet : Read → Type 0
Quiet o = If (λ (x : Leaf Node × State). leaf_kids x.0 ≡ []) o

quiet_after : {A : Type 0} (o : Option A) (f : A → Read) → ((x : A) → Quiet (f x)) → Quiet (o >>= f)
quiet_after None f h = tt
quiet_after (Some x) f h = h x

quiet_if : (b : Bool) (o : Read) → Quiet o → Quiet (cond b o None)
quiet_if true o h = h
quiet_if false o h = tt

quiet_bytes : (s : State) (x : Text × Text) → Quiet (bytes_read s x)
quiet_bytes s ([], rest) = tt
quiet_bytes s (b ∷ bs, rest) = refl

abbrev pub is_quiet : Step → Bool
is_quiet (op o) = true
is_quiet (key w) = true
is_quiet line = true
is_quiet ends = true
is_quiet to_word = true
is_quiet quote = true
is_quiet open_subst = true
is_quiet close_brace = true
is_quiet open_sum = true
is_quiet sum_bytes = true
is_quiet operand = true
is_quiet sum_open = true
is_quiet sum_close = true
is_quiet enter = true
is_quiet leave = true
is_quiet p = false

quiet_step : (k : Known) (p : Step) (s : State) → is_quiet p ≡ true → Quiet (run_step k p s)
unfolding run_step
quiet_step k (op o) s e = quiet_if (is_token o s.bytes) _ refl
quiet_step k (key w) s e = quiet_if (is_key w s.bytes) _ refl
quiet_step k line s e = quiet_if (is_token Newline s.bytes) _ (quiet_after (bodies_at s.owed (token s.bytes).1) _ (λ x. refl))
quiet_step k ends s e = quiet_if (is_token End s.bytes && none_owed s.owed) _ refl
quiet_step k to_word s e = quiet_after (word_place s.bytes) _ (λ x. refl)
quiet_step k quote s e = quiet_after (behind 34 (clear s.bytes)) _ (λ x. refl)
quiet_step k open_subst s e = quiet_after (behind_two 36 40 s.bytes) _ (λ x. refl)
quiet_step k close_brace s e = quiet_after (behind 125 (clear s.bytes)) _ (λ x. refl)
quiet_step k open_sum s e = quiet_after (dollar_sum s.bytes) _ (λ x. refl)
quiet_step k sum_bytes s e = quiet_bytes s (sum_run s.bytes)
quiet_step k operand s e = refl
quiet_step k sum_open s e = quiet_after (behind 40 s.bytes) _ (λ x. refl)
quiet_step k sum_close s e = quiet_after (behind 41 s.bytes) _ (λ x. refl)
quiet_step k enter s e = quiet_if (nat_lt s.depth limit) _ refl
quiet_step k leave s e = refl
quiet_step k p s e = absurd (false≢true e)

-- nothing is said by such a step
pub nothing_said : {k : Known} {F : State → Type 0} (p : Step) {d : ℕ} {s e : State} {vs : List Node} → is_quiet p ≡ true → Stepped k F p d s e vs → vs ≡ []
nothing_said {k} p {s = s} q st = by_step (λ (e : State) (ws : List Node). ws ≡ []) (quiet_step k p s q) st

-- behind such a step
pub skip : {vs ones others : List Node} → vs ≡ ones ++ others → ones ≡ [] → vs ≡ others
skip {others = others} h e = h ∙ ap (λ (z : List Node). z ++ others) e

-- before one
pub stop : {vs ones others : List Node} → vs ≡ ones ++ others → others ≡ [] → vs ≡ ones
stop {ones = ones} h e = h ∙ (ap (λ (z : List Node). ones ++ z) e ∙ append-nil ones)

-- ---- levels

entered_at : (b : Bool) (x y : Leaf Node × State) → cond b (Some x) None ≡ Some y → b ≡ true
entered_at true x y e = refl
entered_at false x y e = absurd cc

-- a level may begin here
pub enters : {k : Known} {F : State → Type 0} {d : ℕ} {s e : State} {vs : List Node} → Stepped k F enter d s e vs → nat_lt d limit ≡ true
unfolding run_step
enters {s = s} {e = e} st = subst (λ (z : ℕ). nat_lt z limit ≡ true) st.depth (entered_at (nat_lt s.depth limit) _ (st.gave, e) st.reads)

-- and takes no byte
pub enter_bytes : {k : Known} {F : State → Type 0} {d : ℕ} {s e : State} {vs : List Node} → Stepped k F enter d s e vs → e.bytes ≡ s.bytes
unfolding run_step
enter_bytes {s = s} st = by_step (λ (m : State) (ws : List Node). m.bytes ≡ s.bytes) (chosen_by (If (λ (x : Leaf Node × State). x.1.bytes ≡ s.bytes)) (nat_lt s.depth limit) _ _ (λ e. refl) (λ e. tt)) st
