-- No piece stands before the end of a text.
use Rattle.std.proofs.Common.{◌≡◌, true, false, [], refl, sym, subst, ◌∙◌}
use Rattle.text_grammar.specs.Grammar.{Grammar, pass, fail, seq, choose, rule}
use Rattle.text_grammar.specs.Language.{Language}
use Rattle.text_grammar.specs.Derivations.{Tree, empty, leaf, both, first, second, more, node, At}
use Rattle.bash_grammar.specs.Bytes.{clear, gap, literal_run, unit_starts}
use Rattle.bash_grammar.specs.Tokens.{Newline, Bang, front, token, is_token, code, key_text, is_key, here_next, copy_next, both_next, redirect_next, plain_next, simple_next, compound_next}
use Rattle.bash_grammar.specs.State.{State}
use Rattle.bash_grammar.specs.Nodes.{Node}
use Rattle.bash_grammar.specs.Moves.{next, key_next, compound_begins, other_begins, simple_begins}
use Rattle.bash_grammar.specs.Table.{Rule, piece, complete, chain, pipeline, command, simple_command}
use Rattle.bash_grammar.specs.Steps.{Scan, Known}
use Rattle.bash_grammar.specs.Tests.{holds}
use Rattle.bash_grammar.specs.Spelling.{knowing}

-- ---- grammars that read nothing from a state

abbrev Nothing : {S P T R V : Type 0} → Language S P T R V → Grammar P T R → S → Type 0
Nothing {S} {R = R} {V = V} l g s = (t : Tree R V) (e : S) → At l t g s e → ⊥

no_fail : {S P T R V : Type 0} (l : Language S P T R V) (s : S) → Nothing l fail s
no_fail l s empty e h = h
no_fail l s (leaf x) e h = h
no_fail l s (both t u) e h = h
no_fail l s (first t) e h = h
no_fail l s (second t) e h = h
no_fail l s (more t u) e h = h
no_fail l s (node q t) e h = h

no_rule : {S P T R V : Type 0} (l : Language S P T R V) (r : R) (s : S) → Nothing l (l.body r) s → Nothing l (rule r) s
no_rule l r s none (node q t) e h = none t e h.1
no_rule l r s none t e h = absurd h

no_seq : {S P T R V : Type 0} (l : Language S P T R V) (g h : Grammar P T R) (s : S) → Nothing l g s → Nothing l (seq g h) s
no_seq l g h s none (both t u) e a = none t a.0 a.1
no_seq l g h s none t e a = absurd a

-- the second, where the test doesn't hold
no_second : {S P T R V : Type 0} (l : Language S P T R V) (p : T) (g h : Grammar P T R) (s : S) → l.holds p s ≡ false → Nothing l h s → Nothing l (choose p g h) s
no_second l p g h s f none (first t) e a = let c : true ≡ false = sym a.0 ∙ f in absurd cc
no_second l p g h s f none (second t) e a = none t e a.1
no_second l p g h s f none t e a = absurd a

passes : {S P T R V : Type 0} (l : Language S P T R V) (t : Tree R V) (s e : S) → At l t pass s e → s ≡ e
passes l empty s e a = a
passes l t s e a = absurd a

-- behind what may be left out
no_behind : {S P T R V : Type 0} (l : Language S P T R V) (p : T) (g h : Grammar P T R) (s : S) → l.holds p s ≡ false → Nothing l h s → Nothing l (seq (choose p g pass) h) s
no_behind l p g h s f none (both (first t) u) e a = let c : true ≡ false = sym a.1.0 ∙ f in absurd cc
no_behind {S} l p g h s f none (both (second t) u) e a = none u e (subst (λ (z : S). At l u h z e) (sym (passes l t s a.0 a.1.1)) a.2)
no_behind l p g h s f none (both t u) e a = absurd a.1
no_behind l p g h s f none t e a = absurd a

-- ---- at the end

no_newline : (scan : Scan) (s : State) → gap s.bytes ≡ [] → holds scan (next Newline) s ≡ false
unfolding holds is_token token front code
no_newline scan s e = rw (e) refl

no_bang : (scan : Scan) (s : State) → gap s.bytes ≡ [] → holds scan (key_next Bang) s ≡ false
unfolding holds is_key literal_run unit_starts clear key_text
no_bang scan s e = rw (e) refl

no_compound : (scan : Scan) (s : State) → gap s.bytes ≡ [] → holds scan compound_begins s ≡ false
unfolding holds compound_next is_token token front code
no_compound scan s e = rw (e) refl

no_other : (scan : Scan) (s : State) → gap s.bytes ≡ [] → holds scan other_begins s ≡ false
unfolding holds is_token token front code
no_other scan s e = rw (e) refl

no_simple : (scan : Scan) (s : State) → gap s.bytes ≡ [] → holds scan simple_begins s ≡ false
unfolding holds simple_next redirect_next here_next copy_next both_next plain_next is_token token front code
no_simple scan s e = rw (e) refl

pub no_piece : (k : Known) (s : State) → gap s.bytes ≡ [] → (t : Tree Rule Node) (m : State) → At (knowing k) t (rule piece) s m → ⊥
no_piece k s e =
    let l = knowing k in
    no_rule l piece s (no_second l (next Newline) _ _ s (no_newline k.scan s e)
    (no_seq l (rule complete) _ s (no_rule l complete s
    (no_seq l (rule chain) _ s (no_rule l chain s
    (no_seq l (rule pipeline) _ s (no_rule l pipeline s
    (no_behind l (key_next Bang) _ _ s (no_bang k.scan s e)
    (no_seq l (rule command) _ s (no_rule l command s
    (no_second l compound_begins _ _ s (no_compound k.scan s e)
    (no_second l other_begins _ _ s (no_other k.scan s e)
    (no_rule l simple_command s (no_second l simple_begins _ _ s (no_simple k.scan s e) (no_fail l s)))))))))))))))
