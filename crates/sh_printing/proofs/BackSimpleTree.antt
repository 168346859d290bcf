-- What is printed of a simple command reads back as the command, where the lists in it do.
use Rattle.std.proofs.Common.{◌≡◌, ℕ, zero, suc, ◌+◌, ◌≤◌, Bool, true, false, List, [], ◌∷◌, ◌++◌, refl, sym, ap, subst, ◌∙◌, append_assoc, arith}
use Rattle.std.specs.Prelude.{◌||◌, ◌&&◌, not, if◌then◌else◌}
use Rattle.std.proofs.lemmas.List.{append-nil}
use Rattle.text_grammar.specs.Grammar.{star, rule}
use Rattle.span_text.specs.Names.{is_name}
use Rattle.sh_grammar.specs.Shape as shape
use Rattle.sh_grammar.specs.Shape.{no_word, word, no_assign, assign, no_redirect, redirect, command, simple}
use Rattle.sh_grammar.specs.Bytes.{Text, in_word, in_body, gap}
use Rattle.sh_grammar.specs.State.{Sum, Node, command_node}
use Rattle.sh_grammar.specs.Table.{Test, Rule, prefix_begins, prefix_item, suffix_begins, suffix_item}
use Rattle.sh_grammar.specs.Table as table
use Rattle.sh_grammar.specs.Steps.{limit}
use Rattle.sh_grammar.proofs.Known.{known_in}
use Rattle.sh_printing.specs.Marks as marks
use Rattle.sh_printing.specs.Marks.{End, blank, ended}
use Rattle.sh_printing.specs.Delimiters.{has_line, delimiter}
use Rattle.sh_printing.specs.Printing.{parts_text, words_text, value_text, assigns_text, redirects_text, command_text, parts_open, last_words_text}
use Rattle.sh_printing.specs.Printable.{parts_fit, word_fits, words_fit, value_fits, assigns_fit, redirects_fit, command_fits, kind_fits, has_redirect, fd_fits, is_copied_word, literal_body, ends_line, is_assignment, is_reserved_word}
use Rattle.sh_printing.proofs.BackSays.{Says, ◌then◌, at_state, to_state}
use Rattle.sh_printing.proofs.BackDue.{Due, named, named_after, st, after, pending_text, Covers, covers_first, covers_after, covers_next, owing_more, covers_second}
use Rattle.sh_printing.proofs.BackBytes.{both, isnt, three}
use Rattle.sh_printing.proofs.BackBehind.{parts_on, body_closes}
use Rattle.sh_printing.proofs.BackWordFronts.{word_begins}
use Rattle.sh_printing.proofs.BackRedirects.{read_says, write_says, append_says, unit_aimed}
use Rattle.sh_printing.proofs.BackLines.{clean}
use Rattle.sh_printing.proofs.BackCommands.{Redirecting, by_suffix, by_prefix, suffix_words}
use Rattle.sh_printing.proofs.BackLists.{due, On, covers_on}
use Rattle.sh_printing.proofs.BackNamed.{body_of, parts_bodies, words_bodies, value_bodies, assigns_bodies, redirects_bodies, parts_free, words_free, value_free, assigns_free, redirects_free, parts_closed, command_bodies, command_free, kind_free}
use Rattle.sh_printing.proofs.BackNodes.{word_nodes, assign_nodes, redirect_nodes}
use Rattle.sh_printing.proofs.BackSums.{opening_of}
use Rattle.sh_printing.proofs.BackKept.{body_kept}
use Rattle.sh_printing.proofs.BackExpand.{body_says, expanded_back, body_lines}
use Rattle.sh_printing.proofs.BackSteps.{after_clean, word_node_of}
use Rattle.sh_printing.proofs.BackBegins.{word_first, words_outside, assigns_outside, redirects_outside, ended_outside, ended_open, words_open as words_no_open, redirects_no_open, redirect_at}
use Rattle.sh_printing.proofs.BackHeads.{last_split, last_redirected, simple_facts, word_split, assign_split}
use Rattle.sh_printing.proofs.BackCommandSteps.{literal_target, expanded_target, word_owed, copied_target, copied_closed, redirects_step, redirects_on, no_redirects, StartsAs, starts_same, Lasts, ended_lasts}
use Rattle.sh_printing.proofs.BackSimpleSteps.{name_first, redirect_first, assign_first, prefix_stops, suffix_stops}
use Rattle.sh_printing.proofs.BackLastWords.{last_outside, words_lasts, redirects_at, starts_behind, either, last_word_step}
use Rattle.sh_printing.proofs.BackTreeSteps.{copied_covers, here_covers, here_step, known_bodies, nothing_fits, on_all, on_at}
use Rattle.sh_printing.proofs.BackSimple.{word_no_redirect, word_token, redirect_simple}
use Rattle.sh_printing.proofs.BackFirst.{first_front, first_simple}
use Rattle.sh_printing.proofs.BackInner.{WordsLists, AssignsLists, RedirectsLists}
use Rattle.sh_printing.proofs.BackWordTree.{word_law, words_law, assign_law, assigns_law, parts_law}

-- words behind redirections, up to what ends the command
pub last_words_law : (n : ℕ) (ds : List Text) (i : Bool) (d : ℕ) (q : List Sum) (g : Due) (end : End) (ws : shape.Words) (t : Text) → WordsLists n ds i ws → limit ≤ n + d → d ≤ limit → words_fit i d ws ≡ true → words_free ws ≡ true → Covers (known_in n ds) g (words_bodies ws) →
    On (known_in n ds) (star suffix_begins (rule suffix_item)) d q (st d q g (last_words_text true end ws (pending_text g.owing) ++ t)) (ended end) t (word_nodes ws) (named g ++ words_bodies ws)
last_words_law n ds i d q g end no_word t ls h D x y cov =
    on_all (known_in n ds) d q _ (ended end) t [] (named g) (named g ++ []) (sym (append-nil (named g))) (star suffix_begins (rule suffix_item)) (no_redirects (known_in n ds) d q g (ended end) t suffix_begins suffix_item (ended_lasts suffix_begins suffix_item by_suffix end t))
last_words_law n ds i d q g end (word w ws) t ls h D x y cov =
    let k = known_in n ds in
    let u = both (word_fits i d true w) (words_fit i d ws) x in
    let v = both (parts_free w) (words_free ws) y in
    let m = after (parts_open w) g (parts_bodies w) in
    let z = last_words_text true end ws (pending_text m.owing) ++ t in
    let o = last_outside end ws t (pending_text m.owing) in
    let front = word_begins i d (opening_of g) w z u.0 o in
    let nm = named_after (parts_open w) g (parts_bodies w) (parts_closed w) in
    last_word_step k d q g m w end ws t (named g ++ (parts_bodies w ++ words_bodies ws)) (word_owed (parts_open w) g (parts_bodies w)) front
    (λ bytes e. word_node_of k d q g bytes w z e front (word_law n ds i d q g true w z ls.0 h D u.0 v.0 (covers_first k g (parts_bodies w) (words_bodies ws) cov) o))
    (on_all k d q _ (ended end) t (word_nodes ws) (named m ++ words_bodies ws) (named g ++ (parts_bodies w ++ words_bodies ws)) (ap (λ (b : List Text). b ++ words_bodies ws) nm ∙ append_assoc (named g) (parts_bodies w) (words_bodies ws)) (star suffix_begins (rule suffix_item))
    (last_words_law n ds i d q m end ws t ls.1 h D u.1 v.1 (covers_after k (parts_open w) g (parts_bodies w) (words_bodies ws) (parts_closed w) cov)))

-- redirections up to what stands behind them
pub redirects_law : (n : ℕ) (ds : List Text) (i : Bool) (d : ℕ) (q : List Sum) (g : Due) (behind : Bool) (last : Text → Text) (rs : shape.Redirects) (t : Text) (p : Test) (r : Rule) → Redirecting p r → Lasts p last t → RedirectsLists n ds i rs → suc limit ≤ n + d → d ≤ limit → redirects_fit i d rs ≡ true → redirects_free rs ≡ true → Covers (known_in n ds) g (redirects_bodies rs) → (bytes : Text) → StartsAs rs bytes (redirects_text true behind last (pending_text g.owing) rs ++ t) →
    On (known_in n ds) (star p (rule r)) d q (st d q g bytes) last t (redirect_nodes rs) (named g ++ redirects_bodies rs)
redirects_law n ds i d q g behind last no_redirect t p r R L ls h D e f cov bytes same = on_all (known_in n ds) d q _ last t [] (named g) (named g ++ []) (sym (append-nil (named g))) (star p (rule r)) (on_at (known_in n ds) d q _ _ last t [] (named g) (ap (λ (z : Text). st d q g z) (sym same)) (star p (rule r)) (no_redirects (known_in n ds) d q g last t p r L))
redirects_law n ds i d q g behind last (redirect fd shape.read w rs) t p r R L ls h D e f cov bytes same =
    let x = three (fd_fits fd) (word_fits i d true w) (redirects_fit i d rs) e in
    let y = both (parts_free w) (redirects_free rs) f in
    let m = after (parts_open w) g (parts_bodies w) in
    let u = redirects_on last m rs t in
    let o = redirects_outside last (pending_text m.owing) rs t L.outside in
    let v = parts_on in_word (opening_of g) w u in
    let b = word_begins i d (opening_of g) w u x.1 o in
    let first = word_first i d true (opening_of g) w u x.1 in
    let c = covers_first (known_in n ds) g (parts_bodies w) (redirects_bodies rs) cov in
    let nm = named_after (parts_open w) g (parts_bodies w) (parts_closed w) in
    redirects_step (known_in n ds) d q g m last fd shape.read w rs t (named g ++ (parts_bodies w ++ redirects_bodies rs)) p r R behind bytes same x.0 (word_owed (parts_open w) g (parts_bodies w))
    (read_says (known_in n ds) d q g m w v u (unit_aimed v first.free first.unit) (word_node_of (known_in n ds) d q g v w u b.solid b (word_law n ds i d q g true w u ls.0 (omega arith) D x.1 y.0 c o)))
    (on_all (known_in n ds) d q _ last t (redirect_nodes rs) (named m ++ redirects_bodies rs) (named g ++ (parts_bodies w ++ redirects_bodies rs)) (ap (λ (z : List Text). z ++ redirects_bodies rs) nm ∙ append_assoc (named g) (parts_bodies w) (redirects_bodies rs)) (star p (rule r))
    (redirects_law n ds i d q m true last rs t p r R L ls.1 h D x.2 y.1 (covers_after (known_in n ds) (parts_open w) g (parts_bodies w) (redirects_bodies rs) (parts_closed w) cov) (redirects_on last m rs t) (starts_same rs (redirects_on last m rs t))))
redirects_law n ds i d q g behind last (redirect fd shape.write w rs) t p r R L ls h D e f cov bytes same =
    let x = three (fd_fits fd) (word_fits i d true w) (redirects_fit i d rs) e in
    let y = both (parts_free w) (redirects_free rs) f in
    let m = after (parts_open w) g (parts_bodies w) in
    let u = redirects_on last m rs t in
    let o = redirects_outside last (pending_text m.owing) rs t L.outside in
    let v = parts_on in_word (opening_of g) w u in
    let b = word_begins i d (opening_of g) w u x.1 o in
    let first = word_first i d true (opening_of g) w u x.1 in
    let c = covers_first (known_in n ds) g (parts_bodies w) (redirects_bodies rs) cov in
    let nm = named_after (parts_open w) g (parts_bodies w) (parts_closed w) in
    redirects_step (known_in n ds) d q g m last fd shape.write w rs t (named g ++ (parts_bodies w ++ redirects_bodies rs)) p r R behind bytes same x.0 (word_owed (parts_open w) g (parts_bodies w))
    (write_says (known_in n ds) d q g m w v u (unit_aimed v first.free first.unit) (word_node_of (known_in n ds) d q g v w u b.solid b (word_law n ds i d q g true w u ls.0 (omega arith) D x.1 y.0 c o)))
    (on_all (known_in n ds) d q _ last t (redirect_nodes rs) (named m ++ redirects_bodies rs) (named g ++ (parts_bodies w ++ redirects_bodies rs)) (ap (λ (z : List Text). z ++ redirects_bodies rs) nm ∙ append_assoc (named g) (parts_bodies w) (redirects_bodies rs)) (star p (rule r))
    (redirects_law n ds i d q m true last rs t p r R L ls.1 h D x.2 y.1 (covers_after (known_in n ds) (parts_open w) g (parts_bodies w) (redirects_bodies rs) (parts_closed w) cov) (redirects_on last m rs t) (starts_same rs (redirects_on last m rs t))))
redirects_law n ds i d q g behind last (redirect fd shape.append w rs) t p r R L ls h D e f cov bytes same =
    let x = three (fd_fits fd) (word_fits i d true w) (redirects_fit i d rs) e in
    let y = both (parts_free w) (redirects_free rs) f in
    let m = after (parts_open w) g (parts_bodies w) in
    let u = redirects_on last m rs t in
    let o = redirects_outside last (pending_text m.owing) rs t L.outside in
    let v = parts_on in_word (opening_of g) w u in
    let b = word_begins i d (opening_of g) w u x.1 o in
    let first = word_first i d true (opening_of g) w u x.1 in
    let c = covers_first (known_in n ds) g (parts_bodies w) (redirects_bodies rs) cov in
    let nm = named_after (parts_open w) g (parts_bodies w) (parts_closed w) in
    redirects_step (known_in n ds) d q g m last fd shape.append w rs t (named g ++ (parts_bodies w ++ redirects_bodies rs)) p r R behind bytes same x.0 (word_owed (parts_open w) g (parts_bodies w))
    (append_says (known_in n ds) d q g m w v u (unit_aimed v first.free first.unit) (word_node_of (known_in n ds) d q g v w u b.solid b (word_law n ds i d q g true w u ls.0 (omega arith) D x.1 y.0 c o)))
    (on_all (known_in n ds) d q _ last t (redirect_nodes rs) (named m ++ redirects_bodies rs) (named g ++ (parts_bodies w ++ redirects_bodies rs)) (ap (λ (z : List Text). z ++ redirects_bodies rs) nm ∙ append_assoc (named g) (parts_bodies w) (redirects_bodies rs)) (star p (rule r))
    (redirects_law n ds i d q m true last rs t p r R L ls.1 h D x.2 y.1 (covers_after (known_in n ds) (parts_open w) g (parts_bodies w) (redirects_bodies rs) (parts_closed w) cov) (redirects_on last m rs t) (starts_same rs (redirects_on last m rs t))))
redirects_law n ds i d q g behind last (redirect fd shape.copy_in w rs) t p r R L ls h D e f cov bytes same =
    let x = three (fd_fits fd) (is_copied_word w) (redirects_fit i d rs) e in
    let y = both (parts_free w) (redirects_free rs) f in
    let c = copied_closed w x.1 in
    redirects_step (known_in n ds) d q g g last fd shape.copy_in w rs t (named g ++ (parts_bodies w ++ redirects_bodies rs)) p r R behind bytes same x.0 (sym (ap (λ (z : Bool). Rattle.sh_printing.specs.Marks.behind_word z (pending_text g.owing)) c.0))
    (copied_target (known_in n ds) d q g true w (opening_of g) (redirects_on last g rs t) x.1 (redirects_outside last (pending_text g.owing) rs t L.outside))
    (on_all (known_in n ds) d q _ last t (redirect_nodes rs) (named g ++ redirects_bodies rs) (named g ++ (parts_bodies w ++ redirects_bodies rs)) (ap (λ (z : List Text). named g ++ (z ++ redirects_bodies rs)) (sym c.1)) (star p (rule r))
    (redirects_law n ds i d q g true last rs t p r R L ls.1 h D x.2 y.1 (copied_covers (known_in n ds) g w (redirects_bodies rs) c.1 cov) (redirects_on last g rs t) (starts_same rs (redirects_on last g rs t))))
redirects_law n ds i d q g behind last (redirect fd shape.copy_out w rs) t p r R L ls h D e f cov bytes same =
    let x = three (fd_fits fd) (is_copied_word w) (redirects_fit i d rs) e in
    let y = both (parts_free w) (redirects_free rs) f in
    let c = copied_closed w x.1 in
    redirects_step (known_in n ds) d q g g last fd shape.copy_out w rs t (named g ++ (parts_bodies w ++ redirects_bodies rs)) p r R behind bytes same x.0 (sym (ap (λ (z : Bool). Rattle.sh_printing.specs.Marks.behind_word z (pending_text g.owing)) c.0))
    (copied_target (known_in n ds) d q g false w (opening_of g) (redirects_on last g rs t) x.1 (redirects_outside last (pending_text g.owing) rs t L.outside))
    (on_all (known_in n ds) d q _ last t (redirect_nodes rs) (named g ++ redirects_bodies rs) (named g ++ (parts_bodies w ++ redirects_bodies rs)) (ap (λ (z : List Text). named g ++ (z ++ redirects_bodies rs)) (sym c.1)) (star p (rule r))
    (redirects_law n ds i d q g true last rs t p r R L ls.1 h D x.2 y.1 (copied_covers (known_in n ds) g w (redirects_bodies rs) c.1 cov) (redirects_on last g rs t) (starts_same rs (redirects_on last g rs t))))
redirects_law n ds i d q g behind last (redirect fd shape.here_literal w rs) t p r R L ls h D e f cov bytes same =
    let x = three (fd_fits fd) (literal_body i w) (redirects_fit i d rs) e in
    let y = both (not (has_line (delimiter (body_of w)) (body_of w))) (redirects_free rs) f in
    let c = covers_next (known_in n ds) g (body_of w) (redirects_bodies rs) cov in
    let owed = pending_text g.owing ++ marks.whole_body true (body_of w) in
    let a = literal_target (known_in n ds) d q g i w (redirects_text true true last owed rs ++ t) x.1 (isnt (has_line (delimiter (body_of w)) (body_of w)) y.0) c (redirects_outside last owed rs t L.outside) in
    here_step (known_in n ds) d q g behind last fd shape.here_literal w rs t p r R bytes same x.0 (λ z. refl) refl a
    (redirects_law n ds i d q (owing_more g a.owes) true last rs t p r R L ls h D x.2 y.1 (here_covers (known_in n ds) g a.owes (body_of w) (redirects_bodies rs) a.body cov) (redirects_on last (owing_more g a.owes) rs t) (starts_same rs (redirects_on last (owing_more g a.owes) rs t)))
redirects_law zero ds i d q g behind last (redirect fd shape.here_expanded w rs) t p r R L ls h D e f cov bytes same = absurd (omega arith)
redirects_law (suc m) ds i d q g behind last (redirect fd shape.here_expanded w rs) t p r R L ls h D e f cov bytes same =
    let x = three (fd_fits fd) (ends_line w && parts_fit true d in_body w) (redirects_fit i d rs) e in
    let z = both (ends_line w) (parts_fit true d in_body w) x.1 in
    let y = both (not (has_line (delimiter (body_of w)) (body_of w)) && parts_free w) (redirects_free rs) f in
    let v = both (not (has_line (delimiter (body_of w)) (body_of w))) (parts_free w) y.0 in
    let c = covers_next (known_in (suc m) ds) g (body_of w) (redirects_bodies rs) cov in
    let owed = pending_text g.owing ++ marks.whole_body true (body_of w) in
    let kept = body_kept d w z.1 in
    let parts = body_says (known_in m (parts_bodies w)) d w (body_of w) (at_state (ap (λ (b : Text). st d [] (clean []) b) (append-nil (body_of w))) (parts_law m (parts_bodies w) true d [] in_body (clean []) w [] ls.0 (omega arith) D z.1 v.1 (record { later = []; known = known_bodies m (parts_bodies w) ∙ sym (append-nil (parts_bodies w)) }) body_closes)) in
    let a = expanded_target (known_in (suc m) ds) d q g w (redirects_text true true last owed rs ++ t) (body_lines w z.0) kept.0 kept.1 (isnt (has_line (delimiter (body_of w)) (body_of w)) v.0) c (expanded_back m d ds w z.0 parts) (redirects_outside last owed rs t L.outside) in
    here_step (known_in (suc m) ds) d q g behind last fd shape.here_expanded w rs t p r R bytes same x.0 (λ z. refl) refl a
    (redirects_law (suc m) ds i d q (owing_more g a.owes) true last rs t p r R L ls.1 h D x.2 y.1 (here_covers (known_in (suc m) ds) g a.owes (body_of w) (redirects_bodies rs) a.body cov) (redirects_on last (owing_more g a.owes) rs t) (starts_same rs (redirects_on last (owing_more g a.owes) rs t)))

-- a simple command and what ends it
pub simple_law : (n : ℕ) (ds : List Text) (i : Bool) (d : ℕ) (q : List Sum) (f : List Text) (end : End) (vs : shape.Assigns) (ws : shape.Words) (rs : shape.Redirects) (bytes t : Text) → AssignsLists n ds i vs → WordsLists n ds i ws → RedirectsLists n ds i rs → suc limit ≤ n + d → d ≤ limit → command_fits i d (command (simple vs ws) rs) ≡ true → command_free (command (simple vs ws) rs) ≡ true → Covers (known_in n ds) (clean f) (command_bodies (command (simple vs ws) rs)) → gap bytes ≡ command_text true end (command (simple vs ws) rs) ++ t →
    On (known_in n ds) (rule table.command) d q (st d q (clean f) bytes) (ended end) t (command_node (command (simple vs ws) rs) ∷ []) (f ++ command_bodies (command (simple vs ws) rs))
simple_law n ds i d q f end no_assign no_word no_redirect bytes t la lw lr h D e r cov g = absurd (nothing_fits i d e)
simple_law n ds i d q f end no_assign no_word (redirect fd op w rs) bytes t la lw lr h D e r cov g =
    let x = both (kind_fits i d true (simple no_assign no_word)) (redirects_fit i d (redirect fd op w rs)) e in
    let y = both (kind_free (simple no_assign no_word)) (redirects_free (redirect fd op w rs)) r in
    let k = known_in n ds in
    let v = redirects_text true false (ended end) [] (redirect fd op w rs) ++ t in
    let fr = redirect_at i d (ended end) [] fd op w rs t x.1 in
    let on = redirects_law n ds i d q (clean f) false (ended end) (redirect fd op w rs) t prefix_begins prefix_item by_prefix (ended_lasts prefix_begins prefix_item by_prefix end t) lr h D x.1 y.1 cov bytes (g ∙ sym fr.solid) in
    redirect_first k d q f bytes v _ end t no_word (redirect fd op w rs) (f ++ redirects_bodies (redirect fd op w rs)) g (redirect_simple v fr) (Rattle.sh_printing.proofs.BackRedirects.redirect_begins v bytes fr g) on.says
    (record { owing = on.owing; found = on.found; is_all = on.is_all ∙ ap (λ (z : List Text). z ++ redirects_bodies (redirect fd op w rs)) (append-nil f); says = suffix_stops k d q on.owing on.found end t })
simple_law n ds i d q f end no_assign (word w ws) rs bytes t la lw lr h D e r cov g =
    let k = known_in n ds in
    let x = both (kind_fits i d (has_redirect rs) (simple no_assign (word w ws))) (redirects_fit i d rs) e in
    let y = both (kind_free (simple no_assign (word w ws))) (redirects_free rs) r in
    let sf = simple_facts i d no_assign (word w ws) rs x.0 in
    let wf = both (word_fits i d true w) (words_fit i d ws) sf.words in
    let wy = (both true (words_free (word w ws)) y.0).1 in
    let wr = both (parts_free w) (words_free ws) wy in
    let nm = isnt (is_assignment w) (both (not (is_assignment w)) (has_redirect rs || not (is_reserved_word w)) sf.name).0 in
    let wb = parts_bodies w ++ words_bodies ws in let rb = redirects_bodies rs in
    either (is_reserved_word w)
    (λ l.
    let last = last_words_text true end (word w ws) in
    let v = redirects_text true false last [] rs ++ t in
    let gv = g ∙ last_split end w ws rs t l in
    let hr = last_redirected w ws (has_redirect rs) sf.name l in
    let fr = redirects_at i d last [] rs t hr x.1 in
    let in_order : command_bodies (command (simple no_assign (word w ws)) rs) ≡ rb ++ wb = ap (λ (b : Bool). if b then rb ++ wb else wb ++ rb) l in
    let c = subst (λ (b : List Text). Covers k (clean f) b) in_order cov in
    let on = redirects_law n ds i d q (clean f) false last rs t prefix_begins prefix_item by_prefix (words_lasts i d end w ws t sf.words nm) lr h D x.1 y.1 (covers_first k (clean f) rb wb c) bytes (starts_behind rs bytes v hr (gv ∙ sym fr.solid)) in
    let m = due on.owing on.found in
    let all : named m ++ wb ≡ f ++ command_bodies (command (simple no_assign (word w ws)) rs) = ap (λ (b : List Text). b ++ wb) (on.is_all ∙ ap (λ (b : List Text). b ++ rb) (append-nil f)) ∙ append_assoc f rb wb ∙ ap (λ (b : List Text). f ++ b) (sym in_order) in
    redirect_first k d q f bytes v (st d q m (last (pending_text m.owing) ++ t)) end t (word w ws) rs (f ++ command_bodies (command (simple no_assign (word w ws)) rs)) gv (redirect_simple v fr) (Rattle.sh_printing.proofs.BackRedirects.redirect_begins v bytes fr gv) on.says
    (on_all k d q _ (ended end) t (word_nodes (word w ws)) (named m ++ wb) (f ++ command_bodies (command (simple no_assign (word w ws)) rs)) all (star suffix_begins (rule suffix_item))
    (last_words_law n ds i d q m end (word w ws) t lw (omega arith) D sf.words wy (covers_second k (clean f) m rb wb on.is_all c))))
    (λ l.
    let u = redirects_text true true (ended end) [] rs ++ t in
    let z = words_text true true ws ++ u in
    let ou = redirects_outside (ended end) [] rs t (ended_outside end t) in
    let oz = words_outside ws u ou in
    let v = parts_on in_word blank w z in
    let gv = g ∙ word_split end w ws rs t l in
    let front = word_begins i d blank w z wf.0 oz in
    let no = words_no_open i d ws u wf.1 ou (redirects_no_open i d (ended end) [] rs t (ended_open end t) x.1) in
    let in_order : command_bodies (command (simple no_assign (word w ws)) rs) ≡ wb ++ rb = ap (λ (b : Bool). if b then rb ++ wb else wb ++ rb) l in
    let c = subst (λ (b : List Text). Covers k (clean f) b) in_order cov in
    let c1 = covers_first k (clean f) wb rb c in
    let on = redirects_law n ds i d q (clean (f ++ wb)) true (ended end) rs t suffix_begins suffix_item by_suffix (ended_lasts suffix_begins suffix_item by_suffix end t) lr h D x.1 y.1 (covers_on k f wb rb c) u (starts_same rs u) in
    let ws_on = words_law n ds i d q (f ++ parts_bodies w) ws u _ (redirect_nodes rs) suffix_begins suffix_item suffix_words lw.1 (omega arith) D wf.1 wr.1 (covers_on k f (parts_bodies w) (words_bodies ws) c1) ou
    (at_state (ap (λ (b : List Text). st d q (clean b) u) (sym (append_assoc f (parts_bodies w) (words_bodies ws)))) on.says) in
    let all : named (clean (f ++ wb)) ++ rb ≡ f ++ command_bodies (command (simple no_assign (word w ws)) rs) = ap (λ (b : List Text). b ++ rb) (append-nil (f ++ wb)) ∙ append_assoc f wb rb ∙ ap (λ (b : List Text). f ++ b) (sym in_order) in
    name_first k d q f bytes v (st d q (clean (f ++ parts_bodies w)) z) end t w ws rs (f ++ command_bodies (command (simple no_assign (word w ws)) rs)) gv (first_simple i d blank w z wf.0 l oz no) (word_no_redirect v v (word_token v v front.solid front)) ((first_front i d blank w z wf.0 oz no).no_assign nm)
    (to_state (ap (λ (b : Due). st d q b z) (after_clean (parts_open w) f (parts_bodies w) (parts_closed w))) (word_node_of k d q (clean f) bytes w z gv front (word_law n ds i d q (clean f) true w z lw.0 (omega arith) D wf.0 wr.0 (covers_first k (clean f) (parts_bodies w) (words_bodies ws) c1) oz)))
    (record { owing = on.owing; found = on.found; is_all = on.is_all ∙ all; says = ws_on }))
simple_law n ds i d q f end (assign name v vs) no_word rs bytes t la lw lr h D e r cov g =
    let k = known_in n ds in
    let x = both (kind_fits i d (has_redirect rs) (simple (assign name v vs) no_word)) (redirects_fit i d rs) e in
    let y = both (kind_free (simple (assign name v vs) no_word)) (redirects_free rs) r in
    let sf = simple_facts i d (assign name v vs) no_word rs x.0 in
    let sa = three (is_name name) (value_fits i d v) (assigns_fit i d vs) sf.assigns in
    let fr = both (assigns_free (assign name v vs)) true y.0 in
    let af = both (value_free v) (assigns_free vs) fr.0 in
    let u = redirects_text true true (ended end) [] rs ++ t in
    let a = assigns_text true true vs ++ u in
    let ou = redirects_outside (ended end) [] rs t (ended_outside end t) in
    let vb = value_bodies v in let ab = assigns_bodies vs in let rb = redirects_bodies rs in
    let c0 = covers_first k (clean f) (vb ++ ab) [] (covers_first k (clean f) ((vb ++ ab) ++ []) rb cov) in
    let fe : f ++ ((vb ++ ab) ++ []) ≡ (f ++ vb) ++ ab = ap (λ (z : List Text). f ++ z) (append-nil (vb ++ ab)) ∙ sym (append_assoc f vb ab) in
    let cr : Covers k (clean ((f ++ vb) ++ ab)) rb = subst (λ (z : List Text). Covers k (clean z) rb) fe (covers_on k f ((vb ++ ab) ++ []) rb cov) in
    let on = redirects_law n ds i d q (clean ((f ++ vb) ++ ab)) true (ended end) rs t prefix_begins prefix_item by_prefix (ended_lasts prefix_begins prefix_item by_prefix end t) lr h D x.1 y.1 cr u (starts_same rs u) in
    let all : (((f ++ vb) ++ ab) ++ []) ++ rb ≡ f ++ (((vb ++ ab) ++ []) ++ rb) = ap (λ (z : List Text). z ++ rb) (append-nil ((f ++ vb) ++ ab) ∙ sym fe) ∙ append_assoc f ((vb ++ ab) ++ []) rb in
    assign_first k d q f bytes name (value_text true v ++ a) (st d q (clean (f ++ vb)) a) _ end t v vs no_word rs (f ++ (((vb ++ ab) ++ []) ++ rb)) (assign_nodes vs ++ redirect_nodes rs) [] sa.0 (g ∙ assign_split end name v vs no_word rs t) (append-nil (assign_nodes vs ++ redirect_nodes rs))
    (assign_law n ds i d q f name v bytes a la.0 (omega arith) D sa.0 sa.1 af.0 (covers_first k (clean f) vb ab c0) (assigns_outside vs u ou) (g ∙ assign_split end name v vs no_word rs t))
    (assigns_law n ds i d q (f ++ vb) vs u _ (redirect_nodes rs) la.1 (omega arith) D sa.2 af.1 (covers_on k f vb ab c0) ou on.says)
    (record { owing = on.owing; found = on.found; is_all = on.is_all ∙ all; says = suffix_stops k d q on.owing on.found end t })
simple_law n ds i d q f end (assign name v vs) (word w ws) rs bytes t la lw lr h D e r cov g =
    let k = known_in n ds in
    let x = both (kind_fits i d (has_redirect rs) (simple (assign name v vs) (word w ws))) (redirects_fit i d rs) e in
    let y = both (kind_free (simple (assign name v vs) (word w ws))) (redirects_free rs) r in
    let sf = simple_facts i d (assign name v vs) (word w ws) rs x.0 in
    let sa = three (is_name name) (value_fits i d v) (assigns_fit i d vs) sf.assigns in
    let wf = both (word_fits i d true w) (words_fit i d ws) sf.words in
    let fr = both (assigns_free (assign name v vs)) (words_free (word w ws)) y.0 in
    let af = both (value_free v) (assigns_free vs) fr.0 in
    let u = redirects_text true true (ended end) [] rs ++ t in
    let ou = redirects_outside (ended end) [] rs t (ended_outside end t) in
    let wt = words_text true true (word w ws) ++ u in
    let ow = words_outside (word w ws) u ou in
    let a = assigns_text true true vs ++ wt in
    let z = words_text true true ws ++ u in
    let oz = words_outside ws u ou in
    let vb = value_bodies v in let ab = assigns_bodies vs in let wb = words_bodies (word w ws) in let rb = redirects_bodies rs in
    let c1 = covers_first k (clean f) ((vb ++ ab) ++ wb) rb cov in
    let c0 = covers_first k (clean f) (vb ++ ab) wb c1 in
    let fe : f ++ (vb ++ ab) ≡ (f ++ vb) ++ ab = sym (append_assoc f vb ab) in
    let fw : f ++ ((vb ++ ab) ++ wb) ≡ ((f ++ vb) ++ ab) ++ wb = sym (append_assoc f (vb ++ ab) wb) ∙ ap (λ (b : List Text). b ++ wb) fe in
    let cw : Covers k (clean ((f ++ vb) ++ ab)) wb = subst (λ (b : List Text). Covers k (clean b) wb) fe (covers_on k f (vb ++ ab) wb c1) in
    let cr : Covers k (clean (((f ++ vb) ++ ab) ++ wb)) rb = subst (λ (b : List Text). Covers k (clean b) rb) fw (covers_on k f ((vb ++ ab) ++ wb) rb cov) in
    let on = redirects_law n ds i d q (clean (((f ++ vb) ++ ab) ++ wb)) true (ended end) rs t suffix_begins suffix_item by_suffix (ended_lasts suffix_begins suffix_item by_suffix end t) lr h D x.1 y.1 cr u (starts_same rs u) in
    let all : ((((f ++ vb) ++ ab) ++ wb) ++ []) ++ rb ≡ f ++ (((vb ++ ab) ++ wb) ++ rb) = ap (λ (b : List Text). b ++ rb) (append-nil (((f ++ vb) ++ ab) ++ wb) ∙ sym fw) ∙ append_assoc f ((vb ++ ab) ++ wb) rb in
    let nm = isnt (is_assignment w) (both (not (is_assignment w)) (true || not (is_reserved_word w)) sf.name).0 in
    let front = word_begins i d blank w z wf.0 oz in
    let first = first_front i d blank w z wf.0 oz (words_no_open i d ws u wf.1 ou (redirects_no_open i d (ended end) [] rs t (ended_open end t) x.1)) in
    let stop = prefix_stops k d q ((f ++ vb) ++ ab) (parts_on in_word blank w z) front (first.no_assign nm) in
    let wt_is : 32 ∷ parts_on in_word blank w z ≡ wt = sym (append_assoc (32 ∷ parts_text true in_word blank w) (words_text true true ws) u) in
    assign_first k d q f bytes name (value_text true v ++ a) (st d q (clean (f ++ vb)) a) (st d q (clean ((f ++ vb) ++ ab)) wt) end t v vs (word w ws) rs (f ++ (((vb ++ ab) ++ wb) ++ rb)) (assign_nodes vs ++ []) (word_nodes (word w ws) ++ redirect_nodes rs) sa.0 (g ∙ assign_split end name v vs (word w ws) rs t) (ap (λ (b : List Node). b ++ (word_nodes (word w ws) ++ redirect_nodes rs)) (append-nil (assign_nodes vs)))
    (assign_law n ds i d q f name v bytes a la.0 (omega arith) D sa.0 sa.1 af.0 (covers_first k (clean f) vb ab c0) (assigns_outside vs wt ow) (g ∙ assign_split end name v vs (word w ws) rs t))
    (assigns_law n ds i d q (f ++ vb) vs wt (st d q (clean ((f ++ vb) ++ ab)) wt) [] la.1 (omega arith) D sa.2 af.1 (covers_on k f vb ab c0) ow (subst (λ (b : Text). Says k (star prefix_begins (rule prefix_item)) (st d q (clean ((f ++ vb) ++ ab)) b) (st d q (clean ((f ++ vb) ++ ab)) b) []) wt_is stop))
    (record { owing = on.owing; found = on.found; is_all = on.is_all ∙ all; says = words_law n ds i d q ((f ++ vb) ++ ab) (word w ws) u _ (redirect_nodes rs) suffix_begins suffix_item suffix_words lw (omega arith) D sf.words fr.1 cw ou on.says })
