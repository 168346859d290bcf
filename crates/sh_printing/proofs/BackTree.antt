-- What is printed of a node reads as the node: the induction over a script.
use Rattle.std.proofs.Common.{◌≡◌, ℕ, zero, suc, ◌+◌, ◌≤◌, Bool, true, false, List, [], ◌∷◌, ◌++◌, refl, sym, ap, subst, ◌∙◌, append_assoc, arith}
use Rattle.std.specs.Prelude.{◌&&◌, not, nat_lt, codes, if◌then◌else◌}
use Rattle.std.proofs.lemmas.Bool.{true≢false, false≢true}
use Rattle.std.proofs.lemmas.List.{append-nil}
use Rattle.text_grammar.specs.Grammar.{star, rule}
use Rattle.span_text.specs.Names.{is_name}
use Rattle.sh_grammar.specs.Shape as shape
use Rattle.sh_grammar.specs.Shape.{plain, exact, double, tilde, param, subst as listing, arith as sum, no_part, part, as_is, length_of, fill, trim, no_word, word, no_value, value, no_assign, assign, no_redirect, redirect, command, simple, group, subshell, branching, loop, walk, cases, function, no_branch, branch, no_else, otherwise, parameters, listed, no_item, item, no_stage, stage, pipeline, no_link, and_link, or_link, chain, no_chain, next_chain}
use Rattle.sh_grammar.specs.Bytes.{Text, in_word, gap}
use Rattle.sh_grammar.specs.Tokens.{Newline, Word, Pipe, Bang, Elif}
use Rattle.sh_grammar.specs.State.{State, Sum, command_node, kind_node, pipeline_node, chain_node}
use Rattle.sh_grammar.specs.Table as table
use Rattle.sh_grammar.specs.Steps.{limit}
use Rattle.sh_grammar.proofs.Known.{known_in}
use Rattle.sh_printing.specs.Marks as marks
use Rattle.sh_printing.specs.Marks.{End, blank, ended}
use Rattle.sh_printing.specs.Printing.{parts_text, words_text, redirects_text, command_text, kind_text, list_text, parts_open, stages_text, pipeline_text, links_text, chain_text, stage_end, link_end, branches_text, otherwise_text, patterns_text, items_text}
use Rattle.sh_printing.specs.Printable.{parts_fit, word_fits, words_fit, patterns_fit, redirects_fit, command_fits, kind_fits, list_fits, has_part, has_redirect, plain_begins, stages_fit, pipeline_fits, links_fit, chain_fits, is_compound, has_chain, branches_fit, otherwise_fits, items_fit}
use Rattle.sh_printing.proofs.BackSays.{Says, ◌then◌, saying, to_state}
use Rattle.sh_printing.proofs.BackDue.{Due, st, pending_text, Covers, covers_first, Pending, bodies_of}
use Rattle.sh_printing.proofs.BackBytes.{both, isnt, three, four, five, gap_blank}
use Rattle.sh_printing.proofs.BackTokens.{Outside}
use Rattle.sh_printing.proofs.BackBehind.{parts_on}
use Rattle.sh_printing.proofs.BackBraces.{right_four}
use Rattle.sh_printing.proofs.BackWordFronts.{word_begins}
use Rattle.sh_printing.proofs.BackLines.{clean}
use Rattle.sh_printing.proofs.BackCommands.{close_end, by_redirect, semis_end}
use Rattle.sh_printing.proofs.BackLists.{due, On, covers_on, MoreTo, carry_pipeline, no_stages, pipe_says, one_stage, no_links, and_says, or_says, one_and, one_or, separator_says, end_of_list, next_of_list}
use Rattle.sh_printing.proofs.BackNamed.{parts_bodies, words_bodies, redirects_bodies, parts_free, words_free, redirects_free, parts_closed, list_bodies, list_free, command_bodies, kind_bodies, stages_bodies, pipeline_bodies, links_bodies, chain_bodies, command_free, kind_free, stages_free, pipeline_free, links_free, chain_free, branches_bodies, otherwise_bodies, branches_free, otherwise_free, items_bodies, items_free}
use Rattle.sh_printing.proofs.BackNodes.{word_nodes, stage_nodes, link_nodes, chain_nodes}
use Rattle.sh_printing.proofs.BackSteps.{after_clean, word_node_of, no_chains, some_chains, maybe_node_of}
use Rattle.sh_printing.proofs.BackBegins.{words_outside, redirects_outside, ended_outside}
use Rattle.sh_printing.proofs.BackHeads.{list_no_line, PipelineFront, stages_begin, stages_split, pipeline_begins, chain_split, list_begins, list_split, function_facts, function_split, function_keys, command_begins}
use Rattle.sh_printing.proofs.BackCommandSteps.{starts_same, ended_lasts}
use Rattle.sh_printing.proofs.BackTreeSteps.{compound_bodies, Maybe, bang_pipeline_says, brace_end, branch_says, case_law, chain_says, compound_case, compound_part, deeper, do_end, done_end, elif_law, elif_list_end, elifs_all, else_all, else_list_end, else_no_elif, else_some, fi_end, fi_no_else, for_law, if_law, items_all, items_no_line, items_none, link_pipe, list_from, listed_stops, loop_says, more_all, no_branches, patterns_outside, plain_pipeline, right_six, then_end, walk_listed, walk_plain}
use Rattle.sh_printing.proofs.BackEnds.{marks_pipe, marks_link}
use Rattle.sh_printing.proofs.BackSimple.{carry_key, carry_keys, name_word}
use Rattle.sh_printing.proofs.BackCompound.{group_says, subshell_says, Elifs, ElsePart, no_elif, no_else_says}
use Rattle.sh_printing.proofs.BackLoops.{function_says, ItemsTo, one_item}
use Rattle.sh_printing.proofs.BackInner.{PartLists, PartsLists, WordsLists, ValueLists, AssignsLists, RedirectsLists}
use Rattle.sh_printing.proofs.BackWordTree.{word_law, words_law, pattern_law, patterns_law}
use Rattle.sh_printing.proofs.BackSimpleTree.{redirects_law, simple_law}

mutual
  -- the lists in words
  part_lists : (n : ℕ) (ds : List Text) (i : Bool) (p : shape.Part) → PartLists n ds i p
  part_lists n ds i (plain text) = tt
  part_lists n ds i (exact text) = tt
  part_lists n ds i (double ps) = parts_lists n ds i ps
  part_lists n ds i tilde = tt
  part_lists n ds i (param p as_is) = tt
  part_lists n ds i (param p length_of) = tt
  part_lists n ds i (param p (fill t c w)) = parts_lists n ds i w
  part_lists n ds i (param p (trim s l w)) = parts_lists n ds i w
  part_lists n ds i (listing s) = λ d q f bytes t h D e r cov l g. maybe_law n ds i d q f s bytes t h D e r cov l g
  part_lists n ds i (sum e ws) = words_lists n ds i ws

  parts_lists : (n : ℕ) (ds : List Text) (i : Bool) (ps : shape.Parts) → PartsLists n ds i ps
  parts_lists n ds i no_part = tt
  parts_lists n ds i (part p ps) = (part_lists n ds i p, parts_lists n ds i ps)

  words_lists : (n : ℕ) (ds : List Text) (i : Bool) (ws : shape.Words) → WordsLists n ds i ws
  words_lists n ds i no_word = tt
  words_lists n ds i (word w ws) = (parts_lists n ds i w, words_lists n ds i ws)

  value_lists : (n : ℕ) (ds : List Text) (i : Bool) (v : shape.Value) → ValueLists n ds i v
  value_lists n ds i no_value = tt
  value_lists n ds i (value w) = parts_lists n ds i w

  assigns_lists : (n : ℕ) (ds : List Text) (i : Bool) (vs : shape.Assigns) → AssignsLists n ds i vs
  assigns_lists n ds i no_assign = tt
  assigns_lists n ds i (assign name v vs) = (value_lists n ds i v, assigns_lists n ds i vs)

  redirects_lists : (n : ℕ) (ds : List Text) (i : Bool) (rs : shape.Redirects) → RedirectsLists n ds i rs
  redirects_lists n ds i no_redirect = tt
  redirects_lists n ds i (redirect fd shape.here_literal w rs) = redirects_lists n ds i rs
  redirects_lists zero ds i (redirect fd shape.here_expanded w rs) = (tt, redirects_lists zero ds i rs)
  redirects_lists (suc m) ds i (redirect fd shape.here_expanded w rs) = (parts_lists m (parts_bodies w) true w, redirects_lists (suc m) ds i rs)
  redirects_lists n ds i (redirect fd op w rs) = (parts_lists n ds i w, redirects_lists n ds i rs)

  -- a command and what ends it
  pub command_law : (n : ℕ) (ds : List Text) (i : Bool) (d : ℕ) (q : List Sum) (f : List Text) (end : End) (c : shape.Command) (bytes t : Text) → suc limit ≤ n + d → d ≤ limit → command_fits i d c ≡ true → command_free c ≡ true → Covers (known_in n ds) (clean f) (command_bodies c) → gap bytes ≡ command_text true end c ++ t →
      On (known_in n ds) (rule table.command) d q (st d q (clean f) bytes) (ended end) t (command_node c ∷ []) (f ++ command_bodies c)
  command_law n ds i d q f end (command (simple vs ws) rs) bytes t h D e r cov g = simple_law n ds i d q f end vs ws rs bytes t (assigns_lists n ds i vs) (words_lists n ds i ws) (redirects_lists n ds i rs) h D e r cov g
  command_law n ds i d q f end (command (function name c) (redirect fd op w rs)) bytes t h D e r cov g =
      absurd (true≢false (function_facts i d (redirect fd op w rs) name c (both (kind_fits i d true (function name c)) (redirects_fit i d (redirect fd op w rs)) e).0).none)
  command_law n ds i d q f end (command (function name (command ck crs)) no_redirect) bytes t h D e r cov g =
      let k = known_in n ds in
      let x = function_facts i d no_redirect name (command ck crs) (both (kind_fits i d false (function name (command ck crs))) true e).0 in
      let y = (both (kind_free (function name (command ck crs))) true r).0 in
      let xb = both (kind_fits i d (has_redirect crs) ck) (redirects_fit i d crs) x.body in
      let yb = both (kind_free ck) (redirects_free crs) y in
      let v = command_text true end (command ck crs) ++ t in
      let front = command_begins i d end (command ck crs) t x.body y in
      let c1 = subst (λ (b : List Text). Covers k (clean f) b) (sym (compound_bodies ck crs x.is_compound)) (covers_first k (clean f) (command_bodies (command ck crs)) [] cov) in
      let at = g ∙ function_split name (command_text true end (command ck crs)) t in
      let w = name ++ 40 ∷ 41 ∷ 32 ∷ v in
      let u = redirects_text true true (ended end) [] crs ++ t in
      let on = compound_part k d q f end i ck crs (32 ∷ v) t x.is_compound xb.0 (gap_blank v ∙ front.solid) (redirects_outside (ended end) [] crs t (ended_outside end t))
      (λ out is_text. compound_law n ds i d q f end (has_redirect crs) ck (32 ∷ v) u h D xb.0 yb.0 x.is_compound (covers_first k (clean f) (kind_bodies ck) (redirects_bodies crs) c1) out is_text)
      (redirects_law n ds i d q (clean (f ++ kind_bodies ck)) true (ended end) crs t table.redirect_begins table.redirect by_redirect (ended_lasts table.redirect_begins table.redirect by_redirect end t) (redirects_lists n ds i crs) h D xb.1 yb.1 (covers_on k f (kind_bodies ck) (redirects_bodies crs) c1) u (starts_same crs u)) in
      record {
        owing = on.owing;
        found = on.found;
        is_all = on.is_all ∙ ap (λ (z : List Text). f ++ z) (sym (append-nil (command_bodies (command ck crs))));
        says = function_says k d q (clean f) bytes name v _ (command ck crs) x.name at (carry_keys bytes w (at ∙ sym (name_word name (40 ∷ 41 ∷ 32 ∷ v) x.name).solid) (function_keys name (41 ∷ 32 ∷ v) x.name x.free)) front.no_line on.says;
      }
  command_law n ds i d q f end (command c rs) bytes t h D e r cov g =
      let x = both (kind_fits i d (has_redirect rs) c) (redirects_fit i d rs) e in
      let y = both (kind_free c) (redirects_free rs) r in
      let k = known_in n ds in
      let u = redirects_text true true (ended end) [] rs ++ t in
      compound_case k d q f end i c rs bytes t refl x.0 g (redirects_outside (ended end) [] rs t (ended_outside end t))
      (λ out is_text. compound_law n ds i d q f end (has_redirect rs) c bytes u h D x.0 y.0 refl (covers_first k (clean f) (kind_bodies c) (redirects_bodies rs) cov) out is_text)
      (redirects_law n ds i d q (clean (f ++ kind_bodies c)) true (ended end) rs t table.redirect_begins table.redirect by_redirect (ended_lasts table.redirect_begins table.redirect by_redirect end t) (redirects_lists n ds i rs) h D x.1 y.1 (covers_on k f (kind_bodies c) (redirects_bodies rs) cov) u (starts_same rs u))

  -- a compound command before its redirections
  pub compound_law : (n : ℕ) (ds : List Text) (i : Bool) (d : ℕ) (q : List Sum) (f : List Text) (end : End) (redirected : Bool) (c : shape.Kind) (bytes u : Text) → suc limit ≤ n + d → d ≤ limit → kind_fits i d redirected c ≡ true → kind_free c ≡ true → is_compound c ≡ true → Covers (known_in n ds) (clean f) (kind_bodies c) → Outside u → gap bytes ≡ kind_text true end u c →
      Says (known_in n ds) (rule table.compound) (st d q (clean f) bytes) (st d q (clean (f ++ kind_bodies c)) u) (kind_node c ∷ [])
  compound_law n ds i d q f end redirected (simple vs ws) bytes u h D e r m cov o g = absurd (false≢true m)
  compound_law n ds i d q f end redirected (function name c) bytes u h D e r m cov o g = absurd (false≢true m)
  compound_law n ds i d q f end redirected (group s) bytes u h D e r m cov o g =
      let x = three (nat_lt d limit) (has_chain s) (list_fits i (suc d) s) e in
      let v = list_text true s ++ 125 ∷ u in
      let front = list_begins i (suc d) s (125 ∷ u) x.1 x.2 r in
      group_says (known_in n ds) d q f (f ++ list_bodies s) bytes v u s x.0 (g ∙ right_four (123 ∷ 32 ∷ []) (list_text true s) (125 ∷ []) u)
      (list_from (known_in n ds) (suc d) q f (f ++ list_bodies s) (32 ∷ v) (125 ∷ u) s front (gap_blank v) (maybe_law n ds i (suc d) q f s (32 ∷ v) (125 ∷ u) (omega arith) (deeper d x.0) x.2 r cov (brace_end u o) (gap_blank v))) o
  compound_law n ds i d q f end redirected (subshell s) bytes u h D e r m cov o g =
      let x = three (nat_lt d limit) (has_chain s) (list_fits i (suc d) s) e in
      let v = list_text true s ++ 41 ∷ u in
      let front = list_begins i (suc d) s (41 ∷ u) x.1 x.2 r in
      subshell_says (known_in n ds) d q f (f ++ list_bodies s) bytes (32 ∷ v) u s x.0 (g ∙ right_four (40 ∷ 32 ∷ []) (list_text true s) (41 ∷ []) u)
      (list_from (known_in n ds) (suc d) q f (f ++ list_bodies s) (32 ∷ v) (41 ∷ u) s front (gap_blank v) (maybe_law n ds i (suc d) q f s (32 ∷ v) (41 ∷ u) (omega arith) (deeper d x.0) x.2 r cov (close_end u) (gap_blank v)))
  compound_law n ds i d q f end redirected (branching no_branch o) bytes u h D e r m cov out g = absurd (no_branches i d o e)
  compound_law n ds i d q f end redirected (branching (branch a b bs) o) bytes u h D e r m cov out g =
      let k = known_in n ds in
      let x = four (nat_lt d limit) true (has_chain a && list_fits i (suc d) a && has_chain b && list_fits i (suc d) b && branches_fit i (suc d) bs) (otherwise_fits i (suc d) o) e in
      let z = five (has_chain a) (list_fits i (suc d) a) (has_chain b) (list_fits i (suc d) b) (branches_fit i (suc d) bs) x.2 in
      let y = both (list_free a && (list_free b && branches_free bs)) (otherwise_free o) r in
      let ya = both (list_free a) (list_free b && branches_free bs) y.0 in
      let yb = both (list_free b) (branches_free bs) ya.1 in
      let la = list_bodies a in let lb = list_bodies b in let bb = branches_bodies bs in let ob = otherwise_bodies o in
      let fi = codes "fi" ++ u in
      let elses = otherwise_text true o ++ fi in
      let rest = branches_text true (codes "elif ") bs ++ elses in
      let w = list_text true b ++ rest in
      let thens = codes "then" ++ 32 ∷ w in
      let v = list_text true a ++ thens in
      let fa = list_begins i (suc d) a thens z.0 z.1 ya.0 in
      let fb = list_begins i (suc d) b rest z.2 z.3 yb.0 in
      let c1 = covers_first k (clean f) (la ++ (lb ++ bb)) ob cov in
      let c2 = covers_on k f la (lb ++ bb) c1 in
      let c3 = covers_on k (f ++ la) lb bb c2 in
      let fe : f ++ (la ++ (lb ++ bb)) ≡ ((f ++ la) ++ lb) ++ bb = sym (append_assoc f la (lb ++ bb)) ∙ sym (append_assoc (f ++ la) lb bb) in
      let c4 : Covers k (clean (((f ++ la) ++ lb) ++ bb)) ob = subst (λ (p : List Text). Covers k (clean p) ob) fe (covers_on k f (la ++ (lb ++ bb)) ob cov) in
      let ee = else_list_end u o out in
      let br = branch_says k (suc d) q f (f ++ la) ((f ++ la) ++ lb) (32 ∷ v) w rest a b
      (list_from k (suc d) q f (f ++ la) (32 ∷ v) thens a fa (gap_blank v) (maybe_law n ds i (suc d) q f a (32 ∷ v) thens (omega arith) (deeper d x.0) z.1 ya.0 (covers_first k (clean f) la (lb ++ bb) c1) (then_end w) (gap_blank v)))
      (list_from k (suc d) q (f ++ la) ((f ++ la) ++ lb) (32 ∷ w) rest b fb (gap_blank w) (maybe_law n ds i (suc d) q (f ++ la) b (32 ∷ w) rest (omega arith) (deeper d x.0) z.3 yb.0 (covers_first k (clean (f ++ la)) lb bb c2) (elif_list_end bs elses ee) (gap_blank w))) in
      let el = elifs_law n ds i (suc d) q ((f ++ la) ++ lb) bs br.ahead elses (omega arith) (deeper d x.0) z.4 yb.1 c3 br.same ee (else_no_elif u o out) in
      let es = else_law n ds i (suc d) q (((f ++ la) ++ lb) ++ bb) o el.ahead u (omega arith) (deeper d x.0) x.3 y.1 c4 el.same out in
      to_state (ap (λ (p : List Text). st d q (clean p) u) (ap (λ (p : List Text). p ++ ob) (sym fe) ∙ append_assoc f (la ++ (lb ++ bb)) ob))
      (if_law k d q f ((f ++ la) ++ lb) (((f ++ la) ++ lb) ++ bb) ((((f ++ la) ++ lb) ++ bb) ++ ob) bytes v rest elses u a b bs o x.0
      (g ∙ right_four (branches_text true (codes "if ") (branch a b bs)) (otherwise_text true o) (codes "fi") u ∙ right_six (codes "if ") (list_text true a) (codes "then ") (list_text true b) (branches_text true (codes "elif ") bs) elses) br el es out)
  compound_law n ds i d q f end redirected (loop until a b) bytes u h D e r m cov o g =
      let k = known_in n ds in
      let x = five (nat_lt d limit) (has_chain a) (list_fits i (suc d) a) (has_chain b) (list_fits i (suc d) b) e in
      let y = both (list_free a) (list_free b) r in
      let w = list_text true b ++ (codes "done" ++ u) in
      let doing = codes "do" ++ 32 ∷ w in
      let v = list_text true a ++ doing in
      let fa = list_begins i (suc d) a doing x.1 x.2 y.0 in
      let fb = list_begins i (suc d) b (codes "done" ++ u) x.3 x.4 y.1 in
      to_state (ap (λ (z : List Text). st d q (clean z) u) (append_assoc f (list_bodies a) (list_bodies b)))
      (loop_says k d q f (f ++ list_bodies a) ((f ++ list_bodies a) ++ list_bodies b) bytes v w u until a b x.0 (g ∙ right_six (Rattle.sh_printing.specs.Marks.loop_key until) (list_text true a) (codes "do ") (list_text true b) (codes "done") u)
      (list_from k (suc d) q f (f ++ list_bodies a) (32 ∷ v) doing a fa (gap_blank v) (maybe_law n ds i (suc d) q f a (32 ∷ v) doing (omega arith) (deeper d x.0) x.2 y.0 (covers_first k (clean f) (list_bodies a) (list_bodies b) cov) (do_end w) (gap_blank v)))
      (list_from k (suc d) q (f ++ list_bodies a) ((f ++ list_bodies a) ++ list_bodies b) (32 ∷ w) (codes "done" ++ u) b fb (gap_blank w) (maybe_law n ds i (suc d) q (f ++ list_bodies a) b (32 ∷ w) (codes "done" ++ u) (omega arith) (deeper d x.0) x.4 y.1 (covers_on k f (list_bodies a) (list_bodies b) cov) (done_end u o) (gap_blank w))) o)
  compound_law n ds i d q f end redirected (walk name parameters b) bytes u h D e r m cov o g =
      let k = known_in n ds in
      let x = five (nat_lt d limit) (is_name name) true (has_chain b) (list_fits i (suc d) b) e in
      let y = both true (list_free b) r in
      let w = list_text true b ++ (codes "done" ++ u) in
      let v = codes "do" ++ 32 ∷ w in
      let fb = list_begins i (suc d) b (codes "done" ++ u) x.3 x.4 y.1 in
      for_law k d q f f (f ++ list_bodies b) bytes name v w u parameters [] b x.0 x.1 (g ∙ right_six (codes "for " ++ name) (codes " ") (codes "do ") (list_text true b) (codes "done") u ∙ append_assoc (codes "for ") name (32 ∷ v)) refl refl
      (walk_plain k (suc d) q f w)
      (list_from k (suc d) q f (f ++ list_bodies b) (32 ∷ w) (codes "done" ++ u) b fb (gap_blank w) (maybe_law n ds i (suc d) q f b (32 ∷ w) (codes "done" ++ u) (omega arith) (deeper d x.0) x.4 y.1 cov (done_end u o) (gap_blank w))) o
  compound_law n ds i d q f end redirected (walk name (listed ws) b) bytes u h D e r m cov o g =
      let k = known_in n ds in
      let x = five (nat_lt d limit) (is_name name) (words_fit i (suc d) ws) (has_chain b) (list_fits i (suc d) b) e in
      let y = both (words_free ws) (list_free b) r in
      let w = list_text true b ++ (codes "done" ++ u) in
      let doing = codes "do" ++ 32 ∷ w in
      let tail = 59 ∷ 32 ∷ doing in
      let inner = words_text true true ws ++ tail in
      let v = codes "in" ++ inner in
      let ot = Rattle.sh_printing.proofs.BackTokens.word_ends tail refl in
      let fb = list_begins i (suc d) b (codes "done" ++ u) x.3 x.4 y.1 in
      let wl = words_law n ds i (suc d) q f ws tail (st (suc d) q (clean (f ++ words_bodies ws)) tail) [] (table.next Word) table.word Rattle.sh_printing.proofs.BackCommands.listed_words (words_lists n ds i ws) (omega arith) (deeper d x.0) x.2 y.0 (covers_first k (clean f) (words_bodies ws) (list_bodies b) cov) ot (listed_stops k (suc d) q (clean (f ++ words_bodies ws)) doing) in
      to_state (ap (λ (z : List Text). st d q (clean z) u) (append_assoc f (words_bodies ws) (list_bodies b)))
      (for_law k d q f (f ++ words_bodies ws) ((f ++ words_bodies ws) ++ list_bodies b) bytes name v w u (listed ws) (Rattle.sh_grammar.specs.State.listed_node (listed ws) ∷ []) b x.0 x.1
      (g ∙ right_six (codes "for " ++ name) (codes " in" ++ words_text true true ws ++ codes "; ") (codes "do ") (list_text true b) (codes "done") u ∙ ap (λ (z : Text). (codes "for " ++ name) ++ z) (right_four (codes " in") (words_text true true ws) (codes "; ") doing) ∙ append_assoc (codes "for ") name (32 ∷ v)) refl refl
      (walk_listed k (suc d) q f (f ++ words_bodies ws) inner w ws (words_outside ws tail ot) (saying (append-nil (word_nodes ws)) wl))
      (list_from k (suc d) q (f ++ words_bodies ws) ((f ++ words_bodies ws) ++ list_bodies b) (32 ∷ w) (codes "done" ++ u) b fb (gap_blank w) (maybe_law n ds i (suc d) q (f ++ words_bodies ws) b (32 ∷ w) (codes "done" ++ u) (omega arith) (deeper d x.0) x.4 y.1 (covers_on k f (words_bodies ws) (list_bodies b) cov) (done_end u o) (gap_blank w))) o)
  compound_law n ds i d q f end redirected (cases w is) bytes u h D e r m cov o g =
      let k = known_in n ds in
      let x = three (nat_lt d limit) (word_fits i (suc d) true w) (items_fit i (suc d) is) e in
      let y = both (parts_free w) (items_free is) r in
      let z = codes "esac" ++ u in
      let inner = items_text true is ++ z in
      let behind = 32 ∷ (codes "in" ++ 32 ∷ inner) in
      let v = parts_on in_word blank w behind in
      let ob = Rattle.sh_printing.proofs.BackTokens.word_ends behind refl in
      let front = word_begins i (suc d) blank w behind x.1 ob in
      to_state (ap (λ (b : List Text). st d q (clean b) u) (append_assoc f (parts_bodies w) (items_bodies is)))
      (case_law k d q f (f ++ parts_bodies w) ((f ++ parts_bodies w) ++ items_bodies is) bytes v inner u w is x.0 (g ∙ right_six (codes "case ") (parts_text true in_word blank w) (codes " in ") (items_text true is) (codes "esac") u)
      (to_state (ap (λ (b : Due). st (suc d) q b behind) (after_clean (parts_open w) f (parts_bodies w) (parts_closed w))) (word_node_of k (suc d) q (clean f) (32 ∷ v) w behind (gap_blank v ∙ front.solid) front (word_law n ds i (suc d) q (clean f) true w behind (parts_lists n ds i w) (omega arith) (deeper d x.0) x.1 y.0 (covers_first k (clean f) (parts_bodies w) (items_bodies is) cov) ob)))
      (items_no_line is u o) (items_law n ds i (suc d) q (f ++ parts_bodies w) is (32 ∷ inner) u (omega arith) (deeper d x.0) x.2 y.1 (covers_on k f (parts_bodies w) (items_bodies is) cov) (gap_blank inner) o) o)

  pub items_law : (n : ℕ) (ds : List Text) (i : Bool) (d : ℕ) (q : List Sum) (f : List Text) (is : shape.Items) (bytes u : Text) → suc limit ≤ n + d → d ≤ limit → items_fit i d is ≡ true → items_free is ≡ true → Covers (known_in n ds) (clean f) (items_bodies is) → gap bytes ≡ gap (items_text true is ++ (codes "esac" ++ u)) → Outside u →
      ItemsTo (known_in n ds) d q f (f ++ items_bodies is) bytes (codes "esac" ++ u) is
  items_law n ds i d q f no_item bytes u h D e r cov g o = items_all (known_in n ds) d q f f (f ++ []) bytes (codes "esac" ++ u) no_item (sym (append-nil f)) (items_none (known_in n ds) d q f bytes u g o)
  items_law n ds i d q f (item no_word b is) bytes u h D e r cov g o = absurd (false≢true e)
  items_law n ds i d q f (item (word p ps) b is) bytes u h D e r cov g o =
      let k = known_in n ds in
      let x = four true (patterns_fit i d (word p ps)) (list_fits i d b) (items_fit i d is) e in
      let xp = four (has_part p) (not (plain_begins 35 p)) (parts_fit i d in_word p) (patterns_fit i d ps) x.1 in
      let y = both (words_free (word p ps)) (list_free b && items_free is) r in
      let yp = both (parts_free p) (words_free ps) y.0 in
      let yb = both (list_free b) (items_free is) y.1 in
      let pb = parts_bodies p in let wb = words_bodies ps in let lb = list_bodies b in let ib = items_bodies is in
      let z = codes "esac" ++ u in
      let tt = items_text true is ++ z in
      let semis = 59 ∷ 59 ∷ 32 ∷ tt in
      let bt = list_text true b ++ semis in
      let pt = patterns_text true (codes " | ") ps ++ 41 ∷ 32 ∷ bt in
      let v = parts_on in_word blank p pt in
      let c1 = covers_first k (clean f) (pb ++ wb) (lb ++ ib) cov in
      let fe : f ++ (pb ++ wb) ≡ (f ++ pb) ++ wb = sym (append_assoc f pb wb) in
      let c2 : Covers k (clean ((f ++ pb) ++ wb)) (lb ++ ib) = subst (λ (q : List Text). Covers k (clean q) (lb ++ ib)) fe (covers_on k f (pb ++ wb) (lb ++ ib) cov) in
      let se = semis_end tt in
      let nl = Rattle.sh_printing.proofs.BackLines.blank_test Newline bt ∙ list_no_line i d b semis x.2 yb.0 se.no_line in
      let text : items_text true (item (word p ps) b is) ++ z ≡ 40 ∷ v = append_assoc (((((codes "(" ++ parts_text true in_word blank p) ++ patterns_text true (codes " | ") ps) ++ codes ") ") ++ list_text true b) ++ codes ";; ") (items_text true is) z ∙ right_six (codes "(" ++ parts_text true in_word blank p) (patterns_text true (codes " | ") ps) (codes ") ") (list_text true b) (codes ";; ") tt in
      items_all k d q f ((((f ++ pb) ++ wb) ++ lb) ++ ib) (f ++ ((pb ++ wb) ++ (lb ++ ib))) bytes z (item (word p ps) b is) (append_assoc ((f ++ pb) ++ wb) lb ib ∙ ap (λ (q : List Text). q ++ (lb ++ ib)) (sym fe) ∙ append_assoc f (pb ++ wb) (lb ++ ib))
      (one_item k d q f (f ++ pb) ((f ++ pb) ++ wb) (((f ++ pb) ++ wb) ++ lb) ((((f ++ pb) ++ wb) ++ lb) ++ ib) bytes v pt bt tt z p ps b is (g ∙ ap gap text)
      (pattern_law n ds i d q f p v pt (parts_lists n ds i p) (omega arith) D xp.0 (isnt (plain_begins 35 p) xp.1) xp.2 yp.0 (covers_first k (clean f) pb wb c1) (patterns_outside ps (32 ∷ bt)) refl)
      (patterns_law n ds i d q (f ++ pb) ps (32 ∷ bt) (words_lists n ds i ps) (omega arith) D xp.3 yp.1 (covers_on k f pb wb c1))
      (maybe_node_of k d q ((f ++ pb) ++ wb) (((f ++ pb) ++ wb) ++ lb) (32 ∷ bt) semis b nl (maybe_law n ds i d q ((f ++ pb) ++ wb) b (32 ∷ bt) semis h D x.2 yb.0 (covers_first k (clean ((f ++ pb) ++ wb)) lb ib c2) se (gap_blank bt)))
      (items_no_line is u o) (items_law n ds i d q (((f ++ pb) ++ wb) ++ lb) is (32 ∷ tt) u h D x.3 yb.1 (covers_on k ((f ++ pb) ++ wb) lb ib c2) (gap_blank tt) o))

  -- `elif a; then b;` again and again
  pub elifs_law : (n : ℕ) (ds : List Text) (i : Bool) (d : ℕ) (q : List Sum) (f : List Text) (bs : shape.Branches) (bytes t : Text) → suc limit ≤ n + d → d ≤ limit → branches_fit i d bs ≡ true → branches_free bs ≡ true → Covers (known_in n ds) (clean f) (branches_bodies bs) → gap bytes ≡ gap (branches_text true (codes "elif ") bs ++ t) → Rattle.sh_printing.proofs.BackCommands.ListEnd t → Rattle.sh_grammar.specs.Tokens.is_key Elif t ≡ false →
      Elifs (known_in n ds) d q f (f ++ branches_bodies bs) bytes t bs
  elifs_law n ds i d q f no_branch bytes t h D e r cov g l ne = elifs_all (known_in n ds) d q f f (f ++ []) bytes t no_branch (sym (append-nil f)) (no_elif (known_in n ds) d q f bytes t g ne)
  elifs_law n ds i d q f (branch a b bs) bytes t h D e r cov g l ne =
      let k = known_in n ds in
      let z = five (has_chain a) (list_fits i d a) (has_chain b) (list_fits i d b) (branches_fit i d bs) e in
      let ya = both (list_free a) (list_free b && branches_free bs) r in
      let yb = both (list_free b) (branches_free bs) ya.1 in
      let la = list_bodies a in let lb = list_bodies b in let bb = branches_bodies bs in
      let rest = branches_text true (codes "elif ") bs ++ t in
      let w = list_text true b ++ rest in
      let thens = codes "then" ++ 32 ∷ w in
      let v = list_text true a ++ thens in
      let fa = list_begins i d a thens z.0 z.1 ya.0 in
      let fb = list_begins i d b rest z.2 z.3 yb.0 in
      let c2 = covers_on k f la (lb ++ bb) cov in
      let br = branch_says k d q f (f ++ la) ((f ++ la) ++ lb) (32 ∷ v) w rest a b
      (list_from k d q f (f ++ la) (32 ∷ v) thens a fa (gap_blank v) (maybe_law n ds i d q f a (32 ∷ v) thens h D z.1 ya.0 (covers_first k (clean f) la (lb ++ bb) cov) (then_end w) (gap_blank v)))
      (list_from k d q (f ++ la) ((f ++ la) ++ lb) (32 ∷ w) rest b fb (gap_blank w) (maybe_law n ds i d q (f ++ la) b (32 ∷ w) rest h D z.3 yb.0 (covers_first k (clean (f ++ la)) lb bb c2) (elif_list_end bs t l) (gap_blank w))) in
      let el = elifs_law n ds i d q ((f ++ la) ++ lb) bs br.ahead t h D z.4 yb.1 (covers_on k (f ++ la) lb bb c2) br.same l ne in
      elifs_all k d q f (((f ++ la) ++ lb) ++ bb) (f ++ (la ++ (lb ++ bb))) bytes t (branch a b bs) (append_assoc (f ++ la) lb bb ∙ append_assoc f la (lb ++ bb))
      (elif_law k d q f ((f ++ la) ++ lb) (((f ++ la) ++ lb) ++ bb) bytes v rest t a b bs (g ∙ ap gap (right_six (codes "elif ") (list_text true a) (codes "then ") (list_text true b) (branches_text true (codes "elif ") bs) t)) br el)

  pub else_law : (n : ℕ) (ds : List Text) (i : Bool) (d : ℕ) (q : List Sum) (f : List Text) (o : shape.Otherwise) (bytes u : Text) → suc limit ≤ n + d → d ≤ limit → otherwise_fits i d o ≡ true → otherwise_free o ≡ true → Covers (known_in n ds) (clean f) (otherwise_bodies o) → gap bytes ≡ gap (otherwise_text true o ++ (codes "fi" ++ u)) → Outside u →
      ElsePart (known_in n ds) d q f (f ++ otherwise_bodies o) bytes (codes "fi" ++ u) o
  else_law n ds i d q f no_else bytes u h D e r cov g out = else_all (known_in n ds) d q f f (f ++ []) bytes (codes "fi" ++ u) no_else (sym (append-nil f)) (no_else_says (known_in n ds) d q f bytes (codes "fi" ++ u) g (fi_no_else u out))
  else_law n ds i d q f (otherwise s) bytes u h D e r cov g out =
      let x = both (has_chain s) (list_fits i d s) e in
      let fi = codes "fi" ++ u in
      let v = list_text true s ++ fi in
      let fr = list_begins i d s fi x.0 x.1 r in
      else_some (known_in n ds) d q f (f ++ list_bodies s) bytes v fi s (g ∙ ap gap (append_assoc (codes "else ") (list_text true s) fi))
      (list_from (known_in n ds) d q f (f ++ list_bodies s) (32 ∷ v) fi s fr (gap_blank v) (maybe_law n ds i d q f s (32 ∷ v) fi h D x.1 r cov (fi_end u out) (gap_blank v)))

  -- the commands of a pipeline behind the first one
  pub stages_law : (n : ℕ) (ds : List Text) (i : Bool) (d : ℕ) (q : List Sum) (f : List Text) (end : End) (ss : shape.Stages) (ps : List Pending) (found : List Text) (t : Text) → suc limit ≤ n + d → d ≤ limit → stages_fit i d ss ≡ true → stages_free ss ≡ true → Covers (known_in n ds) (clean f) (stages_bodies ss) → marks_pipe end ≡ false → found ++ bodies_of ps ≡ f →
      On (known_in n ds) (star (table.next Pipe) (rule table.stage)) d q (st d q (due ps found) (ended (stage_end end ss) (pending_text ps) ++ (stages_text true end ss ++ t))) (ended end) t (stage_nodes ss) (f ++ stages_bodies ss)
  stages_law n ds i d q f end no_stage ps found t h D e r cov m is = record { owing = ps; found = found; says = no_stages (known_in n ds) d q ps found end t m; is_all = is ∙ sym (append-nil f) }
  stages_law n ds i d q f end (stage c cs) ps found t h D e r cov m is =
      let k = known_in n ds in
      let x = both (command_fits i d c) (stages_fit i d cs) e in
      let y = both (command_free c) (stages_free cs) r in
      let u = stages_text true end (stage c cs) ++ t in
      let front = stages_begin i d end c cs t x.0 y.0 in
      let l = pipe_says k d q ps found f u is front.no_line in
      let a = command_law n ds i d q f (stage_end end cs) c l.ahead (stages_text true end cs ++ t) h D x.0 y.0 (covers_first k (clean f) (command_bodies c) (stages_bodies cs) cov) (l.same ∙ front.solid ∙ stages_split end c cs t) in
      let b = stages_law n ds i d q (f ++ command_bodies c) end cs a.owing a.found t h D x.1 y.1 (covers_on k f (command_bodies c) (stages_bodies cs) cov) m a.is_all in
      record { owing = b.owing; found = b.found; says = one_stage k d q ps found f u _ _ c (stage_nodes cs) l a.says b.says; is_all = b.is_all ∙ append_assoc f (command_bodies c) (stages_bodies cs) }

  pub pipeline_law : (n : ℕ) (ds : List Text) (i : Bool) (d : ℕ) (q : List Sum) (f : List Text) (end : End) (p : shape.Pipeline) (bytes t : Text) → suc limit ≤ n + d → d ≤ limit → pipeline_fits i d p ≡ true → pipeline_free p ≡ true → Covers (known_in n ds) (clean f) (pipeline_bodies p) → marks_pipe end ≡ false → gap bytes ≡ pipeline_text true end p ++ t →
      On (known_in n ds) (rule table.pipeline) d q (st d q (clean f) bytes) (ended end) t (pipeline_node p ∷ []) (f ++ pipeline_bodies p)
  pipeline_law n ds i d q f end (pipeline negated no_stage) bytes t h D e r cov m g = absurd (false≢true e)
  pipeline_law n ds i d q f end (pipeline false (stage c cs)) bytes t h D e r cov m g =
      let k = known_in n ds in
      let x = both (command_fits i d c) (stages_fit i d cs) e in
      let y = both (command_free c) (stages_free cs) r in
      let front = stages_begin i d end c cs t x.0 y.0 in
      let a = command_law n ds i d q f (stage_end end cs) c bytes (stages_text true end cs ++ t) h D x.0 y.0 (covers_first k (clean f) (command_bodies c) (stages_bodies cs) cov) (g ∙ stages_split end c cs t) in
      let b = stages_law n ds i d q (f ++ command_bodies c) end cs a.owing a.found t h D x.1 y.1 (covers_on k f (command_bodies c) (stages_bodies cs) cov) m a.is_all in
      record { owing = b.owing; found = b.found; is_all = b.is_all ∙ append_assoc f (command_bodies c) (stages_bodies cs); says = plain_pipeline k d q (clean f) bytes _ _ c cs (carry_key Bang bytes _ (g ∙ sym front.solid) ∙ front.no_bang) a.says b.says }
  pipeline_law n ds i d q f end (pipeline true (stage c cs)) bytes t h D e r cov m g =
      let k = known_in n ds in
      let x = both (command_fits i d c) (stages_fit i d cs) e in
      let y = both (command_free c) (stages_free cs) r in
      let front = stages_begin i d end c cs t x.0 y.0 in
      let u = stages_text true end (stage c cs) ++ t in
      let a = command_law n ds i d q f (stage_end end cs) c (32 ∷ u) (stages_text true end cs ++ t) h D x.0 y.0 (covers_first k (clean f) (command_bodies c) (stages_bodies cs) cov) (gap_blank u ∙ front.solid ∙ stages_split end c cs t) in
      let b = stages_law n ds i d q (f ++ command_bodies c) end cs a.owing a.found t h D x.1 y.1 (covers_on k f (command_bodies c) (stages_bodies cs) cov) m a.is_all in
      record { owing = b.owing; found = b.found; is_all = b.is_all ∙ append_assoc f (command_bodies c) (stages_bodies cs); says = bang_pipeline_says k d q (clean f) bytes u _ _ c cs g a.says b.says }

  pub links_law : (n : ℕ) (ds : List Text) (i : Bool) (d : ℕ) (q : List Sum) (f : List Text) (end : End) (ls : shape.Links) (ps : List Pending) (found : List Text) (t : Text) → suc limit ≤ n + d → d ≤ limit → links_fit i d ls ≡ true → links_free ls ≡ true → Covers (known_in n ds) (clean f) (links_bodies ls) → marks_pipe end ≡ false → marks_link end ≡ false → found ++ bodies_of ps ≡ f →
      On (known_in n ds) (star table.links (rule table.link)) d q (st d q (due ps found) (ended (link_end end ls) (pending_text ps) ++ (links_text true end ls ++ t))) (ended end) t (link_nodes ls) (f ++ links_bodies ls)
  links_law n ds i d q f end no_link ps found t h D e r cov m o is = record { owing = ps; found = found; says = no_links (known_in n ds) d q ps found end t o; is_all = is ∙ sym (append-nil f) }
  links_law n ds i d q f end (and_link p ls) ps found t h D e r cov m o is =
      let k = known_in n ds in
      let x = both (pipeline_fits i d p) (links_fit i d ls) e in
      let y = both (pipeline_free p) (links_free ls) r in
      let u = (pipeline_text true (link_end end ls) p ++ links_text true end ls) ++ t in
      let split = append_assoc (pipeline_text true (link_end end ls) p) (links_text true end ls) t in
      let front = subst PipelineFront (sym split) (pipeline_begins i d (link_end end ls) p (links_text true end ls ++ t) x.0 y.0) in
      let l = and_says k d q ps found f u is front.no_line in
      let a = pipeline_law n ds i d q f (link_end end ls) p l.ahead (links_text true end ls ++ t) h D x.0 y.0 (covers_first k (clean f) (pipeline_bodies p) (links_bodies ls) cov) (link_pipe end ls m) (l.same ∙ front.solid ∙ split) in
      let b = links_law n ds i d q (f ++ pipeline_bodies p) end ls a.owing a.found t h D x.1 y.1 (covers_on k f (pipeline_bodies p) (links_bodies ls) cov) m o a.is_all in
      record { owing = b.owing; found = b.found; says = one_and k d q ps found f u _ _ p (link_nodes ls) l a.says b.says; is_all = b.is_all ∙ append_assoc f (pipeline_bodies p) (links_bodies ls) }
  links_law n ds i d q f end (or_link p ls) ps found t h D e r cov m o is =
      let k = known_in n ds in
      let x = both (pipeline_fits i d p) (links_fit i d ls) e in
      let y = both (pipeline_free p) (links_free ls) r in
      let u = (pipeline_text true (link_end end ls) p ++ links_text true end ls) ++ t in
      let split = append_assoc (pipeline_text true (link_end end ls) p) (links_text true end ls) t in
      let front = subst PipelineFront (sym split) (pipeline_begins i d (link_end end ls) p (links_text true end ls ++ t) x.0 y.0) in
      let l = or_says k d q ps found f u is front.no_line in
      let a = pipeline_law n ds i d q f (link_end end ls) p l.ahead (links_text true end ls ++ t) h D x.0 y.0 (covers_first k (clean f) (pipeline_bodies p) (links_bodies ls) cov) (link_pipe end ls m) (l.same ∙ front.solid ∙ split) in
      let b = links_law n ds i d q (f ++ pipeline_bodies p) end ls a.owing a.found t h D x.1 y.1 (covers_on k f (pipeline_bodies p) (links_bodies ls) cov) m o a.is_all in
      record { owing = b.owing; found = b.found; says = one_or k d q ps found f u _ _ p (link_nodes ls) l a.says b.says; is_all = b.is_all ∙ append_assoc f (pipeline_bodies p) (links_bodies ls) }

  pub chain_law : (n : ℕ) (ds : List Text) (i : Bool) (d : ℕ) (q : List Sum) (f : List Text) (end : End) (c : shape.Chain) (bytes t : Text) → suc limit ≤ n + d → d ≤ limit → chain_fits i d c ≡ true → chain_free c ≡ true → Covers (known_in n ds) (clean f) (chain_bodies c) → marks_pipe end ≡ false → marks_link end ≡ false → gap bytes ≡ chain_text true end c ++ t →
      On (known_in n ds) (rule table.chain) d q (st d q (clean f) bytes) (ended end) t (chain_node c ∷ []) (f ++ chain_bodies c)
  chain_law n ds i d q f end (chain p ls) bytes t h D e r cov m o g =
      let k = known_in n ds in
      let x = both (pipeline_fits i d p) (links_fit i d ls) e in
      let y = both (pipeline_free p) (links_free ls) r in
      let a = pipeline_law n ds i d q f (link_end end ls) p bytes (links_text true end ls ++ t) h D x.0 y.0 (covers_first k (clean f) (pipeline_bodies p) (links_bodies ls) cov) (link_pipe end ls m) (g ∙ chain_split end p ls t) in
      let b = links_law n ds i d q (f ++ pipeline_bodies p) end ls a.owing a.found t h D x.1 y.1 (covers_on k f (pipeline_bodies p) (links_bodies ls) cov) m o a.is_all in
      record { owing = b.owing; found = b.found; is_all = b.is_all ∙ append_assoc f (pipeline_bodies p) (links_bodies ls); says = chain_says k (st d q (clean f) bytes) _ _ p ls a.says b.says }

  -- the commands of a list behind its first one
  pub more_law : (n : ℕ) (ds : List Text) (i : Bool) (d : ℕ) (q : List Sum) (f : List Text) (s : shape.Script) (ps : List Pending) (found : List Text) (t : Text) → suc limit ≤ n + d → d ≤ limit → list_fits i d s ≡ true → list_free s ≡ true → Covers (known_in n ds) (clean f) (list_bodies s) → Rattle.sh_printing.proofs.BackCommands.ListEnd t → found ++ bodies_of ps ≡ f →
      MoreTo (known_in n ds) d q (st d q (due ps found) (ended marks.next (pending_text ps) ++ (list_text true s ++ t))) (f ++ list_bodies s) t (chain_nodes s)
  more_law n ds i d q f no_chain ps found t h D e r cov l is = end_of_list (known_in n ds) d q ps found (f ++ []) t (is ∙ sym (append-nil f)) l
  more_law n ds i d q f (next_chain c s) ps found t h D e r cov l is =
      let k = known_in n ds in
      let x = both (chain_fits i d c) (list_fits i d s) e in
      let y = both (chain_free c) (list_free s) r in
      let u = list_text true (next_chain c s) ++ t in
      let front = list_begins i d (next_chain c s) t refl e r in
      let z = separator_says k d q ps found f u is in
      let a = chain_law n ds i d q f marks.next c z.ahead (list_text true s ++ t) h D x.0 y.0 (covers_first k (clean f) (chain_bodies c) (list_bodies s) cov) refl refl (z.same ∙ front.solid ∙ list_split c s t) in
      let b = more_law n ds i d q (f ++ chain_bodies c) s a.owing a.found t h D x.1 y.1 (covers_on k f (chain_bodies c) (list_bodies s) cov) l a.is_all in
      more_all k d q (st d q (due ps found) (ended marks.next (pending_text ps) ++ u)) t (chain_node c ∷ chain_nodes s) ((f ++ chain_bodies c) ++ list_bodies s) (f ++ (chain_bodies c ++ list_bodies s)) (append_assoc f (chain_bodies c) (list_bodies s))
      (next_of_list k d q ps found f ((f ++ chain_bodies c) ++ list_bodies s) u t _ c (chain_nodes s) z front.no_line (carry_pipeline z.ahead u z.same ∙ front.begins) a.says b)

  -- the commands of a list
  pub maybe_law : (n : ℕ) (ds : List Text) (i : Bool) (d : ℕ) (q : List Sum) (f : List Text) (s : shape.Script) (bytes t : Text) → suc limit ≤ n + d → d ≤ limit → list_fits i d s ≡ true → list_free s ≡ true → Covers (known_in n ds) (clean f) (list_bodies s) → Rattle.sh_printing.proofs.BackCommands.ListEnd t → gap bytes ≡ gap (list_text true s ++ t) → Maybe (known_in n ds) d q f bytes t s
  maybe_law n ds i d q f no_chain bytes t h D e r cov l g = no_chains (known_in n ds) d q f bytes t g l
  maybe_law n ds i d q f (next_chain c s) bytes t h D e r cov l g =
      let k = known_in n ds in
      let x = both (chain_fits i d c) (list_fits i d s) e in
      let y = both (chain_free c) (list_free s) r in
      let u = list_text true (next_chain c s) ++ t in
      let front = list_begins i d (next_chain c s) t refl e r in
      let a = chain_law n ds i d q f marks.next c bytes (list_text true s ++ t) h D x.0 y.0 (covers_first k (clean f) (chain_bodies c) (list_bodies s) cov) refl refl (g ∙ front.solid ∙ list_split c s t) in
      let b = more_law n ds i d q (f ++ chain_bodies c) s a.owing a.found t h D x.1 y.1 (covers_on k f (chain_bodies c) (list_bodies s) cov) l a.is_all in
      let b2 = more_all k d q _ t (chain_nodes s) ((f ++ chain_bodies c) ++ list_bodies s) (f ++ (chain_bodies c ++ list_bodies s)) (append_assoc f (chain_bodies c) (list_bodies s)) b in
      some_chains k d q f (f ++ (chain_bodies c ++ list_bodies s)) bytes t (next_chain c s) (carry_pipeline bytes u g ∙ front.begins) (record { ahead = b2.ahead; same = b2.same; says = a.says then b2.says })
