-- What is printed of a word reads back as the word, where the lists in it do.
use Rattle.std.proofs.Common.{◌≡◌, ℕ, suc, ◌+◌, ◌≤◌, Bool, true, false, List, [], ◌∷◌, ◌++◌, refl, sym, ap, ◌∙◌, append_assoc, arith}
use Rattle.std.specs.Prelude.{◌&&◌, not, nat_lt, codes}
use Rattle.std.proofs.lemmas.Bool.{false≢true}
use Rattle.std.proofs.lemmas.List.{append-nil}
use Rattle.text_grammar.specs.Grammar.{star, rule}
use Rattle.span_text.specs.Names.{is_name}
use Rattle.sh_grammar.specs.Shape as shape
use Rattle.sh_grammar.specs.Shape.{plain, exact, double, tilde, param, subst as listing, arith as sum, no_part, part, as_is, length_of, fill, trim, no_word, word, no_value, value, no_assign, assign}
use Rattle.sh_grammar.specs.Bytes.{Text, Context, in_word, in_double, has_double, fill_context, trim_context, gap}
use Rattle.sh_grammar.specs.State.{State, Sum, Node, part_node, word_node, assign_node}
use Rattle.sh_grammar.specs.Table.{Test, Rule, expansion, prefix_begins, prefix_item}
use Rattle.sh_grammar.specs.Table as table
use Rattle.sh_grammar.specs.Steps.{limit}
use Rattle.sh_grammar.proofs.Known.{known_in}
use Rattle.sh_printing.specs.Marks.{blank}
use Rattle.sh_printing.specs.Spellable.{begins_with, param_fits, sum_fits}
use Rattle.sh_printing.specs.Printing.{part_text, parts_text, words_text, value_text, assigns_text, list_text, continued, behind_opening, part_opens, parts_open, words_open, op_opens, patterns_text}
use Rattle.sh_printing.specs.Printable.{part_fits, parts_fit, operand_checks, word_fits, words_fit, patterns_fit, value_fits, assigns_fit, list_fits, plain_fits, reads_tilde, behind_tilde, has_part, is_length, changes_mark, plain_begins}
use Rattle.sh_printing.proofs.BackSays.{Says, at_state, to_state}
use Rattle.sh_printing.proofs.BackDue.{Due, named, st, after, Covers, covers_first, covers_after}
use Rattle.sh_printing.proofs.BackBytes.{both, isnt, three, four, gap_blank}
use Rattle.sh_printing.proofs.BackParams.{Ends}
use Rattle.sh_printing.proofs.BackTokens.{Outside}
use Rattle.sh_printing.proofs.BackBehind.{Closes, parts_on, word_closes, double_closes, fill_closes, trim_closes, name_ends}
use Rattle.sh_printing.proofs.BackBraces.{bare_back, length_says, fill_back, trim_back}
use Rattle.sh_printing.proofs.BackWords.{Parts, no_parts}
use Rattle.sh_printing.proofs.BackWordFronts.{word_begins, plain_no_tilde}
use Rattle.sh_printing.proofs.BackLines.{clean}
use Rattle.sh_printing.proofs.BackCommands.{Wording, close_end}
use Rattle.sh_printing.proofs.BackLists.{covers_on}
use Rattle.sh_printing.proofs.BackNamed.{part_bodies, parts_bodies, words_bodies, value_bodies, assigns_bodies, part_free, parts_free, words_free, value_free, assigns_free, part_closed, parts_closed, list_bodies}
use Rattle.sh_printing.proofs.BackNodes.{part_nodes, parts_back, word_nodes, assign_nodes}
use Rattle.sh_printing.proofs.BackSums.{opening_of, Operand, Operands, sum_back}
use Rattle.sh_printing.proofs.BackSteps.{after_clean, plain_step, exact_step, double_step, expansion_step, parts_step, WordTo, word_step, tilde_step, marked_tilde, word_node_of, value_node_of, opened, listing_step}
use Rattle.sh_printing.proofs.BackBegins.{word_first, words_outside, assigns_outside}
use Rattle.sh_printing.proofs.BackHeads.{list_no_line}
use Rattle.sh_printing.proofs.BackSimpleSteps.{words_step, assigns_step}
use Rattle.sh_printing.proofs.BackTreeSteps.{covers_alone, covers_settled, deeper, operand_wrap, pattern_step, patterns_outside}
use Rattle.sh_printing.proofs.BackLoops.{PatternsTo, no_patterns, one_pattern}
use Rattle.sh_printing.proofs.BackInner.{PartLists, PartsLists, WordsLists, ValueLists, AssignsLists}

mutual
  -- a parameter and its operator
  pub param_back : (n : ℕ) (ds : List Text) (i : Bool) (d : ℕ) (q : List Sum) (c : Context) (g : Due) (behind : shape.Parts) (p : shape.Param) (o : shape.ParamOp) (z : Text) → PartLists n ds i (param p o) → limit ≤ n + d → d ≤ limit → part_fits i d c behind (param p o) ≡ true → part_free (param p o) ≡ true → Covers (known_in n ds) g (part_bodies (param p o)) → (continued behind ≡ false → Ends z) →
      Says (known_in n ds) (rule (expansion c)) (st d q g (part_text true c (opening_of g) (continued behind) (param p o) ++ z)) (st d q (after (part_opens (param p o)) g (part_bodies (param p o))) z) (part_node (param p o) ∷ [])
  param_back n ds i d q c g behind p as_is z ls h D e f cov x = bare_back (known_in n ds) c d q g (continued behind) p z e x
  param_back n ds i d q c g behind p length_of z ls h D e f cov x = let y = both (nat_lt d limit) (param_fits p) e in length_says (known_in n ds) c d q g p z y.0 y.1
  param_back n ds i d q c g behind p (fill t colon w) z ls h D e f cov x =
      let y = four (nat_lt d limit) (param_fits p) (not (is_length p t colon w)) (parts_fit i (suc d) (fill_context c) w) e in
      fill_back (known_in n ds) i c d q g (after (parts_open w) g (parts_bodies w)) (opening_of g) (continued behind) p t colon w z (part_nodes w) y.0 y.1 (isnt (is_length p t colon w) y.2) y.3 (parts_back w)
      (parts_law n ds i (suc d) q (fill_context c) g w (125 ∷ z) ls (omega arith) (deeper d y.0) y.3 f cov (fill_closes c z))
  param_back n ds i d q c g behind p (trim suffix longest w) z ls h D e f cov x =
      let y = four (nat_lt d limit) (param_fits p) (not (changes_mark p suffix longest w)) (parts_fit i (suc d) (trim_context c) w) e in
      trim_back (known_in n ds) i c d q g (after (parts_open w) g (parts_bodies w)) (opening_of g) (continued behind) p suffix longest w z (part_nodes w) y.0 y.1 (isnt (changes_mark p suffix longest w) y.2) y.3 (parts_back w)
      (parts_law n ds i (suc d) q (trim_context c) g w (125 ∷ z) ls (omega arith) (deeper d y.0) y.3 f cov (trim_closes c z))

  -- a part before others
  pub part_back : (n : ℕ) (ds : List Text) (i : Bool) (d : ℕ) (q : List Sum) (c : Context) (g : Due) (ps : shape.Parts) (p : shape.Part) (t : Text) → PartLists n ds i p → limit ≤ n + d → d ≤ limit → part_fits i d c ps p ≡ true → parts_fit i d c ps ≡ true → part_free p ≡ true → Covers (known_in n ds) g (part_bodies p) → Closes c t →
      Says (known_in n ds) (rule (table.part c)) (st d q g (part_text true c (opening_of g) (continued ps) p ++ parts_on c (behind_opening (part_opens p) (opening_of g)) ps t)) (st d q (after (part_opens p) g (part_bodies p)) (parts_on c (behind_opening (part_opens p) (opening_of g)) ps t)) (part_node p ∷ [])
  part_back n ds i d q c g ps (plain text) t ls h D e r f cov s = plain_step (known_in n ds) c d q g i text ps (opening_of g) t e r s
  part_back n ds i d q c g ps (exact text) t ls h D e r f cov s = exact_step (known_in n ds) c d q g i text (parts_on c (opening_of g) ps t) e
  part_back n ds i d q c g ps (double qs) t ls h D e r f cov s =
      let x = both (has_double c) (parts_fit i d in_double qs) e in
      let z = parts_on c (behind_opening (parts_open qs) (opening_of g)) ps t in
      double_step (known_in n ds) c d q g (after (parts_open qs) g (parts_bodies qs)) qs (opening_of g) z x.0 (parts_law n ds i d q in_double g qs (34 ∷ z) ls h D x.1 f cov (double_closes z))
  part_back n ds i d q c g ps tilde t ls h D e r f cov s = absurd (false≢true e)
  part_back n ds i d q c g ps (param p o) t ls h D e r f cov s =
      let z = parts_on c (behind_opening (op_opens o) (opening_of g)) ps t in
      expansion_step (known_in n ds) c d q g (after (op_opens o) g (part_bodies (param p o))) i (opening_of g) ps (param p o) z refl e
      (param_back n ds i d q c g ps p o z ls h D e f cov (λ y. name_ends i d c (behind_opening (op_opens o) (opening_of g)) ps t r y s))
  part_back n ds i d q c g ps (listing x) t ls h D e r f cov s =
      let y = both (nat_lt d limit) (list_fits i (suc d) x) e in
      let z = parts_on c blank ps t in
      let l = opened (known_in n ds) (suc d) q g (list_text true x ++ 41 ∷ z) (list_no_line i (suc d) x (41 ∷ z) y.1 f (close_end z).no_line) in
      expansion_step (known_in n ds) c d q g (after true g (list_bodies x)) i (opening_of g) ps (listing x) z refl e
      (listing_step (known_in n ds) c d q g x z y.0 l (ls (suc d) q (named g) l.ahead (41 ∷ z) (omega arith) (deeper d y.0) y.1 f (covers_settled (known_in n ds) g (list_bodies x) cov) (close_end z) l.same))
  part_back n ds i d q c g ps (sum x ws) t ls h D e r f cov s =
      let y = both (nat_lt d limit) (sum_fits (operand_checks i ws) (suc d) x) e in
      let z = parts_on c (behind_opening (words_open ws) (opening_of g)) ps t in
      expansion_step (known_in n ds) c d q g (after (words_open ws) g (words_bodies ws)) i (opening_of g) ps (sum x ws) z refl e
      (sum_back (known_in n ds) n i c d q g (continued ps) x ws z h y.0 y.1 (operands_law n ds i ws ls f) cov)

  pub parts_law : (n : ℕ) (ds : List Text) (i : Bool) (d : ℕ) (q : List Sum) (c : Context) (g : Due) (ps : shape.Parts) (t : Text) → PartsLists n ds i ps → limit ≤ n + d → d ≤ limit → parts_fit i d c ps ≡ true → parts_free ps ≡ true → Covers (known_in n ds) g (parts_bodies ps) → Closes c t →
      Parts (known_in n ds) c d q g (after (parts_open ps) g (parts_bodies ps)) (parts_on c (opening_of g) ps t) t (part_nodes ps)
  parts_law n ds i d q c g no_part t ls h D e f cov s = no_parts (known_in n ds) c d q g t s
  parts_law n ds i d q c g (part p ps) t ls h D e f cov s =
      let x = both (part_fits i d c ps p) (parts_fit i d c ps) e in
      let y = both (part_free p) (parts_free ps) f in
      parts_step (known_in n ds) c d q g i p ps t x.0 x.1 s
      (part_back n ds i d q c g ps p t ls.0 h D x.0 x.1 y.0 (covers_first (known_in n ds) g (part_bodies p) (parts_bodies ps) cov) s)
      (parts_law n ds i d q c (after (part_opens p) g (part_bodies p)) ps t ls.1 h D x.1 y.1 (covers_after (known_in n ds) (part_opens p) g (part_bodies p) (parts_bodies ps) (part_closed p) cov) s)

  -- an operand of an arithmetic expansion
  pub operand_law : (n : ℕ) (ds : List Text) (i : Bool) (w : shape.Parts) → PartsLists n ds i w → parts_free w ≡ true → Operand (known_in n ds) n i w
  operand_law n ds i no_part ls f d q g t h D e x cov = absurd (false≢true e)
  operand_law n ds i (part (param p o) no_part) ls f d q g t h D e x cov =
      let y = (both (part_free (param p o)) true f).0 in
      operand_wrap (known_in n ds) d q g (param p o) t (param_back n ds i d q in_double g no_part p o t ls.0 h D e y (covers_alone (known_in n ds) g (param p o) cov) (λ z. x))
  operand_law n ds i (part (listing s) no_part) ls f d q g t h D e x cov =
      let u = (both (part_free (listing s)) true f).0 in
      let y = both (nat_lt d limit) (list_fits i (suc d) s) e in
      let l = opened (known_in n ds) (suc d) q g (list_text true s ++ 41 ∷ t) (list_no_line i (suc d) s (41 ∷ t) y.1 u (close_end t).no_line) in
      operand_wrap (known_in n ds) d q g (listing s) t
      (listing_step (known_in n ds) in_double d q g s t y.0 l (ls.0 (suc d) q (named g) l.ahead (41 ∷ t) (omega arith) (deeper d y.0) y.1 u (covers_settled (known_in n ds) g (list_bodies s) (covers_alone (known_in n ds) g (listing s) cov)) (close_end t) l.same))
  operand_law n ds i (part (sum a ws) no_part) ls f d q g t h D e x cov =
      let u = (both (part_free (sum a ws)) true f).0 in
      let y = both (nat_lt d limit) (sum_fits (operand_checks i ws) (suc d) a) e in
      operand_wrap (known_in n ds) d q g (sum a ws) t (sum_back (known_in n ds) n i in_double d q g false a ws t h y.0 y.1 (operands_law n ds i ws ls.0 u) (covers_alone (known_in n ds) g (sum a ws) cov))
  operand_law n ds i (part (plain text) ps) ls f d q g t h D e x cov = absurd (false≢true e)
  operand_law n ds i (part (exact text) ps) ls f d q g t h D e x cov = absurd (false≢true e)
  operand_law n ds i (part (double qs) ps) ls f d q g t h D e x cov = absurd (false≢true e)
  operand_law n ds i (part tilde ps) ls f d q g t h D e x cov = absurd (false≢true e)
  operand_law n ds i (part (param p o) (part r rs)) ls f d q g t h D e x cov = absurd (false≢true e)
  operand_law n ds i (part (listing s) (part r rs)) ls f d q g t h D e x cov = absurd (false≢true e)
  operand_law n ds i (part (sum a ws) (part r rs)) ls f d q g t h D e x cov = absurd (false≢true e)

  pub operands_law : (n : ℕ) (ds : List Text) (i : Bool) (ws : shape.Words) → WordsLists n ds i ws → words_free ws ≡ true → Operands (known_in n ds) n i ws
  operands_law n ds i no_word ls f = tt
  operands_law n ds i (word w ws) ls f = let y = both (parts_free w) (words_free ws) f in (operand_law n ds i w ls.0 y.0, operands_law n ds i ws ls.1 y.1)

-- the parts of a word or a value
pub word_law : (n : ℕ) (ds : List Text) (i : Bool) (d : ℕ) (q : List Sum) (g : Due) (spaced : Bool) (w : shape.Parts) (t : Text) → PartsLists n ds i w → limit ≤ n + d → d ≤ limit → word_fits i d spaced w ≡ true → parts_free w ≡ true → Covers (known_in n ds) g (parts_bodies w) → Outside t → WordTo (known_in n ds) d q g w t
word_law n ds i d q g spaced no_part t ls h D e f cov o = absurd (false≢true e)
word_law n ds i d q g spaced (part tilde ps) t ls h D e f cov o =
    let x = both (behind_tilde ps) (parts_fit i d in_word ps) e in
    tilde_step (known_in n ds) d q g i ps t x.0 x.1 o (parts_law n ds i d q in_word g ps t ls.1 h D x.1 f cov (word_closes t o))
word_law n ds i d q g spaced (part (plain text) ps) t ls h D e f cov o =
    let x = four (not (spaced && begins_with 35 text)) (not (reads_tilde text ps)) (plain_fits in_word ps text) (parts_fit i d in_word ps) e in
    word_step (known_in n ds) d q g (plain text) ps t (plain_no_tilde i d (opening_of g) text ps t (isnt (reads_tilde text ps) x.1) x.2 x.3 o) (plain_step (known_in n ds) in_word d q g i text ps (opening_of g) t x.2 x.3 (word_closes t o)) (parts_law n ds i d q in_word g ps t ls.1 h D x.3 f cov (word_closes t o))
word_law n ds i d q g spaced (part p ps) t ls h D e f cov o =
    let x = both (part_fits i d in_word ps p) (parts_fit i d in_word ps) e in
    let y = both (part_free p) (parts_free ps) f in
    let m = after (part_opens p) g (part_bodies p) in
    word_step (known_in n ds) d q g p ps t (marked_tilde i d (opening_of g) p ps (parts_on in_word (behind_opening (part_opens p) (opening_of g)) ps t) refl x.0)
    (part_back n ds i d q in_word g ps p t ls.0 h D x.0 x.1 y.0 (covers_first (known_in n ds) g (part_bodies p) (parts_bodies ps) cov) (word_closes t o))
    (parts_law n ds i d q in_word m ps t ls.1 h D x.1 y.1 (covers_after (known_in n ds) (part_opens p) g (part_bodies p) (parts_bodies ps) (part_closed p) cov) (word_closes t o))

-- words one behind the other, in front of what ends them
pub words_law : (n : ℕ) (ds : List Text) (i : Bool) (d : ℕ) (q : List Sum) (f : List Text) (ws : shape.Words) (t : Text) (e : State) (ys : List Node) (p : Test) (r : Rule) → Wording p r → WordsLists n ds i ws → limit ≤ n + d → d ≤ limit → words_fit i d ws ≡ true → words_free ws ≡ true → Covers (known_in n ds) (clean f) (words_bodies ws) → Outside t →
    Says (known_in n ds) (star p (rule r)) (st d q (clean (f ++ words_bodies ws)) t) e ys → Says (known_in n ds) (star p (rule r)) (st d q (clean f) (words_text true true ws ++ t)) e (word_nodes ws ++ ys)
words_law n ds i d q f no_word t e ys p r W ls h D x y cov o a = at_state (ap (λ (z : List Text). st d q (clean z) t) (append-nil f)) a
words_law n ds i d q f (word w ws) t e ys p r W ls h D x y cov o a =
    let u = both (word_fits i d true w) (words_fit i d ws) x in
    let v = both (parts_free w) (words_free ws) y in
    let z = words_text true true ws ++ t in
    let oz = words_outside ws t o in
    let front = word_begins i d blank w z u.0 oz in
    words_step (known_in n ds) d q f (f ++ parts_bodies w) w ws t e ys p r W front
    (λ bytes g. to_state (ap (λ (b : Due). st d q b z) (after_clean (parts_open w) f (parts_bodies w) (parts_closed w))) (word_node_of (known_in n ds) d q (clean f) bytes w z g front (word_law n ds i d q (clean f) true w z ls.0 h D u.0 v.0 (covers_first (known_in n ds) (clean f) (parts_bodies w) (words_bodies ws) cov) oz)))
    (words_law n ds i d q (f ++ parts_bodies w) ws t e ys p r W ls.1 h D u.1 v.1 (covers_on (known_in n ds) f (parts_bodies w) (words_bodies ws) cov) o
    (at_state (ap (λ (b : List Text). st d q (clean b) t) (sym (append_assoc f (parts_bodies w) (words_bodies ws)))) a))

-- an assignment
pub assign_law : (n : ℕ) (ds : List Text) (i : Bool) (d : ℕ) (q : List Sum) (f : List Text) (name : Text) (v : shape.Value) (bytes t : Text) → ValueLists n ds i v → limit ≤ n + d → d ≤ limit → is_name name ≡ true → value_fits i d v ≡ true → value_free v ≡ true → Covers (known_in n ds) (clean f) (value_bodies v) → Outside t →
    gap bytes ≡ name ++ 61 ∷ (value_text true v ++ t) → Says (known_in n ds) (rule table.assign) (st d q (clean f) bytes) (st d q (clean (f ++ value_bodies v)) t) (assign_node name v ∷ [])
assign_law n ds i d q f name no_value bytes t ls h D m e r cov o g =
    to_state (ap (λ (z : List Text). st d q (clean z) t) (sym (append-nil f))) (Rattle.sh_printing.proofs.BackSimple.assign_none (known_in n ds) d q (clean f) bytes name t m g o)
assign_law n ds i d q f name (value w) bytes t ls h D m e r cov o g =
    let x = word_first i d false blank w t e in
    to_state (ap (λ (b : Due). st d q b t) (after_clean (parts_open w) f (parts_bodies w) (parts_closed w)))
    (Rattle.sh_printing.proofs.BackSimple.assign_value (known_in n ds) d q (clean f) (after (parts_open w) (clean f) (parts_bodies w)) bytes name (parts_on in_word blank w t) t w m g x.free x.unit
    (value_node_of (known_in n ds) d q (clean f) w t (word_law n ds i d q (clean f) false w t ls h D e r cov o)))

pub assigns_law : (n : ℕ) (ds : List Text) (i : Bool) (d : ℕ) (q : List Sum) (f : List Text) (vs : shape.Assigns) (t : Text) (e : State) (ys : List Node) → AssignsLists n ds i vs → limit ≤ n + d → d ≤ limit → assigns_fit i d vs ≡ true → assigns_free vs ≡ true → Covers (known_in n ds) (clean f) (assigns_bodies vs) → Outside t →
    Says (known_in n ds) (star prefix_begins (rule prefix_item)) (st d q (clean (f ++ assigns_bodies vs)) t) e ys → Says (known_in n ds) (star prefix_begins (rule prefix_item)) (st d q (clean f) (assigns_text true true vs ++ t)) e (assign_nodes vs ++ ys)
assigns_law n ds i d q f no_assign t e ys ls h D x y cov o a = at_state (ap (λ (z : List Text). st d q (clean z) t) (append-nil f)) a
assigns_law n ds i d q f (assign name v vs) t e ys ls h D x y cov o a =
    let u = three (is_name name) (value_fits i d v) (assigns_fit i d vs) x in
    let w = both (value_free v) (assigns_free vs) y in
    let z = assigns_text true true vs ++ t in
    assigns_step (known_in n ds) d q f (f ++ value_bodies v) name v vs t e ys u.0
    (λ bytes g. assign_law n ds i d q f name v bytes z ls.0 h D u.0 u.1 w.0 (covers_first (known_in n ds) (clean f) (value_bodies v) (assigns_bodies vs) cov) (assigns_outside vs t o) g)
    (assigns_law n ds i d q (f ++ value_bodies v) vs t e ys ls.1 h D u.2 w.1 (covers_on (known_in n ds) f (value_bodies v) (assigns_bodies vs) cov) o
    (at_state (ap (λ (b : List Text). st d q (clean b) t) (sym (append_assoc f (value_bodies v) (assigns_bodies vs)))) a))

-- a pattern
pub pattern_law : (n : ℕ) (ds : List Text) (i : Bool) (d : ℕ) (q : List Sum) (f : List Text) (w : shape.Parts) (bytes t : Text) → PartsLists n ds i w → limit ≤ n + d → d ≤ limit → has_part w ≡ true → plain_begins 35 w ≡ false → parts_fit i d in_word w ≡ true → parts_free w ≡ true → Covers (known_in n ds) (clean f) (parts_bodies w) → Outside t → gap bytes ≡ gap (parts_on in_word blank w t) →
    Says (known_in n ds) (rule table.pattern) (st d q (clean f) bytes) (st d q (clean (f ++ parts_bodies w)) t) (word_node w ∷ [])
pattern_law n ds i d q f no_part bytes t ls h D m c e r cov o g = absurd (false≢true m)
pattern_law n ds i d q f (part p ps) bytes t ls h D m c e r cov o g =
    let x = both (part_fits i d in_word ps p) (parts_fit i d in_word ps) e in
    let y = both (part_free p) (parts_free ps) r in
    pattern_step (known_in n ds) d q f p ps bytes t (g ∙ (Rattle.sh_printing.proofs.BackWordFronts.pattern_begins i d blank (part p ps) t m c e o).solid) (Rattle.sh_printing.proofs.BackWordFronts.pattern_begins i d blank (part p ps) t m c e o)
    (part_back n ds i d q in_word (clean f) ps p t ls.0 h D x.0 x.1 y.0 (covers_first (known_in n ds) (clean f) (part_bodies p) (parts_bodies ps) cov) (word_closes t o))
    (parts_law n ds i d q in_word (after (part_opens p) (clean f) (part_bodies p)) ps t ls.1 h D x.1 y.1 (covers_after (known_in n ds) (part_opens p) (clean f) (part_bodies p) (parts_bodies ps) (part_closed p) cov) (word_closes t o))

pub patterns_law : (n : ℕ) (ds : List Text) (i : Bool) (d : ℕ) (q : List Sum) (f : List Text) (ws : shape.Words) (t : Text) → WordsLists n ds i ws → limit ≤ n + d → d ≤ limit → patterns_fit i d ws ≡ true → words_free ws ≡ true → Covers (known_in n ds) (clean f) (words_bodies ws) →
    PatternsTo (known_in n ds) d q f (f ++ words_bodies ws) (patterns_text true (codes " | ") ws ++ 41 ∷ t) t ws
patterns_law n ds i d q f no_word t ls h D e r cov = to_state (ap (λ (z : List Text). st d q (clean z) (41 ∷ t)) (sym (append-nil f))) (no_patterns (known_in n ds) d q f t)
patterns_law n ds i d q f (word w ws) t ls h D e r cov =
    let k = known_in n ds in
    let x = four (has_part w) (not (plain_begins 35 w)) (parts_fit i d in_word w) (patterns_fit i d ws) e in
    let y = both (parts_free w) (words_free ws) r in
    let z = patterns_text true (codes " | ") ws ++ 41 ∷ t in
    let v = parts_on in_word blank w z in
    at_state (ap (st d q (clean f)) (sym (append_assoc (codes " | " ++ parts_text true in_word blank w) (patterns_text true (codes " | ") ws) (41 ∷ t))))
    (to_state (ap (λ (b : List Text). st d q (clean b) (41 ∷ t)) (append_assoc f (parts_bodies w) (words_bodies ws)))
    (one_pattern k d q f (f ++ parts_bodies w) ((f ++ parts_bodies w) ++ words_bodies ws) v z t w ws
    (pattern_law n ds i d q f w (32 ∷ v) z ls.0 h D x.0 (isnt (plain_begins 35 w) x.1) x.2 y.0 (covers_first k (clean f) (parts_bodies w) (words_bodies ws) cov) (patterns_outside ws t) (gap_blank v))
    (patterns_law n ds i d q (f ++ parts_bodies w) ws t ls.1 h D x.3 y.1 (covers_on k f (parts_bodies w) (words_bodies ws) cov))))
