-- What fits so deep fits less deep.
use Rattle.std.proofs.Common.{◌≡◌, ℕ, zero, suc, Bool, true, false, Option, Some, None, List, length, refl, ap, eqb-true, eq-eqb}
use Rattle.std.specs.Prelude.{◌||◌, ◌&&◌, not, nat_lt}
use Rattle.std.proofs.lemmas.Bool.{false≢true}
use Rattle.span_text.specs.Names.{is_name}
use Rattle.span_text.specs.declared.expr.Expr.{Expr}
use Rattle.sh_grammar.specs.Shape as shape
use Rattle.sh_grammar.specs.Shape.{plain, exact, double, tilde, param, subst as listing, arith, no_part, part, as_is, length_of, fill, trim, no_word, word, no_value, value, no_assign, assign, no_redirect, redirect, command, simple, group, subshell, branching, loop, walk, cases, function, no_branch, branch, no_else, otherwise, parameters, listed, no_item, item, no_stage, stage, pipeline, no_link, and_link, or_link, chain, no_chain, next_chain}
use Rattle.sh_grammar.specs.Bytes.{Context, in_word, in_double, in_body, has_double, fill_context, trim_context}
use Rattle.sh_grammar.specs.Steps.{limit}
use Rattle.sh_printing.specs.Printing.{continued, has_assign, has_word}
use Rattle.sh_printing.specs.Spellable.{is_digits, is_long, bare_fits, param_fits, placed, is_number, nth_check, sum_fits, begins_with, is_reserved_text}
use Rattle.sh_printing.specs.Printable.{has_part, has_redirect, has_chain, has_stage, has_branch, has_compound, is_expansion, is_length, changes_mark, behind_tilde, reads_tilde, plain_fits, plain_begins, fd_fits, is_copied_word, literal_body, ends_line, name_fits, part_fits, parts_fit, operand_fits, operand_checks, word_fits, words_fit, patterns_fit, value_fits, assigns_fit, redirects_fit, command_fits, kind_fits, branches_fit, otherwise_fits, for_words_fit, items_fit, stages_fit, pipeline_fits, links_fit, chain_fits, list_fits}
use Rattle.sh_printing.proofs.BackBytes.{both, three, four, five}
use Rattle.sh_printing.proofs.ExactForms.{Rises, falls, less}

or_less : (a : Bool) (d : ℕ) → (a || nat_lt (suc d) limit) ≡ true → (a || nat_lt d limit) ≡ true
or_less true d e = refl
or_less false d e = less d e

bare_down : (d : ℕ) (more : Bool) (p : shape.Param) → bare_fits (suc d) more p ≡ true → bare_fits d more p ≡ true
bare_down d more (shape.named n) e = let x = both (is_name n) (not more || nat_lt (suc d) limit) e in rw (x.0, or_less (not more) d x.1) refl
bare_down d more (shape.digits t) e = let x = both (is_digits t) (not (is_long t) || nat_lt (suc d) limit) e in rw (x.0, or_less (not (is_long t)) d x.1) refl
bare_down d more shape.count e = refl
bare_down d more shape.status e = refl
bare_down d more shape.at e = refl
bare_down d more shape.star e = refl

number_is : (n : ℕ) (o : Option ℕ) → is_number n o ≡ true → o ≡ Some n
number_is n None e = absurd (false≢true e)
number_is n (Some m) e = ap Some (eqb-true m n e)

sum_down : (checks : List (ℕ → Bool)) (d : ℕ) (e : Expr) → Rises (nth_check checks) → sum_fits checks (suc d) e ≡ true → sum_fits checks d e ≡ true
sum_down checks d e r h =
    let f = (falls (nth_check checks) r e).down 0 d 0 (length checks) (number_is (length checks) ((placed (nth_check checks) e).fits 0 (suc d) 0) h) in
    rw f (eq-eqb (length checks) (length checks) refl)

mutual
  part_down : (i : Bool) (d : ℕ) (c : Context) (b : shape.Parts) (p : shape.Part) → part_fits i (suc d) c b p ≡ true → part_fits i d c b p ≡ true
  part_down i d c b (plain t) e = e
  part_down i d c b (exact t) e = e
  part_down i d c b (double ps) e = let x = both (has_double c) (parts_fit i (suc d) in_double ps) e in rw (x.0, parts_down i d in_double ps x.1) refl
  part_down i d c b tilde e = absurd (false≢true e)
  part_down i d c b (param p as_is) e = bare_down d (continued b) p e
  part_down i d c b (param p length_of) e = let x = both (nat_lt (suc d) limit) (param_fits p) e in rw (less d x.0, x.1) refl
  part_down i d c b (param p (fill t colon w)) e =
      let x = four (nat_lt (suc d) limit) (param_fits p) (not (is_length p t colon w)) (parts_fit i (suc (suc d)) (fill_context c) w) e in rw (less d x.0, x.1, x.2, parts_down i (suc d) (fill_context c) w x.3) refl
  part_down i d c b (param p (trim s l w)) e =
      let x = four (nat_lt (suc d) limit) (param_fits p) (not (changes_mark p s l w)) (parts_fit i (suc (suc d)) (trim_context c) w) e in rw (less d x.0, x.1, x.2, parts_down i (suc d) (trim_context c) w x.3) refl
  part_down i d c b (listing s) e = let x = both (nat_lt (suc d) limit) (list_fits i (suc (suc d)) s) e in rw (less d x.0, list_down i (suc d) s x.1) refl
  part_down i d c b (arith a ws) e =
      let x = both (nat_lt (suc d) limit) (sum_fits (operand_checks i ws) (suc (suc d)) a) e in rw (less d x.0, sum_down (operand_checks i ws) (suc d) a (rises i ws) x.1) refl

  parts_down : (i : Bool) (d : ℕ) (c : Context) (ps : shape.Parts) → parts_fit i (suc d) c ps ≡ true → parts_fit i d c ps ≡ true
  parts_down i d c no_part e = refl
  parts_down i d c (part p ps) e = let x = both (part_fits i (suc d) c ps p) (parts_fit i (suc d) c ps) e in rw (part_down i d c ps p x.0, parts_down i d c ps x.1) refl

  operand_down : (i : Bool) (d : ℕ) (w : shape.Parts) → operand_fits i (suc d) w ≡ true → operand_fits i d w ≡ true
  operand_down i d no_part e = e
  operand_down i d (part p ps) e = let x = three (is_expansion p) (not (has_part ps)) (part_fits i (suc d) in_double ps p) e in rw (x.0, x.1, part_down i d in_double ps p x.2) refl

  pub rises : (i : Bool) (ws : shape.Words) → Rises (nth_check (operand_checks i ws))
  rises i no_word m d e = absurd (false≢true e)
  rises i (word w ws) zero d e = operand_down i d w e
  rises i (word w ws) (suc m) d e = rises i ws m d e

  word_down : (i : Bool) (d : ℕ) (s : Bool) (w : shape.Parts) → word_fits i (suc d) s w ≡ true → word_fits i d s w ≡ true
  word_down i d s no_part e = absurd (false≢true e)
  word_down i d s (part tilde ps) e = let x = both (behind_tilde ps) (parts_fit i (suc d) in_word ps) e in rw (x.0, parts_down i d in_word ps x.1) refl
  word_down i d s (part (plain t) ps) e =
      let x = four (not (s && begins_with 35 t)) (not (reads_tilde t ps)) (plain_fits in_word ps t) (parts_fit i (suc d) in_word ps) e in rw (x.0, x.1, x.2, parts_down i d in_word ps x.3) refl
  word_down i d s (part (exact t) ps) e = let x = both (part_fits i (suc d) in_word ps (exact t)) (parts_fit i (suc d) in_word ps) e in rw (part_down i d in_word ps (exact t) x.0, parts_down i d in_word ps x.1) refl
  word_down i d s (part (double qs) ps) e = let x = both (part_fits i (suc d) in_word ps (double qs)) (parts_fit i (suc d) in_word ps) e in rw (part_down i d in_word ps (double qs) x.0, parts_down i d in_word ps x.1) refl
  word_down i d s (part (param p o) ps) e = let x = both (part_fits i (suc d) in_word ps (param p o)) (parts_fit i (suc d) in_word ps) e in rw (part_down i d in_word ps (param p o) x.0, parts_down i d in_word ps x.1) refl
  word_down i d s (part (listing l) ps) e = let x = both (part_fits i (suc d) in_word ps (listing l)) (parts_fit i (suc d) in_word ps) e in rw (part_down i d in_word ps (listing l) x.0, parts_down i d in_word ps x.1) refl
  word_down i d s (part (arith a ws) ps) e = let x = both (part_fits i (suc d) in_word ps (arith a ws)) (parts_fit i (suc d) in_word ps) e in rw (part_down i d in_word ps (arith a ws) x.0, parts_down i d in_word ps x.1) refl

  words_down : (i : Bool) (d : ℕ) (ws : shape.Words) → words_fit i (suc d) ws ≡ true → words_fit i d ws ≡ true
  words_down i d no_word e = refl
  words_down i d (word w ws) e = let x = both (word_fits i (suc d) true w) (words_fit i (suc d) ws) e in rw (word_down i d true w x.0, words_down i d ws x.1) refl

  patterns_down : (i : Bool) (d : ℕ) (ws : shape.Words) → patterns_fit i (suc d) ws ≡ true → patterns_fit i d ws ≡ true
  patterns_down i d no_word e = refl
  patterns_down i d (word w ws) e = let x = four (has_part w) (not (plain_begins 35 w)) (parts_fit i (suc d) in_word w) (patterns_fit i (suc d) ws) e in rw (x.0, x.1, parts_down i d in_word w x.2, patterns_down i d ws x.3) refl

  value_down : (i : Bool) (d : ℕ) (v : shape.Value) → value_fits i (suc d) v ≡ true → value_fits i d v ≡ true
  value_down i d no_value e = refl
  value_down i d (value w) e = word_down i d false w e

  assigns_down : (i : Bool) (d : ℕ) (as' : shape.Assigns) → assigns_fit i (suc d) as' ≡ true → assigns_fit i d as' ≡ true
  assigns_down i d no_assign e = refl
  assigns_down i d (assign n v more) e = let x = three (is_name n) (value_fits i (suc d) v) (assigns_fit i (suc d) more) e in rw (x.0, value_down i d v x.1, assigns_down i d more x.2) refl

  redirects_down : (i : Bool) (d : ℕ) (rs : shape.Redirects) → redirects_fit i (suc d) rs ≡ true → redirects_fit i d rs ≡ true
  redirects_down i d no_redirect e = refl
  redirects_down i d (redirect fd shape.read w rs) e = let x = three (fd_fits fd) (word_fits i (suc d) true w) (redirects_fit i (suc d) rs) e in rw (x.0, word_down i d true w x.1, redirects_down i d rs x.2) refl
  redirects_down i d (redirect fd shape.write w rs) e = let x = three (fd_fits fd) (word_fits i (suc d) true w) (redirects_fit i (suc d) rs) e in rw (x.0, word_down i d true w x.1, redirects_down i d rs x.2) refl
  redirects_down i d (redirect fd shape.append w rs) e = let x = three (fd_fits fd) (word_fits i (suc d) true w) (redirects_fit i (suc d) rs) e in rw (x.0, word_down i d true w x.1, redirects_down i d rs x.2) refl
  redirects_down i d (redirect fd shape.here_literal w rs) e = let x = three (fd_fits fd) (literal_body i w) (redirects_fit i (suc d) rs) e in rw (x.0, x.1, redirects_down i d rs x.2) refl
  redirects_down i d (redirect fd shape.here_expanded w rs) e =
      let x = three (fd_fits fd) (ends_line w && parts_fit true (suc d) in_body w) (redirects_fit i (suc d) rs) e in
      let y = both (ends_line w) (parts_fit true (suc d) in_body w) x.1 in rw (x.0, y.0, parts_down true d in_body w y.1, redirects_down i d rs x.2) refl
  redirects_down i d (redirect fd shape.copy_in w rs) e = let x = three (fd_fits fd) (is_copied_word w) (redirects_fit i (suc d) rs) e in rw (x.0, x.1, redirects_down i d rs x.2) refl
  redirects_down i d (redirect fd shape.copy_out w rs) e = let x = three (fd_fits fd) (is_copied_word w) (redirects_fit i (suc d) rs) e in rw (x.0, x.1, redirects_down i d rs x.2) refl

  command_down : (i : Bool) (d : ℕ) (c : shape.Command) → command_fits i (suc d) c ≡ true → command_fits i d c ≡ true
  command_down i d (command k rs) e = let x = both (kind_fits i (suc d) (has_redirect rs) k) (redirects_fit i (suc d) rs) e in rw (kind_down i d (has_redirect rs) k x.0, redirects_down i d rs x.1) refl

  kind_down : (i : Bool) (d : ℕ) (r : Bool) (k : shape.Kind) → kind_fits i (suc d) r k ≡ true → kind_fits i d r k ≡ true
  kind_down i d r (simple as' ws) e =
      let x = four (has_assign as' || has_word ws || r) (assigns_fit i (suc d) as') (words_fit i (suc d) ws) (name_fits (has_assign as' || r) ws) e in rw (x.0, assigns_down i d as' x.1, words_down i d ws x.2, x.3) refl
  kind_down i d r (group s) e = let x = three (nat_lt (suc d) limit) (has_chain s) (list_fits i (suc (suc d)) s) e in rw (less d x.0, x.1, list_down i (suc d) s x.2) refl
  kind_down i d r (subshell s) e = let x = three (nat_lt (suc d) limit) (has_chain s) (list_fits i (suc (suc d)) s) e in rw (less d x.0, x.1, list_down i (suc d) s x.2) refl
  kind_down i d r (branching bs o) e =
      let x = four (nat_lt (suc d) limit) (has_branch bs) (branches_fit i (suc (suc d)) bs) (otherwise_fits i (suc (suc d)) o) e in rw (less d x.0, x.1, branches_down i (suc d) bs x.2, otherwise_down i (suc d) o x.3) refl
  kind_down i d r (loop until t b) e =
      let x = five (nat_lt (suc d) limit) (has_chain t) (list_fits i (suc (suc d)) t) (has_chain b) (list_fits i (suc (suc d)) b) e in rw (less d x.0, x.1, list_down i (suc d) t x.2, x.3, list_down i (suc d) b x.4) refl
  kind_down i d r (walk n ws b) e =
      let x = five (nat_lt (suc d) limit) (is_name n) (for_words_fit i (suc (suc d)) ws) (has_chain b) (list_fits i (suc (suc d)) b) e in rw (less d x.0, x.1, for_words_down i (suc d) ws x.2, x.3, list_down i (suc d) b x.4) refl
  kind_down i d r (cases w is) e =
      let x = three (nat_lt (suc d) limit) (word_fits i (suc (suc d)) true w) (items_fit i (suc (suc d)) is) e in rw (less d x.0, word_down i (suc d) true w x.1, items_down i (suc d) is x.2) refl
  kind_down i d r (function n c) e =
      let x = five (not r) (is_name n) (not (is_reserved_text n)) (has_compound c) (command_fits i (suc d) c) e in rw (x.0, x.1, x.2, x.3, command_down i d c x.4) refl

  branches_down : (i : Bool) (d : ℕ) (bs : shape.Branches) → branches_fit i (suc d) bs ≡ true → branches_fit i d bs ≡ true
  branches_down i d no_branch e = refl
  branches_down i d (branch t b bs) e =
      let x = five (has_chain t) (list_fits i (suc d) t) (has_chain b) (list_fits i (suc d) b) (branches_fit i (suc d) bs) e in rw (x.0, list_down i d t x.1, x.2, list_down i d b x.3, branches_down i d bs x.4) refl

  otherwise_down : (i : Bool) (d : ℕ) (o : shape.Otherwise) → otherwise_fits i (suc d) o ≡ true → otherwise_fits i d o ≡ true
  otherwise_down i d no_else e = refl
  otherwise_down i d (otherwise s) e = let x = both (has_chain s) (list_fits i (suc d) s) e in rw (x.0, list_down i d s x.1) refl

  for_words_down : (i : Bool) (d : ℕ) (ws : shape.ForWords) → for_words_fit i (suc d) ws ≡ true → for_words_fit i d ws ≡ true
  for_words_down i d parameters e = refl
  for_words_down i d (listed ws) e = words_down i d ws e

  items_down : (i : Bool) (d : ℕ) (is : shape.Items) → items_fit i (suc d) is ≡ true → items_fit i d is ≡ true
  items_down i d no_item e = refl
  items_down i d (item ps b more) e =
      let x = four (has_word ps) (patterns_fit i (suc d) ps) (list_fits i (suc d) b) (items_fit i (suc d) more) e in rw (x.0, patterns_down i d ps x.1, list_down i d b x.2, items_down i d more x.3) refl

  stages_down : (i : Bool) (d : ℕ) (cs : shape.Stages) → Rattle.sh_printing.specs.Printable.stages_fit i (suc d) cs ≡ true → stages_fit i d cs ≡ true
  stages_down i d no_stage e = refl
  stages_down i d (stage c cs) e = let x = both (command_fits i (suc d) c) (stages_fit i (suc d) cs) e in rw (command_down i d c x.0, stages_down i d cs x.1) refl

  pipeline_down : (i : Bool) (d : ℕ) (p : shape.Pipeline) → pipeline_fits i (suc d) p ≡ true → pipeline_fits i d p ≡ true
  pipeline_down i d (pipeline n ss) e = let x = both (has_stage ss) (stages_fit i (suc d) ss) e in rw (x.0, stages_down i d ss x.1) refl

  links_down : (i : Bool) (d : ℕ) (ls : shape.Links) → links_fit i (suc d) ls ≡ true → links_fit i d ls ≡ true
  links_down i d no_link e = refl
  links_down i d (and_link p ls) e = let x = both (pipeline_fits i (suc d) p) (links_fit i (suc d) ls) e in rw (pipeline_down i d p x.0, links_down i d ls x.1) refl
  links_down i d (or_link p ls) e = let x = both (pipeline_fits i (suc d) p) (links_fit i (suc d) ls) e in rw (pipeline_down i d p x.0, links_down i d ls x.1) refl

  chain_down : (i : Bool) (d : ℕ) (c : shape.Chain) → chain_fits i (suc d) c ≡ true → chain_fits i d c ≡ true
  chain_down i d (chain p ls) e = let x = both (pipeline_fits i (suc d) p) (links_fit i (suc d) ls) e in rw (pipeline_down i d p x.0, links_down i d ls x.1) refl

  list_down : (i : Bool) (d : ℕ) (s : shape.Script) → list_fits i (suc d) s ≡ true → list_fits i d s ≡ true
  list_down i d no_chain e = refl
  list_down i d (next_chain c more) e = let x = both (chain_fits i (suc d) c) (list_fits i (suc d) more) e in rw (chain_down i d c x.0, list_down i d more x.1) refl
