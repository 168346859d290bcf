-- What is printed inside of an expanded body has no join and no NUL.
use Rattle.std.proofs.Common.{◌≡◌, ℕ, zero, suc, Bool, true, false, [], ◌∷◌, ◌++◌, refl}
use Rattle.std.specs.Prelude.{◌||◌, ◌&&◌, not, nat_lt, codes, if◌then◌else◌}
use Rattle.std.specs.List.{list_all}
use Rattle.std.proofs.lemmas.Bool.{false≢true}
use Rattle.span_text.specs.Names.{is_name}
use Rattle.sh_grammar.specs.Shape as shape
use Rattle.sh_grammar.specs.Shape.{plain, exact, double, tilde, param, subst as listing, arith as sum, no_part, part, as_is, length_of, fill, trim, no_word, word, no_value, value, no_assign, assign, no_redirect, redirect, command, simple, group, subshell, branching, loop, walk, cases, function, no_branch, branch, no_else, otherwise, parameters, listed, no_item, item, no_stage, stage, pipeline, no_link, and_link, or_link, chain, no_chain, next_chain}
use Rattle.sh_grammar.specs.Bytes.{Text, Context, in_word, in_double, in_body, has_double, fill_context, trim_context}
use Rattle.sh_grammar.specs.Steps.{limit, is_empty, nth}
use Rattle.sh_printing.specs.Marks.{End, next, ended, blank, gap, behind_word}
use Rattle.sh_printing.specs.Spellable.{is_unjoined, is_literal_text, ends_with, param_fits, nth_check, is_reserved_text, begins_with, sum_fits}
use Rattle.sh_printing.specs.Printing.{part_text, parts_text, operand_texts, words_text, value_text, assigns_text, redirects_text, command_text, kind_text, branches_text, otherwise_text, for_words_text, patterns_text, items_text, stages_text, pipeline_text, links_text, chain_text, list_text, continued, behind_opening, part_opens, parts_open, has_assign, has_word, words_last, last_words_text, last_text, stage_end, link_end, is_something}
use Rattle.sh_printing.specs.Printable
use Rattle.sh_printing.proofs.BackBytes.{both, three, four, five}
use Rattle.sh_printing.proofs.BackNamed.{body_of}
use Rattle.sh_printing.proofs.BackKeptTexts.{Kept, mark, ◌before◌, bytes_of, unjoined_of, name_kept, delimiter_kept, literal_kept, exact_kept, param_kept, bare_kept, colon_kept, test_kept, trim_kept, space, none, gap_kept, ended_kept, led_kept, key_kept, fd_kept, opened, owed_word, whole_kept, literal_body_kept, copied_kept, sum_kept}

-- ---- words that stand behind redirections

either_kept : (p : Bool) (f g : Text → Text) (owed : Text) → Kept (f owed) → Kept (g owed) → Kept ((if p then f else g) owed)
either_kept true f g owed x y = x
either_kept false f g owed x y = y

unless_kept : (p : Bool) (t : Text) → Kept t → Kept (if p then [] else t)
unless_kept true t x = none
unless_kept false t x = x

-- ---- the nodes

mutual
  part_kept : (d : ℕ) (c : Context) (opening : Text) (behind : shape.Parts) (p : shape.Part) → Kept opening → Printable.part_fits true d c behind p ≡ true → Kept (part_text true c opening (continued behind) p)
  part_kept d c opening behind (plain text) o e = record { is = literal_kept c text (four (not (is_empty text)) (is_literal_text c text) (not (Printable.first_is Printable.is_plain_part behind)) (not (ends_with 36 text && Printable.first_is Printable.is_expansion behind)) e).1 }
  part_kept d c opening behind (exact text) o e = exact_kept c text e
  part_kept d c opening behind (double ps) o e = mark (34 ∷ []) refl before parts_kept d in_double opening ps o (both (has_double c) (Printable.parts_fit true d in_double ps) e).1 before mark (34 ∷ []) refl
  part_kept d c opening behind tilde o e = absurd (false≢true e)
  part_kept d c opening behind (param p as_is) o e = bare_kept d (continued behind) p e
  part_kept d c opening behind (param p length_of) o e = mark (codes "${#") refl before param_kept p (both (nat_lt d limit) (param_fits p) e).1 before mark (125 ∷ []) refl
  part_kept d c opening behind (param p (fill t colon w)) o e =
      let x = four (nat_lt d limit) (param_fits p) (not (Printable.is_length p t colon w)) (Printable.parts_fit true (suc d) (fill_context c) w) e in
      mark (codes "${") refl before param_kept p x.1 before colon_kept colon before test_kept t before parts_kept (suc d) (fill_context c) opening w o x.3 before mark (125 ∷ []) refl
  part_kept d c opening behind (param p (trim suffix longest w)) o e =
      let x = four (nat_lt d limit) (param_fits p) (not (Printable.changes_mark p suffix longest w)) (Printable.parts_fit true (suc d) (trim_context c) w) e in
      mark (codes "${") refl before param_kept p x.1 before trim_kept suffix longest before parts_kept (suc d) (trim_context c) opening w o x.3 before mark (125 ∷ []) refl
  part_kept d c opening behind (listing s) o e = mark (codes "$(") refl before o before list_kept (suc d) s (both (nat_lt d limit) (Printable.list_fits true (suc d) s) e).1 before mark (41 ∷ []) refl
  part_kept d c opening behind (sum x ws) o e =
      mark (codes "$((") refl before sum_kept (Printable.operand_checks true ws) (nth (operand_texts true opening ws)) (suc d) x (both (nat_lt d limit) (sum_fits (Printable.operand_checks true ws) (suc d) x) e).1 (λ m d h. operands_kept opening ws m d o h) before mark (codes "))") refl

  parts_kept : (d : ℕ) (c : Context) (opening : Text) (ps : shape.Parts) → Kept opening → Printable.parts_fit true d c ps ≡ true → Kept (parts_text true c opening ps)
  parts_kept d c opening no_part o e = none
  parts_kept d c opening (part p ps) o e =
      let x = both (Printable.part_fits true d c ps p) (Printable.parts_fit true d c ps) e in
      part_kept d c opening ps p o x.0 before parts_kept d c (behind_opening (part_opens p) opening) ps (opened (part_opens p) opening o) x.1

  operand_kept : (d : ℕ) (opening : Text) (w : shape.Parts) → Kept opening → Printable.operand_fits true d w ≡ true → Kept (parts_text true in_double opening w)
  operand_kept d opening no_part o e = absurd (false≢true e)
  operand_kept d opening (part p no_part) o e = part_kept d in_double opening no_part p o (three (Printable.is_expansion p) true (Printable.part_fits true d in_double no_part p) e).2 before none
  operand_kept d opening (part p (part q qs)) o e = absurd (false≢true (three (Printable.is_expansion p) false (Printable.part_fits true d in_double (part q qs) p) e).1)

  operands_kept : (opening : Text) (ws : shape.Words) (m d : ℕ) → Kept opening → nth_check (Printable.operand_checks true ws) m d ≡ true → Kept (nth (operand_texts true opening ws) m)
  operands_kept opening no_word m d o e = absurd (false≢true e)
  operands_kept opening (word w ws) zero d o e = operand_kept d opening w o e
  operands_kept opening (word w ws) (suc m) d o e = operands_kept (behind_opening (parts_open w) opening) ws m d (opened (parts_open w) opening o) e

  word_kept : (d : ℕ) (spaced : Bool) (opening : Text) (w : shape.Parts) → Kept opening → Printable.word_fits true d spaced w ≡ true → Kept (parts_text true in_word opening w)
  word_kept d spaced opening no_part o e = none
  word_kept d spaced opening (part tilde ps) o e = mark (126 ∷ []) refl before parts_kept d in_word opening ps o (both (Printable.behind_tilde ps) (Printable.parts_fit true d in_word ps) e).1
  word_kept d spaced opening (part (plain text) ps) o e =
      let x = four (not (spaced && begins_with 35 text)) (not (Printable.reads_tilde text ps)) (Printable.plain_fits in_word ps text) (Printable.parts_fit true d in_word ps) e in
      part_kept d in_word opening ps (plain text) o x.2 before parts_kept d in_word opening ps o x.3
  word_kept d spaced opening (part (exact text) ps) o e =
      let x = both (Printable.part_fits true d in_word ps (exact text)) (Printable.parts_fit true d in_word ps) e in
      part_kept d in_word opening ps (exact text) o x.0 before parts_kept d in_word opening ps o x.1
  word_kept d spaced opening (part (double qs) ps) o e =
      let x = both (Printable.part_fits true d in_word ps (double qs)) (Printable.parts_fit true d in_word ps) e in
      part_kept d in_word opening ps (double qs) o x.0 before parts_kept d in_word (behind_opening (parts_open qs) opening) ps (opened (parts_open qs) opening o) x.1
  word_kept d spaced opening (part (param p f) ps) o e =
      let x = both (Printable.part_fits true d in_word ps (param p f)) (Printable.parts_fit true d in_word ps) e in
      part_kept d in_word opening ps (param p f) o x.0 before parts_kept d in_word (behind_opening (part_opens (param p f)) opening) ps (opened (part_opens (param p f)) opening o) x.1
  word_kept d spaced opening (part (listing s) ps) o e =
      let x = both (Printable.part_fits true d in_word ps (listing s)) (Printable.parts_fit true d in_word ps) e in
      part_kept d in_word opening ps (listing s) o x.0 before parts_kept d in_word blank ps space x.1
  word_kept d spaced opening (part (sum y ws) ps) o e =
      let x = both (Printable.part_fits true d in_word ps (sum y ws)) (Printable.parts_fit true d in_word ps) e in
      part_kept d in_word opening ps (sum y ws) o x.0 before parts_kept d in_word (behind_opening (part_opens (sum y ws)) opening) ps (opened (part_opens (sum y ws)) opening o) x.1

  words_kept : (d : ℕ) (behind : Bool) (ws : shape.Words) → Printable.words_fit true d ws ≡ true → Kept (words_text true behind ws)
  words_kept d behind no_word e = none
  words_kept d behind (word w ws) e =
      let x = both (Printable.word_fits true d true w) (Printable.words_fit true d ws) e in
      led_kept behind (parts_text true in_word blank w) (word_kept d true blank w space x.0) before words_kept d true ws x.1

  patterns_kept : (d : ℕ) (key : Text) (ws : shape.Words) → Kept key → Printable.patterns_fit true d ws ≡ true → Kept (patterns_text true key ws)
  patterns_kept d key no_word m e = none
  patterns_kept d key (word w ws) m e =
      let x = four (Printable.has_part w) (not (Printable.plain_begins 35 w)) (Printable.parts_fit true d in_word w) (Printable.patterns_fit true d ws) e in
      m before parts_kept d in_word blank w space x.2 before patterns_kept d (codes " | ") ws (mark (codes " | ") refl) x.3

  value_kept : (d : ℕ) (v : shape.Value) → Printable.value_fits true d v ≡ true → Kept (value_text true v)
  value_kept d no_value e = none
  value_kept d (value w) e = word_kept d false blank w space e

  assigns_kept : (d : ℕ) (behind : Bool) (vs : shape.Assigns) → Printable.assigns_fit true d vs ≡ true → Kept (assigns_text true behind vs)
  assigns_kept d behind no_assign e = none
  assigns_kept d behind (assign n v vs) e =
      let x = three (is_name n) (Printable.value_fits true d v) (Printable.assigns_fit true d vs) e in
      led_kept behind (n ++ 61 ∷ value_text true v) (name_kept n x.0 before (mark (61 ∷ []) refl before value_kept d v x.1)) before assigns_kept d true vs x.2

  last_words_kept : (d : ℕ) (end : End) (ws : shape.Words) (owed : Text) → Kept owed → Printable.words_fit true d ws ≡ true → Kept (last_words_text true end ws owed)
  last_words_kept d end no_word owed o e = ended_kept end owed o
  last_words_kept d end (word w ws) owed o e =
      let x = both (Printable.word_fits true d true w) (Printable.words_fit true d ws) e in
      led_kept true (parts_text true in_word (gap owed) w) (word_kept d true (gap owed) w (gap_kept owed o) x.0) before last_words_kept d end ws (behind_word (parts_open w) owed) (owed_word (parts_open w) owed o) x.1

  last_kept : (d : ℕ) (end : End) (redirected : Bool) (k : shape.Kind) → Printable.kind_fits true d redirected k ≡ true → (owed : Text) → Kept owed → Kept (last_text true end k owed)
  last_kept d end r (simple vs ws) e owed o =
      let x = four (has_assign vs || has_word ws || r) (Printable.assigns_fit true d vs) (Printable.words_fit true d ws) (Printable.name_fits (has_assign vs || r) ws) e in
      either_kept (words_last vs ws) (last_words_text true end ws) (ended end) owed (last_words_kept d end ws owed o x.2) (ended_kept end owed o)
  last_kept d end r (group s) e owed o = ended_kept end owed o
  last_kept d end r (subshell s) e owed o = ended_kept end owed o
  last_kept d end r (branching bs f) e owed o = ended_kept end owed o
  last_kept d end r (loop until a b) e owed o = ended_kept end owed o
  last_kept d end r (walk n ws b) e owed o = ended_kept end owed o
  last_kept d end r (cases w is) e owed o = ended_kept end owed o
  last_kept d end r (function n c) e owed o = ended_kept end owed o

  redirects_kept : (d : ℕ) (behind : Bool) (last : Text → Text) (owed : Text) (rs : shape.Redirects) → ((x : Text) → Kept x → Kept (last x)) → Kept owed → Printable.redirects_fit true d rs ≡ true → Kept (redirects_text true behind last owed rs)
  redirects_kept d behind last owed no_redirect l o e = l owed o
  redirects_kept d behind last owed (redirect fd shape.read w rs) l o e =
      let x = three (Printable.fd_fits fd) (Printable.word_fits true d true w) (Printable.redirects_fit true d rs) e in
      led_kept behind _ (fd_kept fd x.0 before (mark (codes "<") refl before word_kept d true (gap owed) w (gap_kept owed o) x.1)) before redirects_kept d true last _ rs l (owed_word (parts_open w) owed o) x.2
  redirects_kept d behind last owed (redirect fd shape.write w rs) l o e =
      let x = three (Printable.fd_fits fd) (Printable.word_fits true d true w) (Printable.redirects_fit true d rs) e in
      led_kept behind _ (fd_kept fd x.0 before (mark (codes ">") refl before word_kept d true (gap owed) w (gap_kept owed o) x.1)) before redirects_kept d true last _ rs l (owed_word (parts_open w) owed o) x.2
  redirects_kept d behind last owed (redirect fd shape.append w rs) l o e =
      let x = three (Printable.fd_fits fd) (Printable.word_fits true d true w) (Printable.redirects_fit true d rs) e in
      led_kept behind _ (fd_kept fd x.0 before (mark (codes ">>") refl before word_kept d true (gap owed) w (gap_kept owed o) x.1)) before redirects_kept d true last _ rs l (owed_word (parts_open w) owed o) x.2
  redirects_kept d behind last owed (redirect fd shape.here_literal w rs) l o e =
      let x = three (Printable.fd_fits fd) (Printable.literal_body true w) (Printable.redirects_fit true d rs) e in
      led_kept behind _ (fd_kept fd x.0 before (mark (codes "<<'") refl before delimiter_kept (body_of w) before mark (codes "'") refl)) before redirects_kept d true last _ rs l (o before whole_kept (body_of w) (literal_body_kept w x.1)) x.2
  redirects_kept d behind last owed (redirect fd shape.here_expanded w rs) l o e =
      let x = three (Printable.fd_fits fd) (Printable.ends_line w && Printable.parts_fit true d in_body w) (Printable.redirects_fit true d rs) e in
      let y = both (Printable.ends_line w) (Printable.parts_fit true d in_body w) x.1 in
      led_kept behind _ (fd_kept fd x.0 before (mark (codes "<<") refl before delimiter_kept (body_of w))) before redirects_kept d true last _ rs l (o before whole_kept (body_of w) (parts_kept d in_body blank w space y.1)) x.2
  redirects_kept d behind last owed (redirect fd shape.copy_in w rs) l o e =
      let x = three (Printable.fd_fits fd) (Printable.is_copied_word w) (Printable.redirects_fit true d rs) e in
      led_kept behind _ (fd_kept fd x.0 before (mark (codes "<&") refl before copied_kept (gap owed) w x.1)) before redirects_kept d true last _ rs l (owed_word (parts_open w) owed o) x.2
  redirects_kept d behind last owed (redirect fd shape.copy_out w rs) l o e =
      let x = three (Printable.fd_fits fd) (Printable.is_copied_word w) (Printable.redirects_fit true d rs) e in
      led_kept behind _ (fd_kept fd x.0 before (mark (codes ">&") refl before copied_kept (gap owed) w x.1)) before redirects_kept d true last _ rs l (owed_word (parts_open w) owed o) x.2

  command_kept : (d : ℕ) (end : End) (c : shape.Command) → Printable.command_fits true d c ≡ true → Kept (command_text true end c)
  command_kept d end (command k rs) e =
      let x = both (Printable.kind_fits true d (Printable.has_redirect rs) k) (Printable.redirects_fit true d rs) e in
      kind_kept d end (redirects_text true (is_something k) (last_text true end k) [] rs) (Printable.has_redirect rs) k (redirects_kept d (is_something k) (last_text true end k) [] rs (last_kept d end (Printable.has_redirect rs) k x.0) none x.1) x.0

  kind_kept : (d : ℕ) (end : End) (tail : Text) (redirected : Bool) (k : shape.Kind) → Kept tail → Printable.kind_fits true d redirected k ≡ true → Kept (kind_text true end tail k)
  kind_kept d end tail r (simple vs ws) t e =
      let x = four (has_assign vs || has_word ws || r) (Printable.assigns_fit true d vs) (Printable.words_fit true d ws) (Printable.name_fits (has_assign vs || r) ws) e in
      assigns_kept d false vs x.1 before unless_kept (words_last vs ws) (words_text true (has_assign vs) ws) (words_kept d (has_assign vs) ws x.2) before t
  kind_kept d end tail r (group s) t e = mark (codes "{ ") refl before list_kept (suc d) s (three (nat_lt d limit) (Printable.has_chain s) (Printable.list_fits true (suc d) s) e).2 before mark (codes "}") refl before t
  kind_kept d end tail r (subshell s) t e = mark (codes "( ") refl before list_kept (suc d) s (three (nat_lt d limit) (Printable.has_chain s) (Printable.list_fits true (suc d) s) e).2 before mark (codes ")") refl before t
  kind_kept d end tail r (branching bs f) t e =
      let x = four (nat_lt d limit) (Printable.has_branch bs) (Printable.branches_fit true (suc d) bs) (Printable.otherwise_fits true (suc d) f) e in
      branches_kept (suc d) (codes "if ") bs (mark (codes "if ") refl) x.2 before otherwise_kept (suc d) f x.3 before mark (codes "fi") refl before t
  kind_kept d end tail r (loop until a b) t e =
      let x = five (nat_lt d limit) (Printable.has_chain a) (Printable.list_fits true (suc d) a) (Printable.has_chain b) (Printable.list_fits true (suc d) b) e in
      key_kept until before list_kept (suc d) a x.2 before mark (codes "do ") refl before list_kept (suc d) b x.4 before mark (codes "done") refl before t
  kind_kept d end tail r (walk n ws b) t e =
      let x = five (nat_lt d limit) (is_name n) (Printable.for_words_fit true (suc d) ws) (Printable.has_chain b) (Printable.list_fits true (suc d) b) e in
      mark (codes "for ") refl before name_kept n x.1 before for_kept (suc d) ws x.2 before mark (codes "do ") refl before list_kept (suc d) b x.4 before mark (codes "done") refl before t
  kind_kept d end tail r (cases w is) t e =
      let x = three (nat_lt d limit) (Printable.word_fits true (suc d) true w) (Printable.items_fit true (suc d) is) e in
      mark (codes "case ") refl before word_kept (suc d) true blank w space x.1 before mark (codes " in ") refl before items_kept (suc d) is x.2 before mark (codes "esac") refl before t
  kind_kept d end tail r (function n c) t e =
      let x = five (not r) (is_name n) (not (is_reserved_text n)) (Printable.has_compound c) (Printable.command_fits true d c) e in
      name_kept n x.1 before mark (codes "() ") refl before command_kept d end c x.4

  branches_kept : (d : ℕ) (key : Text) (bs : shape.Branches) → Kept key → Printable.branches_fit true d bs ≡ true → Kept (branches_text true key bs)
  branches_kept d key no_branch m e = none
  branches_kept d key (branch a b bs) m e =
      let x = five (Printable.has_chain a) (Printable.list_fits true d a) (Printable.has_chain b) (Printable.list_fits true d b) (Printable.branches_fit true d bs) e in
      m before list_kept d a x.1 before mark (codes "then ") refl before list_kept d b x.3 before branches_kept d (codes "elif ") bs (mark (codes "elif ") refl) x.4

  otherwise_kept : (d : ℕ) (o : shape.Otherwise) → Printable.otherwise_fits true d o ≡ true → Kept (otherwise_text true o)
  otherwise_kept d no_else e = none
  otherwise_kept d (otherwise s) e = mark (codes "else ") refl before list_kept d s (both (Printable.has_chain s) (Printable.list_fits true d s) e).1

  for_kept : (d : ℕ) (ws : shape.ForWords) → Printable.for_words_fit true d ws ≡ true → Kept (for_words_text true ws)
  for_kept d parameters e = mark (codes " ") refl
  for_kept d (listed ws) e = mark (codes " in") refl before words_kept d true ws e before mark (codes "; ") refl

  items_kept : (d : ℕ) (is : shape.Items) → Printable.items_fit true d is ≡ true → Kept (items_text true is)
  items_kept d no_item e = none
  items_kept d (item ps b is) e =
      let x = four (has_word ps) (Printable.patterns_fit true d ps) (Printable.list_fits true d b) (Printable.items_fit true d is) e in
      patterns_kept d (codes "(") ps (mark (codes "(") refl) x.1 before mark (codes ") ") refl before list_kept d b x.2 before mark (codes ";; ") refl before items_kept d is x.3

  stages_kept : (d : ℕ) (end : End) (cs : shape.Stages) → Printable.stages_fit true d cs ≡ true → Kept (stages_text true end cs)
  stages_kept d end no_stage e = none
  stages_kept d end (stage c cs) e = let x = both (Printable.command_fits true d c) (Printable.stages_fit true d cs) e in command_kept d (stage_end end cs) c x.0 before stages_kept d end cs x.1

  pipeline_kept : (d : ℕ) (end : End) (p : shape.Pipeline) → Printable.pipeline_fits true d p ≡ true → Kept (pipeline_text true end p)
  pipeline_kept d end (pipeline true cs) e = mark (codes "! ") refl before stages_kept d end cs (both (Printable.has_stage cs) (Printable.stages_fit true d cs) e).1
  pipeline_kept d end (pipeline false cs) e = stages_kept d end cs (both (Printable.has_stage cs) (Printable.stages_fit true d cs) e).1

  links_kept : (d : ℕ) (end : End) (ls : shape.Links) → Printable.links_fit true d ls ≡ true → Kept (links_text true end ls)
  links_kept d end no_link e = none
  links_kept d end (and_link p ls) e = let x = both (Printable.pipeline_fits true d p) (Printable.links_fit true d ls) e in pipeline_kept d (link_end end ls) p x.0 before links_kept d end ls x.1
  links_kept d end (or_link p ls) e = let x = both (Printable.pipeline_fits true d p) (Printable.links_fit true d ls) e in pipeline_kept d (link_end end ls) p x.0 before links_kept d end ls x.1

  chain_kept : (d : ℕ) (end : End) (c : shape.Chain) → Printable.chain_fits true d c ≡ true → Kept (chain_text true end c)
  chain_kept d end (chain p ls) e = let x = both (Printable.pipeline_fits true d p) (Printable.links_fit true d ls) e in pipeline_kept d (link_end end ls) p x.0 before links_kept d end ls x.1

  list_kept : (d : ℕ) (s : shape.Script) → Printable.list_fits true d s ≡ true → Kept (list_text true s)
  list_kept d no_chain e = none
  list_kept d (next_chain c s) e = let x = both (Printable.chain_fits true d c) (Printable.list_fits true d s) e in chain_kept d next c x.0 before list_kept d s x.1

pub body_kept : (d : ℕ) (w : shape.Parts) → Printable.parts_fit true d in_body w ≡ true → (list_all Printable.is_body_byte (body_of w) ≡ true) × (is_unjoined false (body_of w) ≡ true)
body_kept d w e = let x = parts_kept d in_body blank w space e in (bytes_of false (body_of w) x.is, unjoined_of false (body_of w) x.is)
