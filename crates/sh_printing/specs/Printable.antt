-- Which scripts can be printed: exactly those that some text spells (POSIX 2.10).
use Rattle.std.specs.Prelude.{ℕ, suc, Bool, true, false, ◌||◌, ◌&&◌, not, ◌==◌, nat_lt, List, [], ◌∷◌, Option, Some, None}
use Rattle.std.specs.List.{list_all}
use Rattle.span_text.specs.Names.{is_name}
use Rattle.sh_grammar.specs.Shape as shape
use Rattle.sh_grammar.specs.Shape.{plain, exact, double, tilde, param, subst, arith, no_part, part, as_is, length_of, fill, trim, no_word, word, no_value, value, no_assign, assign, no_redirect, redirect, command, simple, group, subshell, branching, loop, walk, cases, function, no_branch, branch, no_else, otherwise, parameters, listed, no_item, item, no_stage, stage, pipeline, no_link, and_link, or_link, chain, no_chain, next_chain}
use Rattle.sh_grammar.specs.Bytes.{Text, Context, in_word, in_double, in_body, has_double, fill_context, trim_context}
use Rattle.sh_grammar.specs.Steps.{limit, is_empty, is_copied}
use Rattle.sh_printing.specs.Printing.{continued, has_assign, has_word}
use Rattle.sh_printing.specs.Spellable.{is_literal_text, ends_with, begins_with, keeps, exact_fits, param_fits, bare_fits, is_count, begins_assign, is_reserved_text, sum_fits}
pub use Rattle.sh_printing.specs.Spellable.{is_reserved_word}

-- ---- what stands at a place

abbrev pub has_part : shape.Parts → Bool
has_part no_part = false
has_part (part p ps) = true

abbrev pub has_redirect : shape.Redirects → Bool
has_redirect no_redirect = false
has_redirect (redirect fd op w rs) = true

abbrev pub has_chain : shape.Script → Bool
has_chain no_chain = false
has_chain (next_chain c s) = true

abbrev pub has_stage : shape.Stages → Bool
has_stage no_stage = false
has_stage (stage c cs) = true

abbrev pub has_branch : shape.Branches → Bool
has_branch no_branch = false
has_branch (branch t b bs) = true

abbrev pub is_plain_part : shape.Part → Bool
is_plain_part (plain text) = true
is_plain_part (exact text) = false
is_plain_part (double ps) = false
is_plain_part tilde = false
is_plain_part (param p o) = false
is_plain_part (subst s) = false
is_plain_part (arith e ws) = false

-- it begins with a `$`
abbrev pub is_expansion : shape.Part → Bool
is_expansion (plain text) = false
is_expansion (exact text) = false
is_expansion (double ps) = false
is_expansion tilde = false
is_expansion (param p o) = true
is_expansion (subst s) = true
is_expansion (arith e ws) = true

abbrev pub first_is : (shape.Part → Bool) → shape.Parts → Bool
first_is test no_part = false
first_is test (part p ps) = test p

-- the first part begins with this byte, which stands for itself
abbrev pub plain_begins : ℕ → shape.Parts → Bool
plain_begins k (part (plain text) ps) = begins_with k text
plain_begins k ps = false

-- The longest run of bytes that stand for themselves: no other stands behind it, and a `$` at its end begins no expansion.
abbrev pub plain_fits : Context → shape.Parts → Text → Bool
plain_fits c behind text = not (is_empty text) && is_literal_text c text && not (first_is is_plain_part behind) && not (ends_with 36 text && first_is is_expansion behind)

-- ---- a word's place

-- what stands behind a tilde: nothing, or a `/` (2.6.1)
abbrev pub behind_tilde : shape.Parts → Bool
behind_tilde ps = not (has_part ps) || plain_begins 47 ps

-- a plain text that would be a tilde's at the front of a word
abbrev pub reads_tilde : Text → shape.Parts → Bool
reads_tilde [] ps = false
reads_tilde (b ∷ []) ps = b == 126 && not (has_part ps)
reads_tilde (b ∷ c ∷ bs) ps = b == 126 && c == 47

-- a word that would be an assignment before a command's name (2.9.1)
abbrev pub is_assignment : shape.Parts → Bool
is_assignment (part (plain text) ps) = begins_assign text
is_assignment ps = false

-- the first word, behind assignments and redirections or not
abbrev pub name_fits : (led : Bool) → shape.Words → Bool
name_fits led no_word = true
name_fits led (word w ws) = not (is_assignment w) && (led || not (is_reserved_word w))

-- ---- a parameter and its operator (2.6.2)

-- `${#-}` and `${##}` are lengths
abbrev pub is_length : shape.Param → shape.FillTest → (colon : Bool) → shape.Parts → Bool
is_length p shape.default colon w = is_count p && not colon && not (has_part w)
is_length p shape.assigning colon w = false
is_length p shape.alternate colon w = false

abbrev pub trim_byte : (suffix : Bool) → ℕ
trim_byte true = 37
trim_byte false = 35

-- the word would make the mark longer, or the whole a length
abbrev pub changes_mark : shape.Param → (suffix longest : Bool) → shape.Parts → Bool
changes_mark p suffix true w = false
changes_mark p suffix false w = plain_begins (trim_byte suffix) w || (is_count p && not suffix && not (has_part w))

-- ---- redirections (2.7)

abbrev pub fd_fits : Option ℕ → Bool
fd_fits None = true
fd_fits (Some n) = nat_lt n 10

-- a digit or `-`
abbrev pub is_copied_text : Text → Bool
is_copied_text [] = false
is_copied_text (b ∷ []) = is_copied b
is_copied_text (b ∷ c ∷ bs) = false

abbrev pub is_copied_word : shape.Parts → Bool
is_copied_word (part (plain text) no_part) = is_copied_text text
is_copied_word ps = false

abbrev pub is_body_byte : ℕ → Bool
is_body_byte b = not (b == 0)

-- a body that isn't expanded: nothing, or lines
abbrev pub literal_body : (inside : Bool) → shape.Parts → Bool
literal_body inside no_part = true
literal_body inside (part (plain text) no_part) = ends_with 10 text && list_all is_body_byte text && keeps inside text
literal_body inside ps = false

-- an expanded one: nothing, or its last byte is a newline
abbrev pub ends_line : shape.Parts → Bool
ends_line no_part = true
ends_line (part (plain text) no_part) = ends_with 10 text
ends_line (part p no_part) = false
ends_line (part p (part q qs)) = ends_line (part q qs)

-- ---- kinds of commands

-- what a function's body may be (2.9.5)
abbrev pub is_compound : shape.Kind → Bool
is_compound (simple as' ws) = false
is_compound (group s) = true
is_compound (subshell s) = true
is_compound (branching bs o) = true
is_compound (loop until t b) = true
is_compound (walk n ws b) = true
is_compound (cases w is) = true
is_compound (function n c) = false

abbrev pub has_compound : shape.Command → Bool
has_compound (command k rs) = is_compound k

-- ---- the nodes, so deep, inside the body of a here-document that is expanded or not

abbrev mutual
  -- a part before others
  pub part_fits : (inside : Bool) → ℕ → Context → shape.Parts → shape.Part → Bool
  part_fits inside d c behind (plain text) = plain_fits c behind text
  part_fits inside d c behind (exact text) = exact_fits inside c text
  part_fits inside d c behind (double ps) = has_double c && parts_fit inside d in_double ps
  part_fits inside d c behind tilde = false
  part_fits inside d c behind (param p as_is) = bare_fits d (continued behind) p
  part_fits inside d c behind (param p length_of) = nat_lt d limit && param_fits p
  part_fits inside d c behind (param p (fill t colon w)) = nat_lt d limit && param_fits p && not (is_length p t colon w) && parts_fit inside (suc d) (fill_context c) w
  part_fits inside d c behind (param p (trim suffix longest w)) = nat_lt d limit && param_fits p && not (changes_mark p suffix longest w) && parts_fit inside (suc d) (trim_context c) w
  part_fits inside d c behind (subst s) = nat_lt d limit && list_fits inside (suc d) s
  part_fits inside d c behind (arith e ws) = nat_lt d limit && sum_fits (operand_checks inside ws) (suc d) e

  pub parts_fit : (inside : Bool) → ℕ → Context → shape.Parts → Bool
  parts_fit inside d c no_part = true
  parts_fit inside d c (part p ps) = part_fits inside d c ps p && parts_fit inside d c ps

  -- an operand of an arithmetic expansion: one expansion
  pub operand_fits : (inside : Bool) → ℕ → shape.Parts → Bool
  operand_fits inside d no_part = false
  operand_fits inside d (part p ps) = is_expansion p && not (has_part ps) && part_fits inside d in_double ps p

  pub operand_checks : (inside : Bool) → shape.Words → List (ℕ → Bool)
  operand_checks inside no_word = []
  operand_checks inside (word w ws) = (λ d. operand_fits inside d w) ∷ operand_checks inside ws

  -- One part at least, of which the first may be a tilde. Behind a blank a `#` would begin a comment (2.3).
  pub word_fits : (inside : Bool) → ℕ → (spaced : Bool) → shape.Parts → Bool
  word_fits inside d spaced no_part = false
  word_fits inside d spaced (part tilde ps) = behind_tilde ps && parts_fit inside d in_word ps
  word_fits inside d spaced (part (plain text) ps) = not (spaced && begins_with 35 text) && not (reads_tilde text ps) && plain_fits in_word ps text && parts_fit inside d in_word ps
  word_fits inside d spaced (part p ps) = part_fits inside d in_word ps p && parts_fit inside d in_word ps

  pub words_fit : (inside : Bool) → ℕ → shape.Words → Bool
  words_fit inside d no_word = true
  words_fit inside d (word w ws) = word_fits inside d true w && words_fit inside d ws

  pub patterns_fit : (inside : Bool) → ℕ → shape.Words → Bool
  patterns_fit inside d no_word = true
  patterns_fit inside d (word w ws) = has_part w && not (plain_begins 35 w) && parts_fit inside d in_word w && patterns_fit inside d ws

  pub value_fits : (inside : Bool) → ℕ → shape.Value → Bool
  value_fits inside d no_value = true
  value_fits inside d (value w) = word_fits inside d false w

  pub assigns_fit : (inside : Bool) → ℕ → shape.Assigns → Bool
  assigns_fit inside d no_assign = true
  assigns_fit inside d (assign n v more) = is_name n && value_fits inside d v && assigns_fit inside d more

  pub redirects_fit : (inside : Bool) → ℕ → shape.Redirects → Bool
  redirects_fit inside d no_redirect = true
  redirects_fit inside d (redirect fd shape.read w rs) = fd_fits fd && word_fits inside d true w && redirects_fit inside d rs
  redirects_fit inside d (redirect fd shape.write w rs) = fd_fits fd && word_fits inside d true w && redirects_fit inside d rs
  redirects_fit inside d (redirect fd shape.append w rs) = fd_fits fd && word_fits inside d true w && redirects_fit inside d rs
  redirects_fit inside d (redirect fd shape.here_literal w rs) = fd_fits fd && literal_body inside w && redirects_fit inside d rs
  redirects_fit inside d (redirect fd shape.here_expanded w rs) = fd_fits fd && (ends_line w && parts_fit true d in_body w) && redirects_fit inside d rs
  redirects_fit inside d (redirect fd shape.copy_in w rs) = fd_fits fd && is_copied_word w && redirects_fit inside d rs
  redirects_fit inside d (redirect fd shape.copy_out w rs) = fd_fits fd && is_copied_word w && redirects_fit inside d rs

  pub command_fits : (inside : Bool) → ℕ → shape.Command → Bool
  command_fits inside d (command k rs) = kind_fits inside d (has_redirect rs) k && redirects_fit inside d rs

  -- A command before its redirections. Those of a function's definition are its body's.
  pub kind_fits : (inside : Bool) → ℕ → (redirected : Bool) → shape.Kind → Bool
  kind_fits inside d redirected (simple as' ws) = (has_assign as' || has_word ws || redirected) && assigns_fit inside d as' && words_fit inside d ws && name_fits (has_assign as' || redirected) ws
  kind_fits inside d redirected (group s) = nat_lt d limit && has_chain s && list_fits inside (suc d) s
  kind_fits inside d redirected (subshell s) = nat_lt d limit && has_chain s && list_fits inside (suc d) s
  kind_fits inside d redirected (branching bs o) = nat_lt d limit && has_branch bs && branches_fit inside (suc d) bs && otherwise_fits inside (suc d) o
  kind_fits inside d redirected (loop until t b) = nat_lt d limit && has_chain t && list_fits inside (suc d) t && has_chain b && list_fits inside (suc d) b
  kind_fits inside d redirected (walk n ws b) = nat_lt d limit && is_name n && for_words_fit inside (suc d) ws && has_chain b && list_fits inside (suc d) b
  kind_fits inside d redirected (cases w is) = nat_lt d limit && word_fits inside (suc d) true w && items_fit inside (suc d) is
  kind_fits inside d redirected (function n c) = not redirected && is_name n && not (is_reserved_text n) && has_compound c && command_fits inside d c

  pub branches_fit : (inside : Bool) → ℕ → shape.Branches → Bool
  branches_fit inside d no_branch = true
  branches_fit inside d (branch t b bs) = has_chain t && list_fits inside d t && has_chain b && list_fits inside d b && branches_fit inside d bs

  pub otherwise_fits : (inside : Bool) → ℕ → shape.Otherwise → Bool
  otherwise_fits inside d no_else = true
  otherwise_fits inside d (otherwise s) = has_chain s && list_fits inside d s

  pub for_words_fit : (inside : Bool) → ℕ → shape.ForWords → Bool
  for_words_fit inside d parameters = true
  for_words_fit inside d (listed ws) = words_fit inside d ws

  pub items_fit : (inside : Bool) → ℕ → shape.Items → Bool
  items_fit inside d no_item = true
  items_fit inside d (item ps b more) = has_word ps && patterns_fit inside d ps && list_fits inside d b && items_fit inside d more

  pub stages_fit : (inside : Bool) → ℕ → shape.Stages → Bool
  stages_fit inside d no_stage = true
  stages_fit inside d (stage c cs) = command_fits inside d c && stages_fit inside d cs

  pub pipeline_fits : (inside : Bool) → ℕ → shape.Pipeline → Bool
  pipeline_fits inside d (pipeline negated ss) = has_stage ss && stages_fit inside d ss

  pub links_fit : (inside : Bool) → ℕ → shape.Links → Bool
  links_fit inside d no_link = true
  links_fit inside d (and_link p ls) = pipeline_fits inside d p && links_fit inside d ls
  links_fit inside d (or_link p ls) = pipeline_fits inside d p && links_fit inside d ls

  pub chain_fits : (inside : Bool) → ℕ → shape.Chain → Bool
  chain_fits inside d (chain p ls) = pipeline_fits inside d p && links_fit inside d ls

  -- the commands of a list
  pub list_fits : (inside : Bool) → ℕ → shape.Script → Bool
  list_fits inside d no_chain = true
  list_fits inside d (next_chain c more) = chain_fits inside d c && list_fits inside d more

-- a script that can be printed
abbrev pub script_printable : shape.Script → Bool
script_printable s = list_fits false 0 s
