-- The here-documents in a node: their bodies in the order in which they are named, but for those that stand in bodies.
use Rattle.std.proofs.Common.{◌≡◌, Bool, true, false, List, [], ◌∷◌, ◌++◌, refl}
use Rattle.std.specs.Prelude.{◌&&◌, not, if◌then◌else◌}
use Rattle.sh_grammar.specs.Shape as shape
use Rattle.sh_grammar.specs.Shape.{plain, exact, double, tilde, param, subst as listing, arith, no_part, part, as_is, length_of, fill, trim, no_word, word, no_value, value, no_assign, assign, no_redirect, redirect, command, simple, group, subshell, branching, loop, walk, cases, function, no_branch, branch, no_else, otherwise, parameters, listed, no_item, item, no_stage, stage, pipeline, no_link, and_link, or_link, chain, no_chain, next_chain}
use Rattle.sh_grammar.specs.Bytes.{Text, in_body}
use Rattle.sh_printing.specs.Marks.{blank}
use Rattle.sh_printing.specs.Delimiters.{has_line, delimiter}
use Rattle.sh_printing.specs.Printing.{parts_text, part_opens, parts_open, words_open, words_last}
use Rattle.sh_printing.proofs.BackBytes.{neither}

-- the text of a body
abbrev pub body_of : shape.Parts → Text
body_of w = parts_text true in_body blank w

-- a command's words stand behind its redirections
abbrev pub comes_last : shape.Kind → Bool
comes_last (simple as' ws) = words_last as' ws
comes_last (group s) = false
comes_last (subshell s) = false
comes_last (branching bs o) = false
comes_last (loop until t b) = false
comes_last (walk n ws b) = false
comes_last (cases w is) = false
comes_last (function n c) = false

abbrev mutual
  pub part_bodies : shape.Part → List Text
  part_bodies (plain text) = []
  part_bodies (exact text) = []
  part_bodies (double ps) = parts_bodies ps
  part_bodies tilde = []
  part_bodies (param p as_is) = []
  part_bodies (param p length_of) = []
  part_bodies (param p (fill t c w)) = parts_bodies w
  part_bodies (param p (trim s l w)) = parts_bodies w
  part_bodies (listing s) = list_bodies s
  part_bodies (arith e ws) = words_bodies ws

  pub parts_bodies : shape.Parts → List Text
  parts_bodies no_part = []
  parts_bodies (part p ps) = part_bodies p ++ parts_bodies ps

  pub words_bodies : shape.Words → List Text
  words_bodies no_word = []
  words_bodies (word w ws) = parts_bodies w ++ words_bodies ws

  pub value_bodies : shape.Value → List Text
  value_bodies no_value = []
  value_bodies (value w) = parts_bodies w

  pub assigns_bodies : shape.Assigns → List Text
  assigns_bodies no_assign = []
  assigns_bodies (assign n v more) = value_bodies v ++ assigns_bodies more

  pub redirects_bodies : shape.Redirects → List Text
  redirects_bodies no_redirect = []
  redirects_bodies (redirect fd shape.here_literal w rs) = body_of w ∷ redirects_bodies rs
  redirects_bodies (redirect fd shape.here_expanded w rs) = body_of w ∷ redirects_bodies rs
  redirects_bodies (redirect fd op w rs) = parts_bodies w ++ redirects_bodies rs

  pub command_bodies : shape.Command → List Text
  command_bodies (command k rs) = if comes_last k then redirects_bodies rs ++ kind_bodies k else kind_bodies k ++ redirects_bodies rs

  pub kind_bodies : shape.Kind → List Text
  kind_bodies (simple as' ws) = assigns_bodies as' ++ words_bodies ws
  kind_bodies (group s) = list_bodies s
  kind_bodies (subshell s) = list_bodies s
  kind_bodies (branching bs o) = branches_bodies bs ++ otherwise_bodies o
  kind_bodies (loop until t b) = list_bodies t ++ list_bodies b
  kind_bodies (walk n ws b) = for_bodies ws ++ list_bodies b
  kind_bodies (cases w is) = parts_bodies w ++ items_bodies is
  kind_bodies (function n c) = command_bodies c

  pub branches_bodies : shape.Branches → List Text
  branches_bodies no_branch = []
  branches_bodies (branch t b bs) = list_bodies t ++ (list_bodies b ++ branches_bodies bs)

  pub otherwise_bodies : shape.Otherwise → List Text
  otherwise_bodies no_else = []
  otherwise_bodies (otherwise s) = list_bodies s

  pub for_bodies : shape.ForWords → List Text
  for_bodies parameters = []
  for_bodies (listed ws) = words_bodies ws

  pub items_bodies : shape.Items → List Text
  items_bodies no_item = []
  items_bodies (item ps b more) = words_bodies ps ++ (list_bodies b ++ items_bodies more)

  pub stages_bodies : shape.Stages → List Text
  stages_bodies no_stage = []
  stages_bodies (stage c cs) = command_bodies c ++ stages_bodies cs

  pub pipeline_bodies : shape.Pipeline → List Text
  pipeline_bodies (pipeline negated ss) = stages_bodies ss

  pub links_bodies : shape.Links → List Text
  links_bodies no_link = []
  links_bodies (and_link p ls) = pipeline_bodies p ++ links_bodies ls
  links_bodies (or_link p ls) = pipeline_bodies p ++ links_bodies ls

  pub chain_bodies : shape.Chain → List Text
  chain_bodies (chain p ls) = pipeline_bodies p ++ links_bodies ls

  pub list_bodies : shape.Script → List Text
  list_bodies no_chain = []
  list_bodies (next_chain c more) = chain_bodies c ++ list_bodies more

-- What the text that is printed relies on: each body's delimiter is no line of it. So it is where a body has fewer lines than there are
-- delimiters.
abbrev mutual
  pub part_free : shape.Part → Bool
  part_free (plain text) = true
  part_free (exact text) = true
  part_free (double ps) = parts_free ps
  part_free tilde = true
  part_free (param p as_is) = true
  part_free (param p length_of) = true
  part_free (param p (fill t c w)) = parts_free w
  part_free (param p (trim s l w)) = parts_free w
  part_free (listing s) = list_free s
  part_free (arith e ws) = words_free ws

  pub parts_free : shape.Parts → Bool
  parts_free no_part = true
  parts_free (part p ps) = part_free p && parts_free ps

  pub words_free : shape.Words → Bool
  words_free no_word = true
  words_free (word w ws) = parts_free w && words_free ws

  pub value_free : shape.Value → Bool
  value_free no_value = true
  value_free (value w) = parts_free w

  pub assigns_free : shape.Assigns → Bool
  assigns_free no_assign = true
  assigns_free (assign n v more) = value_free v && assigns_free more

  pub redirects_free : shape.Redirects → Bool
  redirects_free no_redirect = true
  redirects_free (redirect fd shape.here_literal w rs) = not (has_line (delimiter (body_of w)) (body_of w)) && redirects_free rs
  redirects_free (redirect fd shape.here_expanded w rs) = (not (has_line (delimiter (body_of w)) (body_of w)) && parts_free w) && redirects_free rs
  redirects_free (redirect fd op w rs) = parts_free w && redirects_free rs

  pub command_free : shape.Command → Bool
  command_free (command k rs) = kind_free k && redirects_free rs

  pub kind_free : shape.Kind → Bool
  kind_free (simple as' ws) = assigns_free as' && words_free ws
  kind_free (group s) = list_free s
  kind_free (subshell s) = list_free s
  kind_free (branching bs o) = branches_free bs && otherwise_free o
  kind_free (loop until t b) = list_free t && list_free b
  kind_free (walk n ws b) = for_free ws && list_free b
  kind_free (cases w is) = parts_free w && items_free is
  kind_free (function n c) = command_free c

  pub branches_free : shape.Branches → Bool
  branches_free no_branch = true
  branches_free (branch t b bs) = list_free t && (list_free b && branches_free bs)

  pub otherwise_free : shape.Otherwise → Bool
  otherwise_free no_else = true
  otherwise_free (otherwise s) = list_free s

  pub for_free : shape.ForWords → Bool
  for_free parameters = true
  for_free (listed ws) = words_free ws

  pub items_free : shape.Items → Bool
  items_free no_item = true
  items_free (item ps b more) = words_free ps && (list_free b && items_free more)

  pub stages_free : shape.Stages → Bool
  stages_free no_stage = true
  stages_free (stage c cs) = command_free c && stages_free cs

  pub pipeline_free : shape.Pipeline → Bool
  pipeline_free (pipeline negated ss) = stages_free ss

  pub links_free : shape.Links → Bool
  links_free no_link = true
  links_free (and_link p ls) = pipeline_free p && links_free ls
  links_free (or_link p ls) = pipeline_free p && links_free ls

  pub chain_free : shape.Chain → Bool
  chain_free (chain p ls) = pipeline_free p && links_free ls

  pub list_free : shape.Script → Bool
  list_free no_chain = true
  list_free (next_chain c more) = chain_free c && list_free more

-- ---- where no newline may stand, nothing is named

mutual
  pub part_closed : (p : shape.Part) → part_opens p ≡ false → part_bodies p ≡ []
  part_closed (plain text) e = refl
  part_closed (exact text) e = refl
  part_closed (double ps) e = parts_closed ps e
  part_closed tilde e = refl
  part_closed (param p as_is) e = refl
  part_closed (param p length_of) e = refl
  part_closed (param p (fill t c w)) e = parts_closed w e
  part_closed (param p (trim s l w)) e = parts_closed w e
  part_closed (listing s) e = absurd cc
  part_closed (arith x ws) e = words_closed ws e

  pub parts_closed : (ps : shape.Parts) → parts_open ps ≡ false → parts_bodies ps ≡ []
  parts_closed no_part e = refl
  parts_closed (part p ps) e = let n = neither (part_opens p) (parts_open ps) e in rw (part_closed p n.0, parts_closed ps n.1) refl

  pub words_closed : (ws : shape.Words) → words_open ws ≡ false → words_bodies ws ≡ []
  words_closed no_word e = refl
  words_closed (word w ws) e = let n = neither (parts_open w) (words_open ws) e in rw (parts_closed w n.0, words_closed ws n.1) refl
