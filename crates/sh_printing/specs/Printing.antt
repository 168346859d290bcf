-- The text that is printed for a script (POSIX 2.10).
use Rattle.std.specs.Prelude.{Bool, true, false, ◌||◌, ◌&&◌, not, List, [], ◌∷◌, ◌++◌, codes, if◌then◌else◌}
use Rattle.span_text.specs.Names.{continues_name}
use Rattle.sh_grammar.specs.Shape as shape
use Rattle.sh_grammar.specs.Shape.{plain, exact, double, tilde, param, subst, arith, no_part, part, as_is, length_of, fill, trim, no_word, word, no_value, value, no_assign, assign, no_redirect, redirect, command, simple, group, subshell, branching, loop, walk, cases, function, no_branch, branch, no_else, otherwise, parameters, listed, no_item, item, no_stage, stage, pipeline, no_link, and_link, or_link, chain, no_chain, next_chain}
use Rattle.sh_grammar.specs.Bytes.{Text, Context, in_word, in_double, in_body, has_single, fill_context, trim_context, starts}
use Rattle.sh_grammar.specs.Steps.{nth}
use Rattle.sh_printing.specs.Marks.{End, piped, and_then, or_else, next, line, ended, blank, gap, led, exact_text, aimed_text, whole_body, behind_word, fd_text, param_text, param_name, colon_text, test_text, trim_mark, loop_key}
use Rattle.sh_printing.specs.Spellable.{is_reserved_word}
use Rattle.sh_printing.specs.Sums.{expr_text}

-- ---- what a part is

-- a substitution stands in it, where a newline may stand
abbrev mutual
  pub part_opens : shape.Part → Bool
  part_opens (plain text) = false
  part_opens (exact text) = false
  part_opens (double ps) = parts_open ps
  part_opens tilde = false
  part_opens (param p o) = op_opens o
  part_opens (subst s) = true
  part_opens (arith e ws) = words_open ws

  pub parts_open : shape.Parts → Bool
  parts_open no_part = false
  parts_open (part p ps) = part_opens p || parts_open ps

  pub op_opens : shape.ParamOp → Bool
  op_opens as_is = false
  op_opens length_of = false
  op_opens (fill t c w) = parts_open w
  op_opens (trim s l w) = parts_open w

  pub words_open : shape.Words → Bool
  words_open no_word = false
  words_open (word w ws) = parts_open w || words_open ws

-- the next part goes on with a name
abbrev pub continued : shape.Parts → Bool
continued (part (plain text) ps) = starts continues_name text
continued ps = false

-- what stands behind the first `$(` where it hasn't come yet
abbrev pub behind_opening : Bool → Text → Text
behind_opening true opening = blank
behind_opening false opening = opening

-- the bodies that are still to come behind a redirection
abbrev pub owed_behind : (full : Bool) → shape.RedirectOp → (opens : Bool) → (body owed : Text) → Text
owed_behind full shape.here_literal opens body owed = owed ++ whole_body full body
owed_behind full shape.here_expanded opens body owed = owed ++ whole_body full body
owed_behind full shape.read opens body owed = behind_word opens owed
owed_behind full shape.write opens body owed = behind_word opens owed
owed_behind full shape.append opens body owed = behind_word opens owed
owed_behind full shape.copy_in opens body owed = behind_word opens owed
owed_behind full shape.copy_out opens body owed = behind_word opens owed

abbrev pub has_assign : shape.Assigns → Bool
has_assign no_assign = false
has_assign (assign n v more) = true

abbrev pub has_word : shape.Words → Bool
has_word no_word = false
has_word (word w ws) = true

-- The words of a simple command stand behind its redirections, as in `>x if`: before them the first would be a reserved word (2.4).
abbrev pub words_last : shape.Assigns → shape.Words → Bool
words_last no_assign (word w ws) = is_reserved_word w
words_last no_assign no_word = false
words_last (assign n v more) ws = false

-- the command has bytes before its redirections
abbrev pub is_something : shape.Kind → Bool
is_something (simple as' ws) = has_assign as' || (has_word ws && not (words_last as' ws))
is_something (group s) = true
is_something (subshell s) = true
is_something (branching bs o) = true
is_something (loop until t b) = true
is_something (walk n ws b) = true
is_something (cases w is) = true
is_something (function n c) = true

abbrev pub stage_end : End → shape.Stages → End
stage_end end no_stage = end
stage_end end (stage c cs) = piped

abbrev pub link_end : End → shape.Links → End
link_end end no_link = end
link_end end (and_link p ls) = and_then
link_end end (or_link p ls) = or_else

-- ---- the text, in full or past a search

abbrev mutual
  -- A part of a word. What stands behind its first `$(` is a blank, or the bodies of here-documents.
  pub part_text : (full : Bool) → Context → Text → Bool → shape.Part → Text
  part_text full c opening more (plain text) = text
  part_text full c opening more (exact text) = exact_text (has_single c) text
  part_text full c opening more (double ps) = 34 ∷ parts_text full in_double opening ps ++ 34 ∷ []
  part_text full c opening more tilde = 126 ∷ []
  part_text full c opening more (param p as_is) = param_text more p
  part_text full c opening more (param p length_of) = codes "${#" ++ param_name p ++ 125 ∷ []
  part_text full c opening more (param p (fill t colon w)) = codes "${" ++ param_name p ++ colon_text colon ++ test_text t ++ parts_text full (fill_context c) opening w ++ 125 ∷ []
  part_text full c opening more (param p (trim suffix longest w)) = codes "${" ++ param_name p ++ trim_mark suffix longest ++ parts_text full (trim_context c) opening w ++ 125 ∷ []
  part_text full c opening more (subst s) = codes "$(" ++ opening ++ list_text full s ++ 41 ∷ []
  part_text full c opening more (arith e ws) = codes "$((" ++ expr_text (nth (operand_texts full opening ws)) e ++ codes "))"

  pub parts_text : (full : Bool) → Context → Text → shape.Parts → Text
  parts_text full c opening no_part = []
  parts_text full c opening (part p ps) = part_text full c opening (continued ps) p ++ parts_text full c (behind_opening (part_opens p) opening) ps

  pub operand_texts : (full : Bool) → Text → shape.Words → List Text
  operand_texts full opening no_word = []
  operand_texts full opening (word w ws) = parts_text full in_double opening w ∷ operand_texts full (behind_opening (parts_open w) opening) ws

  -- words, of which the first stands behind others or not
  pub words_text : (full : Bool) → Bool → shape.Words → Text
  words_text full behind no_word = []
  words_text full behind (word w ws) = led behind (parts_text full in_word blank w) ++ words_text full true ws

  pub value_text : (full : Bool) → shape.Value → Text
  value_text full no_value = []
  value_text full (value w) = parts_text full in_word blank w

  pub assigns_text : (full : Bool) → Bool → shape.Assigns → Text
  assigns_text full behind no_assign = []
  assigns_text full behind (assign n v more) = led behind (n ++ 61 ∷ value_text full v) ++ assigns_text full true more

  -- Words behind redirections, up to what ends the command, with the bodies that are still to come.
  pub last_words_text : (full : Bool) → End → shape.Words → (owed : Text) → Text
  last_words_text full end no_word owed = ended end owed
  last_words_text full end (word w ws) owed = 32 ∷ parts_text full in_word (gap owed) w ++ last_words_text full end ws (behind_word (parts_open w) owed)

  -- what stands behind a command's redirections, by the bodies that are still to come
  pub last_text : (full : Bool) → End → shape.Kind → (owed : Text) → Text
  last_text full end (simple as' ws) = if words_last as' ws then last_words_text full end ws else ended end
  last_text full end (group s) = ended end
  last_text full end (subshell s) = ended end
  last_text full end (branching bs o) = ended end
  last_text full end (loop until t b) = ended end
  last_text full end (walk n ws b) = ended end
  last_text full end (cases w is) = ended end
  last_text full end (function n c) = ended end

  -- The redirections of a command, with the bodies that are still to come, and what stands behind them.
  pub redirects_text : (full : Bool) → Bool → (last : Text → Text) → (owed : Text) → shape.Redirects → Text
  redirects_text full behind last owed no_redirect = last owed
  redirects_text full behind last owed (redirect fd op w rs) = led behind (fd_text fd ++ aimed_text full op (parts_text full in_body blank w) (parts_text full in_word (gap owed) w)) ++ redirects_text full true last (owed_behind full op (parts_open w) (parts_text full in_body blank w) owed) rs

  -- a command and what ends it
  pub command_text : (full : Bool) → End → shape.Command → Text
  command_text full end (command k rs) = kind_text full end (redirects_text full (is_something k) (last_text full end k) [] rs) k

  -- A command before its redirections. Those of a function's definition are its body's.
  pub kind_text : (full : Bool) → End → Text → shape.Kind → Text
  kind_text full end tail (simple as' ws) = assigns_text full false as' ++ (if words_last as' ws then [] else words_text full (has_assign as') ws) ++ tail
  kind_text full end tail (group s) = codes "{ " ++ list_text full s ++ codes "}" ++ tail
  kind_text full end tail (subshell s) = codes "( " ++ list_text full s ++ codes ")" ++ tail
  kind_text full end tail (branching bs o) = branches_text full (codes "if ") bs ++ otherwise_text full o ++ codes "fi" ++ tail
  kind_text full end tail (loop until t b) = loop_key until ++ list_text full t ++ codes "do " ++ list_text full b ++ codes "done" ++ tail
  kind_text full end tail (walk n ws b) = codes "for " ++ n ++ for_words_text full ws ++ codes "do " ++ list_text full b ++ codes "done" ++ tail
  kind_text full end tail (cases w is) = codes "case " ++ parts_text full in_word blank w ++ codes " in " ++ items_text full is ++ codes "esac" ++ tail
  kind_text full end tail (function n c) = n ++ codes "() " ++ command_text full end c

  pub branches_text : (full : Bool) → Text → shape.Branches → Text
  branches_text full key no_branch = []
  branches_text full key (branch t b bs) = key ++ list_text full t ++ codes "then " ++ list_text full b ++ branches_text full (codes "elif ") bs

  pub otherwise_text : (full : Bool) → shape.Otherwise → Text
  otherwise_text full no_else = []
  otherwise_text full (otherwise s) = codes "else " ++ list_text full s

  pub for_words_text : (full : Bool) → shape.ForWords → Text
  for_words_text full parameters = codes " "
  for_words_text full (listed ws) = codes " in" ++ words_text full true ws ++ codes "; "

  pub patterns_text : (full : Bool) → Text → shape.Words → Text
  patterns_text full mark no_word = []
  patterns_text full mark (word w ws) = mark ++ parts_text full in_word blank w ++ patterns_text full (codes " | ") ws

  pub items_text : (full : Bool) → shape.Items → Text
  items_text full no_item = []
  items_text full (item ps b more) = patterns_text full (codes "(") ps ++ codes ") " ++ list_text full b ++ codes ";; " ++ items_text full more

  pub stages_text : (full : Bool) → End → shape.Stages → Text
  stages_text full end no_stage = []
  stages_text full end (stage c cs) = command_text full (stage_end end cs) c ++ stages_text full end cs

  pub pipeline_text : (full : Bool) → End → shape.Pipeline → Text
  pipeline_text full end (pipeline false ss) = stages_text full end ss
  pipeline_text full end (pipeline true ss) = codes "! " ++ stages_text full end ss

  pub links_text : (full : Bool) → End → shape.Links → Text
  links_text full end no_link = []
  links_text full end (and_link p ls) = pipeline_text full (link_end end ls) p ++ links_text full end ls
  links_text full end (or_link p ls) = pipeline_text full (link_end end ls) p ++ links_text full end ls

  -- pipelines up to what ends the last one
  pub chain_text : (full : Bool) → End → shape.Chain → Text
  chain_text full end (chain p ls) = pipeline_text full (link_end end ls) p ++ links_text full end ls

  -- a list inside a compound command or a substitution
  pub list_text : (full : Bool) → shape.Script → Text
  list_text full no_chain = []
  list_text full (next_chain c more) = chain_text full next c ++ list_text full more

-- a complete command a line
abbrev pub script_text : (full : Bool) → shape.Script → Text
script_text full no_chain = []
script_text full (next_chain c more) = chain_text full line c ++ script_text full more

-- the text of a script
abbrev pub printed : shape.Script → Text
printed s = script_text true s
