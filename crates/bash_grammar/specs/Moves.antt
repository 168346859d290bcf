-- The steps and the tests of the table: what is read at once, and what may come next.
use Rattle.std.specs.Prelude.{ℕ, Bool}
use Rattle.bash_grammar.specs.Bytes.{Quoting, Context}
use Rattle.bash_grammar.specs.Tokens.{Op, Key}
use Rattle.bash_grammar.specs.Sums.{Stretch}

-- an option of `time`
pub data Flag : Type 0 where
  -- `-p`
  posix : Flag
  -- `--`
  last_flag : Flag

-- What is read at once. What stands outside of words stands behind blanks, joins and a comment.
pub data Step : Type 0 where
  -- tokens
  op : Op → Step
  key : Key → Step
  -- a newline, and the bodies of the here-documents that were named before it
  line : Step
  -- the end of the text, where no body is still to come
  ends : Step
  -- `&`; `|` or `|&`; `;;`, `;&` or `;;&`
  ampersand : Step
  pipe : Step
  item_op : Step
  -- an operator of `[[ ]]`
  test_op : Step
  option : Flag → Step
  -- a name that is a whole word
  name : Step
  -- the name before `=`, `+=` or a subscript; `=` or `+=`
  assign_name : Step
  assign_op : Step
  -- the digit before `<` or `>`; more digits, or a name in braces
  digit : Step
  far : Step
  -- an operator before a word; `<<` or `<<-`, and the delimiter
  redirect_op : Step
  here_document : Step
  -- marks: where the next token begins, where the next part does, and where the last one ended
  from_token : Step
  from_unit : Step
  to_here : Step
  -- words
  to_word : Step
  to_regex : Step
  -- this byte, joins aside
  byte : ℕ → Step
  tilde : Step
  -- bytes that stand for themselves
  literal : Context → Step
  -- a backslash, and the byte that it quotes
  escaped : Step
  -- `'ab'`, `$'ab'`
  exact : Step
  ansi : Step
  -- quotes that are refused: `'ab'`, `$'ab'`, or the quote alone; `$'` and `$"`
  nested_exact : Step
  nested_ansi : Step
  lone_quote : Step
  lone_ansi : Step
  lone_locale : Step
  -- `$"`
  open_locale : Step
  -- `$a`
  dollar : Step
  -- `$(`, `<(`; `@(` where it ends at once
  open_subst : Step
  open_process : Step
  lone_glob : Step
  -- `$[`, `@(`, `(`, and what closes them
  open_old : Step
  open_glob : Step
  open_group : Step
  close_group : ℕ → Step
  -- backquotes that are refused as a whole; those that hold a list
  odd_ticks : Step
  open_ticks : Step
  close_ticks : Step
  -- `${#a`, `${!a`, `${a`, `${1`
  open_length : Step
  open_pointed : Step
  open_named : Step
  open_special : Step
  -- `[@]`; `[`
  members : Step
  open_key : Step
  -- the `*` of `${!a*}`
  names : Step
  -- the operators behind a parameter
  fill_op : Step
  trim_op : Step
  case_op : Step
  replace_op : Step
  slice_op : Step
  transform_op : Step
  -- `$((`, `((`, `))`
  open_sum : Step
  open_double : Step
  close_double : Step
  -- an expression begins, and ends; whether it may be left out, and where the quotes in it are
  begin_sum : Step
  end_sum : Bool → Quoting → Step
  sum_bytes : Stretch → Step
  -- one of its expansions begins, and ends
  begin_operand : Step
  end_operand : Step
  -- a level of nesting begins, and ends
  enter : Step
  leave : Step

-- What comes next.
pub data Test : Type 0 where
  next : Op → Test
  key_next : Key → Test
  byte_begins : ℕ → Test
  -- `;` or `&`; the same or a newline; the same and a command behind it
  separates : Test
  list_goes_on : Test
  goes_on : Test
  -- `&&` or `||`; `|` or `|&`; `;;`, `;&` or `;;&`
  links : Test
  pipes : Test
  item_ends : Test
  pipeline_begins : Test
  command_begins : Test
  compound_begins : Test
  -- `function`, `time` or `coproc`
  other_begins : Test
  simple_begins : Test
  -- `((`; `(` and `)`
  double_begins : Test
  parens_begin : Test
  option_begins : Flag → Test
  -- `;`, a newline or the end
  time_ends : Test
  -- a built-in that declares
  declare_begins : Test
  redirect_begins : Test
  here_begins : Test
  -- an assignment or a redirection; a word or a redirection
  prefix_begins : Test
  suffix_begins : Test
  -- an assignment of a list
  list_begins : Test
  -- `[i]=`
  indexed_begins : Test
  -- `(` or a word other than `esac`
  item_begins : Test
  -- in `[[ ]]`
  unary_begins : Test
  binary_begins : Test
  regex_begins : Test
  cond_word_begins : Test
  regex_word_begins : Test
  regex_goes_on : Test
  -- words
  tilde_begins : Test
  unit_begins : Context → Test
  quote_begins : Context → Test
  exact_begins : Context → Test
  double_quote_begins : Context → Test
  escape_begins : Context → Test
  pair_begins : Context → Test
  dollar_begins : Context → Test
  expansion_begins : Test
  locale_begins : Context → Test
  lone_locale_begins : Context → Test
  ansi_begins : Context → Test
  ansi_pair_begins : Context → Test
  other_unit_begins : Context → Test
  tick_begins : Test
  odd_tick_begins : Context → Test
  process_begins : Context → Test
  in_command : Context → Test
  sum_begins : Test
  subst_begins : Test
  brace_begins : Test
  old_begins : Test
  -- `${#a`, `${!a`, `${a`; `[@]`; the `*` of `${!a*}`
  length_begins : Test
  pointed_begins : Test
  named_begins : Test
  members_begin : Test
  names_begin : Test
  fill_begins : Test
  trim_begins : Test
  case_begins : Test
  slice_begins : Test
  sum_goes_on : Stretch → Test
  sum_opens : Test
  sum_expands : Test
