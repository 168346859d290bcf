-- The grammar of Bash, as a table (Bash manual, sections 3.2 to 3.6, beside the standard's grammar in POSIX 2.10.2).
use Rattle.std.specs.Prelude.{true, false}
use Rattle.text_grammar.specs.Grammar.{Grammar, pass, fail, step, choose, star, rule, ◌then◌}
use Rattle.bash_grammar.specs.Bytes.{Context, context, in_word, in_double, inner, inner_pattern, inner_sum, bare, quotes, in_body, fills, patterns, firsts, seconds, keys, brackets, groups, regexes}
use Rattle.bash_grammar.specs.Tokens.{Newline, Semi, Amp, AndIf, OrIf, Pipe, Open, Close, Io, Far, Word, If, Then, Elif, Else, Fi, For, In, Until, While, Do, Done, Case, Esac, Select, Function, Time, Coproc, OpenBrace, CloseBrace, OpenCond, CloseCond, Bang}
use Rattle.bash_grammar.specs.Sums.{Stretch, to_close, to_semi, to_colon, to_brace}
use Rattle.bash_grammar.specs.Moves.{Step, Test, posix, last_flag, op, key, line, ends, ampersand, pipe, item_op, test_op, option, name, assign_name, assign_op, digit, far, redirect_op, here_document, from_token, from_unit, to_here, to_word, to_regex, byte, tilde, literal, escaped, exact, ansi, nested_exact, nested_ansi, lone_quote, lone_ansi, lone_locale, open_locale, dollar, open_subst, open_process, lone_glob, open_old, open_glob, open_group, close_group, odd_ticks, open_ticks, close_ticks, open_length, open_pointed, open_named, open_special, members, open_key, names, fill_op, trim_op, case_op, replace_op, slice_op, transform_op, open_sum, open_double, close_double, begin_sum, end_sum, sum_bytes, begin_operand, end_operand, enter, leave, next, key_next, byte_begins, separates, list_goes_on, goes_on, links, pipes, item_ends, pipeline_begins, command_begins, compound_begins, other_begins, simple_begins, double_begins, parens_begin, option_begins, time_ends, declare_begins, redirect_begins, here_begins, prefix_begins, suffix_begins, list_begins, indexed_begins, item_begins, unary_begins, binary_begins, regex_begins, cond_word_begins, regex_word_begins, regex_goes_on, tilde_begins, unit_begins, quote_begins, exact_begins, double_quote_begins, escape_begins, pair_begins, dollar_begins, expansion_begins, locale_begins, lone_locale_begins, ansi_begins, ansi_pair_begins, other_unit_begins, tick_begins, odd_tick_begins, process_begins, in_command, sum_begins, subst_begins, brace_begins, old_begins, length_begins, pointed_begins, named_begins, members_begin, names_begin, fill_begins, trim_begins, case_begins, slice_begins, sum_goes_on, sum_opens, sum_expands}

pub data Rule : Type 0 where
  -- lines and lists
  piece : Rule
  line_piece : Rule
  complete : Rule
  complete_more : Rule
  separator : Rule
  list : Rule
  maybe_list : Rule
  list_more : Rule
  lines : Rule
  -- pipelines
  chain : Rule
  link : Rule
  and_link : Rule
  or_link : Rule
  pipeline : Rule
  bang : Rule
  stage : Rule
  -- commands
  command : Rule
  compound_command : Rule
  compound : Rule
  parenthesis : Rule
  other_compound : Rule
  loop_or_case : Rule
  group : Rule
  subshell : Rule
  sum_command : Rule
  if_command : Rule
  if_branch : Rule
  elif_branch : Rule
  else_part : Rule
  while_loop : Rule
  until_loop : Rule
  do_body : Rule
  for_loop : Rule
  name_for : Rule
  for_words : Rule
  for_in : Rule
  sum_for : Rule
  section : Rule
  last_section : Rule
  select_loop : Rule
  case_command : Rule
  case_in : Rule
  case_item : Rule
  pattern_more : Rule
  item_end : Rule
  other_command : Rule
  function_command : Rule
  function_rest : Rule
  parens : Rule
  time_command : Rule
  time_prefix : Rule
  timed_bang : Rule
  coproc_command : Rule
  coproc_rest : Rule
  coproc_named : Rule
  -- `[[ ]]`
  conditional : Rule
  cond_or : Rule
  or_more : Rule
  cond_and : Rule
  and_more : Rule
  cond_not : Rule
  cond_term : Rule
  cond_group : Rule
  unary : Rule
  binary : Rule
  binary_more : Rule
  cond_word : Rule
  regex_test : Rule
  regex : Rule
  regex_part : Rule
  regex_group : Rule
  -- simple commands
  simple_command : Rule
  simple_body : Rule
  prefixed : Rule
  behind_prefix : Rule
  called : Rule
  calling : Rule
  declaring : Rule
  declared : Rule
  declared_items : Rule
  declared_item : Rule
  list_word : Rule
  suffix : Rule
  prefix_item : Rule
  suffix_item : Rule
  assign : Rule
  assigned : Rule
  elements : Rule
  element_item : Rule
  element : Rule
  indexed : Rule
  element_value : Rule
  redirect : Rule
  target : Rule
  file : Rule
  -- words
  word : Rule
  value : Rule
  word_parts : Rule
  tilde_part : Rule
  more_parts : Rule
  pattern : Rule
  part : Context → Rule
  unit : Context → Rule
  quote : Context → Rule
  odd_quote : Context → Rule
  double_quotes : Rule
  dollar_part : Context → Rule
  dollar_quote : Context → Rule
  ansi_quote : Context → Rule
  locale : Rule
  expansion : Context → Rule
  named_expansion : Context → Rule
  other_unit : Context → Rule
  glob_unit : Context → Rule
  process : Rule
  glob : Rule
  old : Rule
  subst : Rule
  ticks : Rule
  -- `${ }`
  braces : Context → Rule
  length_braces : Context → Rule
  pointed_braces : Context → Rule
  valued_braces : Context → Rule
  special_braces : Context → Rule
  index : Context → Rule
  subscript : Context → Rule
  key_part : Context → Rule
  key_operand : Context → Rule
  operation : Context → Rule
  other_operation : Context → Rule
  transform : Rule
  fill : Context → Rule
  trim : Context → Rule
  casing : Context → Rule
  replace : Context → Rule
  replacement : Context → Rule
  slice : Context → Rule
  offset : Context → Rule
  slice_length : Context → Rule
  braced : Context → Rule
  -- expressions
  sum : Context → Rule
  sum_part : Stretch → Context → Rule
  sum_group : Context → Rule
  sum_operand : Context → Rule
  -- the body of a here-document that is expanded
  body_parts : Rule

abbrev pub in_regex : Context
in_regex = context regexes bare

abbrev pub in_group : Context
in_group = context groups bare

abbrev pub in_brackets : Context
in_brackets = context brackets bare

abbrev pub in_here : Context
in_here = context quotes in_body

abbrev pub Gram : Type 0
Gram = Grammar Step Test Rule

abbrev pub body : Rule → Gram
-- ---- lines and lists

-- piece: newline | complete (newline | end)
body piece = choose (next Newline) (step line) (rule complete then choose (next Newline) (step line) (step ends))
-- line_piece: newline | complete newline
body line_piece = choose (next Newline) (step line) (rule complete then step line)
-- complete: chain ((';' | '&') chain)* (';' | '&')?
body complete = rule chain then star goes_on (rule complete_more) then choose separates (rule separator) pass
body complete_more = rule separator then rule chain
body separator = choose (next Amp) (step ampersand) (step (op Semi))
-- list: newline* chain ((';' | '&' | newline) newline* chain?)*, without ';' or '&' behind another or a newline
body list = rule lines then rule chain then star list_goes_on (rule list_more)
body maybe_list = rule lines then choose pipeline_begins (rule chain then star list_goes_on (rule list_more)) pass
body list_more = choose (next Newline) (step line) (rule separator) then rule lines then choose pipeline_begins (rule chain) (choose separates fail pass)
body lines = star (next Newline) (step line)
-- ---- pipelines

-- chain: pipeline (('&&' | '||') newline* pipeline)*
body chain = rule pipeline then star links (rule link)
body link = choose (next AndIf) (rule and_link) (rule or_link)
body and_link = step (op AndIf) then rule lines then rule pipeline
body or_link = step (op OrIf) then rule lines then rule pipeline
-- pipeline: '!'? command (('|' | '|&') newline* command)*
body pipeline = choose (key_next Bang) (rule bang) pass then rule command then star pipes (rule stage)
body bang = step (key Bang)
body stage = step pipe then rule lines then rule command
-- ---- commands

-- command: compound redirect* | function | simple | time | coproc
body command = choose compound_begins (rule compound_command) (choose other_begins (rule other_command) (rule simple_command))
body compound_command = step from_token then rule compound then star redirect_begins (rule redirect) then step to_here
body compound = choose (next Open) (rule parenthesis) (choose (key_next OpenBrace) (rule group) (choose (key_next If) (rule if_command) (rule other_compound)))
body parenthesis = choose double_begins (rule sum_command) (rule subshell)
body other_compound = choose (key_next OpenCond) (rule conditional) (choose (key_next For) (rule for_loop) (choose (key_next Case) (rule case_command) (rule loop_or_case)))
body loop_or_case = choose (key_next While) (rule while_loop) (choose (key_next Until) (rule until_loop) (rule select_loop))
-- group: '{' list '}'; subshell: '(' list ')'; sum_command: '((' expr '))'
body group = step (key OpenBrace) then step enter then rule list then step (key CloseBrace) then step leave
body subshell = step (op Open) then step enter then rule list then step (op Close) then step leave
body sum_command = step open_double then step enter then step begin_sum then star (sum_goes_on to_close) (rule (sum_part to_close in_double)) then step (end_sum false bare) then step close_double then step leave then step to_here
-- if list then list (elif list then list)* (else list)? fi
body if_command = step (key If) then step enter then rule if_branch then star (key_next Elif) (rule elif_branch) then choose (key_next Else) (rule else_part) pass then step (key Fi) then step leave
body if_branch = rule list then step (key Then) then rule list
body elif_branch = step (key Elif) then rule if_branch
body else_part = step (key Else) then rule list
-- (while | until) list do list done
body while_loop = step (key While) then step enter then rule list then rule do_body then step leave
body until_loop = step (key Until) then step enter then rule list then rule do_body then step leave
body do_body = step (key Do) then rule list then step (key Done)
-- for (name_for | sum_for) do list done
body for_loop = step (key For) then step enter then choose double_begins (rule sum_for) (rule name_for) then rule do_body then step leave then step to_here
-- name_for: NAME (';' newline* | newline* ('in' word* (';' | newline) newline*)?)
body name_for = step name then rule for_words
body for_words = choose (next Semi) (step (op Semi) then rule lines) (rule lines then choose (key_next In) (rule for_in) pass)
body for_in = step (key In) then star (next Word) (rule word) then choose (next Semi) (step (op Semi)) (step line) then rule lines
-- sum_for: '((' expr? ';' expr? ';' expr? '))' ';'? newline*
body sum_for = step open_double then step enter then rule section then rule section then rule last_section then step leave then choose (next Semi) (step (op Semi)) pass then rule lines
body section = step begin_sum then star (sum_goes_on to_semi) (rule (sum_part to_semi in_double)) then step (end_sum true bare) then step (byte 59)
body last_section = step begin_sum then star (sum_goes_on to_close) (rule (sum_part to_close in_double)) then step (end_sum true bare) then step close_double
-- select name_for do list done
body select_loop = step from_token then step (key Select) then step enter then rule name_for then rule do_body then step leave then step to_here
-- case word newline* in newline* item* esac
body case_command = step (key Case) then step enter then rule word then rule lines then rule case_in then step leave
body case_in = step (key In) then rule lines then star item_begins (rule case_item) then step (key Esac)
-- item: '('? pattern ('|' pattern)* ')' (list | newline*) ((';;' | ';&' | ';;&') newline*)?, and only the last may lack its end
body case_item = choose (next Open) (step (op Open)) pass then rule pattern then star (next Pipe) (rule pattern_more) then step (op Close) then rule maybe_list then rule item_end
body pattern_more = step (op Pipe) then rule pattern
body item_end = choose item_ends (step item_op then rule lines) (choose (key_next Esac) pass fail)
-- function WORD ('(' ')')? newline* compound redirect*
body other_command = choose (key_next Function) (rule function_command) (choose (key_next Time) (rule time_command) (rule coproc_command))
body function_command = step from_token then step (key Function) then rule word then choose parens_begin (rule parens) pass then rule lines then rule compound_command then step to_here
-- WORD '(' ')' newline* compound redirect*
body function_rest = rule parens then rule lines then rule compound_command
body parens = step (op Open) then step (op Close)
-- (time -p? --? '!'?)+ command?
body time_command = step from_token then rule time_prefix then star (key_next Time) (rule time_prefix) then choose command_begins (rule command) (choose time_ends pass fail) then step to_here
body time_prefix = step (key Time) then choose (option_begins posix) (step (option posix)) pass then choose (option_begins last_flag) (step (option last_flag)) pass then choose (key_next Bang) (rule timed_bang) pass
body timed_bang = step (key Bang) then choose command_begins pass fail
-- coproc (compound redirect* | WORD compound redirect* | simple)
body coproc_command = step from_token then step (key Coproc) then choose compound_begins (rule compound_command) (rule coproc_rest) then step to_here
body coproc_rest = choose simple_begins (choose prefix_begins (rule prefixed) (rule coproc_named)) fail
body coproc_named = rule word then choose compound_begins (rule compound_command) (rule suffix)
-- ---- '[[' cond ']]'

body conditional = step (key OpenCond) then step enter then rule cond_or then step (key CloseCond) then step leave
-- cond_or: cond_and ('||' cond_and)*; cond_and: cond_not ('&&' cond_not)*; cond_not: '!'* term
body cond_or = rule cond_and then star (next OrIf) (rule or_more)
body or_more = step (op OrIf) then rule cond_and
body cond_and = rule cond_not then star (next AndIf) (rule and_more)
body and_more = step (op AndIf) then rule cond_not
body cond_not = star (key_next Bang) (rule bang) then rule cond_term
-- term: '(' cond_or ')' | UNARY word | word (BINARY word | '=~' regex)?
body cond_term = choose (next Open) (rule cond_group) (choose unary_begins (rule unary) (rule binary))
body cond_group = step (op Open) then step enter then rule cond_or then step (op Close) then step leave
body unary = step test_op then rule cond_word
body binary = rule cond_word then choose regex_begins (rule regex_test) (choose binary_begins (rule binary_more) pass)
body binary_more = step test_op then rule cond_word
body cond_word = choose cond_word_begins (rule pattern) fail
body regex_test = step test_op then choose regex_word_begins (rule regex) fail
body regex = step to_regex then step from_unit then rule regex_part then star regex_goes_on (rule regex_part) then step to_here
body regex_part = choose (byte_begins 40) (rule regex_group) (rule (part in_regex))
body regex_group = step open_group then star (unit_begins in_group) (rule (part in_group)) then step (close_group 41)
-- ---- simple commands

-- (assignment | redirect)* (word | redirect)*, one at least
body simple_command = choose simple_begins (rule simple_body) fail
body simple_body = step from_token then choose prefix_begins (rule prefixed) (rule called) then step to_here
body prefixed = rule prefix_item then star prefix_begins (rule prefix_item) then rule behind_prefix
body behind_prefix = choose declare_begins (rule declared) (rule suffix)
body called = choose declare_begins (rule declaring) (rule calling)
body calling = rule word then choose (next Open) (rule function_rest) (rule suffix)
-- behind `declare` and its kin a word may be an assignment of a list
body declaring = rule word then choose (next Open) (rule function_rest) (rule declared_items)
body declared = rule word then rule declared_items
body declared_items = star suffix_begins (rule declared_item)
body declared_item = choose redirect_begins (rule redirect) (choose list_begins (rule list_word) (rule word))
body list_word = rule assign
body suffix = star suffix_begins (rule suffix_item)
body prefix_item = choose redirect_begins (rule redirect) (rule assign)
body suffix_item = choose redirect_begins (rule redirect) (rule word)
-- assignment: NAME subscript? ('=' | '+=') (elements | value?)
body assign = step from_token then step assign_name then choose (byte_begins 91) (rule (subscript in_word)) pass then step assign_op then rule assigned then step to_here
body assigned = choose (byte_begins 40) (rule elements) (choose (unit_begins in_word) (rule value) pass)
-- elements: '(' newline* (element newline*)* ')', and the word ends there; element: subscript '=' word? | word
body elements = step (byte 40) then rule lines then star (next Word) (rule element_item) then step (op Close) then choose (unit_begins in_word) fail pass
body element_item = rule element then rule lines
body element = step from_token then choose indexed_begins (rule indexed) (rule pattern) then step to_here
body indexed = step to_word then rule (subscript in_word) then step (byte 61) then choose (unit_begins in_word) (rule element_value) pass
body element_value = step from_unit then rule (part in_word) then rule more_parts then step to_here
-- redirect: (digit | descriptor)? target
body redirect = step from_token then choose (next Io) (step digit) (choose (next Far) (step far) pass) then rule target then step to_here
body target = choose here_begins (step here_document) (rule file)
body file = step redirect_op then rule word
-- ---- words

-- word: part+, of which the first may be `~`; a pattern has no `~`
body word = step to_word then step from_unit then rule word_parts then step to_here
body value = step from_unit then rule word_parts then step to_here
body word_parts = choose tilde_begins (rule tilde_part) (rule (part in_word)) then rule more_parts
body tilde_part = step from_unit then step tilde then step to_here
body more_parts = star (unit_begins in_word) (rule (part in_word))
body pattern = step to_word then step from_unit then rule (part in_word) then rule more_parts then step to_here
body (part c) = step from_unit then rule (unit c) then step to_here
-- unit: '..' | ".." | \b | an expansion | bytes
body (unit c) = choose (quote_begins c) (rule (quote c)) (choose (dollar_begins c) (rule (dollar_part c)) (choose (other_unit_begins c) (rule (other_unit c)) (step (literal c))))
body (quote c) = choose (exact_begins c) (step exact) (choose (double_quote_begins c) (rule double_quotes) (choose (escape_begins c) (step escaped) (rule (odd_quote c))))
body (odd_quote c) = choose (pair_begins c) (step nested_exact) (step lone_quote)
body double_quotes = step (byte 34) then star (unit_begins in_double) (rule (part in_double)) then step (byte 34)
body (dollar_part c) = choose expansion_begins (rule (expansion c)) (rule (dollar_quote c))
body (dollar_quote c) = choose (locale_begins c) (rule locale) (choose (lone_locale_begins c) (step lone_locale) (rule (ansi_quote c)))
body (ansi_quote c) = choose (ansi_begins c) (step ansi) (choose (ansi_pair_begins c) (step nested_ansi) (step lone_ansi))
body locale = step open_locale then star (unit_begins in_double) (rule (part in_double)) then step (byte 34)
-- expansion: $(( .. )) | $( list? ) | ${..} | $[ .. ] | $a
body (expansion c) = choose sum_begins (rule (sum c)) (choose subst_begins (rule subst) (rule (named_expansion c)))
body (named_expansion c) = choose brace_begins (rule (braces c)) (choose old_begins (rule old) (step dollar))
-- `..` | <( list? ) | @( .. )
body (other_unit c) = choose (odd_tick_begins c) (step odd_ticks) (choose tick_begins (rule ticks) (choose (process_begins c) (rule process) (rule (glob_unit c))))
body (glob_unit c) = choose (in_command c) (rule glob) (step lone_glob)
body process = step open_process then step enter then rule maybe_list then step (op Close) then step leave
body glob = step open_glob then star (unit_begins in_group) (rule (part in_group)) then step (close_group 41)
body old = step open_old then step enter then star (unit_begins in_brackets) (rule (part in_brackets)) then step (close_group 93) then step leave
body subst = step open_subst then step enter then rule maybe_list then step (op Close) then step leave
body ticks = step open_ticks then step enter then rule maybe_list then step close_ticks then step leave
-- ---- '${' .. '}'

body (braces c) = choose length_begins (rule (length_braces c)) (choose pointed_begins (rule (pointed_braces c)) (choose named_begins (rule (valued_braces c)) (rule (special_braces c))))
body (length_braces c) = step open_length then step enter then rule (index c) then step (byte 125) then step leave
body (pointed_braces c) = step open_pointed then step enter then rule (index c) then choose names_begin (step names) pass then rule (operation c) then step leave
body (valued_braces c) = step open_named then step enter then rule (index c) then rule (operation c) then step leave
body (special_braces c) = step open_special then step enter then rule (operation c) then step leave
-- index: '[@]' | '[*]' | subscript
body (index c) = choose members_begin (step members) (choose (byte_begins 91) (rule (subscript c)) pass)
body (subscript c) = step open_key then step to_here then star (unit_begins (inner keys c)) (rule (key_part (inner keys c))) then step to_here then step (end_sum false bare) then step (byte 93)
body (key_part c) = choose expansion_begins (rule (key_operand c)) (rule (part c))
body (key_operand c) = step begin_operand then rule (part c) then step end_operand
-- operation: '}' | an operator, words or expressions, '}'
body (operation c) = choose (byte_begins 125) (step (byte 125)) (choose slice_begins (rule (slice c)) (choose (byte_begins 47) (rule (replace c)) (rule (other_operation c))))
body (other_operation c) = choose fill_begins (rule (fill c)) (choose trim_begins (rule (trim c)) (choose case_begins (rule (casing c)) (rule transform)))
body transform = step transform_op then step (byte 125)
body (fill c) = step fill_op then rule (braced (inner fills c)) then step (byte 125)
body (trim c) = step trim_op then rule (braced (inner_pattern patterns c)) then step (byte 125)
body (casing c) = step case_op then rule (braced (inner_pattern patterns c)) then step (byte 125)
body (replace c) = step replace_op then rule (braced (inner_pattern firsts c)) then choose (byte_begins 47) (rule (replacement c)) pass then step (byte 125)
body (replacement c) = step (byte 47) then rule (braced (inner seconds c))
body (slice c) = step slice_op then rule (offset c) then choose (byte_begins 58) (rule (slice_length c)) pass then step (byte 125)
body (offset c) = step begin_sum then star (sum_goes_on to_colon) (rule (sum_part to_colon (inner_sum c))) then step (end_sum false c.quoting)
body (slice_length c) = step (byte 58) then step begin_sum then star (sum_goes_on to_brace) (rule (sum_part to_brace (inner_sum c))) then step (end_sum false c.quoting)
body (braced c) = step to_here then star (unit_begins c) (rule (part c)) then step to_here
-- ---- expressions

-- sum: $(( part* )); part: '(' part* ')' | an expansion | bytes
body (sum c) = step open_sum then step enter then step begin_sum then star (sum_goes_on to_close) (rule (sum_part to_close (inner_sum c))) then step (end_sum false bare) then step close_double then step leave
body (sum_part s c) = choose sum_opens (rule (sum_group c)) (choose sum_expands (rule (sum_operand c)) (step (sum_bytes s)))
body (sum_group c) = step (byte 40) then step enter then star (sum_goes_on to_close) (rule (sum_part to_close c)) then step (byte 41) then step leave
body (sum_operand c) = step begin_operand then rule (part c) then step end_operand
body body_parts = step from_unit then star (unit_begins in_here) (rule (part in_here)) then step to_here then step ends
