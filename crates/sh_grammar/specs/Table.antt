-- The grammar of sh, as a table (POSIX 2.10.2).
use Rattle.text_grammar.specs.Grammar.{Grammar, pass, fail, step, choose, star, rule, ◌then◌}
use Rattle.sh_grammar.specs.Bytes.{Context, in_word, in_double, in_body, fill_context, trim_context}
use Rattle.sh_grammar.specs.Tokens.{Op, Newline, Semi, SemiSemi, AndIf, OrIf, Pipe, Open, Close, Io, Word, Key, If, Then, Elif, Else, Fi, For, In, Until, While, Do, Done, Case, Esac, OpenBrace, CloseBrace, Bang}

-- What is read at once. All but the units of words stand behind blanks, joins and a comment.
pub data Step : Type 0 where
  op : Op → Step
  key : Key → Step
  -- a newline, and the bodies of the here-documents that were named before it
  line : Step
  -- the end of the text, where no body is still to come
  ends : Step
  -- a name that is a whole word
  name : Step
  -- `name=`
  assign_name : Step
  -- the digit before `<` or `>`
  descriptor : Step
  -- `<`, `>`, `>>`
  file_op : Step
  -- `<<` or `<<-`, and the delimiter
  here : Step
  -- `<&` or `>&`, and a digit or `-`
  copy : Step
  to_word : Step
  tilde : Step
  -- bytes that stand for themselves
  literal : Context → Step
  -- a backslash, and the byte that it quotes
  escaped : Context → Step
  -- `'ab'`
  exact : Step
  -- `"`
  quote : Step
  -- `$a`
  dollar : Step
  -- `${a}`, `${#a}`
  closed : Step
  -- `${a-`, `${a%%`
  open_head : Step
  -- `$(`
  open_subst : Step
  -- `}`
  close_brace : Step
  -- `$((`
  open_sum : Step
  -- bytes of an arithmetic expansion; an expansion that is one of its operands begins; `(`; `)`
  sum_bytes : Step
  operand : Step
  sum_open : Step
  sum_close : Step
  -- `))`, where the bytes and operands before it spell an expression
  close_sum : Step
  -- a level of nesting begins, and ends
  enter : Step
  leave : Step

-- What comes next.
pub data Test : Type 0 where
  next : Op → Test
  key_next : Key → Test
  -- `;` or a newline
  separates : Test
  -- `;` and a command behind it
  goes_on : Test
  -- `&&` or `||`
  links : Test
  pipeline_begins : Test
  compound_begins : Test
  function_begins : Test
  simple_begins : Test
  assign_begins : Test
  redirect_begins : Test
  here_begins : Test
  copy_begins : Test
  -- an assignment or a redirection
  prefix_begins : Test
  -- a word or a redirection
  suffix_begins : Test
  -- `(` or a word other than `esac`
  item_begins : Test
  tilde_begins : Test
  unit_begins : Context → Test
  single_begins : Context → Test
  double_begins : Context → Test
  escape_begins : Context → Test
  expansion_begins : Test
  subst_begins : Test
  brace_begins : Test
  closed_begins : Test
  filling_begins : Test
  sum_begins : Test
  sum_goes_on : Test
  sum_opens : Test

pub data Rule : Type 0 where
  -- lines and lists
  piece : Rule
  line_piece : Rule
  complete : Rule
  complete_more : Rule
  list : Rule
  maybe_list : Rule
  list_more : Rule
  lines : Rule
  -- pipelines
  chain : Rule
  link : Rule
  and_link : Rule
  or_link : Rule
  pipeline : Rule
  bang : Rule
  stage : Rule
  -- commands
  command : Rule
  compound_command : Rule
  compound : Rule
  other_compound : Rule
  group : Rule
  subshell : Rule
  if_command : Rule
  if_branch : Rule
  elif_branch : Rule
  else_part : Rule
  while_loop : Rule
  until_loop : Rule
  do_body : Rule
  for_loop : Rule
  for_words : Rule
  for_in : Rule
  case_command : Rule
  case_in : Rule
  case_item : Rule
  pattern_more : Rule
  item_end : Rule
  function_command : Rule
  simple_command : Rule
  prefixed : Rule
  called : Rule
  suffix : Rule
  prefix_item : Rule
  suffix_item : Rule
  assign : Rule
  redirect : Rule
  target : Rule
  file : Rule
  -- words
  word : Rule
  value : Rule
  word_parts : Rule
  more_parts : Rule
  pattern : Rule
  part : Context → Rule
  double_quotes : Rule
  expansion : Context → Rule
  braces : Context → Rule
  fill : Context → Rule
  trim : Context → Rule
  subst : Rule
  sum : Rule
  sum_part : Rule
  sum_group : Rule
  -- the body of a here-document that is expanded
  body_parts : Rule

abbrev pub Gram : Type 0
Gram = Grammar Step Test Rule

abbrev pub body : Rule → Gram
-- ---- lines and lists

-- piece: newline | complete (newline | end)
body piece = choose (next Newline) (step line) (rule complete then choose (next Newline) (step line) (step ends))
-- line_piece: newline | complete newline
body line_piece = choose (next Newline) (step line) (rule complete then step line)
-- complete: chain (';' chain)* ';'?
body complete = rule chain then star goes_on (rule complete_more) then choose (next Semi) (step (op Semi)) pass
body complete_more = step (op Semi) then rule chain
-- list: newline* chain ((';' | newline) newline* chain?)*, without ';' behind a newline or another ';'
body list = rule lines then rule chain then star separates (rule list_more)
body maybe_list = rule lines then choose pipeline_begins (rule chain then star separates (rule list_more)) pass
body list_more = choose (next Semi) (step (op Semi)) (step line) then rule lines then choose pipeline_begins (rule chain) (choose (next Semi) fail pass)
body lines = star (next Newline) (step line)
-- ---- pipelines

-- chain: pipeline (('&&' | '||') newline* pipeline)*
body chain = rule pipeline then star links (rule link)
body link = choose (next AndIf) (rule and_link) (rule or_link)
body and_link = step (op AndIf) then rule lines then rule pipeline
body or_link = step (op OrIf) then rule lines then rule pipeline
-- pipeline: '!'? command ('|' newline* command)*
body pipeline = choose (key_next Bang) (rule bang) pass then rule command then star (next Pipe) (rule stage)
body bang = step (key Bang)
body stage = step (op Pipe) then rule lines then rule command
-- ---- commands

-- command: compound redirect* | function | simple
body command = choose compound_begins (rule compound_command) (choose function_begins (rule function_command) (rule simple_command))
body compound_command = rule compound then star redirect_begins (rule redirect)
body compound = choose (next Open) (rule subshell) (choose (key_next OpenBrace) (rule group) (choose (key_next If) (rule if_command) (rule other_compound)))
body other_compound = choose (key_next While) (rule while_loop) (choose (key_next Until) (rule until_loop) (choose (key_next For) (rule for_loop) (rule case_command)))
-- group: '{' list '}'; subshell: '(' list ')'
body group = step (key OpenBrace) then step enter then rule list then step (key CloseBrace) then step leave
body subshell = step (op Open) then step enter then rule list then step (op Close) then step leave
-- if list then list (elif list then list)* (else list)? fi
body if_command = step (key If) then step enter then rule if_branch then star (key_next Elif) (rule elif_branch) then choose (key_next Else) (rule else_part) pass then step (key Fi) then step leave
body if_branch = rule list then step (key Then) then rule list
body elif_branch = step (key Elif) then rule if_branch
body else_part = step (key Else) then rule list
-- (while | until) list do list done
body while_loop = step (key While) then step enter then rule list then rule do_body then step leave
body until_loop = step (key Until) then step enter then rule list then rule do_body then step leave
body do_body = step (key Do) then rule list then step (key Done)
-- for NAME (';' newline* | newline* ('in' word* (';' | newline) newline*)?) do list done
body for_loop = step (key For) then step name then step enter then rule for_words then rule do_body then step leave
body for_words = choose (next Semi) (step (op Semi) then rule lines) (rule lines then choose (key_next In) (rule for_in) pass)
body for_in = step (key In) then star (next Word) (rule word) then choose (next Semi) (step (op Semi)) (step line) then rule lines
-- case word newline* in newline* item* esac
body case_command = step (key Case) then step enter then rule word then rule lines then rule case_in then step leave
body case_in = step (key In) then rule lines then star item_begins (rule case_item) then step (key Esac)
-- item: '('? pattern ('|' pattern)* ')' (list | newline*) (';;' newline*)?, and only the last may lack its ';;'
body case_item = choose (next Open) (step (op Open)) pass then rule pattern then star (next Pipe) (rule pattern_more) then step (op Close) then rule maybe_list then rule item_end
body pattern_more = step (op Pipe) then rule pattern
body item_end = choose (next SemiSemi) (step (op SemiSemi) then rule lines) (choose (key_next Esac) pass fail)
-- NAME '(' ')' newline* compound redirect*
body function_command = step name then step (op Open) then step (op Close) then rule lines then rule compound_command
-- (assignment | redirect)* (word | redirect)*, one at least
body simple_command = choose simple_begins (choose prefix_begins (rule prefixed) (rule called)) fail
body prefixed = rule prefix_item then star prefix_begins (rule prefix_item) then rule suffix
body called = rule word then rule suffix
body suffix = star suffix_begins (rule suffix_item)
body prefix_item = choose redirect_begins (rule redirect) (rule assign)
body suffix_item = choose redirect_begins (rule redirect) (rule word)
body assign = step assign_name then choose (unit_begins in_word) (rule value) pass
-- redirect: digit? target
body redirect = choose (next Io) (step descriptor) pass then rule target
body target = choose here_begins (step here) (choose copy_begins (step copy) (rule file))
body file = step file_op then rule word
-- ---- words

-- word: part+, of which the first may be `~`; a pattern has no `~`
body word = step to_word then rule word_parts
body value = rule word_parts
body word_parts = choose tilde_begins (step tilde) (rule (part in_word)) then rule more_parts
body more_parts = star (unit_begins in_word) (rule (part in_word))
body pattern = step to_word then rule (part in_word) then rule more_parts
-- part: '..' | ".." | \b | an expansion | bytes
body (part c) = choose (single_begins c) (step exact) (choose (double_begins c) (rule double_quotes) (choose (escape_begins c) (step (escaped c)) (choose expansion_begins (rule (expansion c)) (step (literal c)))))
body double_quotes = step quote then star (unit_begins in_double) (rule (part in_double)) then step quote
-- expansion: $(( .. )) | $( list? ) | ${..} | $a
body (expansion c) = choose sum_begins (rule sum) (choose subst_begins (rule subst) (choose brace_begins (rule (braces c)) (step dollar)))
body (braces c) = choose closed_begins (step closed) (choose filling_begins (rule (fill c)) (rule (trim c)))
body (fill c) = step open_head then step enter then star (unit_begins (fill_context c)) (rule (part (fill_context c))) then step close_brace then step leave
body (trim c) = step open_head then step enter then star (unit_begins (trim_context c)) (rule (part (trim_context c))) then step close_brace then step leave
body subst = step open_subst then step enter then rule maybe_list then step (op Close) then step leave
-- sum: $(( part* )); part: '(' part* ')' | an expansion | bytes
body sum = step open_sum then step enter then star sum_goes_on (rule sum_part) then step close_sum then step leave
body sum_part = choose sum_opens (rule sum_group) (choose expansion_begins (step operand then rule (expansion in_double)) (step sum_bytes))
body sum_group = step sum_open then step enter then star sum_goes_on (rule sum_part) then step sum_close then step leave
body body_parts = star (unit_begins in_body) (rule (part in_body)) then step ends
