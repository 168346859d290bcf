-- A Bash script as plain data with the places of its nodes: what the definitions of reading, of refusals and of meaning go
-- over. A span has the offsets of the first byte and of the one behind the last.
use Rattle.std.specs.Prelude.{ℕ, Bool, List, Option}
use Rattle.span_text.specs.declared.expr.Expr.{Expr}
use Rattle.span_text.specs.declared.span.Span.{Span}

-- Constructs that are read and refused, by what is refused.
pub data Code : Type 0 where
  -- `<(a)`, `>(a)`
  process_substitution : Code
  -- `@(a|b)`
  extended_glob : Code
  -- `=~`
  regex_test : Code
  -- `coproc`, `select`, `time`
  reserved_command : Code
  -- `${!a}`, `${!a*}`, `${a@Q}`
  indirect : Code
  -- `${a^b}`
  case_pattern : Code
  -- `${a?b}`
  error_expansion : Code
  -- `$$`, `$!`, `$-`, `$_`
  special_parameter : Code
  -- `$"a"`
  locale_quote : Code
  -- `$[1]`
  old_arithmetic : Code
  -- `$'\c'`
  ansi_escape : Code
  -- `"${a-'b'}"`
  nested_quote : Code
  -- a backslash between backquotes
  backquote : Code
  -- `{a}>b`, `10>b`
  descriptor : Code
  -- `<>`
  read_write : Code
  -- `$(< a)`
  read_substitution : Code
  -- a function whose name is none
  function_name : Code
  -- what spells no expression
  arith_form : Code
  -- a code of the table, by its number, that no text spells as a node
  unspelled : ℕ → Code

pub record Name : Type 0 where
  pub text : List ℕ
  pub span : Span

-- an operator of `[[ ]]`
pub record TestOp : Type 0 where
  pub text : List ℕ
  pub span : Span

-- `-`, `=`, `+`
pub data FillTest : Type 0 where
  default : FillTest
  assigning : FillTest
  alternate : FillTest

-- `${a/p/w}`, `${a//p/w}`, `${a/#p/w}`, `${a/%p/w}`
pub data ReplaceAt : Type 0 where
  at_first : ReplaceAt
  at_all : ReplaceAt
  at_start : ReplaceAt
  at_end : ReplaceAt

-- `;;` or nothing, `;&`, `;;&`
pub data ItemEnd : Type 0 where
  stop : ItemEnd
  fall : ItemEnd
  test_on : ItemEnd

-- `<`, `>` and `>|`, `>>`, here-documents with a quoted delimiter and without, `<<<`, `<&`, `>&`, `&>`, `&>>`
pub data RedirectOp : Type 0 where
  read : RedirectOp
  write : RedirectOp
  append : RedirectOp
  here_literal : RedirectOp
  here_expanded : RedirectOp
  here_string : RedirectOp
  copy_in : RedirectOp
  copy_out : RedirectOp
  both_out : RedirectOp
  both_append : RedirectOp
  refused_op : Code → Span → RedirectOp

mutual
  -- a part of a word (3.1.2, 3.5)
  pub data Part : Type 0 where
    -- bytes that stand for themselves
    plain : (text : List ℕ) → Part
    -- quoted: `'ab'`, `\a`, `$'a'`
    exact : (text : List ℕ) → Part
    -- `"a$b"`
    double : Parts → Part
    tilde : Part
    param : Param → ParamOp → Part
    -- `$(a)`
    subst : Script → Part
    -- `$((a+1))`
    arith_part : Arith → Part
    -- `a=(b)` as a word of `declare`
    compound : Assign → Part
    refused_part : Code → Span → Part

  pub data Parts : Type 0 where
    no_part : Parts
    part : Part → Span → Parts → Parts

  pub data Word : Type 0 where
    word : Parts → Span → Word

  pub data Words : Type 0 where
    no_word : Words
    next_word : Word → Words → Words

  -- an expression, the expansions that stand in it, the names that it uses, and its assignments and steps
  pub data Arith : Type 0 where
    arith : Expr → Words → (names : List Name) → (effects : List Span) → Span → Arith

  -- an expression that may be left out
  pub data MaybeArith : Type 0 where
    no_arith : MaybeArith
    some_arith : Arith → MaybeArith

  -- a subscript, as a key and as an expression, or the place where it spells none
  pub data Subscript : Type 0 where
    index : Word → Arith → Span → Subscript
    key_only : Word → (bad : Span) → Span → Subscript

  pub data MaybeSubscript : Type 0 where
    no_subscript : MaybeSubscript
    some_subscript : Subscript → MaybeSubscript

  -- what is expanded (3.4, 6.7)
  pub data Param : Type 0 where
    named : Name → Param
    -- `a[i]`
    member : Name → Subscript → Param
    -- `a[@]` and `a[*]`
    members : Name → (at : Bool) → Param
    -- a positional parameter by its decimal digits
    digits : (text : List ℕ) → Param
    -- `$#`, `$?`, `$@`, `$*`
    count : Param
    status : Param
    at : Param
    star : Param

  -- (3.5.3)
  pub data ParamOp : Type 0 where
    as_is : ParamOp
    length_of : ParamOp
    -- `${!a[@]}`
    keys : ParamOp
    fill : FillTest → (colon : Bool) → Word → ParamOp
    trim : (suffix longest : Bool) → Word → ParamOp
    slice : (offset : Arith) → (length : MaybeArith) → ParamOp
    replace : ReplaceAt → (pattern by : Word) → ParamOp
    casing : (upper all : Bool) → ParamOp

  -- what stands behind the `=` of an assignment
  pub data Value : Type 0 where
    no_value : Value
    value : Word → Value
    -- `( )`
    items_value : Elements → Value

  -- `[i]=a` or `a`
  pub data Element : Type 0 where
    element : MaybeSubscript → Value → Span → Element

  pub data Elements : Type 0 where
    no_element : Elements
    next_element : Element → Elements → Elements

  pub data Assign : Type 0 where
    assign : Name → MaybeSubscript → (append : Bool) → Value → Span → Assign

  pub data Assigns : Type 0 where
    no_assign : Assigns
    next_assign : Assign → Assigns → Assigns

  -- (3.6)
  pub data Redirects : Type 0 where
    no_redirect : Redirects
    redirect : (fd : Option ℕ) (op : RedirectOp) → Word → Span → Redirects → Redirects

  -- a command and its redirections (3.2)
  pub data Command : Type 0 where
    command : Kind → Redirects → Span → Command

  pub data Kind : Type 0 where
    simple : Assigns → Words → Kind
    group : Script → Kind
    subshell : Script → Kind
    branching : Branches → Otherwise → Kind
    loop : (until : Bool) (test body : Script) → Kind
    walk : Name → ForWords → Script → Kind
    -- `for ((a; b; c))`
    arith_loop : (first test step : MaybeArith) → Script → Kind
    cases : Word → Items → Kind
    -- `((a))`
    arith_command : Arith → Kind
    -- `[[ a ]]`
    conditional : Cond → Kind
    function : Name → Command → Kind
    refused_command : Code → Span → Kind

  -- `if a; then b`, `elif a; then b`
  pub data Branches : Type 0 where
    no_branch : Branches
    branch : (test body : Script) → Branches → Branches

  pub data Otherwise : Type 0 where
    no_else : Otherwise
    otherwise : Script → Otherwise

  -- what `for` walks over: `"$@"`, or words behind `in`
  pub data ForWords : Type 0 where
    parameters : ForWords
    listed : Words → ForWords

  -- `a | b) c ;;`
  pub data Items : Type 0 where
    no_item : Items
    item : (patterns : Words) (body : Script) (end : ItemEnd) → Items → Items

  pub data Cond : Type 0 where
    or_cond : Cond → Cond → Cond
    and_cond : Cond → Cond → Cond
    not_cond : Cond → Cond
    text_cond : Word → Cond
    unary_cond : TestOp → Word → Cond
    binary_cond : Word → TestOp → Word → Cond

  pub data Stages : Type 0 where
    no_stage : Stages
    stage : Command → Stages → Stages

  -- for each `|` and `|&`, whether it is the second
  pub data Pipeline : Type 0 where
    pipeline : (negated : Bool) → Stages → (both : List Bool) → Pipeline

  -- pipelines behind others: `&& p`, `|| p`
  pub data Links : Type 0 where
    no_link : Links
    and_link : Pipeline → Links → Links
    or_link : Pipeline → Links → Links

  pub data Chain : Type 0 where
    chain : Pipeline → Links → Chain

  -- chains, each with the place of an `&` behind it
  pub data Script : Type 0 where
    no_chain : Script
    next_chain : Chain → (background : Option Span) → Script → Script
