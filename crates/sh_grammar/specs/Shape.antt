-- An sh script as plain data, without places: what the definitions of reading and of meaning go over.
use Rattle.std.specs.Prelude.{ℕ, Bool, List, Option}
use Rattle.span_text.specs.declared.expr.Expr.{Expr}

-- what is expanded (POSIX 2.5.1, 2.5.2)
pub data Param : Type 0 where
  named : (name : List ℕ) → Param
  -- a positional parameter by its decimal digits; `0` is the script's name
  digits : (text : List ℕ) → Param
  -- `$#`, `$?`, `$@`, `$*`
  count : Param
  status : Param
  at : Param
  star : Param

-- `-`, `=`, `+`
pub data FillTest : Type 0 where
  default : FillTest
  assigning : FillTest
  alternate : FillTest

-- `<`, `>`, `>>`, here-documents with a quoted delimiter and without, `<&`, `>&` (2.7)
pub data RedirectOp : Type 0 where
  read : RedirectOp
  write : RedirectOp
  append : RedirectOp
  here_literal : RedirectOp
  here_expanded : RedirectOp
  copy_in : RedirectOp
  copy_out : RedirectOp

mutual
  -- a part of a word (2.2, 2.6)
  pub data Part : Type 0 where
    -- bytes that stand for themselves
    plain : (text : List ℕ) → Part
    -- quoted: `'ab'`, `\a`
    exact : (text : List ℕ) → Part
    -- `"a$b"`
    double : Parts → Part
    tilde : Part
    -- `$a`, `${a}`, `${#a}`, `${a-w}`, `${a%w}`
    param : Param → ParamOp → Part
    -- `$(a)`
    subst : Script → Part
    -- `$((a+1))`, with the expansions that stand in it
    arith : Expr → Words → Part

  pub data Parts : Type 0 where
    no_part : Parts
    part : Part → Parts → Parts

  pub data ParamOp : Type 0 where
    as_is : ParamOp
    length_of : ParamOp
    fill : FillTest → (colon : Bool) → Parts → ParamOp
    trim : (suffix longest : Bool) → Parts → ParamOp

  pub data Words : Type 0 where
    no_word : Words
    word : Parts → Words → Words

  -- what stands behind the `=` of an assignment
  pub data Value : Type 0 where
    no_value : Value
    value : Parts → Value

  pub data Assigns : Type 0 where
    no_assign : Assigns
    assign : (name : List ℕ) (value : Value) → Assigns → Assigns

  pub data Redirects : Type 0 where
    no_redirect : Redirects
    redirect : (fd : Option ℕ) (op : RedirectOp) (word : Parts) → Redirects → Redirects

  -- a command and its redirections (2.9)
  pub data Command : Type 0 where
    command : Kind → Redirects → Command

  pub data Kind : Type 0 where
    simple : Assigns → Words → Kind
    group : Script → Kind
    subshell : Script → Kind
    branching : Branches → Otherwise → Kind
    loop : (until : Bool) (test body : Script) → Kind
    walk : (name : List ℕ) → ForWords → Script → Kind
    cases : Parts → Items → Kind
    function : (name : List ℕ) → Command → Kind

  -- `if a; then b`, `elif a; then b`
  pub data Branches : Type 0 where
    no_branch : Branches
    branch : (test body : Script) → Branches → Branches

  pub data Otherwise : Type 0 where
    no_else : Otherwise
    otherwise : Script → Otherwise

  -- what `for` walks over: `"$@"`, or words behind `in`
  pub data ForWords : Type 0 where
    parameters : ForWords
    listed : Words → ForWords

  -- `a | b) c ;;`
  pub data Items : Type 0 where
    no_item : Items
    item : (patterns : Words) (body : Script) → Items → Items

  pub data Stages : Type 0 where
    no_stage : Stages
    stage : Command → Stages → Stages

  pub data Pipeline : Type 0 where
    pipeline : (negated : Bool) → Stages → Pipeline

  -- pipelines behind others: `&& p`, `|| p`
  pub data Links : Type 0 where
    no_link : Links
    and_link : Pipeline → Links → Links
    or_link : Pipeline → Links → Links

  pub data Chain : Type 0 where
    chain : Pipeline → Links → Chain

  pub data Script : Type 0 where
    no_chain : Script
    next_chain : Chain → Script → Script
