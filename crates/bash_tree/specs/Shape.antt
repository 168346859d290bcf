-- A Bash script as plain data, without places: what the definitions of reading and meaning go over.
use Rattle.std.specs.Prelude.{ℕ, Bool, false, List}

mutual
  -- a part of a word
  pub data Part : Type 0 where
    plain : (text : List ℕ) → Part
    exact : (text : List ℕ) → Part
    double : (parts : Parts) → Part
    -- `$name`
    param : (name : List ℕ) → Part

  pub data Parts : Type 0 where
    no_part : Parts
    part : Part → Parts → Parts

  pub data Words : Type 0 where
    no_word : Words
    word : Parts → Words → Words

  -- what stands behind the `=` of an assignment
  pub data Value : Type 0 where
    no_value : Value
    value : Parts → Value

  pub data Assigns : Type 0 where
    no_assign : Assigns
    assign : (name : List ℕ) (append : Bool) (value : Value) → Assigns → Assigns

  pub data Command : Type 0 where
    simple : Assigns → Words → Command

  pub data Stages : Type 0 where
    no_stage : Stages
    stage : Command → Stages → Stages

  pub data Pipeline : Type 0 where
    pipeline : (negated : Bool) → Stages → Pipeline

  -- pipelines behind others: `&& p`, `|| p`
  pub data Links : Type 0 where
    no_link : Links
    and_link : Pipeline → Links → Links
    or_link : Pipeline → Links → Links

  pub data Chain : Type 0 where
    chain : Pipeline → Links → Chain

  pub data Script : Type 0 where
    no_item : Script
    item : Chain → Script → Script
    -- `chain &`
    background_item : Chain → Script → Script

-- a command by itself
abbrev pub alone : Command → Chain
alone c = chain (pipeline false (stage c no_stage)) no_link
