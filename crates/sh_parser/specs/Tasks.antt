-- What is still to be read.
use Rattle.std.specs.Prelude.{ℕ, Bool, true, false, ◌&&◌, List, [], ◌∷◌, ◌++◌, map, reverse, Option, Some, ◌≡◌, Result, Ok, Err}
use Rattle.text_grammar.specs.Grammar.{star}
use Rattle.text_grammar.specs.Values.{vals, behind, go}
use Rattle.sh_grammar.specs.Bytes.{Text}
use Rattle.sh_grammar.specs.Expansions.{◌>>=◌}
use Rattle.sh_grammar.specs.State.{State, Node}
use Rattle.sh_grammar.specs.Table as table
use Rattle.sh_grammar.specs.Table.{Rule, Gram}
use Rattle.sh_grammar.specs.Steps.{run_step, holds}
use Rattle.sh_grammar.specs.Acts.{act}
use Rattle.sh_grammar.specs.Spelling.{sh}
use Rattle.sh_parser.specs.declared.table.Item.{Item}
use Rattle.sh_parser.specs.declared.table.Test.{Test}
use Rattle.sh_parser.specs.declared.table.Unit.{Unit}
use Rattle.sh_parser.specs.declared.table.Unit.TheVariants as units
use Rattle.sh_parser.specs.declared.tasks.Task.{Task}
use Rattle.sh_parser.specs.declared.tasks.Task.TheVariants as tasks
use Rattle.sh_parser.specs.Tables as tables
use Rattle.sh_parser.specs.Tables.{items_gram, is_small}
use Rattle.sh_parser.specs.Values.{nodes}
use Rattle.sh_parser.specs.Views.{known}
use Rattle.sh_parser.specs.declared.fault.Stop.{Stop}
use Rattle.sh_parser.specs.Answers.{is_memory}
use Rattle.text_grammar.specs.Answers.{FailsAs}

-- a task, without places
pub data Todo : Type 0 where
  items : List Item → Todo
  unit : Unit → Todo
  -- again and again, as long as the test holds
  turns : Test → Unit → Todo
  -- a rule ends, which began behind these values
  make : Rule → List Node → Todo

abbrev pub todo_of : Task → Todo
todo_of (tasks.Items is) = items is.now
todo_of tasks.Here = unit units.Here
todo_of (tasks.Star t u) = turns t u
todo_of (tasks.Make r front span) = make (tables.rule r) (nodes front)

-- the last task of the stack comes first
abbrev pub todos : List Task → List Todo
todos ts = reverse (map todo_of ts)

-- items in front of tasks, if there are any
abbrev pub then_items : List Item → List Todo → List Todo
then_items [] ts = ts
then_items (x ∷ xs) ts = items (x ∷ xs) ∷ ts

-- what a grammar reads, behind what was read before
abbrev pub goes : ℕ → List Text → Gram → List Node → State → Option (List Node × State)
goes n ds g xs s = go (run_step (known n ds)) holds (vals (sh n ds)) g xs s

-- what the tasks give, behind the values that the rule has so far
abbrev pub go_on : ℕ → List Text → List Todo → List Node → State → Option (List Node × State)
go_on n ds [] xs s = Some (xs, s)
go_on n ds (items is ∷ ts) xs s = goes n ds (items_gram is) xs s >>= λ y. go_on n ds ts y.0 y.1
go_on n ds (unit u ∷ ts) xs s = goes n ds (tables.unit u) xs s >>= λ y. go_on n ds ts y.0 y.1
go_on n ds (turns t u ∷ ts) xs s = behind xs (vals (sh n ds) (star (tables.test t) (tables.unit u)) s) >>= λ y. go_on n ds ts y.0 y.1
go_on n ds (make r front ∷ ts) xs s = go_on n ds ts (front ++ act r xs) s

-- each repetition takes bytes
abbrev pub is_ready : Todo → Bool
is_ready (items is) = is_small (items_gram is)
is_ready (unit u) = true
is_ready (turns t u) = is_small (star (tables.test t) (tables.unit u))
is_ready (make r front) = true

abbrev pub all_ready : List Todo → Bool
all_ready [] = true
all_ready (t ∷ ts) = is_ready t && all_ready ts

-- what a turn does: the tasks behind it give what those before it gave
abbrev pub Turns : {X Y : Type 0} → Result X Stop → (X → Option Y) → Option Y → Type 0
Turns (Ok x) after before = before ≡ after x
Turns (Err e) after before = FailsAs (is_memory e) before

-- rules that give back the values below them
abbrev pub leads_on : Rule → Bool
leads_on table.piece = true
leads_on table.line_piece = true
leads_on table.complete = true
leads_on table.complete_more = true
leads_on table.list_more = true
leads_on table.lines = true
leads_on table.link = true
leads_on table.stage = true
leads_on table.command = true
leads_on table.compound = true
leads_on table.other_compound = true
leads_on table.elif_branch = true
leads_on table.do_body = true
leads_on table.for_words = true
leads_on table.case_in = true
leads_on table.pattern_more = true
leads_on table.item_end = true
leads_on table.prefixed = true
leads_on table.called = true
leads_on table.suffix = true
leads_on table.prefix_item = true
leads_on table.suffix_item = true
leads_on table.target = true
leads_on table.word_parts = true
leads_on table.more_parts = true
leads_on (table.part x) = true
leads_on (table.expansion x) = true
leads_on (table.braces x) = true
leads_on table.sum_part = true
leads_on table.sum_group = true
leads_on r = false
