-- What is still to be read.
use Rattle.std.specs.Prelude.{ℕ, Bool, true, false, ◌&&◌, List, [], ◌∷◌, ◌++◌, Option, Some, None}
use Rattle.text_grammar.specs.Grammar.{choose, star}
use Rattle.text_grammar.specs.Ranks.{small}
use Rattle.text_grammar.specs.Values.{vals, behind, go}
use Rattle.bash_grammar.specs.Acts.{act}
use Rattle.bash_grammar.specs.Bytes.{Context}
use Rattle.bash_grammar.specs.Depths.{ranks}
use Rattle.bash_grammar.specs.Moves as moves
use Rattle.bash_grammar.specs.Nodes.{Node}
use Rattle.bash_grammar.specs.Spelling.{bash}
use Rattle.bash_grammar.specs.State.{State, Found}
use Rattle.bash_grammar.specs.Steps.{run_step}
use Rattle.bash_grammar.specs.Table as table
use Rattle.bash_grammar.specs.Table.{Gram}
use Rattle.bash_grammar.specs.Tests.{holds}
use Rattle.bash_grammar.specs.Tokens.{◌>>=◌}
use Rattle.bash_table.specs.declared.table.Guard.{Guard}
use Rattle.bash_table.specs.declared.table.Item.{Item}
use Rattle.bash_table.specs.declared.table.Item.TheVariants as the_items
use Rattle.bash_table.specs.declared.table.Unit.{Unit}
use Rattle.bash_table.specs.declared.table.Unit.TheVariants as units
use Rattle.bash_table.specs.Tables as tables
use Rattle.bash_table.specs.Tables.{guard, items_gram}
use Rattle.bash_table.specs.Views.{known}

-- a task, by the place of the rule that it belongs to
pub data Todo : Type 0 where
  items : Context → List Item → Todo
  unit : Context → Unit → Todo
  -- the first where the test holds, else the second
  which : Context → Guard → Unit → Unit → Todo
  -- again and again, as long as the test holds
  turns : Context → Guard → Unit → Todo
  -- a rule ends, which began behind these values
  make : table.Rule → List Node → Todo

-- items in front of tasks, if there are any
abbrev pub then_items : Context → List Item → List Todo → List Todo
then_items c [] ts = ts
then_items c (x ∷ xs) ts = items c (x ∷ xs) ∷ ts

-- whether a test holds
abbrev pub asked : ℕ → List Found → moves.Test → State → Bool
asked n ds t s = holds (known n ds).scan t s

-- what a grammar reads, behind what was read before
abbrev pub goes : ℕ → List Found → Gram → List Node → State → Option (List Node × State)
goes n ds g xs s = go (run_step (known n ds)) (holds (known n ds).scan) (vals (bash n ds)) g xs s

-- what the tasks give, behind the values that the rule has so far
abbrev pub go_on : ℕ → List Found → List Todo → List Node → State → Option (List Node × State)
go_on n ds [] xs s = Some (xs, s)
go_on n ds (items c is ∷ ts) xs s = goes n ds (items_gram c is) xs s >>= λ y. go_on n ds ts y.0 y.1
go_on n ds (unit c u ∷ ts) xs s = goes n ds (tables.unit c u) xs s >>= λ y. go_on n ds ts y.0 y.1
go_on n ds (which c t u v ∷ ts) xs s = goes n ds (choose (guard t c) (tables.unit c u) (tables.unit c v)) xs s >>= λ y. go_on n ds ts y.0 y.1
go_on n ds (turns c t u ∷ ts) xs s = behind xs (vals (bash n ds) (star (guard t c) (tables.unit c u)) s) >>= λ y. go_on n ds ts y.0 y.1
go_on n ds (make r front ∷ ts) xs s = go_on n ds ts (front ++ act r xs) s

-- the test that the first of these items asks
abbrev pub first_guard : List Item → Option Guard
first_guard [] = None
first_guard (the_items.One u ∷ is) = None
first_guard (the_items.If t u v ∷ is) = Some t
first_guard (the_items.Or t u q v w ∷ is) = Some t
first_guard (the_items.Star t u ∷ is) = None
first_guard (the_items.Either t u ∷ is) = Some t
first_guard (the_items.Both t u v ∷ is) = Some t
first_guard (the_items.Where t ∷ is) = Some t
first_guard (the_items.Only t ∷ is) = Some t

abbrev pub unit_guard : Unit → Option Guard
unit_guard (units.Unless t) = Some t
unit_guard (units.When t) = Some t
unit_guard u = None

-- the test that a task asks
abbrev pub question : Todo → Option Guard
question (items c is) = first_guard is
question (unit c u) = unit_guard u
question (which c t u v) = Some t
question (turns c t u) = Some t
question (make r front) = None

-- each repetition takes bytes
abbrev pub is_small : Gram → Bool
is_small g = small ranks g

abbrev pub is_ready : Todo → Bool
is_ready (items c is) = is_small (items_gram c is)
is_ready (unit c u) = true
is_ready (which c t u v) = true
is_ready (turns c t u) = is_small (star (guard t c) (tables.unit c u))
is_ready (make r front) = true

abbrev pub all_ready : List Todo → Bool
all_ready [] = true
all_ready (t ∷ ts) = is_ready t && all_ready ts

-- what items do, where the test that they ask holds or not: the tasks in their place, or none where no text reads
abbrev pub items_turn : Context → List Item → Bool → List Todo → Option (List Todo)
items_turn c [] b ts = Some ts
items_turn c (the_items.One u ∷ is) b ts = Some (unit c u ∷ then_items c is ts)
items_turn c (the_items.If t u v ∷ is) true ts = Some (unit c u ∷ then_items c is ts)
items_turn c (the_items.If t u v ∷ is) false ts = Some (unit c v ∷ then_items c is ts)
items_turn c (the_items.Or t u q v w ∷ is) true ts = Some (unit c u ∷ then_items c is ts)
items_turn c (the_items.Or t u q v w ∷ is) false ts = Some (which c q v w ∷ then_items c is ts)
items_turn c (the_items.Star t u ∷ is) b ts = Some (turns c t u ∷ then_items c is ts)
items_turn c (the_items.Either t u ∷ is) true ts = Some (unit c u ∷ ts)
items_turn c (the_items.Either t u ∷ is) false ts = Some (then_items c is ts)
items_turn c (the_items.Both t u v ∷ is) true ts = Some (unit c u ∷ unit c v ∷ ts)
items_turn c (the_items.Both t u v ∷ is) false ts = Some (then_items c is ts)
items_turn c (the_items.Where t ∷ is) true ts = Some (then_items c is ts)
items_turn c (the_items.Where t ∷ is) false ts = Some ts
items_turn c (the_items.Only t ∷ is) true ts = Some (then_items c is ts)
items_turn c (the_items.Only t ∷ is) false ts = None

-- whether a test that may be asked holds
abbrev pub answer : ℕ → List Found → Context → Option Guard → State → Bool
answer n ds c None s = false
answer n ds c (Some t) s = asked n ds (guard t c) s

-- the tasks, where there are any, give this
abbrev pub go_if : ℕ → List Found → Option (List Todo) → List Node → State → Option (List Node × State)
go_if n ds None xs s = None
go_if n ds (Some ts) xs s = go_on n ds ts xs s
