-- A language with brackets, to show how one is made: a text is words and lists in brackets, as `a(b(cd)e)`,
-- and the state is the bytes ahead.
use Rattle.std.specs.Prelude.{ℕ, Bool, true, false, ◌||◌, not, ◌==◌, List, [], ◌∷◌, take, drop, length, Option, Some, None, if◌then◌else◌}
use Rattle.std.specs.List.{prefix_len}
use Rattle.text_grammar.specs.Grammar.{Grammar, step, choose, star, rule, ◌then◌, Leaf, quiet, said}
use Rattle.text_grammar.specs.Language.{Language}

pub data Step : Type 0 where
  opens : Step
  closes : Step
  letters : Step
  ends : Step

pub data Test : Type 0 where
  at_open : Test
  at_item : Test

pub data Rule : Type 0 where
  text : Rule
  item : Rule
  word : Rule
  brackets : Rule

abbrev pub Bytes : Type 0
Bytes = List ℕ

-- the tree of a text
mutual
  pub data Item : Type 0 where
    a_word : Bytes → Item
    a_list : Items → Item

  pub data Items : Type 0 where
    no_item : Items
    an_item : Item → Items → Items

-- what steps and rules give
pub data Value : Type 0 where
  letters_of : Bytes → Value
  item_of : Item → Value

abbrev pub is_letter : ℕ → Bool
is_letter b = not (b == 40 || b == 41)

abbrev pub starts : (ℕ → Bool) → Bytes → Bool
starts p [] = false
starts p (b ∷ bs) = p b

abbrev pub byte : ℕ → Bytes → Option (Leaf Value × Bytes)
byte k [] = None
byte k (b ∷ bs) = if b == k then Some (quiet, bs) else None

abbrev pub at_end : Bytes → Option (Leaf Value × Bytes)
at_end [] = Some (quiet, [])
at_end (b ∷ bs) = None

-- so many bytes
abbrev pub cut : ℕ → Bytes → Option (Leaf Value × Bytes)
cut n bs = Some (said (letters_of (take n bs)), drop n bs)

abbrev pub run_step : Step → Bytes → Option (Leaf Value × Bytes)
run_step opens bs = byte 40 bs
run_step closes bs = byte 41 bs
run_step letters bs = if starts is_letter bs then cut (prefix_len is_letter bs) bs else None
run_step ends bs = at_end bs

abbrev pub holds : Test → Bytes → Bool
holds at_open bs = starts (λ b. b == 40) bs
holds at_item bs = starts (λ b. b == 40 || is_letter b) bs

-- text: item* end
-- item: brackets | word
-- brackets: '(' item* ')'
-- word: letter letter*
abbrev pub body : Rule → Grammar Step Test Rule
body text = star at_item (rule item) then step ends
body item = choose at_open (rule brackets) (rule word)
body word = step letters
body brackets = step opens then star at_item (rule item) then step closes

-- the items of a list of values, as those of a list
abbrev pub items : List Value → Items
items [] = no_item
items (letters_of t ∷ vs) = items vs
items (item_of x ∷ vs) = an_item x (items vs)

abbrev pub as_word : List Value → List Value
as_word [] = []
as_word (letters_of t ∷ vs) = item_of (a_word t) ∷ as_word vs
as_word (item_of x ∷ vs) = as_word vs

abbrev pub act : Rule → List Value → List Value
act text vs = vs
act item vs = vs
act word vs = as_word vs
act brackets vs = item_of (a_list (items vs)) ∷ []

abbrev pub step_takes : Step → Bool
step_takes opens = true
step_takes closes = true
step_takes letters = true
step_takes ends = false

abbrev pub rule_takes : Rule → Bool
rule_takes text = false
rule_takes item = true
rule_takes word = true
rule_takes brackets = true

abbrev pub rank : Rule → ℕ
rank text = 8
rank item = 5
rank word = 2
rank brackets = 3

unfoldable pub example : Language Bytes Step Test Rule Value
example = record {
  run_step = run_step;
  holds = holds;
  body = body;
  act = act;
  size = λ bs. length bs;
  ranks = record { step_takes = step_takes; rule_takes = rule_takes; rank = rank; levels = 10; weight = 10 };
}
