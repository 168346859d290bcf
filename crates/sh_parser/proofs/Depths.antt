-- Repetitions in the table take bytes.
use Rattle.std.proofs.Common.{◌≡◌, ℕ, suc, ◌-◌, ◌≤◌, Bool, true, false, cond, List, [], ◌∷◌, length, refl, sym, ap, subst, arith}
use Rattle.std.specs.Prelude.{◌&&◌, take, drop, get_or}
use Rattle.text_grammar.specs.Grammar.{pass, fail, step, seq, choose, star, rule}
use Rattle.text_grammar.specs.Ranks.{small}
use Rattle.sh_grammar.specs.Bytes.{Text}
use Rattle.sh_grammar.specs.Depths.{ranks}
use Rattle.sh_grammar.specs.State.{start_at}
use Rattle.sh_grammar.specs.Steps.{holds}
use Rattle.sh_grammar.specs.Table.{Rule, Gram, body}
use Rattle.sh_parser.specs.declared.table.Unit.{Unit}
use Rattle.sh_parser.specs.declared.table.Item.{Item}
use Rattle.sh_parser.specs.declared.table.Item.TheVariants as items
use Rattle.sh_parser.specs.Tables.{unit, test, chosen, items_gram, is_small}
use Rattle.sh_parser.specs.Tasks as tasks
use Rattle.sh_parser.specs.Tasks.{Todo, then_items, is_ready, all_ready}
use Rattle.sh_parser.proofs.Going.{body_small}

cond_is : (P : Gram → Type 0) (b : Bool) (g h : Gram) → P g → P h → P (cond b g h)
cond_is P true g h p q = p
cond_is P false g h p q = q

both_true : (a b : Bool) → (a && b) ≡ true → (a ≡ true) × (b ≡ true)
both_true true true e = (refl, refl)
both_true true false e = absurd cc
both_true false b e = absurd cc

pub chosen_small : (g : Gram) (bytes : Text) → is_small g ≡ true → is_small (chosen g bytes) ≡ true
chosen_small pass bytes e = refl
chosen_small fail bytes e = refl
chosen_small (step k) bytes e = refl
chosen_small (seq g h) bytes e = e
chosen_small (choose t g h) bytes e =
    let p = both_true (small ranks g) (small ranks h) e in
    cond_is (λ (x : Gram). is_small x ≡ true) (holds t (start_at 0 bytes)) (chosen g bytes) (chosen h bytes) (chosen_small g bytes p.0) (chosen_small h bytes p.1)
chosen_small (star t g) bytes e = e
chosen_small (rule r) bytes e = refl

small_rest : (x : Item) (rest : List Item) → is_small (items_gram (x ∷ rest)) ≡ true → is_small (items_gram rest) ≡ true
small_rest x [] e = refl
small_rest (items.One u) (y ∷ ys) e = (both_true (small ranks (unit u)) (small ranks (items_gram (y ∷ ys))) e).1
small_rest (items.If t u v) (y ∷ ys) e = (both_true (small ranks (choose (test t) (unit u) (unit v))) (small ranks (items_gram (y ∷ ys))) e).1
small_rest (items.Where t) (y ∷ ys) e = (both_true (small ranks (items_gram (y ∷ ys))) true e).0
small_rest (items.Star t u) (y ∷ ys) e = (both_true (small ranks (star (test t) (unit u))) (small ranks (items_gram (y ∷ ys))) e).1

small_star : (t : _) (u : Unit) (rest : List Item) → is_small (items_gram (items.Star t u ∷ rest)) ≡ true → is_small (star (test t) (unit u)) ≡ true
small_star t u [] e = e
small_star t u (y ∷ ys) e = (both_true (small ranks (star (test t) (unit u))) (small ranks (items_gram (y ∷ ys))) e).0

-- ---- a slice of items is its first and those behind it

take_all : (xs : List Item) → take (length xs) xs ≡ xs
take_all [] = refl
take_all (x ∷ xs) = ap (λ (ys : List Item). x ∷ ys) (take_all xs)

one_off : (n : ℕ) → suc n - 1 ≡ n
one_off n = omega arith

-- ---- tasks whose repetitions take bytes

both : (a b : Bool) → a ≡ true → b ≡ true → (a && b) ≡ true
both true b e f = f
both false b e f = absurd cc

pub items_ready : (is : List Item) (ts : List Todo) → all_ready (tasks.items is ∷ ts) ≡ true → (is_small (items_gram is) ≡ true) × (all_ready ts ≡ true)
items_ready is ts e = both_true (is_small (items_gram is)) (all_ready ts) e

pub ready_items : (is : List Item) (ts : List Todo) → is_small (items_gram is) ≡ true → all_ready ts ≡ true → all_ready (tasks.items is ∷ ts) ≡ true
ready_items is ts e f = both (is_small (items_gram is)) (all_ready ts) e f

pub rest_ready : (x : Item) (rest : List Item) (ts : List Todo) → all_ready (tasks.items (x ∷ rest) ∷ ts) ≡ true → all_ready (then_items rest ts) ≡ true
rest_ready x [] ts e = (items_ready (x ∷ []) ts e).1
rest_ready x (y ∷ ys) ts e = let p = items_ready (x ∷ y ∷ ys) ts e in ready_items (y ∷ ys) ts (small_rest x (y ∷ ys) p.0) p.1

pub star_ready : (i : Item) (t : _) (u : Unit) (rest : List Item) (ts : List Todo) → i ≡ items.Star t u → all_ready (tasks.items (i ∷ rest) ∷ ts) ≡ true → all_ready (tasks.turns t u ∷ then_items rest ts) ≡ true
star_ready i t u rest ts q a =
    let e : all_ready (tasks.items (items.Star t u ∷ rest) ∷ ts) ≡ true = subst (λ (x : Item). all_ready (tasks.items (x ∷ rest) ∷ ts) ≡ true) q a in
    both (is_small (star (test t) (unit u))) (all_ready (then_items rest ts)) (small_star t u rest (items_ready (items.Star t u ∷ rest) ts e).0) (rest_ready (items.Star t u) rest ts e)

-- the first of them, and those behind it
pub first_ready : (t : Todo) (ts : List Todo) → all_ready (t ∷ ts) ≡ true → (is_ready t ≡ true) × (all_ready ts ≡ true)
first_ready t ts e = both_true (is_ready t) (all_ready ts) e
