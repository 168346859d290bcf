-- The text of a form reads as its cells, with the operands that stand in it.
use Rattle.std.proofs.Common.{◌≡◌, ℕ, suc, ◌+◌, ◌-◌, ◌≤◌, Bool, true, false, List, [], ◌∷◌, ◌++◌, Some, refl, sym, ap, subst, ◌∙◌, arith, append_assoc}
use Rattle.std.specs.Prelude.{◌||◌, ◌==◌, nat_lt, codes}
use Rattle.std.specs.List.{list_all}
use Rattle.std.specs.Fmt.{decimal}
use Rattle.std.proofs.lemmas.List.{append-nil}
use Rattle.std.proofs.lemmas.Bool.{ltb-true}
use Rattle.text_grammar.specs.Grammar.{quiet, rule, star}
use Rattle.span_text.specs.Names.{continues_name}
use Rattle.span_text.specs.ExprTokens.{Cell, byte, expansion}
use Rattle.span_text.specs.Expressions.{Form, literal, expanded, variable, member, group, prefixed, stepped, between, chosen, assigned}
use Rattle.sh_grammar.specs.Bytes.{Text, in_double, clear, starts, expands}
use Rattle.sh_grammar.specs.State.{State, Sum, Node}
use Rattle.sh_grammar.specs.Sums.{sum_run}
use Rattle.sh_grammar.specs.Table.{expansion as expansion_of, sum_goes_on, sum_part, sum_group}
use Rattle.sh_grammar.specs.Steps.{Known, limit, run_step, holds, dollar_behind}
use Rattle.sh_printing.proofs.BackSays.{Says, silent_step, ◌then◌, the_first, the_second, by_rule, no_more, one_more, saying, at_state}
use Rattle.sh_printing.proofs.BackDue.{Due, st}
use Rattle.sh_printing.proofs.BackBytes.{both, isnt, neither, no_join, clear_is}
use Rattle.sh_printing.proofs.BackParams.{Ends}
use Rattle.sh_printing.proofs.BackFronts.{Dollar}
use Rattle.sh_printing.proofs.BackDelimiters.{all_append}
use Rattle.sh_printing.proofs.BackForms.{Good}
use Rattle.sh_printing.proofs.BackSumTokens.{put, infix_mark, assign_mark, unary_mark}
use Rattle.sh_printing.proofs.BackSumCells.{is_calm, name_calm, decimal_calm, infix_calm, assign_calm, unary_calm, sum_of, added, sum_put, sum_operand}

-- parts of an arithmetic expansion
abbrev pub Star : Known → State → State → List Node → Type 0
Star k s e xs = Says k (star sum_goes_on (rule sum_part)) s e xs

-- What follows from the cells on, whether or not the last of their bytes were read before.
pub record Goes (k : Known) (d : ℕ) (q : List Sum) (g : Due) (cs : List Cell) (t : Text) (e : State) (xs : List Node) : Type 0 where
  pub goes : (p : Text) (bs : List Cell) → list_all is_calm p ≡ true → bs ++ put p [] ≡ cs → Star k (st d (sum_of bs ∷ q) g (p ++ t)) e xs

-- ---- bytes

record Calm (b : ℕ) : Type 0 where
  no_open : (b == 40) ≡ false
  no_close : (b == 41) ≡ false
  no_nul : (b == 0) ≡ false
  no_dollar : (b == 36) ≡ false
  no_slash : (b == 92) ≡ false

calm_at : (b : ℕ) → is_calm b ≡ true → Calm b
calm_at b e =
    let x = neither (b == 40 || b == 41 || b == 0 || b == 36) (b == 92) (isnt (b == 40 || b == 41 || b == 0 || b == 36 || b == 92) e) in
    let y = neither (b == 40 || b == 41 || b == 0) (b == 36) x.0 in
    let z = neither (b == 40 || b == 41) (b == 0) y.0 in
    let w = neither (b == 40) (b == 41) z.0 in
    record { no_open = w.0; no_close = w.1; no_nul = z.1; no_dollar = y.1; no_slash = x.1 }

run_all : (p t : Text) → list_all is_calm p ≡ true → sum_run t ≡ ([], t) → sum_run (p ++ t) ≡ (p, t)
unfolding sum_run
run_all [] t e f = f
run_all (b ∷ p) t e f =
    let x = both (is_calm b) (list_all is_calm p) e in
    let c = calm_at b x.0 in
    rw (c.no_open, c.no_close, c.no_nul, c.no_dollar, run_all p t x.1 f) refl

flush_by : (k : Known) (d : ℕ) (q : List Sum) (g : Due) (cs : List Cell) (t : Text) (e : State) (xs : List Node) → sum_run t ≡ ([], t) → Star k (st d (sum_of cs ∷ q) g t) e xs →
    (p : Text) (bs : List Cell) → list_all is_calm p ≡ true → bs ++ put p [] ≡ cs → Star k (st d (sum_of bs ∷ q) g (p ++ t)) e xs
unfolding run_step holds
flush_by k d q g cs t e xs stops a [] bs calm is = at_state (ap (λ (z : List Cell). st d (sum_of z ∷ q) g t) (sym is ∙ append-nil bs)) a
flush_by k d q g cs t e xs stops a (b ∷ p) bs calm is =
    let c = calm_at b (both (is_calm b) (list_all is_calm p) calm).0 in
    let j : clear (b ∷ (p ++ t)) ≡ b ∷ (p ++ t) = clear_is (b ∷ (p ++ t)) (no_join b (p ++ t) c.no_slash) in
    one_more (rw (c.no_close, c.no_nul) refl)
    (by_rule sum_part refl (the_second c.no_open (the_second (rw (j, c.no_dollar) refl)
    (silent_step (rw (run_all (b ∷ p) t calm stops) (ap (λ (z : Sum). Some (quiet, st d (z ∷ q) g t)) (sum_put bs (b ∷ p) ∙ ap sum_of is))))))) a

-- a run of bytes is read before what is no such byte
flush : (k : Known) (d : ℕ) (q : List Sum) (g : Due) (cs : List Cell) (t : Text) (e : State) (xs : List Node) → sum_run t ≡ ([], t) → Star k (st d (sum_of cs ∷ q) g t) e xs → Goes k d q g cs t e xs
flush k d q g cs t e xs stops a = record { goes = λ p bs calm is. flush_by k d q g cs t e xs stops a p bs calm is }

put_both : (p w : Text) → put (p ++ w) [] ≡ put p [] ++ put w []
put_both [] w = refl
put_both (b ∷ p) w = ap (λ (z : List Cell). byte b ∷ z) (put_both p w)

-- bytes that are read later, with what follows them
push : (k : Known) (d : ℕ) (q : List Sum) (g : Due) (cs : List Cell) (w t : Text) (e : State) (xs : List Node) → list_all is_calm w ≡ true → Goes k d q g (cs ++ put w []) t e xs → Goes k d q g cs (w ++ t) e xs
push k d q g cs w t e xs calm a = record {
  goes = λ p bs c is.
      at_state (ap (λ (z : Text). st d (sum_of bs ∷ q) g z) (append_assoc p w t))
      (a.goes (p ++ w) bs (all_append is_calm p w c calm) (ap (λ (z : List Cell). bs ++ z) (put_both p w) ∙ sym (append_assoc bs (put p []) (put w [])) ∙ ap (λ (z : List Cell). z ++ put w []) is));
}

-- ---- operands

dollar_at : (b : ℕ) (t : Text) → expands b ≡ true → (b == 92) ≡ false → dollar_behind (clear (36 ∷ b ∷ t)) ≡ true
dollar_at b t e f = let i : clear (36 ∷ b ∷ t) ≡ 36 ∷ b ∷ t = clear_is (36 ∷ b ∷ t) refl in let j : clear (b ∷ t) ≡ b ∷ t = clear_is (b ∷ t) (no_join b t f) in rw (i, j, e) refl

stops_at : (b : ℕ) (t : Text) → expands b ≡ true → (b == 92) ≡ false → sum_run (36 ∷ b ∷ t) ≡ ([], 36 ∷ b ∷ t)
unfolding sum_run
stops_at b t e f = let j : clear (b ∷ t) ≡ b ∷ t = clear_is (b ∷ t) (no_join b t f) in rw (j, e) refl

dollar_next : (t : Text) → Dollar t → dollar_behind (clear t) ≡ true
dollar_next t f = subst (λ (z : Text). dollar_behind (clear z) ≡ true) (sym f.is) (dollar_at f.byte f.more f.goes f.solid)

dollar_run : (t : Text) → Dollar t → sum_run t ≡ ([], t)
dollar_run t f = subst (λ (z : Text). sum_run z ≡ ([], z)) (sym f.is) (stops_at f.byte f.more f.goes f.solid)

-- an operand, and what follows it
operand_star : (k : Known) (d : ℕ) (q : List Sum) (g h : Due) (cs : List Cell) (m : ℕ) (u t : Text) (e : State) (xs ys : List Node) → Dollar u →
    Says k (rule (expansion_of in_double)) (st d (sum_of (cs ++ expansion m ∷ []) ∷ q) g u) (st d (sum_of (cs ++ expansion m ∷ []) ∷ q) h t) xs → Star k (st d (sum_of (cs ++ expansion m ∷ []) ∷ q) h t) e ys →
    Star k (st d (sum_of cs ∷ q) g u) e (xs ++ ys)
unfolding run_step holds
operand_star k d q g h cs m u t e xs ys f a b =
    let on : (z : Text) → z ≡ 36 ∷ f.byte ∷ f.more → Rattle.sh_grammar.specs.Steps.holds sum_goes_on (st d (sum_of cs ∷ q) g z) ≡ true = λ z is. ap (λ (y : Text). Rattle.sh_grammar.specs.Steps.holds sum_goes_on (st d (sum_of cs ∷ q) g y)) is in
    let off : (z : Text) → z ≡ 36 ∷ f.byte ∷ f.more → starts (λ b. b == 40) z ≡ false = λ z is. ap (starts (λ b. b == 40)) is in
    one_more (on u f.is)
    (by_rule sum_part refl (the_second (off u f.is) (the_first (dollar_next u f) (silent_step (ap (λ (z : Sum). Some (quiet, st d (z ∷ q) g u)) (sum_operand cs m)) then a)))) b

-- ---- parentheses

pub minus_one : (d : ℕ) → suc d - 1 ≡ d
minus_one d = omega arith

-- a group, and what follows it
group_star : (k : Known) (d : ℕ) (q : List Sum) (g h : Due) (cs ds : List Cell) (u t : Text) (e : State) (xs ys : List Node) → nat_lt d limit ≡ true →
    Star k (st (suc d) (sum_of (cs ++ put (40 ∷ []) []) ∷ q) g u) (st (suc d) (sum_of ds ∷ q) h (41 ∷ t)) xs → Star k (st d (sum_of (ds ++ put (41 ∷ []) []) ∷ q) h t) e ys →
    Star k (st d (sum_of cs ∷ q) g (40 ∷ u)) e (xs ++ ys)
unfolding run_step holds
group_star k d q g h cs ds u t e xs ys lt a b =
    one_more refl
    (by_rule sum_part refl (the_first refl
    (by_rule sum_group (append-nil xs)
    (silent_step (ap (λ (z : Sum). Some (quiet, st d (z ∷ q) g u)) (sum_put cs (40 ∷ [])))
    then silent_step (rw lt refl)
    then a
    then silent_step (ap (λ (z : Sum). Some (quiet, st (suc d) (z ∷ q) h t)) (sum_put ds (41 ∷ [])))
    then silent_step (ap (λ (z : ℕ). Some (quiet, st z (sum_of (ds ++ put (41 ∷ []) []) ∷ q) h t)) (minus_one d)))))) b

-- ---- forms

-- the text of a form with others behind it, by the texts of its operands
abbrev pub form_bytes : (ℕ → Text) → Form → Text → Text
form_bytes text (literal m) t = decimal m ++ t
form_bytes text (expanded m) t = text m ++ t
form_bytes text (variable name) t = name ++ t
form_bytes text (member name f) t = t
form_bytes text (group f) t = 40 ∷ form_bytes text f (41 ∷ t)
form_bytes text (prefixed o f) t = unary_mark o ++ form_bytes text f t
form_bytes text (stepped o f) t = t
form_bytes text (between i f g) t = form_bytes text f (infix_mark i ++ form_bytes text g t)
form_bytes text (chosen f g h) t = form_bytes text f (codes " ? " ++ form_bytes text g (codes " : " ++ form_bytes text h t))
form_bytes text (assigned f o g) t = form_bytes text f (assign_mark o ++ form_bytes text g t)

-- the nodes of its operands, before others
abbrev pub form_nodes : (ℕ → List Node) → Form → List Node → List Node
form_nodes nodes (literal m) xs = xs
form_nodes nodes (expanded m) xs = nodes m ++ xs
form_nodes nodes (variable name) xs = xs
form_nodes nodes (member name f) xs = xs
form_nodes nodes (group f) xs = form_nodes nodes f xs
form_nodes nodes (prefixed o f) xs = form_nodes nodes f xs
form_nodes nodes (stepped o f) xs = xs
form_nodes nodes (between i f g) xs = form_nodes nodes f (form_nodes nodes g xs)
form_nodes nodes (chosen f g h) xs = form_nodes nodes f (form_nodes nodes g (form_nodes nodes h xs))
form_nodes nodes (assigned f o g) xs = form_nodes nodes f (form_nodes nodes g xs)

-- operands that read back where they stand
pub record Operates (k : Known) (check : ℕ → ℕ → Bool) (text : ℕ → Text) (due : ℕ → Due) (nodes : ℕ → List Node) (high : ℕ) : Type 0 where
  pub dollar : (m d : ℕ) (t : Text) → check m d ≡ true → Dollar (text m ++ t)
  pub says : (m d : ℕ) (q : List Sum) (t : Text) → limit ≤ high + d → d ≤ limit → check m d ≡ true → Ends t → Says k (rule (expansion_of in_double)) (st d q (due m) (text m ++ t)) (st d q (due (suc m)) t) (nodes m)

blank_ends : (t : Text) → Ends (32 ∷ t)
unfolding continues_name
blank_ends t = record { free = no_join 32 t refl; no_name = refl }

close_ends : (t : Text) → Ends (41 ∷ t)
unfolding continues_name
close_ends t = record { free = no_join 41 t refl; no_name = refl }

open_run : (t : Text) → sum_run (40 ∷ t) ≡ ([], 40 ∷ t)
unfolding sum_run
open_run t = refl

close_run : (t : Text) → sum_run (41 ∷ t) ≡ ([], 41 ∷ t)
unfolding sum_run
close_run t = refl

close_stops : (k : Known) (s : State) (t : Text) → s.bytes ≡ 41 ∷ t → Star k s s []
unfolding holds
close_stops k s t is = no_more (rw is refl)

nodes_more : (nodes : ℕ → List Node) (f : Form) (xs ys : List Node) → form_nodes nodes f xs ++ ys ≡ form_nodes nodes f (xs ++ ys)
nodes_more nodes (literal m) xs ys = refl
nodes_more nodes (expanded m) xs ys = append_assoc (nodes m) xs ys
nodes_more nodes (variable name) xs ys = refl
nodes_more nodes (member name f) xs ys = refl
nodes_more nodes (group f) xs ys = nodes_more nodes f xs ys
nodes_more nodes (prefixed o f) xs ys = nodes_more nodes f xs ys
nodes_more nodes (stepped o f) xs ys = refl
nodes_more nodes (between i f g) xs ys = nodes_more nodes f (form_nodes nodes g xs) ys ∙ ap (form_nodes nodes f) (nodes_more nodes g xs ys)
nodes_more nodes (chosen f g h) xs ys =
    nodes_more nodes f (form_nodes nodes g (form_nodes nodes h xs)) ys ∙ ap (form_nodes nodes f) (nodes_more nodes g (form_nodes nodes h xs) ys ∙ ap (form_nodes nodes g) (nodes_more nodes h xs ys))
nodes_more nodes (assigned f o g) xs ys = nodes_more nodes f (form_nodes nodes g xs) ys ∙ ap (form_nodes nodes f) (nodes_more nodes g xs ys)

-- THE TEXT OF A FORM goes on as what follows it
pub form_goes : (k : Known) (check : ℕ → ℕ → Bool) (text : ℕ → Text) (due : ℕ → Due) (nodes : ℕ → List Node) (high : ℕ) → Operates k check text due nodes high → (f : Form) (d n m : ℕ) → Good check d n m f → limit ≤ high + d → d ≤ limit →
    (q : List Sum) (cs : List Cell) (t : Text) (e : State) (xs : List Node) → Ends t → Goes k d q (due m) (added cs f) t e xs → Goes k d q (due n) cs (form_bytes text f t) e (form_nodes nodes f xs)
form_goes k check text due nodes high op (literal i) d n m g hi le q cs t e xs ends a = push k d q (due n) cs (decimal i) t e xs (decimal_calm i g.0) (subst (λ (z : ℕ). Goes k d q (due z) (cs ++ put (decimal i) []) t e xs) (sym g.1) a)
form_goes k check text due nodes high op (expanded i) d n m g hi le q cs t e xs ends a =
    let s = op.says i d (sum_of (cs ++ expansion i ∷ []) ∷ q) t hi le g.1 ends in
    let b = subst (λ (z : ℕ). Goes k d q (due z) (cs ++ expansion i ∷ []) t e xs) (g.2 ∙ ap suc (sym g.0)) a in
    let f = op.dollar i d t g.1 in
    subst (λ (z : ℕ). Goes k d q (due z) cs (text i ++ t) e (nodes i ++ xs)) g.0
    (flush k d q (due i) cs (text i ++ t) e (nodes i ++ xs) (dollar_run (text i ++ t) f)
    (operand_star k d q (due i) (due (suc i)) cs i (text i ++ t) t e (nodes i) xs f s (b.goes [] (cs ++ expansion i ∷ []) refl (append-nil (cs ++ expansion i ∷ [])))))
form_goes k check text due nodes high op (variable name) d n m g hi le q cs t e xs ends a = push k d q (due n) cs name t e xs (name_calm name g.0) (subst (λ (z : ℕ). Goes k d q (due z) (cs ++ put name []) t e xs) (sym g.1) a)
form_goes k check text due nodes high op (member name f) d n m g hi le q cs t e xs ends a = absurd g
form_goes k check text due nodes high op (group f) d n m g hi le q cs t e xs ends a =
    let lt = ltb-true d limit g.0 in
    let os = cs ++ put (40 ∷ []) [] in
    let ds = added os f in
    let inner = form_goes k check text due nodes high op f (suc d) n m g.1 (omega arith) (omega arith) q os (41 ∷ t) (st (suc d) (sum_of ds ∷ q) (due m) (41 ∷ t)) [] (close_ends t)
    (flush k (suc d) q (due m) ds (41 ∷ t) (st (suc d) (sum_of ds ∷ q) (due m) (41 ∷ t)) [] (close_run t) (close_stops k (st (suc d) (sum_of ds ∷ q) (due m) (41 ∷ t)) t refl)) in
    flush k d q (due n) cs (40 ∷ form_bytes text f (41 ∷ t)) e (form_nodes nodes f xs) (open_run (form_bytes text f (41 ∷ t)))
    (saying (nodes_more nodes f [] xs)
    (group_star k d q (due n) (due m) cs ds (form_bytes text f (41 ∷ t)) t e (form_nodes nodes f []) xs g.0
    (inner.goes [] os refl (append-nil os)) (a.goes [] (ds ++ put (41 ∷ []) []) refl (append-nil (ds ++ put (41 ∷ []) [])))))
form_goes k check text due nodes high op (prefixed o f) d n m g hi le q cs t e xs ends a =
    push k d q (due n) cs (unary_mark o) (form_bytes text f t) e (form_nodes nodes f xs) (unary_calm o) (form_goes k check text due nodes high op f d n m g hi le q (cs ++ put (unary_mark o) []) t e xs ends a)
form_goes k check text due nodes high op (stepped o f) d n m g hi le q cs t e xs ends a = absurd g
form_goes k check text due nodes high op (between i f p) d n m g hi le q cs t e xs ends a =
    form_goes k check text due nodes high op f d n g.1 g.2 hi le q cs (infix_mark i ++ form_bytes text p t) e (form_nodes nodes p xs) (blank_ends _)
    (push k d q (due g.1) (added cs f) (infix_mark i) (form_bytes text p t) e (form_nodes nodes p xs) (infix_calm i) (form_goes k check text due nodes high op p d g.1 m g.3 hi le q (added cs f ++ put (infix_mark i) []) t e xs ends a))
form_goes k check text due nodes high op (chosen f p r) d n m g hi le q cs t e xs ends a =
    let ps = added cs f ++ put (codes " ? ") [] in
    let rs = added ps p ++ put (codes " : ") [] in
    form_goes k check text due nodes high op f d n g.0 g.2 hi le q cs (codes " ? " ++ form_bytes text p (codes " : " ++ form_bytes text r t)) e (form_nodes nodes p (form_nodes nodes r xs)) (blank_ends _)
    (push k d q (due g.0) (added cs f) (codes " ? ") (form_bytes text p (codes " : " ++ form_bytes text r t)) e (form_nodes nodes p (form_nodes nodes r xs)) refl
    (form_goes k check text due nodes high op p d g.0 g.1 g.3 hi le q ps (codes " : " ++ form_bytes text r t) e (form_nodes nodes r xs) (blank_ends _)
    (push k d q (due g.1) (added ps p) (codes " : ") (form_bytes text r t) e (form_nodes nodes r xs) refl
    (form_goes k check text due nodes high op r d g.1 m g.4 hi le q rs t e xs ends a))))
form_goes k check text due nodes high op (assigned f o p) d n m g hi le q cs t e xs ends a =
    form_goes k check text due nodes high op f d n g.2 g.3 hi le q cs (assign_mark o ++ form_bytes text p t) e (form_nodes nodes p xs) (blank_ends _)
    (push k d q (due g.2) (added cs f) (assign_mark o) (form_bytes text p t) e (form_nodes nodes p xs) (assign_calm o) (form_goes k check text due nodes high op p d g.2 m g.4 hi le q (added cs f ++ put (assign_mark o) []) t e xs ends a))

-- a form up to the parenthesis behind it
pub close_goes : (k : Known) (check : ℕ → ℕ → Bool) (text : ℕ → Text) (due : ℕ → Due) (nodes : ℕ → List Node) (high : ℕ) → Operates k check text due nodes high → (f : Form) (d n m : ℕ) → Good check d n m f → limit ≤ high + d → d ≤ limit →
    (q : List Sum) (cs : List Cell) (t : Text) → Star k (st d (sum_of cs ∷ q) (due n) (form_bytes text f (41 ∷ t))) (st d (sum_of (added cs f) ∷ q) (due m) (41 ∷ t)) (form_nodes nodes f [])
close_goes k check text due nodes high op f d n m g hi le q cs t =
    let e = st d (sum_of (added cs f) ∷ q) (due m) (41 ∷ t) in
    (form_goes k check text due nodes high op f d n m g hi le q cs (41 ∷ t) e [] (close_ends t) (flush k d q (due m) (added cs f) (41 ∷ t) e [] (close_run t) (close_stops k e t refl))).goes [] cs refl (append-nil cs)
