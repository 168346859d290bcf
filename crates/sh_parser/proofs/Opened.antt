-- The arithmetic expansions that stand open: the code keeps the innermost last.
use Rattle.std.proofs.Common.{◌≡◌, ◌==◌, Bool, true, false, List, [], ◌∷◌, ◌++◌, length, Option, Some, None, refl, ap, ◌∙◌}
use Rattle.std.specs.Prelude.{map, reverse}
use Rattle.std.proofs.lemmas.List.{map_push, reverse-append}
use Rattle.text_grammar.specs.Values.{stepped}
use Rattle.text_grammar.proofs.Tools.{some_is}
use Rattle.text_grammar.specs.Answers.{FailsAs}
use Rattle.sh_grammar.specs.Bytes.{Text}
use Rattle.sh_grammar.specs.State.{State, Node, expr_node}
use Rattle.sh_grammar.specs.Sums.{with_bytes, innermost, without_innermost}
use Rattle.sh_grammar.specs.Expansions.{◌>>=◌}
use Rattle.span_text.specs.declared.expr.Expr.{Expr}
use Rattle.text_grammar.specs.Grammar.{Leaf, quiet, said}
use Rattle.sh_grammar.specs.Steps.{bytes_read, with_sums, when}
use Rattle.sh_parser.specs.declared.open_sum.Sum.{Sum}
use Rattle.sh_parser.specs.Views.{sum_of, closed}

pub last_first : (xs : List Sum) (x : Sum) → reverse (map sum_of (xs ++ x ∷ [])) ≡ sum_of x ∷ reverse (map sum_of xs)
last_first xs x = ap reverse (map_push sum_of xs x) ∙ reverse-append (map sum_of xs) (sum_of x ∷ [])

-- bytes that are read are those of the run, one at least
pub bytes_from : (s : State) (x : Text × Text) (t : Text) → x.0 ≡ t → (length t == 0) ≡ false → stepped (bytes_read s x) ≡ Some ([], record s { bytes = x.1; sums = with_bytes t s.sums })
bytes_from s ([], r) [] e h = absurd cc
bytes_from s ([], r) (b ∷ bs) e h = absurd cc
bytes_from s (b ∷ bs, r) t e h = rw (← e) refl

-- a fault, where something is read, is want of memory
pub memory_only : {X Y : Type 0} (q : Bool) (x : X) (o : Option Y) → FailsAs q (Some x) → FailsAs q o
memory_only true x o h = tt
memory_only false x o h = absurd cc

-- the same, where the code has the bytes and what follows them
pub bytes_done : (s : State) (x : Text × Text) (t : Text) (r : Text) (m : State) → x.0 ≡ t → (length t == 0) ≡ false → r ≡ x.1 → Some (record s { bytes = r; sums = with_bytes t s.sums }) ≡ Some m → stepped (bytes_read s x) ≡ Some ([], m)
bytes_done s x t r m e h q d =
    let same : record s { bytes = r; sums = with_bytes t s.sums } ≡ m = some_is (record s { bytes = r; sums = with_bytes t s.sums }) m d in
    bytes_from s x t e h ∙ rw (← q, same) refl

-- a parenthesis, and what follows it
pub paren_done : (s : State) (t : Text) (o : Option Text) (r : Text) (m : State) → o ≡ Some r → Some (record s { bytes = r; sums = with_bytes t s.sums }) ≡ Some m → stepped (o >>= λ rest. with_sums s (with_bytes t s.sums) rest) ≡ Some ([], m)
paren_done s t o r m e d = rw e (ap (λ (z : State). Some ([], z)) (some_is (record s { bytes = r; sums = with_bytes t s.sums }) m d))

-- what is said where a test holds
abbrev nothing : State → Leaf Node × State
nothing s = (quiet, s)

pub when_done : (t : Bool) (s m : State) → when t s ≡ Some m → stepped (when t (nothing s)) ≡ Some ([], m)
when_done true s m e = ap (λ (z : State). Some ([], z)) (some_is s m e)
when_done false s m e = absurd cc

pub when_fails : (q t : Bool) (s : State) → FailsAs q (when t s) → FailsAs q (stepped (when t (nothing s)))
when_fails true t s e = tt
when_fails false true s e = absurd cc
when_fails false false s e = refl

-- the expression that is closed, and what follows it
abbrev shut : State → Text → Expr → Expr × State
shut s r e = (e, record s { bytes = r; sums = without_innermost s.sums })

abbrev shown : State → Text → Expr → Leaf Node × State
shown s r e = (said (expr_node e), record s { bytes = r; sums = without_innermost s.sums })

abbrev shutting : State → Text → Option Expr → Option (Expr × State)
shutting s r o = o >>= λ e. Some (shut s r e)

abbrev closing : State → Text → Option Expr → Option (Leaf Node × State)
closing s r o = o >>= λ e. Some (shown s r e)

closing_done : (s : State) (r : Text) (o : Option Expr) (e : Expr) (m : State) → shutting s r o ≡ Some (e, m) → stepped (closing s r o) ≡ Some (expr_node e ∷ [], m)
closing_done s r None e m d = absurd cc
closing_done s r (Some x) e m d =
    let p : shut s r x ≡ (e, m) = some_is (shut s r x) (e, m) d in
    ap (λ (z : Expr × State). Some (expr_node z.0 ∷ [], z.1)) p

closing_fails : (q : Bool) (s : State) (r : Text) (o : Option Expr) → FailsAs q (shutting s r o) → FailsAs q (stepped (closing s r o))
closing_fails true s r o d = tt
closing_fails false s r None d = refl
closing_fails false s r (Some x) d = absurd cc

pub sum_closed : (s : State) (o : Option Text) (r : Text) (e : Expr) (m : State) → o ≡ Some r → closed (record s { bytes = r }) ≡ Some (e, m) → stepped (o >>= λ rest. closing s rest (innermost s.sums)) ≡ Some (expr_node e ∷ [], m)
sum_closed s o r e m f d = rw f (closing_done s r (innermost s.sums) e m d)

pub sum_unclosed : (q : Bool) (s : State) (o : Option Text) (r : Text) → o ≡ Some r → FailsAs q (closed (record s { bytes = r })) → FailsAs q (stepped (o >>= λ rest. closing s rest (innermost s.sums)))
sum_unclosed q s o r f d = rw f (closing_fails q s r (innermost s.sums) d)
