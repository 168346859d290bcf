use Rattle.std.proofs.Common.{◌≡◌, false, ◌∷◌, Some, None, reverse, sym, ap, ◌∙◌}
use Rattle.std.specs.Prelude.{map}
use Rattle.sh_grammar.specs.Sums.{is_sh_expr}
use Rattle.sh_parser.specs.Views.{state, sum_of}
use Rattle.sh_parser.proofs.Opened.{last_first}
use Rattle.sh_parser.proofs.Spelt.{closes, spelled_sh, spelled_else, unspelled}
use Rattle.sh_parser.proofs.sums.close.Goals as goal

pub read_expr-requires : goal.read_expr-requires
read_expr-requires c = rw (c.as_slice.ensures.value, c.bytes.ensures) c.in-Some.sum.apart

pub returns-in-Err-BadExpr : goal.returns-in-Err-BadExpr
returns-in-Err-BadExpr c = λ b.
    let s = c.in-Some.sum in
    let rest = reverse (map sum_of c.pop.new.self.items) in
    let o : reverse (map sum_of c.args.notes.now.sums.items) ≡ sum_of s ∷ rest = ap (λ xs. reverse (map sum_of xs)) c.in-Some.ensures.items ∙ last_first c.pop.new.self.items s in
    closes (state b c.args.notes.now) (sum_of s) rest None o (unspelled (sum_of s) (rw (← c.as_slice.ensures.value, ← c.bytes.ensures) (rw c.in-Err-BadExpr.field-0-is at c.in-Err-BadExpr.ensures.refused)))

pub returns-then-is_sh : goal.returns-then-is_sh
returns-then-is_sh c = λ b.
    let s = c.in-Some.sum in
    let rest = reverse (map sum_of c.pop.new.self.items) in
    let o : reverse (map sum_of c.args.notes.now.sums.items) ≡ sum_of s ∷ rest = ap (λ xs. reverse (map sum_of xs)) c.in-Some.ensures.items ∙ last_first c.pop.new.self.items s in
    closes (state b c.args.notes.now) (sum_of s) rest (Some c.in-Ok.expr) o (spelled_sh (sum_of s) c.in-Ok.expr (rw (← c.as_slice.ensures.value, ← c.bytes.ensures) c.in-Ok.ensures.read) (sym c.if-is_sh.ensures))

pub returns : goal.returns
returns c = λ b.
    let s = c.in-Some.sum in
    let rest = reverse (map sum_of c.pop.new.self.items) in
    let o : reverse (map sum_of c.args.notes.now.sums.items) ≡ sum_of s ∷ rest = ap (λ xs. reverse (map sum_of xs)) c.in-Some.ensures.items ∙ last_first c.pop.new.self.items s in
    let e : is_sh_expr c.in-Ok.expr ≡ false = sym c.is_sh.ensures ∙ c.if-is_sh.false in
    closes (state b c.args.notes.now) (sum_of s) rest None o (spelled_else (sum_of s) c.in-Ok.expr (rw (← c.as_slice.ensures.value, ← c.bytes.ensures) c.in-Ok.ensures.read) e)
