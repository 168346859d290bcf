-- One text put after another.
use Rattle.std.proofs.Common.{◌≡◌, ℕ, Bool, true, false, [], ◌++◌, Option, Result, Ok, Err, refl, sym, ap, ◌∙◌, Bor, arith}
use Rattle.span_text.proofs.Writes.{Grows-none, Wrote-then, Wrote-early}
use Rattle.sh_grammar.specs.Bytes.{Text}
use Rattle.sh_printer.specs.declared.search.Search.{Search}
use Rattle.sh_printing.specs.Delimiters.{Sight, sight}
use Rattle.sh_printer.specs.Search.{sight_of, Passed, Put}
use Rattle.sh_printer.proofs.Searches.{sight_append, passed_none}

passed_append : (s t u : Search) (x y : Text) → Passed s t x → Passed t u y → Passed s u (x ++ y)
passed_append s t u x y p q = record {
  sees = q.sees ∙ ap (λ (name : Bor Text). sight name.now (sight_of t) y) p.name ∙ ap (λ (v : Sight). sight s.name.now v y) p.sees ∙ sym (sight_append s.name.now (sight_of s) x y);
  name = q.name ∙ p.name;
  writes = q.writes ∙ p.writes;
}

pub put_then : {T E : Type 0} (held : T → Option Text) (faults : T → ℕ) (s t u : Search) (a b c : T) (r : Result (Unit {0}) E) (x y : Text) → Put {E = E} held faults s t a b (Ok tt) x → Put held faults t u b c r y → Put held faults s u a c r (x ++ y)
put_then held faults s t u a b c r x y p q = record {
  writes = λ e.
      let k = p.writes e in
      let l = q.writes (ap (λ (v : Search). v.writes) k.0 ∙ e) in
      (l.0 ∙ k.0, Wrote-then (held a) (held b) (held c) (faults a) (faults b) (faults c) r x y k.1 l.1);
  seeks = λ e.
      let k = p.seeks e in
      let l = q.seeks (k.0.writes ∙ e) in
      (passed_append s t u x y k.0 l.0, l.1 ∙ k.1, l.2);
}

fails : {E A : Type 0} (e : E) (r : Result (Unit {0}) E) → r ≡ Err e → r ≡ Ok tt → A
fails e r is other = absurd cc

pub put_early : {T E : Type 0} (held : T → Option Text) (faults : T → ℕ) (s t : Search) (a b : T) (r : Result (Unit {0}) E) (e : E) (x y : Text) → r ≡ Err e → Put held faults s t a b (Err e) x → Put held faults s t a b r (x ++ y)
put_early held faults s t a b r e x y is p = record {
  writes = λ w. let k = p.writes w in (k.0, Wrote-early (held a) (held b) (faults a) (faults b) r e x y is k.1);
  seeks = λ w. fails e (Err e) refl (p.seeks w).2;
}

writes_by : {T E : Type 0} (held : T → Option Text) (faults : T → ℕ) (s t : Search) (a b : T) (r : Result (Unit {0}) E) (x : Text) (w : Bool) → s.writes ≡ w → Put held faults s t a b r x → t.writes ≡ s.writes
writes_by held faults s t a b r x true e p = ap (λ (v : Search). v.writes) (p.writes e).0
writes_by held faults s t a b r x false e p = (p.seeks e).0.writes

-- what was put leaves the kind of the search
pub put_writes : {T E : Type 0} (held : T → Option Text) (faults : T → ℕ) (s t : Search) (a b : T) (r : Result (Unit {0}) E) (x : Text) → Put held faults s t a b r x → t.writes ≡ s.writes
put_writes held faults s t a b r x p = writes_by held faults s t a b r x s.writes refl p

-- nothing was put
pub put_none : {T E : Type 0} (held : T → Option Text) (faults : T → ℕ) (s : Search) (a : T) → Put {E = E} held faults s s a a (Ok tt) []
put_none held faults s a = record {
  writes = λ w. (refl, (Grows-none (held a), omega arith));
  seeks = λ w. (passed_none s, refl, refl);
}
