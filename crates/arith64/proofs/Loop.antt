-- What the loop over a text keeps.
use Rattle.std.proofs.Common.{◌≡◌, ℕ, ◌+◌, ◌<◌, ◌≤◌, Bool, true, false, List, [], ◌∷◌, ◌++◌, length, get_or, take, drop, Option, Some, None, refl, sym, ap, subst, ◌∙◌, inl, inr, nat_lt, append_assoc, arith}
use Rattle.std.specs.Prelude.{◌==◌, if◌then◌else◌}
use Rattle.std.proofs.lemmas.List.{append-nil, take_more, take-append-drop}
use Rattle.std.proofs.lemmas.Bool.{eqb-true}
use Rattle.std.proofs.lemmas.Bool.Decides.{nat_tests}
use Rattle.span_text.specs.declared.expr.Expr.{Expr}
use Rattle.span_text.specs.declared.span.Span.{Span}
use Rattle.span_text.specs.ExprTokens.{Cell, byte, expansion, cell_at, is_last, without_first, cells_from, cells_of}
use Rattle.span_text.specs.Expressions.{Spells, IsSpelled, Apart, Outside, IsFirstBad}
use Rattle.arith64.specs.declared.fault.ExprFault.{ExprFault}
use Rattle.arith64.specs.declared.fault.ExprFault.TheVariants as fault
use Rattle.arith64.specs.declared.fault.Stop.{Stop}
use Rattle.arith64.specs.declared.fault.Stop.TheVariants as stop
use Rattle.arith64.specs.declared.reader.Reader.{Reader}
use Rattle.arith64.specs.Faults.{IfBadExpr, fault_at}
use Rattle.arith64.specs.Parsing.{◌>>=◌, Fails}
use Rattle.arith64.specs.Reader.{read_cell, read_cells, read_end, at_start}
use Rattle.arith64.proofs.Place.{result, spelled, unspelled, read_append, no_more, leads}

-- reading has come to the offset `at`, before which so many spans ended
pub record Kept (text : List ℕ) (operands : List Span) (at number : ℕ) (spans : List Span) (reader : Reader) : Type 0 where
  pub cells : (bs : List ℕ) → cells_of (take at text ++ bs) operands ≡ cells_of (take at text) operands ++ cells_from at number spans bs
  pub outside : (x : ℕ) → at ≤ x → Outside x spans → Outside x operands
  pub from : ℕ
  pub begun : from ≤ at
  pub apart : Apart from (length text) spans
  pub counted : number ≤ at
  pub read : read_cells at_start (cells_of (take at text) operands) ≡ Some reader

pub first : (text : List ℕ) (operands : List Span) → Apart 0 (length text) operands → Kept text operands 0 0 operands at_start
first text operands h = record { cells = λ bs. refl; outside = λ x le o. o; from = 0; begun = omega arith; apart = h; counted = omega arith; read = refl }

abbrev further : ℕ → ℕ → List Span → Bool → List ℕ → List Cell
further at number spans t bs = if t then cells_from (at + 1) (number + 1) (without_first spans) bs else cells_from (at + 1) number spans bs

further_nil : (at number : ℕ) (spans : List Span) (t : Bool) → further at number spans t [] ≡ []
further_nil at number spans true = refl
further_nil at number spans false = refl

one_longer : (text : List ℕ) (at b : ℕ) → at < length text → get_or text at 0 ≡ b → take (at + 1) text ≡ take at text ++ b ∷ []
one_longer text at b lt e = take_more text at 0 lt ∙ ap (λ (k : ℕ). take at text ++ k ∷ []) e

module _ (text : List ℕ) (operands : List Span) (at number : ℕ) (spans : List Span) (reader : Reader) (b : ℕ) where
  -- the cells up to and with the byte at this offset
  with_byte : Kept text operands at number spans reader → at < length text → get_or text at 0 ≡ b → cells_of (take (at + 1) text) operands ≡ cells_of (take at text) operands ++ cell_at at number spans b
  with_byte k lt e =
      ap (λ (t : List ℕ). cells_of t operands) (one_longer text at b lt e) ∙ k.cells (b ∷ [])
      ∙ ap (λ (cs : List Cell). cells_of (take at text) operands ++ (cell_at at number spans b ++ cs)) (further_nil at number spans (is_last at spans))
      ∙ ap (λ (cs : List Cell). cells_of (take at text) operands ++ cs) (append-nil (cell_at at number spans b))

  cells_more : Kept text operands at number spans reader → at < length text → get_or text at 0 ≡ b → (bs : List ℕ) → cells_of (take (at + 1) text ++ bs) operands ≡ cells_of (take (at + 1) text) operands ++ further at number spans (is_last at spans) bs
  cells_more k lt e bs =
      ap (λ (t : List ℕ). cells_of (t ++ bs) operands) (one_longer text at b lt e)
      ∙ ap (λ (t : List ℕ). cells_of t operands) (append_assoc (take at text) (b ∷ []) bs)
      ∙ k.cells (b ∷ bs)
      ∙ sym (append_assoc (cells_of (take at text) operands) (cell_at at number spans b) (further at number spans (is_last at spans) bs))
      ∙ ap (λ (cs : List Cell). cs ++ further at number spans (is_last at spans) bs) (sym (with_byte k lt e))

  read_more : Kept text operands at number spans reader → at < length text → get_or text at 0 ≡ b → (o : Option Reader) → read_cells reader (cell_at at number spans b) ≡ o → read_cells at_start (cells_of (take (at + 1) text) operands) ≡ o
  read_more k lt e o r =
      ap (read_cells at_start) (with_byte k lt e) ∙ read_append (cells_of (take at text) operands) (cell_at at number spans b) at_start
      ∙ ap (λ (q : Option Reader). q >>= λ x. read_cells x (cell_at at number spans b)) k.read ∙ r

  pub goes_on : (next : Reader) → Kept text operands at number spans reader → at < length text → get_or text at 0 ≡ b → read_cells reader (cell_at at number spans b) ≡ Some next → is_last at spans ≡ false → Kept text operands (at + 1) number spans next
  goes_on next k lt e r last =
      let c = k.counted in let f = k.begun in
      record {
        cells = λ bs. cells_more k lt e bs ∙ ap (λ (t : Bool). cells_of (take (at + 1) text) operands ++ further at number spans t bs) last;
        outside = λ x le o. k.outside x (omega arith) o;
        from = k.from;
        begun = omega arith;
        apart = k.apart;
        counted = omega arith;
        read = read_more k lt e (Some next) r;
      }

abbrev Ended : ℕ → ℕ → List Span → Type 0
Ended n at [] = ⊥
Ended n at (s ∷ ss) = (at + 1 ≡ s.to) × Apart s.to n ss

ended : (n at from : ℕ) (spans : List Span) → is_last at spans ≡ true → Apart from n spans → Ended n at spans
ended n at from [] last h = absurd cc
ended n at from (s ∷ ss) last h = (eqb-true _ _ last, h.3)

outside_first : (n at x : ℕ) (spans : List Span) → Ended n at spans → at + 1 ≤ x → Outside x (without_first spans) → Outside x spans
outside_first n at x [] h le o = tt
outside_first n at x (s ∷ ss) h le o = let e = h.0 in (inr (omega arith), o)

apart_first : (n at : ℕ) (spans : List Span) → Ended n at spans → Apart (at + 1) n (without_first spans)
apart_first n at [] h = tt
apart_first n at (s ∷ ss) h = subst (λ (j : ℕ). Apart j n ss) (sym h.0) h.1

pub goes_behind : (text : List ℕ) (operands : List Span) (at number : ℕ) (spans : List Span) (reader : Reader) (b : ℕ) (next : Reader) → Kept text operands at number spans reader → at < length text → get_or text at 0 ≡ b → read_cells reader (cell_at at number spans b) ≡ Some next → is_last at spans ≡ true → Kept text operands (at + 1) (number + 1) (without_first spans) next
goes_behind text operands at number spans reader b next k lt e r last =
    let c = k.counted in
    let end = ended (length text) at k.from spans last k.apart in
    record {
      cells = λ bs. cells_more text operands at number spans reader b k lt e bs ∙ ap (λ (t : Bool). cells_of (take (at + 1) text) operands ++ further at number spans t bs) last;
      outside = λ x le o. k.outside x (omega arith) (outside_first (length text) at x spans end le o);
      from = at + 1;
      begun = omega arith;
      apart = apart_first (length text) at spans end;
      counted = omega arith;
      read = read_more text operands at number spans reader b k lt e (Some next) r;
    }

-- ---- what can't be read

apart_outside : (n j x : ℕ) (spans : List Span) → Apart j n spans → x ≤ j → Outside x spans
apart_outside n j x [] h le = tt
apart_outside n j x (s ∷ ss) h le = let a = h.0 in let b = h.1 in (inl (omega arith), apart_outside n s.to x ss h.3 (omega arith))

is_before : (m k : ℕ) → nat_lt m k ≡ true → m ≤ k
is_before m k e = grind (arith, nat_tests)

is_equal : (m k : ℕ) → (m == k) ≡ true → m ≤ k
is_equal m k e = let same : m ≡ k = eqb-true _ _ e in omega arith

-- where a cell can't stand no span was begun before
outside_here : (n at number from b : ℕ) (spans : List Span) (reader : Reader) → Apart from n spans → read_cells reader (cell_at at number spans b) ≡ None → Outside at spans
outside_here n at number from b [] reader h r = tt
outside_here n at number from b (s ∷ ss) reader h r = goes (nat_lt at s.from) (at == s.from) refl refl r
  where
    starts : at ≤ s.from → Outside at (s ∷ ss)
    starts le = let lt = h.1 in (inl le, apart_outside n s.to at ss h.3 (omega arith))

    goes : (t u : Bool) → nat_lt at s.from ≡ t → (at == s.from) ≡ u → read_cells reader (if t then byte b ∷ [] else (if u then expansion number ∷ [] else [])) ≡ None → Outside at (s ∷ ss)
    goes true u e f x = starts (is_before at s.from e)
    goes false true e f x = starts (is_equal at s.from f)
    goes false false e f x = absurd cc

-- what is said of a text that isn't read
pub record Unread (text : List ℕ) (operands : List Span) (at : ℕ) : Type 0 where
  pub none : (e : Expr) → IsSpelled text operands e → ⊥
  pub place : IsFirstBad text operands at

pub bad_byte : (text : List ℕ) (operands : List Span) (at number : ℕ) (spans : List Span) (reader : Reader) (b : ℕ) → Kept text operands at number spans reader → at < length text → get_or text at 0 ≡ b → read_cells reader (cell_at at number spans b) ≡ None → Unread text operands at
bad_byte text operands at number spans reader b k lt e r =
    let stops = read_more text operands at number spans reader b k lt e None r in
    record {
      none = λ x s. no_more (cells_of (take (at + 1) text) operands) (further at number spans (is_last at spans) (drop (at + 1) text)) x stops
          (subst (λ (cs : List Cell). Spells cs x) (ap (λ (t : List ℕ). cells_of t operands) (sym (take-append-drop (at + 1) text)) ∙ cells_more text operands at number spans reader b k lt e (drop (at + 1) text)) s);
      place = record {
        within = omega arith;
        outside = k.outside at (omega arith) (outside_here (length text) at number k.from b spans reader k.apart r);
        goes_on = leads (cells_of (take at text) operands) reader k.read;
        ends_here = λ lt more x s. no_more (cells_of (take (at + 1) text) operands) more x stops s;
      };
    }

whole : (text : List ℕ) → take (length text) text ≡ text
whole [] = refl
whole (b ∷ bs) = ap (λ (t : List ℕ). b ∷ t) (whole bs)

within_outside : (n j : ℕ) (spans : List Span) → Apart j n spans → Outside n spans
within_outside n j [] h = tt
within_outside n j (s ∷ ss) h = (inr h.2, within_outside n s.to ss h.3)

at_end : (text : List ℕ) (operands : List Span) (number : ℕ) (spans : List Span) (reader : Reader) → Kept text operands (length text) number spans reader → result (cells_of text operands) ≡ read_end reader
at_end text operands number spans reader k = ap (λ (t : List ℕ). result (cells_of t operands)) (sym (whole text)) ∙ ap (λ (o : Option Reader). o >>= read_end) k.read

pub bad_end : (text : List ℕ) (operands : List Span) (number : ℕ) (spans : List Span) (reader : Reader) → Apart 0 (length text) operands → Kept text operands (length text) number spans reader → read_end reader ≡ None → Unread text operands (length text)
bad_end text operands number spans reader h k r = record {
  none = unspelled (cells_of text operands) (at_end text operands number spans reader k ∙ r);
  place = record {
    within = omega arith;
    outside = within_outside (length text) 0 operands h;
    goes_on = leads (cells_of (take (length text) text) operands) reader k.read;
    ends_here = λ lt. absurd (omega arith);
  };
}

pub good_end : (text : List ℕ) (operands : List Span) (number : ℕ) (spans : List Span) (reader : Reader) (e : Expr) → Kept text operands (length text) number spans reader → read_end reader ≡ Some e → IsSpelled text operands e
good_end text operands number spans reader e k r = spelled (cells_of text operands) e (at_end text operands number spans reader k ∙ r)

pub one_cell : (r : Reader) (c : Cell) → read_cells r (c ∷ []) ≡ read_cell r c
one_cell r c = at (read_cell r c)
  where
    at : (o : Option Reader) → (o >>= λ q. Some q) ≡ o
    at None = refl
    at (Some q) = refl

pub goes_next : (text : List ℕ) (operands : List Span) (at number : ℕ) (spans : List Span) (reader next : Reader) (m : ℕ) (rest : List Span) → Kept text operands at number spans reader → at < length text → read_cells reader (cell_at at number spans (get_or text at 0)) ≡ Some next →
    m ≡ (if is_last at spans then number + 1 else number) → rest ≡ (if is_last at spans then without_first spans else spans) → Kept text operands (at + 1) m rest next
goes_next text operands at number spans reader next m rest k lt r e f = goes (is_last at spans) refl e f
  where
    goes : (t : Bool) → is_last at spans ≡ t → m ≡ (if t then number + 1 else number) → rest ≡ (if t then without_first spans else spans) → Kept text operands (at + 1) m rest next
    goes true last x y = rw (x, y) (goes_behind text operands at number spans reader (get_or text at 0) next k lt refl r last)
    goes false last x y = rw (x, y) (goes_on text operands at number spans reader (get_or text at 0) next k lt refl r last)

-- what is said of a stop while a byte is read
pub stopped : (s : Stop) (text : List ℕ) (operands : List Span) (at number : ℕ) (spans : List Span) (reader : Reader) → Kept text operands at number spans reader → at < length text → Fails s (read_cells reader (cell_at at number spans (get_or text at 0))) → IfBadExpr (fault_at s at) (Unread text operands)
stopped stop.Memory text operands at number spans reader k lt r = tt
stopped stop.Bad text operands at number spans reader k lt r = bad_byte text operands at number spans reader (get_or text at 0) k lt refl r

-- and at the end of the text
pub stopped_at_end : (s : Stop) (text : List ℕ) (operands : List Span) (number : ℕ) (spans : List Span) (reader : Reader) → Apart 0 (length text) operands → Kept text operands (length text) number spans reader → Fails s (read_end reader) → IfBadExpr (fault_at s (length text)) (Unread text operands)
stopped_at_end stop.Memory text operands number spans reader h k r = tt
stopped_at_end stop.Bad text operands number spans reader h k r = bad_end text operands number spans reader h k r

pub if_none : (f : ExprFault) (text : List ℕ) (operands : List Span) → IfBadExpr f (Unread text operands) → IfBadExpr f (λ at. (e : Expr) → IsSpelled text operands e → ⊥)
if_none (fault.BadExpr at) text operands h = h.none
if_none fault.Memory text operands h = tt

pub if_place : (f : ExprFault) (text : List ℕ) (operands : List Span) → IfBadExpr f (Unread text operands) → IfBadExpr f (λ at. IsFirstBad text operands at)
if_place (fault.BadExpr at) text operands h = h.place
if_place fault.Memory text operands h = tt
