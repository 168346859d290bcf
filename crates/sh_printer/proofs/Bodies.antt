-- The bodies that are still to come, as a text.
use Rattle.std.proofs.Common.{◌≡◌, Bool, true, false, ◌||◌, List, [], ◌∷◌, ◌++◌, refl, sym, ap, ◌∙◌, append_assoc}
use Rattle.sh_grammar.specs.Bytes.{Text, in_body}
use Rattle.sh_printing.specs.Marks.{next, ended, blank, gap, is_here, delimiter_text}
use Rattle.sh_printer.specs.Owed.{has_here, body_by, body_text, owed_text}
use Rattle.sh_printing.specs.Printing.{parts_text}
use Rattle.sh_syntax.specs.View.{Aimed}

-- a text with a newline in it is something
gap_behind : (x y rest : Text) → gap ((x ++ y ++ 10 ∷ []) ++ rest) ≡ 10 ∷ ((x ++ y ++ 10 ∷ []) ++ rest)
gap_behind [] [] rest = refl
gap_behind [] (b ∷ y) rest = refl
gap_behind (b ∷ x) y rest = refl

gap_first : (here full : Bool) (body rest : Text) → (here ≡ false → gap rest ≡ 10 ∷ rest) → gap (body_by here full body ++ rest) ≡ 10 ∷ (body_by here full body ++ rest)
gap_first true full body rest k = gap_behind body (delimiter_text full body) rest
gap_first false full body rest k = k refl

later : (here more : Bool) → (here || more) ≡ true → here ≡ false → more ≡ true
later true more e f = absurd cc
later false more e f = e

-- bodies stand behind a newline
pub gap_here : (full : Bool) (rs : List Aimed) → has_here rs ≡ true → gap (owed_text full rs) ≡ 10 ∷ owed_text full rs
gap_here full [] e = absurd cc
gap_here full (r ∷ rs) e = gap_first (is_here r.op) full (parts_text full in_body blank r.word) (owed_text full rs) (λ f. gap_here full rs (later (is_here r.op) (has_here rs) e f))

none_first : (here more : Bool) → (here || more) ≡ false → (here ≡ false) × (more ≡ false)
none_first true more e = absurd cc
none_first false more e = (refl, e)

pub nothing_owed : (full : Bool) (rs : List Aimed) → has_here rs ≡ false → owed_text full rs ≡ []
nothing_owed full [] e = refl
nothing_owed full (r ∷ rs) e =
    let p = none_first (is_here r.op) (has_here rs) e in
    rw p.0 (nothing_owed full rs p.1)

-- no bodies: a blank
pub gap_none : (full : Bool) (rs : List Aimed) → has_here rs ≡ false → gap (owed_text full rs) ≡ blank
gap_none full rs e = rw (nothing_owed full rs e) refl

pub owed_append : (full : Bool) (rs ss : List Aimed) → owed_text full (rs ++ ss) ≡ owed_text full rs ++ owed_text full ss
owed_append full [] ss = refl
owed_append full (r ∷ rs) ss = ap (λ (x : Text). body_text full r ++ x) (owed_append full rs ss) ∙ sym (append_assoc (body_text full r) (owed_text full rs) (owed_text full ss))

next_text : (t : Text) → gap t ≡ 10 ∷ t → ended next t ≡ 10 ∷ t
next_text [] e = absurd cc
next_text (b ∷ bs) e = refl

pub next_here : (full : Bool) (rs : List Aimed) → has_here rs ≡ true → ended next (owed_text full rs) ≡ 10 ∷ owed_text full rs
next_here full rs e = next_text (owed_text full rs) (gap_here full rs e)

pub next_none : (full : Bool) (rs : List Aimed) → has_here rs ≡ false → ended next (owed_text full rs) ≡ 59 ∷ 32 ∷ []
next_none full rs e = rw (nothing_owed full rs e) refl
