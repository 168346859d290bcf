-- The loop over the lines of a script.
use Rattle.std.proofs.Common.{◌≡◌, ℕ, suc, ◌+◌, ◌-◌, ◌<◌, ◌≤◌, List, [], ◌∷◌, ◌++◌, length, Option, Some, None, Result, Ok, Err, refl, sym, ap, subst, ◌∙◌, append_assoc, arith, Bor}
use Rattle.std.proofs.lemmas.List.{append-nil, length-append}
use Rattle.std.proofs.lemmas.List.Folds.{length-prefix_len}
use Rattle.std.specs.List.{slice_split, prefix_len}
use Rattle.span_text.specs.Scanning.{is_newline, is_blank}
use Rattle.span_text.specs.declared.span.Span.{Span}
use Rattle.bash_tree.specs.Shape.{Command, Chain, Script, no_item, item, background_item, alone}
use Rattle.bash_tree.specs.declared.tree.Item.{Item}
use Rattle.bash_tree.specs.View.{items_of, item_of, view_chain}
use Rattle.bash2sh.specs.Model.{◌>>◌, line_at, put, by_line, lines_at, script_from}
use Rattle.bash2sh.specs.Spelling.{LinesAt, Reads, IsFirstBad}
use Rattle.bash2sh.specs.Views.{Cut, Pushed, GivesItems, IfNotYet}
use Rattle.bash2sh.specs.declared.fault.ReadFault.{ReadFault}
use Rattle.bash2sh.specs.declared.fault.ReadFault.TheVariants as fault
use Rattle.bash2sh.proofs.LineLaws.{lines_sound, is_refused, is_placed}

-- ---- one script behind another

abbrev behind : Script → Script → Script
behind no_item t = t
behind (item c s) t = item c (behind s t)
behind (background_item c s) t = background_item c (behind s t)

item_behind : (at : Option Span) (c : Chain) (s t : Script) → item_of at c (behind s t) ≡ behind (item_of at c s) t
item_behind None c s t = refl
item_behind (Some at) c s t = refl

items_behind : (xs ys : List Item) → items_of (xs ++ ys) ≡ behind (items_of xs) (items_of ys)
items_behind [] ys = refl
items_behind (x ∷ xs) ys = ap (item_of x.background (view_chain x.chain)) (items_behind xs ys) ∙ item_behind x.background (view_chain x.chain) (items_of xs) (items_of ys)

script_behind : (cs ds : List Command) → script_from (cs ++ ds) ≡ behind (script_from cs) (script_from ds)
script_behind [] ds = refl
script_behind (c ∷ cs) ds = ap (item (alone c)) (script_behind cs ds)

-- ---- what the loop keeps

pub record SoFar (text rest : List ℕ) (items : List Item) : Type 0 where
  pub done : List Command
  pub is : items_of items ≡ script_from done
  pub read : lines_at 0 (slice_split is_newline text) ≡ (lines_at (length text - length rest) (slice_split is_newline rest) >> λ cs. Ok (done ++ cs))
  pub fits : length rest ≤ length text

pub same : (r : Result (List Command) ℕ) → r ≡ (r >> λ cs. Ok ([] ++ cs))
same (Ok cs) = refl
same (Err e) = refl

pub SoFar-start : (text : List ℕ) → SoFar text text []
SoFar-start text =
    let none : length text - length text ≡ 0 = omega arith in
    record { done = []; is = refl; read = rw none (same (lines_at 0 (slice_split is_newline text))); fits = omega arith }

-- what stands behind a line
pub regroup : (done : List Command) (o : Option Command) (r : Result (List Command) ℕ) → ((r >> λ cs. Ok (put o cs)) >> λ cs. Ok (done ++ cs)) ≡ (r >> λ cs. Ok ((done ++ put o []) ++ cs))
regroup done None (Ok cs) = ap (λ (d : List Command). Ok (d ++ cs)) (sym (append-nil done))
regroup done (Some c) (Ok cs) = ap (λ (d : List Command). Ok d) (simp append_assoc)
regroup done o (Err e) = refl

pushed : (done : List Command) (o : Option Command) (old new : List Item) → items_of old ≡ script_from done → Pushed old o new → items_of new ≡ script_from (done ++ put o [])
pushed done None old new is p = ap items_of p ∙ is ∙ ap script_from (sym (append-nil done))
pushed done (Some c) old new is p =
    let e : items_of (old ++ p.0 ∷ []) ≡ behind (items_of old) (items_of (p.0 ∷ [])) = items_behind old (p.0 ∷ []) in
    ap items_of p.1 ∙ e ∙ ap (λ (s : Script). behind s (items_of (p.0 ∷ []))) is ∙ ap (behind (script_from done)) p.2 ∙ sym (script_behind done (c ∷ []))

-- the lines from this one on
pub by_first : (at : ℕ) (line : List ℕ) (ls : List (List ℕ)) (o : Option (Option Command)) → line_at line ≡ o → lines_at at (line ∷ ls) ≡ by_line at line o (lines_at (at + length line + 1) ls)
unfolding lines_at
by_first at line ls o e = ap (λ (x : Option (Option Command)). by_line at line x (lines_at (at + length line + 1) ls)) e

step : (text rest line : List ℕ) (ls : List (List ℕ)) (items : List Item) (o : Option Command) (s : SoFar text rest items) → slice_split is_newline rest ≡ line ∷ ls → line_at line ≡ Some o → lines_at 0 (slice_split is_newline text) ≡ (lines_at (length text - length rest + length line + 1) ls >> λ cs. Ok ((s.done ++ put o []) ++ cs))
step text rest line ls items o s split e =
    s.read ∙ ap (λ (l : List (List ℕ)). lines_at (length text - length rest) l >> λ cs. Ok (s.done ++ cs)) split
    ∙ ap (λ (r : Result (List Command) ℕ). r >> λ cs. Ok (s.done ++ cs)) (by_first (length text - length rest) line ls (Some o) e)
    ∙ regroup s.done o (lines_at (length text - length rest + length line + 1) ls)

pub SoFar-more : (text rest line : List ℕ) (more : Bor (List ℕ)) (items new : List Item) (o : Option Command) → Cut rest line (Some more) → line_at line ≡ Some o → Pushed items o new → SoFar text rest items → SoFar text more.now new
SoFar-more text rest line more items new o cut e p s =
    let fits = s.fits in
    let long : length rest ≡ length line + suc (length more.now) = ap length cut.0 ∙ length-append line (10 ∷ more.now) in
    let at : length text - length rest + length line + 1 ≡ length text - length more.now = omega arith in
    record {
      done = s.done ++ put o [];
      is = pushed s.done o items new s.is p;
      read = step text rest line (slice_split is_newline more.now) items o s cut.1 e ∙ ap (λ (n : ℕ). lines_at n (slice_split is_newline more.now) >> λ cs. Ok ((s.done ++ put o []) ++ cs)) at;
      fits = omega arith;
    }

pub SoFar-smaller : (rest line : List ℕ) (more : Bor (List ℕ)) → Cut rest line (Some more) → length more.now < length rest
SoFar-smaller rest line more cut =
    let long : length rest ≡ length line + suc (length more.now) = ap length cut.0 ∙ length-append line (10 ∷ more.now) in
    omega arith

pub SoFar-done : (text rest line : List ℕ) (items new : List Item) (o : Option Command) → Cut rest line None → line_at line ≡ Some o → Pushed items o new → SoFar text rest items → (cs : List Command) × (lines_at 0 (slice_split is_newline text) ≡ Ok cs) × (items_of new ≡ script_from cs)
unfolding lines_at
SoFar-done text rest line items new o cut e p s =
    (s.done ++ put o [], step text rest line [] items o s cut.1 e ∙ ap (λ (d : List Command). Ok d) (append-nil (s.done ++ put o [])), pushed s.done o items new s.is p)

bad_split : (text rest line : List ℕ) (ls : List (List ℕ)) (items : List Item) → slice_split is_newline rest ≡ line ∷ ls → line_at line ≡ None → SoFar text rest items → lines_at 0 (slice_split is_newline text) ≡ Err (length text - length rest + prefix_len is_blank line)
bad_split text rest line ls items split e s =
    s.read ∙ ap (λ (l : List (List ℕ)). lines_at (length text - length rest) l >> λ cs. Ok (s.done ++ cs)) split
    ∙ ap (λ (r : Result (List Command) ℕ). r >> λ cs. Ok (s.done ++ cs)) (by_first (length text - length rest) line ls None e)
    ∙ ap (λ (n : ℕ). Err (length text - length rest + n)) (length-prefix_len is_blank line)

pub SoFar-bad : (text rest line : List ℕ) (next : Option (Bor (List ℕ))) (items : List Item) → Cut rest line next → line_at line ≡ None → SoFar text rest items → lines_at 0 (slice_split is_newline text) ≡ Err (length text - length rest + prefix_len is_blank line)
SoFar-bad text rest line None items cut e s = bad_split text rest line [] items cut.1 e s
SoFar-bad text rest line (Some more) items cut e s = bad_split text rest line (slice_split is_newline more.now) items cut.1 e s

pub cut_shorter : (rest line : List ℕ) (next : Option (Bor (List ℕ))) → Cut rest line next → length line ≤ length rest
cut_shorter rest line None cut = let e : length rest ≡ length line = ap length cut.0 in omega arith
cut_shorter rest line (Some more) cut =
    let long : length rest ≡ length line + suc (length more.now) = ap length cut.0 ∙ length-append line (10 ∷ more.now) in
    omega arith

-- ---- what is read

pub items_found : (text : List ℕ) (items : List Item) → GivesItems (Ok items) (lines_at 0 (slice_split is_newline text)) → Reads text (items_of items)
items_found text items h = subst (λ (s : Script). LinesAt (slice_split is_newline text) s) (sym h.2) (lines_sound (slice_split is_newline text) 0 h.0 h.1)

pub items_refused : (f : ReadFault) (text : List ℕ) → GivesItems (Err f) (lines_at 0 (slice_split is_newline text)) → IfNotYet f (λ place. (s : Script) → Reads text s → ⊥)
items_refused fault.Memory text h = tt
items_refused (fault.NotYet place) text h = is_refused text place h

pub items_placed : (f : ReadFault) (text : List ℕ) → GivesItems (Err f) (lines_at 0 (slice_split is_newline text)) → IfNotYet f (λ place. IsFirstBad text place)
items_placed fault.Memory text h = tt
items_placed (fault.NotYet place) text h = is_placed text place h
