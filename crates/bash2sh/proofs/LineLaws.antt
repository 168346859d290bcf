-- The lines that are read are spelled so, and what is spelled so is read; the first line that isn't taken has its place.
use Rattle.std.proofs.Common.{◌≡◌, ℕ, ◌+◌, Bool, true, false, cond, eqb, List, [], ◌∷◌, ◌++◌, length, Option, Some, None, Result, Ok, Err, refl, sym, ap, subst, ◌∙◌, ◌⊎◌, inl, inr, arith}
use Rattle.std.specs.List.{list_all, slice_split}
use Rattle.std.proofs.lemmas.Bool.{eqb-true}
use Rattle.span_text.specs.Names.{begins_name}
use Rattle.span_text.specs.Scanning.{starts, Each, Run, is_newline, is_blank, is_plain_byte, is_comment_byte, ends_word}
use Rattle.span_text.proofs.Runs.{Run-front, Run-is}
use Rattle.span_text.proofs.Bytes.{marks}
use Rattle.bash_tree.specs.Shape.{Part, plain, exact, double, param, Parts, no_part, part, no_word, word, no_assign, assign, Command, simple, Script, no_item, item, background_item, alone}
use Rattle.bash2sh.specs.Form.{command_form}
use Rattle.bash2sh.specs.Spelling.{PartAt, WordAt, CommandAt, IsIdle, IsCommandLine, LinesAt, Reads, IsBadLine, total, IsFirstBad}
use Rattle.bash2sh.specs.Model.{◌>>=◌, ◌>>◌, run_at, command_at, of_form, front_at, line_at, put, by_line, lines_at, script_from}
use Rattle.bash2sh.proofs.Tools.{chosen, some_is, bind_some, bind_ok, ok_is, each_of, test_of}
use Rattle.bash2sh.proofs.CommandLaws.{command_sound, command_complete}

-- ---- no command begins with `#`, and none is empty

hash_begins_no_name : begins_name 35 ≡ false
unfolding begins_name
hash_begins_no_name = refl

no_hash_part : (p : Part) (more rest : List ℕ) → PartAt p (35 ∷ more) rest → ⊥
no_hash_part (plain text) more rest h = let k = marks.hash_no_plain in let e : is_plain_byte 35 ≡ true = h.0 in absurd cc
no_hash_part (exact text) more rest h = let k : eqb 35 39 ≡ true = ap (starts (λ b. eqb b 39)) h.1 in absurd cc
no_hash_part (double ps) more rest h = let k : eqb 35 34 ≡ true = ap (starts (λ b. eqb b 34)) h.1 in absurd cc
no_hash_part (param name) more rest h = h

no_hash_word : (w : Parts) (more rest : List ℕ) → WordAt w (35 ∷ more) rest → ⊥
no_hash_word no_part more rest h =
    let a : is_blank 35 ≡ true = ap ends_word h.1.0 ∙ h.1.1 in
    let b : is_blank 35 ≡ false = h.0 in
    absurd cc
no_hash_word (part p ps) more rest h = no_hash_part p more h.1.0 h.1.1

no_hash : (c : Command) (more : List ℕ) → CommandAt c (35 ∷ more) → ⊥
no_hash (simple no_assign no_word) more h = h
no_hash (simple no_assign (word w ws)) more h = no_hash_word w more h.0 h.1
no_hash (simple (assign name append v no_assign) no_word) more h = let a : begins_name 35 ≡ true = h.1 in let b = hash_begins_no_name in absurd cc
no_hash (simple (assign name append v no_assign) (word w ws)) more h = h
no_hash (simple (assign name append v (assign name' append' v' rest)) ws) more h = h

not_empty : (c : Command) → CommandAt c [] → ⊥
not_empty (simple no_assign no_word) h = h
not_empty (simple no_assign (word w ws)) h = let a : true ≡ false = h.1.0 in absurd cc
not_empty (simple (assign name append v no_assign) no_word) h = let a : false ≡ true = h.1 in absurd cc
not_empty (simple (assign name append v no_assign) (word w ws)) h = h
not_empty (simple (assign name append v (assign name' append' v' rest)) ws) h = h

no_hash_at : (c : Command) (b : ℕ) (rest : List ℕ) (t : Bool) → eqb b 35 ≡ t → CommandAt c (b ∷ rest) → t ≡ false
no_hash_at c b rest true e h = let is : b ≡ 35 = eqb-true _ _ e in absurd (no_hash c rest (subst (λ (k : ℕ). CommandAt c (k ∷ rest)) is h))
no_hash_at c b rest false e h = refl

-- ---- one line

-- what a line says
abbrev pub Says : Option Command → List ℕ → Type 0
Says None line = IsIdle line
Says (Some c) line = IsCommandLine c line

front_sound : (line gap front : List ℕ) (o : Option Command) → Run is_blank gap line front → front_at front ≡ Some o → Says o line
unfolding front_at
front_sound line gap [] o r e = subst (λ (x : Option Command). Says x line) (some_is None o e) (gap, [], r, inl refl)
front_sound line gap (b ∷ rest) o r e =
    elim (chosen (eqb b 35) (cond (list_all is_comment_byte rest) (Some None) None) (command_at (b ∷ rest) >>= of_form) (Some o) e) [
      | inl h ↦ elim (chosen (list_all is_comment_byte rest) (Some None) None (Some o) h.1) [
        | inl k ↦ let is : b ≡ 35 = eqb-true _ _ h.0 in
            subst (λ (x : Option Command). Says x line) (some_is None o k.1) (gap, b ∷ rest, r, inr (rest, ap (λ (j : ℕ). j ∷ rest) is, each_of is_comment_byte rest k.0))
        | inr k ↦ absurd cc
      ]
      | inr h ↦
          let a = bind_some (command_at (b ∷ rest)) of_form o h.1 in
          elim (chosen (command_form a.0) (Some (Some a.0)) None (Some o) a.2) [
            | inl k ↦ subst (λ (x : Option Command). Says x line) (some_is (Some a.0) o k.1) (gap, b ∷ rest, r, command_sound (b ∷ rest) a.0 r.stops a.1, k.0)
            | inr k ↦ absurd cc
          ]
    ]

pub line_sound : (line : List ℕ) (o : Option Command) → line_at line ≡ Some o → Says o line
unfolding line_at
line_sound line o e = front_sound line (run_at is_blank line).0 (run_at is_blank line).1 o (Run-front is_blank line) e

command_front : (c : Command) (front : List ℕ) → CommandAt c front → command_form c ≡ true → front_at front ≡ Some (Some c)
unfolding front_at
command_front c [] h f = absurd (not_empty c h)
command_front c (b ∷ rest) h f = rw (no_hash_at c b rest (eqb b 35) refl h, command_complete c (b ∷ rest) h, f) refl

idle_front : (rest : List ℕ) → ((rest ≡ []) ⊎ ((text : List ℕ) × (rest ≡ 35 ∷ text) × Each is_comment_byte text)) → front_at rest ≡ Some None
unfolding front_at
idle_front rest (inl e) = ap front_at e
idle_front rest (inr h) = ap front_at h.1 ∙ rw (test_of is_comment_byte h.0 h.2) refl

pub line_complete : (line : List ℕ) (o : Option Command) → Says o line → line_at line ≡ Some o
unfolding line_at
line_complete line None h =
    let k = Run-is is_blank h.0 line h.1 h.2 in
    ap front_at k.1 ∙ idle_front h.1 h.3
line_complete line (Some c) h =
    let k = Run-is is_blank h.0 line h.1 h.2 in
    ap front_at k.1 ∙ command_front c h.1 h.3 h.4

pub line_bad : (line : List ℕ) → line_at line ≡ None → IsBadLine line
line_bad line e = record {
  no_idle = λ h. let k = line_complete line None h in cc;
  no_command = λ c h. let k = line_complete line (Some c) h in cc;
}

-- ---- all lines

-- a line and those behind it
line_then : (l : List ℕ) (ls : List (List ℕ)) (at : ℕ) (cs : List Command) (o : Option (Option Command)) → ((xs : List Command) → lines_at (at + length l + 1) ls ≡ Ok xs → LinesAt ls (script_from xs)) → line_at l ≡ o → by_line at l o (lines_at (at + length l + 1) ls) ≡ Ok cs → LinesAt (l ∷ ls) (script_from cs)
line_then l ls at cs None more is k = absurd cc
line_then l ls at cs (Some None) more is k =
    let a = bind_ok (lines_at (at + length l + 1) ls) (λ xs. Ok xs) cs k in
    subst (λ (x : List Command). LinesAt (l ∷ ls) (script_from x)) (ok_is a.0 cs a.2) (inl (line_sound l None is, more a.0 a.1))
line_then l ls at cs (Some (Some c)) more is k =
    let a = bind_ok (lines_at (at + length l + 1) ls) (λ xs. Ok (c ∷ xs)) cs k in
    subst (λ (x : List Command). LinesAt (l ∷ ls) (script_from x)) (ok_is (c ∷ a.0) cs a.2) (inr (c, script_from a.0, refl, line_sound l (Some c) is, more a.0 a.1))

pub lines_sound : (ls : List (List ℕ)) (at : ℕ) (cs : List Command) → lines_at at ls ≡ Ok cs → LinesAt ls (script_from cs)
unfolding lines_at
lines_sound [] at cs e = subst (λ (x : List Command). LinesAt [] (script_from x)) (ok_is [] cs e) tt
lines_sound (l ∷ ls) at cs e = line_then l ls at cs (line_at l) (lines_sound ls (at + length l + 1)) refl e

pub record Found (at : ℕ) (ls : List (List ℕ)) (s : Script) : Type 0 where
  pub commands : List Command
  pub read : lines_at at ls ≡ Ok commands
  pub is : script_from commands ≡ s

pub lines_complete : (ls : List (List ℕ)) (at : ℕ) (s : Script) → LinesAt ls s → Found at ls s
unfolding lines_at
lines_complete [] at no_item h = record { commands = []; read = refl; is = refl }
lines_complete [] at (item c more) h = absurd h
lines_complete [] at (background_item c more) h = absurd h
lines_complete (l ∷ ls) at s (inl h) =
    let f = lines_complete ls (at + length l + 1) s h.1 in
    record { commands = f.commands; read = rw (line_complete l None h.0, f.read) refl; is = f.is }
lines_complete (l ∷ ls) at s (inr h) =
    let f = lines_complete ls (at + length l + 1) h.1 h.4 in
    record { commands = h.0 ∷ f.commands; read = rw (line_complete l (Some h.0) h.3, f.read) refl; is = ap (item (alone h.0)) f.is ∙ sym h.2 }

-- the first bad line of these
pub record BadAt (at : ℕ) (ls : List (List ℕ)) (place : ℕ) : Type 0 where
  pub before : List (List ℕ)
  pub line : List ℕ
  pub behind : List (List ℕ)
  pub lines : ls ≡ before ++ line ∷ behind
  pub taken : (s : Script) × LinesAt before s
  pub bad : line_at line ≡ None
  pub place-is : place ≡ at + total before + length (run_at is_blank line).0

abbrev failed : ℕ → Result (List Command) ℕ
failed n = Err n

err_is : (a b : ℕ) → failed a ≡ failed b → a ≡ b
err_is a b e = cc

bind_err : (r : Result (List Command) ℕ) (f : List Command → List Command) (place : ℕ) → (r >> λ xs. Ok (f xs)) ≡ Err place → r ≡ Err place
bind_err (Ok x) f place e = absurd cc
bind_err (Err d) f place e = e

-- a line that is taken stands before
later : (l : List ℕ) (ls : List (List ℕ)) (at place : ℕ) (o : Option Command) → Says o l → BadAt (at + length l + 1) ls place → BadAt at (l ∷ ls) place
later l ls at place o says b = record {
  before = l ∷ b.before;
  line = b.line;
  behind = b.behind;
  lines = ap (λ (x : List (List ℕ)). l ∷ x) b.lines;
  taken = and_more o says;
  bad = b.bad;
  place-is = omega (arith, b.place-is);
}
  where
    and_more : (o : Option Command) → Says o l → (s : Script) × LinesAt (l ∷ b.before) s
    and_more None h = (b.taken.0, inl (h, b.taken.1))
    and_more (Some c) h = (item (alone c) b.taken.0, inr (c, b.taken.0, refl, h, b.taken.1))

bad_then : (l : List ℕ) (ls : List (List ℕ)) (at place : ℕ) (o : Option (Option Command)) → (lines_at (at + length l + 1) ls ≡ Err place → BadAt (at + length l + 1) ls place) → line_at l ≡ o → by_line at l o (lines_at (at + length l + 1) ls) ≡ Err place → BadAt at (l ∷ ls) place
bad_then l ls at place None more is k = record {
  before = [];
  line = l;
  behind = ls;
  lines = refl;
  taken = (no_item, tt);
  bad = is;
  place-is = let e = err_is (at + length (run_at is_blank l).0) place k in omega (arith, e);
}
bad_then l ls at place (Some o) more is k = later l ls at place o (line_sound l o is) (more (bind_err (lines_at (at + length l + 1) ls) (put o) place k))

pub lines_bad : (ls : List (List ℕ)) (at place : ℕ) → lines_at at ls ≡ Err place → BadAt at ls place
unfolding lines_at
lines_bad [] at place e = absurd cc
lines_bad (l ∷ ls) at place e = bad_then l ls at place (line_at l) (lines_bad ls (at + length l + 1) place) refl e

pub is_placed : (text : List ℕ) (place : ℕ) → lines_at 0 (slice_split is_newline text) ≡ Err place → IsFirstBad text place
is_placed text place e =
    let b = lines_bad (slice_split is_newline text) 0 place e in
    record {
      before = b.before;
      line = b.line;
      behind = b.behind;
      lines = b.lines;
      taken = b.taken;
      bad = line_bad b.line b.bad;
      gap = (run_at is_blank b.line).0;
      first = (run_at is_blank b.line).1;
      blanks = Run-front is_blank b.line;
      place-is = omega (arith, b.place-is);
    }

pub is_refused : (text : List ℕ) (place : ℕ) → lines_at 0 (slice_split is_newline text) ≡ Err place → (s : Script) → Reads text s → ⊥
is_refused text place e s h = let f = lines_complete (slice_split is_newline text) 0 s h in let g = f.read in cc

-- ---- the loop over the lines

pub record SoFar (all : List (List ℕ)) (at : ℕ) (rest : List (List ℕ)) (items : Script) (size : ℕ) : Type 0 where
  pub done : List Command
  pub is : items ≡ script_from done
  pub read : lines_at 0 all ≡ (lines_at at rest >> λ cs. Ok (done ++ cs))
  pub fits : at + total rest ≡ size
