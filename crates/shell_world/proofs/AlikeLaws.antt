-- What is done through matched descriptors keeps two outsides alike.
use Rattle.std.proofs.Common.{◌≡◌, ◌⊎◌, inl, inr, ℕ, zero, suc, ◌+◌, Bool, true, false, if◌then◌else◌, ◌<◌, List, [], ◌∷◌, ◌++◌, length, drop, Option, Some, None, refl, sym, ap, ap₂, ◌∙◌, subst, arith, ◌↔◌}
use Rattle.std.proofs.lemmas.Bool.{cases_eq}
use Rattle.shell_world.specs.declared.world.Row.{Row}
use Rattle.shell_world.specs.declared.world.Answer.{Answer}
use Rattle.shell_world.specs.declared.world.RowInput.{RowInput}
use Rattle.shell_world.specs.declared.world.RowInput.TheVariants.{Nothing, Any, Exactly}
use Rattle.shell_world.specs.declared.description.Description.TheVariants.{Reading, Writing, Appending, Given, Buffer, Output, Errors}
use Rattle.shell_world.specs.Texts.{Text, Map, nth, with_nth, insert, lookup, text_or_none}
use Rattle.shell_world.specs.Outside.{Desc, Outside, Trace, Fds, index_at, desc_at, open_at, change_desc, unread, read_on, consumed_at, drained_at, overwritten, write_to, written_at}
use Rattle.shell_world.specs.Calls.{Called, recorded, taken_by, input_after_at, input_after, times, answer_at, answered, row_called, answered_by, called_by, chosen_from}
use Rattle.shell_world.specs.Lines.{line_taken, line_read_at}
use Rattle.shell_world.specs.declared.world.World.{World}
use Rattle.shell_world.specs.declared.opening.Found.{Found}
use Rattle.shell_world.specs.declared.opening.Found.TheVariants as found
use Rattle.shell_world.specs.declared.opening.OpenFault.TheVariants as fault
use Rattle.shell_world.specs.Paths.{path_of, found_in, is_folder, is_under_file}
use Rattle.shell_world.specs.World.{start_outside, start_fds, no_trace}
use Rattle.shell_world.specs.Opening.{Opened, Refused, Opens, opens, read_found, read_named, read_opened, writer, kept, written_path, write_named, write_opened, text_opened, buffer_opened, with_desc, emptied, emptied_at, taken_at}
use Rattle.shell_world.specs.Alike.{Matching, IsMatched, AreMatched, Alike, AlikeFds, Keeps, CalledAlike, OpenedAlike, start_matching}

-- ---- lists

nth_below : (i : ℕ) (d : Desc) (ds : List Desc) → nth i ds ≡ Some d → i < length ds
nth_below i d [] e = cc
nth_below zero d (x ∷ ds) e = omega arith
nth_below (suc i) d (x ∷ ds) e = let h : i < length ds = nth_below i d ds e in omega arith

nth_set : {X : Type 0} (i : ℕ) (d e : X) (ds : List X) → nth i ds ≡ Some e → nth i (with_nth i d ds) ≡ Some d
nth_set i d e [] h = cc
nth_set zero d e (x ∷ ds) h = refl
nth_set (suc i) d e (x ∷ ds) h = nth_set i d e ds h

nth_kept : {X : Type 0} (i k : ℕ) (d : X) (ds : List X) → ¬ (i ≡ k) → nth k (with_nth i d ds) ≡ nth k ds
nth_kept i k d [] h = refl
nth_kept zero zero d (x ∷ ds) h = absurd (h refl)
nth_kept zero (suc k) d (x ∷ ds) h = refl
nth_kept (suc i) zero d (x ∷ ds) h = refl
nth_kept (suc i) (suc k) d (x ∷ ds) h = nth_kept i k d ds (λ e. h (ap suc e))

nth_old : (k : ℕ) (e : Desc) (ds : List Desc) → k < length ds → nth k (ds ++ e ∷ []) ≡ nth k ds
nth_old k e [] h = absurd (omega arith)
nth_old zero e (d ∷ ds) h = refl
nth_old (suc k) e (d ∷ ds) h = nth_old k e ds (omega arith)

nth_new : (e : Desc) (ds : List Desc) → nth (length ds) (ds ++ e ∷ []) ≡ Some e
nth_new e [] = refl
nth_new e (d ∷ ds) = nth_new e ds

-- ---- a change of matched descriptions

-- two descriptions at matched numbers
pub record Both (i j : ℕ) (ds es : List Desc) : Type 0 where
  pub desc : Desc
  pub left : nth i ds ≡ Some desc
  pub right : nth j es ≡ Some desc

pub both_at : (ms : Matching) (a b : Trace × Outside) (i j : ℕ) → Alike ms a b → IsMatched ms i j → Both i j a.1.descs b.1.descs
both_at ms a b i j h m = let e = h.equal i j m in record { desc = e.0; left = e.1; right = e.2 }

pub desc_same : (ms : Matching) (a b : Trace × Outside) (i j : Option ℕ) → Alike ms a b → AreMatched ms i j → desc_at i a.1.descs ≡ desc_at j b.1.descs
desc_same ms a b None None h m = refl
desc_same ms a b None (Some j) h m = absurd m
desc_same ms a b (Some i) None h m = absurd m
desc_same ms a b (Some i) (Some j) h m = let e = both_at ms a b i j h m in e.left ∙ sym e.right

equal_set : (ms : Matching) (a b : Trace × Outside) (d : Desc) (i j x y : ℕ) → Alike ms a b → IsMatched ms i j → IsMatched ms x y → (i ≡ x) ⊎ (i ≡ x → ⊥)
    → (e : Desc) × (nth x (with_nth i d a.1.descs) ≡ Some e) × (nth y (with_nth j d b.1.descs) ≡ Some e)
equal_set ms a b d i j x y h m n (inl same) =
    let e = both_at ms a b i j h m in
    let right : j ≡ y = (h.one_to_one i j x y m n).0 same in
    (d, subst (λ k. nth k (with_nth i d a.1.descs) ≡ Some d) same (nth_set i d e.desc a.1.descs e.left), subst (λ k. nth k (with_nth j d b.1.descs) ≡ Some d) right (nth_set j d e.desc b.1.descs e.right))
equal_set ms a b d i j x y h m n (inr other) =
    let e = both_at ms a b x y h n in
    let right : ¬ (j ≡ y) = λ same. other ((h.one_to_one i j x y m n).1 same) in
    (e.desc, nth_kept i x d a.1.descs other ∙ e.left, nth_kept j y d b.1.descs right ∙ e.right)

-- other records and files, and one description changed
pub alike_set : (ms : Matching) (a b : Trace × Outside) (i j : Option ℕ) (d : Desc) (t u : Trace) (fs gs : Map Text) → t ≡ u → fs ≡ gs → Alike ms a b → AreMatched ms i j
    → Alike ms (t, change_desc i d (record { files = fs; descs = a.1.descs })) (u, change_desc j d (record { files = gs; descs = b.1.descs }))
alike_set ms a b None None d t u fs gs e f h m = record { trace = e; files = f; one_to_one = h.one_to_one; equal = h.equal }
alike_set ms a b None (Some j) d t u fs gs e f h m = absurd m
alike_set ms a b (Some i) None d t u fs gs e f h m = absurd m
alike_set ms a b (Some i) (Some j) d t u fs gs e f h m = record { trace = e; files = f; one_to_one = h.one_to_one; equal = λ x y n. equal_set ms a b d i j x y h m n (cases_eq i x) }

pub alike_with : (ms : Matching) (a b : Trace × Outside) (t u : Trace) (fs gs : Map Text) → t ≡ u → fs ≡ gs → Alike ms a b
    → Alike ms (t, record { files = fs; descs = a.1.descs }) (u, record { files = gs; descs = b.1.descs })
alike_with ms a b t u fs gs e f h = record { trace = e; files = f; one_to_one = h.one_to_one; equal = h.equal }

-- ---- writing

write_to_alike : (ms : Matching) (a b : Trace × Outside) (i j : Option ℕ) (d : Option Desc) (piece : Text) → Alike ms a b → AreMatched ms i j → Alike ms (write_to i d piece a) (write_to j d piece b)
write_to_alike ms a b i j None piece h m = h
write_to_alike ms a b i j (Some (Reading path offset)) piece h m = h
write_to_alike ms a b i j (Some (Given text offset)) piece h m = h
write_to_alike ms a b i j (Some (Writing path offset)) piece h m =
    alike_set ms a b i j (Writing path (offset + length piece)) a.0 b.0 _ _ h.trace (ap (λ fs. insert path (overwritten offset piece (text_or_none (lookup path fs))) fs) h.files) h m
write_to_alike ms a b i j (Some (Appending path)) piece h m =
    alike_with ms a b a.0 b.0 _ _ h.trace (ap (λ fs. insert path (text_or_none (lookup path fs) ++ piece) fs) h.files) h
write_to_alike ms a b i j (Some (Buffer text)) piece h m = alike_set ms a b i j (Buffer (text ++ piece)) a.0 b.0 a.1.files b.1.files h.trace h.files h m
write_to_alike ms a b i j (Some Output) piece h m = alike_with ms a b _ _ a.1.files b.1.files (ap (λ (t : Trace). record t { out = t.out ++ piece }) h.trace) h.files h
write_to_alike ms a b i j (Some Errors) piece h m = alike_with ms a b _ _ a.1.files b.1.files (ap (λ (t : Trace). record t { err = t.err ++ piece }) h.trace) h.files h

pub written_alike : (ms : Matching) (a b : Trace × Outside) (i j : Option ℕ) (piece : Text) → Alike ms a b → AreMatched ms i j → Alike ms (written_at i piece a) (written_at j piece b)
written_alike ms a b i j [] h m = h
written_alike ms a b i j (c ∷ cs) h m =
    subst (λ d. Alike ms (write_to i (desc_at i a.1.descs) (c ∷ cs) a) (write_to j d (c ∷ cs) b)) (desc_same ms a b i j h m)
    (write_to_alike ms a b i j (desc_at i a.1.descs) (c ∷ cs) h m)

-- ---- reading

unread_alike : (d : Option Desc) (o p : Outside) → o.files ≡ p.files → unread d o ≡ unread d p
unread_alike None o p e = refl
unread_alike (Some (Reading path offset)) o p e = ap (λ fs. drop offset (text_or_none (lookup path fs))) e
unread_alike (Some (Given text offset)) o p e = refl
unread_alike (Some (Writing path offset)) o p e = refl
unread_alike (Some (Appending path)) o p e = refl
unread_alike (Some (Buffer text)) o p e = refl
unread_alike (Some Output) o p e = refl
unread_alike (Some Errors) o p e = refl

-- the same is to be read
pub unread_same : (ms : Matching) (a b : Trace × Outside) (i j : Option ℕ) → Alike ms a b → AreMatched ms i j → unread (desc_at i a.1.descs) a.1 ≡ unread (desc_at j b.1.descs) b.1
unread_same ms a b i j h m = unread_alike (desc_at i a.1.descs) a.1 b.1 h.files ∙ ap (λ d. unread d b.1) (desc_same ms a b i j h m)

consumed_by : (ms : Matching) (a b : Trace × Outside) (i j : Option ℕ) (n : ℕ) (d : Option Desc) → Alike ms a b → AreMatched ms i j → Alike ms (a.0, consumed_at n i d a.1) (b.0, consumed_at n j d b.1)
consumed_by ms a b i j n None h m = h
consumed_by ms a b i j n (Some d) h m = alike_set ms a b i j (read_on n d) a.0 b.0 a.1.files b.1.files h.trace h.files h m

pub consumed_alike : (ms : Matching) (a b : Trace × Outside) (i j : Option ℕ) (n k : ℕ) → n ≡ k → Alike ms a b → AreMatched ms i j
    → Alike ms (a.0, consumed_at n i (desc_at i a.1.descs) a.1) (b.0, consumed_at k j (desc_at j b.1.descs) b.1)
consumed_alike ms a b i j n k e h m =
    subst (λ l. Alike ms (a.0, consumed_at n i (desc_at i a.1.descs) a.1) (b.0, consumed_at l j (desc_at j b.1.descs) b.1)) e
    (subst (λ d. Alike ms (a.0, consumed_at n i (desc_at i a.1.descs) a.1) (b.0, consumed_at n j d b.1)) (desc_same ms a b i j h m)
    (consumed_by ms a b i j n (desc_at i a.1.descs) h m))

pub drained_alike : (ms : Matching) (a b : Trace × Outside) (i j : Option ℕ) → Alike ms a b → AreMatched ms i j → Alike ms (a.0, drained_at i a.1) (b.0, drained_at j b.1)
drained_alike ms a b i j h m = consumed_alike ms a b i j _ _ (ap length (unread_same ms a b i j h m)) h m

-- the line itself is `line_of` of what `unread_same` says is the same
pub line_alike : (ms : Matching) (a b : Trace × Outside) (i j : Option ℕ) → Alike ms a b → AreMatched ms i j → Alike ms (a.0, line_read_at i a.1) (b.0, line_read_at j b.1)
line_alike ms a b i j h m = consumed_alike ms a b i j _ _ (ap line_taken (unread_same ms a b i j h m)) h m

-- ---- buffers

emptied_by : (ms : Matching) (a b : Trace × Outside) (i j : Option ℕ) (d : Option Desc) → Alike ms a b → AreMatched ms i j → Alike ms (a.0, emptied_at i d a.1) (b.0, emptied_at j d b.1)
emptied_by ms a b i j None h m = h
emptied_by ms a b i j (Some d) h m = alike_set ms a b i j (emptied d) a.0 b.0 a.1.files b.1.files h.trace h.files h m

pub taken_alike : (ms : Matching) (a b : Trace × Outside) (i j : Option ℕ) → Alike ms a b → AreMatched ms i j → Alike ms (a.0, taken_at i a.1) (b.0, taken_at j b.1)
taken_alike ms a b i j h m =
    subst (λ d. Alike ms (a.0, emptied_at i (desc_at i a.1.descs) a.1) (b.0, emptied_at j d b.1)) (desc_same ms a b i j h m)
    (emptied_by ms a b i j (desc_at i a.1.descs) h m)

-- ---- opening

pub keeps_all : (ms : Matching) → Keeps ms ms
keeps_all ms = record { by = λ i j m. m }

pub keeps_then : (ms ns os : Matching) → Keeps ms ns → Keeps ns os → Keeps ms os
keeps_then ms ns os g h = record { by = λ i j m. h.by i j (g.by i j m) }

pub keeps_more : (p : ℕ × ℕ) (ms : Matching) → Keeps ms (p ∷ ms)
keeps_more p ms = record { by = λ i j m. inr m }

pub matched_later : (ms ns : Matching) (i j : Option ℕ) → Keeps ms ns → AreMatched ms i j → AreMatched ns i j
matched_later ms ns None None g m = m
matched_later ms ns None (Some j) g m = m
matched_later ms ns (Some i) None g m = m
matched_later ms ns (Some i) (Some j) g m = g.by i j m

-- the matching with what both open next
abbrev pub with_next : Matching → Outside → Outside → Matching
with_next ms o p = (length o.descs, length p.descs) ∷ ms

module _ (ms : Matching) (a b : Trace × Outside) (h : Alike ms a b) where
  below_left : (i j : ℕ) → IsMatched ms i j → i < length a.1.descs
  below_left i j m = let e = both_at ms a b i j h m in nth_below i e.desc a.1.descs e.left

  below_right : (i j : ℕ) → IsMatched ms i j → j < length b.1.descs
  below_right i j m = let e = both_at ms a b i j h m in nth_below j e.desc b.1.descs e.right

  equal_next : (d : Desc) (i j : ℕ) → IsMatched (with_next ms a.1 b.1) i j → (e : Desc) × (nth i (a.1.descs ++ d ∷ []) ≡ Some e) × (nth j (b.1.descs ++ d ∷ []) ≡ Some e)
  equal_next d i j (inl m) =
      (d, subst (λ k. nth k (a.1.descs ++ d ∷ []) ≡ Some d) m.0 (nth_new d a.1.descs), subst (λ k. nth k (b.1.descs ++ d ∷ []) ≡ Some d) m.1 (nth_new d b.1.descs))
  equal_next d i j (inr m) =
      let e = both_at ms a b i j h m in
      (e.desc, nth_old i d a.1.descs (below_left i j m) ∙ e.left, nth_old j d b.1.descs (below_right i j m) ∙ e.right)

  next_apart : (i j k l : ℕ) → IsMatched (with_next ms a.1 b.1) i j → IsMatched (with_next ms a.1 b.1) k l → (i ≡ k) ↔ (j ≡ l)
  next_apart i j k l (inl m) (inl n) = ((λ e. sym m.1 ∙ n.1), (λ e. sym m.0 ∙ n.0))
  next_apart i j k l (inl m) (inr n) =
      let p = below_left k l n in
      let q = below_right k l n in
      let u = m.0 in
      let v = m.1 in
      ((λ e. absurd (omega arith)), (λ e. absurd (omega arith)))
  next_apart i j k l (inr m) (inl n) =
      let p = below_left i j m in
      let q = below_right i j m in
      let u = n.0 in
      let v = n.1 in
      ((λ e. absurd (omega arith)), (λ e. absurd (omega arith)))
  next_apart i j k l (inr m) (inr n) = h.one_to_one i j k l m n

  -- both open the same, and it is matched
  pub open_alike : (d : Desc) (fs gs : Map Text) → fs ≡ gs → Alike (with_next ms a.1 b.1) (a.0, with_desc d (record { files = fs; descs = a.1.descs })) (b.0, with_desc d (record { files = gs; descs = b.1.descs }))
  open_alike d fs gs e = record { trace = h.trace; files = e; one_to_one = next_apart; equal = equal_next d }

  -- the one opens what isn't matched
  pub open_alone : (d : Desc) → Alike ms a (b.0, with_desc d b.1)
  open_alone d = record {
    trace = h.trace;
    files = h.files;
    one_to_one = h.one_to_one;
    equal = λ i j m. let e = both_at ms a b i j h m in (e.desc, e.left, nth_old j d b.1.descs (below_right i j m) ∙ e.right);
  }

-- ---- calls

recorded_same : (argv : List Text) (env : List (Text × Text)) (input input' : Option Text) (row : Option ℕ) (t u : Trace) → input ≡ input' → t ≡ u → recorded argv env input row t ≡ recorded argv env input' row u
recorded_same argv env input input' row t u e f = ap₂ (λ x y. recorded argv env x row y) e f

input_alike : (ms : Matching) (a b : Trace × Outside) (i j : Option ℕ) (rule : RowInput) → Alike ms a b → AreMatched ms i j → Alike ms (a.0, input_after_at rule i a.1) (b.0, input_after_at rule j b.1)
input_alike ms a b i j Nothing h m = h
input_alike ms a b i j Any h m = drained_alike ms a b i j h m
input_alike ms a b i j (Exactly text) h m = drained_alike ms a b i j h m

-- another record
pub retold : (ms : Matching) (a b : Trace × Outside) (t u : Trace) → t ≡ u → Alike ms a b → Alike ms (t, a.1) (u, b.1)
retold ms a b t u e h = record { trace = e; files = h.files; one_to_one = h.one_to_one; equal = h.equal }

answered_alike : (ms : Matching) (a b : Trace × Outside) (fds gds : Fds) (answer : Answer) → Alike ms a b → AlikeFds ms fds gds → CalledAlike ms (answered answer fds a) (answered answer gds b)
answered_alike ms a b fds gds answer h f = record {
  status = refl;
  after = written_alike ms _ _ _ _ answer.err (written_alike ms a b _ _ answer.out h (f.at 1)) (f.at 2);
}

row_alike : (ms : Matching) (a b : Trace × Outside) (fds gds : Fds) (k : ℕ) (row : Row) (argv : List Text) (env : List (Text × Text)) (input input' : Text) → input ≡ input' → Alike ms a b → AlikeFds ms fds gds
    → CalledAlike ms (row_called k row argv env fds input a.0 a.1) (row_called k row argv env gds input' b.0 b.1)
row_alike ms a b fds gds k row argv env input input' e h f =
    let t = recorded argv env (taken_by row.input input) (Some k) a.0 in
    let u = recorded argv env (taken_by row.input input') (Some k) b.0 in
    let taken : Alike ms (t, input_after row.input fds a.1) (u, input_after row.input gds b.1) =
    retold ms _ _ t u (recorded_same argv env _ _ (Some k) a.0 b.0 (ap (taken_by row.input) e) h.trace) (input_alike ms a b _ _ row.input h (f.at 0)) in
    subst (λ (v : Trace). CalledAlike ms (row_called k row argv env fds input a.0 a.1) (answered (answer_at (times k v.calls) row.answers) gds (u, input_after row.input gds b.1))) h.trace
    (answered_alike ms _ _ fds gds (answer_at (times k a.0.calls) row.answers) taken f)

by_choice : (ms : Matching) (a b : Trace × Outside) (fds gds : Fds) (choice : Option (ℕ × Row)) (argv : List Text) (env : List (Text × Text)) (input input' : Text) → input ≡ input' → Alike ms a b → AlikeFds ms fds gds
    → CalledAlike ms (answered_by choice argv env fds input a.0 a.1) (answered_by choice argv env gds input' b.0 b.1)
by_choice ms a b fds gds None argv env input input' e h f = record { status = refl; after = retold ms a b _ _ (ap (recorded argv env None None) h.trace) h }
by_choice ms a b fds gds (Some c) argv env input input' e h f = row_alike ms a b fds gds c.0 c.1 argv env input input' e h f

pub call_alike : (ms : Matching) (a b : Trace × Outside) (fds gds : Fds) (rows : List Row) (argv : List Text) (env : List (Text × Text)) → Alike ms a b → AlikeFds ms fds gds
    → CalledAlike ms (called_by rows argv env fds a.0 a.1) (called_by rows argv env gds b.0 b.1)
call_alike ms a b fds gds rows argv env h f =
    let input = unread (open_at 0 fds a.1) a.1 in
    let input' = unread (open_at 0 gds b.1) b.1 in
    let e : input ≡ input' = unread_same ms a b _ _ h (f.at 0) in
    subst (λ i. CalledAlike ms (called_by rows argv env fds a.0 a.1) (answered_by (chosen_from 0 rows argv i) argv env gds input' b.0 b.1)) e
    (by_choice ms a b fds gds (chosen_from 0 rows argv input) argv env input input' e h f)

-- ---- what is opened

pub text_alike : (ms : Matching) (a b : Trace × Outside) (text : Text) → Alike ms a b → OpenedAlike ms a.0 b.0 (text_opened text a.1) (text_opened text b.1)
text_alike ms a b text h = open_alike ms a b h (Given text 0) a.1.files b.1.files h.files

pub buffer_alike : (ms : Matching) (a b : Trace × Outside) → Alike ms a b → OpenedAlike ms a.0 b.0 (buffer_opened a.1) (buffer_opened b.1)
buffer_alike ms a b h = open_alike ms a b h (Buffer []) a.1.files b.1.files h.files

found_alike : (ms : Matching) (a b : Trace × Outside) (f : Found) (path : Text) → Alike ms a b → OpenedAlike ms a.0 b.0 (read_found f path a.1) (read_found f path b.1)
found_alike ms a b found.Nothing path h = refl
found_alike ms a b found.Folder path h = refl
found_alike ms a b (found.File size) path h = open_alike ms a b h (Reading path 0) a.1.files b.1.files h.files

read_alike_at : (ms : Matching) (a b : Trace × Outside) (path : Option Text) → Alike ms a b → OpenedAlike ms a.0 b.0 (read_named path a.1) (read_named path b.1)
read_alike_at ms a b None h = refl
read_alike_at ms a b (Some path) h =
    subst (λ fs. OpenedAlike ms a.0 b.0 (read_found (found_in path a.1.files) path a.1) (read_found (found_in path fs) path b.1)) h.files
    (found_alike ms a b (found_in path a.1.files) path h)

pub read_alike : (ms : Matching) (a b : Trace × Outside) (text : Text) → Alike ms a b → OpenedAlike ms a.0 b.0 (read_opened text a.1) (read_opened text b.1)
read_alike ms a b text h = read_alike_at ms a b (path_of text) h

path_alike : (ms : Matching) (a b : Trace × Outside) (append : Bool) (path : Text) → Alike ms a b → OpenedAlike ms a.0 b.0 (written_path append path a.1) (written_path append path b.1)
path_alike ms a b append path h =
    open_alike ms a b h (writer append path) _ _ (ap (λ fs. insert path (kept append (text_or_none (lookup path fs))) fs) h.files)

tests_alike : (ms : Matching) (a b : Trace × Outside) (append : Bool) (path : Text) (x y : Bool) → Alike ms a b
    → OpenedAlike ms a.0 b.0 (if x then Refused fault.IsFolder else (if y then Refused fault.UnderFile else written_path append path a.1)) (if x then Refused fault.IsFolder else (if y then Refused fault.UnderFile else written_path append path b.1))
tests_alike ms a b append path true y h = refl
tests_alike ms a b append path false true h = refl
tests_alike ms a b append path false false h = path_alike ms a b append path h

write_alike_at : (ms : Matching) (a b : Trace × Outside) (append : Bool) (path : Option Text) → Alike ms a b → OpenedAlike ms a.0 b.0 (write_named append path a.1) (write_named append path b.1)
write_alike_at ms a b append None h = refl
write_alike_at ms a b append (Some path) h =
    subst (λ fs. OpenedAlike ms a.0 b.0 (write_named append (Some path) a.1) (if is_folder path fs then Refused fault.IsFolder else (if is_under_file path fs then Refused fault.UnderFile else written_path append path b.1))) h.files
    (tests_alike ms a b append path (is_folder path a.1.files) (is_under_file path a.1.files) h)

pub write_alike : (ms : Matching) (a b : Trace × Outside) (append : Bool) (text : Text) → Alike ms a b → OpenedAlike ms a.0 b.0 (write_opened append text a.1) (write_opened append text b.1)
write_alike ms a b append text h = write_alike_at ms a b append (path_of text) h

-- ---- descriptors

pub fds_later : (ms ns : Matching) (fds gds : Fds) → Keeps ms ns → AlikeFds ms fds gds → AlikeFds ns fds gds
fds_later ms ns fds gds g f = record { at = λ n. matched_later ms ns (index_at (nth n fds)) (index_at (nth n gds)) g (f.at n) }

set_matched : (ms : Matching) (fds gds : Fds) (n k : ℕ) (i j e f : Option ℕ) → nth n fds ≡ Some e → nth n gds ≡ Some f → AreMatched ms i j → AreMatched ms (index_at (nth k fds)) (index_at (nth k gds)) → (n ≡ k) ⊎ (n ≡ k → ⊥)
    → AreMatched ms (index_at (nth k (with_nth n i fds))) (index_at (nth k (with_nth n j gds)))
set_matched ms fds gds n k i j e f is is' m old (inl same) =
    subst (λ l. AreMatched ms (index_at (nth l (with_nth n i fds))) (index_at (nth l (with_nth n j gds)))) same
    (subst (λ x. AreMatched ms (index_at x) (index_at (nth n (with_nth n j gds)))) (sym (nth_set n i e fds is)) (subst (λ y. AreMatched ms i (index_at y)) (sym (nth_set n j f gds is')) m))
set_matched ms fds gds n k i j e f is is' m old (inr other) =
    subst (λ x. AreMatched ms (index_at x) (index_at (nth k (with_nth n j gds)))) (sym (nth_kept n k i fds other))
    (subst (λ y. AreMatched ms (index_at (nth k fds)) (index_at y)) (sym (nth_kept n k j gds other)) old)

pub set_alike : (ms : Matching) (fds gds : Fds) (n : ℕ) (i j e f : Option ℕ) → nth n fds ≡ Some e → nth n gds ≡ Some f → AreMatched ms i j → AlikeFds ms fds gds → AlikeFds ms (with_nth n i fds) (with_nth n j gds)
set_alike ms fds gds n i j e f is is' m h = record { at = λ k. set_matched ms fds gds n k i j e f is is' m (h.at k) (cases_eq n k) }

-- ---- the start

start_same : (i j : ℕ) → IsMatched start_matching i j → i ≡ j
start_same i j (inl m) = sym m.0 ∙ m.1
start_same i j (inr (inl m)) = sym m.0 ∙ m.1
start_same i j (inr (inr (inl m))) = sym m.0 ∙ m.1
start_same i j (inr (inr (inr m))) = absurd m

start_equal : (w : World) (i j : ℕ) → IsMatched start_matching i j → (d : Desc) × (nth i (start_outside w).descs ≡ Some d) × (nth j (start_outside w).descs ≡ Some d)
start_equal w i j (inl m) = (Given w.stdin 0, ap (λ k. nth k (start_outside w).descs) (sym m.0), ap (λ k. nth k (start_outside w).descs) (sym m.1))
start_equal w i j (inr (inl m)) = (Output, ap (λ k. nth k (start_outside w).descs) (sym m.0), ap (λ k. nth k (start_outside w).descs) (sym m.1))
start_equal w i j (inr (inr (inl m))) = (Errors, ap (λ k. nth k (start_outside w).descs) (sym m.0), ap (λ k. nth k (start_outside w).descs) (sym m.1))
start_equal w i j (inr (inr (inr m))) = absurd m

pub start_alike : (w : World) → Alike start_matching (no_trace, start_outside w) (no_trace, start_outside w)
start_alike w = record {
  trace = refl;
  files = refl;
  one_to_one = λ i j k l m n. let p = start_same i j m in let q = start_same k l n in ((λ e. sym p ∙ e ∙ q), (λ e. p ∙ e ∙ sym q));
  equal = start_equal w;
}

start_open : (n : ℕ) → AreMatched start_matching (index_at (nth n start_fds)) (index_at (nth n start_fds))
start_open zero = inl (refl, refl)
start_open (suc zero) = inr (inl (refl, refl))
start_open (suc (suc zero)) = inr (inr (inl (refl, refl)))
start_open (suc (suc (suc zero))) = tt
start_open (suc (suc (suc (suc zero)))) = tt
start_open (suc (suc (suc (suc (suc zero))))) = tt
start_open (suc (suc (suc (suc (suc (suc zero)))))) = tt
start_open (suc (suc (suc (suc (suc (suc (suc zero))))))) = tt
start_open (suc (suc (suc (suc (suc (suc (suc (suc zero)))))))) = tt
start_open (suc (suc (suc (suc (suc (suc (suc (suc (suc zero))))))))) = tt
start_open (suc (suc (suc (suc (suc (suc (suc (suc (suc (suc n)))))))))) = tt

pub start_fds_alike : AlikeFds start_matching start_fds start_fds
start_fds_alike = record { at = start_open }
