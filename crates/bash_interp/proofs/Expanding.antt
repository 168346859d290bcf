-- Words are expanded part by part, and fields word by word.
use Rattle.std.proofs.Common.{◌≡◌, ℕ, zero, suc, ◌+◌, ◌<◌, ◌≤◌, length, get_or, drop, List, [], ◌∷◌, ◌++◌, refl, sym, ap, ◌∙◌, arith, append_assoc, append-nil, add-one}
use Rattle.std.specs.Prelude.{map}
use Rattle.shell_world.specs.Texts.{Text}
use Rattle.shell_world.specs.Outside.{Trace}
use Rattle.shell_world.specs.Runs.{Try, Value, Fails, St, Res, Ends, GoesOn, Unspecified, Do, after, if_value}
use Rattle.bash_tree.specs.declared.tree.Part.{Part}
use Rattle.bash_tree.specs.declared.tree.Word.{Word}
use Rattle.bash_tree.specs.Shape as shape
use Rattle.bash_tree.specs.View.{view_part, view_word, parts_of, words_of}
use Rattle.bash_meaning.specs.Meaning.{Own, joined, word_text, fields}
use Rattle.bash_interp.specs.Shells.{with_front, with_fields}

front_front : (t u : Text) (o : Res (Try Text) Own) → with_front t (with_front u o) ≡ with_front (t ++ u) o
front_front t u (Ends (Value v) s n) = ap (λ x. Ends (Value x) s n) (sym (append_assoc t u v))
front_front t u (Ends Fails s n) = refl
front_front t u (GoesOn w n) = refl
front_front t u (Unspecified w n) = refl

after_front : (u : Text) (o : Res (Try Text) Own) → after o (if_value (λ v n s. Ends (Value (u ++ v)) s n)) ≡ with_front u o
after_front u (Ends (Value v) s n) = refl
after_front u (Ends Fails s n) = refl
after_front u (GoesOn w n) = refl
after_front u (Unspecified w n) = refl

pub no_front : (o : Res (Try Text) Own) → with_front [] o ≡ o
no_front (Ends (Value v) s n) = refl
no_front (Ends Fails s n) = refl
no_front (GoesOn w n) = refl
no_front (Unspecified w n) = refl

module _ (f : shape.Part → Do (Try Text) Own) (n : ℕ) (s : St Own) where
  abbrev pub rest : List Part → ℕ → Res (Try Text) Own
  rest ps i = joined f (parts_of (map view_part (drop i ps))) n s

  joined_value : (p : shape.Part) (ps : shape.Parts) (u : Text) → f p n s ≡ Ends (Value u) s n → joined f (shape.part p ps) n s ≡ with_front u (joined f ps n s)
  joined_value p ps u e = ap (λ o. after o (if_value (λ t n s. after (joined f ps n s) (if_value (λ u n s. Ends (Value (t ++ u)) s n))))) e ∙ after_front u (joined f ps n s)

  joined_stops : (p : shape.Part) (ps : shape.Parts) (w : Trace) (m : ℕ) → f p n s ≡ Unspecified w m → joined f (shape.part p ps) n s ≡ Unspecified w m
  joined_stops p ps w m e = ap (λ o. after o (if_value (λ t n s. after (joined f ps n s) (if_value (λ u n s. Ends (Value (t ++ u)) s n))))) e

  -- a part that has a text
  pub part_goes : (ps : List Part) (i : ℕ) (d : Part) (t u : Text) (all : Res (Try Text) Own) → i < length ps → f (view_part (get_or ps i d)) n s ≡ Ends (Value u) s n → with_front t (rest ps i) ≡ all → with_front (t ++ u) (rest ps (i + 1)) ≡ all
  part_goes [] i d t u all lt e h = absurd (omega arith)
  part_goes (p ∷ ps) zero d t u all lt e h = sym (front_front t u (rest ps 0)) ∙ sym (ap (with_front t) (joined_value (view_part p) (parts_of (map view_part ps)) u e)) ∙ h
  part_goes (p ∷ ps) (suc i) d t u all lt e h = ap (λ k. with_front (t ++ u) (rest (p ∷ ps) k)) (add-one (suc i)) ∙ ap (λ k. with_front (t ++ u) (rest ps k)) (sym (add-one i)) ∙ part_goes ps i d t u all (omega arith) e h

  -- a part that stops the run
  pub part_stops : (ps : List Part) (i : ℕ) (d : Part) (t : Text) (w : Trace) (m : ℕ) (all : Res (Try Text) Own) → i < length ps → f (view_part (get_or ps i d)) n s ≡ Unspecified w m → with_front t (rest ps i) ≡ all → all ≡ Unspecified w m
  part_stops [] i d t w m all lt e h = absurd (omega arith)
  part_stops (p ∷ ps) zero d t w m all lt e h = sym h ∙ ap (with_front t) (joined_stops (view_part p) (parts_of (map view_part ps)) w m e)
  part_stops (p ∷ ps) (suc i) d t w m all lt e h = part_stops ps i d t w m all (omega arith) e h

  pub parts_done : (ps : List Part) (i : ℕ) (t : Text) (all : Res (Try Text) Own) → length ps ≤ i → with_front t (rest ps i) ≡ all → all ≡ Ends (Value t) s n
  parts_done [] zero t all h e = sym e ∙ ap (λ x. Ends (Value x) s n) (append-nil t)
  parts_done [] (suc i) t all h e = sym e ∙ ap (λ x. Ends (Value x) s n) (append-nil t)
  parts_done (p ∷ ps) zero t all h e = absurd (omega arith)
  parts_done (p ∷ ps) (suc i) t all h e = parts_done ps i t all (omega arith) e

fields_fields : (ts us : List Text) (o : Res (Try (List Text)) Own) → with_fields ts (with_fields us o) ≡ with_fields (ts ++ us) o
fields_fields ts us (Ends (Value v) s n) = ap (λ x. Ends (Value x) s n) (sym (append_assoc ts us v))
fields_fields ts us (Ends Fails s n) = refl
fields_fields ts us (GoesOn w n) = refl
fields_fields ts us (Unspecified w n) = refl

after_fields : (t : Text) (o : Res (Try (List Text)) Own) → after o (if_value (λ ts n s. Ends (Value (t ∷ ts)) s n)) ≡ with_fields (t ∷ []) o
after_fields t (Ends (Value v) s n) = refl
after_fields t (Ends Fails s n) = refl
after_fields t (GoesOn w n) = refl
after_fields t (Unspecified w n) = refl

module _ (n : ℕ) (s : St Own) where
  abbrev rest_fields : List Word → ℕ → Res (Try (List Text)) Own
  rest_fields ws i = fields (words_of (drop i ws)) n s

  fields_value : (w : Word) (ws : List Word) (t : Text) → word_text (view_word w) n s ≡ Ends (Value t) s n → fields (words_of (w ∷ ws)) n s ≡ with_fields (t ∷ []) (fields (words_of ws) n s)
  fields_value w ws t e = ap (λ o. after o (if_value (λ t n s. after (fields (words_of ws) n s) (if_value (λ ts n s. Ends (Value (t ∷ ts)) s n))))) e ∙ after_fields t (fields (words_of ws) n s)

  fields_stop : (w : Word) (ws : List Word) (x : Trace) (m : ℕ) → word_text (view_word w) n s ≡ Unspecified x m → fields (words_of (w ∷ ws)) n s ≡ Unspecified x m
  fields_stop w ws x m e = ap (λ o. after o (if_value (λ t n s. after (fields (words_of ws) n s) (if_value (λ ts n s. Ends (Value (t ∷ ts)) s n))))) e

  -- a word that has a text
  pub word_goes : (ws : List Word) (i : ℕ) (d : Word) (ts : List Text) (t : Text) (all : Res (Try (List Text)) Own) → i < length ws → word_text (view_word (get_or ws i d)) n s ≡ Ends (Value t) s n → with_fields ts (rest_fields ws i) ≡ all → with_fields (ts ++ t ∷ []) (rest_fields ws (i + 1)) ≡ all
  word_goes [] i d ts t all lt e h = absurd (omega arith)
  word_goes (w ∷ ws) zero d ts t all lt e h = sym (fields_fields ts (t ∷ []) (rest_fields ws 0)) ∙ sym (ap (with_fields ts) (fields_value w ws t e)) ∙ h
  word_goes (w ∷ ws) (suc i) d ts t all lt e h = ap (λ k. with_fields (ts ++ t ∷ []) (rest_fields (w ∷ ws) k)) (add-one (suc i)) ∙ ap (λ k. with_fields (ts ++ t ∷ []) (rest_fields ws k)) (sym (add-one i)) ∙ word_goes ws i d ts t all (omega arith) e h

  -- a word that stops the run
  pub word_stops : (ws : List Word) (i : ℕ) (d : Word) (ts : List Text) (x : Trace) (m : ℕ) (all : Res (Try (List Text)) Own) → i < length ws → word_text (view_word (get_or ws i d)) n s ≡ Unspecified x m → with_fields ts (rest_fields ws i) ≡ all → all ≡ Unspecified x m
  word_stops [] i d ts x m all lt e h = absurd (omega arith)
  word_stops (w ∷ ws) zero d ts x m all lt e h = sym h ∙ ap (with_fields ts) (fields_stop w ws x m e)
  word_stops (w ∷ ws) (suc i) d ts x m all lt e h = word_stops ws i d ts x m all (omega arith) e h

  pub words_done : (ws : List Word) (i : ℕ) (ts : List Text) (all : Res (Try (List Text)) Own) → length ws ≤ i → with_fields ts (rest_fields ws i) ≡ all → all ≡ Ends (Value ts) s n
  words_done [] zero ts all h e = sym e ∙ ap (λ x. Ends (Value x) s n) (append-nil ts)
  words_done [] (suc i) ts all h e = sym e ∙ ap (λ x. Ends (Value x) s n) (append-nil ts)
  words_done (w ∷ ws) zero ts all h e = absurd (omega arith)
  words_done (w ∷ ws) (suc i) ts all h e = words_done ws i ts all (omega arith) e
