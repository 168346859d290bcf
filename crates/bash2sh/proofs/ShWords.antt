-- Words of the forms that are taken, as sh expands them: each is one field, with the text that it has by the variables.
use Rattle.std.proofs.Common.{◌≡◌, ℕ, Bool, true, false, not, List, [], ◌∷◌, ◌++◌, Option, Some, None, refl, sym, ap, ◌∙◌, append-nil, append_assoc}
use Rattle.span_text.specs.declared.flagged.Mark.TheVariants.{Written, Quoted}
use Rattle.span_text.specs.declared.flagged.Item.{Item}
use Rattle.span_text.specs.declared.flagged.Item.TheVariants.{Quote}
use Rattle.field_split.specs.Fields.{separators}
use Rattle.shell_world.specs.Texts.{Text, lookup, text_or_none}
use Rattle.shell_world.specs.Runs.{St, Ends}
use Rattle.sh_grammar.specs.Shape.{named}
use Rattle.sh_meaning.specs.declared.variable.Variable.{Variable}
use Rattle.sh_meaning.specs.Variables.{text_of, text_of_value}
use Rattle.sh_meaning.specs.Own.{Own}
use Rattle.sh_meaning.specs.Parameters.{ifs, parameter_text}
use Rattle.sh_meaning.specs.Modes.{Purpose, Fields, Bare, Double, purpose_in_quotes, in_fields}
use Rattle.sh_meaning.specs.Expanded.{Expanded, nothing, marked, quoted_items}
use Rattle.sh_meaning.specs.Expanding.{Where, First, Later, Fielded}
use Rattle.sh_meaning.specs.Lists.{Seen, seen_in, seen_in_part, quote_seen, has_no_part, with_both, has_crowded_lists}
use Rattle.sh_meaning.specs.Pathnames.{texts_among}
use Rattle.sh_meaning.specs.Simple.{Setting, Calls, Name, Argument, word_run}
use Rattle.sh_meaning.specs.Commands.{parts_run, words_run}
use Rattle.bash_tree.specs.Shape.{plain, exact, double, param, Parts, no_part, part, Words, no_word, word}
use Rattle.bash2sh.specs.Form.{is_free_name, parts_form, quoted_form, word_form, words_form}
use Rattle.bash2sh.specs.Lower.{lower_part, lower_parts, lower_words}
use Rattle.bash2sh.proofs.Tools.{both, all_four}
use Rattle.bash2sh.proofs.PlainBytes.{no_doubt}
use Rattle.bash2sh.proofs.Spelled.{is_something, has_part, begins_plain, quoted_spelled, parts_spelled, word_spelled, words_spelled}
use Rattle.bash2sh.proofs.ShItems.{items_with, quoted_part_items, word_items, word_bytes, word_field, word_texts}
use Rattle.span_text.specs.Scanning.{is_plain_byte, is_exact_byte}
use Rattle.std.specs.List.{list_all}

-- ---- no list stands in them

record Clear (s : Seen) : Type 0 where
  pub lists : s.lists ≡ 0
  pub quoted : s.quoted_list ≡ false

clear_both : (a b : Seen) → Clear a → Clear b → Clear (with_both a b)
clear_both a b x y = record { lists = rw (x.lists, y.lists) refl; quoted = rw (x.quoted, y.quoted) refl }

clear_quoted : (ps : Parts) → parts_form quoted_form ps ≡ true → Clear (seen_in true (lower_parts ps))
clear_quoted no_part e = record { lists = refl; quoted = refl }
clear_quoted (part (plain text) ps) e = clear_both (seen_in_part true (lower_part (plain text))) (seen_in true (lower_parts ps)) (record { lists = refl; quoted = refl }) (clear_quoted ps e)
clear_quoted (part (param name) ps) e =
    clear_both (seen_in_part true (lower_part (param name))) (seen_in true (lower_parts ps)) (record { lists = refl; quoted = refl }) (clear_quoted ps (both (is_free_name name) (parts_form quoted_form ps) e).1)
clear_quoted (part (exact text) ps) e = absurd cc
clear_quoted (part (double qs) ps) e = absurd cc

clear_parts : (ps : Parts) → word_form ps ≡ true → Clear (seen_in false (lower_parts ps))
clear_parts no_part e = record { lists = refl; quoted = refl }
clear_parts (part (plain text) ps) e = clear_both (seen_in_part false (lower_part (plain text))) (seen_in false (lower_parts ps)) (record { lists = refl; quoted = refl }) (clear_parts ps e)
clear_parts (part (exact text) ps) e = clear_both (seen_in_part false (lower_part (exact text))) (seen_in false (lower_parts ps)) (record { lists = refl; quoted = refl }) (clear_parts ps e)
clear_parts (part (double qs) ps) e =
    let y = both (parts_form quoted_form qs) (word_form ps) e in
    clear_both (seen_in_part false (lower_part (double qs))) (seen_in false (lower_parts ps)) (clear_both (quote_seen (has_no_part (lower_parts qs))) (seen_in true (lower_parts qs)) (record { lists = refl; quoted = refl }) (clear_quoted qs y.0)) (clear_parts ps y.1)
clear_parts (part (param name) ps) e = absurd cc

pub not_crowded : (ps : Parts) → word_form ps ≡ true → has_crowded_lists (lower_parts ps) ≡ false
unfolding has_crowded_lists
not_crowded ps e = let c = clear_parts ps e in rw (c.lists, c.quoted) refl

-- ---- parts

-- what the names give in a state
abbrev pub get_in : Own → Text → Text
get_in o name = text_of name o.vars

text_or_nothing : (o : Own) (name : Text) (v : Option Variable) → lookup name o.vars ≡ v → parameter_text (named name) o ≡ get_in o name
text_or_nothing o name None e = rw e refl
text_or_nothing o name (Some v) e = rw e (of v.value)
  where
    of : (t : Option Text) → text_or_none t ≡ text_of_value t
    of None = refl
    of (Some t) = refl

named_text : (o : Own) (name : Text) → parameter_text (named name) o ≡ get_in o name
named_text o name = text_or_nothing o name (lookup name o.vars) refl

-- a word so far, without lists
abbrev pub expanded : List Item → Bool → Bool → Expanded
expanded xs o r = record { before = []; now = xs; missing = false; other = o; ran = r }

abbrev other_behind : Bool → Parts → Bool
other_behind o no_part = o
other_behind o (part p ps) = other_behind true ps

abbrev pub other_word : Bool → Parts → Bool
other_word o no_part = o
other_word o (part (plain text) ps) = other_word true ps
other_word o (part (exact text) ps) = other_word true ps
other_word o (part (double qs) ps) = other_word (other_behind o qs) ps
other_word o (part (param name) ps) = other_word true ps

abbrev pub all_items : (Text → Text) → Words → List (List Item)
all_items get no_word = []
all_items get (word w ws) = word_items get w ∷ all_items get ws

abbrev pub all_bytes : (Text → Text) → Words → List Text
all_bytes get no_word = []
all_bytes get (word w ws) = word_bytes get w ∷ all_bytes get ws

pub is_spelled : (w : Parts) → word_spelled w ≡ true → parts_spelled w ≡ true
is_spelled w g = (both (has_part w) (parts_spelled w) g).1

pub texts_are : (names : List Text) (get : Text → Text) (ws : Words) → words_spelled ws ≡ true → texts_among names (all_items get ws) ≡ Some (all_bytes get ws)
texts_are names get no_word g = refl
texts_are names get (word w ws) g =
    let k = both (word_spelled w) (words_spelled ws) g in
    rw (word_texts names get w (is_spelled w k.0), texts_are names get ws k.1) refl

module _ (z : Setting) (call : Calls) where
  quoted_run : (purpose : Purpose) (place : Where) (ps : Parts) → parts_form quoted_form ps ≡ true → (xs : List Item) (o r : Bool) (n : ℕ) (s : St Own)
      → parts_run z call (Double purpose) place (lower_parts ps) (expanded xs o r) n s ≡ Ends (expanded (xs ++ items_with (quoted_part_items (get_in s.own)) ps) (other_behind o ps) r) s n
  quoted_run purpose place no_part e xs o r n s = ap (λ (l : List Item). Ends (expanded l o r) s n) (sym (append-nil xs))
  quoted_run purpose place (part (plain text) ps) e xs o r n s =
      quoted_run purpose Later ps e (xs ++ marked Quoted text) true r n s
      ∙ ap (λ (l : List Item). Ends (expanded l (other_behind true ps) r) s n) (append_assoc xs (marked Quoted text) (items_with (quoted_part_items (get_in s.own)) ps))
  quoted_run purpose place (part (param name) ps) e xs o r n s =
      rw (named_text s.own name)
      (quoted_run purpose Later ps (both (is_free_name name) (parts_form quoted_form ps) e).1 (xs ++ marked Quoted (get_in s.own name)) true r n s
      ∙ ap (λ (l : List Item). Ends (expanded l (other_behind true ps) r) s n) (append_assoc xs (marked Quoted (get_in s.own name)) (items_with (quoted_part_items (get_in s.own)) ps)))
  quoted_run purpose place (part (exact text) ps) e xs o r n s = absurd cc
  quoted_run purpose place (part (double qs) ps) e xs o r n s = absurd cc

  pub word_parts : (purpose : Purpose) (place : Where) (ps : Parts) → word_form ps ≡ true → parts_spelled ps ≡ true → (xs : List Item) (o r : Bool) (n : ℕ) (s : St Own)
      → parts_run z call (Bare purpose Written) place (lower_parts ps) (expanded xs o r) n s ≡ Ends (expanded (xs ++ word_items (get_in s.own) ps) (other_word o ps) r) s n
  word_parts purpose place no_part e g xs o r n s = ap (λ (l : List Item). Ends (expanded l o r) s n) (sym (append-nil xs))
  word_parts purpose place (part (plain text) ps) e g xs o r n s =
      let y = all_four (is_something text) (list_all is_plain_byte text) (not (begins_plain ps)) (parts_spelled ps) g in
      rw (no_doubt place text y.1)
      (word_parts purpose Later ps e y.3 (xs ++ marked Written text) true r n s
      ∙ ap (λ (l : List Item). Ends (expanded l (other_word true ps) r) s n) (append_assoc xs (marked Written text) (word_items (get_in s.own) ps)))
  word_parts purpose place (part (exact text) ps) e g xs o r n s =
      word_parts purpose Later ps e (both (list_all is_exact_byte text) (parts_spelled ps) g).1 (xs ++ quoted_items text) true r n s
      ∙ ap (λ (l : List Item). Ends (expanded l (other_word true ps) r) s n) (append_assoc xs (quoted_items text) (word_items (get_in s.own) ps))
  word_parts purpose place (part (double qs) ps) e g xs o r n s =
      let y = both (parts_form quoted_form qs) (word_form ps) e in
      let is : List Item = items_with (quoted_part_items (get_in s.own)) qs in
      rw (quoted_run (purpose_in_quotes purpose) First qs y.0 xs o r n s)
      (word_parts purpose Later ps y.1 (both (quoted_spelled qs) (parts_spelled ps) g).1 ((xs ++ is) ++ Quote ∷ []) (other_behind o qs) r n s
      ∙ ap (λ (l : List Item). Ends (expanded l (other_word (other_behind o qs) ps) r) s n) (simp append_assoc))
  word_parts purpose place (part (param name) ps) e g xs o r n s = absurd cc

  -- ---- words

  abbrev one_more : Fielded → List Item → Fielded
  one_more done xs = record { fields = done.fields ++ xs ∷ []; ran = done.ran }

  pub argument_run : (w : Parts) → word_form w ≡ true → word_spelled w ≡ true → (done : Fielded) (n : ℕ) (s : St Own)
      → word_run Argument (lower_parts w) done (parts_run z call in_fields First (lower_parts w) (nothing done.ran)) n s ≡ Ends (one_more done (word_items (get_in s.own) w)) s n
  argument_run w e g done n s =
      rw (not_crowded w e, word_parts Fields First w e (is_spelled w g) [] false done.ran n s, word_field (separators (ifs s.own)) (get_in s.own) w g) refl

  pub name_run : (w : Parts) → word_form w ≡ true → word_spelled w ≡ true → (done : Fielded) (n : ℕ) (s : St Own)
      → word_run Name (lower_parts w) done (parts_run z call in_fields First (lower_parts w) (nothing done.ran)) n s ≡ Ends (one_more done (word_items (get_in s.own) w)) s n
  name_run w e g done n s =
      rw (not_crowded w e, word_parts Fields First w e (is_spelled w g) [] false done.ran n s, word_field (separators (ifs s.own)) (get_in s.own) w g) refl

  abbrev pub all_more : Fielded → List (List Item) → Fielded
  all_more done more = record { fields = done.fields ++ more; ran = done.ran }

  pub arguments_run : (ws : Words) → words_form ws ≡ true → words_spelled ws ≡ true → (done : Fielded) (n : ℕ) (s : St Own)
      → words_run z call Argument (lower_words ws) done n s ≡ Ends (all_more done (all_items (get_in s.own) ws)) s n
  arguments_run no_word e g done n s = ap (λ (l : List (List Item)). Ends (record { fields = l; ran = done.ran }) s n) (sym (append-nil done.fields))
  arguments_run (word w ws) e g done n s =
      let y = both (word_form w) (words_form ws) e in
      let k = both (word_spelled w) (words_spelled ws) g in
      rw (argument_run w y.0 k.0 done n s)
      (arguments_run ws y.1 k.1 (one_more done (word_items (get_in s.own) w)) n s
      ∙ ap (λ (l : List (List Item)). Ends (record { fields = l; ran = done.ran }) s n) (append_assoc done.fields (word_items (get_in s.own) w ∷ []) (all_items (get_in s.own) ws)))
