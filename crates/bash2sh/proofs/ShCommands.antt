-- Commands of the forms that are taken, as sh runs them: each ends at once.
use Rattle.std.proofs.Common.{◌≡◌, ℕ, Bool, true, false, List, [], ◌∷◌, ◌++◌, refl, ap, ◌∙◌, append-nil}
use Rattle.std.specs.Prelude.{codes}
use Rattle.span_text.specs.Names.{is_name}
use Rattle.span_text.specs.KnownNames.{is_known_command, same_text}
use Rattle.span_text.specs.declared.flagged.Item.{Item}
use Rattle.field_split.specs.Reading.{bytes_of}
use Rattle.shell_world.specs.declared.world.World.{World}
use Rattle.shell_world.specs.Texts.{Text}
use Rattle.shell_world.specs.Paths.{names_of}
use Rattle.shell_world.specs.Calls.{Called, called}
use Rattle.shell_world.specs.Runs.{St, Ends, with_own}
use Rattle.shell_runs.specs.Flow.{Normal}
use Rattle.sh_meaning.specs.Variables.{environment}
use Rattle.sh_meaning.specs.Own.{Own, with_status, assigned}
use Rattle.sh_meaning.specs.Modes.{Single}
use Rattle.sh_meaning.specs.Expanding.{First, no_fields}
use Rattle.sh_meaning.specs.Simple.{Setting, Calls, literal_inside, literal_text, is_literal_export}
use Rattle.sh_meaning.specs.Commands.{command_run, value_run}
use Rattle.sh_meaning.specs.builtins.Literals.{is_literal}
use Rattle.sh_meaning.specs.builtins.Places.{Place}
use Rattle.bash_tree.specs.Shape.{plain, exact, double, param, Parts, no_part, part, Words, no_word, word, Value, no_value, value, no_assign, assign, simple}
use Rattle.bash2sh.specs.Form.{is_free_name, parts_form, quoted_form, part_form, word_form, words_form, value_form, is_plain, is_literal_part, plain_text, texts_of, is_free_command}
use Rattle.bash2sh.specs.Form as form
use Rattle.bash2sh.specs.Lower.{lower_parts, lower_value, lower_command}
use Rattle.bash2sh.proofs.Tools.{and_no, both}
use Rattle.bash2sh.proofs.Spelled.{parts_spelled, word_spelled, words_spelled, value_spelled}
use Rattle.bash2sh.proofs.ShItems.{word_items, word_bytes, bytes_of_word, bytes_nothing}
use Rattle.bash2sh.proofs.ShNames.{no_export, is_external}
use Rattle.bash2sh.proofs.ShWords.{get_in, expanded, other_word, word_parts, not_crowded, is_spelled, name_run, arguments_run, texts_are, all_bytes}
use Rattle.bash2sh.proofs.BashCommands.{value_bytes}

-- ---- a literal name

inside_text : (ps : Parts) → parts_form is_plain ps ≡ true → literal_inside (lower_parts ps) ≡ texts_of plain_text ps
inside_text no_part e = refl
inside_text (part (plain text) ps) e = ap (λ (t : Text). text ++ t) (inside_text ps e)
inside_text (part (exact text) ps) e = absurd cc
inside_text (part (double qs) ps) e = absurd cc
inside_text (part (param name) ps) e = absurd cc

name_text : (w : Parts) → form.is_literal w ≡ true → literal_text (lower_parts w) ≡ form.literal_text w
name_text no_part e = refl
name_text (part (plain text) ps) e = ap (λ (t : Text). text ++ t) (name_text ps e)
name_text (part (exact text) ps) e = ap (λ (t : Text). text ++ t) (name_text ps e)
name_text (part (double qs) ps) e =
    let y = both (parts_form is_plain qs) (form.is_literal ps) e in
    rw (inside_text qs y.0, name_text ps y.1) refl
name_text (part (param name) ps) e = absurd cc

no_literal_export : (w : Parts) → form.is_literal w ≡ true → is_known_command (form.literal_text w) ≡ false → is_literal_export (lower_parts w) ≡ false
no_literal_export w e k =
    and_no (is_literal (lower_parts w)) (same_text (codes "export") (literal_text (lower_parts w))) (ap (same_text (codes "export")) (name_text w e) ∙ no_export (form.literal_text w) k)

-- ---- values

abbrev pub value_parts : Value → Parts
value_parts no_value = no_part
value_parts (value w) = w

-- `"$name"` and the value behind it
abbrev pub appended : Text → Value → Parts
appended name v = part (double (part (param name) no_part)) (value_parts v)

abbrev pub new_items : Bool → (Text → Text) → Text → Value → List Item
new_items false get name no_value = []
new_items false get name (value w) = word_items get w
new_items true get name v = word_items get (appended name v)

abbrev new_other : Bool → Text → Value → Bool
new_other false name no_value = false
new_other false name (value w) = other_word false w
new_other true name v = other_word false (appended name v)

abbrev pub new_bytes : Bool → (Text → Text) → Text → Value → Text
new_bytes false get name v = value_bytes get v
new_bytes true get name v = get name ++ value_bytes get v

value_parts_bytes : (get : Text → Text) (v : Value) → word_bytes get (value_parts v) ≡ value_bytes get v
value_parts_bytes get no_value = refl
value_parts_bytes get (value w) = refl

pub bytes_of_new : (append : Bool) (get : Text → Text) (name : Text) (v : Value) → bytes_of (new_items append get name v) ≡ new_bytes append get name v
bytes_of_new false get name no_value = bytes_nothing
bytes_of_new false get name (value w) = bytes_of_word get w
bytes_of_new true get name v = bytes_of_word get (appended name v) ∙ rw (append-nil (get name), value_parts_bytes get v) refl

value_parts_form : (v : Value) → value_form v ≡ true → word_form (value_parts v) ≡ true
value_parts_form no_value e = refl
value_parts_form (value w) e = e

value_parts_spelled : (v : Value) → value_spelled v ≡ true → parts_spelled (value_parts v) ≡ true
value_parts_spelled no_value e = refl
value_parts_spelled (value w) e = is_spelled w e

appended_form : (name : Text) (v : Value) → is_free_name name ≡ true → value_form v ≡ true → word_form (appended name v) ≡ true
appended_form name v e f = rw (e, value_parts_form v f) refl

appended_spelled : (name : Text) (v : Value) → is_name name ≡ true → value_spelled v ≡ true → parts_spelled (appended name v) ≡ true
appended_spelled name v e f = rw (e, value_parts_spelled v f) refl

-- the state behind a call of the table
abbrev pub called_of : World → List Text → St Own → Called
called_of world argv s = called world argv (environment s.own.vars) s.own.fds s.trace s.outside

abbrev pub called_state : World → List Text → St Own → St Own
called_state world argv s = record { trace = (called_of world argv s).trace; outside = (called_of world argv s).outside; own = with_status (called_of world argv s).status s.own }

-- the state behind an assignment
abbrev pub assigned_state : Text → Text → St Own → St Own
assigned_state name t s = with_own s (with_status 0 (assigned name t s.own))

module _ (z : Setting) (call : Calls) (place : Place) where
  value_runs : (append : Bool) (name : Text) (v : Value) → is_free_name name ≡ true → is_name name ≡ true → value_form v ≡ true → value_spelled v ≡ true → (n : ℕ) (s : St Own)
      → value_run z call (lower_value append name v) false n s ≡ Ends (expanded (new_items append (get_in s.own) name v) (new_other append name v) false) s n
  value_runs false name no_value free is e g n s = refl
  value_runs false name (value w) free is e g n s = rw (not_crowded w e) (word_parts z call Single First w e (is_spelled w g) [] false false n s)
  value_runs true name no_value free is e g n s =
      let f = appended_form name no_value free e in
      rw (not_crowded (appended name no_value) f) (word_parts z call Single First (appended name no_value) f (appended_spelled name no_value is g) [] false false n s)
  value_runs true name (value w) free is e g n s =
      let f = appended_form name (value w) free e in
      rw (not_crowded (appended name (value w)) f) (word_parts z call Single First (appended name (value w)) f (appended_spelled name (value w) is g) [] false false n s)

  pub assign_runs : (name : Text) (append : Bool) (v : Value) → is_free_name name ≡ true → is_name name ≡ true → value_form v ≡ true → value_spelled v ≡ true → (n : ℕ) (s : St Own)
      → command_run z call place (lower_command (simple (assign name append v no_assign) no_word)) n s ≡ Ends Normal (assigned_state name (new_bytes append (get_in s.own) name v) s) n
  assign_runs name append v free is e g n s = rw (value_runs append name v free is e g n s, bytes_of_new append (get_in s.own) name v) refl

  pub call_runs : (w : Parts) (ws : Words) → word_form w ≡ true → words_form ws ≡ true → words_spelled (word w ws) ≡ true → form.is_literal w ≡ true
      → is_known_command (form.literal_text w) ≡ false → (n : ℕ) (s : St Own) → is_known_command (word_bytes (get_in s.own) w) ≡ false → s.own.functions ≡ []
      → command_run z call place (lower_command (simple no_assign (word w ws))) n s ≡ Ends Normal (called_state z.world (all_bytes (get_in s.own) (word w ws)) s) n
  call_runs w ws e f g literal known n s k none =
      let y = both (word_spelled w) (words_spelled ws) g in
      rw (
        name_run z call w e y.0 no_fields n s,
        no_literal_export w literal known,
        arguments_run z call ws f y.1 (record { fields = word_items (get_in s.own) w ∷ []; ran = false }) n s,
        texts_are (names_of s.outside.files) (get_in s.own) (word w ws) g,
        is_external (word_bytes (get_in s.own) w) s.own k none,
      ) refl
