-- Words and commands of the forms that are taken, as Bash runs them: each ends at once.
use Rattle.std.proofs.Common.{◌≡◌, ℕ, Bool, true, false, List, [], refl}
use Rattle.span_text.specs.KnownNames.{is_known_command}
use Rattle.shell_world.specs.declared.world.World.{World}
use Rattle.shell_world.specs.Texts.{Text}
use Rattle.shell_world.specs.Calls.{Called, called}
use Rattle.shell_world.specs.Runs.{Normal, Try, Value, St, Ends, Do, Calls, with_own}
use Rattle.bash_tree.specs.Shape.{Part, plain, exact, double, param, Parts, no_part, part, Words, no_word, word, Value as AssignedValue, no_value, value, no_assign, assign, Command, simple}
use Rattle.bash_meaning.specs.Variables.{text_of, environment}
use Rattle.bash_meaning.specs.Meaning.{Own, quoted_part, word_part, word_text, joined, fields, value_text, assigned, with_status, command_run}
use Rattle.bash2sh.specs.Form.{parts_form, quoted_form, part_form, word_form, words_form, value_form, is_literal, is_literal_part, is_plain, plain_text, literal_part_text, literal_text, texts_of}
use Rattle.bash2sh.proofs.Tools.{both}
use Rattle.bash2sh.proofs.ShItems.{quoted_bytes, part_bytes, word_bytes}
use Rattle.bash2sh.proofs.ShWords.{all_bytes}

-- what the names give
abbrev pub get_of : Own → Text → Text
get_of o name = text_of name o.scopes

quoted_runs : (p : Part) → quoted_form p ≡ true → (n : ℕ) (s : St Own) → quoted_part p n s ≡ Ends (Value (quoted_bytes (get_of s.own) p)) s n
quoted_runs (plain text) e n s = refl
quoted_runs (param name) e n s = refl
quoted_runs (exact text) e n s = absurd cc
quoted_runs (double ps) e n s = absurd cc

joined_runs : (form : Part → Bool) (f : Part → Do (Try Text) Own) (text : Part → Text) (n : ℕ) (s : St Own) → ((p : Part) → form p ≡ true → f p n s ≡ Ends (Value (text p)) s n)
    → (ps : Parts) → parts_form form ps ≡ true → joined f ps n s ≡ Ends (Value (texts_of text ps)) s n
joined_runs form f text n s h no_part e = refl
joined_runs form f text n s h (part p ps) e =
    let y = both (form p) (parts_form form ps) e in
    rw (h p y.0, joined_runs form f text n s h ps y.1) refl

part_runs : (p : Part) → part_form p ≡ true → (n : ℕ) (s : St Own) → word_part p n s ≡ Ends (Value (part_bytes (get_of s.own) p)) s n
part_runs (plain text) e n s = refl
part_runs (exact text) e n s = refl
part_runs (double ps) e n s = joined_runs quoted_form quoted_part (quoted_bytes (get_of s.own)) n s (λ p f. quoted_runs p f n s) ps e
part_runs (param name) e n s = absurd cc

word_runs : (w : Parts) → word_form w ≡ true → (n : ℕ) (s : St Own) → word_text w n s ≡ Ends (Value (word_bytes (get_of s.own) w)) s n
word_runs w e n s = joined_runs part_form word_part (part_bytes (get_of s.own)) n s (λ p f. part_runs p f n s) w e

fields_run : (ws : Words) → words_form ws ≡ true → (n : ℕ) (s : St Own) → fields ws n s ≡ Ends (Value (all_bytes (get_of s.own) ws)) s n
fields_run no_word e n s = refl
fields_run (word w ws) e n s =
    let y = both (word_form w) (words_form ws) e in
    rw (word_runs w y.0 n s, fields_run ws y.1 n s) refl

-- ---- literal words

literal_is : (form : Part → Bool) (f g : Part → Text) → ((p : Part) → form p ≡ true → f p ≡ g p) → (ps : Parts) → parts_form form ps ≡ true → texts_of f ps ≡ texts_of g ps
literal_is form f g h no_part e = refl
literal_is form f g h (part p ps) e =
    let y = both (form p) (parts_form form ps) e in
    rw (h p y.0, literal_is form f g h ps y.1) refl

literal_inside : (get : Text → Text) (p : Part) → is_plain p ≡ true → quoted_bytes get p ≡ plain_text p
literal_inside get (plain text) e = refl
literal_inside get (exact text) e = absurd cc
literal_inside get (double ps) e = absurd cc
literal_inside get (param name) e = absurd cc

literal_part_is : (get : Text → Text) (p : Part) → is_literal_part p ≡ true → part_bytes get p ≡ literal_part_text p
literal_part_is get (plain text) e = refl
literal_part_is get (exact text) e = refl
literal_part_is get (double ps) e = literal_is is_plain (quoted_bytes get) plain_text (literal_inside get) ps e
literal_part_is get (param name) e = absurd cc

-- a literal word has its text whatever the variables hold
pub literal_bytes : (get : Text → Text) (w : Parts) → is_literal w ≡ true → word_bytes get w ≡ literal_text w
literal_bytes get w e = literal_is is_literal_part (part_bytes get) literal_part_text (literal_part_is get) w e

-- ---- commands

abbrev pub value_bytes : (Text → Text) → AssignedValue → Text
value_bytes get no_value = []
value_bytes get (value w) = word_bytes get w

value_runs : (v : AssignedValue) → value_form v ≡ true → (n : ℕ) (s : St Own) → value_text v n s ≡ Ends (Value (value_bytes (get_of s.own) v)) s n
value_runs no_value e n s = refl
value_runs (value w) e n s = word_runs w e n s

-- the state behind an assignment
abbrev pub assigned_state : Bool → Text → Text → St Own → St Own
assigned_state append name t s = with_own s (with_status 0 (assigned append name t s.own))

-- the state behind a call of the table
abbrev pub called_of : World → List Text → St Own → Called
called_of world argv s = called world argv (environment s.own.scopes) s.own.fds s.trace s.outside

abbrev pub called_state : World → List Text → St Own → St Own
called_state world argv s = record { trace = (called_of world argv s).trace; outside = (called_of world argv s).outside; own = with_status (called_of world argv s).status s.own }

module _ (world : World) (call : Calls Command Own) where
  pub assign_runs : (name : Text) (append : Bool) (v : AssignedValue) → value_form v ≡ true → (n : ℕ) (s : St Own)
      → command_run world call (simple (assign name append v no_assign) no_word) n s ≡ Ends Normal (assigned_state append name (value_bytes (get_of s.own) v) s) n
  assign_runs name append v e n s = rw (value_runs v e n s) refl

  pub call_runs : (w : Parts) (ws : Words) → word_form w ≡ true → words_form ws ≡ true → (n : ℕ) (s : St Own) → is_known_command (word_bytes (get_of s.own) w) ≡ false
      → command_run world call (simple no_assign (word w ws)) n s ≡ Ends Normal (called_state world (all_bytes (get_of s.own) (word w ws)) s) n
  call_runs w ws e f n s k = rw (word_runs w e n s, fields_run ws f n s, k) refl
