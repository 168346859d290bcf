-- Which trees a text of the forms that are taken spells: the bytes of each part are its own, and no two parts run into each other.
use Rattle.std.proofs.Common.{◌≡◌, ℕ, Bool, true, false, not, ◌&&◌, List, [], ◌∷◌, ◌++◌, refl, sym, ap, subst, ◌∙◌, inl, inr}
use Rattle.std.specs.List.{list_all, slice_split}
use Rattle.span_text.specs.Names.{begins_name, continues_name, is_name}
use Rattle.span_text.specs.Scanning.{starts, Run, is_newline, is_plain_byte, is_exact_byte, is_quoted_byte, ends_word}
use Rattle.span_text.proofs.Bytes.{first_is_name}
use Rattle.bash_tree.specs.Shape.{plain, exact, double, param, Parts, no_part, part, Words, no_word, word, Value, no_value, value, no_assign, assign, Command, simple, no_stage, stage, pipeline, no_link, and_link, or_link, Chain, chain, Script, no_item, item, background_item}
use Rattle.bash2sh.specs.Form.{command_form}
use Rattle.bash2sh.specs.Spelling.{QuotedPartsAt, PartsAt, WordAt, WordsAt, ValueAt, sign, CommandAt, LinesAt, Reads}
use Rattle.bash2sh.proofs.Tools.{test_of}

-- ---- the trees

abbrev pub is_something : List ℕ → Bool
is_something [] = false
is_something (b ∷ bs) = true

abbrev pub has_part : Parts → Bool
has_part no_part = false
has_part (part p ps) = true

abbrev pub begins_plain : Parts → Bool
begins_plain no_part = false
begins_plain (part (plain text) ps) = true
begins_plain (part (exact text) ps) = false
begins_plain (part (double qs) ps) = false
begins_plain (part (param name) ps) = false

-- the next part goes on with a name
abbrev pub goes_on_name : Parts → Bool
goes_on_name no_part = false
goes_on_name (part (plain text) ps) = starts continues_name text
goes_on_name (part (exact text) ps) = false
goes_on_name (part (double qs) ps) = false
goes_on_name (part (param name) ps) = false

abbrev pub quoted_spelled : Parts → Bool
quoted_spelled no_part = true
quoted_spelled (part (plain text) ps) = is_something text && list_all is_quoted_byte text && not (begins_plain ps) && quoted_spelled ps
quoted_spelled (part (param name) ps) = is_name name && not (goes_on_name ps) && quoted_spelled ps
quoted_spelled (part (exact text) ps) = false
quoted_spelled (part (double qs) ps) = false

abbrev pub parts_spelled : Parts → Bool
parts_spelled no_part = true
parts_spelled (part (plain text) ps) = is_something text && list_all is_plain_byte text && not (begins_plain ps) && parts_spelled ps
parts_spelled (part (exact text) ps) = list_all is_exact_byte text && parts_spelled ps
parts_spelled (part (double qs) ps) = quoted_spelled qs && parts_spelled ps
parts_spelled (part (param name) ps) = false

abbrev pub word_spelled : Parts → Bool
word_spelled w = has_part w && parts_spelled w

abbrev pub words_spelled : Words → Bool
words_spelled no_word = true
words_spelled (word w ws) = word_spelled w && words_spelled ws

abbrev pub value_spelled : Value → Bool
value_spelled no_value = true
value_spelled (value w) = word_spelled w

abbrev pub command_spelled : Command → Bool
command_spelled (simple no_assign no_word) = false
command_spelled (simple no_assign (word w ws)) = words_spelled (word w ws)
command_spelled (simple (assign name append v no_assign) no_word) = is_name name && value_spelled v
command_spelled (simple (assign name append v no_assign) (word w ws)) = false
command_spelled (simple (assign name append v (assign name' append' v' more)) ws) = false

-- and the command is of a form that is taken
abbrev pub command_taken : Command → Bool
command_taken c = command_form c && command_spelled c

abbrev pub chain_taken : Chain → Bool
chain_taken (chain (pipeline false (stage c no_stage)) no_link) = command_taken c
chain_taken (chain (pipeline false no_stage) ls) = false
chain_taken (chain (pipeline false (stage c (stage d ds))) ls) = false
chain_taken (chain (pipeline false (stage c no_stage)) (and_link p ls)) = false
chain_taken (chain (pipeline false (stage c no_stage)) (or_link p ls)) = false
chain_taken (chain (pipeline true ss) ls) = false

abbrev pub script_taken : Script → Bool
script_taken no_item = true
script_taken (item c more) = chain_taken c && script_taken more
script_taken (background_item c more) = false

and_2 : {a b : Bool} → a ≡ true → b ≡ true → (a && b) ≡ true
and_2 x y = rw (x, y) refl

and_3 : {a b c : Bool} → a ≡ true → b ≡ true → c ≡ true → (a && b && c) ≡ true
and_3 x y z = rw (x, y, z) refl

and_4 : {a b c d : Bool} → a ≡ true → b ≡ true → c ≡ true → d ≡ true → (a && b && c && d) ≡ true
and_4 x y z w = rw (x, y, z, w) refl

-- ---- runs

-- a run whose first byte passes has bytes
takes : (p : ℕ → Bool) (text bytes rest : List ℕ) → starts p bytes ≡ true → Run p text bytes rest → is_something text ≡ true
takes p [] bytes rest e r = let same : bytes ≡ rest = r.whole in let no : starts p rest ≡ false = r.stops in absurd cc
takes p (b ∷ bs) bytes rest e r = refl

name_starts : (bytes : List ℕ) → starts begins_name bytes ≡ true → starts continues_name bytes ≡ true
name_starts [] e = e
name_starts (b ∷ bs) e = first_is_name b e

named : (name bytes rest : List ℕ) → starts begins_name bytes ≡ true → Run continues_name name bytes rest → is_name name ≡ true
named [] bytes rest e r =
    let same : bytes ≡ rest = r.whole in
    let no : starts continues_name rest ≡ false = r.stops in
    let yes : starts continues_name bytes ≡ true = name_starts bytes e in
    absurd cc
named (b ∷ bs) bytes rest e r =
    let first : begins_name b ≡ true = sym (ap (starts begins_name) r.whole) ∙ e in
    and_2 first (test_of continues_name bs r.each.1)

-- a front begins as the whole does
front_fails : (text bytes after : List ℕ) → bytes ≡ text ++ after → starts continues_name bytes ≡ false → starts continues_name text ≡ false
front_fails [] bytes after is e = refl
front_fails (b ∷ bs) bytes after is e = sym (ap (starts continues_name) is) ∙ e

-- ---- parts in double quotes

no_quoted_next : (ps : Parts) (bytes rest : List ℕ) → starts is_quoted_byte bytes ≡ false → QuotedPartsAt ps bytes rest → begins_plain ps ≡ false
no_quoted_next no_part bytes rest e h = refl
no_quoted_next (part (plain text) ps) bytes rest e h = let k : starts is_quoted_byte bytes ≡ true = h.1.0 in absurd cc
no_quoted_next (part (exact text) ps) bytes rest e h = refl
no_quoted_next (part (double qs) ps) bytes rest e h = refl
no_quoted_next (part (param name) ps) bytes rest e h = refl

no_name_next : (ps : Parts) (bytes rest : List ℕ) → starts continues_name bytes ≡ false → QuotedPartsAt ps bytes rest → goes_on_name ps ≡ false
no_name_next no_part bytes rest e h = refl
no_name_next (part (plain text) ps) bytes rest e h = front_fails text bytes h.0 h.1.1.whole e
no_name_next (part (exact text) ps) bytes rest e h = refl
no_name_next (part (double qs) ps) bytes rest e h = refl
no_name_next (part (param name) ps) bytes rest e h = refl

pub quoted_is : (ps : Parts) (bytes rest : List ℕ) → QuotedPartsAt ps bytes rest → quoted_spelled ps ≡ true
quoted_is no_part bytes rest h = refl
quoted_is (part (plain text) ps) bytes rest h =
    and_4 (takes is_quoted_byte text bytes h.0 h.1.0 h.1.1) (test_of is_quoted_byte text h.1.1.each) (ap not (no_quoted_next ps h.0 rest h.1.1.stops h.2)) (quoted_is ps h.0 rest h.2)
quoted_is (part (param name) ps) bytes rest h =
    and_3 (named name h.1.0 h.0 h.1.2 h.1.3) (ap not (no_name_next ps h.0 rest h.1.3.stops h.2)) (quoted_is ps h.0 rest h.2)
quoted_is (part (exact text) ps) bytes rest h = absurd h.1
quoted_is (part (double qs) ps) bytes rest h = absurd h.1

-- ---- words

no_plain_next : (ps : Parts) (bytes rest : List ℕ) → starts is_plain_byte bytes ≡ false → PartsAt ps bytes rest → begins_plain ps ≡ false
no_plain_next no_part bytes rest e h = refl
no_plain_next (part (plain text) ps) bytes rest e h = let k : starts is_plain_byte bytes ≡ true = h.1.0 in absurd cc
no_plain_next (part (exact text) ps) bytes rest e h = refl
no_plain_next (part (double qs) ps) bytes rest e h = refl
no_plain_next (part (param name) ps) bytes rest e h = refl

pub parts_are : (ps : Parts) (bytes rest : List ℕ) → PartsAt ps bytes rest → parts_spelled ps ≡ true
parts_are no_part bytes rest h = refl
parts_are (part (plain text) ps) bytes rest h =
    and_4 (takes is_plain_byte text bytes h.0 h.1.0 h.1.1) (test_of is_plain_byte text h.1.1.each) (ap not (no_plain_next ps h.0 rest h.1.1.stops h.2)) (parts_are ps h.0 rest h.2)
parts_are (part (exact text) ps) bytes rest h = and_2 (test_of is_exact_byte text h.1.2.each) (parts_are ps h.0 rest h.2)
parts_are (part (double qs) ps) bytes rest h = and_2 (quoted_is qs h.1.0 (34 ∷ h.0) h.1.2) (parts_are ps h.0 rest h.2)
parts_are (part (param name) ps) bytes rest h = absurd h.1

pub word_is : (w : Parts) (bytes rest : List ℕ) → WordAt w bytes rest → word_spelled w ≡ true
word_is no_part bytes rest h =
    let same : bytes ≡ rest = h.1.0 in
    let yes : ends_word rest ≡ true = h.1.1 in
    let no : ends_word bytes ≡ false = h.0 in
    absurd cc
word_is (part p ps) bytes rest h = parts_are (part p ps) bytes rest h.1

pub words_are : (ws : Words) (bytes : List ℕ) → WordsAt ws bytes → words_spelled ws ≡ true
words_are no_word bytes h = refl
words_are (word w ws) bytes h = and_2 (word_is w h.1 h.2 h.4) (words_are ws h.2 h.5)

-- ---- commands

pub value_is : (v : Value) (bytes : List ℕ) → ValueAt v bytes → value_spelled v ≡ true
value_is no_value bytes h = refl
value_is (value w) bytes h = word_is w bytes h.0 h.1

pub command_is : (c : Command) (bytes : List ℕ) → CommandAt c bytes → command_form c ≡ true → command_taken c ≡ true
command_is (simple no_assign no_word) bytes h f = absurd h
command_is (simple no_assign (word w ws)) bytes h f = and_2 f (and_2 (word_is w bytes h.0 h.1) (words_are ws h.0 h.2))
command_is (simple (assign name append v no_assign) no_word) bytes h f =
    and_2 f (and_2 (named name bytes (sign append h.0) h.1 h.2) (value_is v h.0 h.3))
command_is (simple (assign name append v no_assign) (word w ws)) bytes h f = absurd h
command_is (simple (assign name append v (assign name' append' v' more)) ws) bytes h f = absurd h

-- ---- scripts

pub lines_taken : (ls : List (List ℕ)) (s : Script) → LinesAt ls s → script_taken s ≡ true
lines_taken [] no_item h = refl
lines_taken [] (item c more) h = absurd h
lines_taken [] (background_item c more) h = absurd h
lines_taken (l ∷ ls) s (inl h) = lines_taken ls s h.1
lines_taken (l ∷ ls) s (inr h) =
    subst (λ (x : Script). script_taken x ≡ true) (sym h.2) (and_2 (command_is h.0 h.3.1 h.3.3 h.3.4) (lines_taken ls h.1 h.4))

pub reads_taken : (text : List ℕ) (s : Script) → Reads text s → script_taken s ≡ true
reads_taken text s h = lines_taken (slice_split is_newline text) s h
