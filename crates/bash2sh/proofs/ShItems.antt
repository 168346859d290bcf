-- What the words of the forms that are taken expand to in sh: items that aren't split and are no patterns.
use Rattle.std.proofs.Common.{◌≡◌, ℕ, suc, zero, Bool, true, false, not, ◌&&◌, ◌||◌, List, [], ◌∷◌, ◌++◌, length, take, drop, Some, refl, sym, ap, ◌∙◌, append-nil, arith}
use Rattle.std.specs.List.{list_all, list_any, prefix_len}
use Rattle.std.proofs.lemmas.List.Elements.{filter_map-append}
use Rattle.std.proofs.lemmas.List.Folds.{list_all-append, list_any-append}
use Rattle.span_text.specs.Scanning.{is_plain_byte, is_exact_byte}
use Rattle.span_text.specs.declared.flagged.Mark.{Mark}
use Rattle.span_text.specs.declared.flagged.Mark.TheVariants.{Written, Quoted, Value}
use Rattle.span_text.specs.declared.flagged.Item.{Item}
use Rattle.span_text.specs.declared.flagged.Item.TheVariants.{Byte, Quote}
use Rattle.field_split.specs.declared.sort.Sort.TheVariants.{Kept, White}
use Rattle.field_split.specs.Fields.{is_of, field, fields, fields_in, behind}
use Rattle.field_split.specs.Reading.{byte_of, bytes_of}
use Rattle.shell_world.specs.Texts.{Text}
use Rattle.sh_meaning.specs.Expanded.{marked, quoted_items}
use Rattle.sh_meaning.specs.Pathnames.{is_active, is_pattern, field_texts}
use Rattle.bash_tree.specs.Shape.{Part, plain, exact, double, param, Parts, no_part, part}
use Rattle.bash2sh.specs.Form.{texts_of}
use Rattle.bash2sh.proofs.Tools.{both, all_four}
use Rattle.bash2sh.proofs.PlainBytes.{no_special}
use Rattle.bash2sh.proofs.Spelled.{is_something, begins_plain, quoted_spelled, parts_spelled, word_spelled}

-- ---- bytes

pub bytes_behind : (xs ys : List Item) → bytes_of (xs ++ ys) ≡ bytes_of xs ++ bytes_of ys
unfolding bytes_of
bytes_behind xs ys = filter_map-append byte_of xs ys

pub bytes_marked : (mark : Mark) (text : Text) → bytes_of (marked mark text) ≡ text
unfolding bytes_of
bytes_marked mark [] = refl
bytes_marked mark (b ∷ bs) = ap (λ (t : Text). b ∷ t) (bytes_marked mark bs)

pub bytes_quote : bytes_of (Quote ∷ []) ≡ []
unfolding bytes_of
bytes_quote = refl

bytes_quoted : (text : Text) → bytes_of (quoted_items text) ≡ text
bytes_quoted [] = bytes_quote
bytes_quoted (b ∷ bs) = bytes_marked Quoted (b ∷ bs)

-- ---- what splits no field

abbrev pub is_sure : Item → Bool
is_sure (Byte b Written) = true
is_sure (Byte b Quoted) = true
is_sure (Byte b Value) = false
is_sure Quote = true

kept : (ifs : List ℕ) (x : Item) → is_sure x ≡ true → is_of Kept ifs x ≡ true
unfolding is_of
kept ifs (Byte b Written) e = refl
kept ifs (Byte b Quoted) e = refl
kept ifs (Byte b Value) e = absurd cc
kept ifs Quote e = refl

no_white : (ifs : List ℕ) (x : Item) → is_sure x ≡ true → is_of White ifs x ≡ false
unfolding is_of
no_white ifs (Byte b Written) e = refl
no_white ifs (Byte b Quoted) e = refl
no_white ifs (Byte b Value) e = absurd cc
no_white ifs Quote e = refl

all_kept : (ifs : List ℕ) (xs : List Item) → list_all is_sure xs ≡ true → prefix_len (is_of Kept ifs) xs ≡ length xs
all_kept ifs [] e = refl
all_kept ifs (x ∷ xs) e = let y = both (is_sure x) (list_all is_sure xs) e in let more = all_kept ifs xs y.1 in rw (kept ifs x y.0) (omega (arith, more))

take_all : {X : Type 0} (xs : List X) → take (length xs) xs ≡ xs
take_all [] = refl
take_all {X} (x ∷ xs) = ap (λ (l : List X). x ∷ l) (take_all xs)

drop_all : {X : Type 0} (xs : List X) → drop (length xs) xs ≡ []
drop_all [] = refl
drop_all (x ∷ xs) = drop_all xs

none_behind : (ifs : List ℕ) (xs : List Item) → list_all is_sure xs ≡ true → behind ifs xs ≡ []
unfolding behind
none_behind ifs xs e = rw (all_kept ifs xs e, drop_all xs) refl

none_left : (ifs : List ℕ) (n : ℕ) → fields_in ifs n [] ≡ []
none_left ifs zero = refl
none_left ifs (suc n) = refl

whole_field : (ifs : List ℕ) (xs : List Item) → list_all is_sure xs ≡ true → field ifs xs ≡ xs
whole_field ifs xs e = ap (λ (n : ℕ). take n xs) (all_kept ifs xs e) ∙ take_all xs

-- a text that isn't empty and in which nothing splits is one field
pub one_field : (ifs : List ℕ) (x : Item) (xs : List Item) → list_all is_sure (x ∷ xs) ≡ true → fields ifs (x ∷ xs) ≡ (x ∷ xs) ∷ []
unfolding fields
one_field ifs x xs e =
    let y = both (is_sure x) (list_all is_sure xs) e in
    rw (no_white ifs x y.0, whole_field ifs (x ∷ xs) e, none_behind ifs (x ∷ xs) e, none_left ifs (length xs)) refl

-- ---- the items of a word, by what its variables hold

abbrev pub items_with : (Part → List Item) → Parts → List Item
items_with f no_part = []
items_with f (part p ps) = f p ++ items_with f ps

-- between double quotes
abbrev pub quoted_part_items : (Text → Text) → Part → List Item
quoted_part_items get (plain text) = marked Quoted text
quoted_part_items get (param name) = marked Quoted (get name)
quoted_part_items get (exact text) = []
quoted_part_items get (double ps) = []

abbrev pub part_items : (Text → Text) → Part → List Item
part_items get (plain text) = marked Written text
part_items get (exact text) = quoted_items text
part_items get (double ps) = items_with (quoted_part_items get) ps ++ Quote ∷ []
part_items get (param name) = []

abbrev pub word_items : (Text → Text) → Parts → List Item
word_items get w = items_with (part_items get) w

-- ---- and its text

abbrev pub quoted_bytes : (Text → Text) → Part → Text
quoted_bytes get (plain text) = text
quoted_bytes get (param name) = get name
quoted_bytes get (exact text) = []
quoted_bytes get (double ps) = []

abbrev pub part_bytes : (Text → Text) → Part → Text
part_bytes get (plain text) = text
part_bytes get (exact text) = text
part_bytes get (double ps) = texts_of (quoted_bytes get) ps
part_bytes get (param name) = []

abbrev pub word_bytes : (Text → Text) → Parts → Text
word_bytes get w = texts_of (part_bytes get) w

pub bytes_nothing : bytes_of [] ≡ []
unfolding bytes_of
bytes_nothing = refl

bytes_with : (f : Part → List Item) (g : Part → Text) → ((p : Part) → bytes_of (f p) ≡ g p) → (ps : Parts) → bytes_of (items_with f ps) ≡ texts_of g ps
bytes_with f g h no_part = bytes_nothing
bytes_with f g h (part p ps) = rw (bytes_behind (f p) (items_with f ps), h p, bytes_with f g h ps) refl

bytes_in_quotes : (get : Text → Text) (p : Part) → bytes_of (quoted_part_items get p) ≡ quoted_bytes get p
bytes_in_quotes get (plain text) = bytes_marked Quoted text
bytes_in_quotes get (param name) = bytes_marked Quoted (get name)
bytes_in_quotes get (exact text) = bytes_nothing
bytes_in_quotes get (double ps) = bytes_nothing

bytes_of_part : (get : Text → Text) (p : Part) → bytes_of (part_items get p) ≡ part_bytes get p
bytes_of_part get (plain text) = bytes_marked Written text
bytes_of_part get (exact text) = bytes_quoted text
bytes_of_part get (double ps) =
    bytes_behind (items_with (quoted_part_items get) ps) (Quote ∷ []) ∙ rw (bytes_quote, bytes_with (quoted_part_items get) (quoted_bytes get) (bytes_in_quotes get) ps) (append-nil (texts_of (quoted_bytes get) ps))
bytes_of_part get (param name) = bytes_nothing

pub bytes_of_word : (get : Text → Text) (w : Parts) → bytes_of (word_items get w) ≡ word_bytes get w
bytes_of_word get w = bytes_with (part_items get) (part_bytes get) (bytes_of_part get) w

-- ---- nothing in it splits

marked_sure : (mark : Mark) → ((b : ℕ) → is_sure (Byte b mark) ≡ true) → (text : Text) → list_all is_sure (marked mark text) ≡ true
marked_sure mark h [] = refl
marked_sure mark h (b ∷ bs) = rw (h b) (marked_sure mark h bs)

and_both : {a b : Bool} → a ≡ true → b ≡ true → (a && b) ≡ true
and_both x y = rw (x, y) refl

sure_with : (f : Part → List Item) → ((p : Part) → list_all is_sure (f p) ≡ true) → (ps : Parts) → list_all is_sure (items_with f ps) ≡ true
sure_with f h no_part = refl
sure_with f h (part p ps) = list_all-append is_sure (f p) (items_with f ps) ∙ and_both (h p) (sure_with f h ps)

quoted_sure : (get : Text → Text) (p : Part) → list_all is_sure (quoted_part_items get p) ≡ true
quoted_sure get (plain text) = marked_sure Quoted (λ b. refl) text
quoted_sure get (param name) = marked_sure Quoted (λ b. refl) (get name)
quoted_sure get (exact text) = refl
quoted_sure get (double ps) = refl

quote_sure : (text : Text) → list_all is_sure (quoted_items text) ≡ true
quote_sure [] = refl
quote_sure (b ∷ bs) = marked_sure Quoted (λ b. refl) (b ∷ bs)

part_sure : (get : Text → Text) (p : Part) → list_all is_sure (part_items get p) ≡ true
part_sure get (plain text) = marked_sure Written (λ b. refl) text
part_sure get (exact text) = quote_sure text
part_sure get (double ps) =
    list_all-append is_sure (items_with (quoted_part_items get) ps) (Quote ∷ []) ∙ and_both (sure_with (quoted_part_items get) (quoted_sure get) ps) refl
part_sure get (param name) = refl

pub word_sure : (get : Text → Text) (w : Parts) → list_all is_sure (word_items get w) ≡ true
word_sure get w = sure_with (part_items get) (part_sure get) w

-- ---- nothing in it is a pattern

or_neither : {a b : Bool} → a ≡ false → b ≡ false → (a || b) ≡ false
or_neither x y = rw (x, y) refl

quoted_passive : (text : Text) → list_any is_active (marked Quoted text) ≡ false
quoted_passive [] = refl
quoted_passive (b ∷ bs) = quoted_passive bs

quote_passive : (text : Text) → list_any is_active (quoted_items text) ≡ false
quote_passive [] = refl
quote_passive (b ∷ bs) = quoted_passive (b ∷ bs)

written_passive : (text : Text) → list_all is_plain_byte text ≡ true → list_any is_active (marked Written text) ≡ false
written_passive [] e = refl
written_passive (b ∷ bs) e = let y = both (is_plain_byte b) (list_all is_plain_byte bs) e in rw (no_special b y.0) (written_passive bs y.1)

quoted_parts_passive : (get : Text → Text) (ps : Parts) → list_any is_active (items_with (quoted_part_items get) ps) ≡ false
quoted_parts_passive get no_part = refl
quoted_parts_passive get (part (plain text) ps) = list_any-append is_active (marked Quoted text) (items_with (quoted_part_items get) ps) ∙ or_neither (quoted_passive text) (quoted_parts_passive get ps)
quoted_parts_passive get (part (param name) ps) = list_any-append is_active (marked Quoted (get name)) (items_with (quoted_part_items get) ps) ∙ or_neither (quoted_passive (get name)) (quoted_parts_passive get ps)
quoted_parts_passive get (part (exact text) ps) = quoted_parts_passive get ps
quoted_parts_passive get (part (double qs) ps) = quoted_parts_passive get ps

pub parts_passive : (get : Text → Text) (ps : Parts) → parts_spelled ps ≡ true → is_pattern (word_items get ps) ≡ false
parts_passive get no_part e = refl
parts_passive get (part (plain text) ps) e =
    let y = all_four (is_something text) (list_all is_plain_byte text) (not (begins_plain ps)) (parts_spelled ps) e in
    list_any-append is_active (marked Written text) (word_items get ps) ∙ or_neither (written_passive text y.1) (parts_passive get ps y.3)
parts_passive get (part (exact text) ps) e =
    list_any-append is_active (quoted_items text) (word_items get ps) ∙ or_neither (quote_passive text) (parts_passive get ps (both (list_all is_exact_byte text) (parts_spelled ps) e).1)
parts_passive get (part (double qs) ps) e =
    list_any-append is_active (items_with (quoted_part_items get) qs ++ Quote ∷ []) (word_items get ps)
    ∙ or_neither (list_any-append is_active (items_with (quoted_part_items get) qs) (Quote ∷ []) ∙ or_neither (quoted_parts_passive get qs) refl) (parts_passive get ps (both (quoted_spelled qs) (parts_spelled ps) e).1)
parts_passive get (part (param name) ps) e = absurd cc

-- its text is all that it becomes among files
pub word_texts : (names : List Text) (get : Text → Text) (w : Parts) → parts_spelled w ≡ true → field_texts names (word_items get w) ≡ Some (word_bytes get w ∷ [])
unfolding field_texts
word_texts names get w e = rw (parts_passive get w e, bytes_of_word get w) refl

-- ---- it is one field

-- a text that isn't empty
pub record More (xs : List Item) : Type 0 where
  pub first : Item
  pub rest : List Item
  pub is : xs ≡ first ∷ rest

more_behind : (xs ys : List Item) → More xs → More (xs ++ ys)
more_behind xs ys m = record { first = m.first; rest = m.rest ++ ys; is = ap (λ (l : List Item). l ++ ys) m.is }

more_quoted : (xs : List Item) → More (xs ++ Quote ∷ [])
more_quoted [] = record { first = Quote; rest = []; is = refl }
more_quoted (x ∷ xs) = record { first = x; rest = xs ++ Quote ∷ []; is = refl }

more_exact : (text : Text) → More (quoted_items text)
more_exact [] = record { first = Quote; rest = []; is = refl }
more_exact (b ∷ bs) = record { first = Byte b Quoted; rest = marked Quoted bs; is = refl }

more_items : (get : Text → Text) (w : Parts) → word_spelled w ≡ true → More (word_items get w)
more_items get no_part e = absurd cc
more_items get (part (plain []) ps) e = absurd cc
more_items get (part (plain (b ∷ bs)) ps) e = record { first = Byte b Written; rest = marked Written bs ++ word_items get ps; is = refl }
more_items get (part (exact text) ps) e = more_behind (quoted_items text) (word_items get ps) (more_exact text)
more_items get (part (double qs) ps) e = more_behind (items_with (quoted_part_items get) qs ++ Quote ∷ []) (word_items get ps) (more_quoted (items_with (quoted_part_items get) qs))
more_items get (part (param name) ps) e = absurd cc

pub word_field : (ifs : List ℕ) (get : Text → Text) (w : Parts) → word_spelled w ≡ true → fields ifs (word_items get w) ≡ word_items get w ∷ []
word_field ifs get w e =
    let m = more_items get w e in
    let s : list_all is_sure (m.first ∷ m.rest) ≡ true = sym (ap (list_all is_sure) m.is) ∙ word_sure get w in
    ap (fields ifs) m.is ∙ one_field ifs m.first m.rest s ∙ ap (λ (l : List Item). l ∷ []) (sym m.is)
