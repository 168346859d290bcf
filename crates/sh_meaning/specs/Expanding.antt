-- The steps of expanding a word (POSIX XCU 2.6). Each run behind which something goes on has a definition for what goes on.
use Rattle.std.specs.Prelude.{ℕ, Bool, true, false, not, ◌||◌, ◌==◌, List, [], ◌∷◌, ◌++◌, length, decimal, Option, Some, None, is_some, ℤ}
use Rattle.span_text.specs.declared.flagged.Item.{Item}
use Rattle.span_text.specs.declared.expr.Expr.{Expr}
use Rattle.glob_pattern.specs.declared.sign.Use.TheVariants as use_of
use Rattle.glob_pattern.specs.Pieces.{matches}
use Rattle.glob_pattern.specs.Reading.{pieces_of, doubt_of}
use Rattle.shell_world.specs.Texts.{Text}
use Rattle.shell_world.specs.Runs.{Ends, Do, after, choose, with_own}
use Rattle.shell_runs.specs.Sequences.{unspecified}
use Rattle.sh_grammar.specs.Shape.{Param, named, digits, count, status, at, star, FillTest, default, assigning, alternate, Parts}
use Rattle.sh_meaning.specs.Own.{Own, assigned, arguments}
use Rattle.sh_meaning.specs.Modes.{Mode, Bare, Double, Listing, Members, Joined, Nowhere, listing_at, listing_star}
use Rattle.sh_meaning.specs.Expanded.{Expanded, with_plain, with_value, with_home, with_ran, with_quote, with_members, joined_members, is_unclear, quoted_items, fields_of, text_of}
use Rattle.sh_meaning.specs.Parameters.{parameter, parameter_text, home, ifs, is_lacking, has_length, can_trim, trimmed}
use Rattle.sh_meaning.specs.Arithmetic.{Sum, evaluated, number_text, operand_number}
use Rattle.sh_meaning.specs.Lists.{is_list, has_crowded_lists}
use Rattle.sh_meaning.specs.Pathnames.{texts_of}
use Rattle.sh_meaning.specs.builtins.Export.{has_tilde}

-- a run that is a value, at once
abbrev pub is : {X : Type 0} → X → Do X Own
is x n s = Ends x s n

abbrev pub from_option : {X : Type 0} → Option X → Do X Own
from_option None n s = unspecified n s
from_option (Some x) n s = Ends x s n

-- ---- parts

abbrev pub begins_tilde : Text → Bool
begins_tilde [] = false
begins_tilde (b ∷ bs) = b == 126

-- where the part stands in its word
pub data Where : Type 0 where
  First : Where
  Later : Where

-- an unquoted `~` at the front of a word, or behind `=` or `:`
abbrev pub has_doubtful_tilde : Where → Text → Bool
has_doubtful_tilde First text = begins_tilde text || has_tilde false text
has_doubtful_tilde Later text = has_tilde false text

abbrev pub plain_is_clear : Mode → Where → Text → Bool
plain_is_clear (Bare purpose mark) place text = not (has_doubtful_tilde place text)
plain_is_clear (Double purpose) place text = true

abbrev pub plain_run : Mode → Where → Text → Expanded → Do Expanded Own
plain_run mode place text e n s = choose (plain_is_clear mode place text) (is (with_plain mode text e)) unspecified n s

-- behind the parts of `".."`
abbrev pub quoted_over : Expanded → Do Expanded Own
quoted_over e n s = Ends (with_quote e) s n

-- `~` (2.6.1)
abbrev pub home_of : Option Text → Expanded → Do Expanded Own
home_of None e n s = unspecified n s
home_of (Some text) e n s = Ends (with_home text e) s n

abbrev pub tilde_run : Expanded → Do Expanded Own
tilde_run e n s = home_of (home s.own) e n s

-- behind `$(a)`
abbrev pub subst_over : Mode → Expanded → Text → Do Expanded Own
subst_over mode e text n s = Ends (with_ran true (with_value mode text e)) s n

-- ---- parameters (2.6.2)

abbrev pub listed_run : Listing → Mode → Expanded → Do Expanded Own
listed_run Members mode e n s = Ends (with_members mode (arguments s.own) e) s n
listed_run Joined mode e n s = Ends (with_value mode (joined_members (ifs s.own) (arguments s.own)) e) s n
listed_run Nowhere mode e n s = unspecified n s

-- `$a`
abbrev pub param_run : Mode → Param → Expanded → Do Expanded Own
param_run mode (named name) e n s = Ends (with_value mode (parameter_text (named name) s.own) e) s n
param_run mode (digits text) e n s = Ends (with_value mode (parameter_text (digits text) s.own) e) s n
param_run mode count e n s = Ends (with_value mode (parameter_text count s.own) e) s n
param_run mode status e n s = Ends (with_value mode (parameter_text status s.own) e) s n
param_run mode at e n s = listed_run (listing_at mode) mode e n s
param_run mode star e n s = listed_run (listing_star mode) mode e n s

-- `${#a}`, in bytes
abbrev pub length_run : Mode → Param → Expanded → Do Expanded Own
length_run mode p e n s = choose (has_length p) (is (with_value mode (decimal (length (parameter_text p s.own))) e)) unspecified n s

-- behind the word of `${a=w}`: the text is assigned, and is what the part gives
abbrev pub assigning_over : Mode → Text → Expanded → Expanded → Do Expanded Own
assigning_over mode name e w n s = Ends (with_ran w.ran (with_value mode (text_of w) e)) (with_own s (assigned name (text_of w) s.own)) n

-- only a name is assigned to
abbrev pub assigning_run : Mode → Param → Do Expanded Own → Expanded → Do Expanded Own
assigning_run mode (named name) w e n s = after (w n s) (assigning_over mode name e)
assigning_run mode (digits text) w e n s = unspecified n s
assigning_run mode count w e n s = unspecified n s
assigning_run mode status w e n s = unspecified n s
assigning_run mode at w e n s = unspecified n s
assigning_run mode star w e n s = unspecified n s

-- nothing, as `${a+w}` gives where a is unset
abbrev pub nothing_run : Mode → Expanded → Do Expanded Own
nothing_run mode e n s = Ends (with_value mode [] e) s n

-- whether `=` has another target than a name
abbrev pub is_misassigned : FillTest → Param → Bool
is_misassigned assigning (named name) = false
is_misassigned assigning (digits text) = true
is_misassigned assigning count = true
is_misassigned assigning status = true
is_misassigned assigning at = true
is_misassigned assigning star = true
is_misassigned default p = false
is_misassigned alternate p = false

-- by the test, where lacking tells what the parameter is: in place is the word in place of the value, assigned the word that is assigned
abbrev pub filled_run : FillTest → Bool → Mode → Param → Do Expanded Own → Do Expanded Own → Expanded → Do Expanded Own
filled_run default lacking mode p in_place assigned e n s = choose lacking in_place (param_run mode p e) n s
filled_run alternate lacking mode p in_place assigned e n s = choose lacking (nothing_run mode e) in_place n s
filled_run assigning lacking mode p in_place assigned e n s = choose lacking (assigning_run mode p assigned e) (param_run mode p e) n s

-- `${a-w}`, `${a=w}`, `${a+w}`
abbrev pub fill_run : FillTest → (colon : Bool) → Mode → Param → Do Expanded Own → Do Expanded Own → Expanded → Do Expanded Own
fill_run test colon mode p in_place assigned e n s =
    choose (is_list p || is_misassigned test p) unspecified (filled_run test (is_lacking colon (parameter p s.own)) mode p in_place assigned e) n s

-- behind the pattern of `${a%w}`; the value is that before it
abbrev pub trim_over : Mode → (suffix longest : Bool) → Text → Expanded → Expanded → Do Expanded Own
trim_over mode suffix longest text e w n s =
    choose (is_some (doubt_of use_of.Text w.now)) unspecified (is (with_ran w.ran (with_value mode (trimmed suffix longest (pieces_of w.now) text) e))) n s

abbrev pub trimmed_run : Mode → (suffix longest : Bool) → Param → Do Expanded Own → Expanded → Do Expanded Own
trimmed_run mode suffix longest p w e n s = after (w n s) (trim_over mode suffix longest (parameter_text p s.own) e)

-- `${a#w}`, `${a##w}`, `${a%w}`, `${a%%w}`
abbrev pub trim_run : Mode → (suffix longest : Bool) → Param → Do Expanded Own → Expanded → Do Expanded Own
trim_run mode suffix longest p w e n s = choose (can_trim p) (trimmed_run mode suffix longest p w e) unspecified n s

-- ---- arithmetic (2.6.4)

-- the operands so far
pub record Operands : Type 0 where
  pub numbers : List ℤ
  pub ran : Bool

abbrev pub no_operands : Bool → Operands
no_operands ran = record { numbers = []; ran = ran }

abbrev pub with_number : Bool → Option ℤ → Operands → Do Operands Own
with_number ran None ns n s = unspecified n s
with_number ran (Some k) ns n s = Ends (record { numbers = ns.numbers ++ k ∷ []; ran = ran }) s n

-- behind an operand, which is judged at once
abbrev pub operand_over : List ℕ → Operands → Expanded → Do Operands Own
operand_over signs ns e n s = with_number e.ran (operand_number signs (length ns.numbers) (text_of e)) ns n s

abbrev pub operand_run : List ℕ → Operands → Do Expanded Own → Do Operands Own
operand_run signs ns w n s = after (w n s) (operand_over signs ns)

abbrev pub sum_is : Mode → Expanded → Sum → Do Expanded Own
sum_is mode e None n s = unspecified n s
sum_is mode e (Some x) n s = Ends (with_value mode (number_text x.0) e) (with_own s (record s.own { vars = x.1 })) n

-- behind the operands of `$((x))`
abbrev pub sum_over : Mode → Expr → Expanded → Operands → Do Expanded Own
sum_over mode x e ns n s = sum_is mode (with_ran ns.ran e) (evaluated x ns.numbers s.own.vars) n s

-- ---- words

-- a word that is judged as it is written, before it is expanded
abbrev pub checked : {X : Type 0} → Parts → Do X Own → Do X Own
checked w run n s = choose (has_crowded_lists w) unspecified run n s

-- the fields so far, of all words
pub record Fielded : Type 0 where
  pub fields : List (List Item)
  pub ran : Bool

abbrev pub no_fields : Fielded
no_fields = record { fields = []; ran = false }

-- behind a word that gives fields (2.6.5)
abbrev pub fields_over : Fielded → Expanded → Do Fielded Own
fields_over done e n s =
    choose (is_unclear e) unspecified (is (record { fields = done.fields ++ fields_of (ifs s.own) e; ran = e.ran })) n s

-- behind one that is one field as it is: neither split nor a pattern
abbrev pub operand_field_over : Fielded → Expanded → Do Fielded Own
operand_field_over done e n s = Ends (record { fields = done.fields ++ quoted_items (text_of e) ∷ []; ran = e.ran }) s n

-- the arguments that fields become, and whether a command substitution ran
pub record Arguments : Type 0 where
  pub texts : List Text
  pub ran : Bool

abbrev pub arguments_of : Bool → Option (List Text) → Do Arguments Own
arguments_of ran None n s = unspecified n s
arguments_of ran (Some texts) n s = Ends (record { texts = texts; ran = ran }) s n

-- behind all words (2.6.6, 2.6.7)
abbrev pub pathnames_over : Fielded → Do Arguments Own
pathnames_over f n s = arguments_of f.ran (texts_of s.outside.files f.fields) n s

-- ---- patterns of `case` (2.9.4.3)

-- behind a pattern
abbrev pub pattern_over : Text → Expanded → Do Bool Own
pattern_over text e n s = choose (is_some (doubt_of use_of.Text e.now)) unspecified (is (matches (pieces_of e.now) text)) n s

abbrev pub pattern_run : Text → Do Expanded Own → Do Bool Own
pattern_run text w n s = after (w n s) (pattern_over text)

-- the next pattern
abbrev pub if_unmatched : Do Bool Own → Bool → Do Bool Own
if_unmatched next true n s = Ends true s n
if_unmatched next false n s = next n s
