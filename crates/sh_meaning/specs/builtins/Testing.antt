-- `test` and `[` (POSIX XCU test), by the number of arguments. None stands for what is unspecified.
use Rattle.std.specs.Prelude.{◌-◌, ◌^◌, Bool, true, false, not, ◌||◌, ◌==◌, nat_lt, if◌then◌else◌, List, [], ◌∷◌, length, take, drop, Option, Some, None, codes, ℤ, pos, int_lt, int_le}
use Rattle.std.specs.Ordering.{int_eq}
use Rattle.span_text.specs.Constant.{number_of, signed, minus}
use Rattle.span_text.specs.KnownNames.{same_text}
use Rattle.shell_world.specs.Texts.{Text, Map}
use Rattle.shell_world.specs.Paths.{path_of, found_at}
use Rattle.shell_world.specs.Runs.{St}
use Rattle.shell_world.specs.declared.opening.Found.{Found}
use Rattle.shell_world.specs.declared.opening.Found.TheVariants as found
use Rattle.sh_meaning.specs.builtins.Core.{Core}
use Rattle.sh_meaning.specs.builtins.Ends.{Ending, CoreEnding, ends, on_core, status_of_test}

abbrev pub is_empty : Text → Bool
is_empty text = length text == 0

-- ---- files

abbrev pub is_there : Found → Bool
is_there found.Nothing = false
is_there found.Folder = true
is_there (found.File size) = true

abbrev pub is_file : Found → Bool
is_file found.Nothing = false
is_file found.Folder = false
is_file (found.File size) = true

abbrev pub is_folder : Found → Bool
is_folder found.Nothing = false
is_folder found.Folder = true
is_folder (found.File size) = false

-- a folder has a size
abbrev pub has_size : Found → Bool
has_size found.Nothing = false
has_size found.Folder = true
has_size (found.File size) = nat_lt 0 size

-- `-r` and `-w` hold for each file and folder
abbrev pub file_test : Text → Found → Option Bool
file_test op what =
    if same_text (codes "-e") op then Some (is_there what)
    else if same_text (codes "-f") op then Some (is_file what)
    else if same_text (codes "-d") op then Some (is_folder what)
    else if same_text (codes "-s") op then Some (has_size what)
    else if same_text (codes "-r") op then Some (is_there what)
    else if same_text (codes "-w") op then Some (is_there what)
    else None

abbrev pub unary : Map Text → Text → Text → Option Bool
unary files op text =
    if same_text (codes "-n") op then Some (not (is_empty text))
    else if same_text (codes "-z") op then Some (is_empty text)
    else file_test op (found_at (path_of text) files)

-- ---- numbers: a sign or none, and decimal digits, from -2^63 to 2^63 - 1

abbrev pub decimal_of : Text → Option ℤ
decimal_of [] = None
decimal_of (b ∷ bs) =
    if b == 45 then signed minus (number_of (2 ^ 63) 10 bs)
    else if b == 43 then signed pos (number_of (2 ^ 63 - 1) 10 bs)
    else signed pos (number_of (2 ^ 63 - 1) 10 (b ∷ bs))

abbrev pub number_test : Text → ℤ → ℤ → Option Bool
number_test op a b =
    if same_text (codes "-eq") op then Some (int_eq a b)
    else if same_text (codes "-ne") op then Some (not (int_eq a b))
    else if same_text (codes "-lt") op then Some (int_lt a b)
    else if same_text (codes "-le") op then Some (int_le a b)
    else if same_text (codes "-gt") op then Some (int_lt b a)
    else if same_text (codes "-ge") op then Some (int_le b a)
    else None

abbrev pub number_test_of : Text → Option ℤ → Option ℤ → Option Bool
number_test_of op None b = None
number_test_of op (Some a) None = None
number_test_of op (Some a) (Some b) = number_test op a b

-- ---- operators between two arguments

abbrev pub compares_numbers : Text → Bool
compares_numbers op =
    same_text (codes "-eq") op || same_text (codes "-ne") op || same_text (codes "-lt") op || same_text (codes "-le") op || same_text (codes "-gt") op || same_text (codes "-ge") op

abbrev pub compares_texts : Text → Bool
compares_texts op = same_text (codes "=") op || same_text (codes "!=") op

-- not each shell has `==`
abbrev pub is_binary : Text → Bool
is_binary op = compares_texts op || compares_numbers op || same_text (codes "==") op

abbrev pub binary : Text → Text → Text → Option Bool
binary op a b =
    if same_text (codes "=") op then Some (same_text a b)
    else if same_text (codes "!=") op then Some (not (same_text a b))
    else number_test_of op (decimal_of a) (decimal_of b)

-- ---- by the number of arguments

abbrev pub is_bang : Text → Bool
is_bang text = same_text (codes "!") text

abbrev pub opposite : Option Bool → Option Bool
opposite None = None
opposite (Some b) = Some (not b)

abbrev pub test_two : Map Text → Text → Text → Option Bool
test_two files a b = if is_bang a then Some (is_empty b) else unary files a b

abbrev pub test_three : Map Text → Text → Text → Text → Option Bool
test_three files a b c = if is_binary b then binary b a c else (if is_bang a then opposite (test_two files b c) else None)

abbrev pub test_four : Map Text → Text → Text → Text → Text → Option Bool
test_four files a b c d = if is_bang a then opposite (test_three files b c d) else None

abbrev pub tested : Map Text → List Text → Option Bool
tested files [] = Some false
tested files (a ∷ []) = Some (not (is_empty a))
tested files (a ∷ b ∷ []) = test_two files a b
tested files (a ∷ b ∷ c ∷ []) = test_three files a b c
tested files (a ∷ b ∷ c ∷ d ∷ []) = test_four files a b c d
tested files (a ∷ b ∷ c ∷ d ∷ e ∷ more) = None

abbrev pub ends_tested : Option Bool → Core → CoreEnding
ends_tested None o = None
ends_tested (Some b) o = ends (status_of_test b) o

abbrev pub test_run : List Text → St Core → Ending
test_run args s = on_core s (ends_tested (tested s.outside.files args) s.own)

-- ---- `[`, whose last argument is `]`

abbrev pub is_closing : List Text → Bool
is_closing [] = false
is_closing (text ∷ more) = same_text (codes "]") text

abbrev pub before_last : List Text → List Text
before_last args = take (length args - 1) args

abbrev pub bracket_run : List Text → St Core → Ending
bracket_run args s = if is_closing (drop (length args - 1) args) then test_run (before_last args) s else None
