-- What of a script the profile refuses: the table of codes, each with its number and its places.
use Rattle.std.specs.Prelude.{◌≡◌, ℕ, Bool, false, ◌&&◌, ◌||◌, ◌==◌, nat_lt, List, [], ◌∷◌, map, flat_map, Option, Some, None, if◌then◌else◌}
use Rattle.std.specs.List.{list_any}
use Rattle.bash_grammar.specs.Bytes.{Text}
use Rattle.bash_grammar.specs.Shape.{Script}
use Rattle.bash_grammar.specs.Spelling.{Reads}
use Rattle.bash_profile.specs.Arrays.{kind, arith_form}
use Rattle.bash_profile.specs.Bracing.{brace_form, brace_limit}
use Rattle.bash_profile.specs.Commands.{background, refused_builtin, restricted_name, builtin_form, function_name, enclosure, printf_format, test_operator}
use Rattle.bash_profile.specs.Effects.{redirection_order, prefix_assignment, effect, array_item}
use Rattle.bash_profile.specs.Kinds.{is_associative}
use Rattle.bash_profile.specs.Known.{Known, known_of}
use Rattle.bash_profile.specs.Lists.{list_operator, list_form, list_in_scalar}
use Rattle.bash_profile.specs.Names.{special_name, reserved_prefix}
use Rattle.bash_profile.specs.Refused.{refused_node}
use Rattle.bash_profile.specs.Sites.{Site, sites}
use Rattle.bash_profile.specs.Written.{tilde_site, replacement_site, redirect_word}

-- A code: its number, and the offsets at which it refuses some of these nodes. Where two refusals have one place, the lesser number
-- counts.
pub record Rule : Type 0 where
  pub number : ℕ
  pub places : List Site → List ℕ

-- a code that judges each node by itself
abbrev rule : ℕ → (Site → List ℕ) → Rule
rule number places = record { number = number; places = flat_map places }

-- a code that counts over all nodes
abbrev rule_of_all : ℕ → (List Site → List ℕ) → Rule
rule_of_all number places = record { number = number; places = places }

-- what the grammar refuses as it reads
abbrev read : ℕ → Rule
read number = rule number (refused_node number)

-- The table. Numbers 1 and 2 are a NUL byte and what isn't Bash. To come: 3, for what isn't built yet.
abbrev pub table : Known → List Rule
table k =
    rule 4 background ∷
    read 5 ∷
    read 6 ∷
    read 7 ∷
    read 8 ∷
    rule 9 refused_builtin ∷
    rule 10 restricted_name ∷
    rule 11 (builtin_form k) ∷
    read 12 ∷
    read 13 ∷
    read 14 ∷
    rule 15 list_operator ∷
    rule 16 list_form ∷
    rule 17 list_in_scalar ∷
    read 18 ∷
    rule 19 special_name ∷
    rule 20 reserved_prefix ∷
    read 21 ∷
    read 22 ∷
    read 23 ∷
    rule 24 tilde_site ∷
    read 25 ∷
    read 26 ∷
    rule 27 replacement_site ∷
    rule 28 (brace_form k) ∷
    rule_of_all 29 brace_limit ∷
    rule 30 redirect_word ∷
    read 31 ∷
    read 32 ∷
    read 33 ∷
    rule 34 (redirection_order k) ∷
    rule 35 (prefix_assignment k) ∷
    read 36 ∷
    rule 36 function_name ∷
    rule 37 (kind k) ∷
    read 38 ∷
    rule 38 (arith_form k) ∷
    rule 39 (effect k) ∷
    rule 40 (array_item k) ∷
    rule 41 enclosure ∷
    rule 42 printf_format ∷
    rule 43 test_operator ∷ []

-- an offset, and a number of the table
pub record Refusal : Type 0 where
  pub from : ℕ
  pub number : ℕ

abbrev refusal : ℕ → ℕ → Refusal
refusal number from = record { from = from; number = number }

abbrev refusals_by : List Site → Rule → List Refusal
refusals_by xs r = map (refusal r.number) (r.places xs)

-- all that is refused of a script, code by code
unfoldable pub refusals : Script → List Refusal
refusals s = flat_map (refusals_by (sites (is_associative s) s)) (table (known_of s))

-- whether the first comes before the second: it has the lesser offset, or at one offset the lesser number
abbrev pub is_before : Refusal → Refusal → Bool
is_before a b = nat_lt a.from b.from || (a.from == b.from && nat_lt a.number b.number)

abbrev earlier : Refusal → Option Refusal → Option Refusal
earlier a None = Some a
earlier a (Some b) = if is_before b a then Some b else Some a

abbrev pub first_of : List Refusal → Option Refusal
first_of [] = None
first_of (a ∷ as') = earlier a (first_of as')

-- THE FIRST REFUSAL of a script that reads: the one with the least offset, and among these with the least number
abbrev pub first_refusal : Script → Option Refusal
first_refusal s = first_of (refusals s)

-- A SCRIPT OF THE PROFILE: some text without NUL bytes spells it, and nothing of it is refused
pub record Profiled (script : Script) : Type 0 where
  pub text : Text
  pub reads : Reads text script
  pub clear : list_any (λ b. b == 0) text ≡ false
  pub taken : refusals script ≡ []
