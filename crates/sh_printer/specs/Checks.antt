-- What a piece that is checked says, and that a node's pieces say what it does.
use Rattle.std.specs.Prelude.{◌≡◌, ℕ, ◌+◌, ◌*◌, ◌<◌, Bool, true, ◌&&◌, not, List, map}
use Rattle.span_text.specs.Expression.{nodes}
use Rattle.sh_grammar.specs.Bytes.{in_body, in_word}
use Rattle.sh_grammar.specs.Shape as shape
use Rattle.sh_printer.specs.Codes.{view_context}
use Rattle.sh_printer.specs.Pieces.{branch_views, link_views}
use Rattle.sh_printer.specs.Weights.{part_weight, parts_weight, words_weight, value_weight, assigns_weight, redirects_weight, command_weight, kind_weight, branches_weight, items_weight, stages_weight, pipeline_weight, links_weight, script_weight}
use Rattle.sh_printer.specs.declared.context.Context.{Context}
use Rattle.sh_printer.specs.declared.checking.checks.Check.{Check}
use Rattle.sh_printer.specs.declared.checking.checks.Check.TheVariants as check
use Rattle.sh_printer.specs.declared.checking.checks.CheckNode.{CheckNode}
use Rattle.sh_printer.specs.declared.checking.checks.CheckNode.TheVariants as node
use Rattle.sh_printer.specs.declared.checking.checks.Checks.{Checks}
use Rattle.sh_printer.specs.declared.checking.checks.CommandCheck.{CommandCheck}
use Rattle.sh_printer.specs.declared.checking.checks.CommandCheck.TheVariants as commands
use Rattle.sh_printer.specs.declared.checking.checks.Nesting.{Nesting}
use Rattle.sh_printer.specs.declared.checking.checks.WordCheck.{WordCheck}
use Rattle.sh_printer.specs.declared.checking.checks.WordCheck.TheVariants as words
use Rattle.sh_printing.specs.Printable.{assigns_fit, behind_tilde, branches_fit, command_fits, ends_line, has_chain, is_copied_word, items_fit, kind_fits, links_fit, list_fits, literal_body, operand_checks, operand_fits, part_fits, parts_fit, patterns_fit, pipeline_fits, plain_fits, reads_tilde, redirects_fit, stages_fit, value_fits, word_fits, words_fit}
use Rattle.sh_printing.specs.Printing.{has_word}
use Rattle.sh_printing.specs.Spellable.{begins_with, sum_fits}
use Rattle.sh_syntax.specs.declared.tree.Part.{Part}
use Rattle.sh_syntax.specs.View.{view, view_assign, view_case_item, view_command, view_item, view_kind, view_part, view_pipeline, view_redirect, view_value, view_word, assigns_of, branches_of, case_items_of, items_of, links_of, parts_of, redirects_of, stages_of, words_of}

-- ---- words

-- the first part of a word, which may be a tilde
abbrev pub front_fits : (inside : Bool) → ℕ → (spaced : Bool) → shape.Parts → shape.Part → Bool
front_fits inside d spaced behind (shape.plain text) = not (spaced && begins_with 35 text) && not (reads_tilde text behind) && plain_fits in_word behind text
front_fits inside d spaced behind (shape.exact text) = part_fits inside d in_word behind (shape.exact text)
front_fits inside d spaced behind (shape.double ps) = part_fits inside d in_word behind (shape.double ps)
front_fits inside d spaced behind shape.tilde = behind_tilde behind
front_fits inside d spaced behind (shape.param p o) = part_fits inside d in_word behind (shape.param p o)
front_fits inside d spaced behind (shape.subst s) = part_fits inside d in_word behind (shape.subst s)
front_fits inside d spaced behind (shape.arith e ws) = part_fits inside d in_word behind (shape.arith e ws)

-- the word of a redirection, or the body of a here-document
abbrev pub target_fits : (inside : Bool) → ℕ → shape.RedirectOp → shape.Parts → Bool
target_fits inside d shape.read w = word_fits inside d true w
target_fits inside d shape.write w = word_fits inside d true w
target_fits inside d shape.append w = word_fits inside d true w
target_fits inside d shape.here_literal w = literal_body inside w
target_fits inside d shape.here_expanded w = ends_line w && parts_fit true d in_body w
target_fits inside d shape.copy_in w = is_copied_word w
target_fits inside d shape.copy_out w = is_copied_word w

unfoldable pub word_holds : (inside : Bool) → ℕ → WordCheck → Bool
word_holds inside d (words.Words ws) = words_fit inside d (words_of (map view_word ws.now))
word_holds inside d (words.Word ps spaced) = word_fits inside d spaced (parts_of (map view_part ps.now))
word_holds inside d (words.Parts ps context) = parts_fit inside d (view_context context) (parts_of (map view_part ps.now))
word_holds inside d (words.Part p context behind) = part_fits inside d (view_context context) (parts_of (map view_part behind.now)) (view_part p.now)
word_holds inside d (words.Operand ps) = operand_fits inside d (parts_of (map view_part ps.now))
word_holds inside d (words.Body ps) = ends_line (parts_of (map view_part ps.now)) && parts_fit true d in_body (parts_of (map view_part ps.now))
word_holds inside d (words.Patterns ws) = patterns_fit inside d (words_of (map view_word ws.now))
word_holds inside d (words.Assigns as') = assigns_fit inside d (assigns_of (map view_assign as'.now))
word_holds inside d (words.Value v) = value_fits inside d (view_value v.now)
word_holds inside d (words.Redirects rs) = redirects_fit inside d (redirects_of (map view_redirect rs.now))

unfoldable pub word_check_weight : WordCheck → ℕ
word_check_weight (words.Words ws) = words_weight (words_of (map view_word ws.now)) + 1
word_check_weight (words.Word ps spaced) = parts_weight (parts_of (map view_part ps.now)) + 2
word_check_weight (words.Parts ps context) = parts_weight (parts_of (map view_part ps.now)) + 1
word_check_weight (words.Part p context behind) = part_weight (view_part p.now) + 2
word_check_weight (words.Operand ps) = parts_weight (parts_of (map view_part ps.now)) + 1
word_check_weight (words.Body ps) = parts_weight (parts_of (map view_part ps.now)) + 2
word_check_weight (words.Patterns ws) = words_weight (words_of (map view_word ws.now)) + 1
word_check_weight (words.Assigns as') = assigns_weight (assigns_of (map view_assign as'.now)) + 1
word_check_weight (words.Value v) = value_weight (view_value v.now) + 2
word_check_weight (words.Redirects rs) = redirects_weight (redirects_of (map view_redirect rs.now)) + 1

-- ---- commands

-- a list of one command at least
abbrev pub some_fit : (inside : Bool) → ℕ → shape.Script → Bool
some_fit inside d s = has_chain s && list_fits inside d s

-- patterns, and what runs where one of them matches
abbrev pub item_fits : (inside : Bool) → ℕ → shape.Words × shape.Script → Bool
item_fits inside d i = has_word i.0 && patterns_fit inside d i.0 && list_fits inside d i.1

unfoldable pub command_holds : (inside : Bool) → ℕ → CommandCheck → Bool
command_holds inside d (commands.Command c) = command_fits inside d (view_command c.now)
command_holds inside d (commands.Kind k redirected) = kind_fits inside d redirected (view_kind k.now)
command_holds inside d (commands.List s) = some_fit inside d (view s.now)
command_holds inside d (commands.Branches bs) = branches_fit inside d (branches_of (branch_views bs.now))
command_holds inside d (commands.Items is) = items_fit inside d (case_items_of (map view_case_item is.now))
command_holds inside d (commands.Item i) = item_fits inside d (view_case_item i.now)
command_holds inside d (commands.Chains is) = list_fits inside d (items_of (map view_item is.now))
command_holds inside d (commands.Links ls) = links_fit inside d (links_of (link_views ls.now))
command_holds inside d (commands.Pipeline p) = pipeline_fits inside d (view_pipeline p.now)
command_holds inside d (commands.Stages cs) = stages_fit inside d (stages_of (map view_command cs.now))

unfoldable pub command_check_weight : CommandCheck → ℕ
command_check_weight (commands.Command c) = command_weight (view_command c.now) + 1
command_check_weight (commands.Kind k redirected) = kind_weight (view_kind k.now) + 1
command_check_weight (commands.List s) = script_weight (view s.now) + 2
command_check_weight (commands.Branches bs) = branches_weight (branches_of (branch_views bs.now)) + 1
command_check_weight (commands.Items is) = items_weight (case_items_of (map view_case_item is.now)) + 1
command_check_weight (commands.Item i) = words_weight (view_case_item i.now).0 + script_weight (view_case_item i.now).1 + 5
command_check_weight (commands.Chains is) = script_weight (items_of (map view_item is.now)) + 1
command_check_weight (commands.Links ls) = links_weight (links_of (link_views ls.now)) + 1
command_check_weight (commands.Pipeline p) = pipeline_weight (view_pipeline p.now) + 1
command_check_weight (commands.Stages cs) = stages_weight (stages_of (map view_command cs.now)) + 1

-- ---- pieces and nodes

abbrev pub node_holds : (inside : Bool) → ℕ → CheckNode → Bool
node_holds inside d (node.Word c) = word_holds inside d c
node_holds inside d (node.Command c) = command_holds inside d c

abbrev pub node_check_weight : CheckNode → ℕ
node_check_weight (node.Word c) = word_check_weight c
node_check_weight (node.Command c) = command_check_weight c

abbrev pub check_holds : Check → Bool
check_holds (check.Known b) = b
check_holds (check.Sum e ws at) = sum_fits (operand_checks at.in_body (words_of (map view_word ws.now))) at.depth e.now
check_holds (check.Node n at) = node_holds at.in_body at.depth n

abbrev pub check_weight : Check → ℕ
check_weight (check.Known b) = 0
check_weight (check.Sum e ws at) = 200 * nodes e.now + words_weight (words_of (map view_word ws.now)) + 110
check_weight (check.Node n at) = node_check_weight n

-- the pieces hold where this does, and each weighs less than this
pub record Splits (holds : Bool) (weight : ℕ) (split : Checks) : Type 0 where
  pub whole : (check_holds split.first && check_holds split.second && check_holds split.rest) ≡ holds
  pub first_less : check_weight split.first < weight
  pub second_less : check_weight split.second < weight
  pub rest_less : check_weight split.rest < weight

-- the pieces of a node where it stands
abbrev pub NodeSplits : CheckNode → Nesting → Checks → Type 0
NodeSplits n at split = Splits (node_holds at.in_body at.depth n) (node_check_weight n) split

-- the pieces of a part before others
abbrev pub AsPart : Nesting → Context → List Part → shape.Part → Checks → Type 0
AsPart at context behind p split = Splits (part_fits at.in_body at.depth (view_context context) (parts_of (map view_part behind)) p) (part_weight p + 2) split

-- the pieces of a command of this kind before its redirections
abbrev pub AsKind : Nesting → (redirected : Bool) → shape.Kind → Checks → Type 0
AsKind at redirected k split = Splits (kind_fits at.in_body at.depth redirected k) (kind_weight k + 1) split
