-- The text of a piece, and that a node's pieces are its text.
use Rattle.std.specs.Prelude.{◌≡◌, ℕ, ◌+◌, ◌*◌, ◌<◌, Bool, true, false, List, [], ◌∷◌, ◌++◌, codes, map, take, drop, option_map, if◌then◌else◌}
use Rattle.std.specs.Fmt.{signed_decimal}
use Rattle.span_text.specs.declared.expr.Expr.{Expr}
use Rattle.span_text.specs.declared.expr.Expr.TheOpen.{Expr-F}
use Rattle.span_text.specs.declared.expr.Expr.TheFolds.{map-Expr}
use Rattle.span_text.specs.Expression.{nodes}
use Rattle.sh_grammar.specs.Bytes.{Text, in_body, in_word, has_single}
use Rattle.sh_grammar.specs.Shape as shape
use Rattle.sh_grammar.specs.Steps.{nth}
use Rattle.sh_printer.specs.Codes.{view_context, view_end}
use Rattle.sh_printer.specs.declared.pieces.Piece.{Piece}
use Rattle.sh_printer.specs.declared.pieces.Piece.TheVariants as piece
use Rattle.sh_printer.specs.declared.pieces.Leaf.{Leaf}
use Rattle.sh_printer.specs.declared.pieces.Leaf.TheVariants as leaf
use Rattle.sh_printer.specs.declared.pieces.Node.{Node}
use Rattle.sh_printer.specs.declared.pieces.Node.TheVariants as node
use Rattle.sh_printer.specs.declared.pieces.WordPiece.{WordPiece}
use Rattle.sh_printer.specs.declared.pieces.WordPiece.TheVariants as words
use Rattle.sh_printer.specs.declared.pieces.CommandPiece.{CommandPiece}
use Rattle.sh_printer.specs.declared.pieces.CommandPiece.TheVariants as commands
use Rattle.sh_printer.specs.declared.pieces.SumPiece.{SumPiece}
use Rattle.sh_printer.specs.declared.pieces.SumPiece.TheVariants as sums
use Rattle.sh_printer.specs.declared.pieces.Operands.{Operands}
use Rattle.sh_printer.specs.declared.pieces.Place.{Place}
use Rattle.sh_printer.specs.declared.pieces.Split.{Split}
use Rattle.sh_printer.specs.declared.pieces.Tail.{Tail}
use Rattle.sh_printer.specs.declared.marks.End.{End as Ended}
use Rattle.sh_syntax.specs.declared.tree.Part.{Part}
use Rattle.sh_syntax.specs.declared.tree.Redirect.{Redirect}
use Rattle.sh_syntax.specs.declared.tree.Script.{Script}
use Rattle.sh_syntax.specs.declared.tree.Pipeline.{Pipeline}
use Rattle.sh_syntax.specs.declared.tree.Joint.{Joint}
use Rattle.sh_printing.specs.Marks.{End, blank, gap, exact_text, param_text, param_name, colon_text, test_text, fd_text, delimiter_text}
use Rattle.sh_printer.specs.Owed.{owed_text}
use Rattle.sh_printing.specs.Printing.{owed_behind, parts_open, part_text, parts_text, operand_texts, words_text, value_text, assigns_text, last_words_text, words_last, redirects_text, command_text, kind_text, branches_text, for_words_text, items_text, patterns_text, stages_text, pipeline_text, links_text, chain_text, list_text}
use Rattle.sh_printer.specs.Chains.{halves_text, layer_nodes}
use Rattle.sh_printing.specs.Sums.{Levelled, expr_step, levelled_text}
use Rattle.sh_syntax.specs.View.{Aimed, view, view_assign, view_case_item, view_command, view_item, view_param, view_part, view_pipeline, view_redirect, view_test, view_word, parts_of, words_of, assigns_of, redirects_of, branches_of, for_words_of, case_items_of, stages_of, links_of, items_of}
use Rattle.sh_printer.specs.Weights.{part_weight, parts_weight, words_weight, value_weight, assigns_weight, redirects_weight, command_weight, kind_weight, branches_weight, for_words_weight, items_weight, stages_weight, pipeline_weight, links_weight, script_weight}

abbrev pub leaf_text : Leaf → Text
leaf_text (leaf.Bytes bytes) = bytes.now
leaf_text (leaf.Exact text context) = exact_text (has_single (view_context context)) text.now
leaf_text (leaf.Named param more) = param_text more (view_param param.now)
leaf_text (leaf.Length param) = codes "${#" ++ param_name (view_param param.now) ++ 125 ∷ []
leaf_text (leaf.Filling param test colon) = codes "${" ++ param_name (view_param param.now) ++ colon_text colon ++ test_text (view_test test)
leaf_text (leaf.Trimming param mark) = codes "${" ++ param_name (view_param param.now) ++ mark.now
leaf_text (leaf.Fd fd) = fd_text fd
leaf_text (leaf.Constant n) = signed_decimal n
leaf_text (leaf.Operator mark) = 32 ∷ mark.now ++ 32 ∷ []

-- ---- words

abbrev pub inner_text : (full : Bool) → List Part → Text
inner_text full body = parts_text full in_body blank (parts_of (map view_part body))

-- the delimiter of a body
abbrev pub delimiter_of : (full : Bool) → shape.Parts → Text
delimiter_of full body = delimiter_text full (parts_text full in_body blank body)

abbrev pub owed_of : (full : Bool) → List Redirect → Text
owed_of full owed = owed_text full (map view_redirect owed)

abbrev pub owed_weight : List Redirect → ℕ
owed_weight owed = redirects_weight (redirects_of (map view_redirect owed))

abbrev pub operator_text : shape.RedirectOp → Text
operator_text shape.read = codes "<"
operator_text shape.write = codes ">"
operator_text shape.append = codes ">>"
operator_text shape.here_literal = []
operator_text shape.here_expanded = []
operator_text shape.copy_in = codes "<&"
operator_text shape.copy_out = codes ">&"

-- the operator of a here-document, and its delimiter
abbrev pub here_text : (quoted : Bool) → Text → Text
here_text true delimiter = codes "<<'" ++ delimiter ++ codes "'"
here_text false delimiter = codes "<<" ++ delimiter

abbrev pub here_start : (quoted : Bool) → Text
here_start true = codes "<<'"
here_start false = codes "<<"

abbrev pub here_end : (quoted : Bool) → Text
here_end true = codes "'"
here_end false = []

-- the word behind an operator, or a here-document's operator with the delimiter of the body
abbrev pub target_text : shape.RedirectOp → (delimiter word : Text) → Text
target_text shape.read delimiter word = word
target_text shape.write delimiter word = word
target_text shape.append delimiter word = word
target_text shape.here_literal delimiter word = here_text true delimiter
target_text shape.here_expanded delimiter word = here_text false delimiter
target_text shape.copy_in delimiter word = word
target_text shape.copy_out delimiter word = word

abbrev pub redirect_text : (full : Bool) → (owed : Text) → Aimed → Text
redirect_text full owed r = (fd_text r.fd ++ operator_text r.op) ++ target_text r.op (delimiter_of full r.word) (parts_text full in_word (gap owed) r.word)

-- the bodies that are still to come behind a redirection
abbrev pub still_owed_behind : (full : Bool) → Aimed → (owed : Text) → Text
still_owed_behind full r owed = owed_behind full r.op (parts_open r.word) (parts_text full in_body blank r.word) owed

-- the words that stand behind the redirections of a command
abbrev pub last_words_of : shape.Kind → shape.Words
last_words_of (shape.simple as' ws) = if words_last as' ws then ws else shape.no_word
last_words_of (shape.group s) = shape.no_word
last_words_of (shape.subshell s) = shape.no_word
last_words_of (shape.branching bs o) = shape.no_word
last_words_of (shape.loop until t b) = shape.no_word
last_words_of (shape.walk n ws b) = shape.no_word
last_words_of (shape.cases w is) = shape.no_word
last_words_of (shape.function n c) = shape.no_word

-- what stands behind redirections, by the bodies that are still to come
abbrev pub tail_text : (full : Bool) → Tail → (owed : Text) → Text
tail_text full t = last_words_text full (view_end t.end) (words_of (map view_word t.words.now))

abbrev pub tail_weight : Tail → ℕ
tail_weight t = words_weight (words_of (map view_word t.words.now))

unfoldable pub word_text : (full : Bool) → WordPiece → Text
word_text full (words.Words ws behind) = words_text full behind (words_of (map view_word ws.now))
word_text full (words.Word w) = parts_text full in_word blank (view_word w.now)
word_text full (words.Parts ps context owed) = parts_text full (view_context context) (gap (owed_of full owed.now)) (parts_of (map view_part ps.now))
word_text full (words.Part p place) = part_text full (view_context place.context) (gap (owed_of full place.owed.now)) place.more (view_part p.now)
word_text full (words.Redirects all done behind tail) = redirects_text full behind (tail_text full tail) (owed_of full (take done all.now)) (redirects_of (map view_redirect (drop done all.now)))
word_text full (words.Last tail owed) = tail_text full tail (owed_of full owed.now)
word_text full (words.Redirect r owed) = redirect_text full (owed_of full owed.now) (view_redirect r.now)
word_text full (words.Assigns as' behind) = assigns_text full behind (assigns_of (map view_assign as'.now))
word_text full (words.Assign a) = ((view_assign a.now).0 ++ 61 ∷ []) ++ value_text full (view_assign a.now).1

unfoldable pub word_weight : WordPiece → ℕ
word_weight (words.Words ws behind) = words_weight (words_of (map view_word ws.now)) + 1
word_weight (words.Word w) = parts_weight (view_word w.now) + 2
word_weight (words.Parts ps context owed) = parts_weight (parts_of (map view_part ps.now)) + owed_weight owed.now + 1
word_weight (words.Part p place) = part_weight (view_part p.now) + owed_weight place.owed.now + 2
word_weight (words.Redirects all done behind tail) = owed_weight all.now + owed_weight (drop done all.now) + tail_weight tail + 4
word_weight (words.Last tail owed) = tail_weight tail + owed_weight owed.now + 3
word_weight (words.Redirect r owed) = parts_weight (view_redirect r.now).word + owed_weight owed.now + 15
word_weight (words.Assigns as' behind) = assigns_weight (assigns_of (map view_assign as'.now)) + 1
word_weight (words.Assign a) = value_weight (view_assign a.now).1 + 1

-- ---- commands

-- a list whose commands end so
abbrev pub chains_text : (full : Bool) → End → shape.Script → Text
chains_text full end shape.no_chain = []
chains_text full end (shape.next_chain c more) = chain_text full end c ++ chains_text full end more

abbrev pub branch_views : List (Script × Script) → List (shape.Script × shape.Script)
branch_views bs = map (λ b. (view b.0, view b.1)) bs

abbrev pub pipeline_mark : Bool → Text
pipeline_mark false = []
pipeline_mark true = codes "! "

abbrev pub link_views : List (Joint × Pipeline) → List (Joint × shape.Pipeline)
link_views ls = map (λ l. (l.0, view_pipeline l.1)) ls

unfoldable pub command_piece_text : (full : Bool) → CommandPiece → Text
command_piece_text full (commands.Command c end) = command_text full (view_end end) (view_command c.now)
command_piece_text full (commands.Between before s behind) = (before.now ++ list_text full (view s.now)) ++ behind.now
command_piece_text full (commands.Branches bs key) = branches_text full key.now (branches_of (branch_views bs.now))
command_piece_text full (commands.For n ws) = (codes "for " ++ n.now.text) ++ for_words_text full (for_words_of (option_map (map view_word) ws.now))
command_piece_text full (commands.ForWords ws) = (codes " in" ++ words_text full true (words_of (map view_word ws.now))) ++ codes "; "
command_piece_text full (commands.Led mark w) = mark.now ++ parts_text full in_word blank (view_word w.now)
command_piece_text full (commands.Case is) = (codes " in " ++ items_text full (case_items_of (map view_case_item is.now))) ++ codes "esac"
command_piece_text full (commands.Items is) = items_text full (case_items_of (map view_case_item is.now))
command_piece_text full (commands.Patterns ws mark) = patterns_text full mark.now (words_of (map view_word ws.now))
command_piece_text full (commands.Chains is end) = chains_text full (view_end end) (items_of (map view_item is.now))
command_piece_text full (commands.Links ls end) = links_text full (view_end end) (links_of (link_views ls.now))
command_piece_text full (commands.Pipeline p end) = pipeline_text full (view_end end) (view_pipeline p.now)
command_piece_text full (commands.Stages cs end) = stages_text full (view_end end) (stages_of (map view_command cs.now))

unfoldable pub command_piece_weight : CommandPiece → ℕ
command_piece_weight (commands.Command c end) = command_weight (view_command c.now) + 1
command_piece_weight (commands.Between before s behind) = script_weight (view s.now) + 2
command_piece_weight (commands.Branches bs key) = branches_weight (branches_of (branch_views bs.now)) + 1
command_piece_weight (commands.For n ws) = for_words_weight (for_words_of (option_map (map view_word) ws.now)) + 3
command_piece_weight (commands.ForWords ws) = words_weight (words_of (map view_word ws.now)) + 2
command_piece_weight (commands.Led mark w) = parts_weight (view_word w.now) + 3
command_piece_weight (commands.Case is) = items_weight (case_items_of (map view_case_item is.now)) + 2
command_piece_weight (commands.Items is) = items_weight (case_items_of (map view_case_item is.now)) + 1
command_piece_weight (commands.Patterns ws mark) = words_weight (words_of (map view_word ws.now)) + 1
command_piece_weight (commands.Chains is end) = script_weight (items_of (map view_item is.now)) + 1
command_piece_weight (commands.Links ls end) = links_weight (links_of (link_views ls.now)) + 1
command_piece_weight (commands.Pipeline p end) = pipeline_weight (view_pipeline p.now) + 1
command_piece_weight (commands.Stages cs end) = stages_weight (stages_of (map view_command cs.now)) + 1

-- ---- expressions

abbrev pub operand_of : (full : Bool) → Operands → ℕ → Text
operand_of full o = nth (operand_texts full (gap (owed_of full o.owed.now)) (words_of (map view_word o.words.now)))

abbrev pub sum_operand_text : (operand : ℕ → Text) → SumPiece → Text
sum_operand_text operand (sums.Expr e wanted) = levelled_text operand e.now wanted
sum_operand_text operand (sums.Bare e) = levelled_text operand e.now 0
sum_operand_text operand (sums.Closed e) = 40 ∷ levelled_text operand e.now 0 ++ 41 ∷ []
sum_operand_text operand (sums.Links e count bits) = halves_text operand bits e.now count
sum_operand_text operand (sums.Behind mark e wanted) = (32 ∷ mark.now ++ 32 ∷ []) ++ levelled_text operand e.now wanted
sum_operand_text operand (sums.Indexed e) = levelled_text operand e.now 0 ++ 93 ∷ []

unfoldable pub sum_text : (full : Bool) → SumPiece → Operands → Text
sum_text full p o = sum_operand_text (operand_of full o) p

abbrev pub sum_rank : SumPiece → ℕ
sum_rank (sums.Expr e wanted) = 200 * nodes e.now + 102
sum_rank (sums.Bare e) = 200 * nodes e.now + 100
sum_rank (sums.Closed e) = 200 * nodes e.now + 101
sum_rank (sums.Links e count bits) = 200 * nodes e.now + bits
sum_rank (sums.Behind mark e wanted) = 200 * nodes e.now + 110
sum_rank (sums.Indexed e) = 200 * nodes e.now + 110

unfoldable pub sum_weight : SumPiece → Operands → ℕ
sum_weight p o = sum_rank p + words_weight (words_of (map view_word o.words.now)) + owed_weight o.owed.now

-- ---- pieces and nodes

abbrev pub node_text : (full : Bool) → Node → Text
node_text full (node.Word p) = word_text full p
node_text full (node.Command p) = command_piece_text full p
node_text full (node.Sum p o) = sum_text full p o

abbrev pub node_weight : Node → ℕ
node_weight (node.Word p) = word_weight p
node_weight (node.Command p) = command_piece_weight p
node_weight (node.Sum p o) = sum_weight p o

abbrev pub piece_text : (full : Bool) → Piece → Text
piece_text full (piece.Leaf l) = leaf_text l
piece_text full (piece.Here body quoted) = here_text quoted (delimiter_of full (parts_of (map view_part body.now)))
piece_text full (piece.Line owed) = 10 ∷ owed_of full owed.now
piece_text full (piece.Node n) = node_text full n

abbrev pub piece_weight : Piece → ℕ
piece_weight (piece.Leaf l) = 0
piece_weight (piece.Here body quoted) = parts_weight (parts_of (map view_part body.now)) + 14
piece_weight (piece.Line owed) = owed_weight owed.now + 2
piece_weight (piece.Node n) = node_weight n

-- the pieces are this text, and each weighs less than this
pub record Comes (text : Bool → Text) (weight : ℕ) (split : Split) : Type 0 where
  pub whole : (full : Bool) → (piece_text full split.first ++ piece_text full split.second) ++ piece_text full split.rest ≡ text full
  pub first_less : piece_weight split.first < weight
  pub second_less : piece_weight split.second < weight
  pub rest_less : piece_weight split.rest < weight

-- the pieces of a node
abbrev pub Apart : Node → Split → Type 0
Apart n split = Comes (λ full. node_text full n) (node_weight n) split

-- the pieces of a part
abbrev pub AsPart : Place → shape.Part → Split → Type 0
AsPart place p split = Comes (λ full. part_text full (view_context place.context) (gap (owed_of full place.owed.now)) place.more p) (part_weight p + owed_weight place.owed.now + 2) split

-- the pieces of a command of this kind, of which the last one stands behind it
abbrev pub AsKind : Ended → Piece → shape.Kind → Split → Type 0
AsKind end tail k split = Comes (λ full. kind_text full (view_end end) (piece_text full tail) k) (kind_weight k + piece_weight tail) split

-- the weight of an expression of so many nodes
abbrev pub sums_weight : Operands → (nodes : ℕ) → ℕ
sums_weight o n = 200 * n + 100 + words_weight (words_of (map view_word o.words.now)) + owed_weight o.owed.now

-- the pieces of an expression that was opened once
abbrev pub AsLayer : Operands → Expr-F Expr → Split → Type 0
AsLayer o x split = Comes (λ full. expr_step (operand_of full o) (map-Expr Expr Levelled (levelled_text (operand_of full o)) x) 0) (sums_weight o (layer_nodes x)) split
