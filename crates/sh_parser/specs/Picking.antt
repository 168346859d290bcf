-- Values by their kinds.
use Rattle.std.specs.Prelude.{ℕ, true, false, List, [], ◌∷◌, ◌++◌, map, Option, Some, None}
use Rattle.span_text.specs.declared.expr.Expr.{Expr}
use Rattle.sh_grammar.specs.Bytes.{Text}
use Rattle.sh_grammar.specs.Shape as shape
use Rattle.sh_grammar.specs.State.{Node, aimed_node, redirect_node, no_kind}
use Rattle.sh_syntax.specs.declared.tree.Name.{Name}
use Rattle.sh_syntax.specs.declared.tree.Part.{Part}
use Rattle.sh_syntax.specs.declared.tree.Word.{Word}
use Rattle.sh_syntax.specs.declared.tree.RedirectOp.{RedirectOp}
use Rattle.sh_syntax.specs.declared.tree.CommandKind.{CommandKind}
use Rattle.sh_syntax.specs.declared.tree.Command.{Command}
use Rattle.sh_syntax.specs.declared.tree.Pipeline.{Pipeline}
use Rattle.sh_syntax.specs.declared.tree.Script.{Script}
use Rattle.sh_syntax.specs.View.{view, view_param, view_test, view_part, view_word, view_operator, view_kind, view_command, view_pipeline, words_of}
use Rattle.sh_parser.specs.declared.picking.Picked.{Picked}
use Rattle.sh_parser.specs.declared.values.Opening.{Opening}
use Rattle.sh_parser.specs.declared.values.Opening.TheVariants as openings
use Rattle.sh_parser.specs.declared.values.Value.{Value}
use Rattle.sh_parser.specs.declared.values.Value.TheVariants as values

-- the first of two, if it is there
abbrev pub first : {X : Type 0} → Option X → Option X → Option X
first None other = other
first (Some x) other = Some x

-- the first and the second item of a list
abbrev pub head : {X : Type 0} → List X → Option X
head [] = None
head (x ∷ xs) = Some x

abbrev pub second : {X : Type 0} → List X → Option X
second [] = None
second (x ∷ xs) = head xs

abbrev pub none : Picked
none = record {
  name = None;
  digit = None;
  parts = [];
  opening = None;
  expr = None;
  words = [];
  op = None;
  aimed = None;
  redirects = [];
  assigns = [];
  kind = None;
  commands = [];
  banged = false;
  pipeline = None;
  links = [];
  chains = [];
  scripts = [];
  branches = [];
  otherwise = None;
  listed = None;
  items = [];
}

-- a value behind those that are there
abbrev pub put : Picked → Value → Picked
put p (values.Name n) = record p { name = first p.name (Some n) }
put p (values.Digit d) = record p { digit = first p.digit (Some d) }
put p (values.Part x) = record p { parts = p.parts ++ x ∷ [] }
put p (values.Opening o) = record p { opening = first p.opening (Some o) }
put p (values.Expr e) = record p { expr = first p.expr (Some e) }
put p (values.Word w) = record p { words = p.words ++ w ∷ [] }
put p (values.Op o) = record p { op = first p.op (Some o) }
put p (values.Aimed o w) = record p { aimed = first p.aimed (Some (o, w)) }
put p (values.Redirect r) = record p { redirects = p.redirects ++ r ∷ [] }
put p (values.Assign a) = record p { assigns = p.assigns ++ a ∷ [] }
put p (values.Kind k) = record p { kind = first p.kind (Some k) }
put p (values.Command c) = record p { commands = p.commands ++ c ∷ [] }
put p values.Bang = record p { banged = true }
put p (values.Pipeline x) = record p { pipeline = first p.pipeline (Some x) }
put p (values.Link j x) = record p { links = p.links ++ (j, x) ∷ [] }
put p (values.Chain i) = record p { chains = p.chains ++ i ∷ [] }
put p (values.Script s) = record p { scripts = p.scripts ++ s ∷ [] }
put p (values.Branch t b) = record p { branches = p.branches ++ (t, b) ∷ [] }
put p (values.Else s) = record p { otherwise = first p.otherwise (Some s) }
put p (values.Listed ws) = record p { listed = first p.listed (Some ws) }
put p (values.CaseItem i) = record p { items = p.items ++ i ∷ [] }

-- values behind those that are there
abbrev pub puts : Picked → List Value → Picked
puts p [] = p
puts p (v ∷ vs) = puts (put p v) vs

abbrev pub pick : List Value → Picked
pick vs = puts none vs

-- ---- the kinds, seen as the grammar sees them

abbrev pub text_of : Option Name → Text
text_of None = []
text_of (Some n) = n.text

-- an operand of an arithmetic expansion is a word of one part
abbrev pub operand : Part → shape.Parts
operand p = shape.part (view_part p) shape.no_part

abbrev pub operands_of : List Part → shape.Words
operands_of ps = words_of (map operand ps)

-- the part of a parameter and the word behind its operator
abbrev pub filled_of : Option Opening → shape.Parts → shape.Part
filled_of None w = shape.plain []
filled_of (Some (openings.Filling q test colon)) w = shape.param (view_param q) (shape.fill (view_test test) colon w)
filled_of (Some (openings.Trimming q suffix longest)) w = shape.param (view_param q) (shape.trim suffix longest w)

abbrev pub sum_of : Option Expr → shape.Words → shape.Part
sum_of None ws = shape.plain []
sum_of (Some e) ws = shape.arith e ws

abbrev pub word_of : Option Word → shape.Parts
word_of None = shape.no_part
word_of (Some w) = view_word w

-- the redirection of a descriptor
abbrev pub redirect_of : Option (RedirectOp × Word) → Option ℕ → List Node
redirect_of None fd = []
redirect_of (Some x) fd = redirect_node fd (view_operator x.0) (view_word x.1) ∷ []

abbrev pub aimed_of : Option RedirectOp → shape.Parts → List Node
aimed_of None w = []
aimed_of (Some op) w = aimed_node (view_operator op) w ∷ []

abbrev pub kind_of : Option CommandKind → shape.Kind
kind_of None = no_kind
kind_of (Some k) = view_kind k

abbrev pub command_of : Option Command → shape.Command
command_of None = shape.command no_kind shape.no_redirect
command_of (Some c) = view_command c

abbrev pub pipeline_of : Option Pipeline → shape.Pipeline
pipeline_of None = shape.pipeline false shape.no_stage
pipeline_of (Some p) = view_pipeline p

abbrev pub script_of : Option Script → shape.Script
script_of None = shape.no_chain
script_of (Some s) = view s
