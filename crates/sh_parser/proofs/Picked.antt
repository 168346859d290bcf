-- The values of each kind, as the rules take them up.
use Rattle.std.proofs.Common.{◌≡◌, ℕ, Bool, true, false, List, [], ◌∷◌, ◌++◌, Option, Some, None, refl, sym, ap, ◌∙◌, append_assoc, append-nil}
use Rattle.std.specs.Prelude.{map, option_map}
use Rattle.sh_grammar.specs.Bytes.{Text}
use Rattle.sh_grammar.specs.Shape as shape
use Rattle.sh_grammar.specs.State.{Node, parts_in, words_in, assigns_in, redirects_in, stages_in, links_in, chains_in, branches_in, items_in, text_in, digit_in, word_in, value_in, script_in, second_script_in, has_bang, else_in, listed_in, kind_in, command_in, pipeline_in, filled_in, aimed_in, op_in, operands_in, sum_in}
use Rattle.sh_syntax.specs.declared.tree.Joint.TheVariants.{And, Or}
use Rattle.sh_syntax.specs.View.{view, view_param, view_test, view_part, view_word, view_redirect, view_assign, view_kind, view_command, view_pipeline, view_item, view_case_item, parts_of, words_of, assigns_of, redirects_of, stages_of, links_of, items_of, branches_of, otherwise_of, for_words_of, value_of, case_items_of}
use Rattle.sh_parser.specs.declared.picking.Picked.{Picked}
use Rattle.sh_parser.specs.declared.values.Opening.TheVariants as openings
use Rattle.sh_parser.specs.declared.values.Value.{Value}
use Rattle.sh_parser.specs.declared.values.Value.TheVariants as values
use Rattle.sh_parser.specs.Picking.{first, head, second, none, put, puts, pick, text_of, operands_of, filled_of, sum_of, word_of, redirect_of, aimed_of, kind_of, command_of, pipeline_of, script_of}
use Rattle.sh_parser.specs.Values.{nodes}

-- ---- values before others

abbrev or : Bool → Bool → Bool
or true b = true
or false b = b

-- a value before those that are there
abbrev before : Value → Picked → Picked
before (values.Name n) r = record r { name = Some n }
before (values.Digit d) r = record r { digit = Some d }
before (values.Part x) r = record r { parts = x ∷ r.parts }
before (values.Opening o) r = record r { opening = Some o }
before (values.Expr e) r = record r { expr = Some e }
before (values.Word w) r = record r { words = w ∷ r.words }
before (values.Op o) r = record r { op = Some o }
before (values.Aimed o w) r = record r { aimed = Some (o, w) }
before (values.Redirect x) r = record r { redirects = x ∷ r.redirects }
before (values.Assign a) r = record r { assigns = a ∷ r.assigns }
before (values.Kind k) r = record r { kind = Some k }
before (values.Command c) r = record r { commands = c ∷ r.commands }
before values.Bang r = record r { banged = true }
before (values.Pipeline x) r = record r { pipeline = Some x }
before (values.Link j x) r = record r { links = (j, x) ∷ r.links }
before (values.Chain i) r = record r { chains = i ∷ r.chains }
before (values.Script s) r = record r { scripts = s ∷ r.scripts }
before (values.Branch t b) r = record r { branches = (t, b) ∷ r.branches }
before (values.Else s) r = record r { otherwise = Some s }
before (values.Listed ws) r = record r { listed = Some ws }
before (values.CaseItem i) r = record r { items = i ∷ r.items }

abbrev sorted : List Value → Picked
sorted [] = none
sorted (v ∷ vs) = before v (sorted vs)

abbrev joined : Picked → Picked → Picked
joined p r = record {
  name = first p.name r.name;
  digit = first p.digit r.digit;
  parts = p.parts ++ r.parts;
  opening = first p.opening r.opening;
  expr = first p.expr r.expr;
  words = p.words ++ r.words;
  op = first p.op r.op;
  aimed = first p.aimed r.aimed;
  redirects = p.redirects ++ r.redirects;
  assigns = p.assigns ++ r.assigns;
  kind = first p.kind r.kind;
  commands = p.commands ++ r.commands;
  banged = or p.banged r.banged;
  pipeline = first p.pipeline r.pipeline;
  links = p.links ++ r.links;
  chains = p.chains ++ r.chains;
  scripts = p.scripts ++ r.scripts;
  branches = p.branches ++ r.branches;
  otherwise = first p.otherwise r.otherwise;
  listed = first p.listed r.listed;
  items = p.items ++ r.items;
}

kept : {X : Type 0} (o : Option X) (x : X) (r : Option X) → first (first o (Some x)) r ≡ first o (Some x)
kept None x r = refl
kept (Some y) x r = refl

or_true : (b : Bool) → true ≡ or b true
or_true true = refl
or_true false = refl

put_before : (p : Picked) (v : Value) (r : Picked) → joined (put p v) r ≡ joined p (before v r)
put_before p (values.Name n) r = ap (λ o. record (joined p r) { name = o }) (kept p.name n r.name)
put_before p (values.Digit d) r = ap (λ o. record (joined p r) { digit = o }) (kept p.digit d r.digit)
put_before p (values.Part x) r = ap (λ l. record (joined p r) { parts = l }) (append_assoc p.parts (x ∷ []) r.parts)
put_before p (values.Opening q) r = ap (λ o. record (joined p r) { opening = o }) (kept p.opening q r.opening)
put_before p (values.Expr e) r = ap (λ o. record (joined p r) { expr = o }) (kept p.expr e r.expr)
put_before p (values.Word w) r = ap (λ l. record (joined p r) { words = l }) (append_assoc p.words (w ∷ []) r.words)
put_before p (values.Op op') r = ap (λ o. record (joined p r) { op = o }) (kept p.op op' r.op)
put_before p (values.Aimed op' w) r = ap (λ o. record (joined p r) { aimed = o }) (kept p.aimed (op', w) r.aimed)
put_before p (values.Redirect x) r = ap (λ l. record (joined p r) { redirects = l }) (append_assoc p.redirects (x ∷ []) r.redirects)
put_before p (values.Assign a) r = ap (λ l. record (joined p r) { assigns = l }) (append_assoc p.assigns (a ∷ []) r.assigns)
put_before p (values.Kind k) r = ap (λ o. record (joined p r) { kind = o }) (kept p.kind k r.kind)
put_before p (values.Command c) r = ap (λ l. record (joined p r) { commands = l }) (append_assoc p.commands (c ∷ []) r.commands)
put_before p values.Bang r = ap (λ b. record (joined p r) { banged = b }) (or_true p.banged)
put_before p (values.Pipeline x) r = ap (λ o. record (joined p r) { pipeline = o }) (kept p.pipeline x r.pipeline)
put_before p (values.Link j x) r = ap (λ l. record (joined p r) { links = l }) (append_assoc p.links ((j, x) ∷ []) r.links)
put_before p (values.Chain i) r = ap (λ l. record (joined p r) { chains = l }) (append_assoc p.chains (i ∷ []) r.chains)
put_before p (values.Script s) r = ap (λ l. record (joined p r) { scripts = l }) (append_assoc p.scripts (s ∷ []) r.scripts)
put_before p (values.Branch t b) r = ap (λ l. record (joined p r) { branches = l }) (append_assoc p.branches ((t, b) ∷ []) r.branches)
put_before p (values.Else s) r = ap (λ o. record (joined p r) { otherwise = o }) (kept p.otherwise s r.otherwise)
put_before p (values.Listed ws) r = ap (λ o. record (joined p r) { listed = o }) (kept p.listed ws r.listed)
put_before p (values.CaseItem i) r = ap (λ l. record (joined p r) { items = l }) (append_assoc p.items (i ∷ []) r.items)

first_none : {X : Type 0} (o : Option X) → first o None ≡ o
first_none None = refl
first_none (Some x) = refl

or_false : (b : Bool) → or b false ≡ b
or_false true = refl
or_false false = refl

puts_joined : (p : Picked) (vs : List Value) → puts p vs ≡ joined p (sorted vs)
puts_joined p [] = simp (append-nil, first_none, or_false)
puts_joined p (v ∷ vs) = puts_joined (put p v) vs ∙ put_before p v (sorted vs)

-- ---- all kinds at once

record Kinds : Type 0 where
  text : Text
  digit : Option ℕ
  parts : shape.Parts
  operands : shape.Words
  fills : shape.Parts → shape.Part
  sums : shape.Words → shape.Part
  words : shape.Words
  one_word : shape.Parts
  one_value : shape.Value
  aims : shape.Parts → List Node
  directs : Option ℕ → List Node
  redirects : shape.Redirects
  assigns : shape.Assigns
  kind : shape.Kind
  stages : shape.Stages
  one_command : shape.Command
  banged : Bool
  one_pipeline : shape.Pipeline
  links : shape.Links
  chains : shape.Script
  script : shape.Script
  second_script : shape.Script
  branches : shape.Branches
  otherwise : shape.Otherwise
  listed : shape.ForWords
  items : shape.Items

abbrev kinds_in : List Node → Kinds
kinds_in xs = record {
  text = text_in xs;
  digit = digit_in xs;
  parts = parts_in xs;
  operands = operands_in xs;
  fills = filled_in xs;
  sums = sum_in xs;
  words = words_in xs;
  one_word = word_in xs;
  one_value = value_in xs;
  aims = op_in xs;
  directs = aimed_in xs;
  redirects = redirects_in xs;
  assigns = assigns_in xs;
  kind = kind_in xs;
  stages = stages_in xs;
  one_command = command_in xs;
  banged = has_bang xs;
  one_pipeline = pipeline_in xs;
  links = links_in xs;
  chains = chains_in xs;
  script = script_in xs;
  second_script = second_script_in xs;
  branches = branches_in xs;
  otherwise = else_in xs;
  listed = listed_in xs;
  items = items_in xs;
}

abbrev kinds_of : Picked → Kinds
kinds_of p = record {
  text = text_of p.name;
  digit = p.digit;
  parts = parts_of (map view_part p.parts);
  operands = operands_of p.parts;
  fills = filled_of p.opening;
  sums = sum_of p.expr;
  words = words_of (map view_word p.words);
  one_word = word_of (head p.words);
  one_value = value_of (option_map view_word (head p.words));
  aims = aimed_of p.op;
  directs = redirect_of p.aimed;
  redirects = redirects_of (map view_redirect p.redirects);
  assigns = assigns_of (map view_assign p.assigns);
  kind = kind_of p.kind;
  stages = stages_of (map view_command p.commands);
  one_command = command_of (head p.commands);
  banged = p.banged;
  one_pipeline = pipeline_of p.pipeline;
  links = links_of (map (λ l. (l.0, view_pipeline l.1)) p.links);
  chains = items_of (map view_item p.chains);
  script = script_of (head p.scripts);
  second_script = script_of (second p.scripts);
  branches = branches_of (map (λ b. (view b.0, view b.1)) p.branches);
  otherwise = otherwise_of (option_map view p.otherwise);
  listed = for_words_of (option_map (map view_word) p.listed);
  items = case_items_of (map view_case_item p.items);
}

sorted_seen : (vs : List Value) → kinds_in (nodes vs) ≡ kinds_of (sorted vs)
sorted_seen [] = refl
sorted_seen (values.Name n ∷ vs) = ap (λ (k : Kinds). record k { text = n.text }) (sorted_seen vs)
sorted_seen (values.Digit d ∷ vs) = ap (λ (k : Kinds). record k { digit = Some d }) (sorted_seen vs)
sorted_seen (values.Part x ∷ vs) = ap (λ (k : Kinds). record k { parts = shape.part (view_part x) k.parts; operands = shape.word (shape.part (view_part x) shape.no_part) k.operands }) (sorted_seen vs)
sorted_seen (values.Opening (openings.Filling q test colon) ∷ vs) = ap (λ (k : Kinds). record k { fills = λ w. shape.param (view_param q) (shape.fill (view_test test) colon w) }) (sorted_seen vs)
sorted_seen (values.Opening (openings.Trimming q suffix longest) ∷ vs) = ap (λ (k : Kinds). record k { fills = λ w. shape.param (view_param q) (shape.trim suffix longest w) }) (sorted_seen vs)
sorted_seen (values.Expr e ∷ vs) = ap (λ (k : Kinds). record k { sums = shape.arith e }) (sorted_seen vs)
sorted_seen (values.Word w ∷ vs) = ap (λ (k : Kinds). record k { words = shape.word (view_word w) k.words; one_word = view_word w; one_value = shape.value (view_word w) }) (sorted_seen vs)
sorted_seen (values.Op o ∷ vs) = ap (λ (k : Kinds). record k { aims = aimed_of (Some o) }) (sorted_seen vs)
sorted_seen (values.Aimed o w ∷ vs) = ap (λ (k : Kinds). record k { directs = redirect_of (Some (o, w)) }) (sorted_seen vs)
sorted_seen (values.Redirect r ∷ vs) = ap (λ (k : Kinds). record k { redirects = shape.redirect (view_redirect r).fd (view_redirect r).op (view_redirect r).word k.redirects }) (sorted_seen vs)
sorted_seen (values.Assign a ∷ vs) = ap (λ (k : Kinds). record k { assigns = shape.assign (view_assign a).0 (view_assign a).1 k.assigns }) (sorted_seen vs)
sorted_seen (values.Kind x ∷ vs) = ap (λ (k : Kinds). record k { kind = view_kind x }) (sorted_seen vs)
sorted_seen (values.Command c ∷ vs) = ap (λ (k : Kinds). record k { stages = shape.stage (view_command c) k.stages; one_command = view_command c }) (sorted_seen vs)
sorted_seen (values.Bang ∷ vs) = ap (λ (k : Kinds). record k { banged = true }) (sorted_seen vs)
sorted_seen (values.Pipeline p ∷ vs) = ap (λ (k : Kinds). record k { one_pipeline = view_pipeline p }) (sorted_seen vs)
sorted_seen (values.Link And p ∷ vs) = ap (λ (k : Kinds). record k { links = shape.and_link (view_pipeline p) k.links }) (sorted_seen vs)
sorted_seen (values.Link Or p ∷ vs) = ap (λ (k : Kinds). record k { links = shape.or_link (view_pipeline p) k.links }) (sorted_seen vs)
sorted_seen (values.Chain i ∷ vs) = ap (λ (k : Kinds). record k { chains = shape.next_chain (view_item i) k.chains }) (sorted_seen vs)
sorted_seen (values.Script s ∷ vs) = ap (λ (k : Kinds). record k { script = view s; second_script = k.script }) (sorted_seen vs)
sorted_seen (values.Branch t b ∷ vs) = ap (λ (k : Kinds). record k { branches = shape.branch (view t) (view b) k.branches }) (sorted_seen vs)
sorted_seen (values.Else s ∷ vs) = ap (λ (k : Kinds). record k { otherwise = shape.otherwise (view s) }) (sorted_seen vs)
sorted_seen (values.Listed ws ∷ vs) = ap (λ (k : Kinds). record k { listed = shape.listed (words_of (map view_word ws)) }) (sorted_seen vs)
sorted_seen (values.CaseItem i ∷ vs) = ap (λ (k : Kinds). record k { items = shape.item (view_case_item i).0 (view_case_item i).1 k.items }) (sorted_seen vs)

kinds_seen : (vs : List Value) → kinds_in (nodes vs) ≡ kinds_of (pick vs)
kinds_seen vs = sorted_seen vs ∙ ap kinds_of (sym (puts_joined none vs))

-- ---- each kind

pub text_seen : (vs : List Value) → text_in (nodes vs) ≡ text_of (pick vs).name
text_seen vs = ap (λ (k : Kinds). k.text) (kinds_seen vs)

pub digit_seen : (vs : List Value) → digit_in (nodes vs) ≡ (pick vs).digit
digit_seen vs = ap (λ (k : Kinds). k.digit) (kinds_seen vs)

pub parts_seen : (vs : List Value) → parts_in (nodes vs) ≡ parts_of (map view_part (pick vs).parts)
parts_seen vs = ap (λ (k : Kinds). k.parts) (kinds_seen vs)

pub operands_seen : (vs : List Value) → operands_in (nodes vs) ≡ operands_of (pick vs).parts
operands_seen vs = ap (λ (k : Kinds). k.operands) (kinds_seen vs)

pub filled_seen : (vs : List Value) (w : shape.Parts) → filled_in (nodes vs) w ≡ filled_of (pick vs).opening w
filled_seen vs w = ap (λ (k : Kinds). k.fills w) (kinds_seen vs)

pub sum_seen : (vs : List Value) (ws : shape.Words) → sum_in (nodes vs) ws ≡ sum_of (pick vs).expr ws
sum_seen vs ws = ap (λ (k : Kinds). k.sums ws) (kinds_seen vs)

pub words_seen : (vs : List Value) → words_in (nodes vs) ≡ words_of (map view_word (pick vs).words)
words_seen vs = ap (λ (k : Kinds). k.words) (kinds_seen vs)

pub word_seen : (vs : List Value) → word_in (nodes vs) ≡ word_of (head (pick vs).words)
word_seen vs = ap (λ (k : Kinds). k.one_word) (kinds_seen vs)

pub value_seen : (vs : List Value) → value_in (nodes vs) ≡ value_of (option_map view_word (head (pick vs).words))
value_seen vs = ap (λ (k : Kinds). k.one_value) (kinds_seen vs)

pub op_seen : (vs : List Value) (w : shape.Parts) → op_in (nodes vs) w ≡ aimed_of (pick vs).op w
op_seen vs w = ap (λ (k : Kinds). k.aims w) (kinds_seen vs)

pub aimed_seen : (vs : List Value) (fd : Option ℕ) → aimed_in (nodes vs) fd ≡ redirect_of (pick vs).aimed fd
aimed_seen vs fd = ap (λ (k : Kinds). k.directs fd) (kinds_seen vs)

pub redirects_seen : (vs : List Value) → redirects_in (nodes vs) ≡ redirects_of (map view_redirect (pick vs).redirects)
redirects_seen vs = ap (λ (k : Kinds). k.redirects) (kinds_seen vs)

pub assigns_seen : (vs : List Value) → assigns_in (nodes vs) ≡ assigns_of (map view_assign (pick vs).assigns)
assigns_seen vs = ap (λ (k : Kinds). k.assigns) (kinds_seen vs)

pub kind_seen : (vs : List Value) → kind_in (nodes vs) ≡ kind_of (pick vs).kind
kind_seen vs = ap (λ (k : Kinds). k.kind) (kinds_seen vs)

pub stages_seen : (vs : List Value) → stages_in (nodes vs) ≡ stages_of (map view_command (pick vs).commands)
stages_seen vs = ap (λ (k : Kinds). k.stages) (kinds_seen vs)

pub command_seen : (vs : List Value) → command_in (nodes vs) ≡ command_of (head (pick vs).commands)
command_seen vs = ap (λ (k : Kinds). k.one_command) (kinds_seen vs)

pub bang_seen : (vs : List Value) → has_bang (nodes vs) ≡ (pick vs).banged
bang_seen vs = ap (λ (k : Kinds). k.banged) (kinds_seen vs)

pub pipeline_seen : (vs : List Value) → pipeline_in (nodes vs) ≡ pipeline_of (pick vs).pipeline
pipeline_seen vs = ap (λ (k : Kinds). k.one_pipeline) (kinds_seen vs)

pub links_seen : (vs : List Value) → links_in (nodes vs) ≡ links_of (map (λ l. (l.0, view_pipeline l.1)) (pick vs).links)
links_seen vs = ap (λ (k : Kinds). k.links) (kinds_seen vs)

pub chains_seen : (vs : List Value) → chains_in (nodes vs) ≡ items_of (map view_item (pick vs).chains)
chains_seen vs = ap (λ (k : Kinds). k.chains) (kinds_seen vs)

pub script_seen : (vs : List Value) → script_in (nodes vs) ≡ script_of (head (pick vs).scripts)
script_seen vs = ap (λ (k : Kinds). k.script) (kinds_seen vs)

pub second_script_seen : (vs : List Value) → second_script_in (nodes vs) ≡ script_of (second (pick vs).scripts)
second_script_seen vs = ap (λ (k : Kinds). k.second_script) (kinds_seen vs)

pub branches_seen : (vs : List Value) → branches_in (nodes vs) ≡ branches_of (map (λ b. (view b.0, view b.1)) (pick vs).branches)
branches_seen vs = ap (λ (k : Kinds). k.branches) (kinds_seen vs)

pub else_seen : (vs : List Value) → else_in (nodes vs) ≡ otherwise_of (option_map view (pick vs).otherwise)
else_seen vs = ap (λ (k : Kinds). k.otherwise) (kinds_seen vs)

pub listed_seen : (vs : List Value) → listed_in (nodes vs) ≡ for_words_of (option_map (map view_word) (pick vs).listed)
listed_seen vs = ap (λ (k : Kinds). k.listed) (kinds_seen vs)

pub items_seen : (vs : List Value) → items_in (nodes vs) ≡ case_items_of (map view_case_item (pick vs).items)
items_seen vs = ap (λ (k : Kinds). k.items) (kinds_seen vs)
