-- Each command and what it is lowered to do the same, from states that agree.
use Rattle.std.proofs.Common.{◌≡◌, ℕ, Bool, true, false, ◌&&◌, List, [], ◌++◌, refl, sym, ap, ◌∙◌}
use Rattle.span_text.specs.Names.{is_name, is_reserved}
use Rattle.span_text.specs.KnownNames.{is_known_command}
use Rattle.shell_world.specs.declared.world.World.{World}
use Rattle.shell_world.specs.Texts.{Text}
use Rattle.shell_world.specs.Calls.{Called}
use Rattle.shell_world.specs.Runs.{Signal, St, Ends, Do, Calls}
use Rattle.shell_world.specs.Runs as bash_ends
use Rattle.shell_runs.specs.Flow.{Flow}
use Rattle.shell_runs.specs.Flow as sh_ends
use Rattle.bash_tree.specs.Shape.{Part, plain, exact, double, param, Parts, no_part, part, Words, no_word, word, Value, no_assign, assign, Command, simple, no_stage, stage, pipeline, no_link, and_link, or_link, Chain, chain, Script, no_item, item, background_item}
use Rattle.bash_meaning.specs.Variables as bash_vars
use Rattle.bash_meaning.specs.Meaning as bash
use Rattle.sh_meaning.specs.Variables as sh_vars
use Rattle.sh_meaning.specs.Own as sh_own
use Rattle.sh_meaning.specs.Simple.{Setting}
use Rattle.sh_meaning.specs.Simple as sh_simple
use Rattle.sh_meaning.specs.Commands as sh
use Rattle.sh_meaning.specs.builtins.Places.{Place}
use Rattle.bash2sh.specs.Form.{is_free_name, is_literal, is_literal_part, is_plain, literal_text, is_free_command, parts_form, quoted_form, part_form, name_form, word_form, words_form, value_form}
use Rattle.bash2sh.specs.Lower.{lower_command, lower_chain, lower}
use Rattle.bash2sh.proofs.Tools.{both, neither}
use Rattle.bash2sh.proofs.Spelled.{words_spelled, value_spelled, command_taken, chain_taken, script_taken}
use Rattle.bash2sh.proofs.Variables.{flattened, text_same, assigned_same, environment_same}
use Rattle.bash2sh.proofs.ShItems.{word_bytes}
use Rattle.bash2sh.proofs.ShWords.{get_in, all_bytes}
use Rattle.bash2sh.proofs.ShCommands as to_sh
use Rattle.bash2sh.proofs.ShCommands.{new_bytes}
use Rattle.bash2sh.proofs.BashCommands.{get_of, value_bytes, literal_bytes}
use Rattle.bash2sh.proofs.BashCommands as from_bash

-- ---- states that agree

-- one scope, which sh's variables are, and no function
pub record Alike (a : bash.Own) (b : sh_own.Own) : Type 0 where
  pub inner : a.scopes.inner ≡ []
  pub vars : b.vars ≡ flattened a.scopes.bottom
  pub params : a.params ≡ b.params
  pub functions : b.functions ≡ []
  pub status : a.status ≡ b.status
  pub fds : a.fds ≡ b.fds

pub record Agrees (a : St bash.Own) (b : St sh_own.Own) : Type 0 where
  pub trace : a.trace ≡ b.trace
  pub outside : a.outside ≡ b.outside
  pub own : Alike a.own b.own

-- both end at once, under any number of turns, and agree again
pub record Meets (c : Do Signal bash.Own) (c' : Do Flow sh_own.Own) (a : St bash.Own) (b : St sh_own.Own) : Type 0 where
  pub end : St bash.Own
  pub also : St sh_own.Own
  pub ends : (n : ℕ) → c n a ≡ Ends bash_ends.Normal end n
  pub also_ends : (n : ℕ) → c' n b ≡ Ends sh_ends.Normal also n
  pub agrees : Agrees end also

pub record Does (c : Do Signal bash.Own) (c' : Do Flow sh_own.Own) : Type 0 where
  pub by : (a : St bash.Own) (b : St sh_own.Own) → Agrees a b → Meets c c' a b

-- ---- variables

abbrev one_scope : bash_vars.Scopes → bash_vars.Scopes
one_scope v = record { inner = []; bottom = v.bottom }

is_one : (v : bash_vars.Scopes) → v.inner ≡ [] → one_scope v ≡ v
is_one v e = ap (λ (i : List bash_vars.Scope). record { inner = i; bottom = v.bottom }) (sym e)

name_same : (a : bash.Own) (b : sh_own.Own) → Alike a b → (name : Text) → get_in b name ≡ get_of a name
name_same a b al name =
    ap (sh_vars.text_of name) al.vars ∙ text_same name a.scopes.bottom ∙ ap (bash_vars.text_of name) (is_one a.scopes al.inner)

get_same : (a : bash.Own) (b : sh_own.Own) → Alike a b → get_in b ≡ get_of a
get_same a b al = λ i name. name_same a b al name i

environments : (a : bash.Own) (b : sh_own.Own) → Alike a b → sh_vars.environment b.vars ≡ bash_vars.environment a.scopes
environments a b al =
    ap sh_vars.environment al.vars ∙ environment_same a.scopes.bottom ∙ ap bash_vars.environment (is_one a.scopes al.inner)

assign_bottom : (name t : Text) (v : bash_vars.Scopes) → v.inner ≡ [] → bash_vars.assign name t v ≡ record { inner = []; bottom = bash_vars.assigned_in name t v.bottom }
assign_bottom name t v e = ap (λ (i : List bash_vars.Scope). bash_vars.assign_from name t i v.bottom) e

-- ---- one assignment

new_same : (append : Bool) (name : Text) (v : Value) (a : bash.Own) (b : sh_own.Own) → Alike a b → new_bytes append (get_in b) name v ≡ bash.new_text append name (value_bytes (get_of a) v) a
new_same false name v a b al = ap (λ (get : Text → Text). value_bytes get v) (get_same a b al)
new_same true name v a b al = ap (λ (get : Text → Text). get name ++ value_bytes get v) (get_same a b al)

assigned_alike : (name t : Text) (a : St bash.Own) (b : St sh_own.Own) (append : Bool) (u : Text) → t ≡ bash.new_text append name u a.own → Agrees a b → Agrees (from_bash.assigned_state append name u a) (to_sh.assigned_state name t b)
assigned_alike name t a b append u is ag =
    let al = ag.own in
    let new : Text = bash.new_text append name u a.own in
    let e = assign_bottom name new a.own.scopes al.inner in
    record {
      trace = ag.trace;
      outside = ag.outside;
      own = record {
        inner = ap (λ (v : bash_vars.Scopes). v.inner) e;
        vars = ap (λ (x : Text). sh_vars.assign name x b.own.vars) is ∙ ap (sh_vars.assign name new) al.vars ∙ assigned_same name new a.own.scopes.bottom
            ∙ ap (λ (v : bash_vars.Scopes). flattened v.bottom) (sym e);
        params = al.params;
        functions = al.functions;
        status = refl;
        fds = al.fds;
      };
    }

-- ---- a call of the table

called_alike : (world : World) (argv : List Text) (a : St bash.Own) (b : St sh_own.Own) → Agrees a b → Agrees (from_bash.called_state world argv a) (to_sh.called_state world argv b)
called_alike world argv a b ag =
    let al = ag.own in
    let env = environments a.own b.own al in
    let e : from_bash.called_of world argv a ≡ to_sh.called_of world argv b = rw (env, al.fds, ag.trace, ag.outside) refl in
    record {
      trace = ap (λ (c : Called). c.trace) e;
      outside = ap (λ (c : Called). c.outside) e;
      own = record { inner = al.inner; vars = al.vars; params = al.params; functions = al.functions; status = ap (λ (c : Called). c.status) e; fds = al.fds };
    }

literal_part : (p : Part) → is_literal_part p ≡ true → part_form p ≡ true
literal_part (plain text) e = refl
literal_part (exact text) e = refl
literal_part (double ps) e = literal_quoted ps e
  where
    literal_quoted : (ps : Parts) → parts_form is_plain ps ≡ true → parts_form quoted_form ps ≡ true
    literal_quoted no_part e = refl
    literal_quoted (part (plain text) ps) e = literal_quoted ps e
    literal_quoted (part (exact text) ps) e = absurd cc
    literal_quoted (part (double qs) ps) e = absurd cc
    literal_quoted (part (param name) ps) e = absurd cc
literal_part (param name) e = absurd cc

-- a literal word is of the form of words
literal_word : (w : Parts) → is_literal w ≡ true → word_form w ≡ true
literal_word no_part e = refl
literal_word (part p ps) e = let y = both (is_literal_part p) (is_literal ps) e in rw (literal_part p y.0, literal_word ps y.1) refl

free_is_unknown : (name : Text) → is_free_command name ≡ true → is_known_command name ≡ false
free_is_unknown name e = (neither (is_known_command name) (is_reserved name) e).0

-- the calls of functions in Bash and in sh don't matter
module _ (z : Setting) (call : Calls Command bash.Own) (call' : sh_simple.Calls) (place : Place) where
  call_meets : (w : Parts) (ws : Words) → name_form w ≡ true → words_form ws ≡ true → words_spelled (word w ws) ≡ true → (a : St bash.Own) (b : St sh_own.Own) → Agrees a b
      → Meets (bash.command_run z.world call (simple no_assign (word w ws))) (sh.command_run z call' place (lower_command (simple no_assign (word w ws)))) a b
  call_meets w ws f g s a b ag =
      let y = both (is_literal w) (is_free_command (literal_text w)) f in
      let known = free_is_unknown (literal_text w) y.1 in
      let argv : List Text = all_bytes (get_of a.own) (word w ws) in
      let also_known : (get : Text → Text) → is_known_command (word_bytes get w) ≡ false = λ get. ap is_known_command (literal_bytes get w y.0) ∙ known in
      record {
        end = from_bash.called_state z.world argv a;
        also = to_sh.called_state z.world argv b;
        ends = λ n. from_bash.call_runs z.world call w ws (literal_word w y.0) g n a (also_known (get_of a.own));
        also_ends = λ n. to_sh.call_runs z call' place w ws (literal_word w y.0) g s y.0 known n b (also_known (get_in b.own)) ag.own.functions
            ∙ ap (λ (get : Text → Text). Ends sh_ends.Normal (to_sh.called_state z.world (all_bytes get (word w ws)) b) n) (get_same a.own b.own ag.own);
        agrees = called_alike z.world argv a b ag;
      }

  assign_meets : (name : Text) (append : Bool) (v : Value) → is_free_name name ≡ true → value_form v ≡ true → is_name name ≡ true → value_spelled v ≡ true → (a : St bash.Own) (b : St sh_own.Own) → Agrees a b
      → Meets (bash.command_run z.world call (simple (assign name append v no_assign) no_word)) (sh.command_run z call' place (lower_command (simple (assign name append v no_assign) no_word))) a b
  assign_meets name append v free f is g a b ag = record {
    end = from_bash.assigned_state append name (value_bytes (get_of a.own) v) a;
    also = to_sh.assigned_state name (new_bytes append (get_in b.own) name v) b;
    ends = λ n. from_bash.assign_runs z.world call name append v f n a;
    also_ends = λ n. to_sh.assign_runs z call' place name append v free is f g n b;
    agrees = assigned_alike name (new_bytes append (get_in b.own) name v) a b append (value_bytes (get_of a.own) v) (new_same append name v a.own b.own ag.own) ag;
  }

  command_does : (c : Command) → command_taken c ≡ true → Does (bash.command_run z.world call c) (sh.command_run z call' place (lower_command c))
  command_does (simple no_assign no_word) e = absurd cc
  command_does (simple no_assign (word w ws)) e =
      let y = both (name_form w && words_form ws) (words_spelled (word w ws)) e in
      let k = both (name_form w) (words_form ws) y.0 in
      record { by = call_meets w ws k.0 k.1 y.1 }
  command_does (simple (assign name append v no_assign) no_word) e =
      let y = both (is_free_name name && value_form v) (is_name name && value_spelled v) e in
      let k = both (is_free_name name) (value_form v) y.0 in
      let l = both (is_name name) (value_spelled v) y.1 in
      record { by = assign_meets name append v k.0 k.1 l.0 l.1 }
  command_does (simple (assign name append v no_assign) (word w ws)) e = absurd cc
  command_does (simple (assign name append v (assign name' append' v' more)) ws) e = absurd cc

  alone_does : (c : Command) → command_taken c ≡ true → Does (bash.chain_run z.world call (chain (pipeline false (stage c no_stage)) no_link)) (sh.chain_run z call' place (lower_chain (chain (pipeline false (stage c no_stage)) no_link)))
  alone_does c e = record {
    by = λ a b ag.
        let m = (command_does c e).by a b ag in
        record { end = m.end; also = m.also; ends = λ n. rw (m.ends n) refl; also_ends = λ n. rw (m.also_ends n) refl; agrees = m.agrees };
  }

  chain_does : (c : Chain) → chain_taken c ≡ true → Does (bash.chain_run z.world call c) (sh.chain_run z call' place (lower_chain c))
  chain_does (chain (pipeline false (stage c no_stage)) no_link) e = alone_does c e
  chain_does (chain (pipeline false no_stage) ls) e = absurd cc
  chain_does (chain (pipeline false (stage c (stage d ds))) ls) e = absurd cc
  chain_does (chain (pipeline false (stage c no_stage)) (and_link p ls)) e = absurd cc
  chain_does (chain (pipeline false (stage c no_stage)) (or_link p ls)) e = absurd cc
  chain_does (chain (pipeline true ss) ls) e = absurd cc

  pub script_does : (s : Script) → script_taken s ≡ true → Does (bash.script_run z.world call s) (sh.script_run z call' place (lower s))
  script_does no_item e = record { by = λ a b ag. record { end = a; also = b; ends = λ n. refl; also_ends = λ n. refl; agrees = ag } }
  script_does (item c more) e = record {
    by = λ a b ag.
        let y = both (chain_taken c) (script_taken more) e in
        let m = (chain_does c y.0).by a b ag in
        let k = (script_does more y.1).by m.end m.also m.agrees in
        record { end = k.end; also = k.also; ends = λ n. rw (m.ends n) (k.ends n); also_ends = λ n. rw (m.also_ends n) (k.also_ends n); agrees = k.agrees };
  }
  script_does (background_item c more) e = absurd cc
