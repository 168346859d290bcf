-- The law of bounds for the steps of simple commands.
use Rattle.std.proofs.Common.{List, [], ◌∷◌, Bool, true, false}
use Rattle.shell_world.specs.declared.world.World.{World}
use Rattle.shell_world.specs.Texts.{Text, lookup}
use Rattle.shell_world.specs.Runs.{Do}
use Rattle.shell_world.proofs.Records.{called_grows}
use Rattle.shell_runs.specs.Flow.{Flow, Normal}
use Rattle.shell_runs.specs.Redirecting.{Made}
use Rattle.shell_runs.specs.Bounds.{Under}
use Rattle.shell_runs.proofs.Monotone.{under_after, under_ends, under_own, under_unspecified, under_choose, under_by}
use Rattle.shell_runs.proofs.Combined.{under_flow, under_now, under_call}
use Rattle.sh_grammar.specs.Shape.{Parts, Command}
use Rattle.sh_meaning.specs.Variables.{environment}
use Rattle.sh_meaning.specs.Own.{Own, with_status, assigned, with_arguments, parameters_back}
use Rattle.sh_meaning.specs.Expanded.{Expanded, text_of}
use Rattle.sh_meaning.specs.Expanding.{Fielded, Arguments}
use Rattle.sh_meaning.specs.builtins.Export.{is_export_operand}
use Rattle.sh_meaning.specs.builtins.Forms.{Form}
use Rattle.sh_meaning.specs.builtins.Places.{Place}
use Rattle.sh_meaning.specs.Simple.{Setting, Calls, Role, Name, Argument, Export, word_over, word_fits, fitting_run, word_run, assigned_over, assigned_run, nameless_over, nameless_run, Saved, exported, prefix_over, prefix_value, restored, prefix_back, command_over, prefixed, external_run, Found, Special, Builtin, Function, External, Foreign, found, call_run, found_run, simple_by, simple_over}
use Rattle.sh_meaning.proofs.Steps.{checked_under, fields_over_under, operand_field_under, failed_under, around_under}
use Rattle.sh_meaning.proofs.Grown.{builtin_under}

word_over_under : (role : Role) (w : Parts) (done : Fielded) (e : Expanded) → Under (word_over role w done e) (word_over role w done e)
word_over_under Name w done e = fields_over_under done e
word_over_under Argument w done e = fields_over_under done e
word_over_under Export w done e = under_choose (is_export_operand w) _ _ _ _ (operand_field_under done e) (fields_over_under done e)

fitting_under : (role : Role) (w : Parts) (done : Fielded) (a b : Do Expanded Own) → Under a b → Under (fitting_run role w done a) (fitting_run role w done b)
fitting_under role w done a b u = under_after a b _ _ u (word_over_under role w done)

pub word_under : (role : Role) (w : Parts) (done : Fielded) (a b : Do Expanded Own) → Under a b → Under (word_run role w done a) (word_run role w done b)
word_under role w done a b u = checked_under w _ _ (under_choose (word_fits role w) _ _ _ _ (fitting_under role w done a b u) under_unspecified)

-- ---- assignments

assigned_over_under : (name : Text) (e : Expanded) → Under (assigned_over name e) (assigned_over name e)
assigned_over_under name e = under_own (λ s. e.ran) (λ s. assigned name (text_of e) s.own)

pub assigned_under : (name : Text) (v w : Do Expanded Own) → Under v w → Under (assigned_run name v) (assigned_run name w)
assigned_under name v w u = under_after v w _ _ u (assigned_over_under name)

nameless_over_under : (ran : Bool) → Under (nameless_over ran) (nameless_over ran)
nameless_over_under true = under_flow Normal
nameless_over_under false = under_now (with_status 0)

nameless_under : (a b : Bool → Do Bool Own) → ((ran : Bool) → Under (a ran) (b ran)) → (ran : Bool) → Under (nameless_run a ran) (nameless_run b ran)
nameless_under a b u ran = under_after (a ran) (b ran) _ _ (u ran) nameless_over_under

prefix_over_under : (name : Text) (saved : Saved) (e : Expanded) → Under (prefix_over name saved e) (prefix_over name saved e)
prefix_over_under name saved e = under_own (λ s. (name, lookup name s.own.vars) ∷ saved) (λ s. exported name (text_of e) s.own)

pub prefix_value_under : (name : Text) (saved : Saved) (v w : Do Expanded Own) → Under v w → Under (prefix_value name saved v) (prefix_value name saved w)
prefix_value_under name saved v w u = under_after v w _ _ u (prefix_over_under name saved)

prefix_back_under : (saved : Saved) (flow : Flow) → Under (prefix_back saved flow) (prefix_back saved flow)
prefix_back_under saved flow = under_own (λ s. flow) (λ s. record s.own { vars = restored saved s.own.vars })

command_over_under : (c d : Do Flow Own) → Under c d → (saved : Saved) → Under (command_over c saved) (command_over d saved)
command_over_under c d u saved = under_after c d _ _ u (prefix_back_under saved)

prefixed_under : (p q : Do Saved Own) (c d : Do Flow Own) → Under p q → Under c d → Under (prefixed p c) (prefixed q d)
prefixed_under p q c d u v = under_after p q _ _ u (command_over_under c d v)

-- ---- commands

external_under : (world : World) (argv : List Text) → Under (external_run world argv) (external_run world argv)
external_under world argv = under_ends (λ s. Normal) _ (λ s. called_grows world argv (environment s.own.vars) s.own.fds s.trace s.outside)

call_under : (c d : Calls) → ((k : Command) → Under (c k) (d k)) → (body : Command) (args : List Text) → Under (call_run c body args) (call_run d body args)
call_under c d u body args = under_call (with_arguments args) parameters_back (c body) (d body) (u body)

module _ (z : Setting) (c d : Calls) (uc : (k : Command) → Under (c k) (d k)) (place : Place) (form : Form) (led : Bool) where
  found_under : (r r' : Do (Made Bool) Own) (p p' : Do Saved Own) → Under r r' → Under p p' → (name : Text) (args : List Text) (f : Found) → Under (found_run z c place form r p led name args f) (found_run z d place form r' p' led name args f)
  found_under r r' p p' ur up name args Special = under_choose led _ _ _ _ under_unspecified (around_under r r' _ _ _ _ ur (λ b. builtin_under place form name args) under_unspecified)
  found_under r r' p p' ur up name args Builtin = around_under r r' _ _ _ _ ur (λ b. prefixed_under p p' _ _ up (builtin_under place form name args)) (failed_under z.world)
  found_under r r' p p' ur up name args (Function body) = under_choose led _ _ _ _ under_unspecified (around_under r r' _ _ _ _ ur (λ b. call_under c d uc body args) (failed_under z.world))
  found_under r r' p p' ur up name args External = around_under r r' _ _ _ _ ur (λ b. prefixed_under p p' _ _ up (external_under z.world (name ∷ args))) (failed_under z.world)
  found_under r r' p p' ur up name args Foreign = under_unspecified

  module _ (rs rs' : Bool → Do (Made Bool) Own) (as' bs' : Bool → Do Bool Own) (p p' : Do Saved Own) (ur : (b : Bool) → Under (rs b) (rs' b)) (ua : (b : Bool) → Under (as' b) (bs' b)) (up : Under p p') where
    simple_by_under : (texts : List Text) (ran : Bool) → Under (simple_by z c place form rs as' p led texts ran) (simple_by z d place form rs' bs' p' led texts ran)
    simple_by_under [] ran = around_under (rs ran) (rs' ran) _ _ _ _ (ur ran) (nameless_under as' bs' ua) (failed_under z.world)
    simple_by_under (name ∷ args) ran =
        under_by (λ s. found_run z c place form (rs ran) p led name args (found name s.own)) (λ s. found_run z d place form (rs' ran) p' led name args (found name s.own))
        (λ s. found_under (rs ran) (rs' ran) p p' (ur ran) up name args (found name s.own))

    pub simple_under : (a : Arguments) → Under (simple_over z c place form rs as' p led a) (simple_over z d place form rs' bs' p' led a)
    simple_under a = simple_by_under a.texts a.ran
