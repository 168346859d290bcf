-- The law of bounds for each step of expanding a word, of a redirection, and of a simple command.
use Rattle.std.proofs.Common.{ℕ, List, [], ◌∷◌, ◌++◌, ◌==◌, ◌||◌, Bool, true, false, Option, Some, None, is_some, length, ℤ}
use Rattle.std.specs.Prelude.{decimal, ◌-◌}
use Rattle.span_text.specs.declared.expr.Expr.{Expr}
use Rattle.glob_pattern.specs.declared.sign.Use.TheVariants as use_of
use Rattle.glob_pattern.specs.Reading.{doubt_of}
use Rattle.shell_world.specs.declared.world.World.{World}
use Rattle.shell_world.specs.Texts.{Text}
use Rattle.shell_world.specs.Opening.{text_opened}
use Rattle.shell_world.specs.Runs.{Do, choose}
use Rattle.shell_runs.specs.Flow.{Flow}
use Rattle.shell_runs.specs.Sequences.{unspecified}
use Rattle.shell_runs.specs.Redirecting.{Made}
use Rattle.shell_runs.specs.Bounds.{Under}
use Rattle.shell_runs.proofs.Monotone.{under_from, under_after, under_is, under_own, under_unspecified, under_choose, under_by}
use Rattle.shell_runs.proofs.Combined.{under_now, under_opened, under_copied, under_closed, under_redirected, under_bracketed}
use Rattle.sh_grammar.specs.Shape.{Param, named, digits, count, status, at, star, FillTest, default, assigning, alternate, RedirectOp, read, write, append, here_literal, here_expanded, copy_in, copy_out, Parts}
use Rattle.sh_meaning.specs.Own.{Own, fds_of, with_fds, with_status, assigned}
use Rattle.sh_meaning.specs.Modes.{Mode, Listing, Members, Joined, Nowhere, listing_at, listing_star}
use Rattle.sh_meaning.specs.Expanded.{Expanded, with_plain, with_value, with_ran, is_unclear, fields_of, text_of}
use Rattle.sh_meaning.specs.Arithmetic.{Sum, evaluated, operand_number}
use Rattle.sh_meaning.specs.Parameters.{parameter, parameter_text, home, ifs, is_lacking, has_length, can_trim}
use Rattle.sh_meaning.specs.Lists.{is_list, has_crowded_lists}
use Rattle.sh_meaning.specs.Pathnames.{texts_of}
use Rattle.sh_meaning.specs.Expanding.{is, Where, plain_is_clear, plain_run, quoted_over, home_of, tilde_run, subst_over, listed_run, param_run, length_run, assigning_over, assigning_run, nothing_run, is_misassigned, filled_run, fill_run, trim_over, trimmed_run, trim_run, Operands, with_number, operand_over, operand_run, sum_is, sum_over, checked, Fielded, fields_over, operand_field_over, arguments_of, pathnames_over, pattern_over, pattern_run, if_unmatched}
use Rattle.sh_meaning.specs.Redirecting.{opened_by, redirect_over, worded_run, literal_run, copy_run, redirect_run, failed_run, around, plain_text}

pub is_under : {X : Type 0} (x : X) → Under (is x) (is x)
is_under x = under_is (λ s. x)

-- ---- parts

pub plain_under : (mode : Mode) (place : Where) (text : Text) (e : Expanded) → Under (plain_run mode place text e) (plain_run mode place text e)
plain_under mode place text e = under_choose (plain_is_clear mode place text) _ _ _ _ (is_under (with_plain mode text e)) under_unspecified

pub quoted_over_under : (e : Expanded) → Under (quoted_over e) (quoted_over e)
quoted_over_under e = under_is _

home_under : (text : Option Text) (e : Expanded) → Under (home_of text e) (home_of text e)
home_under None e = under_unspecified
home_under (Some text) e = under_is _

pub tilde_under : (e : Expanded) → Under (tilde_run e) (tilde_run e)
tilde_under e = under_by (λ s. home_of (home s.own) e) (λ s. home_of (home s.own) e) (λ s. home_under (home s.own) e)

pub subst_over_under : (mode : Mode) (e : Expanded) (text : Text) → Under (subst_over mode e text) (subst_over mode e text)
subst_over_under mode e text = under_is _

listed_under : (l : Listing) (mode : Mode) (e : Expanded) → Under (listed_run l mode e) (listed_run l mode e)
listed_under Members mode e = under_is _
listed_under Joined mode e = under_is _
listed_under Nowhere mode e = under_unspecified

pub param_under : (mode : Mode) (p : Param) (e : Expanded) → Under (param_run mode p e) (param_run mode p e)
param_under mode (named name) e = under_is _
param_under mode (digits text) e = under_is _
param_under mode count e = under_is _
param_under mode status e = under_is _
param_under mode at e = listed_under (listing_at mode) mode e
param_under mode star e = listed_under (listing_star mode) mode e

pub length_under : (mode : Mode) (p : Param) (e : Expanded) → Under (length_run mode p e) (length_run mode p e)
length_under mode p e = under_by (λ s. choose (has_length p) (is (with_value mode (decimal (length (parameter_text p s.own))) e)) unspecified) _
    (λ s. under_choose (has_length p) _ _ _ _ (is_under (with_value mode (decimal (length (parameter_text p s.own))) e)) under_unspecified)

assigning_over_under : (mode : Mode) (name : Text) (e w : Expanded) → Under (assigning_over mode name e w) (assigning_over mode name e w)
assigning_over_under mode name e w = under_own _ (λ s. assigned name (text_of w) s.own)

assigning_under : (mode : Mode) (p : Param) (w w' : Do Expanded Own) → Under w w' → (e : Expanded) → Under (assigning_run mode p w e) (assigning_run mode p w' e)
assigning_under mode (named name) w w' u e = under_after w w' _ _ u (assigning_over_under mode name e)
assigning_under mode (digits text) w w' u e = under_unspecified
assigning_under mode count w w' u e = under_unspecified
assigning_under mode status w w' u e = under_unspecified
assigning_under mode at w w' u e = under_unspecified
assigning_under mode star w w' u e = under_unspecified

nothing_under : (mode : Mode) (e : Expanded) → Under (nothing_run mode e) (nothing_run mode e)
nothing_under mode e = under_is _

filled_under : (test : FillTest) (lacking : Bool) (mode : Mode) (p : Param) (a a' b b' : Do Expanded Own) → Under a a' → Under b b' → (e : Expanded) → Under (filled_run test lacking mode p a b e) (filled_run test lacking mode p a' b' e)
filled_under default lacking mode p a a' b b' u v e = under_choose lacking _ _ _ _ u (param_under mode p e)
filled_under alternate lacking mode p a a' b b' u v e = under_choose lacking _ _ _ _ (nothing_under mode e) u
filled_under assigning lacking mode p a a' b b' u v e = under_choose lacking _ _ _ _ (assigning_under mode p b b' v e) (param_under mode p e)

pub fill_under : (test : FillTest) (colon : Bool) (mode : Mode) (p : Param) (a a' b b' : Do Expanded Own) → Under a a' → Under b b' → (e : Expanded) → Under (fill_run test colon mode p a b e) (fill_run test colon mode p a' b' e)
fill_under test colon mode p a a' b b' u v e = under_by (λ s. choose (is_list p || is_misassigned test p) unspecified (filled_run test (is_lacking colon (parameter p s.own)) mode p a b e)) (λ s. choose (is_list p || is_misassigned test p) unspecified (filled_run test (is_lacking colon (parameter p s.own)) mode p a' b' e))
    (λ s. under_choose (is_list p || is_misassigned test p) _ _ _ _ under_unspecified (filled_under test (is_lacking colon (parameter p s.own)) mode p a a' b b' u v e))

trim_over_under : (mode : Mode) (suffix longest : Bool) (text : Text) (e w : Expanded) → Under (trim_over mode suffix longest text e w) (trim_over mode suffix longest text e w)
trim_over_under mode suffix longest text e w = under_choose (is_some (doubt_of use_of.Text w.now)) _ _ _ _ under_unspecified (is_under _)

trimmed_under : (mode : Mode) (suffix longest : Bool) (p : Param) (w w' : Do Expanded Own) → Under w w' → (e : Expanded) → Under (trimmed_run mode suffix longest p w e) (trimmed_run mode suffix longest p w' e)
trimmed_under mode suffix longest p w w' u e = under_from w w' (λ s. trim_over mode suffix longest (parameter_text p s.own) e) (λ s. trim_over mode suffix longest (parameter_text p s.own) e) u (λ s. trim_over_under mode suffix longest (parameter_text p s.own) e)

pub trim_under : (mode : Mode) (suffix longest : Bool) (p : Param) (w w' : Do Expanded Own) → Under w w' → (e : Expanded) → Under (trim_run mode suffix longest p w e) (trim_run mode suffix longest p w' e)
trim_under mode suffix longest p w w' u e = under_choose (can_trim p) _ _ _ _ (trimmed_under mode suffix longest p w w' u e) under_unspecified

-- ---- arithmetic

with_number_under : (ran : Bool) (k : Option ℤ) (ns : Operands) → Under (with_number ran k ns) (with_number ran k ns)
with_number_under ran None ns = under_unspecified
with_number_under ran (Some k) ns = under_is _

operand_over_under : (signs : List ℕ) (ns : Operands) (e : Expanded) → Under (operand_over signs ns e) (operand_over signs ns e)
operand_over_under signs ns e = with_number_under e.ran (operand_number signs (length ns.numbers) (text_of e)) ns

pub operand_under : (signs : List ℕ) (ns : Operands) (w w' : Do Expanded Own) → Under w w' → Under (operand_run signs ns w) (operand_run signs ns w')
operand_under signs ns w w' u = under_after w w' _ _ u (operand_over_under signs ns)

sum_is_under : (mode : Mode) (e : Expanded) (x : Sum) → Under (sum_is mode e x) (sum_is mode e x)
sum_is_under mode e None = under_unspecified
sum_is_under mode e (Some x) = under_own _ (λ s. record s.own { vars = x.1 })

pub sum_over_under : (mode : Mode) (x : Expr) (e : Expanded) (ns : Operands) → Under (sum_over mode x e ns) (sum_over mode x e ns)
sum_over_under mode x e ns = under_by (λ s. sum_is mode (with_ran ns.ran e) (evaluated x ns.numbers s.own.vars)) _ (λ s. sum_is_under mode (with_ran ns.ran e) (evaluated x ns.numbers s.own.vars))

-- ---- words

pub checked_under : {X : Type 0} (w : Parts) (a b : Do X Own) → Under a b → Under (checked w a) (checked w b)
checked_under w a b u = under_choose (has_crowded_lists w) _ _ _ _ under_unspecified u

pub fields_over_under : (done : Fielded) (e : Expanded) → Under (fields_over done e) (fields_over done e)
fields_over_under done e = under_by (λ s. choose (is_unclear e) unspecified (is (record { fields = done.fields ++ fields_of (ifs s.own) e; ran = e.ran }))) _
    (λ s. under_choose (is_unclear e) _ _ _ _ under_unspecified (is_under _))

pub operand_field_under : (done : Fielded) (e : Expanded) → Under (operand_field_over done e) (operand_field_over done e)
operand_field_under done e = under_is _

arguments_under : (ran : Bool) (texts : Option (List Text)) → Under (arguments_of ran texts) (arguments_of ran texts)
arguments_under ran None = under_unspecified
arguments_under ran (Some texts) = under_is _

pub pathnames_under : (f : Fielded) → Under (pathnames_over f) (pathnames_over f)
pathnames_under f = under_by (λ s. arguments_of f.ran (texts_of s.outside.files f.fields)) _ (λ s. arguments_under f.ran (texts_of s.outside.files f.fields))

pattern_over_under : (text : Text) (e : Expanded) → Under (pattern_over text e) (pattern_over text e)
pattern_over_under text e = under_choose (is_some (doubt_of use_of.Text e.now)) _ _ _ _ under_unspecified (is_under _)

pub pattern_under : (text : Text) (w w' : Do Expanded Own) → Under w w' → Under (pattern_run text w) (pattern_run text w')
pattern_under text w w' u = under_after w w' _ _ u (pattern_over_under text)

pub unmatched_under : (k k' : Do Bool Own) → Under k k' → (b : Bool) → Under (if_unmatched k b) (if_unmatched k' b)
unmatched_under k k' u true = under_is (λ s. true)
unmatched_under k k' u false = u

-- ---- redirections

redirect_over_under : (fd : ℕ) (op : RedirectOp) (e : Expanded) → Under (redirect_over fd op e) (redirect_over fd op e)
redirect_over_under fd op e = under_opened fds_of with_fds e.ran fd (λ s. opened_by op (text_of e) s.outside)

worded_under : (fd : ℕ) (op : RedirectOp) (w w' : Do Expanded Own) → Under w w' → Under (worded_run fd op w) (worded_run fd op w')
worded_under fd op w w' u = under_after w w' _ _ u (redirect_over_under fd op)

literal_under : (ran : Bool) (fd : ℕ) (text : Text) → Under (literal_run ran fd text) (literal_run ran fd text)
literal_under ran fd text = under_opened fds_of with_fds ran fd (λ s. text_opened text s.outside)

copy_under : (ran : Bool) (fd : ℕ) (text : Text) → Under (copy_run ran fd text) (copy_run ran fd text)
copy_under ran fd [] = under_closed fds_of with_fds ran fd
copy_under ran fd (b ∷ bs) = under_choose (b == 45) _ _ _ _ (under_closed fds_of with_fds ran fd) (under_copied fds_of with_fds ran fd (b - 48))

pub redirect_under : (ran : Bool) (fd : ℕ) (op : RedirectOp) (ps : Parts) (w w' : Do Expanded Own) → Under w w' → Under (redirect_run ran fd op ps w) (redirect_run ran fd op ps w')
redirect_under ran fd read ps w w' u = worded_under fd read w w' u
redirect_under ran fd write ps w w' u = worded_under fd write w w' u
redirect_under ran fd append ps w w' u = worded_under fd append w w' u
redirect_under ran fd here_expanded ps w w' u = worded_under fd here_expanded w w' u
redirect_under ran fd here_literal ps w w' u = literal_under ran fd (plain_text ps)
redirect_under ran fd copy_in ps w w' u = copy_under ran fd (plain_text ps)
redirect_under ran fd copy_out ps w w' u = copy_under ran fd (plain_text ps)

pub failed_under : (world : World) → Under (failed_run world) (failed_run world)
failed_under world = under_now (with_status world.latitude.redirect)

pub around_under : (r r' : Do (Made Bool) Own) (k k' : Bool → Do Flow Own) (f f' : Do Flow Own) → Under r r' → ((b : Bool) → Under (k b) (k' b)) → Under f f' → Under (around r k f) (around r' k' f')
around_under r r' k k' f f' ur uk uf = under_bracketed fds_of with_fds _ _ (under_redirected r r' k k' f f' ur uk uf)
