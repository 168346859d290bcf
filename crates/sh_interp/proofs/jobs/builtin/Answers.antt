use Rattle.std.proofs.Common.{◌≡◌, ◌-◌, List, ◌∷◌, map, drop, length, subst, take}
use Rattle.std.specs.Prelude.{Err}
use Rattle.std.proofs.lemmas.Result.{err_from_is_err_and}
use Rattle.shell_world.specs.Texts.{Text}
use Rattle.sh_syntax.specs.View.{view_word, words_of}
use Rattle.sh_builtins.specs.Views.{Runs, flow_of, place_of}
use Rattle.sh_meaning.specs.builtins.Forms.{Form}
use Rattle.sh_meaning.specs.builtins.Run.{builtin_run}
use Rattle.sh_frames.specs.Turns.{builtin_by}
use Rattle.sh_interp.specs.declared.shell.Shell.{Shell}
use Rattle.sh_interp.specs.Answers.{Does}
use Rattle.sh_interp.specs.Views.{halt_of, setting_of, state_of, whole_of}
use Rattle.sh_interp.proofs.Firsts.{onto_first}
use Rattle.sh_interp.proofs.Turning.{stopped}
use Rattle.sh_interp.proofs.jobs.builtin.Goals as goal

pub returns-in_err-run_builtin : goal.returns-in_err-run_builtin
returns-in_err-run_builtin c =
    let p = err_from_is_err_and c.from_residual-in_err-run_builtin.result c.from_residual-in_err-run_builtin.ensures.1 in
    let place = place_of c.args.place in
    let old : Shell = c.args.shell.now in
    let new : Shell = record old { own = record { env = c.run_builtin.new.env; functions = old.own.functions }; outside = c.run_builtin.new.outside } in
    let functions = (whole_of old.own).functions in
    let form : List Text → Form = λ names. record { functions = (setting_of c.args.setting.now).functions; prefix = names; words = words_of (map view_word c.args.words.now) } in
    let s = c.in_err-run_builtin.field-0.0 in
    let argv = c.args.argv.now in
    let name = c.name-item.result in
    let rest = take (length argv - 1) (drop 1 argv) in
    rw (p.1, p.2)
    (subst (λ (names : List Text). Does flow_of (builtin_by place (form names) argv) old new (Err (halt_of s))) c.in_ok-prefix.ensures
    (onto_first (λ (texts : List Text). Does flow_of (builtin_by place (form c.in_ok-prefix.prefix) texts) old new (Err (halt_of s))) argv name c.in-len1-up.len_at_least c.name-item.is
    (stopped (builtin_by place (form c.in_ok-prefix.prefix) (name ∷ rest)) functions old new c.run_builtin.new.env s
    (subst (λ (text : Text). Runs functions (builtin_run place (form c.in_ok-prefix.prefix) text rest old.turns (state_of old)) old.turns old.outside c.run_builtin.new.env new.outside (Err s)) c.bytes.ensures
    (subst (λ (names : List Text). Runs functions (builtin_run place (form names) c.bytes.result.now rest old.turns (state_of old)) old.turns old.outside c.run_builtin.new.env new.outside (Err s)) c.as_slice.ensures
    (c.in_err-run_builtin.ensures.runs functions old.turns)))
    c.in_err-run_builtin.ensures.kept)))
