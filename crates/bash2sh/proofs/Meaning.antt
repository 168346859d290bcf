-- What a script of this form is lowered to has the same meaning.
use Rattle.std.proofs.Common.{◌≡◌, ℕ, true, refl, sym, ap, ◌∙◌, codes}
use Rattle.shell_world.specs.declared.world.World.{World}
use Rattle.shell_world.specs.Outside.{Trace}
use Rattle.shell_world.specs.Runs.{St}
use Rattle.shell_world.specs.World.{start_ifs}
use Rattle.shell_world.specs.declared.world.End.TheVariants as end
use Rattle.shell_world.specs.Ends.{Outcome, Ended, Going, Unknown, outcome}
use Rattle.shell_runs.specs.Ends as sh_ends
use Rattle.bash_tree.specs.Shape.{Script}
use Rattle.bash_meaning.specs.Meaning as bash
use Rattle.sh_meaning.specs.Own.{Own, status_of}
use Rattle.sh_meaning.specs.Commands.{script_run, level, in_shell_place}
use Rattle.sh_meaning.specs.Running as sh
use Rattle.bash2sh.specs.Lower.{lower}
use Rattle.bash2sh.specs.SameMeaning.{SameMeaning}
use Rattle.bash2sh.proofs.Spelled.{script_taken}
use Rattle.bash2sh.proofs.Variables.{start_same}
use Rattle.bash2sh.proofs.Lowered.{Agrees, Meets, script_does}

start_agrees : (world : World) → Agrees (bash.start world) (sh.start world)
start_agrees world = record { trace = refl; outside = refl; own = record { inner = refl; vars = start_same world.env (codes "IFS") start_ifs; params = refl; functions = refl; status = refl; fds = refl } }

abbrev bash_status : bash.Own → ℕ
bash_status o = o.status

abbrev ended : St bash.Own → Outcome
ended a = Ended a.trace a.outside.files a.own.status

same_end : (a : St bash.Own) (b : St Own) → Agrees a b → Ended b.trace b.outside.files b.own.status ≡ ended a
same_end a b ag = rw (ag.trace, ag.outside, ag.own.status) refl

module _ (s : Script) (taken : script_taken s ≡ true) (world : World) where
  meets : (d : ℕ) → Meets (bash.script_run world (bash.level world d) s) (script_run (sh.setting world (lower s)) (level (sh.setting world (lower s)) d) in_shell_place (lower s)) (bash.start world) (sh.start world)
  meets d = (script_does (sh.setting world (lower s)) (bash.level world d) (level (sh.setting world (lower s)) d) in_shell_place s taken).by (bash.start world) (sh.start world) (start_agrees world)

  bash_ends : (t d : ℕ) → bash.run world s t d ≡ ended (meets d).end
  bash_ends t d = ap (outcome bash_status) ((meets d).ends t)

  sh_ends_so : (t d : ℕ) → sh.run world (lower s) t d ≡ ended (meets d).end
  sh_ends_so t d = ap (sh_ends.outcome status_of) ((meets d).also_ends t) ∙ same_end (meets d).end (meets d).also (meets d).agrees

  -- under any bounds both end, and equally
  same : (t d : ℕ) → sh.run world (lower s) t d ≡ bash.run world s t d
  same t d = sh_ends_so t d ∙ sym (bash_ends t d)

  bash_goes : (t d : ℕ) (trace : Trace) → bash.run world s t d ≡ Going trace → ⊥
  bash_goes t d trace e = let k : ended (meets d).end ≡ Going trace = sym (bash_ends t d) ∙ e in cc

  sh_goes : (t d : ℕ) (trace : Trace) → sh.run world (lower s) t d ≡ Going trace → ⊥
  sh_goes t d trace e = let k : ended (meets d).end ≡ Going trace = sym (sh_ends_so t d) ∙ e in cc

  sh_unknown : (t d : ℕ) (trace : Trace) → sh.run world (lower s) t d ≡ Unknown trace → ⊥
  sh_unknown t d trace e = let k : ended (meets d).end ≡ Unknown trace = sym (sh_ends_so t d) ∙ e in cc

pub same_meaning : (s : Script) → script_taken s ≡ true → SameMeaning s (lower s)
same_meaning s e = record {
  ends = λ w good t d out fs st is. (t, d, same s e w t d ∙ is);
  ends_only = λ w good t d out fs st is. (t, d, sym (same s e w t d) ∙ is);
  goes_on = λ w good t d out is. absurd (bash_goes s e w t d out is);
  goes_on_only = λ w good t d out is. absurd (sh_goes s e w t d out is);
  specified = λ w good t d out is. sh_unknown s e w t d out is;
}

-- a run of a script of the form always has a meaning
pub bash_specified : (world : World) (s : Script) → script_taken s ≡ true → (bash.report world s).«end» ≡ end.Unspecified → ⊥
bash_specified world s taken e =
    let m = meets s taken world world.bounds.depth in
    let k = rw (m.ends world.bounds.turns) at e in
    cc
