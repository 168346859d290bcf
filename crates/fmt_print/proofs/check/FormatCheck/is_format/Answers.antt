use Rattle.std.proofs.Common.{◌≡◌, true, inl, inr, [], sym, ap, ◌∙◌}
use Rattle.fmt_print.specs.Check.{accepts_in}
use Rattle.fmt_print.specs.declared.check.State.{State}
use Rattle.fmt_print.proofs.Checks.{whole_none}
use Rattle.fmt_print.proofs.check.FormatCheck.is_format.Goals as goal

pub returns-in-Start : goal.returns-in-Start
returns-in-Start c =
    let whole : (state : State) → true ≡ accepts_in state [] → c.args.self.now.state ≡ state → true ≡ accepts_in c.args.self.now.state [] = λ state e is. e ∙ ap (λ s. accepts_in s []) (sym is) in
    elim c.in-Start.is [ inl e ↦ whole _ (sym whole_none) e | inr e ↦ whole _ (sym whole_none) e ]
