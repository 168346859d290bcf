-- The view of an assignment's value, of which there is one kind.
use Rattle.std.proofs.Common.{◌≡◌, sym, ap, ◌∙◌, refl}
use Rattle.std.specs.Prelude.{option_map}
use borrow.Enum.Known.{ValuesAt}
use borrow.Enum.Total.{pick_at, values_d}
use denote.Enum.Declared.{Choice}
use mathlib.Core.Logic.{inl, inr}
use Rattle.sh_syntax.specs.contracts.tree.AssignValue.{enum}
use Rattle.sh_syntax.specs.declared.tree.AssignValue.{AssignValue}
use Rattle.sh_syntax.specs.declared.tree.AssignValue.TheVariants as value'
use Rattle.sh_syntax.specs.View.{view_value, view_word, value_of}
use Rattle.sh_syntax.proofs.Views.{value_is}

made_at : (c : Choice enum.parts) (other : ValuesAt enum.parts 0) → enum.make c ≡ value'.Word (pick_at enum.parts 0 c other).0
made_at (inl xs) other = refl
made_at (inr e) other = absurd e

pub value_view : (other : ValuesAt enum.parts 0) (v : AssignValue) → view_value v ≡ value_of (option_map view_word (values_d enum 0 other v).0)
value_view other v = ap view_value (sym (enum.eta v) ∙ made_at (enum.as_values v) other) ∙ value_is (values_d enum 0 other v).0
