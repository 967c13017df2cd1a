-- The forms of the code, as the definitions see them.
use Rattle.std.specs.Prelude.{Bool, false, Option, None, Some, not}
use Rattle.sig_base.specs.declared.ids.Kind.{Kind}
use Rattle.sig_tree.specs.Kinds.{FormRow, row, OperandRule, Integers as MustBeIntegers, Truths as MustBeTruths, Alike as MustBeAlike, AnyThenTruth as MustHaveTruth, Any as MayBeAny, ResultRule, Always as IsAlways, OfFirst as IsOfFirst, Stored as IsStored, Merged as IsMerged, ConstantRule, NoConstant as TakesNone, OneConstant as TakesOne, FirstConstant as TakesFirst, accepts}
use Rattle.sig_kinds.specs.declared.forms.OperandRule.{OperandRule as CodeOperandRule}
use Rattle.sig_kinds.specs.declared.forms.OperandRule.TheVariants.{Integers, Truths, Alike, AnyThenTruth, Any}
use Rattle.sig_kinds.specs.declared.forms.ResultRule.{ResultRule as CodeResultRule}
use Rattle.sig_kinds.specs.declared.forms.ResultRule.TheVariants.{Always, OfFirst, Stored, Merged}
use Rattle.sig_kinds.specs.declared.forms.ConstantRule.{ConstantRule as CodeConstantRule}
use Rattle.sig_kinds.specs.declared.forms.ConstantRule.TheVariants.{NoConstant, OneConstant, FirstConstant}
use Rattle.sig_kinds.specs.declared.forms.Form.{Form}

abbrev pub operand_rule_in : CodeOperandRule → OperandRule
operand_rule_in Integers = MustBeIntegers
operand_rule_in Truths = MustBeTruths
operand_rule_in Alike = MustBeAlike
operand_rule_in AnyThenTruth = MustHaveTruth
operand_rule_in Any = MayBeAny

abbrev pub result_rule_in : CodeResultRule → ResultRule
result_rule_in (Always kind) = IsAlways kind
result_rule_in OfFirst = IsOfFirst
result_rule_in Stored = IsStored
result_rule_in Merged = IsMerged

abbrev pub constant_rule_in : CodeConstantRule → ConstantRule
constant_rule_in NoConstant = TakesNone
constant_rule_in OneConstant = TakesOne
constant_rule_in FirstConstant = TakesFirst

abbrev pub form_in : Form → FormRow
form_in form = row (operand_rule_in form.operands) (result_rule_in form.result) (constant_rule_in form.constants)

-- operands that have kinds, which a form's rule does not accept
abbrev pub unary_refused : FormRow → Option Kind → Bool
unary_refused form None = false
unary_refused form (Some first) = not (accepts form.operands first None)

abbrev pub binary_refused : FormRow → Option Kind → Option Kind → Bool
binary_refused form None second = false
binary_refused form (Some first) None = false
binary_refused form (Some first) (Some second) = not (accepts form.operands first (Some second))
