-- `joining::joiner::opened` meets its contract: each return knows the role of the code point.
use Rattle.joining.proofs.Joins.{opens_as_lem}
use mathlib.Core.Path.{sym, ◌∙◌}
use Rattle.joining.proofs.joiner.opened.Goals as goal

pub returns-in-Initial : goal.returns-in-Initial
returns-in-Initial c = sym (opens_as_lem _ (sym c.role_of-role.ensures ∙ c.in-Initial.is))

pub returns-in-Peak : goal.returns-in-Peak
returns-in-Peak c = sym (opens_as_lem _ (sym c.role_of-role.ensures ∙ c.in-Peak.is))

pub returns-in-Final : goal.returns-in-Final
returns-in-Final c = sym (opens_as_lem _ (sym c.role_of-role.ensures ∙ c.in-Final.is))

pub returns-in-Lv : goal.returns-in-Lv
returns-in-Lv c = sym (opens_as_lem _ (sym c.role_of-role.ensures ∙ c.in-Lv.is))

pub returns-in-None : goal.returns-in-None
returns-in-None c = sym (opens_as_lem _ (sym c.role_of-role.ensures ∙ c.in-None.is))
