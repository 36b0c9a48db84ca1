-- `variables::table::load` meets its contract. Assumes nothing.
use native.Mathlib.Omega.{arith}
use mathlib.Core.Path.{refl, sym, ap, ◌∙◌}
use Rattle.variables.specs.Table.{status_number, state_at}
use Rattle.variables.proofs.TableLaws.{entry_free, entry_used, entry_live, past_status}
use Rattle.variables.proofs.table.load.Goals as goal

pub returns-then-variables-x : goal.returns-then-variables-x
returns-then-variables-x c = sym (entry_free _ _ (past_status _ _ c.requires _ c.if-variables-x.true))

pub returns-in-Free : goal.returns-in-Free
returns-in-Free c = sym (entry_free _ _ (ap status_number c.in-Free.is))

pub returns-in-Used : goal.returns-in-Used
returns-in-Used c = sym (entry_used _ _ (ap status_number c.in-Used.is))

pub returns-in-Live : goal.returns-in-Live
unfolding state_at
returns-in-Live c = rw (entry_live c.args.env.now c.args.x (rw (ap status_number c.in-Live.is) (omega arith)), c.borrow_end_of.ensures) refl
