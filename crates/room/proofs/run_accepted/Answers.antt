-- `room::run_accepted` meets its contract. Assumes nothing.
use Rattle.ownership.proofs.CheckLaws.{under_words}
use Rattle.room.proofs.RunLaws.{run_ready}
use Rattle.room.proofs.AcceptedSafe.{never_stopped, run_accepted}
use Rattle.room.proofs.run_accepted.Goals as goal

pub run_judged-requires : goal.run_judged-requires
run_judged-requires c = run_ready _ _ _ _ c.requires.eight c.requires.size _ c.requires.accepted

pub unreachable-requires : goal.unreachable-requires
unreachable-requires c = never_stopped _ _ _ _ (under_words c.args.rows.now c.type_inv.rows) c.requires _ _ c.in_default.ensures

pub returns : goal.returns
returns c = run_accepted _ _ _ _ (under_words c.args.rows.now c.type_inv.rows) c.requires _ _ c.in-Ok.ensures
