-- `script_reader::reader::judge_lead` meets its contract. Assumes nothing.
use Prim.Native.Nat.{◌+◌, ◌<◌, ◌≤◌}
use native.Mathlib.Omega.{arith}
use mathlib.Core.Path.{refl, sym, ap, ◌∙◌}
use lib.ListN.{length}
use borrow.Author.Tests.{lt-ltb, le-ltb}
use Rattle.std.proofs.lemmas.Result.{err_from_is_err_and}
use Rattle.syntax.specs.Kinds.{newest}
use Rattle.syntax.proofs.Lists.{under_bytes}
use Rattle.script_reader.specs.Lent.{lead_got}
use Rattle.script_reader.proofs.MarkLaws.{mark_stops, mark_stands, lead_after_mark, rest_length, rest_version}
use Rattle.script_reader.proofs.reader.judge_lead.Goals as goal

pub returns-in_err-judge_mark : goal.returns-in_err-judge_mark
unfolding lead_got
returns-in_err-judge_mark c =
    let p = err_from_is_err_and c.from_residual.result c.from_residual.ensures.1 in
    rw (p.1, p.2, lead_after_mark) (ap (lead_got _) (mark_stops _ _ _ _ _ _ c.in_err-judge_mark.ensures), under_bytes c.args.script.now c.type_inv.script)

pub slice_bounds-after_mark-count : goal.slice_bounds-after_mark-count
slice_bounds-after_mark-count c = (mark_stands _ _ _ _ _ c.requires.0 c.in_ok-judge_mark.ensures).1

pub slice_bounds-after_mark-start : goal.slice_bounds-after_mark-start
slice_bounds-after_mark-start c = (mark_stands _ _ _ _ _ c.requires.0 c.in_ok-judge_mark.ensures).1

pub returns-in_default : goal.returns-in_default
unfolding lead_got
returns-in_default c =
    let mark = mark_stands _ _ _ _ _ c.requires.0 c.in_ok-judge_mark.ensures in
    let short : length c.args.script.now < c.args.at + 5 = omega (arith, c.in_default.len_below, rest_length c.args.script.now (c.args.at + 3), mark.1) in
    rw (lead_after_mark, mark.0, lt-ltb _ _ short) (refl, under_bytes c.args.script.now c.type_inv.script)

pub returns-then-not-knows_version : goal.returns-then-not-knows_version
unfolding newest lead_got
returns-then-not-knows_version c =
    let mark = mark_stands _ _ _ _ _ c.requires.0 c.in_ok-judge_mark.ensures in
    let full : c.args.at + 5 ≤ length c.args.script.now = omega (arith, c.in-len2-up.len_at_least, rest_length c.args.script.now (c.args.at + 3), mark.1) in
    let version = c.from-version.ensures ∙ c.from_be_bytes.ensures ∙ rest_version c.args.script.now (c.args.at + 3) in
    rw (lead_after_mark, mark.0, le-ltb _ _ full, sym version, sym c.if-not-knows_version.ensures) (refl, under_bytes c.args.script.now c.type_inv.script)

pub returns : goal.returns
unfolding newest lead_got
returns c =
    let mark = mark_stands _ _ _ _ _ c.requires.0 c.in_ok-judge_mark.ensures in
    let full : c.args.at + 5 ≤ length c.args.script.now = omega (arith, c.in-len2-up.len_at_least, rest_length c.args.script.now (c.args.at + 3), mark.1) in
    let version = c.from-version.ensures ∙ c.from_be_bytes.ensures ∙ rest_version c.args.script.now (c.args.at + 3) in
    (rw (lead_after_mark, mark.0, le-ltb _ _ full, sym version, sym c.if-not-knows_version.ensures) refl, under_bytes c.args.script.now c.type_inv.script)
