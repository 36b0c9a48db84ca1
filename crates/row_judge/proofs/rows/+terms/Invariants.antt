use Prim.Native.Nat.{◌≤◌, ◌+◌, ◌*◌, ◌-◌}
use mathlib.Core.Path.{◌≡◌}
use mathlib.Core.Bool.{false}
use Rattle.syntax.specs.RowParts.{RowsReady, term_rows, span_of}
use Rattle.row_judge.proofs.RowSpans.{rest_span}
use Rattle.row_judge.proofs.rows.+terms.Given as goal

abbrev pub invariant-judge_block-loop-term : goal.invariant-judge_block-loop-term
invariant-judge_block-loop-term l = record {
  ready : RowsReady l.limits l.rows l.progress.next l.progress.boxes;
  rest : rest_span l.limits l.version l.levels false l.rows (l.count - l._term) l.progress.next l.progress.boxes ≡ rest_span l.limits l.version l.levels false l.rows l.count l.fn.progress.next l.fn.progress.boxes;
}

abbrev pub invariant-judge_term-loop-kind : goal.invariant-judge_term-loop-kind
invariant-judge_term-loop-kind l = record {
  ready : RowsReady l.limits l.rows l.progress.next l.progress.boxes;
  deep : l.left ≤ l.levels;
  same : span_of (term_rows l.limits l.version l.left false l.rows l.progress.next l.progress.boxes) ≡ span_of (term_rows l.limits l.version l.levels false l.rows l.fn.progress.next l.fn.progress.boxes);
}

abbrev pub decreases-judge_term-loop-kind : goal.decreases-judge_term-loop-kind
decreases-judge_term-loop-kind l = l.left

abbrev pub decreases-judge_block : goal.decreases-judge_block
decreases-judge_block l = l.levels * 4 + 1

abbrev pub decreases-judge_branches : goal.decreases-judge_branches
decreases-judge_branches l = l.levels * 4 + 3

abbrev pub decreases-judge_due_block : goal.decreases-judge_due_block
decreases-judge_due_block l = l.levels * 4 + 2

abbrev pub decreases-judge_term : goal.decreases-judge_term
decreases-judge_term l = l.levels * 4
