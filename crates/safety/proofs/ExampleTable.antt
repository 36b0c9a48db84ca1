-- E1 to E11 (LANGUAGE 8.4), and scripts with a choice: the rules give the outcomes that the table lists.
use Prim.Native.Nat.{ℕ}
use mathlib.Core.Path.{◌≡◌, refl}
use mathlib.Core.List.{List}
use Rattle.syntax.specs.Result
use Rattle.syntax.specs.Limits
use Rattle.syntax.specs.Kinds
use Rattle.syntax.specs.Layout.{bytes_of}
use Rattle.syntax.specs.Layout
use Rattle.syntax.specs.Measures
use Rattle.statics.specs.Links
use Rattle.statics.specs.Places
use Rattle.statics.specs.Environment
use Rattle.statics.specs.Follow
use Rattle.statics.specs.Uses
use Rattle.statics.specs.Bars
use Rattle.statics.specs.Choice
use Rattle.statics.specs.Rules
use Rattle.statics.specs.Judge
use Rattle.dynamics.specs.Store
use Rattle.dynamics.specs.Locate
use Rattle.dynamics.specs.Drop
use Rattle.dynamics.specs.Signed
use Rattle.dynamics.specs.Run
use Rattle.safety.specs.Examples.{e1, e1_bytes, Line, lines, table}
use Rattle.safety.specs.Examples

pub examples : ◌≡◌ {A = List ℕ × List Line} (bytes_of (record { version = 1; term = e1 }), lines) (e1_bytes, table)
unfolding
    lines table Examples.e1_bytes Examples.checked Examples.unchecked Examples.at_zero Examples.verdict Examples.ran_to Examples.readings Examples.boxed Examples.e1 Examples.e2 Examples.e2_used_again Examples.e3 Examples.e4 Examples.e5 Examples.e6 Examples.e7 Examples.e9 Examples.nine Examples.eight Examples.e11 Examples.lent Examples.written Examples.away Examples.unlike
    Result.◌>>=◌ Result.need
    Limits.base
    Kinds.byte_of
    Layout.bytes_of Layout.lay Layout.head Layout.word_of Layout.unused Layout.zeros Layout.others
    Measures.size
    Links.leading_boxes Links.max_links Links.no_shared Links.last_shared_with Links.last_shared Links.is_number Links.copies Links.same_link Links.same_links
    Places.same_place Places.before Places.member Places.insert Places.unite Places.every Places.some_of Places.only Places.rooted
    Environment.borrow_end Environment.update Environment.write Environment.is_free Environment.level_of Environment.borrow_of Environment.borrows_at Environment.lives_at Environment.leave_slot Environment.leave Environment.holding
    Follow.past Follow.onward Follow.on_met Follow.meet_all Follow.follow Follow.own_link Follow.own_path Follow.whole_slot Follow.whole_there Follow.value_whole
    Uses.finishing Uses.names Uses.named_later
    Bars.borrows_any Bars.borrows_exclusive Bars.held_by Bars.held Bars.reachable Bars.in_use
    Choice.carried Choice.earlier Choice.joined Choice.agreeing
    Rules.in_scope Rules.reached Rules.valued Rules.judge_place Rules.judge_readable Rules.judge_copy Rules.judge_move Rules.recorded_places Rules.judge_shared Rules.judge_exclusive Rules.judge_box Rules.judge_let Rules.judge_write Rules.judge_assign Rules.judge_number Rules.judge_below Rules.judge_block_end Rules.judge_choice
    Judge.judge Judge.judge_script
    Store.same_location Store.put Store.is_open
    Locate.followed Locate.locate_from Locate.locate Locate.filled Locate.number_in
    Drop.give_back Drop.drop_step Drop.is_given_back Drop.cells_given_back Drop.cells_left Drop.drop_along Drop.drop_value Drop.close_all
    Signed.held Signed.less Signed.compared Signed.held_sum
    Run.run_copy Run.run_move Run.run_borrow Run.run_number Run.run_pair Run.run_box Run.run_let Run.run_assign Run.run_block_end Run.run Run.run_script
examples = refl
