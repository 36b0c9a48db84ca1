-- E1 to E11, sums and choices: the definitions give the lines of LANGUAGE 8.4, 8.8 and 8.9.
use mathlib.Core.Path.{refl}
use Rattle.syntax.specs.Result
use Rattle.syntax.specs.Limits
use Rattle.syntax.specs.Kinds
use Rattle.syntax.specs.Layout
use Rattle.syntax.specs.Reader
use Rattle.syntax.specs.Measures
use Rattle.syntax.specs.Answers as Reading
use Rattle.statics.specs.Links
use Rattle.statics.specs.Places
use Rattle.statics.specs.Environment
use Rattle.statics.specs.Follow
use Rattle.statics.specs.Uses
use Rattle.statics.specs.Bars
use Rattle.statics.specs.Choice
use Rattle.statics.specs.Rules
use Rattle.statics.specs.Judge
use Rattle.dynamics.specs.Store
use Rattle.dynamics.specs.Locate
use Rattle.dynamics.specs.Drop
use Rattle.dynamics.specs.Signed
use Rattle.dynamics.specs.Run
use Rattle.dynamics.specs.Answers
use Rattle.dynamics.specs.Readings
use Rattle.safety.specs.Examples
use Rattle.room.specs.Running
use Rattle.room.specs.Calling
use Rattle.program.specs.Line
use Rattle.program.specs.ExampleLines
use Rattle.program.specs.ExampleLines.{LinesHold}

pub lines_hold : LinesHold
unfolding
    ExampleLines.line_in ExampleLines.printed ExampleLines.some_readings ExampleLines.bytes_in ExampleLines.on ExampleLines.examples
    Line.digits_by Line.decimal Line.signed Line.line_of Line.short_line Line.readings_of Line.in_front Line.reported Line.report_call Line.report_of
    Calling.call_fits Calling.with_terms Calling.read_called Calling.fit_called Calling.call_of Calling.reading_at
    Running.checked_first Running.ended_into Running.checked_into Running.run_of
    Result.◌>>=◌ Result.need
    Limits.base Limits.in_ranges Limits.max_bytes Limits.row_numbers Limits.store_numbers
    Kinds.newest Kinds.knows Kinds.byte_of Kinds.kinds Kinds.among Kinds.kind_of Kinds.fields
    Layout.bytes_of Layout.lay Layout.head Layout.word_of Layout.unused Layout.zeros Layout.others Layout.rows_of
    Reader.◌>>=◌ Reader.done Reader.place_in Reader.expect Reader.first Reader.peek Reader.skip Reader.next Reader.ranged Reader.field Reader.operands Reader.rest_of_row Reader.is Reader.boxes_of Reader.ended Reader.known Reader.kind Reader.opening Reader.counted Reader.several Reader.branch Reader.built Reader.term Reader.nothing_left Reader.over Reader.script Reader.mark Reader.version Reader.leading Reader.whole_script Reader.answer Reader.parse Reader.decode_in Reader.decode Reader.zero_fields
    Measures.size
    Reading.lengths_fit Reading.parsed_into Reading.on_fit Reading.read_of
    Links.leading_boxes Links.max_links Links.no_shared Links.last_shared_with Links.last_shared Links.is_number Links.copies Links.same_link Links.same_links
    Places.same_place Places.before Places.member Places.insert Places.unite Places.every Places.some_of Places.only Places.rooted
    Environment.borrow_end Environment.update Environment.write Environment.is_free Environment.level_of Environment.borrow_of Environment.borrows_at Environment.lives_at Environment.leave_slot Environment.leave Environment.holding
    Follow.past Follow.onward Follow.on_met Follow.meet_all Follow.follow Follow.own_link Follow.own_path Follow.whole_slot Follow.whole_there Follow.value_whole
    Uses.finishing Uses.names Uses.named_later
    Bars.borrows_any Bars.borrows_exclusive Bars.held_by Bars.held Bars.reachable Bars.in_use
    Choice.carried Choice.earlier Choice.joined Choice.agreeing
    Rules.in_scope Rules.reached Rules.valued Rules.judge_place Rules.judge_readable Rules.judge_copy Rules.judge_move Rules.recorded_places Rules.judge_shared Rules.judge_exclusive Rules.judge_box Rules.judge_let Rules.judge_write Rules.judge_assign Rules.judge_number Rules.judge_below Rules.judge_block_end Rules.judge_choice
    Judge.judge Judge.judge_script
    Store.same_location Store.put Store.is_open
    Locate.followed Locate.locate_from Locate.locate Locate.filled Locate.number_in
    Drop.give_back Drop.drop_step Drop.is_given_back Drop.cells_given_back Drop.cells_left Drop.drop_along Drop.drop_value Drop.close_all
    Signed.less Signed.compared Signed.held Signed.held_sum
    Run.run_copy Run.run_move Run.run_borrow Run.run_number Run.run_pair Run.run_box Run.run_let Run.run_assign Run.run_block_end Run.run Run.run_script
    Answers.run_fits Answers.runnable Readings.bits_of
    Examples.boxed Examples.e1_bytes Examples.e2 Examples.e2_used_again Examples.e3 Examples.e4 Examples.e5 Examples.e6 Examples.e7 Examples.e9 Examples.nine Examples.eight Examples.e11 Examples.sums Examples.lent Examples.away
lines_hold = refl
