-- Every definition behind the answers on one line: a trial computes them all by `unfolding opened`. Assumes nothing.
use Rattle.std.specs.Prelude.{List, ℕ, Ok}
use Rattle.answers.specs.Answers.{Outcome, ◌>>=◌}
use Rattle.integers.specs.declared.Pair.{Pair}
use Rattle.integers.specs.Rounding.{near, rnd}
use Rattle.integers.specs.Root.{root_by, root, digits_by, binary_digits}
use Rattle.integers.specs.Pairs.{◌+c◌, ◌-c◌, ◌·c◌, ◌·*◌, scaled, rnd_pair, abs, square, inside, within, close, same}
use Rattle.integers.specs.Lists.{csum, nsum, all, any, chosen, tab, count}
use Rattle.text.specs.Text.{bytes, more, natural, number, name, pack, word, begins, digits, decimal, letters, line, joined}
use Rattle.text.specs.Lines.{names, numbers, row, text, listed, row_text}
use Rattle.feeder.specs.Layout.{branch_row, load_row, rows, source_table, branch_table, load_table, layout}
use Rattle.feeder.specs.Feeder.{first_row, or_else, column_of, source_in, branch_in, load_in, out_of_limit, place_of, nodes_of, unknown_from, second_to, device_of, feeder_of, branch_at, phases_of, regulators, with_taps, above, not_reached, phase_absent, zeros, not_zero, reading}
use Rattle.equations.specs.Equations.{each, plus3, minus3, sum3, masked, mix, voltage_on, rated, weight, acts_as, current_at, load_current, z_of, drop_of, through_of, taken_of, far_voltage, near_current, downward, voltages, loads_at, upward, currents, power, loss_of, source_power, drawn_power, lost_power, beyond, beyond3, zero_voltage, load_beyond, current_beyond, voltage_beyond}
use Rattle.equations.specs.Taps.{relay_voltage, wants_up, wants_down, stepped, moved_tap, moved_taps, moved_on, moved, rests_at, at_rest}
use Rattle.report.specs.Report.{name_text, node_line, branch_line, totals_line, nodes_text, branches_text, totals_text, tap_line, taps_text, report_text, reported_text, rows_just, table_of, totals_row, tap_table, tap_row, unfiled_taps, tap_rows, taps_given, taps_fit, report_of, reported_taps, with_reported, reported_voltages, reported_currents, reported_losses}
use Rattle.iteration.specs.Ladder.{settled, sweep, solution}
use Rattle.rounds.specs.Rounds.{rounds, regulated}
use Rattle.ladder.specs.Study.{report, fitted, study_of, buffer_of}
use Rattle.compare.specs.Differences.{name_differs, source_differs, current_differs, total_differs, stays_at, tap_differs}
use Rattle.verdicts.specs.Check.{off, below_off, voltage_off, compared, checked}
use Rattle.account.specs.Account.{rating_of, rating, exact_loss, accounted, load_allowance, over, branch_allowance, allowance, difference}
use Rattle.answer_text.specs.AnswerText.{refused_line, whole_or_nothing}
use Rattle.study_answer.specs.StudyAnswer.{study_text}
use Rattle.check_answer.specs.CheckAnswer.{check_text}

-- says nothing by itself
unfoldable pub opened : Unit {0}
unfolding near rnd root_by root digits_by binary_digits ◌+c◌ ◌-c◌ ◌·c◌ ◌·*◌ scaled rnd_pair abs square inside within close same csum nsum all any chosen tab count bytes more natural number name pack word begins digits decimal letters line joined names numbers row text listed row_text branch_row load_row rows source_table branch_table load_table layout first_row or_else column_of source_in branch_in load_in out_of_limit place_of nodes_of unknown_from second_to device_of feeder_of branch_at phases_of regulators with_taps above not_reached phase_absent zeros not_zero reading each plus3 minus3 sum3 masked mix voltage_on rated weight acts_as current_at load_current z_of drop_of through_of taken_of far_voltage near_current downward voltages loads_at upward currents power loss_of source_power drawn_power lost_power beyond beyond3 zero_voltage load_beyond current_beyond voltage_beyond relay_voltage wants_up wants_down stepped moved_tap moved_taps moved_on moved rests_at at_rest name_text node_line branch_line totals_line nodes_text branches_text totals_text tap_line taps_text report_text reported_text rows_just table_of totals_row tap_table tap_row unfiled_taps tap_rows taps_given taps_fit report_of reported_taps with_reported reported_voltages reported_currents reported_losses settled sweep solution rounds regulated report fitted study_of buffer_of name_differs source_differs current_differs total_differs stays_at tap_differs off below_off voltage_off compared checked rating_of rating exact_loss accounted load_allowance over branch_allowance allowance difference refused_line whole_or_nothing study_text check_text
opened = tt

-- the power account's numbers for a feeder's and a report's text, with the taps that the report has
pub record Numbers : Type 0 where
  pub differs : Pair
  pub allowed : ℕ

abbrev pub account_of : List ℕ → List ℕ → Outcome Numbers
account_of s t = do
  f ← reading s
  r ← report_of f t
  Ok (record { differs = difference (with_reported f r) r; allowed = allowance (with_reported f r) r })
