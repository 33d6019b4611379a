-- Each row is computed.
use Rattle.std.{proofs.Common.{refl}, specs.Int.Count.{count_trailing_zeros}}
use Rattle.value_range.specs.Spans.{rounded_up, rounded_down, norm}
use Rattle.value_range.specs.RefineRows.{equal, without, different, greater, not_less, refined}
use Rattle.bpf_verify_model.specs.{Written.{none_written}, States.{joined_states, known_main_entry}}
use Rattle.bpf_verify_model.specs.{Rules.{state_fault}, Flow.{known_behind, flow}}
use Rattle.bpf_verify_model.specs.RuleRows.{JoinRows, StoreRows, EdgeRows, NullRows, EndRows, BoundRows}
use Rattle.bpf_verify_model.proofs.laws.worked_rules.Goals as goal

joins : JoinRows
unfolding joined_states known_main_entry none_written norm rounded_up rounded_down count_trailing_zeros
joins = record { both = refl; first_alone = refl; second_alone = refl; null_on_one = refl }

stores : StoreRows
unfolding known_behind known_main_entry none_written
stores = record { marked = refl; below = refl; above = refl }

ways : EdgeRows
unfolding flow known_main_entry refined greater not_less equal different without norm rounded_up rounded_down
    count_trailing_zeros
ways = record { greater = refl; never_greater = refl; equal = refl }

null_checks : NullRows
unfolding flow known_main_entry
null_checks = record { equal = refl; unequal = refl }

ends : EndRows
unfolding known_main_entry norm rounded_up rounded_down
ends = record { bit = refl; two = refl; main = refl }

bounds : BoundRows
unfolding state_fault known_main_entry
bounds = record { last_of_frame = refl; past_frame = refl; last_of_map = refl; past_map = refl }

pub returns : goal.returns
returns c = record {
  joins = joins;
  stores = stores;
  ways = ways;
  null_checks = null_checks;
  ends = ends;
  bounds = bounds;
}
