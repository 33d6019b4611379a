use Rattle.loop_core_model.proofs.ScanLaws.{counted_are_scanned}
use Rattle.loop_core_model.proofs.law_of_scan.Goals as goal

pub returns : goal.returns
returns c = counted_are_scanned
