use Rattle.std.proofs.Common.{◌≤◌, length, arith}
use Rattle.loop_core_undo.proofs.{RestoreLaws.{all_back}, ExchangeLaws.{all_exchanged}}
use Rattle.loop_core_undo.proofs.undo_log.UndoLog.exchange.Goals as goal

pub returns-clause-maps : goal.returns-clause-maps
returns-clause-maps c =
    let end = c.loop-page-test.false in
    let len = c.len-page-end.ensures in
    let all : length c.args.self.now.saved.items ≤ c.loop-page.page = omega (arith, end, len) in
    all_back c.args.self.now c.args.maps.now c.loop-page.maps c.loop-page.page c.loop-page.invariant.back
    c.requires.count all

pub returns-clause-back : goal.returns-clause-back
returns-clause-back c =
    let end = c.loop-page-test.false in
    let len = c.len-page-end.ensures in
    let all : length c.args.self.now.saved.items ≤ c.loop-page.page = omega (arith, end, len) in
    all_exchanged c.args.self.now c.loop-page.self c.args.maps.now c.loop-page.maps c.loop-page.page
    c.loop-page.invariant c.requires.count all
