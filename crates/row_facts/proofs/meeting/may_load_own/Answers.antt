use Rattle.std.proofs.{Common.{◌≡◌, ℕ, length, refl, subst, arith}, lemmas.Option.{slice_get_read}}
use Rattle.row_facts.{specs.Meetings.{AreDone, LoadsNoOwn}, proofs.MeetingLaws.{done_more, all_done}}
use Rattle.row_facts.proofs.meeting.may_load_own.Goals as goal

pub loop-second-preserved : goal.loop-second-preserved
loop-second-preserved c =
    let sites = c.args.sites.now in
    let i = c.args.first in
    let k = c.loop-second.second in
    done_more c.args.list.now sites i k c.index-sites-first.result c.index-sites-second.result
    (LoadsNoOwn c.args.list.now i)
    (slice_get_read sites (length sites) i c.index-sites-first.result refl c.if-first-sites.false c.index-sites-first.is)
    (slice_get_read sites (length sites) k c.index-sites-second.result refl c.loop-second-test.true c.index-sites-second.is)
    (c.own_may_meet.ensures c.if-own_may_meet.false) c.loop-second.invariant

pub returns : goal.returns
returns c is facts are_facts are_sites =
    let sites = c.args.sites.now in
    let all : c.loop-second.second ≡ length sites = omega (arith, c.loop-second-test.false, c.loop-second.auto) in
    record {
      each = all_done c.args.list.now sites facts (LoadsNoOwn c.args.list.now) are_facts are_sites c.args.first (λ within.
          subst (λ (n : ℕ). AreDone c.args.list.now sites c.args.first n (LoadsNoOwn c.args.list.now c.args.first)) all
          c.loop-second.invariant);
    }
