use Rattle.std.proofs.Common.{ℕ, List, length, sym, subst, arith, below_more}
use Rattle.row_facts.specs.{declared.{fact.Fact.{Fact}, site.Site.{Site}}, Sites.{AreSites}, Meetings.{AreDone, IsListedOrNever}}
use Rattle.row_facts.proofs.MeetingLaws.{done_kept, all_done}
use Rattle.row_facts.proofs.meeting.meetings.Goals as goal

pub loop-first-preserved : goal.loop-first-preserved
loop-first-preserved c =
    let ops = c.args.ops.now in
    let sites = c.as_slice-sites.result.now in
    let new = c.add_meetings.new.meetings.items in
    below_more (λ (k : ℕ). AreDone ops sites k (length sites) (IsListedOrNever ops new k)) c.loop-first.first
    (λ k less. done_kept ops sites k (length sites) c.loop-first.meetings.items new c.in_ok-add_meetings.ensures.kept
    (c.loop-first.invariant k less)) c.in_ok-add_meetings.ensures.done

pub returns : goal.returns
returns c =
    let ops = c.args.ops.now in
    let facts = c.in_ok-facts.facts.items in
    let sites = c.as_slice-sites.result.now in
    let P : List Fact → Type 0 = λ xs. AreSites ops xs ops c.in_ok-listed.listed.items in
    let Q : List Site → Type 0 = λ xs. AreSites ops facts ops xs in
    record {
      others = λ first. all_done ops sites facts (IsListedOrNever ops c.loop-first.meetings.items) c.in_ok-facts.ensures
          (subst Q (sym c.as_slice-sites.ensures.value) (subst P c.deref.ensures.value c.in_ok-listed.ensures)) first
          (λ few. c.loop-first.invariant first (omega (arith, c.loop-first-test.false, few)));
    }
