use Rattle.std.proofs.{Common.{◌≡◌, List, [], ◌∷◌, ◌++◌, length, refl, inl, inr}, lemmas.Option.{slice_get_read}}
use Rattle.std.{specs.Prelude.{slice_get, Some}, proofs.lemmas.List.Elements.{Contains-push}}
use Rattle.row_facts.specs.{declared.meeting.Meeting.{Meeting}, Meetings.{IsListedOrNever}}
use Rattle.row_facts.proofs.MeetingLaws.{more-kept, push-kept, done_kept, done_more}
use Rattle.row_facts.proofs.meeting.add_meetings.Goals.{then-may_meet+in_ok-push, else-may_meet}
use Rattle.row_facts.proofs.meeting.add_meetings.Goals as goal

pub loop-second-preserved : goal.loop-second-preserved
loop-second-preserved c =
    let sites = c.args.sites.now in
    let at = c.index-sites-first.result in
    let by = c.index-sites-second.result in
    let k = c.loop-second.second in
    let old = c.args.meetings.now.items in
    let new = c.loop-second.meetings.items in
    let inv = c.loop-second.invariant in
    let is_at : slice_get sites c.args.first ≡ Some at =
    slice_get_read sites (length sites) c.args.first at refl c.requires c.index-sites-first.is in
    let is_by : slice_get sites k ≡ Some by =
    slice_get_read sites (length sites) k by refl c.loop-second-test.true c.index-sites-second.is in
    let pair : Meeting = record { first = c.args.first; second = k } in
    let never = λ (all : List Meeting). IsListedOrNever c.args.list.now all c.args.first in
    elim c.if-may_meet.branch [
      | then-may_meet+in_ok-push w ↦ rw (w.meetings-is, w.in_ok-push.ensures.items) (
        more-kept old new pair inv.0,
        done_more c.args.list.now sites c.args.first k at by (never (new ++ pair ∷ [])) is_at is_by
            (λ facts are one two. inl (Contains-push new pair))
            (done_kept c.args.list.now sites c.args.first k new (new ++ pair ∷ []) (push-kept new pair) inv.1),
      )
      | else-may_meet w ↦ rw w.meetings-is (
        inv.0,
        done_more c.args.list.now sites c.args.first k at by (never new) is_at is_by
            (λ facts are one two. inr (c.may_meet.ensures w.if-may_meet.false facts are one two)) inv.1,
      )
    ]
