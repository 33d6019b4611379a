-- The accesses of lists, and the bytes that lanes name at their sites.
use Rattle.std.proofs.Common.{◌≡◌, ℕ, zero, suc, ◌/◌, ◌^◌, ◌≤◌, true, List, [], ◌∷◌, length, take, sym, ap, subst, ◌∙◌}
use Rattle.std.specs.{Prelude.{slice_get, Some}, List.{AllZip}}
use Rattle.lane_stamps.specs.declared.site.Site.{Site as Ranked}
use Rattle.row_list.specs.{declared.row_op.{Place.{Place}, RowOp.{RowOp}}, Rows.{AreValuesOn, byte_at, is_in}}
use Rattle.row_facts.specs.declared.{fact.Fact.{Fact}, site.Site.{Site}}
use Rattle.row_facts.specs.{Facts.{AreFacts, IsSure}, Sites.{IsSite, sites_of}}
use Rattle.row_facts.specs.SiteKinds.{AreListed, HasSite, IsKindOf}
use Rattle.row_facts.{specs.Elements.{Touches}, proofs.SiteLaws.{some-same}}
use Rattle.loop_inspector.proofs.{ActLaws.{KindIfAccess}, CutLaws.{site-at}}

-- all accesses of a list whose sites are listed are of kinds that batches have
have_sites : (accesses : List RowOp) (sites : List Ranked) → AllZip IsKindOf accesses sites → (k : ℕ) (op : RowOp)
    → slice_get accesses k ≡ Some op → HasSite op
have_sites [] sites zip k op there = absurd (cc)
have_sites (first ∷ accesses) [] zip k op there = absurd zip
have_sites (first ∷ accesses) (site ∷ sites) zip zero op there = subst HasSite (some-same first op there) zip.0.has
have_sites (first ∷ accesses) (site ∷ sites) zip (suc k) op there = have_sites accesses sites zip.1 k op there

pub each_access : (list accesses : List RowOp) (sites : List Ranked) → AreListed list accesses sites → (k : ℕ)
    (op : RowOp) → slice_get list k ≡ Some op → KindIfAccess op
each_access list accesses sites listed k op there is =
    let n = length (sites_of (take k list)) in
    have_sites accesses sites listed.kinds n op
    (ap (λ (ops : List RowOp). slice_get ops n) listed.all ∙ site-at list k op there is)

-- the values of a lane of an index
pub record Lane (list : List RowOp) (index : ℕ) : Type 0 where
  pub caller : List ℕ
  pub words : ℕ → List ℕ
  pub values : List ℕ
  pub are : AreValuesOn list index caller words values

-- the byte that a lane names at a site where it touches an element
pub record IsNamed (site : Site) (index e : ℕ) : Type 0 where
  pub byte : ℕ
  pub sure : IsSure site.byte index byte
  pub inside : byte / 8 ≡ e

pub named : (list : List RowOp) (facts : List Fact) (site : Site) (index e : ℕ) → AreFacts list facts
    → IsSite list facts site → index ≤ 2 ^ 23 → (lane : Lane list index) → Touches site.op lane.values e
    → IsNamed site index e
named list facts site index e are is few lane touch =
    let same : touch.place ≡ site.place = some-same touch.place site.place (sym touch.is ∙ is.there) in
    record {
      byte = byte_at lane.values site.place;
      sure = is.byte index lane.caller lane.words lane.values lane.are
          (are.each index lane.caller lane.words lane.values few lane.are)
          (subst (λ (p : Place). is_in lane.values p.mask ≡ true) same touch.there);
      inside = subst (λ (p : Place). byte_at lane.values p / 8 ≡ e) same touch.at;
    }
