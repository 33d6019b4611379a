-- The sites of a list, one more at a time.
use Rattle.std.proofs.Common.{◌≡◌, ◌∙◌, ℕ, ◌+◌, ◌<◌, List, [], ◌∷◌, ◌++◌, true, false, length, get_or, take, sym}
use Rattle.std.{proofs.Common.{ap, subst}, specs.{Prelude.{drop, slice_index_or}, List.{AllZip}}}
use Rattle.std.proofs.lemmas.List.{take_more}
use Rattle.lane_stamps.specs.{declared.site.Site.{Site}, Sites.{ranked_as, unranked}}
use Rattle.row_list.specs.declared.row_op.RowOp.{RowOp, TheVariants.{All}}
use Rattle.row_list.specs.Places.{is_access}
use Rattle.row_facts.{specs.{SiteKinds.{AreListed, IsKindOf}}, proofs.SiteLaws.{sites_more, sites_same}}

zip_more : (ops : List RowOp) (sites : List Site) (op : RowOp) (site : Site) → AllZip IsKindOf ops sites → IsKindOf op site
    → AllZip IsKindOf (ops ++ op ∷ []) (sites ++ site ∷ [])
zip_more [] [] op site zip one = (one, tt)
zip_more [] (s ∷ sites) op site zip one = absurd zip
zip_more (o ∷ ops) [] op site zip one = absurd zip
zip_more (o ∷ ops) (s ∷ sites) op site zip one = (zip.0, zip_more ops sites op site zip.1 one)

-- an operation that is none has no site
pub listed_same : (list : List RowOp) (ops : List RowOp) (sites : List Site) (op : RowOp) → is_access op ≡ false
    → AreListed list ops sites → AreListed (list ++ op ∷ []) ops sites
listed_same list ops sites op is are = record { all = are.all ∙ sites_same list op is; kinds = are.kinds }

-- an access has one
pub listed_more : (list : List RowOp) (ops : List RowOp) (sites : List Site) (op : RowOp) (site : Site) → is_access op ≡ true
    → IsKindOf op site → AreListed list ops sites → AreListed (list ++ op ∷ []) (ops ++ op ∷ []) (sites ++ site ∷ [])
listed_more list ops sites op site is kind are = record {
  all = ap (λ (xs : List RowOp). xs ++ op ∷ []) are.all ∙ sites_more list op is;
  kinds = zip_more ops sites op site are.kinds kind;
}

-- of all operations up to one, and of those up to the next
pub listed_next : (list ops new_ops : List RowOp) (sites new_sites : List Site) (k : ℕ) → k < length list
    → ((before : List RowOp) → AreListed before ops sites → AreListed (before ++ get_or list k All ∷ []) new_ops new_sites)
    → AreListed (take k list) ops sites → AreListed (take (k + 1) list) new_ops new_sites
listed_next list ops new_ops sites new_sites k less more are =
    subst (λ (l : List RowOp). AreListed l new_ops new_sites) (sym (take_more list k All less)) (more (take k list) are)

head_same : (n o : Site) (new old : List Site) → unranked (n ∷ new) ≡ unranked (o ∷ old) → ranked_as 0 n ≡ ranked_as 0 o
head_same n o new old same = ap (λ (l : List Site). slice_index_or l 0 (ranked_as 0 o)) same

tail_same : (n o : Site) (new old : List Site) → unranked (n ∷ new) ≡ unranked (o ∷ old) → unranked new ≡ unranked old
tail_same n o new old same = ap (λ (l : List Site). drop 1 l) same

-- ranks don't matter
kinds_ranked : (ops : List RowOp) (old new : List Site) → unranked new ≡ unranked old → AllZip IsKindOf ops old
    → AllZip IsKindOf ops new
kinds_ranked [] [] [] same zip = tt
kinds_ranked [] [] (n ∷ new) same zip = absurd (cc same)
kinds_ranked [] (o ∷ old) new same zip = absurd zip
kinds_ranked (op ∷ ops) [] new same zip = absurd zip
kinds_ranked (op ∷ ops) (o ∷ old) [] same zip = absurd (cc same)
kinds_ranked (op ∷ ops) (o ∷ old) (n ∷ new) same zip = (
  record { has = zip.0.has; kind = ap (λ (s : Site). s.kind) (head_same n o new old same) ∙ zip.0.kind },
  kinds_ranked ops old new (tail_same n o new old same) zip.1,
)

pub listed_ranked : (list ops : List RowOp) (old new : List Site) → unranked new ≡ unranked old → AreListed list ops old
    → AreListed list ops new
listed_ranked list ops old new same are = record { all = are.all; kinds = kinds_ranked ops old new same are.kinds }
